-- One packet, whatever it is: what each kind says is what the rules say, of the table that has the submission's resources and whatever tokens it
-- has; or it is left, and nothing has changed. Assumes nothing.
use Rattle.std.specs.Prelude.{◌≡◌, Bool, true, false, ℕ, ◌≤◌, eqb, None, Ok, Option, Some}
use Rattle.std.proofs.Math.Path.{refl, sym, ap}
use Rattle.std.proofs.Common.{subst, ◌∙◌, arith, rules}
use mathlib.Core.List.{List}
use Rattle.machine.specs.Machine.{pick}
use Rattle.rules.specs.Numbers.{most}
use Rattle.rules.specs.Packets.{Holdings, Outcome, Passed, if-fine, passed, on_buffer_packet, on_texture_packet, on_destroy_packet, on_dirty_packet, on_copy_packet, on_target_packet, on_viewport_packet, on_scissor_packet, on_clear_packet, apply, target_after, tokens_after, pass}
use Rattle.rules.specs.declared.Entry.{Entry}
use Rattle.rules.specs.declared.CreateBuffer.{CreateBuffer}
use Rattle.rules.specs.declared.CreateTexture.{CreateTexture}
use Rattle.rules.specs.declared.DestroyResource.{DestroyResource}
use Rattle.rules.specs.declared.DirtyRange.{DirtyRange}
use Rattle.rules.specs.declared.CopyBuffer.{CopyBuffer}
use Rattle.rules.specs.declared.SetTarget.{SetTarget}
use Rattle.rules.specs.declared.SetViewport.{SetViewport}
use Rattle.rules.specs.declared.SetScissor.{SetScissor}
use Rattle.rules.specs.declared.ClearValues.{ClearValues}
use Rattle.rules.specs.declared.ExportSurface.{ExportSurface}
use Rattle.rules.specs.declared.ImportSurface.{ImportSurface}
use Rattle.rules.specs.declared.ReleaseToken.{ReleaseToken}
use Rattle.rules.specs.declared.Token.{Token}
use Rattle.rules.specs.declared.Packet.{Packet}
use Rattle.rules.specs.declared.Packet.TheVariants.{Buffer, Texture, Destroy, Dirty, Copy, Target, Viewport, Scissor, Clear, Export, Import, Release, NotANumber, Unknown}
use Rattle.rules.specs.declared.Refusal.TheVariants.{BadState}
use Rattle.kept_entries.specs.Views.{entries_of}
use Rattle.kept_resources.specs.Views.{resources_of, holdings_of}
use Rattle.packet_ranges.specs.Views.{Applies, RowsExist, refused_with, rebind-same}
use Rattle.packet_destroy.specs.Destroy.{DestroysUnshared}
use Rattle.packet_target.specs.Target.{Targets}
use Rattle.packet_state.specs.Values.{Views, Clears}
use Rattle.packet_ranges.specs.declared.applied.Applied.{Applied}
use Rattle.packet_held.specs.Held.{changed_of, holdings_held, held_of, packet_of}
use Rattle.packet_held.specs.declared.held.Held.{Held}
use Rattle.packet_held.specs.declared.held.Changed.{Changed}
use Rattle.packet_held.specs.declared.held.SharedPacket.{SharedPacket}
use Rattle.packet_held.specs.declared.held.SharedPacket.TheVariants.{Destroy as SharedDestroy, Export as SharedExport, Import as SharedImport, Release as SharedRelease}
use Rattle.packet_apply.specs.declared.apply.Taken.{Taken}
use Rattle.packet_apply.specs.declared.apply.Taken.TheVariants.{Plain, Unknown as NotKnown, Left}

-- no rule is broken, and this is held
abbrev pub unbroken : Held → Changed
unbroken k = record { verdict = Ok tt; held = k }

-- what a packet comes to and the rows it leaves are what the rules say, whatever the tokens are
pub record Changes (o : List Token → Passed) (r : List ℕ) (x : Changed) (h c : List ℕ) : Type 0 where
  pub verdict : (ts : List Token) → x.verdict ≡ (o ts).verdict
  pub held : (ts : List Token) → held_of x.held r h c ts ≡ (o ts).held
  pub live : x.held.live ≤ most
  pub made : x.held.made ≤ most

-- what is held is what was held, its rows are there, and this is the packet
pub record IsLeft (k : Held) (r h c : List ℕ) (p : Packet) (k' : Held) (s : SharedPacket) (h' c' : List ℕ) : Type 0 where
  pub same : (ts : List Token) → held_of k' r h' c' ts ≡ held_of k r h c ts
  pub packet : packet_of s ≡ p
  pub live : k'.live ≤ most
  pub made : k'.made ≤ most

-- a packet is done or left, by these entries, and the rows of what is held are there
pub record Takes (es : List Entry) (k : Held) (r h c : List ℕ) (p : Packet) (x : Taken) (h' c' : List ℕ) : Type 0 where
  pub plain : (y : Changed) → x ≡ Plain y → Changes (λ ts. pass es (held_of k r h c ts) p) r y h' c'
  pub unknown : (k' : Held) → x ≡ NotKnown k' → Changes (λ ts. pass es (held_of k r h c ts) p) r (unbroken k') h' c'
  pub left : (k' : Held) (s : SharedPacket) → x ≡ Left k' s → IsLeft k r h c p k' s h' c'

-- each way that a packet is taken, alone
module _ (es : List Entry) (k : Held) (r h c : List ℕ) (p : Packet) (h' c' : List ℕ) where
  takes-plain : (y : Changed) → Changes (λ ts. pass es (held_of k r h c ts) p) r y h' c' → Takes es k r h c p (Plain y) h' c'
  takes-plain y d =
      record {
        plain = λ z e. let same : y ≡ z = cc in rw same at d;
        unknown = λ z e. absurd (let z : ◌≡◌ {A = ℕ} 0 1 = cc in omega arith);
        left = λ z s e. absurd (let z : ◌≡◌ {A = ℕ} 0 1 = cc in omega arith);
      }

  takes-unknown : (y : Held) → Changes (λ ts. pass es (held_of k r h c ts) p) r (unbroken y) h' c' → Takes es k r h c p (NotKnown y) h' c'
  takes-unknown y d =
      record {
        plain = λ z e. absurd (let z : ◌≡◌ {A = ℕ} 0 1 = cc in omega arith);
        unknown = λ z e. let same : y ≡ z = cc in rw same at d;
        left = λ z s e. absurd (let z : ◌≡◌ {A = ℕ} 0 1 = cc in omega arith);
      }

  takes-left : (y : Held) (s : SharedPacket) → IsLeft k r h c p y s h' c' → Takes es k r h c p (Left y s) h' c'
  takes-left y s d =
      record {
        plain = λ z e. absurd (let z : ◌≡◌ {A = ℕ} 0 1 = cc in omega arith);
        unknown = λ z e. absurd (let z : ◌≡◌ {A = ℕ} 0 1 = cc in omega arith);
        left = λ z q e. let same : y ≡ z = cc in let last : s ≡ q = cc in rw (same, last) at d;
      }

-- of a destroy, whatever the entries are
pub record TakesDestroy (k : Held) (r h c : List ℕ) (b : DestroyResource) (x : Taken) (h' c' : List ℕ) : Type 0 where
  pub takes : (es : List Entry) → Takes es k r h c (Destroy b) x h' c'

-- of a packet that touches no token: what it comes to, with the target that there then is
pub record Leaves (o : Outcome) (t : ℕ) (r : List ℕ) (x : Changed) (h c : List ℕ) : Type 0 where
  pub verdict : x.verdict ≡ o.verdict
  pub held : holdings_held x.held r h c ≡ o.held
  pub target : x.held.target ≡ t
  pub live : x.held.live ≤ most
  pub made : x.held.made ≤ most

-- what was applied to a table leaves what it says
applied-leaves : (o : Outcome) (a : Applied) (copied : Bool) (t : ℕ) (r h l c : List ℕ) (x : Changed) → x ≡ changed_of a copied t → pick copied h r ≡ l → Applies o a l c → Leaves o t r x h c
applied-leaves o a copied t r h l c x is there p =
    rw is
    (record {
      verdict = ap (λ (w : Outcome). w.verdict) p.outcome;
      held = rw there (ap (λ (w : Outcome). w.held) p.outcome);
      target = refl;
      live = p.live;
      made = p.made;
    })

-- ---- make_buffer, make_texture: on the submission's own table

module _ (n : ℕ) (e r h h₁ c : List ℕ) (k : Held) (same : resources_of k.live h₁ ≡ resources_of k.live (pick k.copied h r)) (a : Applied) (x : Changed) (h' c' : List ℕ) where
  pub makes-buffer : (b : CreateBuffer) → x ≡ changed_of a true k.target
      → Applies (on_buffer_packet (entries_of n e) (holdings_of k.live h₁ k.made c) b) a h' c'
      → Leaves (on_buffer_packet (entries_of n e) (holdings_held k r h c) b) k.target r x h' c'
  makes-buffer b is p = rw (← same) (applied-leaves _ a true k.target r h' h' c' x is refl p)

  pub makes-texture : (b : CreateTexture) → x ≡ changed_of a true k.target
      → Applies (on_texture_packet (entries_of n e) (holdings_of k.live h₁ k.made c) b) a h' c'
      → Leaves (on_texture_packet (entries_of n e) (holdings_held k r h c) b) k.target r x h' c'
  makes-texture b is p = rw (← same) (applied-leaves _ a true k.target r h' h' c' x is refl p)

pub ruleset changing = (makes-buffer, makes-texture, rules)

-- ---- dirty, copy, aim, cut: on the table that has the resources

module _ (n : ℕ) (e r h l c : List ℕ) (k : Held) (here : l ≡ pick k.copied h r) (a : Applied) (x : Changed) where
  pub dirties : (b : DirtyRange) (c' : List ℕ) → x ≡ changed_of a k.copied k.target → Applies (on_dirty_packet (entries_of n e) (holdings_of k.live l k.made c) b) a l c'
      → Leaves (on_dirty_packet (entries_of n e) (holdings_held k r h c) b) k.target r x h c'
  dirties b c' is p = rw (← here) (applied-leaves _ a k.copied k.target r h l c' x is (sym here) p)

  pub copies : (b : CopyBuffer) (c' : List ℕ) → x ≡ changed_of a k.copied k.target → Applies (on_copy_packet (entries_of n e) (holdings_of k.live l k.made c) b) a l c'
      → Leaves (on_copy_packet (entries_of n e) (holdings_held k r h c) b) k.target r x h c'
  copies b c' is p = rw (← here) (applied-leaves _ a k.copied k.target r h l c' x is (sym here) p)

  pub cuts : (b : SetScissor) (c' : List ℕ) → x ≡ changed_of a k.copied k.target → Applies (on_scissor_packet k.target (holdings_of k.live l k.made c) b) a l c'
      → Leaves (on_scissor_packet k.target (holdings_held k r h c) b) k.target r x h c'
  cuts b c' is p = rw (← here) (applied-leaves _ a k.copied k.target r h l c' x is (sym here) p)

  pub aims : (b : SetTarget) (t : ℕ) → t ≡ if-fine a.verdict b.handle k.target → x ≡ changed_of a k.copied t → Targets b k.live k.made l a
      → Leaves (on_target_packet (holdings_held k r h c) b) (target_after (Target b) (on_target_packet (holdings_held k r h c) b).verdict k.target) r x h c
  unfolding target_after
  aims b t j is p =
      let v : a.verdict ≡ (on_target_packet (holdings_of k.live l k.made c) b).verdict = ap (λ (w : Outcome). w.verdict) (p.applies c).outcome in
      let aimed : t ≡ if-fine (on_target_packet (holdings_of k.live l k.made c) b).verdict b.handle k.target = rw (← v) j in
      rw (← here, ← aimed) (applied-leaves _ a k.copied t r h l c x is (sym here) (p.applies c))

pub ruleset reading_resources = (dirties, copies, cuts, aims, rules)

-- ---- what a packet that touches no token comes to

-- by other rows that have what is held
leaves-passed : (es : List Entry) (p : Packet) (k : Held) (r h c h' c' : List ℕ) (held : Holdings) → holdings_held k r h c ≡ held → (o : Holdings → Outcome) (t : ℕ) (x : Changed)
    → ((ts : List Token) → pass es (held_of k r h c ts) p ≡ passed p (held_of k r h c ts) (o (holdings_held k r h c)))
    → Leaves (o held) t r x h' c' → t ≡ target_after p (o held).verdict k.target → ((ts : List Token) → tokens_after p (o held).verdict held ts ≡ ts)
    → Takes es k r h c p (Plain x) h' c'
leaves-passed es p k r h c h' c' held same o t x is =
    subst
    (λ (w : Holdings). Leaves (o w) t r x h' c' → t ≡ target_after p (o w).verdict k.target → ((ts : List Token) → tokens_after p (o w).verdict w ts ≡ ts)
    → Takes es k r h c p (Plain x) h' c') same here
  where
    o₀ : Outcome
    o₀ = o (holdings_held k r h c)

    here : Leaves o₀ t r x h' c' → t ≡ target_after p o₀.verdict k.target → ((ts : List Token) → tokens_after p o₀.verdict (holdings_held k r h c) ts ≡ ts)
        → Takes es k r h c p (Plain x) h' c'
    here l aimed stay =
        takes-plain es k r h c p h' c' x
        (record {
          verdict = λ ts. rw (is ts) l.verdict;
          held = λ ts.
              rw (is ts, l.target, stay ts, aimed)
              (ap (λ (w : Holdings). record { holdings = w; target = target_after p o₀.verdict k.target; tokens = ts }) l.held);
          live = l.live;
          made = l.made;
        })

-- ---- destroy: on the submission's own table

module _ (r h h₁ c h' : List ℕ) (k : Held) (b : DestroyResource) (m : Option Applied) (same : resources_of k.live h₁ ≡ resources_of k.live (pick k.copied h r))
    (d : DestroysUnshared b k.live k.made h₁ m h') where
  pub destroys-left : (room : (k.live ≤ most) × (k.made ≤ most)) → m ≡ None
      → TakesDestroy k r h c b (Left (record { live = k.live; made = k.made; copied = true; target = k.target }) (SharedDestroy b)) h' c
  destroys-left room t =
      rw (d.left t)
      (record {
        takes = λ es.
            takes-left es k r h c (Destroy b) h₁ c (record { live = k.live; made = k.made; copied = true; target = k.target }) (SharedDestroy b)
            (record { same = λ ts. rw same; packet = refl; live = room.0; made = room.1 });
      })

  pub destroys-done : (a : Applied) (after t : ℕ) (y : Changed) → m ≡ Some a
      → after ≡ pick (eqb b.handle k.target) 0 k.target → t ≡ if-fine a.verdict after k.target
      → y ≡ changed_of a true t
      → TakesDestroy k r h c b (Plain y) h' c
  unfolding pass apply target_after
  destroys-done a after t y f i j is =
      let all = d.done a f in
      let o : Outcome = on_destroy_packet (holdings_of k.live h₁ k.made c) b in
      let v : a.verdict ≡ o.verdict = ap (λ (w : Outcome). w.verdict) (all.applies c).outcome in
      let aimed : t ≡ if-fine o.verdict (pick (eqb b.handle k.target) 0 k.target) k.target = rw (← v, ← i) j in
      let stay : (ts : List Token) → tokens_after (Destroy b) o.verdict (holdings_of k.live h₁ k.made c) ts ≡ ts =
      λ ts. sym (rw (← v) ((all.rebinds c).tokens ts)) ∙ rebind-same 0 ts in
      let rows : holdings_held k r h c ≡ holdings_of k.live h₁ k.made c = rw same in
      record {
        takes = λ es.
            leaves-passed es (Destroy b) k r h c h' c (holdings_of k.live h₁ k.made c) rows (λ w. on_destroy_packet w b) t y (λ ts. refl) (applied-leaves o a true t r h' h' c y is refl (all.applies c)) aimed stay;
      }

pub ruleset destroying = (destroys-left, destroys-done, rules)

-- ---- apply_packet

module _ (n : ℕ) (e r h c h' c' : List ℕ) (k : Held) (p : Packet) (y : Changed) where
  pub buffer-applied : (b : CreateBuffer) → p ≡ Buffer b → Leaves (on_buffer_packet (entries_of n e) (holdings_held k r h c) b) k.target r y h' c'
      → Takes (entries_of n e) k r h c p (Plain y) h' c'
  unfolding pass apply target_after tokens_after
  buffer-applied b q i = rw q (leaves-passed (entries_of n e) (Buffer b) k r h c h' c' (holdings_held k r h c) refl (λ w. on_buffer_packet (entries_of n e) w b) k.target y (λ ts. refl) i refl (λ ts. refl))

  pub texture-applied : (b : CreateTexture) → p ≡ Texture b → Leaves (on_texture_packet (entries_of n e) (holdings_held k r h c) b) k.target r y h' c'
      → Takes (entries_of n e) k r h c p (Plain y) h' c'
  unfolding pass apply target_after tokens_after
  texture-applied b q i = rw q (leaves-passed (entries_of n e) (Texture b) k r h c h' c' (holdings_held k r h c) refl (λ w. on_texture_packet (entries_of n e) w b) k.target y (λ ts. refl) i refl (λ ts. refl))

  pub dirty-applied : (b : DirtyRange) → p ≡ Dirty b → Leaves (on_dirty_packet (entries_of n e) (holdings_held k r h c) b) k.target r y h' c'
      → Takes (entries_of n e) k r h c p (Plain y) h' c'
  unfolding pass apply target_after tokens_after
  dirty-applied b q i = rw q (leaves-passed (entries_of n e) (Dirty b) k r h c h' c' (holdings_held k r h c) refl (λ w. on_dirty_packet (entries_of n e) w b) k.target y (λ ts. refl) i refl (λ ts. refl))

  pub copy-applied : (b : CopyBuffer) → p ≡ Copy b → Leaves (on_copy_packet (entries_of n e) (holdings_held k r h c) b) k.target r y h' c'
      → Takes (entries_of n e) k r h c p (Plain y) h' c'
  unfolding pass apply target_after tokens_after
  copy-applied b q i = rw q (leaves-passed (entries_of n e) (Copy b) k r h c h' c' (holdings_held k r h c) refl (λ w. on_copy_packet (entries_of n e) w b) k.target y (λ ts. refl) i refl (λ ts. refl))

  pub target-applied : (b : SetTarget) → p ≡ Target b
      → Leaves (on_target_packet (holdings_held k r h c) b) (target_after (Target b) (on_target_packet (holdings_held k r h c) b).verdict k.target) r y h' c'
      → Takes (entries_of n e) k r h c p (Plain y) h' c'
  unfolding pass apply tokens_after
  target-applied b q i = rw q (leaves-passed (entries_of n e) (Target b) k r h c h' c' (holdings_held k r h c) refl (λ w. on_target_packet w b) _ y (λ ts. refl) i refl (λ ts. refl))

  pub scissor-applied : (b : SetScissor) → p ≡ Scissor b → Leaves (on_scissor_packet k.target (holdings_held k r h c) b) k.target r y h' c'
      → Takes (entries_of n e) k r h c p (Plain y) h' c'
  unfolding pass apply target_after tokens_after
  scissor-applied b q i = rw q (leaves-passed (entries_of n e) (Scissor b) k r h c h' c' (holdings_held k r h c) refl (λ w. on_scissor_packet k.target w b) k.target y (λ ts. refl) i refl (λ ts. refl))

module _ (n : ℕ) (e r h c : List ℕ) (k : Held) (p : Packet) (a : Applied) (y : Changed) (was : y ≡ changed_of a k.copied k.target) where
  pub viewport-applied : (b : SetViewport) → p ≡ Viewport b → Views b k.live k.made a → Takes (entries_of n e) k r h c p (Plain y) h c
  unfolding pass apply target_after tokens_after
  viewport-applied b q d =
      rw q
      (leaves-passed (entries_of n e) (Viewport b) k r h c h c (holdings_held k r h c) refl (λ w. on_viewport_packet w b) k.target y (λ ts. refl) (applied-leaves _ a k.copied k.target r h (pick k.copied h r) c y was refl (d.applies (pick k.copied h r) c)) refl (λ ts. refl))

  pub clear-applied : (b : ClearValues) → p ≡ Clear b → Clears b k.live k.made a → Takes (entries_of n e) k r h c p (Plain y) h c
  unfolding pass apply target_after tokens_after
  clear-applied b q d =
      rw q
      (leaves-passed (entries_of n e) (Clear b) k r h c h c (holdings_held k r h c) refl (λ w. on_clear_packet w b) k.target y (λ ts. refl) (applied-leaves _ a k.copied k.target r h (pick k.copied h r) c y was refl (d.applies (pick k.copied h r) c)) refl (λ ts. refl))

  pub nan-applied : RowsExist n k.live k.made → p ≡ NotANumber → a ≡ refused_with BadState k.live k.made → Takes (entries_of n e) k r h c p (Plain y) h c
  unfolding pass apply target_after tokens_after
  nan-applied room q j =
      rw (q, was, j)
      (takes-plain (entries_of n e) k r h c NotANumber h c (changed_of (refused_with BadState k.live k.made) k.copied k.target)
      (record { verdict = λ ts. refl; held = λ ts. refl; live = room.live; made = room.made }))

module _ (n : ℕ) (e r h c : List ℕ) (k : Held) (p : Packet) (room : RowsExist n k.live k.made) where
  pub unknown-applied : p ≡ Unknown → Takes (entries_of n e) k r h c p (NotKnown k) h c
  unfolding pass apply target_after tokens_after
  unknown-applied q =
      rw q
      (takes-unknown (entries_of n e) k r h c Unknown h c k (record { verdict = λ ts. refl; held = λ ts. refl; live = room.live; made = room.made }))

  -- any packet that is left
  left_alone : (s : SharedPacket) → packet_of s ≡ p → Takes (entries_of n e) k r h c p (Left k s) h c
  left_alone s q =
      takes-left (entries_of n e) k r h c p h c k s (record { same = λ ts. refl; packet = q; live = room.live; made = room.made })

  pub export-left : (b : ExportSurface) → p ≡ Export b → Takes (entries_of n e) k r h c p (Left k (SharedExport b)) h c
  export-left b q = left_alone (SharedExport b) (sym q)

  pub import-left : (b : ImportSurface) → p ≡ Import b → Takes (entries_of n e) k r h c p (Left k (SharedImport b)) h c
  import-left b q = left_alone (SharedImport b) (sym q)

  pub release-left : (b : ReleaseToken) → p ≡ Release b → Takes (entries_of n e) k r h c p (Left k (SharedRelease b)) h c
  release-left b q = left_alone (SharedRelease b) (sym q)

pub destroy-applied : (n : ℕ) (e r h c h' c' : List ℕ) (k : Held) (p : Packet) (x : Taken) (b : DestroyResource) → p ≡ Destroy b
    → TakesDestroy k r h c b x h' c'
    → Takes (entries_of n e) k r h c p x h' c'
destroy-applied n e r h c h' c' k p x b q i = rw q (i.takes (entries_of n e))

pub held_rows : (n l m : ℕ) → RowsExist n l m → (l ≤ most) × (m ≤ most)
held_rows n l m room = (room.live, room.made)

pub ruleset asking = (held_rows, rules)

pub ruleset applying = (
  buffer-applied,
  texture-applied,
  destroy-applied,
  dirty-applied,
  copy-applied,
  target-applied,
  viewport-applied,
  scissor-applied,
  clear-applied,
  export-left,
  import-left,
  release-left,
  nan-applied,
  unknown-applied,
  rules,
)
