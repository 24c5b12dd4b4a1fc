-- What a packet can come to, whatever it is: refused with what was held, or one of ten effects, each with what the rules then
-- know. A fact about what a submission carries from packet to packet is shown once for these. Assumes nothing.
use Rattle.std.specs.Prelude.{◌≡◌, Bool, true, false, not, ◌&&◌, ◌||◌, List, ℕ, ◌+◌, ◌%◌, ◌≤◌, ◌<◌, eqb, length, Err, Ok}
use Rattle.std.proofs.Math.Path.{refl}
use native.Mathlib.Omega.{arith}
use borrow.Author.Tests.{eqb-false, leb-false, ltb-false, not-true, not-false}
use Rattle.std.proofs.Math.Dec.{ltb, leb}
use Rattle.machine.specs.Machine.{pick}
use Rattle.rules.specs.Numbers.{most, most_tokens, backs, reads, writes}
use Rattle.rules.specs.Lists.{Found, lookup}
use Rattle.rules.specs.Lists.Found.{none, found}
use Rattle.rules.specs.Names.{token_of, shareable, with_lowest, under, names_left, tokens_left, names_with, tokens_with, of_another, is_new, with_token, without_token}
use Rattle.rules.specs.Shapes.{good_shape, good_backed, packed_size, tight}
use Rattle.rules.specs.StatePackets.{bad_sides, clip_of}
use Rattle.rules.specs.Table.{matching}
use Rattle.rules.specs.Packets.{Holdings, Outcome, accepted, refuse, full, live, is_live, on_live, on_kind, on_buffer, on_entry, backed, range_of, recorded, hand_out, stored, create_hosted, create_backed, create, resource_of, on_destroy_packet, on_dirty_packet, write_back, on_copy_packet, live_texture, on_texture, on_target_packet, on_scissor_packet, without, on_export_packet, bound, on_bound, on_import_packet, on_release_packet, Progress, Passed, passed}
use Rattle.rules.specs.declared.Entry.{Entry}
use Rattle.rules.specs.declared.Resource.{Resource}
use Rattle.rules.specs.declared.Shape.{Shape}
use Rattle.rules.specs.declared.SetScissor.{SetScissor}
use Rattle.rules.specs.declared.DestroyResource.{DestroyResource}
use Rattle.rules.specs.declared.DirtyRange.{DirtyRange}
use Rattle.rules.specs.declared.CopyBuffer.{CopyBuffer}
use Rattle.rules.specs.declared.SetTarget.{SetTarget}
use Rattle.rules.specs.declared.ExportSurface.{ExportSurface}
use Rattle.rules.specs.declared.ImportSurface.{ImportSurface}
use Rattle.rules.specs.declared.ReleaseToken.{ReleaseToken}
use Rattle.rules.specs.declared.Token.{Token}
use Rattle.rules.specs.declared.Refusal.{Refusal}
use Rattle.rules.specs.declared.Kind.{Kind}
use Rattle.rules.specs.declared.Kind.TheVariants.{Buffer as BufferKind, Texture as TextureKind}
use Rattle.rules.specs.declared.Packet.{Packet}
use Rattle.rules.specs.declared.Refusal.TheVariants.{BadHandle, TooMany, BadShape, NotInTable, PastEntry, ReadOnly, PastResource, HostBacked, BadCopy, BadToken, UnboundToken, BadState}
use Rattle.rule_laws.specs.Fine.{both_left, both_right}
use Rattle.rule_laws.specs.Created.{BytesOf, ShapeOf, AsCreated}

-- ---- a resource as create leaves it

-- is so by whichever name
pub created-by-any-name : (k n : ℕ) (r : Resource) → AsCreated r → AsCreated (with_lowest n (under k r))
created-by-any-name k n r a = record { bytes = same_bytes r.kind a.bytes; shape = same_shape r.kind a.shape; offset = a.offset }
  where
    same_bytes : (kind : Kind) → BytesOf kind r → BytesOf kind (with_lowest n (under k r))
    same_bytes BufferKind h = h
    same_bytes (TextureKind s) h = h

    same_shape : (kind : Kind) → ShapeOf kind r → ShapeOf kind (with_lowest n (under k r))
    same_shape BufferKind h = h
    same_shape (TextureKind s) h = h

-- a pitch that is kept for a backed texture alone is asked for by a backed texture alone
pitch-kept : (b : Bool) (s : Shape) (pitch : ℕ) → pick b (packed_size s pitch) 0 ≡ pick b (packed_size s (pick b pitch 0)) 0
pitch-kept true s pitch = refl
pitch-kept false s pitch = refl

-- and is good where the packet's rules are kept
pitch-good : (b : Bool) (s : Shape) (pitch : ℕ) → pick b (good_backed s pitch) (good_shape s) ≡ true
    → (good_shape s ≡ true) × (pick b (leb (tight s 0) (pick b pitch 0)) (eqb (pick b pitch 0) 0) ≡ true)
unfolding good_backed
pitch-good true s pitch h = (both_left (good_shape s) _ h, both_right (good_shape s) _ h)
pitch-good false s pitch h = (h, refl)

-- a number that is kept for a backed resource alone is 0 for another
kept-if-backed : (b : Bool) (n : ℕ) → b ≡ false → pick b n 0 ≡ 0
kept-if-backed true n e = absurd (let z : ◌≡◌ {A = ℕ} 0 1 = cc in omega arith)
kept-if-backed false n e = refl

no-pitch : (b : Bool) → pick {A = ℕ} b 0 0 ≡ 0
no-pitch true = refl
no-pitch false = refl

pub buffer-created : (handle size backing offset : ℕ) → not (eqb size 0) ≡ true → AsCreated (resource_of handle BufferKind size 0 backing offset)
buffer-created handle size backing offset g =
    record {
      bytes = eqb-false size 0 (not-true (eqb size 0) g);
      shape = no-pitch (backed backing);
      offset = kept-if-backed (backed backing) offset;
    }

pub texture-created : (handle : ℕ) (s : Shape) (pitch backing offset : ℕ) → pick (backed backing) (good_backed s pitch) (good_shape s) ≡ true
    → AsCreated (resource_of handle (TextureKind s) (pick (backed backing) (packed_size s pitch) 0) pitch backing offset)
texture-created handle s pitch backing offset g =
    record {
      bytes = pitch-kept (backed backing) s pitch;
      shape = pitch-good (backed backing) s pitch g;
      offset = kept-if-backed (backed backing) offset;
    }

-- ---- what the rules know

-- a new resource: its handle is not 0 and was not live, there was room, it is as create leaves it, and that handle is its only name
pub record Fresh (h : Holdings) (r : Resource) : Type 0 where
  pub some : r.handle ≡ 0 → ⊥
  pub unused : live r.handle h ≡ none
  pub room : length h.resources < most
  pub created : AsCreated r
  pub own : r.lowest ≡ r.handle

-- a range of a resource, inside its entry, of one of the three kinds of range, and there was room for its record
pub record InRange (es : List Entry) (h : Holdings) (kind : ℕ) (r : Resource) (e : Entry) (from size : ℕ) : Type 0 where
  pub entry : matching r.backing es ≡ found e
  pub inside : r.offset + (from + size) ≤ e.size
  pub room : length h.records < most
  pub low : backs ≤ kind
  pub high : kind ≤ writes

-- a scissor in a submission whose target is a live texture: its sides are not negative, and there was room for its record
pub record Clipped (target : ℕ) (h : Holdings) (s : Shape) (c : SetScissor) : Type 0 where
  pub texture : live_texture target h ≡ found s
  pub sides : bad_sides c ≡ false
  pub room : length h.records < most

-- a token for the live resource that a name means, which may be shared: it is not 0, was not used for another, nor is it spent, and there was room
-- if it is new
pub record Exported (h : Progress) (k token : ℕ) (r : Resource) : Type 0 where
  pub named : live k h.holdings ≡ found r
  pub shape : shareable r.kind ≡ true
  pub some : token ≡ 0 → ⊥
  pub same : of_another (lookup token_of token h.tokens) r.lowest ≡ false
  pub room : is_new (lookup token_of token h.tokens) && leb most_tokens (length h.tokens) ≡ false

-- another name for the live resource that a token is bound to: it is not 0 and was not live, and there was room
pub record Imported (h : Progress) (k token : ℕ) (r : Resource) : Type 0 where
  pub some : k ≡ 0 → ⊥
  pub unused : live k h.holdings ≡ none
  pub bound-to : bound token h.tokens h.holdings.resources ≡ found r
  pub room : length h.holdings.resources < most

-- ---- a packet's rules, one by one

module _ (P : Outcome → Type 0) (h : Holdings) (refuses : (r : Refusal) → P (record { verdict = Err r; held = h })) where
  pub refuse-or : (n : Refusal) (t : Bool) (later : Outcome) → (t ≡ false → P later) → P (refuse n t h later)
  refuse-or n true later k = refuses n
  refuse-or n false later k = k refl

  pub live-or : (f : Found Resource) (later : Resource → Outcome) → ((r : Resource) → f ≡ found r → P (later r)) → P (on_live f h later)
  live-or none later k = refuses BadHandle
  live-or (found r) later k = k r refl

  kind-or : (k : Kind) (later : Outcome) → P later → P (on_kind k h later)
  kind-or BufferKind later p = p
  kind-or (TextureKind s) later p = refuses BadHandle

  buffer-or : (f : Found Resource) (later : Resource → Outcome) → ((r : Resource) → f ≡ found r → P (later r)) → P (on_buffer f h later)
  buffer-or f later k = live-or f (λ r. on_kind r.kind h (later r)) (λ r e. kind-or r.kind (later r) (k r e))

  entry-or : (f : Found Entry) (later : Entry → Outcome) → ((e : Entry) → f ≡ found e → P (later e)) → P (on_entry f h later)
  entry-or none later k = refuses NotInTable
  entry-or (found e) later k = k e refl

  texture-or : (n : Refusal) (f : Found Shape) (later : Shape → Outcome) → ((s : Shape) → f ≡ found s → P (later s)) → P (on_texture n f h later)
  texture-or n none later k = refuses n
  texture-or n (found s) later k = k s refl

  pub bound-or : (f : Found Resource) (later : Resource → Outcome) → ((r : Resource) → f ≡ found r → P (later r)) → P (on_bound f h later)
  bound-or none later k = refuses UnboundToken
  bound-or (found r) later k = k r refl

  pick-or : (t : Bool) (x y : Outcome) → (t ≡ true → P x) → (t ≡ false → P y) → P (pick t x y)
  pick-or true x y p q = p refl
  pick-or false x y p q = q refl

  neither : (a b : Bool) → a || b ≡ false → (a ≡ false) × (b ≡ false)
  neither true b e = absurd (let z : ◌≡◌ {A = ℕ} 0 1 = cc in omega arith)
  neither false b e = (refl, e)

  unlive : (f : Found Resource) → is_live f ≡ false → f ≡ none
  unlive none e = refl
  unlive (found r) e = absurd (let z : ◌≡◌ {A = ℕ} 0 1 = cc in omega arith)

  -- ---- each kind of packet

  module _ (es : List Entry)
      (stores : (r : Resource) → Fresh h r → P (accepted (stored r h)))
      (backs-up : (r : Resource) (e : Entry) → Fresh h r → InRange es h backs r e 0 r.bytes → P (accepted (recorded (range_of backs r e 0 r.bytes) (stored r h)))) where
    pub create-or : (good : Bool) (r : Resource) → r.lowest ≡ r.handle → (good ≡ true → AsCreated r) → P (create es h good r)
    unfolding create create_hosted create_backed
    create-or good r own keep =
        refuse-or BadHandle (eqb r.handle 0 || is_live (live r.handle h)) _ (λ a.
        refuse-or BadShape (not good) _ (λ b.
        let two = neither (eqb r.handle 0) (is_live (live r.handle h)) a in
        let some : r.handle ≡ 0 → ⊥ = eqb-false r.handle 0 two.0 in
        let unused : live r.handle h ≡ none = unlive (live r.handle h) two.1 in
        let created : AsCreated r = keep (not-false good b) in
        pick-or (backed r.backing) _ _
        (λ _. entry-or (matching r.backing es) _ (λ e m.
        refuse-or PastEntry (ltb e.size (r.offset + r.bytes)) _ (λ i.
        refuse-or TooMany (full h.resources) _ (λ f.
        refuse-or TooMany (full h.records) _ (λ g.
        let fits : r.offset + r.bytes ≤ e.size = ltb-false e.size (r.offset + r.bytes) i in
        backs-up r e (record { some = some; unused = unused; room = leb-false most (length h.resources) f; created = created; own = own })
        (record { entry = m; inside = omega arith; room = leb-false most (length h.records) g; low = omega arith; high = omega arith }))))))
        (λ _. refuse-or TooMany (full h.resources) _ (λ f.
        stores r (record { some = some; unused = unused; room = leb-false most (length h.resources) f; created = created; own = own })))))

  module _ (es : List Entry) (keeps : P (accepted h))
      (hands : (kind : ℕ) (r : Resource) (e : Entry) (from size : ℕ) → InRange es h kind r e from size → P (accepted (recorded (range_of kind r e from size) h))) where
    handed-or : (kind : ℕ) (r : Resource) (e : Entry) (from size : ℕ) → backs ≤ kind → kind ≤ writes → matching r.backing es ≡ found e → r.offset + (from + size) ≤ e.size
        → P (hand_out (range_of kind r e from size) h)
    unfolding hand_out
    handed-or kind r e from size low high m i =
        pick-or (eqb size 0) (accepted h) _ (λ _. keeps) (λ _.
        refuse-or TooMany (full h.records) _ (λ f.
        hands kind r e from size (record { entry = m; inside = i; room = leb-false most (length h.records) f; low = low; high = high })))

    pub dirty-or : (c : DirtyRange) → P (on_dirty_packet es h c)
    unfolding on_dirty_packet
    dirty-or c =
        live-or (live c.handle h) _ (λ r _.
        refuse-or HostBacked (not (backed r.backing)) _ (λ _.
        refuse-or PastResource (ltb r.bytes (c.offset + c.size)) _ (λ _.
        entry-or (matching r.backing es) _ (λ e m.
        refuse-or PastEntry (ltb e.size (r.offset + (c.offset + c.size))) _ (λ i.
        handed-or reads r e c.offset c.size (omega arith) (omega arith) m (ltb-false e.size (r.offset + (c.offset + c.size)) i))))))

    pub copy-or : (c : CopyBuffer) → P (on_copy_packet es h c)
    unfolding on_copy_packet write_back
    copy-or c =
        buffer-or (live c.dst h) _ (λ d _.
        buffer-or (live c.src h) _ (λ s _.
        refuse-or BadCopy (eqb c.dst c.src || ltb 1 c.flags) _ (λ _.
        refuse-or PastResource (ltb d.bytes (c.dstoffset + c.size)) _ (λ _.
        refuse-or PastResource (ltb s.bytes (c.srcoffset + c.size)) _ (λ _.
        pick-or (eqb c.flags 1) _ _
        (λ _. refuse-or HostBacked (not (backed d.backing)) _ (λ _.
        entry-or (matching d.backing es) _ (λ e m.
        refuse-or PastEntry (ltb e.size (d.offset + (c.dstoffset + c.size))) _ (λ i.
        refuse-or ReadOnly (eqb (e.flags % 2) 1) _ (λ _.
        handed-or writes d e c.dstoffset c.size (omega arith) (omega arith) m (ltb-false e.size (d.offset + (c.dstoffset + c.size)) i))))))
        (λ _. keeps))))))

  pub destroy-or : (c : DestroyResource)
      → ((r : Resource) → live c.handle h ≡ found r → P (accepted (record { resources = names_left r (without c.handle h); records = h.records })))
      → P (on_destroy_packet h c)
  unfolding on_destroy_packet
  destroy-or c removes = live-or (live c.handle h) _ removes

  pub target-or : (c : SetTarget) → ((s : Shape) → live_texture c.handle h ≡ found s → P (accepted h)) → P (on_target_packet h c)
  unfolding on_target_packet
  target-or c targets = texture-or BadHandle (live_texture c.handle h) _ targets

  pub scissor-or : (target : ℕ) (c : SetScissor) → ((s : Shape) → Clipped target h s c → P (accepted (recorded (clip_of s c) h))) → P (on_scissor_packet target h c)
  unfolding on_scissor_packet
  scissor-or target c clips-to =
      texture-or BadState (live_texture target h) _ (λ s t.
      refuse-or BadState (bad_sides c) _ (λ b.
      refuse-or TooMany (full h.records) _ (λ f. clips-to s (record { texture = t; sides = b; room = leb-false most (length h.records) f }))))

  pub import-or : (ts : List Token) (c : ImportSurface)
      → ((r : Resource) → (c.handle ≡ 0 → ⊥) → live c.handle h ≡ none → bound c.token ts h.resources ≡ found r → length h.resources < most
      → P (accepted (record { resources = names_with c.handle r h.resources; records = h.records })))
      → P (on_import_packet ts h c)
  unfolding on_import_packet
  import-or ts c imports =
      refuse-or BadHandle (eqb c.handle 0 || is_live (live c.handle h)) _ (λ a.
      let two = neither (eqb c.handle 0) (is_live (live c.handle h)) a in
      bound-or (bound c.token ts h.resources) _ (λ r e.
      refuse-or TooMany (full h.resources) _ (λ f.
      imports r (eqb-false c.handle 0 two.0) (unlive (live c.handle h) two.1) e (leb-false most (length h.resources) f))))

  pub release-or : (ts : List Token) (c : ReleaseToken) → ((r : Resource) → bound c.token ts h.resources ≡ found r → P (accepted h)) → P (on_release_packet ts h c)
  unfolding on_release_packet
  release-or ts c releases = bound-or (bound c.token ts h.resources) _ releases

module _ (P : Outcome → Type 0) (h : Progress) (refuses : (r : Refusal) → P (record { verdict = Err r; held = h.holdings })) where
  pub export-or : (c : ExportSurface) → ((r : Resource) → Exported h c.handle c.token r → P (accepted h.holdings)) → P (on_export_packet h.tokens h.holdings c)
  unfolding on_export_packet
  export-or c exports =
      live-or P h.holdings refuses (live c.handle h.holdings) _ (λ r e.
      refuse-or P h.holdings refuses BadShape (not (shareable r.kind)) _ (λ s.
      refuse-or P h.holdings refuses BadToken (eqb c.token 0 || of_another (lookup token_of c.token h.tokens) r.lowest) _ (λ a.
      let two = neither P h.holdings refuses (eqb c.token 0) (of_another (lookup token_of c.token h.tokens) r.lowest) a in
      refuse-or P h.holdings refuses TooMany (is_new (lookup token_of c.token h.tokens) && leb most_tokens (length h.tokens)) _ (λ f.
      exports r (record { named = e; shape = not-false (shareable r.kind) s; some = eqb-false c.token 0 two.0; same = two.1; room = f })))))

-- ---- one packet, whatever it is

-- what is held after it, with the same target and the same tokens
abbrev pub going_on : Progress → Holdings → Passed
going_on h held = record { verdict = Ok tt; held = record { holdings = held; target = h.target; tokens = h.tokens } }

-- what is held, with other tokens
abbrev pub tokens_now : Progress → List Token → Passed
tokens_now h ts = record { verdict = Ok tt; held = record { holdings = h.holdings; target = h.target; tokens = ts } }

-- without one name of a resource
abbrev pub destroyed : Progress → ℕ → Resource → Passed
destroyed h k r =
    record {
      verdict = Ok tt;
      held = record {
        holdings = record { resources = names_left r (without k h.holdings); records = h.holdings.records };
        target = pick (eqb k h.target) 0 h.target;
        tokens = tokens_left r (without k h.holdings) h.tokens;
      };
    }

-- with one name more
abbrev pub imported : Progress → ℕ → Resource → Passed
imported h k r =
    record {
      verdict = Ok tt;
      held = record {
        holdings = record { resources = names_with k r h.holdings.resources; records = h.holdings.records };
        target = h.target;
        tokens = tokens_with k r h.tokens;
      };
    }

module _ (P : Passed → Type 0) (es : List Entry) (h : Progress)
    (refuses : (r : Refusal) → P (record { verdict = Err r; held = h }))
    (keeps : P (record { verdict = Ok tt; held = h }))
    (stores : (r : Resource) → Fresh h.holdings r → P (going_on h (stored r h.holdings)))
    (backs-up : (r : Resource) (e : Entry) → Fresh h.holdings r → InRange es h.holdings backs r e 0 r.bytes → P (going_on h (recorded (range_of backs r e 0 r.bytes) (stored r h.holdings))))
    (removes : (k : ℕ) (r : Resource) → live k h.holdings ≡ found r → P (destroyed h k r))
    (hands : (kind : ℕ) (r : Resource) (e : Entry) (from size : ℕ) → InRange es h.holdings kind r e from size → P (going_on h (recorded (range_of kind r e from size) h.holdings)))
    (targets : (k : ℕ) (s : Shape) → live_texture k h.holdings ≡ found s → P (record { verdict = Ok tt; held = record { holdings = h.holdings; target = k; tokens = h.tokens } }))
    (cuts : (s : Shape) (c : SetScissor) → Clipped h.target h.holdings s c → P (going_on h (recorded (clip_of s c) h.holdings)))
    (exports : (k token : ℕ) (r : Resource) → Exported h k token r → P (tokens_now h (with_token token r.lowest h.tokens)))
    (imports : (k token : ℕ) (r : Resource) → Imported h k token r → P (imported h k r))
    (releases : (token : ℕ) (r : Resource) → bound token h.tokens h.holdings.resources ≡ found r → P (tokens_now h (without_token token h.tokens))) where
  -- the same of what its rules come to
  abbrev pub Of : Packet → Outcome → Type 0
  Of p o = P (passed p h o)
