-- A packet that needs tokens: what it comes to is what the rules say, of the tables that have the submission's resources and tokens, whatever the
-- records and entries are. Assumes nothing.
use Rattle.std.specs.Prelude.{◌≡◌, refl, Bool, true, eqb, Err, Ok}
use Rattle.std.proofs.Math.Path.{sym, ap}
use Rattle.std.proofs.Common.{◌∙◌, rules}
use mathlib.Core.List.{List, [], ◌∷◌}
use Prim.Native.Nat.{ℕ, ◌≤◌, ◌<◌}
use Rattle.machine.specs.Machine.{pick}
use Rattle.rules.specs.Numbers.{most, most_tokens}
use Rattle.rules.specs.Packets.{Holdings, Outcome, if-fine, passed, on_destroy_packet, on_export_packet, on_import_packet, on_release_packet, apply, target_after, tokens_after, pass}
use Rattle.rules.specs.Lists.{over, pushed}
use Rattle.rules.specs.Names.{rebind}
use Rattle.rules.specs.declared.Entry.{Entry}
use Rattle.rules.specs.declared.DestroyResource.{DestroyResource}
use Rattle.rules.specs.declared.ExportSurface.{ExportSurface}
use Rattle.rules.specs.declared.ImportSurface.{ImportSurface}
use Rattle.rules.specs.declared.ReleaseToken.{ReleaseToken}
use Rattle.rules.specs.declared.Token.{Token}
use Rattle.rules.specs.declared.Packet.{Packet}
use Rattle.rules.specs.declared.Packet.TheVariants.{Destroy, Export, Import, Release, Unknown}
use Rattle.rules.specs.declared.Refusal.{Refusal}
use Rattle.kept_resources.specs.Views.{resources_of, holdings_of}
use Rattle.kept_tokens.specs.Views.{spent_at}
use Rattle.packet_ranges.specs.Views.{Applies}
use Rattle.packet_destroy.specs.Destroy.{Destroys}
use Rattle.packet_export.specs.Export.{Exports}
use Rattle.packet_share.specs.Import.{Imports}
use Rattle.packet_share.specs.Release.{Releases}
use Rattle.packet_export.specs.declared.export.Exported.{Exported}
use Rattle.packet_share.specs.declared.release.Released.{Released}
use Rattle.packet_ranges.specs.declared.applied.Applied.{Applied}
use Rattle.packet_ranges.specs.declared.applied.Renamed.{Renamed}
use Rattle.packet_held.specs.Tokens.{tokens_held, Retokened}
use Rattle.packet_held.specs.Held.{changed_of, holdings_held, held_of, packet_of}
use Rattle.packet_held.specs.declared.tokens.HeldTokens.{HeldTokens}
use Rattle.packet_held.specs.declared.held.Held.{Held}
use Rattle.packet_held.specs.declared.held.Changed.{Changed}
use Rattle.packet_held.specs.declared.held.SharedPacket.{SharedPacket}
use Rattle.packet_held.specs.declared.held.SharedPacket.TheVariants.{Destroy as SharedDestroy, Export as SharedExport, Import as SharedImport, Release as SharedRelease}
use Rattle.packet_apply_shared.specs.declared.Shared.{Shared}

abbrev pub shared_of : Changed → HeldTokens → Shared
shared_of y t = record { changed = y; tokens = t }

-- what is held after it, its tokens too, and the rule that it breaks are what the rules say, whatever the records and the entries are; their rows
-- are there
pub record Shares (k : Held) (u : HeldTokens) (r h dt ot : List ℕ) (p : Packet) (x : Shared) (h' ot' : List ℕ) : Type 0 where
  pub verdict : (es : List Entry) (c : List ℕ) → x.changed.verdict ≡ (pass es (held_of k r h c (tokens_held u dt ot)) p).verdict
  pub held : (es : List Entry) (c : List ℕ) → held_of x.changed.held r h' c (tokens_held x.tokens dt ot') ≡ (pass es (held_of k r h c (tokens_held u dt ot)) p).held
  pub live : x.changed.held.live ≤ most
  pub made : x.changed.held.made ≤ most
  pub tokens : x.tokens.used ≤ most_tokens

-- what a packet comes to, by other rows that have what is held, whose outcome and tokens are these
passes : (p : Packet) (k : Held) (u : HeldTokens) (r h dt ot h' ot' : List ℕ) (held : List ℕ → Holdings) → ((c : List ℕ) → holdings_held k r h c ≡ held c)
    → (o : Holdings → Outcome) (a : Applied) (copied : Bool) (l : List ℕ) (t : ℕ) (y : HeldTokens) (x : Shared)
    → ((es : List Entry) (c : List ℕ) → pass es (held_of k r h c (tokens_held u dt ot)) p ≡ passed p (held_of k r h c (tokens_held u dt ot)) (o (holdings_held k r h c)))
    → x ≡ shared_of (changed_of a copied t) y → pick copied h' r ≡ l → ((c : List ℕ) → Applies (o (held c)) a l c)
    → ((c : List ℕ) → t ≡ target_after p (o (held c)).verdict k.target)
    → ((c : List ℕ) → tokens_held y dt ot' ≡ tokens_after p (o (held c)).verdict (held c) (tokens_held u dt ot)) → y.used ≤ most_tokens
    → Shares k u r h dt ot p x h' ot'
passes p k u r h dt ot h' ot' held same o a copied l t y x passed-as is there q aimed z room =
    rw is
    (record {
      verdict = λ es c. rw (passed-as es c, same c) (ap (λ (w : Outcome). w.verdict) (q c).outcome);
      held = λ es c.
          rw (passed-as es c, same c, there, z c, aimed c)
          (ap (λ (w : Outcome). record { holdings = w.held; target = target_after p (o (held c)).verdict k.target; tokens = tokens_after p (o (held c)).verdict (held c) (tokens_held u dt ot) }) (q c).outcome);
      live = (q []).live;
      made = (q []).made;
      tokens = room;
    })

-- ---- destroy: on the submission's own table, and its tokens follow

pub destroys : (r h h₁ dt ot h' ot' : List ℕ) (k : Held) (u : HeldTokens) (b : DestroyResource) (m : Renamed) (y : HeldTokens) (after t : ℕ) (w : Changed) (x : Shared)
    → resources_of k.live h₁ ≡ resources_of k.live (pick k.copied h r)
    → Destroys b k.live k.made h₁ m h'
    → Retokened dt (rebind m.old m.new (tokens_held u dt ot)) y ot'
    → after ≡ pick (eqb b.handle k.target) 0 k.target → t ≡ if-fine m.applied.verdict after k.target
    → w ≡ changed_of m.applied true t → x ≡ shared_of w y
    → Shares k u r h dt ot (Destroy b) x h' ot'
unfolding pass apply target_after
destroys r h h₁ dt ot h' ot' k u b m y after t w x same d z i j came is =
    let o : List ℕ → Outcome = λ c. on_destroy_packet (holdings_of k.live h₁ k.made c) b in
    let v : (c : List ℕ) → m.applied.verdict ≡ (o c).verdict = λ c. ap (λ (n : Outcome). n.verdict) (d.applies c).outcome in
    let rows : (c : List ℕ) → holdings_held k r h c ≡ holdings_of k.live h₁ k.made c = λ c. rw same in
    passes (Destroy b) k u r h dt ot h' ot' (λ c. holdings_of k.live h₁ k.made c) rows (λ n. on_destroy_packet n b) m.applied true h' t y x (λ es c. refl) (rw came at is) refl (λ c. d.applies c)
    (λ c. rw (← v c, ← i) j) (λ c. z.tokens ∙ rw (← v c) ((d.rebinds c).tokens (tokens_held u dt ot))) z.room

pub ruleset destroying = (destroys, rules)

-- ---- judge_export, judge_import, judge_release: by the table that has the tokens

module _ (live made used i : ℕ) (copied : Bool) (l dt ot t : List ℕ) (here : t ≡ pick copied ot dt) (same : i ≡ used) where
  pub judged-export : (b : ExportSurface) (m : Exported) → Exports b live made i l t m → Exports b live made used l (pick copied ot dt) m
  judged-export b m d = rw (← here, ← same) d

  pub judged-import : (b : ImportSurface) (m : Renamed) (l' : List ℕ) → Imports b live made i l t m l' → Imports b live made used l (pick copied ot dt) m l'
  judged-import b m l' d = rw (← here, ← same) d

  pub judged-release : (b : ReleaseToken) (m : Released) → Releases b live made i l t m → Releases b live made used l (pick copied ot dt) m
  judged-release b m d = rw (← here, ← same) d

pub ruleset judging = (judged-export, judged-import, judged-release, rules)

-- ---- import: the same

pub imports : (r h h₁ dt ot h' ot' : List ℕ) (k : Held) (u : HeldTokens) (b : ImportSurface) (m : Renamed) (y : HeldTokens) (w : Changed) (x : Shared)
    → resources_of k.live h₁ ≡ resources_of k.live (pick k.copied h r)
    → Imports b k.live k.made u.used h₁ (pick u.copied ot dt) m h'
    → Retokened dt (rebind m.old m.new (tokens_held u dt ot)) y ot'
    → w ≡ changed_of m.applied true k.target → x ≡ shared_of w y
    → Shares k u r h dt ot (Import b) x h' ot'
unfolding pass apply target_after
imports r h h₁ dt ot h' ot' k u b m y w x same d z came is =
    let o : List ℕ → Outcome = λ c. on_import_packet (tokens_held u dt ot) (holdings_of k.live h₁ k.made c) b in
    let v : (c : List ℕ) → m.applied.verdict ≡ (o c).verdict = λ c. ap (λ (n : Outcome). n.verdict) (d.applies c).outcome in
    let rows : (c : List ℕ) → holdings_held k r h c ≡ holdings_of k.live h₁ k.made c = λ c. rw same in
    passes (Import b) k u r h dt ot h' ot' (λ c. holdings_of k.live h₁ k.made c) rows (λ n. on_import_packet (tokens_held u dt ot) n b) m.applied true h' k.target y x (λ es c. refl) (rw came at is) refl (λ c. d.applies c)
    (λ c. refl) (λ c. z.tokens ∙ rw (← v c) (d.rebinds c)) z.room

pub ruleset importing = (imports, rules)

-- ---- export, release: on the table that has the resources

module _ (r h l dt ot ot' : List ℕ) (k : Held) (u : HeldTokens) (here : l ≡ pick k.copied h r) (w : Changed) (x : Shared) (y : HeldTokens) (is : x ≡ shared_of w y) where
  rows-here : (c : List ℕ) → holdings_held k r h c ≡ holdings_of k.live l k.made c
  rows-here c = rw (← here)

  pub exports : (b : ExportSurface) (m : Exported) → Exports b k.live k.made u.used l (pick u.copied ot dt) m
      → Retokened dt (pick m.added (pushed (tokens_held u dt ot) (record { name = m.name; token = b.token })) (tokens_held u dt ot)) y ot'
      → w ≡ changed_of m.applied k.copied k.target
      → Shares k u r h dt ot (Export b) x h ot'
  unfolding pass apply target_after
  exports b m d z came =
      let o : List ℕ → Outcome = λ c. on_export_packet (tokens_held u dt ot) (holdings_of k.live l k.made c) b in
      let v : (c : List ℕ) → m.applied.verdict ≡ (o c).verdict = λ c. ap (λ (n : Outcome). n.verdict) (d.applies c).outcome in
      passes (Export b) k u r h dt ot h ot' (λ c. holdings_of k.live l k.made c) rows-here (λ n. on_export_packet (tokens_held u dt ot) n b) m.applied k.copied l k.target y x (λ es c. refl) (rw came at is) (sym here) (λ c. d.applies c)
      (λ c. refl) (λ c. z.tokens ∙ sym (rw (← v c) (d.tokens c))) z.room

  module _ (b : ReleaseToken) (m : Released) (d : Releases b k.live k.made u.used l (pick u.copied ot dt) m) (came : w ≡ changed_of m.applied k.copied k.target) where
    released-as : (ts : List Token) → if-fine m.applied.verdict (over m.place (spent_at (pick u.copied ot dt) m.place ∷ []) (tokens_held u dt ot)) (tokens_held u dt ot) ≡ ts
        → Retokened dt ts y ot' → Shares k u r h dt ot (Release b) x h ot'
    unfolding pass apply target_after
    released-as ts e z =
        let o : List ℕ → Outcome = λ c. on_release_packet (tokens_held u dt ot) (holdings_of k.live l k.made c) b in
        let v : (c : List ℕ) → m.applied.verdict ≡ (o c).verdict = λ c. ap (λ (n : Outcome). n.verdict) (d.applies c).outcome in
        passes (Release b) k u r h dt ot h ot' (λ c. holdings_of k.live l k.made c) rows-here (λ n. on_release_packet (tokens_held u dt ot) n b) m.applied k.copied l k.target y x (λ es c. refl) (rw came at is) (sym here) (λ c. d.applies c)
        (λ c. refl) (λ c. z.tokens ∙ sym (rw (← v c) (d.spends c ∙ e))) z.room

    pub releases : m.applied.verdict ≡ Ok tt
        → Retokened dt (over m.place (spent_at (pick u.copied ot dt) m.place ∷ []) (tokens_held u dt ot)) y ot'
        → Shares k u r h dt ot (Release b) x h ot'
    releases q z = released-as _ (rw q) z

-- one that is refused leaves the tokens where they are
pub keeps-token : (r h l dt ot : List ℕ) (k : Held) (u : HeldTokens) (b : ReleaseToken) (m : Released) (w : Changed) (x : Shared) (why : Refusal) → ((k.live ≤ most) × (k.made ≤ most)) × (u.used ≤ most_tokens)
    → l ≡ pick k.copied h r → Releases b k.live k.made u.used l (pick u.copied ot dt) m → w ≡ changed_of m.applied k.copied k.target → x ≡ shared_of w u
    → m.applied.verdict ≡ Err why
    → Shares k u r h dt ot (Release b) x h ot
keeps-token r h l dt ot k u b m w x why room here d came is q =
    released-as r h l dt ot ot k u here w x u is b m d came (tokens_held u dt ot) (rw q) (record { tokens = refl; room = room.1 })

-- what without_token asks
pub spends-one : (live made used i : ℕ) (l t : List ℕ) (b : ReleaseToken) (m : Released) → Releases b live made used l t m → m.applied.verdict ≡ Ok tt → i ≡ m.place → i < used
spends-one live made used i l t b m d q same = rw same (d.place q)

pub ruleset exporting = (exports, rules)

pub ruleset releasing = (releases, keeps-token, spends-one, rules)

-- ---- apply_shared

module _ (r h dt ot h' ot' : List ℕ) (k : Held) (u : HeldTokens) (p : SharedPacket) (x : Shared) where
  pub destroy-shared : (b : DestroyResource) → p ≡ SharedDestroy b → Shares k u r h dt ot (Destroy b) x h' ot' → Shares k u r h dt ot (packet_of p) x h' ot'
  destroy-shared b q i = rw q i

  pub export-shared : (b : ExportSurface) → p ≡ SharedExport b → Shares k u r h dt ot (Export b) x h' ot' → Shares k u r h dt ot (packet_of p) x h' ot'
  export-shared b q i = rw q i

  pub import-shared : (b : ImportSurface) → p ≡ SharedImport b → Shares k u r h dt ot (Import b) x h' ot' → Shares k u r h dt ot (packet_of p) x h' ot'
  import-shared b q i = rw q i

  pub release-shared : (b : ReleaseToken) → p ≡ SharedRelease b → Shares k u r h dt ot (Release b) x h' ot' → Shares k u r h dt ot (packet_of p) x h' ot'
  release-shared b q i = rw q i

-- where no packet was left, what is held as it was is what the rules say of one that nobody knows
pub nothing-shared : (r h dt ot : List ℕ) (k : Held) (u : HeldTokens) (x : Shared) → ((k.live ≤ most) × (k.made ≤ most)) × (u.used ≤ most_tokens)
    → x ≡ shared_of (record { verdict = Ok tt; held = k }) u → Shares k u r h dt ot Unknown x h ot
unfolding pass apply target_after tokens_after
nothing-shared r h dt ot k u x room is =
    rw is (record { verdict = λ es c. refl; held = λ es c. refl; live = room.0.0; made = room.0.1; tokens = room.1 })

pub ruleset sharing = (destroy-shared, export-shared, import-shared, release-shared, rules)
