-- The theorems of specs/TokenLives.antt, and what they rest on. Assumes nothing.
use Rattle.std.specs.Prelude.{◌≡◌, refl, false, ◌⊎◌, ℕ, ◌<◌, eqb, length, take, Ok}
use Rattle.std.proofs.Common.{sym, subst, ◌∙◌, eqb-true}
use Rattle.std.proofs.Math.Path.{ap}
use mathlib.Core.List.{List, [], ◌∷◌, ◌++◌}
use Rattle.std.proofs.Math.Logic.{inl, inr, ⊎_elim}
use Rattle.std.proofs.lemmas.Bool.{not-false}
use Rattle.machine.specs.Machine.{pick}
use Rattle.rules.specs.Numbers.{most, no_name}
use Rattle.rules.specs.Lists.{Found, lookup, pushed}
use Rattle.rules.specs.Lists.Found.{none, found}
use Rattle.rules.specs.Names.{token_of, lower, lowest_left, tokens_left, tokens_with, of_another, is_new, with_token, without_token}
use Rattle.rules.specs.Packets.{Outcome, handle_of, live, without, bound, apply, Progress, Passed, passed, target_after, tokens_after, pass, pass_frame, take_packet}
use Rattle.rules.specs.Stream.{left, frame_of, packet_of}
use Rattle.rules.specs.State.{State, Work, World, working}
use Rattle.rules.specs.State.Work.{packets}
use Rattle.rules.specs.Steps.{packets_at, next_place}
use Rattle.rules.specs.declared.Entry.{Entry}
use Rattle.rules.specs.declared.Job.{Job}
use Rattle.rules.specs.declared.Resource.{Resource}
use Rattle.rules.specs.declared.Stream.{Stream}
use Rattle.rules.specs.declared.Token.{Token}
use Rattle.rules.specs.declared.ExportSurface.{ExportSurface}
use Rattle.rules.specs.declared.ImportSurface.{ImportSurface}
use Rattle.rules.specs.declared.ReleaseToken.{ReleaseToken}
use Rattle.rules.specs.declared.Packet.{Packet}
use Rattle.rules.specs.declared.Packet.TheVariants.{Buffer, Texture, Destroy, Dirty, Copy, Target, Viewport, Scissor, Clear, Export, Import, Release, NotANumber, Unknown}
use Rattle.rows.specs.Keys.{same_or_not, lookup-pushed-same, lookup-pushed-other}
use Rattle.promises_of_packets.specs.Names.{none-not-found, found-same}
use Rattle.promises_of_packets.proofs.Names.{lookup-released, lookup-unreleased}
use Rattle.promises_of_packets.specs.SoundNames.{SoundTokens, bound-is}
use Rattle.promises_of_packets.proofs.SoundNames.{BoundTo, sound-bound, low-some, token-after-destroy, token-after-import}
use Rattle.promises_of_packets.specs.Effects.{Exported, Imported, destroy-or, export-or, import-or, release-or}
use Rattle.promises_of_packets.specs.Held.{SoundProgress}
use Rattle.promises_of_units.specs.Called.{Called}
use Rattle.promises_of_units.proofs.Ranges.{called-sound}
use Rattle.promises_of_units.specs.Units.{Next}
use Rattle.promises_of_units.proofs.Units.{unit-is-step}
use Rattle.promises_of_units.specs.Units.Unit.{works-on}
use Rattle.promises_of_sharing.specs.Shared.{Spent, IsBound}
use Rattle.promises_of_sharing.proofs.Shared.{destroying_a_name_leaves_the_others, an-import-is-a-second-name}
use Rattle.promises_of_sharing.specs.SharedTokens.{not-both}
use Rattle.promises_of_sharing.proofs.SharedTokens.{go-on-same, go-on-both, tokens-stay}
use Rattle.promises_of_sharing.specs.BoundTokens.{DestroyOfItsLastName}
use Rattle.promises_of_sharing.proofs.BoundTokens.{a-bound-token-is-spent-only-by-its-release-or-with-its-last-name}
use Rattle.promises_of_sharing.specs.SharedPackets.{when-an-import-is-accepted}
use Rattle.promises_of_sharing.proofs.SharedPackets.{when-a-release-is-accepted}
use Rattle.promises_of_sharing.specs.TokensOverCalls.{CalledOn}
use Rattle.promises_of_sharing.specs.PacketsTaken.{Taken, packets_since, Carries, InWork}
use Rattle.promises_of_sharing.proofs.PacketsTaken.{carried-between-resets, carried-in-work}
use Rattle.promises_of_sharing.specs.TokenLives.{BoundIsFound, Came, Exports, ImportAccepted, LiveOver, Some, Spends, TokensLive, WorksOn, bound-followed, bound-is-found, fine-not-broken, found-is-bound, held_now, some-either, some-front, some_back}

-- ---- what becomes of a token

lives-same : (ts : List Token) → TokensLive [] ts ts
unfolding Some
lives-same ts = record { lives = λ token. ⊎_elim (λ b. inl b) (λ n. absurd n); spent = λ token n. absurd n; came = λ token b. inl b; goes_on = go-on-same ts }

lives-both : (xs ys : List Taken) (a b c : List Token) → TokensLive xs a b → TokensLive ys b c → TokensLive (ys ++ xs) a c
lives-both xs ys a b c first second =
    record {
      lives = λ token h.
          ⊎_elim (λ q. from-there token (inl q)) (λ e. ⊎_elim (λ y. from_second token (inr y)) (λ x. from-there token (inr x)) (some-either (Exports token) ys xs e)) h;
      spent = λ token h. ⊎_elim (λ y. second.spent token y) (λ x. second.goes_on.spent token (first.spent token x)) (some-either (Spends token) ys xs h);
      came = λ token h.
          ⊎_elim (λ q. ⊎_elim (λ z. inl z) (λ x. inr (some_back (Exports token) ys xs x)) (first.came token q)) (λ y. inr (some-front (Exports token) ys xs y)) (second.came token h);
      goes_on = go-on-both a b c first.goes_on second.goes_on;
    }
  where
    from_second : (token : ℕ) → IsBound token b ⊎ Some (Exports token) ys → IsBound token c ⊎ Some (Spends token) (ys ++ xs)
    from_second token h = ⊎_elim (λ q. inl q) (λ y. inr (some-front (Spends token) ys xs y)) (second.lives token h)

    from-there : (token : ℕ) → IsBound token a ⊎ Some (Exports token) xs → IsBound token c ⊎ Some (Spends token) (ys ++ xs)
    from-there token h = ⊎_elim (λ q. from_second token (inl q)) (λ x. inr (some_back (Spends token) ys xs x)) (first.lives token h)

-- ---- each packet that is accepted

module _ (es : List Entry) (h : Progress) (s : SoundProgress es h) where
  -- an export binds its token
  bound-with : (c : ExportSurface) (r : Resource) → Exported h c.handle c.token r → IsBound c.token (with_token c.token r.lowest h.tokens)
  bound-with c r x = by_found (lookup token_of c.token h.tokens) refl x.same
    where
      some : r.lowest ≡ no_name → ⊥
      some = low-some h.holdings.resources s.holdings.resources.once s.holdings.resources.some s.holdings.resources.names c.handle r x.named

      by_found : (f : Found Token) → lookup token_of c.token h.tokens ≡ f → of_another f r.lowest ≡ false
          → IsBound c.token (pick (is_new f) (pushed h.tokens (record { name = r.lowest; token = c.token })) h.tokens)
      by_found none e o = (record { name = r.lowest; token = c.token }, lookup-pushed-same token_of c.token h.tokens (record { name = r.lowest; token = c.token }) e refl, some)
      by_found (found t) e o = (t, e, λ z. some (sym (eqb-true t.name r.lowest (not-false (eqb t.name r.lowest) o)) ∙ z))

  pub an-export-binds : (c : ExportSurface) → (pass es h (Export c)).verdict ≡ Ok tt → IsBound c.token (pass es h (Export c)).held.tokens
  unfolding pass apply target_after tokens_after
  an-export-binds c =
      export-or (λ (o : Outcome). o.verdict ≡ Ok tt → IsBound c.token (passed (Export c) h o).held.tokens) h (λ r e. absurd (fine-not-broken r e)) c
      (λ r x _. rw x.named (bound-with c r x))

  -- an accepted release finds its token bound
  released-was-bound : (c : ReleaseToken) → (pass es h (Release c)).verdict ≡ Ok tt → (r : Resource) × (bound c.token h.tokens h.holdings.resources ≡ found r)
  unfolding pass apply target_after tokens_after
  released-was-bound c =
      release-or (λ (o : Outcome). o.verdict ≡ Ok tt → (r : Resource) × (bound c.token h.tokens h.holdings.resources ≡ found r)) h.holdings
      (λ r e. absurd (fine-not-broken r e)) h.tokens c (λ r e _. (r, e))

  a_release_spends : (c : ReleaseToken) → (pass es h (Release c)).verdict ≡ Ok tt → Spent c.token (pass es h (Release c)).held.tokens
  a_release_spends c v = let b = released-was-bound c v in (when-a-release-is-accepted es h c).spends_it b.0 b.1

  a_packet_spends : (token : ℕ) (p : Packet) → (pass es h p).verdict ≡ Ok tt → Spends token (record { before = h; packet = p }) → Spent token (pass es h p).held.tokens
  a_packet_spends token p v (inl e) =
      subst (λ (i : Packet). Spent token (pass es h i).held.tokens) (sym e) (a_release_spends (record { token = token }) (subst (λ (i : Packet). (pass es h i).verdict ≡ Ok tt) e v))
  a_packet_spends token p v (inr d) =
      subst (λ (i : Packet). Spent token (pass es h i).held.tokens) (sym d.is)
      ((destroying_a_name_leaves_the_others es h s d.what (subst (λ (i : Packet). (pass es h i).verdict ≡ Ok tt) d.is v)).last_spends
      d.last_name.last token d.last_name.its-name)

  -- ---- where a token that is bound after a packet came from

  module _ (token : ℕ) where
    came-destroyed : (k : ℕ) (r : Resource) → live k h.holdings ≡ found r → IsBound token (tokens_left r (without k h.holdings) h.tokens) → IsBound token h.tokens
    came-destroyed k r e =
        bound-followed token r.lowest (lowest_left r.lowest (without k h.holdings)) h.tokens (tokens_left r (without k h.holdings) h.tokens)
        (low-some (held_now es h s) s.holdings.resources.once s.holdings.resources.some s.holdings.resources.names k r e)
        (token-after-destroy (held_now es h s) s.holdings.resources.once s.holdings.resources.some s.holdings.resources.names k r e h.tokens s.tokens token)

    came-imported : (k other : ℕ) (r : Resource) → Imported h k other r → IsBound token (tokens_with k r h.tokens) → IsBound token h.tokens
    came-imported k other r i =
        let t : BoundTo other h.tokens (held_now es h s) r = sound-bound other h.tokens (held_now es h s) r s.tokens i.bound-to in
        bound-followed token r.lowest (lower k r.lowest) h.tokens (tokens_with k r h.tokens)
        (λ z. none-not-found r (sym s.holdings.resources.some ∙ (ap (λ n. lookup handle_of n (held_now es h s)) (sym z) ∙ t.lowest)))
        (token-after-import (held_now es h s) s.holdings.resources.names k i.unused r t.lowest t.shape s.holdings.resources.some h.tokens s.tokens token)

    came-exported : (c : ExportSurface) (name : ℕ) → (Came es h s token) (Export c) (with_token c.token name h.tokens)
    came-exported c name = by_found (lookup token_of c.token h.tokens) refl
      where
        by_found : (f : Found Token) → lookup token_of c.token h.tokens ≡ f
            → (Came es h s token) (Export c) (pick (is_new f) (pushed h.tokens (record { name = name; token = c.token })) h.tokens)
        by_found none e b =
            ⊎_elim (λ u. inr (c.handle, ap (λ i. Export (record { handle = c.handle; token = i })) u))
            (λ u. inl (b.0, sym (lookup-pushed-other token_of token h.tokens (record { name = name; token = c.token }) u) ∙ b.1, b.2))
            (same_or_not c.token token)
        by_found (found t) e b = inl b

    came-released : (other : ℕ) (r : Resource) → bound other h.tokens (held_now es h s) ≡ found r → IsBound token (without_token other h.tokens) → IsBound token h.tokens
    came-released other r e b =
        let t = bound-is other h.tokens (held_now es h s) r e in
        ⊎_elim
        (λ u. absurd (b.2 (ap (λ (x : Token). x.name) (found-same (sym b.1 ∙ (ap (λ i. lookup token_of i (without_token other h.tokens)) u ∙ lookup-released other h.tokens t.0 t.1))))))
        (λ u. (b.0, sym (lookup-unreleased other h.tokens t.0 t.1 token u) ∙ b.1, b.2))
        (same_or_not token other)

    came_from : (p : Packet) → (Came es h s token) p (pass es h p).held.tokens
    unfolding pass apply target_after tokens_after
    came_from (Buffer c) b = inl b
    came_from (Texture c) b = inl b
    came_from (Destroy c) b =
        destroy-or (λ (o : Outcome). (Came es h s token) (Destroy c) (passed (Destroy c) h o).held.tokens) h.holdings (λ _ x. inl x) c
        (λ r e. rw e (λ x. inl (came-destroyed c.handle r e x))) b
    came_from (Dirty c) b = inl b
    came_from (Copy c) b = inl b
    came_from (Target c) b = inl b
    came_from (Viewport v) b = inl b
    came_from (Scissor c) b = inl b
    came_from (Clear c) b = inl b
    came_from (Export c) b =
        export-or (λ (o : Outcome). (Came es h s token) (Export c) (passed (Export c) h o).held.tokens) h (λ _ x. inl x) c
        (λ r x. rw x.named (came-exported c r.lowest)) b
    came_from (Import c) b =
        import-or (λ (o : Outcome). (Came es h s token) (Import c) (passed (Import c) h o).held.tokens) h.holdings (λ _ x. inl x) h.tokens c
        (λ r some unused e room. rw e (λ x. inl (came-imported c.handle c.token r (record { some = some; unused = unused; bound-to = e; room = room }) x))) b
    came_from (Release c) b =
        release-or (λ (o : Outcome). (Came es h s token) (Release c) (passed (Release c) h o).held.tokens) h.holdings (λ _ x. inl x) h.tokens c
        (λ r e x. inl (came-released c.token r e x)) b
    came_from NotANumber b = inl b
    came_from Unknown b = inl b

  -- whatever the packet
  lives-packet : (p : Packet) → (pass es h p).verdict ≡ Ok tt → TokensLive (record { before = h; packet = p } ∷ []) h.tokens (pass es h p).held.tokens
  unfolding Some
  lives-packet p v =
      record {
        lives = λ token. ⊎_elim (λ b. from-bound token b) (λ e. ⊎_elim (λ x. inl (from-export token x)) (λ n. absurd n) e);
        spent = λ token. ⊎_elim (λ x. a_packet_spends token p v x) (λ n. absurd n);
        came = λ token b. ⊎_elim (λ x. inl x) (λ x. inr (inl x)) (came_from token p b);
        goes_on = (tokens-stay es h s p).goes_on;
      }
    where
      from-bound : (token : ℕ) → IsBound token h.tokens → IsBound token (pass es h p).held.tokens ⊎ (Spends token (record { before = h; packet = p }) ⊎ ⊥)
      from-bound token b = ⊎_elim (λ q. inl q) (λ q. inr (inl q)) (a-bound-token-is-spent-only-by-its-release-or-with-its-last-name es h s token b p)

      from-export : (token : ℕ) → Exports token (record { before = h; packet = p }) → IsBound token (pass es h p).held.tokens
      from-export token x =
          subst (λ (i : Packet). IsBound token (pass es h i).held.tokens) (sym x.1)
          (an-export-binds (record { handle = x.0; token = token }) (subst (λ (i : Packet). (pass es h i).verdict ≡ Ok tt) x.1 v))

-- ---- over any calls between resets

pub live-over : Carries LiveOver
live-over =
    record {
      same = λ b. lives-same b.tokens;
      both = λ xs ys a b c. lives-both xs ys a.tokens b.tokens c.tokens;
      packet = λ es h s p v. lives-packet es h s p v;
    }

-- of any device made and called, over any calls but resets, each lent any memory: the packets that count are those of the submissions answered good since
pub tokens-live-between-resets : (s t : State) (k : Called s) (q : CalledOn s t) → TokensLive (packets_since s t k q).by_good s.belongings.tokens t.belongings.tokens
tokens-live-between-resets s t k q = carried-between-resets LiveOver live-over s t k q

-- so a token of the device's own that is bound stays bound exactly if no submission answered good spends it
pub a-token-stays-bound-exactly : (s t : State) (k : Called s) (q : CalledOn s t) (token : ℕ) → IsBound token s.belongings.tokens
    → ((Some (Spends token) (packets_since s t k q).by_good → ⊥) → IsBound token t.belongings.tokens)
    × (IsBound token t.belongings.tokens → Some (Spends token) (packets_since s t k q).by_good → ⊥)
a-token-stays-bound-exactly s t k q token b =
    let l : TokensLive (packets_since s t k q).by_good s.belongings.tokens t.belongings.tokens = tokens-live-between-resets s t k q in (
      λ none-does. ⊎_elim (λ x. x) (λ x. absurd (none-does x)) (l.lives token (inl b)),
      λ x y. not-both token t.belongings.tokens (l.spent token y) x,
    )

-- and while a later submission is in work: those, and its own so far
pub tokens-live-in-work : (s t : State) (k : Called s) (q : CalledOn s t) (j : Job) (r : Stream) (at : ℕ) (es : List Entry) (h : Progress) → t.work ≡ packets j r at es h
    → TokensLive ((packets_since s t k q).in_work ++ (packets_since s t k q).by_good) s.belongings.tokens h.tokens
tokens-live-in-work s t k q j r at es h e =
    lives-both (packets_since s t k q).by_good (packets_since s t k q).in_work s.belongings.tokens t.belongings.tokens h.tokens
    (tokens-live-between-resets s t k q)
    (subst (InWork LiveOver live-over (packets_since s t k q).in_work t.belongings) e (carried-in-work LiveOver live-over s t k q))

-- ---- "a token bound to a live resource": what the promises say and what import's own test finds are one

pub bound-exactly-if-found : (s : State) → Called s → (token : ℕ) → BoundIsFound token s
bound-exactly-if-found s k token =
    let sound : SoundTokens s.belongings.resources s.belongings.tokens = (called-sound s k).belongings.tokens in
    record {
      found-if-bound = bound-is-found token s.belongings.tokens s.belongings.resources sound;
      bound-if-found = found-is-bound token s.belongings.tokens s.belongings.resources sound;
    }

-- ---- so an import in a later submission is accepted, and its handle is one more name of that resource

pub an-import-of-a-bound-token : (es : List Entry) (h : Progress) → SoundProgress es h → (c : ImportSurface)
    → IsBound c.token h.tokens → (c.handle ≡ 0 → ⊥) → live c.handle h.holdings ≡ none → length h.holdings.resources < most → ImportAccepted es h c
an-import-of-a-bound-token es h s c b some free room =
    let r = bound-is-found c.token h.tokens h.holdings.resources s.tokens b in
    let fine : (pass es h (Import c)).verdict ≡ Ok tt = ap (λ (o : Passed). o.verdict) ((when-an-import-is-accepted es h c).second_name some free r.0 r.1 room) in
    record { accepted = fine; second_name = an-import-is-a-second-name es h s c fine }

pub an-accepted-import-works-on : (w : World) (j : Job) (r : Stream) (at : ℕ) (es : List Entry) (h : Progress) → w.state.work ≡ packets j r at es h
    → (op size : ℕ) → frame_of (left w.mem r at) ≡ Ok (op, size) → (c : ImportSurface) → packet_of op (take size (left w.mem r at)) ≡ Import c
    → ImportAccepted es h c → WorksOn w j r at es h c
unfolding take_packet
an-accepted-import-works-on w j r at es h e op size framed c is a =
    let taken : take_packet es h (left w.mem r at) ≡ pass es h (Import c) = ap (pass_frame es h (left w.mem r at)) framed ∙ ap (pass es h) is in
    let next : Next w (packets j r at es h) (packets_at j r (next_place at (left w.mem r at)) es (take_packet es h (left w.mem r at)).held) =
    (ap (λ (o : Passed). o.verdict) taken ∙ a.accepted, refl) in
    record {
      next =
          unit-is-step w _ (works-on _ (subst (λ (k : Work). Next w k (packets_at j r (next_place at (left w.mem r at)) es (take_packet es h (left w.mem r at)).held)) (sym e) next))
          ∙ ap (λ (o : Passed). working (packets_at j r (next_place at (left w.mem r at)) es o.held) w) taken;
      second_name = a.second_name;
    }
