-- The theorems of specs/TokensOverCalls.antt, and what they rest on. Assumes nothing.
use Rattle.std.specs.Prelude.{◌≡◌, Bool, List, [], ℕ, zero, suc, ◌≤◌, ltb, length}
use Rattle.std.proofs.Math.Path.{refl}
use Rattle.std.proofs.Common.{sym, ap, subst}
use Rattle.std.proofs.Math.Bool.{true, false}
use native.Mathlib.Omega.{arith}
use Rattle.machine.specs.Machine.{pick, run_none, run-stop, run-go}
use Rattle.rules.specs.Numbers.{most_tokens}
use Rattle.rules.specs.Lists.Found.{found}
use Rattle.rules.specs.Layouts.{stream_header_size}
use Rattle.rules.specs.Stream.{left}
use Rattle.rules.specs.Table.{take_entry}
use Rattle.rules.specs.Packets.{Progress, Belongings, at_first, bound, take_packet}
use Rattle.rules.specs.State.{Work, State, World, nothing_owned}
use Rattle.rules.specs.State.Work.{resting, entries, packets, waiting}
use Rattle.rules.specs.Registers.{reset}
use Rattle.rules.specs.Settle.{settled}
use Rattle.rules.specs.Steps.{packets_at, entries_at, go, step, run_for, answer_on, answered}
use Rattle.rules.specs.Calls.{Ran, call_write}
use Rattle.rules.specs.declared.Entry.{Entry}
use Rattle.rules.specs.declared.Job.{Job}
use Rattle.rules.specs.declared.Opened.{Opened}
use Rattle.rules.specs.declared.Resource.{Resource}
use Rattle.rules.specs.declared.Stream.{Stream}
use Rattle.rules.specs.declared.Token.{Token}
use Rattle.rules.specs.Loaded.{loaded_sections, loaded}
use Rattle.promises_of_packets.proofs.SoundNames.{two-names-shareable, sound-bound}
use Rattle.promises_of_packets.specs.Held.{SoundProgress}
use Rattle.promises_of_units.specs.Called.{Call, after, Called, is_reset}
use Rattle.promises_of_units.specs.Called.Call.{writes, reads, runs, records, answers}
use Rattle.promises_of_units.specs.Called.Called.{makes, loads, calls}
use Rattle.promises_of_units.specs.Sound.{SoundWork, SoundState}
use Rattle.promises_of_units.proofs.Sound.{step-keeps-sound, answer-keeps-sound}
use Rattle.promises_of_units.proofs.Ranges.{call-keeps-sound, called-sound}
use Rattle.promises_of_units.specs.Runs.{of-run, of-answer}
use Rattle.promises_of_units.specs.Units.{Next, Unit}
use Rattle.promises_of_units.proofs.Units.{unit}
use Rattle.promises_of_units.specs.Units.Unit.{works-on, finds-bad-ring, finds-no-work, settles}
use Rattle.promises_of_units.specs.Writes.{resets, Written, write-keeps-or-drops, reset-drops}
use Rattle.promises_of_units.specs.Writes.Written.{keeps, drops}
use Rattle.promises_of_sharing.specs.Shared.{OneResource, OneMipOneLayer, shareable-is-one-mip-one-layer}
use Rattle.promises_of_sharing.specs.SharedTokens.{TokensGoOn}
use Rattle.promises_of_sharing.proofs.SharedTokens.{go-on-same, go-on-both, tokens-stay-in-a-stream}
use Rattle.promises_of_sharing.specs.TokensOverCalls.{CalledOn, Onward, WorkGoesOn, its}
use Rattle.promises_of_sharing.specs.TokensOverCalls.CalledOn.{calls-on, not_yet}

-- ---- the tokens of a submission in work go on from the device's

packets-go-on : (ts : List Token) (j : Job) (t : Stream) (at : ℕ) (es : List Entry) (h : Progress) → TokensGoOn ts h.tokens → WorkGoesOn ts (packets_at j t at es h)
packets-go-on ts j t at es h g = by_test (ltb at t.size)
  where
    by_test : (b : Bool) → WorkGoesOn ts (pick b (packets j t at es h) (waiting j es h))
    by_test true = g
    by_test false = g

entries-go-on : (o : Opened) (kept : List Entry) (owned : Belongings) → WorkGoesOn owned.tokens (entries_at o kept owned)
entries-go-on o kept owned = by_test (ltb (length kept) o.table.count)
  where
    by_test : (b : Bool) → WorkGoesOn owned.tokens (pick b (entries o kept) (packets_at o.job o.stream stream_header_size kept (at_first owned)))
    by_test true = omega arith
    by_test false = packets-go-on owned.tokens o.job o.stream stream_header_size kept (at_first owned) (go-on-same owned.tokens)

module _ (w : World) where
  next-goes-on : (k next : Work) → Next w k next → SoundWork k → WorkGoesOn (its w) k → WorkGoesOn (its w) next
  next-goes-on resting next h s g = subst (WorkGoesOn (its w)) (sym h.first) (entries-go-on h.what [] w.state.belongings)
  next-goes-on (entries o kept) next h s g = subst (WorkGoesOn (its w)) (sym h.1) (entries-go-on o (take_entry w.mem o.table kept).kept w.state.belongings)
  next-goes-on (packets j t at es h') next h s g =
      let b : List ℕ = left w.mem t at in
      subst (WorkGoesOn (its w)) (sym h.1)
      (packets-go-on (its w) j t _ es (take_packet es h' b).held
      (go-on-both (its w) h'.tokens (take_packet es h' b).held.tokens g (tokens-stay-in-a-stream es h' s.1 b).goes_on))
  next-goes-on (waiting j es h') next h s g = subst (WorkGoesOn (its w)) (sym h) g

-- ---- a device whose tokens go on from some

module _ (ts : List Token) where
  by-unit : (w w' : World) → Unit w w' → SoundState w'.state → Onward ts w.state → Onward ts w'.state
  unfolding settled
  by-unit w w' (works-on next h) s k = record { sound = s; tokens = k.tokens; work = next-goes-on w w.state.work next h k.sound.work k.work }
  by-unit w w' (finds-bad-ring e h) s k = record { sound = s; tokens = k.tokens; work = k.work }
  by-unit w w' (finds-no-work e h) s k = record { sound = s; tokens = k.tokens; work = k.work }
  by-unit w w' (settles j f h) s k = record { sound = s; tokens = k.tokens; work = omega arith }

  pub step-onward : (w : World) → Onward ts w.state → Onward ts (step w).state
  step-onward w k = by-unit w (step w) (unit w) (step-keeps-sound w k.sound) k

  run-onward : (n : ℕ) (w : World) → Onward ts w.state → Onward ts (run_for n w).state.state
  run-onward zero w k = rw (run_none go step w) k
  run-onward (suc n) w k = by_test (go w) refl (run-onward n (step w) (step-onward w k))
    where
      by_test : (b : Bool) → go w ≡ b → Onward ts (run_for n (step w)).state.state → Onward ts (run_for (suc n) w).state.state
      by_test true g q = rw (run-go go step n w g) q
      by_test false g q = rw (run-stop go step (suc n) w g) k

  pub answer-onward : (good : Bool) (w : World) → Onward ts w.state → Onward ts (answered good w).state
  unfolding answered settled
  answer-onward good w k = by-work good w.state.work refl (answer-keeps-sound good w k.sound)
    where
      by-work : (good : Bool) (x : Work) → w.state.work ≡ x → SoundState (answer_on good w x).state → Onward ts (answer_on good w x).state
      by-work good resting e s = k
      by-work good (entries o kept) e s = k
      by-work good (packets j t at es h) e s = k
      by-work true (waiting j es h) e s =
          record { sound = s; tokens = go-on-both ts w.state.belongings.tokens h.tokens k.tokens (subst (WorkGoesOn w.state.belongings.tokens) e k.work); work = omega arith }
      by-work false (waiting j es h) e s = record { sound = s; tokens = k.tokens; work = omega arith }

  by_written : (s s' : State) (offset v : ℕ) → resets offset v ≡ false → Written s offset v s' → SoundState s' → Onward ts s → Onward ts s'
  by_written s s' offset v n = by-kind s'
    where
      by-kind : (x : State) → Written s offset v x → SoundState x → Onward ts s → Onward ts x
      by-kind x (keeps r h c e) sound k = record { sound = sound; tokens = k.tokens; work = k.work }
      by-kind x (drops h) sound k = absurd (let z : ◌≡◌ {A = ℕ} 0 1 = cc in omega arith)

  -- any call but a reset
  pub call-onward : (c : Call) (w : World) → is_reset c ≡ false → Onward ts w.state → Onward ts (after c w).state
  unfolding after
  call-onward (writes offset v) w n k =
      by_written w.state (call_write w.state offset v).state offset v n (write-keeps-or-drops w.state offset v)
      (call-keeps-sound (writes offset v) w k.sound) k
  call-onward (reads offset) w n k = k
  call-onward (runs i) w n k = of-run (λ (r : Ran). Onward ts r.world.state) w i (λ e. k) (λ e. run-onward i w k)
  call-onward (records i) w n k = k
  call-onward (answers good i) w n k =
      of-answer (λ (r : Ran). Onward ts r.world.state) w good i (λ e. k) (λ e f. k) (λ e f. run-onward i (answered good w) (answer-onward good w k))

-- ---- any device made and called

-- after a reset nothing is in work
pub a-reset-drops-the-work : (c : Call) (w : World) → is_reset c ≡ true → (after c w).state.work ≡ resting
unfolding after reset
a-reset-drops-the-work (writes offset v) w y = ap (λ (x : State). x.work) (reset-drops w.state offset v y)
a-reset-drops-the-work (reads offset) w y = absurd (let z : ◌≡◌ {A = ℕ} 0 1 = cc in omega arith)
a-reset-drops-the-work (runs n) w y = absurd (let z : ◌≡◌ {A = ℕ} 0 1 = cc in omega arith)
a-reset-drops-the-work (records i) w y = absurd (let z : ◌≡◌ {A = ℕ} 0 1 = cc in omega arith)
a-reset-drops-the-work (answers good n) w y = absurd (let z : ◌≡◌ {A = ℕ} 0 1 = cc in omega arith)

forgotten : (c : Call) (w : World) → is_reset c ≡ true → SoundState w.state → Onward (after c w).state.belongings.tokens (after c w).state
forgotten c w y s =
    record {
      sound = call-keeps-sound c w s;
      tokens = go-on-same (after c w).state.belongings.tokens;
      work = subst (WorkGoesOn (after c w).state.belongings.tokens) (sym (a-reset-drops-the-work c w y)) (omega arith);
    }

-- what is in work has tokens that go on from the device's
pub called-work-goes-on : (s : State) → Called s → Onward s.belongings.tokens s
unfolding loaded loaded_sections
called-work-goes-on s (makes memory) = record { sound = called-sound s (makes memory); tokens = go-on-same []; work = omega arith }
called-work-goes-on s (loads b good) = record { sound = called-sound s (loads b good); tokens = go-on-same (loaded b).belongings.tokens; work = omega arith }
called-work-goes-on s (calls {s = t} c m k) = by-reset c (is_reset c) refl (called-work-goes-on t k)
  where
    again : (x : State) → Onward t.belongings.tokens x → Onward x.belongings.tokens x
    again x o = record { sound = o.sound; tokens = go-on-same x.belongings.tokens; work = o.work }

    by-reset : (c : Call) (b : Bool) → is_reset c ≡ b → Onward t.belongings.tokens t
        → Onward (after c (record { state = t; mem = m })).state.belongings.tokens (after c (record { state = t; mem = m })).state
    by-reset c false e o = again _ (call-onward t.belongings.tokens c (record { state = t; mem = m }) e o)
    by-reset c true e o = forgotten c (record { state = t; mem = m }) e o.sound

pub tokens-go-on-between-resets : (s t : State) → Called s → CalledOn s t → TokensGoOn s.belongings.tokens t.belongings.tokens
tokens-go-on-between-resets s t k q = (onward t q).tokens
  where
    onward : (x : State) → CalledOn s x → Onward s.belongings.tokens x
    onward x not_yet = called-work-goes-on s k
    onward x (calls-on {t = y} d c n m) = call-onward s.belongings.tokens c (record { state = y; mem = m }) n (onward y d)

-- "forgotten at reset"
pub a-reset-forgets-the-tokens : (s : State) (offset v : ℕ) → resets offset v ≡ true → (call_write s offset v).state.belongings ≡ nothing_owned
unfolding reset
a-reset-forgets-the-tokens s offset v y = ap (λ (x : State). x.belongings) (reset-drops s offset v y)

-- at most 256 tokens are kept, and a shared resource is a texture of one mip and one layer
pub at-most-256-tokens : (s : State) → Called s → length s.belongings.tokens ≤ most_tokens
at-most-256-tokens s k = (called-sound s k).belongings.tokens.few

pub shared-is-one-mip-one-layer : (s : State) → Called s → (a b : ℕ) (o : OneResource s.belongings.resources a b) → (a ≡ b → ⊥) → OneMipOneLayer o.first.kind
shared-is-one-mip-one-layer s k a b o other =
    shareable-is-one-mip-one-layer o.first.kind
    (two-names-shareable s.belongings.resources (called-sound s k).belongings.resources.names a b o.first o.second o.here o.there o.same other)

pub bound-is-one-mip-one-layer : (s : State) → Called s → (token : ℕ) (r : Resource) → bound token s.belongings.tokens s.belongings.resources ≡ found r → OneMipOneLayer r.kind
bound-is-one-mip-one-layer s k token r e =
    shareable-is-one-mip-one-layer r.kind (sound-bound token s.belongings.tokens s.belongings.resources r (called-sound s k).belongings.tokens e).shape

-- and while its packets are judged, what a submission holds is sound: so what is said of sound progress is said of it
pub what-is-held-is-sound : (s : State) → Called s → (j : Job) (t : Stream) (at : ℕ) (es : List Entry) (h : Progress) → s.work ≡ packets j t at es h → SoundProgress es h
what-is-held-is-sound s k j t at es h e = let here : SoundWork (packets j t at es h) = subst SoundWork e (called-sound s k).work in here.1
