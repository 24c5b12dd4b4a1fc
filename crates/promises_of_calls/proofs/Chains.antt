-- The theorems of specs/Chains.antt, and what they rest on. Assumes nothing.
use Rattle.std.specs.Prelude.{◌≡◌, refl, Bool, ℕ, ◌+◌}
use Rattle.std.proofs.Math.Path.{sym}
use Rattle.std.proofs.Common.{ap, subst, ◌∙◌, zero-add, add-zero}
use mathlib.Core.List.{List, [], ◌++◌, append-nil}
use Rattle.machine.specs.Schedule.{Played}
use Rattle.rules.specs.State.{World}
use Rattle.promises.specs.Slicing.{NoWrite}
use Rattle.promises.proofs.Slicing.{same-units-same-answers}
use Rattle.promises_of_submissions.specs.Night.{Clear, Night}
use Rattle.promises_of_submissions.proofs.Night.{finished_or_waiting_is_unsliced}
use Rattle.promises_of_units.specs.Called.{Call, units_of, taken_by, after_all, units_of_all, taken_by_all}
use Rattle.promises_of_units.specs.Acts.{acts_of, acts_of_all, units_in, NoReset}
use Rattle.promises.specs.Chains.{Served, counted, given, Stands}
use Rattle.promises.specs.Chains.Rest.{none_left}
use Rattle.promises.specs.Chains.Next.{none_begun}
use Rattle.promises.proofs.ChainsStand.{calls-stand, clear_calls_are_unsliced, units-add-up, answers-are-those-given, same-acts-same-world}
use Rattle.promises_of_units.specs.Events.{Event, History}
use Rattle.promises_of_units.proofs.Events.{calls-have-events}
use Rattle.promises_of_units.specs.Bytes.{WrittenBy}
use Rattle.promises_of_units.proofs.Bytes.{calls-write}
use Rattle.promises_of_units.specs.Changes.{Says}
use Rattle.promises_of_units.proofs.Changes.{calls-say}
use Rattle.promises_of_calls.specs.Layers.{Layer, standing}
use Rattle.promises_of_calls.specs.Calls.{CallMade, AsCall}
use Rattle.promises_of_calls.proofs.Calls.{call-is-the-rules}
use Rattle.promises_of_calls.specs.Chains.{AsCalls, Chain, Plays, acts_said, answers_taken, calls-play, units_said}
use Rattle.promises_of_calls.specs.Chains.Chain.{call_then, no_call}

-- ---- a chain is the rules' calls

-- of every chain
pub chain-is-calls : {L : Layer} {d d' : L.Device} {m m' : List ℕ} {cs : List Call} (k : Chain L d m cs d' m') → AsCalls k
unfolding units_said answers_taken acts_said after_all units_of_all taken_by_all acts_of_all
chain-is-calls no_call = record { world = refl; units = refl; taken = refl; acts = refl }
chain-is-calls {L} {d} {d'} {m} {m'} (call_then {d₁ = d₁} {m₁ = m₁} {c = c} {cs = cs} x k later) =
    let rest : AsCalls later = chain-is-calls later in
    let one : CallMade L c = record { of = d; over = m; said = x; leaves = d₁; memory = m₁; gives = k } in
    let here : AsCall one = call-is-the-rules one in
    record {
      world = rest.world ∙ ap (after_all cs) here.world;
      units = ap (λ n. n + units_said later) here.units ∙ ap (λ n. units_of c (standing L d m) + n) (rest.units ∙ ap (units_of_all cs) here.world);
      taken = ap (λ l. l ++ answers_taken later) here.taken ∙ ap (λ l. taken_by c (standing L d m) ++ l) (rest.taken ∙ ap (taken_by_all cs) here.world);
      acts = ap (λ l. l ++ acts_said later) here.acts ∙ ap (λ l. acts_of c (standing L d m) ++ l) (rest.acts ∙ ap (acts_of_all cs) here.world);
    }

-- ---- the theorems about lists of calls, of a chain

module _ {L : Layer} {d d' : L.Device} {m m' : List ℕ} {cs : List Call} (k : Chain L d m cs d' m') where
  chain-plays : NoWrite cs → Plays (standing L d m) (record { state = standing L d' m'; units = units_said k; accepted = answers_taken k })
  chain-plays n = let it : AsCalls k = chain-is-calls k in rw (it.world, it.units, it.taken) (calls-play cs (standing L d m) n)

  -- wherever a chain without a write that began with nothing in the midst stands so again, whole submissions of the unsliced rules have led
  -- there with the answers taken, and the units said are their count
  pub chain_is_unsliced : NoWrite cs → Clear (standing L d m) → Clear (standing L d' m') → Night (standing L d m) (answers_taken k) (units_said k) (standing L d' m')
  chain_is_unsliced n c e =
      let p : Plays (standing L d m) (record { state = standing L d' m'; units = units_said k; accepted = answers_taken k }) = chain-plays n in
      subst (λ (x : Played World Bool). Night (standing L d m) x.accepted x.units x.state) p.1
      (finished_or_waiting_is_unsliced p.0 (standing L d m) c (subst (λ (x : Played World Bool). Clear x.state) (sym p.1) e))

  -- without a reset, but with any other writes: it stands in the midst of what was in work where it began; or past the end of that, through
  -- whole submissions of the unsliced rules, some way into the next
  pub chain-stands : NoReset cs → Stands (standing L d m) (acts_said k) (standing L d' m')
  chain-stands n = let it : AsCalls k = chain-is-calls k in rw (it.world, it.acts) (calls-stand cs (standing L d m) n)

  says-served : (s : Served (standing L d m) (acts_said k) (standing L d' m')) → Clear (standing L d m) → (units_said k ≡ counted s) × (answers_taken k ≡ given s)
  unfolding units_in
  says-served s c =
      let it : AsCalls k = chain-is-calls k in
      let parts : acts_of_all cs (standing L d m) ≡ acts_said k ++ [] = sym (append-nil (acts_said k) ∙ it.acts) in (
        it.units ∙ (units-add-up cs (standing L d m) [] [] parts s ∙ simp (zero-add, add-zero)),
        it.taken ∙ answers-are-those-given cs (standing L d m) [] [] parts s (none_left c) none_begun,
      )

  -- and where it began and stands with nothing in the midst, through whole submissions alone, of which the units said are the count and
  -- between which the answers taken were given
  pub chain-serves : NoReset cs → Clear (standing L d m) → Clear (standing L d' m')
      → (s : Served (standing L d m) (acts_said k) (standing L d' m')) × (units_said k ≡ counted s) × (answers_taken k ≡ given s)
  chain-serves n c e =
      let it : AsCalls k = chain-is-calls k in
      let s : Served (standing L d m) (acts_said k) (standing L d' m') =
      rw (it.world, it.acts) (clear_calls_are_unsliced cs (standing L d m) n c (subst Clear it.world e)) in
      let says : (units_said k ≡ counted s) × (answers_taken k ≡ given s) = says-served s c in
      (s, says.0, says.1)

  -- it has events, and its memory is what their settlings wrote over what stood there
  pub chain-bytes : (es : List Event) × History (standing L d m) cs es (standing L d' m') × WrittenBy (standing L d m) es (standing L d' m')
  chain-bytes =
      let it : AsCalls k = chain-is-calls k in
      let e : (es : List Event) × History (standing L d m) cs es (after_all cs (standing L d m)) = calls-have-events cs (standing L d m) in
      let h : History (standing L d m) cs e.0 (standing L d' m') = subst (History (standing L d m) cs e.0) (sym it.world) e.1 in
      (e.0, h, calls-write (standing L d m) cs e.0 (standing L d' m') h)

  -- and its completed fence, error registers and resources are what the events made of those before
  pub chain-says : (es : List Event) × History (standing L d m) cs es (standing L d' m') × Says (L.state d) es (L.state d')
  chain-says =
      let b : (es : List Event) × History (standing L d m) cs es (standing L d' m') × WrittenBy (standing L d m) es (standing L d' m') = chain-bytes in
      (b.0, b.1, calls-say (standing L d m) cs b.0 (standing L d' m') b.1)

-- ---- two chains, of one layer or of two, that began in the same state with the same memory

module _ {L M : Layer} {d d' : L.Device} {e e' : M.Device} {m m' n n' : List ℕ} {cs ds : List Call}
    (a : Chain L d m cs d' m') (b : Chain M e n ds e' n') (start : standing L d m ≡ standing M e n) where
  -- without a write in either: where their calls said the same units and the same answers were taken, they stand in the same state with the
  -- same memory
  pub chains-agree : NoWrite cs → NoWrite ds → units_said a ≡ units_said b → answers_taken a ≡ answers_taken b → standing L d' m' ≡ standing M e' n'
  chains-agree p q u t =
      let x : AsCalls a = chain-is-calls a in
      let y : AsCalls b = chain-is-calls b in
      x.world
      ∙ (same-units-same-answers cs ds (standing L d m) p q (sym x.units ∙ (u ∙ (y.units ∙ ap (units_of_all ds) (sym start))))
      (sym x.taken ∙ (t ∙ (y.taken ∙ ap (taken_by_all ds) (sym start))))
      ∙ (ap (after_all ds) start ∙ sym y.world))

  -- with writes, but no reset: where the units said, the registers written and the answers taken are the same in the same order, they do too
  pub acting-chains-agree : NoReset cs → NoReset ds → acts_said a ≡ acts_said b → standing L d' m' ≡ standing M e' n'
  acting-chains-agree p q same =
      let x : AsCalls a = chain-is-calls a in
      let y : AsCalls b = chain-is-calls b in
      x.world
      ∙ (same-acts-same-world cs ds (standing L d m) p q (sym x.acts ∙ (same ∙ (y.acts ∙ ap (acts_of_all ds) (sym start))))
      ∙ (ap (after_all ds) start ∙ sym y.world))
