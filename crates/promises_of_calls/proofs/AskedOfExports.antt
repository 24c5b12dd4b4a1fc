-- The theorems of specs/AskedOfExports.antt, and what they rest on. Assumes nothing.
use Rattle.std.specs.Prelude.{List, ◌≤◌}
use Rattle.std.proofs.Common.{sym, subst}
use Rattle.rules.specs.State.{State}
use Rattle.device.specs.Views.{state_of}
use Rattle.device.specs.declared.Device.{Device}
use Rattle.promises_of_units.specs.Asked.{Asked, Change, Course, SaysAll, NoResetOrLoad}
use Rattle.promises_of_sharing.specs.SinceBegun.{BetweenResetsAndLoads}
use Rattle.promises_of_sharing.proofs.SinceBegun.{asked_on}
use Rattle.promises.proofs.Main.{fence-error-and-belongings-whatever-is-asked, whatever-is-asked-between-resets-and-loads, the_completed_fence_may_be_lower_after_loading}
use Rattle.promises_of_calls.specs.Exports.{exports}
use Rattle.promises_of_calls.specs.Calls.{MadeAndCalled}
use Rattle.promises_of_calls.proofs.Calls.{made_and_called}
use Rattle.promises_of_sharing.specs.TokensOverCalls.{CalledOn}
use Rattle.promises_of_calls.specs.AskedOfExports.{AskedInTurn, asked-leads}

-- the completed fence, the error registers, the resources and the tokens
pub exports-say : {d e : Device} {qs : List Asked} → AskedInTurn d qs e → (ds : List Change) × Course (state_of d) qs ds (state_of e) × SaysAll (state_of d) ds (state_of e)
exports-say {d = d} {qs = qs} p =
    subst (λ (t : State). (ds : List Change) × Course (state_of d) qs ds t × SaysAll (state_of d) ds t) (sym (asked-leads p))
    (let c = fence-error-and-belongings-whatever-is-asked qs (state_of d) in (c.0, c.1.0, c.1.1))

-- the calls among them, as the rules' calls
abbrev pub calls-among : {d e : Device} {qs : List Asked} → AskedInTurn d qs e → NoResetOrLoad qs → CalledOn (state_of d) (state_of e)
calls-among {d = d} {qs = qs} p n = subst (CalledOn (state_of d)) (sym (asked-leads p)) (asked_on qs (state_of d) n)

-- between resets and loads: used and spent tokens, names, that a token lives on, and which resource it is bound to
pub exports-between-resets-and-loads : {d e : Device} {qs : List Asked} (p : AskedInTurn d qs e) (k : MadeAndCalled exports d) (n : NoResetOrLoad qs)
    → BetweenResetsAndLoads (state_of d) (state_of e) (made_and_called exports d k) (calls-among p n)
exports-between-resets-and-loads {d = d} {e = e} {qs = qs} p k n =
    let both : (q : CalledOn (state_of d) (state_of e)) × BetweenResetsAndLoads (state_of d) (state_of e) (made_and_called exports d k) q =
    subst (λ (t : State). (q : CalledOn (state_of d) t) × BetweenResetsAndLoads (state_of d) t (made_and_called exports d k) q) (sym (asked-leads p))
    (asked_on qs (state_of d) n, whatever-is-asked-between-resets-and-loads (state_of d) (made_and_called exports d k) qs n) in
    both.1

-- and but for a reset and a load of a good file the completed fence does not fall
pub exports-keep-the-fence : {d e : Device} {qs : List Asked} → AskedInTurn d qs e → NoResetOrLoad qs → (state_of d).regs.completed ≤ (state_of e).regs.completed
exports-keep-the-fence {d = d} {qs = qs} p n =
    subst (λ (t : State). (state_of d).regs.completed ≤ t.regs.completed) (sym (asked-leads p)) (the_completed_fence_may_be_lower_after_loading.else-not qs (state_of d) n)
