-- Wishes 5 and 9: "Saving in form 1 answers 8 (after 5, before 6) once any token was used", where another name is live, and "while detail is non-zero":
-- exactly then. Assumes nothing.
use Rattle.std.specs.Prelude.{◌≡◌, refl, Bool, true, false, not, ◌||◌, List, [], ◌∷◌, ◌⊎◌, ℕ, eqb, ltb, length}
use Rattle.std.proofs.Common.{sym, ◌∙◌, inl, inr, ⊎_elim, arith, ne_eqb, eqb-true}
use Rattle.std.proofs.lemmas.Bool.{eqb-false, not-true}
use Rattle.machine.specs.Machine.{pick}
use Rattle.rules.specs.Numbers.{in_work, not_in_form, too_short, done}
use Rattle.rules.specs.Lists.{over}
use Rattle.rules.specs.State.{State}
use Rattle.rules.specs.Calls.{at_rest}
use Rattle.rules.specs.Saved.{is_other_name, other_name_among, beyond_form_1, beyond, Saved, not_saved, saved, call_save}
use Rattle.rules.specs.declared.Form.TheVariants.{One}
use Rattle.rules.specs.declared.Resource.{Resource}
use Rattle.promises_of_packets.specs.Names.{true-not-false}
use Rattle.promises_of_units.specs.CallAnswers.{Exactly}
use Rattle.promises_of_sharing.specs.TokenLives.{Some}

-- a name that is not its resource's lowest
abbrev pub IsAnotherName : Resource → Type 0
IsAnotherName r = r.handle ≡ r.lowest → ⊥

-- a token was used, another name is live, or the detail is not 0
abbrev pub BeyondForm1 : State → Type 0
BeyondForm1 s = (length s.belongings.tokens ≡ 0 → ⊥) ⊎ (Some IsAnotherName s.belongings.resources ⊎ (s.regs.error.detail ≡ 0 → ⊥))

-- ---- the three tests

not_equal : (a b : ℕ) → Exactly (not (eqb a b) ≡ true) (a ≡ b → ⊥)
not_equal a b = (λ e. eqb-false a b (not-true (eqb a b) e), λ n. rw (ne_eqb a b n))

either : {A B : Type 0} (a b : Bool) → Exactly (a ≡ true) A → Exactly (b ≡ true) B → Exactly (a || b ≡ true) (A ⊎ B)
either true b p q = (λ _. inl (p.0 refl), λ _. refl)
either false b p q = (λ e. inr (q.0 e), λ h. ⊎_elim (λ x. absurd (true-not-false (sym (p.1 x)))) (λ y. q.1 y) h)

other_name_exactly : (rs : List Resource) → Exactly (other_name_among rs ≡ true) (Some IsAnotherName rs)
unfolding other_name_among Some
other_name_exactly [] = (λ e. absurd (true-not-false (sym e)), λ n. absurd n)
other_name_exactly (r ∷ rs) = either (is_other_name r) (other_name_among rs) (not_equal r.handle r.lowest) (other_name_exactly rs)

pub beyond_form_1_exactly : (s : State) → Exactly (beyond One s ≡ true) (BeyondForm1 s)
unfolding beyond_form_1
beyond_form_1_exactly s =
    either (not (eqb (length s.belongings.tokens) 0)) _ (not_equal (length s.belongings.tokens) 0)
    (either (other_name_among s.belongings.resources) _ (other_name_exactly s.belongings.resources) (not_equal s.regs.error.detail 0))

-- ---- the call

pub form-1-is-refused-with-8 : (s : State) (buffer : List ℕ) → Exactly ((call_save One s buffer).answer ≡ not_in_form) ((at_rest s.work ≡ true) × BeyondForm1 s)
unfolding call_save
form-1-is-refused-with-8 s buffer = by_tests (at_rest s.work) (beyond One s) (ltb (length buffer) (length (saved One s))) (beyond_form_1_exactly s)
  where
    by_tests : (a b c : Bool) → Exactly (b ≡ true) (BeyondForm1 s)
        → Exactly ((pick (not a) (not_saved in_work buffer) (pick b (not_saved not_in_form buffer) (pick c (not_saved too_short buffer) (record { answer = done; length = length (saved One s); buffer = over 0 (saved One s) buffer })))).answer ≡ not_in_form)
        ((a ≡ true) × BeyondForm1 s)
    by_tests true true c h = (λ _. (refl, h.0 refl), λ _. refl)
    by_tests true false true h = (λ e. absurd (omega arith), λ x. absurd (true-not-false (sym (h.1 x.1))))
    by_tests true false false h = (λ e. absurd (omega arith), λ x. absurd (true-not-false (sym (h.1 x.1))))
    by_tests false b c h = (λ e. absurd (omega arith), λ x. absurd (true-not-false (sym x.0)))
