-- What the settling of a submission asks: a law for each function, by the words spelled out. Assumes nothing.
use Rattle.std.specs.Prelude.{◌≡◌, refl, Bool, true, false, not, ◌&&◌, ◌||◌, List, ℕ, ◌<◌, ltb, length, get_or, set}
use Rattle.std.proofs.Common.{sym, ap, subst, ◌∙◌, arith, rules, eq-eqb, ne_eqb, get_or-set_other}
use Rattle.std.proofs.lemmas.List.{set-get_or}
use Rattle.machine.specs.Machine.{pick}
use Rattle.rules.specs.Shapes.{larger}
use Rattle.rules.specs.Settle.{one_more, faulted, signalled, ended_by, head_written, marked, settled}
use Rattle.rules.specs.declared.Job.{Job}
use Rattle.rules.specs.declared.Fault.{Fault}
use Rattle.settle.specs.Settling.{page_put}
use Rattle.settle.specs.Laws.{marks-as}
use Rattle.run_state.specs.Views.{set_in, flag_of, small_in, registers_in, job_in, world_in, rested, sides_in, desk_in}
use Rattle.run_state.specs.Reading.{small-as}
use Rattle.run_state.specs.Spelled.{spell}
use Rattle.run_settle.specs.Views.{signalled_words, Signals, Finishes, Refuses, turned_if, Turns, Accepts}

-- ---- signal

pub signals-words : (s s' : List ℕ) (silent set' fenced : Bool) (completed flag : ℕ) → silent ≡ set_in (get_or s 17 0) → set' ≡ set_in (get_or s 6 0)
    → fenced ≡ (set' || (ltb (get_or s 5 0) (get_or s 16 0) && not silent)) → completed ≡ larger (get_or s 5 0) (get_or s 16 0) → flag ≡ flag_of fenced
    → s' ≡ rested (set (set s 5 completed) 6 flag) → Signals s s'
unfolding signalled_words
signals-words s s' silent set' fenced completed flag a b c d e f = record { words = rw (f, d, e, c, b, a) }

pub ruleset signalling = (signals-words, rules)

-- ---- finish

pub finishes : (s s' m m' : List ℕ) (j : Job) → j ≡ job_in s → Signals s s' → m' ≡ page_put (get_or s' 4 0) (get_or s' 5 0) (head_written j m) → Finishes s m s' m'
finishes s s' m m' j is w p =
    record {
      words = w.words;
      mem = p ∙ (rw (w.words, is) (marks-as (registers_in (signalled_words s)) (job_in s) m));
    }

pub ruleset finishing = (finishes, rules)

-- ---- settle_refused

set-flag : (b : Bool) → set_in (flag_of b) ≡ b
set-flag true = refl
set-flag false = refl

-- the words with an error set
abbrev faulted_words : ℕ → ℕ → ℕ → List ℕ → List ℕ
faulted_words code errors place s = set (set (set (set (set s 7 1) 9 code) 10 (get_or s 16 0)) 11 errors) 30 place

pub refuses : (s s' m m' : List ℕ) (why : Fault) (code low more errors place : ℕ) → length s ≡ 36 → low ≡ small_in (get_or s 11 0) → more ≡ one_more low → (errors ≡ more) × (errors < 4294967296)
    → (code ≡ why.code) × (code < 4294967296) → (place ≡ why.place) × (place < 4294967296)
    → Finishes (set (set (set (set (set s 7 1) 9 code) 10 (get_or s 16 0)) 11 errors) 30 place) m s' m' → Refuses s m why s' m'
unfolding world_in settled ended_by signalled faulted signalled_words rested
refuses s s' m m' why code low more errors place long is-low is-more is-errors is_code is-place f =
    record {
      world = λ e r h dt ot c.
          rw (f.words, f.mem)
          (spell (λ w. world_in (signalled_words (faulted_words code errors place w)) e r h dt ot c (marked (job_in (faulted_words code errors place w)) (registers_in (signalled_words (faulted_words code errors place w))) m)) s long
          ∙ rw (set-flag (set_in (get_or s 6 0) || (ltb (get_or s 5 0) (get_or s 16 0) && not (set_in (get_or s 17 0)))), small-as code why.code is_code, small-as errors more is-errors, is-more, is-low, small-as place why.place is-place));
      side = rw f.words (spell (λ w. sides_in (signalled_words (faulted_words code errors place w))) s long);
      rests =
          rw f.words
          (spell (λ w. signalled_words (faulted_words code errors place w)) s long ∙ sym (spell (λ w. rested (signalled_words (faulted_words code errors place w))) s long));
    }

pub ruleset refusing = (refuses, rules)

-- ---- settle_accepted

module _ (side : ℕ) where
  pub other-second : side ≡ 0 → set_in 1 ≡ not (set_in side)
  other-second e = rw (eq-eqb side 0 e)

  pub other-first : (side ≡ 0 → ⊥) → set_in 0 ≡ not (set_in side)
  other-first n = rw (ne_eqb side 0 n)

module _ (at own : ℕ) (s : List ℕ) where
  pub turns-not : get_or s own 0 ≡ 0 → Turns at own s s
  turns-not e = record { side = get_or s at 0; words = sym (set-get_or s at 0); turned = rw (eq-eqb (get_or s own 0) 0 e) }

  pub turns-over : (side : ℕ) → (get_or s own 0 ≡ 0 → ⊥) → set_in side ≡ not (set_in (get_or s at 0)) → Turns at own s (set s at side)
  turns-over side n t = record { side = side; words = refl; turned = rw (ne_eqb (get_or s own 0) 0 n) t }

pub ruleset turning = (other-second, other-first, turns-not, turns-over, rules)

-- after the turn the device's rows are those that the submission held
turned_rows : (side own : Bool) (a b : List ℕ) → pick (turned_if side own) b a ≡ pick own (pick side a b) (pick side b a)
turned_rows true true a b = refl
turned_rows true false a b = refl
turned_rows false true a b = refl
turned_rows false false a b = refl

abbrev turned_words : ℕ → ℕ → List ℕ → List ℕ
turned_words side tside s = set (set (set (set s 28 side) 34 tside) 25 (get_or s 26 0)) 32 (get_or s 33 0)

accepts-turned : (s s' m m' : List ℕ) (side tside : ℕ) → length s ≡ 36 → set_in side ≡ turned_if (set_in (get_or s 28 0)) (set_in (get_or s 29 0))
    → set_in tside ≡ turned_if (set_in (get_or s 34 0)) (set_in (get_or s 35 0))
    → Finishes (set (set (set (set s 28 side) 34 tside) 25 (get_or s 26 0)) 32 (get_or s 33 0)) m s' m' → Accepts s m s' m'
unfolding world_in settled ended_by signalled signalled_words rested
accepts-turned s s' m m' side tside long turned tturned f =
    record {
      world = λ e a b ft st c.
          rw (f.words, f.mem)
          (spell (λ w. desk_in (signalled_words (turned_words side tside w)) e a b ft st c (marked (job_in (turned_words side tside w)) (registers_in (signalled_words (turned_words side tside w))) m)) s long
          ∙ rw (set-flag (set_in (get_or s 6 0) || (ltb (get_or s 5 0) (get_or s 16 0) && not (set_in (get_or s 17 0)))), turned, turned_rows (set_in (get_or s 28 0)) (set_in (get_or s 29 0)) a b, tturned, turned_rows (set_in (get_or s 34 0)) (set_in (get_or s 35 0)) ft st));
      rests = rw f.words (spell (λ w. signalled_words (turned_words side tside w)) s long ∙ sym (spell (λ w. rested (signalled_words (turned_words side tside w))) s long));
    }

pub accepts : (s s₁ s₂ s' m m' : List ℕ) → length s ≡ 36 → Turns 28 29 s s₁ → Turns 34 35 s₁ s₂ → Finishes (set (set s₂ 25 (get_or s 26 0)) 32 (get_or s 33 0)) m s' m' → Accepts s m s' m'
accepts s s₁ s₂ s' m m' long x y f =
    let words : s₂ ≡ set (set s 28 x.side) 34 y.side = y.words ∙ ap (λ w. set w 34 y.side) x.words in
    let side : get_or s₁ 34 0 ≡ get_or s 34 0 = ap (λ w. get_or w 34 0) x.words ∙ get_or-set_other s 28 34 x.side 0 (λ p. omega arith) in
    let own : get_or s₁ 35 0 ≡ get_or s 35 0 = ap (λ w. get_or w 35 0) x.words ∙ get_or-set_other s 28 35 x.side 0 (λ p. omega arith) in
    let tturned : set_in y.side ≡ turned_if (set_in (get_or s 34 0)) (set_in (get_or s 35 0)) = y.turned ∙ ap (λ (k : ℕ). turned_if (set_in k) (set_in (get_or s₁ 35 0))) side ∙ ap (λ (k : ℕ). turned_if (set_in (get_or s 34 0)) (set_in k)) own in
    accepts-turned s s' m m' x.side y.side long x.turned tturned (subst (λ (w : List ℕ). Finishes (set (set w 25 (get_or s 26 0)) 32 (get_or s 33 0)) m s' m') words f)

pub ruleset accepting = (accepts, rules)
