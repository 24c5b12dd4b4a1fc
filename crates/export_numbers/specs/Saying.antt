-- What the saying of a call's values asks. Assumes nothing.
use Rattle.std.specs.Prelude.{◌≡◌, List, [], ◌∷◌, ℕ, ◌+◌, ◌*◌, ◌≤◌, ◌<◌, length, set, drop, Result}
use Rattle.std.proofs.Common.{◌∙◌, arith, rules, drop_of_length-le}
use Rattle.std.proofs.lemmas.List.Edits.{sets-eq}
use Rattle.rules.specs.Calls.{ended_number}
use Rattle.rules.specs.declared.Record.{Record}
use Rattle.call_errors.specs.Answers.{answer_of}
use Rattle.call_errors.specs.declared.CallError.{CallError}
use Rattle.device_memory_calls.specs.Views.{spent_beside}
use Rattle.device_memory_calls.specs.declared.Spent.{Spent}
use Rattle.export_numbers.specs.Numbers.{said_spent, record_words}

-- ---- said

pub says-number : (x : Result Spent CallError) (y : Spent) (n u v w : ℕ) → y ≡ spent_beside x → (n ≡ ended_number y.ended) × (n ≤ 2) → u ≡ y.units → w ≡ answer_of x → (v ≡ w) × (v < 4294967296)
    → v + (256 * n + 65536 * u) ≡ said_spent x
says-number x y n u v w e p q a t = rw (p.0, q, t.0, a, e)

pub ruleset saying_number = (says-number, rules)

-- ---- say_record

five-set : (l : List ℕ) (a b c d e : ℕ) → length l ≡ 5 → set (set (set (set (set l 0 a) 1 b) 2 c) 3 d) 4 e ≡ a ∷ b ∷ c ∷ d ∷ e ∷ []
five-set l a b c d e long =
    let rest : drop 5 l ≡ [] = drop_of_length-le l {i = 5} (omega arith) in
    sets-eq (a ∷ b ∷ c ∷ d ∷ e ∷ []) l 0 (omega arith) ∙ rw rest

pub says-words : (l : List ℕ) (x : Record) (kind handle id : ℕ) → length l ≡ 5 → (kind ≡ x.kind) × (kind < 4294967296) → (handle ≡ x.handle) × (handle < 4294967296) → (id ≡ x.id) × (id < 4294967296)
    → set (set (set (set (set l 0 kind) 1 handle) 2 id) 3 x.gpa) 4 x.length ≡ record_words x
says-words l x kind handle id long p q t = five-set l kind handle id x.gpa x.length long ∙ rw (p.0, q.0, t.0)

pub ruleset saying_record = (says-words, rules)
