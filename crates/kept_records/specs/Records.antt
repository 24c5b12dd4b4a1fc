-- Rows of records: what reading and keeping one ask. Assumes nothing.
use Rattle.std.specs.Prelude.{◌≡◌, refl, List, [], ◌∷◌, ℕ, ◌+◌, ◌*◌, ◌%◌, ◌<◌, length, get_or, set}
use Rattle.std.proofs.Common.{ap, ◌∙◌, mod-eq_of_lt, add-zero, arith, rules}
use Rattle.std.proofs.Math.Numerals.{towards_suc}
use Rattle.rules.specs.Numbers.{most}
use Rattle.rules.specs.Lists.{pushed}
use Rattle.rules.specs.declared.Record.{Record}
use Rattle.rows.specs.Rows.{row_at, row_field, table-push-sets}
use Rattle.kept_resources.specs.Views.{record_of, records_of}

pub row_read : (l : List ℕ) (i a b c : ℕ) → a ≡ get_or l (5 * i) 0 % 4294967296 → b ≡ get_or l (5 * i + 1) 0 % 4294967296 → c ≡ get_or l (5 * i + 2) 0 % 4294967296
    → ◌≡◌ {A = Record} (record { kind = a; handle = b; id = c; gpa = get_or l (5 * i + 3) 0; length = get_or l (5 * i + 4) 0 }) (record_of (row_at 5 l i))
row_read l i a b c p q r =
    rw (p, q, r, row_field 5 l i 0 (omega arith), row_field 5 l i 1 (omega arith), row_field 5 l i 2 (omega arith), row_field 5 l i 3 (omega arith), row_field 5 l i 4 (omega arith), add-zero)

pub ruleset reading_record = (row_read, rules)

pub pushes : (n a b k : ℕ) (l : List ℕ) (c : Record) → n < most → length l ≡ 320 → (a ≡ c.kind) × (a < 4294967296) → (b ≡ c.handle) × (b < 4294967296) → (k ≡ c.id) × (k < 4294967296)
    → records_of (n + 1) (set (set (set (set (set l (5 * n) a) (5 * n + 1) b) (5 * n + 2) k) (5 * n + 3) c.gpa) (5 * n + 4) c.length) ≡ pushed (records_of n l) c
pushes n a b k l c h len p q r =
    let vs : List ℕ = a ∷ b ∷ k ∷ c.gpa ∷ c.length ∷ [] in
    let same : record_of vs ≡ c = rw (mod-eq_of_lt p.1, mod-eq_of_lt q.1, mod-eq_of_lt r.1, p.0, q.0, r.0) in
    simp towards_suc (simp towards_suc at (table-push-sets record_of 5 n vs l refl (omega arith))) ∙ ap (λ x. pushed (records_of n l) x) same

pub ruleset pushing_record = (pushes, rules)
