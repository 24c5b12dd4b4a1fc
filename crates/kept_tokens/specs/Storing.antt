-- What adding, spending, binding and copying tokens ask: a law for each. Assumes nothing.
use Rattle.std.specs.Prelude.{◌≡◌, refl, Bool, true, false, List, [], ◌∷◌, ℕ, zero, suc, ◌+◌, ◌*◌, ◌-◌, ◌≤◌, ◌<◌, ◌%◌, ◌^◌, eqb, length, get_or, set, take}
use Rattle.std.proofs.Common.{sym, ap, ◌∙◌, mod-eq_of_lt, arith, rules, get_or-set_same, get_or-set_other}
use Rattle.std.proofs.Math.Numerals.{towards_suc}
use Rattle.std.proofs.lemmas.List.{set-get_or}
use Rattle.machine.specs.Machine.{pick}
use Rattle.words.specs.Over.{sets_over}
use Rattle.rules.specs.Numbers.{most_tokens}
use Rattle.rules.specs.Lists.{over, pushed}
use Rattle.rules.specs.Names.{renamed, rebind}
use Rattle.rules.specs.declared.Token.{Token}
use Rattle.rows.specs.Rows.{row_at, table, tab, tab-ext, length-row_at, row_field, table-push-sets, table-replace, table-copied}
use Rattle.rows_renaming.specs.Renaming.{word_renamed, rows_renamed, table-renamed}
use Rattle.kept_resources.specs.Views.{small}
use Rattle.kept_tokens.specs.Views.{token_of_row, tokens_of, spent_at}

-- ---- push_token

pub pushes : (n a : ℕ) (l : List ℕ) (t : Token) → n < most_tokens → length l ≡ 512 → (a ≡ t.name) × (a < 4294967296)
    → tokens_of (n + 1) (set (set l (2 * n) a) (2 * n + 1) t.token) ≡ pushed (tokens_of n l) t
pushes n a l t h len ha =
    let vs : List ℕ = a ∷ t.token ∷ [] in
    let same : token_of_row vs ≡ t = rw (mod-eq_of_lt ha.1, ha.0) in
    simp towards_suc (simp towards_suc at (table-push-sets token_of_row 2 n vs l refl (omega arith))) ∙ ap (λ x. pushed (tokens_of n l) x) same

pub ruleset pushing_token = (pushes, rules)

-- ---- spend

pub spends : (n i : ℕ) (l : List ℕ) → (n ≤ most_tokens) × (i < n) → length l ≡ 512 → tokens_of n (set l (2 * i) 0) ≡ over i (spent_at l i ∷ []) (tokens_of n l)
spends n i l pre len =
    let t : ℕ = get_or l (2 * i + 1) 0 in
    let vs : List ℕ = 0 ∷ t ∷ [] in
    let m : List ℕ = set l (2 * i) 0 in
    let stays : get_or m (2 * i + 1) 0 ≡ t = get_or-set_other l (2 * i) (2 * i + 1) 0 0 (λ p. omega arith) in
    let whole : set m (2 * i + 1) t ≡ m = ap (λ v. set m (2 * i + 1) v) (sym stays) ∙ set-get_or m (2 * i + 1) 0 in
    let two : set m (2 * i + 1) t ≡ over (2 * i) vs l = simp towards_suc (simp towards_suc at (sets_over (2 * i) vs l (omega arith))) in
    let same : token_of_row vs ≡ spent_at l i = rw (row_field 2 l i 1 (omega arith)) in
    ap (λ x. tokens_of n x) (sym whole ∙ two)
    ∙ (table-replace token_of_row 2 n i vs l refl (omega arith) pre.1 ∙ ap (λ x. over i (x ∷ []) (tokens_of n l)) same)

pub ruleset spending_token = (spends, rules)

-- ---- rebind

row-with-name : (old new : ℕ) (r : List ℕ) → new < 2 ^ 32 → length r ≡ 2
    → token_of_row (word_renamed 0 old new r) ≡ record { name = renamed old new (small r 0); token = get_or r 1 0 }
unfolding word_renamed
row-with-name old new r fits long = by_test (eqb (get_or r 0 0 % 2 ^ 32) old)
  where
    by_test : (t : Bool) → token_of_row (pick t (set r 0 new) r) ≡ record { name = pick t new (small r 0); token = get_or r 1 0 }
    by_test true = rw (get_or-set_same r 0 new 0 (omega arith), mod-eq_of_lt fits, get_or-set_other r 0 1 new 0 (λ p. omega arith))
    by_test false = refl

tab-rebind : (old new : ℕ) (row : ℕ → Token) (i n : ℕ)
    → rebind old new (tab row i n) ≡ tab (λ k. record { name = renamed old new (row k).name; token = (row k).token }) i n
unfolding rebind tab
tab-rebind old new row i zero = refl
tab-rebind old new row i (suc n) = rw (tab-rebind old new row (suc i) n)

row_fits : (k n : ℕ) (l : List ℕ) → k < n → n ≤ most_tokens → length l ≡ 512 → 2 * k + 2 ≤ length l
row_fits k n l h m len = omega arith

pub rebinds : (n old new : ℕ) (l m : List ℕ) → n ≤ most_tokens → new < 2 ^ 32 → length l ≡ 512 → m ≡ rows_renamed 2 0 old new n l
    → tokens_of n m ≡ rebind old new (tokens_of n l)
unfolding table
rebinds n old new l m h fits len e =
    rw e
    (table-renamed 2 0 old new (omega arith) token_of_row n l (omega arith)
    ∙ (tab-ext _ _ 0 n (λ k p q. row-with-name old new (row_at 2 l k) fits (length-row_at 2 l k (row_fits k n l (omega arith) h len)))
    ∙ sym (tab-rebind old new (λ k. token_of_row (row_at 2 l k)) 0 n)))

pub ruleset rebinding_token = (rebinds, rules)

-- ---- copy_tokens

pub copies : (n : ℕ) (l k m : List ℕ) → n ≤ most_tokens → length l ≡ 512 → m ≡ over 0 (take (2 * n) l) k → tokens_of n m ≡ tokens_of n l
copies n l k m h len e = rw e (table-copied token_of_row 2 n l k (omega arith))

pub ruleset copying_tokens = (copies, rules)
