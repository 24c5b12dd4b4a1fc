-- What the exports about two dumps ask of the questions behind them. Assumes nothing.
use Rattle.std.specs.Prelude.{◌≡◌, List, ℕ, Option, ⊤, Result, Ok, Err}
use Rattle.std.proofs.Common.{ap, ◌∙◌, rules}
use Rattle.rules.specs.Difference.{check, parts, class_asked, next_asked, start, pair_at, next_at, onward}
use Rattle.rules.specs.declared.Cursor.{Cursor}
use Rattle.rules.specs.declared.Pair.{Pair}
use Rattle.export_difference.specs.Numbers.{Says, checked_said, found_said, class_said, place_said, SaysStart, cursor_in, cursor_words, pair_words}
use Rattle.rules.specs.declared.RefusedStream.{RefusedStream}
use Rattle.rules.specs.declared.Class.{Class}

module _ (b c : List ℕ) (r : ℕ) (said : List ℕ) where
  pub says-check : (x : Result ⊤ RefusedStream) → x ≡ check b c → Says (checked_said x) r said → Says (checked_said (check b c)) r said
  says-check x e s = rw (← e) s

  pub says-parts : (x : Result (Option ℕ) RefusedStream) → x ≡ parts b c → Says (found_said x) r said → Says (found_said (parts b c)) r said
  says-parts x e s = rw (← e) s

  pub says-class : (x : Result Class RefusedStream) (index i : ℕ) → x ≡ class_asked b c i → i ≡ index → Says (class_said x) r said → Says (class_said (class_asked b c index)) r said
  says-class x index i e p s = rw (← p, ← e) s

  pub says-next : (x : Result (Option ℕ) RefusedStream) (index from i j : ℕ) → x ≡ next_asked b c i j → i ≡ index → j ≡ from → Says (found_said x) r said → Says (found_said (next_asked b c index from)) r said
  says-next x index from i j e p q s = rw (← p, ← q, ← e) s

  pub says-start : (x : Result Cursor RefusedStream) (l l' : List ℕ) → x ≡ start b c → SaysStart x l r l' said → SaysStart (start b c) l r l' said
  says-start x l l' e s = rw (← e) s

  pub says-pair-next : (x : Option ℕ) (k : Cursor) (l : List ℕ) (from j : ℕ) → x ≡ next_at b c k j → k ≡ cursor_in l → j ≡ from → Says (place_said x) r said
      → Says (place_said (next_at b c (cursor_in l) from)) r said
  says-pair-next x k l from j e p q s =
      let same : x ≡ next_at b c (cursor_in l) from = e ∙ (ap (λ (h : Cursor). next_at b c h j) p ∙ ap (λ h. next_at b c (cursor_in l) h) q) in
      rw same at s

module _ (b c : List ℕ) (k : Cursor) (l : List ℕ) (p : k ≡ cursor_in l) where
  pub says-pair : (x : Pair) (said : List ℕ) → x ≡ pair_at b c k → said ≡ pair_words x → said ≡ pair_words (pair_at b c (cursor_in l))
  says-pair x said e s = s ∙ ap pair_words (e ∙ ap (λ (h : Cursor). pair_at b c h) p)

  pub says-onward : (x : Cursor) (l' : List ℕ) → x ≡ onward b c k → l' ≡ cursor_words x → l' ≡ cursor_words (onward b c (cursor_in l))
  says-onward x l' e s = s ∙ ap cursor_words (e ∙ ap (λ (h : Cursor). onward b c h) p)

pub ruleset saying_difference = (says-check, says-parts, says-class, says-next, says-start, says-pair-next, says-pair, says-onward, rules)
