-- What the saying of these numbers asks. Assumes nothing.
use Rattle.std.specs.Prelude.{◌≡◌, refl, List, [], ◌∷◌, ℕ, ◌<◌, length, get_or, set, drop, None, Option, Some, ⊤, Result, Ok, Err}
use Rattle.std.proofs.Common.{◌∙◌, arith, rules, drop_of_length-le}
use Rattle.std.proofs.lemmas.List.Edits.{sets-eq}
use Rattle.rules.specs.declared.Class.{Class}
use Rattle.rules.specs.declared.Cursor.{Cursor}
use Rattle.rules.specs.declared.Pair.{Pair}
use Rattle.export_difference.specs.Numbers.{class_number, said_is, said_none, said_refused, checked_said, place_said, found_said, class_said, Says, cursor_in, cursor_words, pair_words, SaysStart}
use Rattle.rules.specs.declared.RefusedStream.{RefusedStream}
use Rattle.rules.specs.Judging.{error_number}

-- ---- say, say_none, say_number, say_refused

pub one_set : (l : List ℕ) (v : ℕ) → length l ≡ 1 → set l 0 v ≡ v ∷ []
one_set l v long =
    let rest : drop 1 l ≡ [] = drop_of_length-le l {i = 1} (omega arith) in
    sets-eq (v ∷ []) l 0 (omega arith) ∙ rw rest

pub ruleset saying_one = (one_set, rules)

module _ (said : List ℕ) (v : ℕ) (p : said ≡ v ∷ []) where
  pub says_none : v ≡ 0 → Says said_none 1 said
  says_none e = record { answer = refl; value = p ∙ rw e }

  pub says-number : (n : ℕ) → (v ≡ n) × (v < 18446744073709551616) → Says (said_is n) 0 said
  says-number n e = record { answer = refl; value = p ∙ rw e.0 }

  pub says-class : (x : Class) → v ≡ class_number x → Says (said_is (class_number x)) 0 said
  says-class x e = record { answer = refl; value = p ∙ rw e }

  pub says-refused : (code which n : ℕ) → n ≡ code → (v ≡ which) × (v < 4294967296) → Says (said_refused code which) n said
  says-refused code which n is e = record { answer = is; value = p ∙ rw e.0 }

pub ruleset saying_word = (says-number, says-class, says-refused, rules)

pub zero-said : (said : List ℕ) → said ≡ 0 ∷ [] → Says said_none 1 said
zero-said said p = says_none said 0 p refl

pub ruleset saying_none = (zero-said, rules)

-- ---- the answers

module _ (r : ℕ) (said : List ℕ) where
  pub checked-valid : (x : Result ⊤ RefusedStream) → x ≡ Ok tt → Says (said_is 0) r said → Says (checked_said x) r said
  checked-valid x e s = rw e s

  pub checked_refused : (x : Result ⊤ RefusedStream) (e : RefusedStream) → x ≡ Err e → Says (said_refused (error_number e.why) e.which) r said → Says (checked_said x) r said
  checked_refused x r' e s = rw e s

  pub class-is : (x : Result Class RefusedStream) (k : Class) → x ≡ Ok k → Says (said_is (class_number k)) r said → Says (class_said x) r said
  class-is x k e s = rw e s

  pub class-refused : (x : Result Class RefusedStream) (e : RefusedStream) → x ≡ Err e → Says (said_refused (error_number e.why) e.which) r said → Says (class_said x) r said
  class-refused x r' e s = rw e s

  pub place_at : (x : Option ℕ) (i : ℕ) → x ≡ Some i → Says (said_is i) r said → Says (place_said x) r said
  place_at x i e s = rw e s

  pub no-place : (x : Option ℕ) → x ≡ None → Says said_none r said → Says (place_said x) r said
  no-place x e s = rw e s

  pub found_is : (x : Result (Option ℕ) RefusedStream) (o : Option ℕ) → x ≡ Ok o → Says (place_said o) r said → Says (found_said x) r said
  found_is x o e s = rw e s

  pub found-refused : (x : Result (Option ℕ) RefusedStream) (e : RefusedStream) → x ≡ Err e → Says (said_refused (error_number e.why) e.which) r said → Says (found_said x) r said
  found-refused x r' e s = rw e s

  pub start_is : (l l' : List ℕ) (x : Result Cursor RefusedStream) (k : Cursor) → x ≡ Ok k → l' ≡ cursor_words k → Says (said_is 0) r said → SaysStart x l r l' said
  start_is l l' x k e p s = rw e (record { says = s; cursor = p })

  pub start-refused : (l : List ℕ) (x : Result Cursor RefusedStream) (e : RefusedStream) → x ≡ Err e → Says (said_refused (error_number e.why) e.which) r said → SaysStart x l r l said
  start-refused l x r' e s = rw e (record { says = s; cursor = refl })

pub ruleset saying_checked = (checked-valid, checked_refused, rules)

pub ruleset saying_class = (class-is, class-refused, rules)

pub ruleset saying_found = (place_at, no-place, found_is, found-refused, rules)

pub ruleset saying_start = (start_is, start-refused, rules)

-- ---- cursor_in, put_cursor, say_pair

pub cursor-read : (l : List ℕ) (m n : ℕ) → m ≡ get_or l 0 0 → n ≡ get_or l 1 0 → record { first = m; second = n } ≡ cursor_in l
cursor-read l m n p q = rw (p, q)

pub cursor-put : (l : List ℕ) (k : Cursor) (m n : ℕ) → length l ≡ 2 → (m ≡ k.first) × (m < 18446744073709551616) → (n ≡ k.second) × (n < 18446744073709551616) → set (set l 0 m) 1 n ≡ cursor_words k
cursor-put l k m n long p q =
    let rest : drop 2 l ≡ [] = drop_of_length-le l {i = 2} (omega arith) in
    sets-eq (m ∷ n ∷ []) l 0 (omega arith) ∙ rw (rest, p.0, q.0)

pub ruleset putting_cursor = (cursor-read, cursor-put, rules)

pub pair-said : (l : List ℕ) (x : Pair) (c a b d e : ℕ) → length l ≡ 5 → c ≡ class_number x.class → (a ≡ x.first) × (a < 18446744073709551616) → (b ≡ x.firstsize) × (b < 18446744073709551616) → (d ≡ x.second) × (d < 18446744073709551616)
    → (e ≡ x.secondsize) × (e < 18446744073709551616) → set (set (set (set (set l 0 c) 1 a) 2 b) 3 d) 4 e ≡ pair_words x
pair-said l x c a b d e long k p q r s =
    let rest : drop 5 l ≡ [] = drop_of_length-le l {i = 5} (omega arith) in
    sets-eq (c ∷ a ∷ b ∷ d ∷ e ∷ []) l 0 (omega arith) ∙ rw (rest, k, p.0, q.0, r.0, s.0)

pub ruleset saying_pair = (pair-said, rules)
