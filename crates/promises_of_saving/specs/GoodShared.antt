-- What the rules of sections 3 and 4 say once every one is kept, field by field, and that these facts are all that they ask. Assumes nothing.
use Rattle.std.specs.Prelude.{◌≡◌, refl, ◌&&◌, ◌||◌, List, [], ◌∷◌, ℕ, zero, suc, ◌+◌, ◌*◌, ◌≤◌, ◌<◌, ltb, eqb}
use Rattle.std.proofs.Common.{sym, arith}
use Rattle.std.proofs.Math.Bool.{Bool, true}
use borrow.Author.Tests.{leb-true, le-leb, ltb-true, lt-ltb, ltb-false, le-ltb}
use Rattle.std.proofs.Math.Dec.{leb}
use Rattle.std.proofs.Math.ListN.{length}
use Rattle.rules.specs.Numbers.{no_name, most, most_tokens}
use Rattle.rules.specs.Lists.{Found, lookup}
use Rattle.rules.specs.Lists.Found.{none, found}
use Rattle.rules.specs.Layouts.{word, long}
use Rattle.rules.specs.Packets.{handle_of}
use Rattle.rules.specs.declared.Resource.{Resource}
use Rattle.rules.specs.Saved.{name_bytes, token_bytes}
use Rattle.rules.specs.Loaded.{Rule, end_rule, is_free, may_be_shared, name_rules, names_rules, token_rules, tokens_rules, tokens_place, end_place, section_3_rules, section_4_rules}
use Rattle.rule_laws.specs.Fine.{both_left, both_right}
use Rattle.promises_of_packets.specs.Names.{true-not-false}
use Rattle.promises_of_packets.specs.Held.{Every, every-none, every_front, every_back, every-both}
use Rattle.promises_of_saving.specs.FirstBroken.{Kept, and_kept, must-here, must-holds, must-kept}

-- ---- another name

free-is-none : (f : Found Resource) → is_free f ≡ true → f ≡ none
free-is-none none e = refl
free-is-none (found r) e = absurd (true-not-false (sym e))

none-is-free : (f : Found Resource) → f ≡ none → is_free f ≡ true
none-is-free f e = rw e

-- a test of two
both_hold : (s t : Bool) → s ≡ true → t ≡ true → s && t ≡ true
both_hold s t e f = rw (e, f)

pub record GoodName (rs : List Resource) (b : List ℕ) (at before : ℕ) : Type 0 where
  pub whole : at + name_bytes ≤ length b
  pub rises : before < word b at
  pub free : lookup handle_of (word b at) rs ≡ none
  pub below : word b (at + 4) < word b at
  pub shared : may_be_shared (lookup handle_of (word b (at + 4)) rs) ≡ true

module _ (rs : List Resource) (b : List ℕ) (at before : ℕ) where
  abbrev is_above : Bool
  is_above = ltb before (word b at)

  abbrev is_below : Bool
  is_below = ltb (word b (at + 4)) (word b at)

  abbrev unused : Bool
  unused = is_free (lookup handle_of (word b at) rs)

  abbrev of_a_texture : Bool
  of_a_texture = may_be_shared (lookup handle_of (word b (at + 4)) rs)

  good-name : Every Kept (name_rules rs b at before) → GoodName rs b at before
  unfolding Every
  good-name k =
      let h : is_above && unused ≡ true = must-holds b at (is_above && unused) k.0 in
      let l : is_below && of_a_texture ≡ true = must-holds b (at + 4) (is_below && of_a_texture) k.1.0 in
      record {
        whole = omega (arith, must-here b (at + 4) (is_below && of_a_texture) k.1.0);
        rises = ltb-true before (word b at) (both_left is_above unused h);
        free = free-is-none (lookup handle_of (word b at) rs) (both_right is_above unused h);
        below = ltb-true (word b (at + 4)) (word b at) (both_left is_below of_a_texture l);
        shared = both_right is_below of_a_texture l;
      }

  name-kept : GoodName rs b at before → Every Kept (name_rules rs b at before)
  name-kept g =
      and_kept _ _
      (must-kept b at (is_above && unused) (omega (arith, g.whole))
      (both_hold is_above unused (lt-ltb before (word b at) g.rises) (none-is-free (lookup handle_of (word b at) rs) g.free)))
      (and_kept _ _
      (must-kept b (at + 4) (is_below && of_a_texture) (omega (arith, g.whole))
      (both_hold is_below of_a_texture (lt-ltb (word b (at + 4)) (word b at) g.below) g.shared)) (every-none Kept))

-- other names in a row
unfoldable pub GoodNames : ℕ → List Resource → List ℕ → ℕ → ℕ → Type 0
GoodNames zero rs b at before = 0 ≤ 0
GoodNames (suc n) rs b at before = GoodName rs b at before × GoodNames n rs b (at + name_bytes) (word b at)

good-names : (n : ℕ) (rs : List Resource) (b : List ℕ) (at before : ℕ) → Every Kept (names_rules n rs b at before) → GoodNames n rs b at before
unfolding GoodNames names_rules
good-names zero rs b at before k = omega arith
good-names (suc n) rs b at before k = (
  good-name rs b at before (every_front Kept (name_rules rs b at before) (names_rules n rs b (at + name_bytes) (word b at)) k),
  good-names n rs b (at + name_bytes) (word b at) (every_back Kept (name_rules rs b at before) (names_rules n rs b (at + name_bytes) (word b at)) k),
)

names_kept : (n : ℕ) (rs : List Resource) (b : List ℕ) (at before : ℕ) → GoodNames n rs b at before → Every Kept (names_rules n rs b at before)
unfolding GoodNames names_rules
names_kept zero rs b at before g = every-none Kept
names_kept (suc n) rs b at before g =
    every-both Kept (name_rules rs b at before) (names_rules n rs b (at + name_bytes) (word b at)) (name-kept rs b at before g.0)
    (names_kept n rs b (at + name_bytes) (word b at) g.1)

-- ---- a token

pub record GoodToken (rs : List Resource) (b : List ℕ) (at before : ℕ) : Type 0 where
  pub whole : at + token_bytes ≤ length b
  pub rises : before < long b at
  pub bound : eqb (word b (at + 8)) no_name || may_be_shared (lookup handle_of (word b (at + 8)) rs) ≡ true

module _ (rs : List Resource) (b : List ℕ) (at before : ℕ) where
  abbrev spent_or_bound : Bool
  spent_or_bound = eqb (word b (at + 8)) no_name || may_be_shared (lookup handle_of (word b (at + 8)) rs)

  good-token : Every Kept (token_rules rs b at before) → GoodToken rs b at before
  unfolding Every
  good-token k =
      record {
        whole = omega (arith, must-here b (at + 8) spent_or_bound k.1.1.0);
        rises = ltb-true before (long b at) (must-holds b (at + 4) (ltb before (long b at)) k.1.0);
        bound = must-holds b (at + 8) spent_or_bound k.1.1.0;
      }

  token-kept : GoodToken rs b at before → Every Kept (token_rules rs b at before)
  token-kept g =
      and_kept _ _ (must-kept b at true (omega (arith, g.whole)) refl)
      (and_kept _ _ (must-kept b (at + 4) (ltb before (long b at)) (omega (arith, g.whole)) (lt-ltb before (long b at) g.rises))
      (and_kept _ _ (must-kept b (at + 8) spent_or_bound (omega (arith, g.whole)) g.bound) (every-none Kept)))

-- tokens in a row
unfoldable pub GoodTokens : ℕ → List Resource → List ℕ → ℕ → ℕ → Type 0
GoodTokens zero rs b at before = 0 ≤ 0
GoodTokens (suc n) rs b at before = GoodToken rs b at before × GoodTokens n rs b (at + token_bytes) (long b at)

good-tokens : (n : ℕ) (rs : List Resource) (b : List ℕ) (at before : ℕ) → Every Kept (tokens_rules n rs b at before) → GoodTokens n rs b at before
unfolding GoodTokens tokens_rules
good-tokens zero rs b at before k = omega arith
good-tokens (suc n) rs b at before k = (
  good-token rs b at before (every_front Kept (token_rules rs b at before) (tokens_rules n rs b (at + token_bytes) (long b at)) k),
  good-tokens n rs b (at + token_bytes) (long b at) (every_back Kept (token_rules rs b at before) (tokens_rules n rs b (at + token_bytes) (long b at)) k),
)

tokens-kept : (n : ℕ) (rs : List Resource) (b : List ℕ) (at before : ℕ) → GoodTokens n rs b at before → Every Kept (tokens_rules n rs b at before)
unfolding GoodTokens tokens_rules
tokens-kept zero rs b at before g = every-none Kept
tokens-kept (suc n) rs b at before g =
    every-both Kept (token_rules rs b at before) (tokens_rules n rs b (at + token_bytes) (long b at)) (token-kept rs b at before g.0)
    (tokens-kept n rs b (at + token_bytes) (long b at) g.1)

-- they are all there
tokens-reach : (n : ℕ) (rs : List Resource) (b : List ℕ) (at before : ℕ) → at ≤ length b → GoodTokens n rs b at before → at + token_bytes * n ≤ length b
unfolding GoodTokens
tokens-reach zero rs b at before h g = omega arith
tokens-reach (suc n) rs b at before h g = omega (arith, tokens-reach n rs b (at + token_bytes) (long b at) (omega (arith, g.0.whole)) g.1)

-- ---- sections 3 and 4, of which section 3's count stands at this place, after these resources

-- where section 4's count stands
abbrev pub tokens_at : List ℕ → ℕ → ℕ
tokens_at b at = tokens_place at (word b at)

pub record GoodShared (rs : List Resource) (b : List ℕ) (at : ℕ) : Type 0 where
  pub few-names : length rs + word b at ≤ most
  pub names : GoodNames (word b at) rs b (at + 4) 0
  pub few-tokens : word b (tokens_at b at) ≤ most_tokens
  pub tokens : GoodTokens (word b (tokens_at b at)) rs b (tokens_at b at + 4) 0
  pub long_as : length b ≡ end_place (tokens_at b at) (word b (tokens_at b at))

module _ (rs : List Resource) (b : List ℕ) (at : ℕ) where
  abbrev ends : List Rule
  ends = end_rule b (end_place (tokens_at b at) (word b (tokens_at b at))) ∷ []

  abbrev tokens_of_file : List Rule
  tokens_of_file = tokens_rules (word b (tokens_at b at)) rs b (tokens_at b at + 4) 0

  abbrev names_of_file : List Rule
  names_of_file = names_rules (word b at) rs b (at + 4) 0

  pub good-shared : Every Kept (section_3_rules rs b at) → GoodShared rs b at
  unfolding Every section_3_rules section_4_rules
  good-shared k =
      let later = every_back Kept names_of_file (section_4_rules rs b (tokens_at b at)) k.1 in
      let t : GoodTokens (word b (tokens_at b at)) rs b (tokens_at b at + 4) 0 =
      good-tokens (word b (tokens_at b at)) rs b (tokens_at b at + 4) 0 (every_front Kept tokens_of_file ends later.1) in
      let e = every_back Kept tokens_of_file ends later.1 in
      let few : Bool = leb (word b (tokens_at b at)) most_tokens in
      let no_more : length b ≤ end_place (tokens_at b at) (word b (tokens_at b at)) = ltb-false (end_place (tokens_at b at) (word b (tokens_at b at))) (length b) e.0 in
      let here : tokens_at b at + 4 ≤ length b = must-here b (tokens_at b at) few later.0 in
      record {
        few-names = leb-true (length rs + word b at) most (must-holds b at (leb (length rs + word b at) most) k.0);
        names = good-names (word b at) rs b (at + 4) 0 (every_front Kept names_of_file (section_4_rules rs b (tokens_at b at)) k.1);
        few-tokens = leb-true (word b (tokens_at b at)) most_tokens (must-holds b (tokens_at b at) few later.0);
        tokens = t;
        long_as = omega (arith, tokens-reach (word b (tokens_at b at)) rs b (tokens_at b at + 4) 0 here t);
      }

  pub shared_kept : GoodShared rs b at → Every Kept (section_3_rules rs b at)
  unfolding Every section_3_rules section_4_rules
  shared_kept g = (
    must-kept b at (leb (length rs + word b at) most) (omega (arith, g.long_as)) (le-leb (length rs + word b at) most g.few-names),
    every-both Kept names_of_file (section_4_rules rs b (tokens_at b at)) (names_kept (word b at) rs b (at + 4) 0 g.names) (
      must-kept b (tokens_at b at) (leb (word b (tokens_at b at)) most_tokens) (omega (arith, g.long_as)) (le-leb (word b (tokens_at b at)) most_tokens g.few-tokens),
      every-both Kept tokens_of_file ends (tokens-kept (word b (tokens_at b at)) rs b (tokens_at b at + 4) 0 g.tokens)
          (le-ltb (end_place (tokens_at b at) (word b (tokens_at b at))) (length b) (omega (arith, g.long_as)), every-none Kept),
    ),
  )
