-- The other names and the tokens that saving writes keep the rules of a file, and are read back as they were. Assumes nothing.
use Rattle.std.specs.Prelude.{◌≡◌, refl, true, ◌||◌, List, [], ◌∷◌, ◌++◌, ℕ, ◌+◌, ◌*◌, ◌≤◌, ◌<◌, eqb, length}
use Rattle.std.proofs.Common.{sym, ap, subst, ◌∙◌, arith}
use Rattle.rules.specs.Numbers.{no_name}
use Rattle.rules.specs.Lists.{lookup}
use Rattle.rules.specs.Lists.Found.{none, found}
use Rattle.rules.specs.Layouts.{word, long}
use Rattle.rules.specs.Names.{token_of, shareable, under}
use Rattle.rules.specs.Packets.{handle_of}
use Rattle.rules.specs.Registers.{low, high}
use Rattle.rules.specs.declared.Resource.{Resource}
use Rattle.rules.specs.declared.Token.{Token}
use Rattle.rules.specs.Saved.{names_fields, tokens_fields}
use Rattle.rules.specs.Loaded.{may_be_shared, named, loaded_names, loaded_token, loaded_tokens}
use Rattle.promises_of_packets.specs.Held.{Every}
use Rattle.promises_of_saving.specs.Rising.{Rises}
use Rattle.promises_of_saving.specs.GoodShared.{GoodName, GoodNames, GoodToken, GoodTokens}
use Rattle.promises_of_saving.specs.Savable.{FitsResource, FitsToken}
use Rattle.promises_of_saving.specs.WrittenResources.{Reads, reads_first, reads-later, word_back, long-back}

-- ---- other names

-- another name, of one of these resources
pub record OtherNameOf (rs : List Resource) (r : Resource) : Type 0 where
  pub free : lookup handle_of r.handle rs ≡ none
  pub below : r.lowest < r.handle
  pub first : lookup handle_of r.lowest rs ≡ found (under r.lowest r)
  pub shared : shareable r.kind ≡ true

pub length-names-fields : (ns : List Resource) → length (names_fields ns) ≡ 2 * length ns
unfolding names_fields
length-names-fields [] = refl
length-names-fields (r ∷ ns) = omega (arith, length-names-fields ns)

record NameBack (rs : List Resource) (b : List ℕ) (at before : ℕ) (r : Resource) : Type 0 where
  good : GoodName rs b at before
  same : named (word b at) (lookup handle_of (word b (at + 4)) rs) ≡ r ∷ []
  first : word b at ≡ r.handle

name_back : (rs : List Resource) (b : List ℕ) (at before : ℕ) → at + 8 ≤ length b → (r : Resource) (rest : List ℕ) → before < r.handle → OtherNameOf rs r
    → FitsResource r → Reads b at (r.handle ∷ r.lowest ∷ rest) → NameBack rs b at before r
name_back rs b at before whole r rest rises n fits reads =
    let e0 : word b at ≡ r.handle = word_back (word b at) r.handle (reads_first b at (r.handle ∷ r.lowest ∷ rest) reads) fits.handle in
    let e4 : word b (at + 4) ≡ r.lowest = word_back (word b (at + 4)) r.lowest (reads 1) fits.lowest in
    record {
      good = record {
        whole = whole;
        rises = omega arith;
        free = ap (λ k. lookup handle_of k rs) e0 ∙ n.free;
        below = omega (arith, n.below);
        shared = ap (λ k. may_be_shared (lookup handle_of k rs)) e4 ∙ (ap may_be_shared n.first ∙ n.shared);
      };
      same = ap (λ k. named (word b at) (lookup handle_of k rs)) e4 ∙ (ap (named (word b at)) n.first ∙ ap (λ k. under k r ∷ []) e0);
      first = e0;
    }

pub written-names : (ns rs : List Resource) (rest b : List ℕ) (at before : ℕ) → Rises handle_of before ns → Every (OtherNameOf rs) ns → Every FitsResource ns
    → at + 8 * length ns ≤ length b → Reads b at (names_fields ns ++ rest) → GoodNames (length ns) rs b at before × (loaded_names (length ns) rs b at ≡ ns)
unfolding names_fields loaded_names GoodNames Every Rises
written-names [] rs rest b at before rise others fits room reads = (omega arith, refl)
written-names (r ∷ ns) rs rest b at before rise others fits room reads =
    let one : NameBack rs b at before r = name_back rs b at before (omega arith) r (names_fields ns ++ rest) rise.0 others.0 fits.0 reads in
    let later = written-names ns rs rest b (at + 8) r.handle rise.1 others.1 fits.1 (omega arith)
    (reads-later b at (at + 8) (r.handle ∷ r.lowest ∷ []) (names_fields ns ++ rest) (omega arith) reads) in
    ((one.good, subst (GoodNames (length ns) rs b (at + 8)) (sym one.first) later.0), rw (one.same, later.1))

-- ---- tokens

-- a token that keeps the rule of a file: it is spent, or bound to one of these resources
abbrev pub TokenKept : List Resource → Token → Type 0
TokenKept rs t = eqb t.name no_name || may_be_shared (lookup handle_of t.name rs) ≡ true

pub length-tokens-fields : (ts : List Token) → length (tokens_fields ts) ≡ 3 * length ts
unfolding tokens_fields
length-tokens-fields [] = refl
length-tokens-fields (t ∷ ts) = omega (arith, length-tokens-fields ts)

record TokenBack (rs : List Resource) (b : List ℕ) (at before : ℕ) (t : Token) : Type 0 where
  good : GoodToken rs b at before
  same : loaded_token b at ≡ t
  first : long b at ≡ t.token

token_back : (rs : List Resource) (b : List ℕ) (at before : ℕ) → at + 12 ≤ length b → (t : Token) (rest : List ℕ) → before < t.token → TokenKept rs t
    → FitsToken t → Reads b at (low t.token ∷ high t.token ∷ t.name ∷ rest) → TokenBack rs b at before t
token_back rs b at before whole t rest rises bound fits reads =
    let e0 : long b at ≡ t.token =
    long-back b at (at + 4) t.token (omega arith) refl (reads_first b at (low t.token ∷ high t.token ∷ t.name ∷ rest) reads) (reads 1) fits.token in
    let e8 : word b (at + 8) ≡ t.name = word_back (word b (at + 8)) t.name (reads 2) fits.name in
    record {
      good = record {
        whole = whole;
        rises = omega arith;
        bound = ap (λ k. eqb k no_name || may_be_shared (lookup handle_of k rs)) e8 ∙ bound;
      };
      same = rw (e0, e8);
      first = e0;
    }

pub written-tokens : (ts : List Token) (rs : List Resource) (b : List ℕ) (at before : ℕ) → Rises token_of before ts → Every (TokenKept rs) ts → Every FitsToken ts
    → at + 12 * length ts ≤ length b → Reads b at (tokens_fields ts) → GoodTokens (length ts) rs b at before × (loaded_tokens (length ts) b at ≡ ts)
unfolding tokens_fields loaded_tokens GoodTokens Every Rises
written-tokens [] rs b at before rise bound fits room reads = (omega arith, refl)
written-tokens (t ∷ ts) rs b at before rise bound fits room reads =
    let one : TokenBack rs b at before t = token_back rs b at before (omega arith) t (tokens_fields ts) rise.0 bound.0 fits.0 reads in
    let later = written-tokens ts rs b (at + 12) t.token rise.1 bound.1 fits.1 (omega arith)
    (reads-later b at (at + 12) (low t.token ∷ high t.token ∷ t.name ∷ []) (tokens_fields ts) (omega arith) reads) in
    ((one.good, subst (GoodTokens (length ts) rs b (at + 12)) (sym one.first) later.0), rw (one.same, later.1))
