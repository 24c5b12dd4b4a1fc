-- A file that breaks no rule has what loading needs of it. Assumes nothing.
use Rattle.std.proofs.Math.Path.{◌≡◌, sym, subst}
use Rattle.std.proofs.Common.{◌∙◌, leb-true}
use Rattle.std.specs.Prelude.{Bool, ◌&&◌, List, [], ◌∷◌, ℕ, ◌+◌, ◌*◌, ◌≤◌, ◌<◌, ltb, leb, length, Ok}
use Rattle.std.proofs.Math.Bool.{true, false}
use native.Mathlib.Omega.{arith}
use Rattle.rules.specs.Numbers.{most, most_tokens}
use Rattle.rules.specs.Lists.{Found, lookup}
use Rattle.rules.specs.Lists.Found.{none, found}
use Rattle.rules.specs.Layouts.{word, long}
use Rattle.rules.specs.Packets.{handle_of}
use Rattle.rules.specs.Saved.{count_place, head_bytes}
use Rattle.rules.specs.Loaded.{must, resources_rules, end_rule, names_place, tokens_place, end_place, head_rules, is_free, may_be_shared, name_rules, names_rules, token_rules, tokens_rules, section_4_rules, section_3_rules, section_2, sections_rules, form_in, sections, bad_place}
use Rattle.rules.specs.declared.Resource.{Resource}
use Rattle.saved_fields.specs.Judging.{checked, judge_rule, judge_rules, judged-first, judged-append, FileCheck}
use Rattle.saved_fields.specs.Kept.{was-good, front-good, kept_there}
use Rattle.saved_fields.specs.Items.{reach, each}
use Rattle.saved_fields.specs.Good.{IsFound, GoodShared, Shared, GoodSections, GoodFile}
use Rattle.saved_names.specs.Names.{section_3_names, no_names, names-step, name-there}
use Rattle.rules.specs.declared.Form.{Form}
use Rattle.rules.specs.declared.Form.TheVariants.{One, Two}
use Rattle.saved_tokens.specs.Tokens.{no-tokens, tokens-step, token-there}
use Rattle.saved_check.specs.Whole.{resources-there, later, head-kept, rest, sections-in-turn}
use Rattle.saved_check.specs.File.{sections-good}

-- ---- sections 3 and 4

module _ (rs : List Resource) (b : List ℕ) where
  -- a name whose rules are kept is another of a resource
  name-found : (c : FileCheck) (at before : ℕ) → judge_rules c (name_rules rs b at before) ≡ Ok tt → IsFound (lookup handle_of (word b (at + 4)) rs)
  unfolding judge_rules
  name-found c at before e =
      by (ltb (word b (at + 4)) (word b at)) (lookup handle_of (word b (at + 4)) rs)
      (kept_there (judge_rule c (must b at (ltb before (word b at) && is_free (lookup handle_of (word b at) rs)))) b (at + 4)
      (ltb (word b (at + 4)) (word b at) && may_be_shared (lookup handle_of (word b (at + 4)) rs)) e).1
    where
      by : (v : Bool) (x : Found Resource) → (v && may_be_shared x) ≡ true → IsFound x
      by true none h = absurd (let z : ◌≡◌ {A = ℕ} 0 1 = cc in omega arith)
      by false none h = absurd (let z : ◌≡◌ {A = ℕ} 0 1 = cc in omega arith)
      by v (found r) h = omega arith

  module _ (at : ℕ) (all : judge_rules (Ok tt) (section_3_rules rs b at) ≡ Ok tt) where
    abbrev next : ℕ
    next = tokens_place at (word b at)

    names : judge_rules (Ok tt) (section_3_names rs b at) ≡ Ok tt
    unfolding section_3_rules
    names = front-good (Ok tt) (section_3_names rs b at) (section_4_rules rs b next) all

    tokens : judge_rules (judge_rules (Ok tt) (section_3_names rs b at)) (section_4_rules rs b next) ≡ Ok tt
    unfolding section_3_rules
    tokens = sym (judged-append (Ok tt) (section_3_names rs b at) (section_4_rules rs b next)) ∙ all

    abbrev counted : FileCheck
    counted = judge_rule (Ok tt) (must b at (leb (length rs + word b at) most))

    names_count : (at + 4 ≤ length b) × (leb (length rs + word b at) most ≡ true)
    unfolding judge_rules
    names_count = kept_there (Ok tt) b at (leb (length rs + word b at) most) (was-good counted (names_rules (word b at) rs b (at + 4) 0) names)

    names-end : at + 4 + 8 * word b at ≤ length b
    unfolding judge_rules
    names-end =
        reach (name_rules rs b) (λ n. names_rules n rs b) (word b) 8 (no_names rs b) (names-step rs b) (length b)
        (λ c at before e. let end = name-there rs b c at before e in omega arith) (word b at) counted (at + 4) 0 names_count.0 names

    names-are-found : (i : ℕ) → i < word b at → IsFound (lookup handle_of (word b (at + 8 + 8 * i)) rs)
    unfolding judge_rules
    names-are-found i h =
        let there : at + 4 + 8 * i + 4 ≡ at + 8 + 8 * i = omega arith in
        subst (λ k. IsFound (lookup handle_of (word b k) rs)) there
        (each (name_rules rs b) (λ n. names_rules n rs b) (word b) 8 (no_names rs b) (names-step rs b) (λ k. IsFound (lookup handle_of (word b (k + 4)) rs)) name-found (word b at) counted (at + 4) 0 names i h)

    abbrev told : FileCheck
    told = judge_rule (judge_rules (Ok tt) (section_3_names rs b at)) (must b next (leb (word b next) most_tokens))

    tokens-kept : judge_rules told (tokens_rules (word b next) rs b (next + 4) 0) ≡ Ok tt
    unfolding judge_rules section_4_rules
    tokens-kept = front-good told (tokens_rules (word b next) rs b (next + 4) 0) (end_rule b (end_place next (word b next)) ∷ []) tokens

    tokens-count : (next + 4 ≤ length b) × (leb (word b next) most_tokens ≡ true)
    tokens-count =
        kept_there (judge_rules (Ok tt) (section_3_names rs b at)) b next (leb (word b next) most_tokens) (was-good told (tokens_rules (word b next) rs b (next + 4) 0) tokens-kept)

    good-shared : GoodShared rs b at
    good-shared =
        record {
          few-names = leb-true (length rs + word b at) most names_count.1;
          names-there = tokens-count.0;
          names-found = names-are-found;
          few-tokens = leb-true (word b next) most_tokens tokens-count.1;
          tokens-there =
              reach (token_rules rs b) (λ n. tokens_rules n rs b) (long b) 12 (no-tokens rs b) (tokens-step rs b) (length b)
              (λ c at before e. let end = token-there rs b c at before e in omega arith) (word b next) told (next + 4) 0 tokens-count.0 tokens-kept;
        }

-- ---- all sections, and the file

good_later : (f : Form) (b : List ℕ) → judge_rules (Ok tt) (later f b (word b (count_place f))) ≡ Ok tt → Shared f b
good_later One b e = omega arith
good_later Two b e = good-shared (section_2 Two b) b (names_place Two (word b (count_place Two))) e

good-sections : (f : Form) (b : List ℕ) → judge_rules (Ok tt) (sections_rules f b) ≡ Ok tt → GoodSections f b
good-sections f b e =
    let n : ℕ = word b (count_place f) in
    let head : FileCheck = judge_rules (Ok tt) (head_rules f b) in
    let all : judge_rules head (rest b f n) ≡ Ok tt = sym (sections-in-turn b f) ∙ e in
    let good : head ≡ Ok tt = was-good head (rest b f n) all in
    let resources : judge_rules head (resources_rules n b (head_bytes f) 0) ≡ Ok tt = front-good head (resources_rules n b (head_bytes f) 0) (later f b n) all in
    let after : judge_rules (Ok tt) (later f b n) ≡ Ok tt =
    subst (λ x. judge_rules x (later f b n) ≡ Ok tt) resources (sym (judged-append head (resources_rules n b (head_bytes f) 0) (later f b n)) ∙ all) in
    let there : count_place f + 4 ≤ length b = (head-kept f b good).0 in
    record {
      count = (head-kept f b good).1;
      whole = resources-there b n head (head_bytes f) (omega arith) resources;
      shared = good_later f b after;
    }

pub good-file : (b : List ℕ) → checked (bad_place b) ≡ Ok tt → GoodFile b
good-file b e =
    good-sections (form_in b) (sections b) (judged-first (sections_rules (form_in b) (sections b)) ∙ sections-good b e)
