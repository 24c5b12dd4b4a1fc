-- The rules of a file's sections, one part after the other, as the code judges them. Assumes nothing.
use Rattle.std.specs.Prelude.{◌≡◌, ◌||◌, List, [], ◌∷◌, ◌++◌, ℕ, suc, ◌+◌, ◌*◌, ◌-◌, ◌≤◌, ◌<◌, leb, length, take, Err, Ok}
use Rattle.std.proofs.Math.Path.{refl}
use Rattle.std.proofs.Common.{sym, ap, subst, ◌∙◌, arith, rules, leb-true}
use Rattle.std.proofs.Math.Dec.{eqb}
use Rattle.rules.specs.Numbers.{most}
use Rattle.rules.specs.Layouts.{word}
use Rattle.rules.specs.Packets.{backed}
use Rattle.rules.specs.Saved.{resource_bytes, more_registers, count_place, head_bytes}
use Rattle.rules.specs.Loaded.{Rule, must, resource_rules, resources_rules, end_rule, first_broken, names_place, tokens_place, head_rules, names_rules, section_4_rules, section_3_rules, sections_rules}
use Rattle.saved_fields.specs.Judging.{checked, judge_rule, judge_rules, ends, seen, seen-there, once-bad, judged-first, judged-append, FileCheck}
use Rattle.saved_fields.specs.Kept.{was-good, kept_there, same_after}
use Rattle.saved_fields.specs.Items.{items-start, items-turn, items-end, reach}
use Rattle.saved_names.specs.Scan.{resources_of}
use Rattle.saved_names.specs.Names.{section_3_names, length-loaded}
use Rattle.saved_resources.specs.Rules.{seen_resource, fields_rules, file-resource}
use Rattle.saved_resources.specs.declared.SavedResource.{SavedResource}
use Rattle.rules.specs.declared.Form.{Form}
use Rattle.rules.specs.declared.Form.TheVariants.{One, Two}

-- ---- check_resources

module _ (b : List ℕ) where
  pub no-resources : (at before : ℕ) → resources_rules 0 b at before ≡ []
  unfolding resources_rules
  no-resources at before = refl

  pub resources-step : (n at before : ℕ) → resources_rules (suc n) b at before ≡ resource_rules b at before ++ resources_rules n b (at + resource_bytes) (word b at)
  unfolding resources_rules
  resources-step n at before = refl

  -- a resource whose rules are kept is all there
  resource-there : (c : FileCheck) (at before : ℕ) → judge_rules c (resource_rules b at before) ≡ Ok tt → at + 44 + 4 ≤ length b
  unfolding judge_rules
  resource-there c at before e =
      (kept_there (judge_rules c (take 11 (resource_rules b at before))) b (at + 44) (backed (word b (at + 40)) || eqb (word b (at + 44)) 0) e).0

  pub resources-there : (n : ℕ) (c : FileCheck) (at : ℕ) → at ≤ length b → judge_rules c (resources_rules n b at 0) ≡ Ok tt → at + 48 * n ≤ length b
  resources-there n c at h e =
      reach (resource_rules b) (λ n. resources_rules n b) (word b) 48 no-resources resources-step (length b)
      (λ c at before e. let end = resource-there c at before e in omega arith) n c at 0 h e

  module _ (c₀ : FileCheck) (n first : ℕ) where
    pub resources-start : judge_rules c₀ (resources_rules n b first 0) ≡ judge_rules c₀ (resources_rules (n - 0) b first 0)
    resources-start = items-start (resource_rules b) (λ n. resources_rules n b) (word b) 48 no-resources resources-step c₀ n first

    module _ (c : FileCheck) (i at before : ℕ) (inv : judge_rules c₀ (resources_rules n b first 0) ≡ judge_rules c (resources_rules (n - i) b at before)) where
      pub resources-turn : (s : SavedResource) (c' : FileCheck) → i < n → s ≡ seen_resource b at → c' ≡ judge_rules c (fields_rules (length b) at s before)
          → judge_rules c₀ (resources_rules n b first 0) ≡ judge_rules c' (resources_rules (n - (i + 1)) b (at + 48) s.handle)
      resources-turn s c' h e f =
          let here : c' ≡ judge_rules c (resource_rules b at before) = f ∙ rw (e, file-resource b at before) in
          items-turn (resource_rules b) (λ n. resources_rules n b) (word b) 48 no-resources resources-step c₀ n first c i at before inv s.handle c' h here (λ good.
          let end : at + 44 + 4 ≤ length b = resource-there c at before (sym here ∙ good) in
          rw e (seen-there b at (omega arith)))

      pub resources-end : n ≤ i → c ≡ judge_rules c₀ (resources_rules n b first 0)
      resources-end h = items-end (resource_rules b) (λ n. resources_rules n b) (word b) 48 no-resources resources-step c₀ n first c i at before inv h

pub ruleset judging_resources = (resources-start, resources-turn, resources-end, rules)

-- ---- check_shared

-- the rule of section 3's count
abbrev pub names_count : List ℕ → ℕ → ℕ → Rule
names_count b count at = must b at (leb (length (resources_of b count) + word b at) most)

-- where it is kept, the count is there, and says few names
pub few-names : (b : List ℕ) (count at : ℕ) → judge_rule (Ok tt) (names_count b count at) ≡ Ok tt → (at + 4 ≤ length b) × (count + word b at ≤ 64)
few-names b count at e =
    let both = kept_there (Ok tt) b at (leb (length (resources_of b count) + word b at) most) e in
    let few = leb-true (length (resources_of b count) + word b at) most both.1 in
    (both.0, subst (λ k. k + word b at ≤ 64) (length-loaded count b 96) few)

pub names-counted : (b : List ℕ) (count at : ℕ) → judge_rules (Ok tt) (section_3_names (resources_of b count) b at) ≡ Ok tt → (at + 4 ≤ length b) × (count + word b at ≤ 64)
unfolding judge_rules
names-counted b count at e =
    few-names b count at (was-good (judge_rule (Ok tt) (names_count b count at)) (names_rules (word b at) (resources_of b count) b (at + 4) 0) e)

module _ (b : List ℕ) (count : ℕ) (c : FileCheck) (judged : c ≡ judge_rules (Ok tt) (section_3_names (resources_of b count) b (96 + 48 * count))) where
  abbrev at : ℕ
  at = 96 + 48 * count

  in-turn : judge_rules (Ok tt) (section_3_rules (resources_of b count) b at) ≡ judge_rules c (section_4_rules (resources_of b count) b (tokens_place at (word b at)))
  unfolding section_3_rules
  in-turn =
      judged-append (Ok tt) (section_3_names (resources_of b count) b at) (section_4_rules (resources_of b count) b (tokens_place at (word b at))) ∙ rw judged

  pub bad-names : (p : ℕ) → c ≡ Err p → c ≡ judge_rules (Ok tt) (section_3_rules (resources_of b count) b (96 + 48 * count))
  bad-names p e =
      sym (in-turn ∙ (ap (λ x. judge_rules x (section_4_rules (resources_of b count) b (tokens_place at (word b at)))) e ∙ (once-bad p (section_4_rules (resources_of b count) b (tokens_place at (word b at))) ∙ sym e)))

  module _ (good : c ≡ Ok tt) (n : ℕ) (is : n ≡ seen b (96 + 48 * count)) where
    said : (n ≡ word b at) × (count + n ≤ 64)
    said =
        let both = names-counted b count at (sym judged ∙ good) in
        let real : n ≡ word b at = is ∙ seen-there b at both.0 in
        (real, subst (λ k. count + k ≤ 64) (sym real) both.1)

    pub names-fit : 8 * n < 4294967296
    names-fit = omega (arith, said.1)

    pub tokens-place-fits : 96 + 48 * count + 4 + 8 * n < 4294967296
    tokens-place-fits = omega (arith, said.1)

    pub tokens-near : 96 + 48 * count + 4 + 8 * n ≤ 3684
    tokens-near = omega (arith, said.1)

    pub judges-shared : (r : FileCheck) → r ≡ judge_rules (Ok tt) (section_4_rules (resources_of b count) b (96 + 48 * count + 4 + 8 * n))
        → r ≡ judge_rules (Ok tt) (section_3_rules (resources_of b count) b (96 + 48 * count))
    judges-shared r e =
        e ∙ (ap (λ k. judge_rules (Ok tt) (section_4_rules (resources_of b count) b (96 + 48 * count + 4 + 8 * k))) said.0
        ∙ (ap (λ x. judge_rules x (section_4_rules (resources_of b count) b (tokens_place at (word b at)))) (sym good) ∙ sym in-turn))

pub ruleset judging_shared = (bad-names, names-fit, tokens-place-fits, tokens-near, judges-shared, rules)

-- ---- check_later

-- what comes after so many resources
abbrev pub later : Form → List ℕ → ℕ → List Rule
later One b n = end_rule b (names_place One n) ∷ []
later Two b n = section_3_rules (resources_of b n) b (names_place Two n)

-- where no rule is broken, so many bytes are there
abbrev pub AllThere : List ℕ → ℕ → FileCheck → Type 0
AllThere b end (Ok _) = end ≤ length b
AllThere b end (Err place) = 0 ≤ 0

module _ (b : List ℕ) (f : Form) (n : ℕ) (c : FileCheck) where
  pub ends-form-1 : (r : FileCheck) → f ≡ One → r ≡ judge_rule c (ends (length b) (92 + 48 * n)) → r ≡ judge_rules c (later f b n)
  unfolding judge_rules
  ends-form-1 r one e = rw one e

  module _ (two : f ≡ Two) where
    pub was-bad : (p : ℕ) → c ≡ Err p → c ≡ judge_rules c (later f b n)
    was-bad p e = rw e (sym (once-bad p (later f b n)))

    module _ (good : c ≡ Ok tt) where
      pub stands-whole : AllThere b (names_place f n) c → 96 + 48 * n ≤ length b
      stands-whole h = subst (λ x. AllThere b (names_place Two n) x) good (subst (λ x. AllThere b (names_place x n) c) two h)

      pub judges-later : (r : FileCheck) → r ≡ judge_rules (Ok tt) (section_3_rules (resources_of b n) b (96 + 48 * n)) → r ≡ judge_rules c (later f b n)
      judges-later r e = rw (two, good) e

pub ruleset judging_later = (ends-form-1, was-bad, stands-whole, judges-later, rules)

-- ---- check_sections

-- the head's last rule: section 2's count is there, and says few resources
pub head-kept : (f : Form) (b : List ℕ) → judge_rules (Ok tt) (head_rules f b) ≡ Ok tt → (count_place f + 4 ≤ length b) × (word b (count_place f) ≤ 64)
unfolding judge_rules
head-kept One b e =
    let both = kept_there (judge_rules (Ok tt) (take 22 (head_rules One b))) b 88 (leb (word b 88) most) e in
    (both.0, leb-true (word b 88) most both.1)
head-kept Two b e =
    let both = kept_there (judge_rules (Ok tt) (take 23 (head_rules Two b))) b 92 (leb (word b 92) most) e in
    (both.0, leb-true (word b 92) most both.1)

module _ (b : List ℕ) (f : Form) where
  -- the rules after the head, of so many resources
  abbrev pub rest : ℕ → List Rule
  rest n = resources_rules n b (head_bytes f) 0 ++ later f b n

  pub sections-in-turn : judge_rules (Ok tt) (sections_rules f b) ≡ judge_rules (judge_rules (Ok tt) (head_rules f b)) (rest (word b (count_place f)))
  unfolding sections_rules
  sections-in-turn = by f
    where
      by : (f : Form) → judge_rules (Ok tt) (sections_rules f b) ≡ judge_rules (judge_rules (Ok tt) (head_rules f b)) (resources_rules (word b (count_place f)) b (head_bytes f) 0 ++ later f b (word b (count_place f)))
      by One = judged-append (Ok tt) (head_rules One b) (resources_rules (word b 88) b 92 0 ++ later One b (word b 88))
      by Two = judged-append (Ok tt) (head_rules Two b) (resources_rules (word b 92) b 96 0 ++ later Two b (word b 92))

  module _ (m n : ℕ) (c : FileCheck) (more : m ≡ more_registers f) (is : c ≡ judge_rules (Ok tt) (head_rules f b)) (said : n ≡ seen b (88 + 4 * m)) where
    -- a count that is read is the one that is said, where the head is good
    real : c ≡ Ok tt → n ≡ word b (count_place f)
    real good =
        let there : count_place f + 4 ≤ length b = (head-kept f b (sym is ∙ good)).0 in
        said ∙ (ap (λ k. seen b (88 + 4 * k)) more ∙ seen-there b (count_place f) there)

    whole : checked (first_broken (sections_rules f b)) ≡ judge_rules c (rest (word b (count_place f)))
    whole = sym (judged-first (sections_rules f b)) ∙ (sections-in-turn ∙ rw is)

    pub too-many-said : 64 < n → c ≡ checked (first_broken (sections_rules f b))
    too-many-said h = sym (whole ∙ by c refl)
      where
        by : (d : FileCheck) → c ≡ d → judge_rules d (rest (word b (count_place f))) ≡ d
        by (Ok _) e = absurd (omega (arith, real e, (head-kept f b (sym is ∙ e)).1))
        by (Err p) e = once-bad p (rest (word b (count_place f)))

    module _ (d : FileCheck) (resources : d ≡ judge_rules c (resources_rules n b (92 + 4 * m) 0)) where
      pub reached : AllThere b (names_place f n) d
      reached = by d refl
        where
          by : (x : FileCheck) → d ≡ x → AllThere b (names_place f n) x
          by (Err p) e = omega arith
          by (Ok _) e =
              let all : judge_rules c (resources_rules n b (head_bytes f) 0) ≡ Ok tt = ap (λ k. judge_rules c (resources_rules n b (92 + 4 * k) 0)) (sym more) ∙ (sym resources ∙ e) in
              let good : c ≡ Ok tt = was-good c (resources_rules n b (head_bytes f) 0) all in
              let there : count_place f + 4 ≤ length b = (head-kept f b (sym is ∙ good)).0 in
              resources-there b n c (head_bytes f) (omega arith) all

      pub judges-sections : (r : FileCheck) → r ≡ judge_rules d (later f b n) → r ≡ checked (first_broken (sections_rules f b))
      judges-sections r e =
          let here : d ≡ judge_rules c (resources_rules n b (head_bytes f) 0) = resources ∙ ap (λ k. judge_rules c (resources_rules n b (92 + 4 * k) 0)) more in
          let all : r ≡ judge_rules c (rest n) = e ∙ rw here (sym (judged-append c (resources_rules n b (head_bytes f) 0) (later f b n))) in
          all ∙ (same_after c (rest n) (rest (word b (count_place f))) (λ good. ap rest (real good)) ∙ sym whole)

pub ruleset judging_sections = (too-many-said, reached, judges-sections, rules)
