-- A header by its magic, version and size: what its judging asks, and what one that is not wrong says. Assumes nothing.
use Rattle.std.specs.Prelude.{◌≡◌, refl, Bool, true, false, not, ◌||◌, ℕ, ◌/◌, ◌≤◌, ◌<◌, ltb, eqb}
use Rattle.std.proofs.Common.{arith, rules}
use borrow.Author.Tests.{lt-ltb, le-ltb, eq-eqb, ne_eqb, ltb-false, eqb-true, not-false}
use Rattle.rules.specs.Numbers.{minors, good_major}
use Rattle.rules.specs.Layouts.{good_version}
use Rattle.rules.specs.Headers.{wrong_header}

module _ (wanted header range magic version size : ℕ) where
  pub wrong-short : range < header → true ≡ wrong_header wanted header range magic version size
  unfolding wrong_header
  wrong-short p = rw (lt-ltb _ _ p)

  module _ (long : header ≤ range) where
    pub wrong-magic : (magic ≡ wanted → ⊥) → true ≡ wrong_header wanted header range magic version size
    unfolding wrong_header
    wrong-magic p = rw (le-ltb _ _ long, ne_eqb _ _ p)

    module _ (right : magic ≡ wanted) where
      pub wrong-version : (version / minors ≡ good_major → ⊥) → true ≡ wrong_header wanted header range magic version size
      unfolding wrong_header
      wrong-version p = rw (le-ltb _ _ long, eq-eqb _ _ right, ne_eqb _ _ p)

      module _ (major : version / minors ≡ good_major) (bytes : ℕ) (same : (bytes ≡ size) × (bytes < 4294967296)) where
        pub wrong-small : bytes < header → true ≡ wrong_header wanted header range magic version size
        unfolding wrong_header
        wrong-small p = rw (le-ltb _ _ long, eq-eqb _ _ right, eq-eqb _ _ major, ← same.0, lt-ltb _ _ p)

        pub wrong-large : header ≤ bytes → ltb range bytes ≡ wrong_header wanted header range magic version size
        unfolding wrong_header
        wrong-large p = rw (le-ltb _ _ long, eq-eqb _ _ right, eq-eqb _ _ major, ← same.0, le-ltb _ _ p)

pub ruleset judging_header = (wrong-short, wrong-magic, wrong-version, wrong-small, wrong-large, rules)

-- ---- what a header that is not wrong says

neither : (a b : Bool) → a || b ≡ false → (a ≡ false) × (b ≡ false)
neither true b h = let z : ◌≡◌ {A = ℕ} 0 1 = cc in absurd (omega arith)
neither false b h = (refl, h)

pub record GoodHeader (wanted least range magic version size : ℕ) : Type 0 where
  pub right : magic ≡ wanted
  pub major : version / minors ≡ good_major
  pub header : least ≤ size
  pub inside : size ≤ range

pub header-good : (wanted header range magic version size : ℕ) → wrong_header wanted header range magic version size ≡ false
    → GoodHeader wanted header range magic version size
unfolding wrong_header
header-good wanted header range magic version size h =
    let later = (neither (ltb range header) _ h).1 in
    let later₂ = neither (not (eqb magic wanted)) _ later in
    let later₃ = neither (not (good_version version)) _ later₂.1 in
    let last = neither (ltb size header) _ later₃.1 in
    record {
      right = eqb-true magic wanted (not-false _ later₂.0);
      major = eqb-true (version / minors) good_major (not-false _ later₃.0);
      header = ltb-false size header last.0;
      inside = ltb-false range size last.1;
    }
