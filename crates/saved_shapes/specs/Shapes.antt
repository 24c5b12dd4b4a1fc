-- What the questions about the numbers of a resource ask: a law for each end. Assumes nothing.
use Rattle.std.specs.Prelude.{◌≡◌, Bool, true, false, not, ◌&&◌, ◌||◌, ℕ, ◌≤◌, ◌<◌, eqb, leb}
use Rattle.std.proofs.Common.{rules, eq-eqb, ne_eqb, le-leb}
use Rattle.std.proofs.lemmas.Bool.{lt-leb}
use Rattle.rules.specs.Shapes.{tight}
use Rattle.rules.specs.Packets.{backed}
use Rattle.rules.specs.declared.Shape.{Shape}
use Rattle.rules.specs.Loaded.{between, good_pitch}
use Rattle.texture_shapes.specs.Formats.{minimum}

-- ---- has_size

module _ (low high : ℕ) where
  pub some-low : (low ≡ 0 → ⊥) → true ≡ not (eqb low 0 && eqb high 0)
  some-low h = rw (ne_eqb low 0 h)

  pub by_high : low ≡ 0 → not (eqb high 0) ≡ not (eqb low 0 && eqb high 0)
  by_high h = rw (eq-eqb low 0 h)

pub ruleset sizing = (some-low, by_high, rules)

-- ---- good_mips, good_layers

module _ (most n : ℕ) where
  pub none-there : n < 1 → false ≡ between 1 most n
  none-there h = rw (lt-leb 1 n h)

  pub not-above : (v : Bool) → 1 ≤ n → v ≡ leb n most → v ≡ between 1 most n
  not-above v h e = rw (le-leb 1 n h, e)

  pub up_to : 1 ≤ n → leb n most ≡ between 1 most n
  up_to h = rw (le-leb 1 n h)

pub ruleset counting = (none-there, not-above, up_to, rules)

-- ---- good_pitch, good_offset

module _ (s : Shape) (pitch backing : ℕ) where
  pub host-pitch : backing ≡ 0 → eqb pitch 0 ≡ good_pitch s pitch backing
  host-pitch h = rw (eq-eqb backing 0 h)

  pub backed-pitch : (m : ℕ) → (backing ≡ 0 → ⊥) → m ≡ minimum s.format s.width → leb m pitch ≡ good_pitch s pitch backing
  unfolding tight
  backed-pitch m h e = rw (ne_eqb backing 0 h, e)

module _ (backing offset : ℕ) where
  pub backed-offset : (backing ≡ 0 → ⊥) → true ≡ (backed backing || eqb offset 0)
  backed-offset h = rw (ne_eqb backing 0 h)

  pub host-offset : backing ≡ 0 → eqb offset 0 ≡ (backed backing || eqb offset 0)
  host-offset h = rw (eq-eqb backing 0 h)

pub ruleset backing_rules = (host-pitch, backed-pitch, backed-offset, host-offset, rules)
