-- A descriptor: what its reading and its judging ask. Assumes nothing.
use Rattle.std.specs.Prelude.{◌≡◌, Bool, ◌||◌, List, ℕ, ◌+◌, ◌-◌, ◌^◌, ◌≤◌, ◌<◌, Err, Ok}
use Rattle.std.proofs.Math.Path.{refl, ap}
use Rattle.std.proofs.Common.{sym, ◌∙◌, rules}
use Rattle.std.proofs.Math.Bool.{true, false}
use borrow.Author.Tests.{eq-eqb, ne_eqb, lt-ltb, le-ltb}
use Rattle.std.proofs.Math.Dec.{ltb}
use Rattle.machine.specs.Machine.{pick}
use Rattle.rules.specs.Judging.{rule, only, ◌▹◌, Verdict}
use Rattle.rules.specs.Layouts.{word, long, descriptor, descriptor_size}
use Rattle.rules.specs.Ring.{half_there, present, descriptor_rules, range_rules}
use Rattle.rules.specs.declared.Descriptor.{Descriptor}
use Rattle.rules.specs.declared.Refusal.{Refusal}
use Rattle.rules.specs.declared.Refusal.TheVariants.{BadDescriptor, OutsideMemory}

pub descriptor-read : (m : List ℕ) (at a b c d e f g : ℕ) → a ≡ word m at → b ≡ word m (at + 4) → c ≡ long m (at + 16) → d ≡ word m (at + 24) → e ≡ long m (at + 32)
    → f ≡ word m (at + 40) → g ≡ long m (at + 48)
    → ◌≡◌ {A = Descriptor} (record { size = a; flags = b; cmd = c; cmdsize = d; table = e; tablesize = f; signal = g }) (descriptor m at)
unfolding descriptor
descriptor-read m at a b c d e f g p q r s t u v = rw (p, q, r, s, t, u, v)

pub ruleset reading_descriptor = (descriptor-read, rules)

-- ---- 11

-- a range that breaks 11
unfoldable pub bad_range : ℕ → ℕ → Bool
bad_range gpa size = half_there gpa size || ltb (2 ^ 64 - 1) (gpa + size)

module _ (gpa size : ℕ) where
  pub neither-there : gpa ≡ 0 → size ≡ 0 → false ≡ bad_range gpa size
  unfolding bad_range
  neither-there g e = rw (g, e)

  pub size-alone : gpa ≡ 0 → (size ≡ 0 → ⊥) → true ≡ bad_range gpa size
  unfolding bad_range
  size-alone g e = rw (eq-eqb _ _ g, ne_eqb _ _ e)

  pub gpa-alone : (gpa ≡ 0 → ⊥) → size ≡ 0 → true ≡ bad_range gpa size
  unfolding bad_range
  gpa-alone g e = rw (ne_eqb _ _ g, eq-eqb _ _ e)

  pub both-there : (s : ℕ) (b : Bool) → (gpa ≡ 0 → ⊥) → (size ≡ 0 → ⊥) → (s ≡ size) × (s < 4294967296) → b ≡ ltb 18446744073709551615 (gpa + s) → b ≡ bad_range gpa size
  unfolding bad_range
  both-there s b g e same is = is ∙ rw (ne_eqb _ _ g, ne_eqb _ _ e, same.0)

pub ruleset ranging = (neither-there, size-alone, gpa-alone, both-there, rules)

-- two rules with one number are one rule
joined : (n : Refusal) (a b : Bool) (later : Verdict) → rule n a ▹ rule n b ▹ later ≡ rule n (a || b) ▹ later
joined n true b later = refl
joined n false b later = refl

module _ (stride : ℕ) (d : Descriptor) where
  both-ranges : descriptor_rules stride d ≡ rule BadDescriptor (ltb d.size descriptor_size) ▹ rule BadDescriptor (ltb stride d.size)
      ▹ rule BadDescriptor (bad_range d.cmd d.cmdsize) ▹ rule BadDescriptor (bad_range d.table d.tablesize)
  unfolding descriptor_rules bad_range
  both-ranges = ap (λ v. rule BadDescriptor (ltb d.size descriptor_size) ▹ rule BadDescriptor (ltb stride d.size) ▹ v)
      (joined BadDescriptor (half_there d.cmd d.cmdsize) (ltb (2 ^ 64 - 1) (d.cmd + d.cmdsize)) _
      ∙ ap (λ v. rule BadDescriptor (half_there d.cmd d.cmdsize || ltb (2 ^ 64 - 1) (d.cmd + d.cmdsize)) ▹ v) (alone (half_there d.table d.tablesize) (ltb (2 ^ 64 - 1) (d.table + d.tablesize))))
    where
      alone : (a b : Bool) → rule BadDescriptor a ▹ rule BadDescriptor b ≡ rule BadDescriptor (a || b)
      alone true b = refl
      alone false b = refl

  pub short-descriptor : d.size < descriptor_size → Err BadDescriptor ≡ descriptor_rules stride d
  short-descriptor p = sym (both-ranges ∙ rw (lt-ltb _ _ p))

  module _ (p : descriptor_size ≤ d.size) where
    pub long-descriptor : stride < d.size → Err BadDescriptor ≡ descriptor_rules stride d
    long-descriptor q = sym (both-ranges ∙ rw (le-ltb _ _ p, lt-ltb _ _ q))

    module _ (q : d.size ≤ stride) (a : Bool) (ea : a ≡ bad_range d.cmd d.cmdsize) where
      pub bad-cmd : a ≡ true → Err BadDescriptor ≡ descriptor_rules stride d
      bad-cmd t = sym (both-ranges ∙ rw (le-ltb _ _ p, le-ltb _ _ q, ← ea, t))

      module _ (u : a ≡ false) (b : Bool) (eb : b ≡ bad_range d.table d.tablesize) where
        pub bad-table-range : b ≡ true → Err BadDescriptor ≡ descriptor_rules stride d
        bad-table-range t = sym (both-ranges ∙ rw (le-ltb _ _ p, le-ltb _ _ q, ← ea, u, ← eb, t))

        pub good-descriptor : b ≡ false → Ok tt ≡ descriptor_rules stride d
        good-descriptor t = sym (both-ranges ∙ rw (le-ltb _ _ p, le-ltb _ _ q, ← ea, u, ← eb, t))

pub ruleset describing = (short-descriptor, long-descriptor, bad-cmd, bad-table-range, good-descriptor, rules)

-- ---- 12

-- a range that is present and ends past the memory
unfoldable pub past : ℕ → ℕ → ℕ → Bool
past memory gpa size = pick (present size) (ltb memory (gpa + size)) false

module _ (memory gpa size s : ℕ) (same : (s ≡ size) × (s < 4294967296)) where
  pub not-present : s ≡ 0 → false ≡ past memory gpa size
  unfolding past
  not-present e = rw (eq-eqb size 0 (sym same.0 ∙ e))

  pub there : (b : Bool) → (s ≡ 0 → ⊥) → b ≡ ltb memory (gpa + s) → b ≡ past memory gpa size
  unfolding past
  there b e is = is ∙ rw (ne_eqb size 0 (λ z. e (same.0 ∙ z)), same.0)

pub ruleset reaching = (not-present, there, rules)

only-rule : (n : Refusal) (a b : Bool) → only a (rule n b) ≡ rule n (pick a b false)
only-rule n true b = refl
only-rule n false b = refl

module _ (memory : ℕ) (d : Descriptor) (a : Bool) (ea : a ≡ past memory d.cmd d.cmdsize) where
  two-ranges : range_rules memory d ≡ rule OutsideMemory (past memory d.cmd d.cmdsize) ▹ rule OutsideMemory (past memory d.table d.tablesize)
  unfolding range_rules past
  two-ranges =
      rw (only-rule OutsideMemory (present d.cmdsize) (ltb memory (d.cmd + d.cmdsize)), only-rule OutsideMemory (present d.tablesize) (ltb memory (d.table + d.tablesize)))

  pub cmd-outside : a ≡ true → Err OutsideMemory ≡ range_rules memory d
  cmd-outside t = sym (two-ranges ∙ rw (← ea, t))

  module _ (u : a ≡ false) (b : Bool) (eb : b ≡ past memory d.table d.tablesize) where
    pub table-outside : b ≡ true → Err OutsideMemory ≡ range_rules memory d
    table-outside t = sym (two-ranges ∙ rw (← ea, u, ← eb, t))

    pub ranges-inside : b ≡ false → Ok tt ≡ range_rules memory d
    ranges-inside t = sym (two-ranges ∙ rw (← ea, u, ← eb, t))

pub ruleset bounding = (cmd-outside, table-outside, ranges-inside, rules)
