-- The head that saving writes keeps the rules of a file, and is read back as it was. Assumes nothing.
use Rattle.std.specs.Prelude.{◌≡◌, refl, Bool, true, false, List, ◌++◌, ℕ, ◌+◌, ◌*◌, ◌≤◌, eqb, length}
use Rattle.std.proofs.Common.{arith}
use Rattle.rules.specs.Numbers.{device_magic, version, features}
use Rattle.rules.specs.Layouts.{word, long}
use Rattle.rules.specs.Registers.{bit, bit_of, status}
use Rattle.rules.specs.State.{State}
use Rattle.rules.specs.Saved.{resources_fields, section_1_count, memory_place, count_place, firsts_of, shared_fields}
use Rattle.rules.specs.Loaded.{detail_in}
use Rattle.rules.specs.declared.Form.{Form}
use Rattle.rules.specs.declared.Form.TheVariants.{One, Two}
use Rattle.promises_of_saving.specs.Savable.{Savable}
use Rattle.promises_of_saving.specs.SavedFile.{saved_sections}

-- ---- bits

pub flag-of-bit : (t : Bool) → eqb (bit t) 1 ≡ t
flag-of-bit true = refl
flag-of-bit false = refl

pub bit-small : (t : Bool) → bit t ≤ 1
bit-small true = omega arith
bit-small false = omega arith

pub bits-of-status : (f g : Bool) → (bit_of 0 (bit f + 2 * bit g) ≡ f) × (bit_of 1 (bit f + 2 * bit g) ≡ g)
bits-of-status true true = (refl, refl)
bits-of-status true false = (refl, refl)
bits-of-status false true = (refl, refl)
bits-of-status false false = (refl, refl)

-- ---- the head

-- the detail that a file of the form says
abbrev pub saved_detail : Form → State → ℕ
saved_detail One s = 0
saved_detail Two s = s.regs.error.detail

-- what is read of it
pub record HeadRead (f : Form) (b : List ℕ) (s : State) : Type 0 where
  pub section : word b 0 ≡ section_1_count f
  pub magic : word b 4 ≡ device_magic
  pub its-version : word b 8 ≡ version
  pub its-features : word b 12 ≡ features
  pub more-features : word b 16 ≡ 0
  pub ring : long b 20 ≡ s.regs.ring
  pub ringsize : word b 28 ≡ s.regs.ringsize
  pub control : word b 32 ≡ bit s.regs.enabled
  pub page : long b 36 ≡ s.regs.fencepage
  pub completed : long b 44 ≡ s.regs.completed
  pub bits : word b 52 ≡ status s.regs
  pub irqenable : word b 56 ≡ s.regs.irqenable
  pub code : word b 60 ≡ s.regs.error.code
  pub fence : long b 64 ≡ s.regs.error.fence
  pub count : word b 72 ≡ s.regs.error.count
  pub detail : detail_in f b ≡ saved_detail f s
  pub memory : long b (memory_place f) ≡ s.memory
  pub flag : word b (memory_place f + 8) ≡ bit s.regs.doorbell
  pub number : word b (count_place f) ≡ length (firsts_of s)

module _ (f : Form) (s : State) (v : Savable s) where
  abbrev pub b : List ℕ
  b = saved_sections f s

  -- the fields after section 2's count
  abbrev pub after_head : List ℕ
  after_head = resources_fields (firsts_of s) ++ shared_fields f s
