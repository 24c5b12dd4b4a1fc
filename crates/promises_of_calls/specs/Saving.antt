-- 02, wishes 1 and 11, of the calls themselves: a device that was saved in either form, by value, over lent state or by the exports, and loaded
-- elsewhere is the same device. Its numbers fit the fields of a file, since they stand in words. Assumes nothing.
use Rattle.std.specs.Prelude.{Bool, true, false, List, eqb, get_or}
use Prim.Native.Nat.{ℕ, ◌%◌, ◌^◌, ◌<◌}
use native.Mathlib.Omega.{arith}
use Rattle.machine.specs.Machine.{pick}
use Rattle.rules.specs.declared.Kind.TheVariants.{Buffer, Texture}
use Rattle.kept_resources.specs.Views.{resource_of_row}
use Rattle.kept_tokens.specs.Views.{token_of_row}
use Rattle.promises_of_saving.specs.Savable.{FitsKind, FitsResource, FitsToken}

-- ---- numbers that stand in words fit

-- words, as an array of u64 holds them
abbrev pub OfWords : List ℕ → Type 0
OfWords l = (i : ℕ) → get_or l i 0 < 18446744073709551616

fits-kind : (b : Bool) (f w h m l : ℕ)
    → FitsKind (pick b Buffer (Texture (record { format = f % 2 ^ 32; width = w % 2 ^ 32; height = h % 2 ^ 32; mips = m % 2 ^ 32; layers = l % 2 ^ 32 })))
fits-kind true f w h m l = omega arith
fits-kind false f w h m l =
    record { format = omega arith; width = omega arith; height = omega arith; mips = omega arith; layers = omega arith }

pub fits-resource : (r : List ℕ) → get_or r 2 0 < 18446744073709551616 → FitsResource (resource_of_row r)
fits-resource r h =
    record {
      handle = omega arith;
      kind = fits-kind (eqb (get_or r 1 0) 0) (get_or r 3 0) (get_or r 4 0) (get_or r 5 0) (get_or r 6 0) (get_or r 7 0);
      bytes = h;
      pitch = omega arith;
      backing = omega arith;
      offset = omega arith;
      lowest = omega arith;
    }

pub fits-token : (r : List ℕ) → get_or r 1 0 < 18446744073709551616 → FitsToken (token_of_row r)
fits-token r h = record { name = omega arith; token = h }
