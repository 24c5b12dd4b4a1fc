-- The theorems of specs/SavedFile.antt, and what they rest on. Assumes nothing.
use Rattle.std.specs.Prelude.{◌≤◌, length}
use Rattle.std.proofs.Common.{arith}
use Rattle.rules.specs.State.{State}
use Rattle.rules.specs.Saved.{saved}
use Rattle.rules.specs.declared.Form.{Form}
use Rattle.rules.specs.declared.Form.TheVariants.{One, Two}
use Rattle.promises_of_saving.specs.Savable.{Savable}
use Rattle.promises_of_saving.proofs.SavedParts.{few-names, few-tokens}
use Rattle.promises_of_saving.specs.SavedFile.{length-saved, most_bytes}

-- ---- how long it is

pub longest-file : (f : Form) (s : State) → Savable s → length (saved f s) ≤ most_bytes f
longest-file One s v = omega (arith, length-saved One s, few-names s v)
longest-file Two s v = omega (arith, length-saved Two s, few-names s v, few-tokens s v)
