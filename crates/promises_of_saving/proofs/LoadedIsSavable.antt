-- The theorems of specs/LoadedIsSavable.antt, and what they rest on. Assumes nothing.
use Rattle.std.specs.Prelude.{◌≡◌, List}
use Prim.Native.Nat.{ℕ}
use Rattle.rules.specs.Lists.Found.{none}
use Rattle.rules.specs.Loaded.{form_in, sections, bad_place, loaded}
use Rattle.promises_of_submissions.specs.LentBytes.{OfBytes}
use Rattle.promises_of_saving.specs.Numbered.{sections-of-bytes}
use Rattle.promises_of_saving.specs.LoadedIsSound.{SoundAtRest}
use Rattle.promises_of_saving.proofs.LoadedIsSound.{loaded-is-sound}
use Rattle.promises_of_saving.specs.Savable.{Savable}
use Rattle.promises_of_saving.specs.LoadedIsSavable.{sections-fit}

-- so what was loaded is one that the theorems of saving speak of
pub loaded-is-savable : (b : List ℕ) → OfBytes b → bad_place b ≡ none → Savable (loaded b)
unfolding loaded
loaded-is-savable b o good =
    let s : SoundAtRest (loaded b) = loaded-is-sound b good in
    record {
      error = s.error;
      few = s.few;
      some = s.some;
      once = s.once;
      created = s.created;
      names = s.names;
      tokens = s.tokens;
      fits = sections-fit (sections b) (sections-of-bytes b o) (form_in b);
    }
