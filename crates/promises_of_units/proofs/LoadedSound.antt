-- 02, wish 1: a device that was loaded is sound, whatever bytes it was loaded from, if no rule of a file refuses them. Assumes nothing.
use Rattle.std.specs.Prelude.{◌≡◌, List, ℕ}
use Rattle.std.proofs.Common.{sym, subst, arith}
use Rattle.rules.specs.Lists.Found.{none}
use Rattle.rules.specs.Loaded.{bad_place, loaded}
use Rattle.promises_of_saving.specs.LoadedIsSound.{SoundAtRest}
use Rattle.promises_of_saving.proofs.LoadedIsSound.{loaded-is-sound}
use Rattle.promises_of_units.specs.Sound.{SoundWork, SoundState}

pub loaded-sound : (b : List ℕ) → bad_place b ≡ none → SoundState (loaded b)
loaded-sound b good =
    let s : SoundAtRest (loaded b) = loaded-is-sound b good in
    record {
      error = s.error;
      belongings = record {
        resources = record { few = s.few; once = s.once; some = s.some; created = s.created; names = s.names };
        tokens = s.tokens;
      };
      work = subst SoundWork (sym s.work) (omega arith);
    }
