-- The theorems of specs/Witness.antt, and what they rest on. Assumes nothing.
use Rattle.std.specs.Prelude.{refl, List, [], ◌∷◌, ℕ}
use Rattle.rules.specs.Packets.{Progress, at_first, pass}
use Rattle.rules.specs.State.{nothing_owned}
use Rattle.rules.specs.Saved.{saved}
use Rattle.rules.specs.Loaded.{loaded}
use Rattle.rules.specs.declared.Form.TheVariants.{Two}
use Rattle.rules.specs.declared.Packet.{Packet}
use Rattle.promises_of_packets.specs.Held.{SoundProgress}
use Rattle.promises_of_packets.proofs.Held.{nothing-sound, first-sound, left-sound, pass-sound}
use Rattle.promises_of_saving.specs.Savable.{Savable}
use Rattle.promises_of_saving.specs.Example.{shared_device}
use Rattle.promises_of_saving.proofs.Example.{shared-is-savable}
use Rattle.promises_of_saving.proofs.LoadOfSave.{same_back, saved-is-good}
use Rattle.promises_of_units.specs.Sound.{SoundState}
use Rattle.promises_of_units.proofs.Sound.{made-sound}
use Rattle.promises_of_units.proofs.LoadedSound.{loaded-sound}
use Rattle.promises_of_same_desks.specs.ForEver.{SameForEver}
use Rattle.promises_of_same_desks.proofs.DesksForEver.{same-devices-for-ever}
use Rattle.promises_of_same_desks.specs.Witness.{having, held_after, one, other, two-ways-one-device}

-- ---- packets one after the other

after-sound : (ps : List Packet) (h : Progress) → SoundProgress [] h → SoundProgress [] (held_after h ps)
unfolding held_after
after-sound [] h s = s
after-sound (p ∷ ps) h s = after-sound ps (pass [] h p).held (pass-sound [] h s p)

pub having-sound : (memory : ℕ) (ps : List Packet) → SoundState (having memory ps)
unfolding having
having-sound memory ps =
    record {
      belongings = left-sound [] (held_after (at_first nothing_owned) ps) (after-sound ps (at_first nothing_owned) (first-sound [] nothing_owned nothing-sound));
      work = (made-sound memory).work;
      error = (made-sound memory).error;
    }

-- ---- they are the same, and are not equal

pub two-ways-go-on-as-one : SameForEver one other
unfolding one other
two-ways-go-on-as-one = same-devices-for-ever one other (having-sound 65536 _) (having-sound 65536 _) two-ways-one-device

-- ---- a desk that was saved, and loaded by a new device: its first row is another

shared-sound : SoundState shared_device
shared-sound =
    let v : Savable shared_device = shared-is-savable in
    record {
      belongings = record { resources = record { few = v.few; once = v.once; some = v.some; created = v.created; names = v.names }; tokens = v.tokens };
      work = (made-sound 0).work;
      error = v.error;
    }

pub loaded-goes-on-as-the-saved : SameForEver (loaded (saved Two shared_device)) shared_device
loaded-goes-on-as-the-saved =
    same-devices-for-ever (loaded (saved Two shared_device)) shared_device (loaded-sound (saved Two shared_device) (saved-is-good Two shared_device shared-is-savable))
    shared-sound (same_back Two shared_device shared-is-savable refl refl)
