-- The theorems of specs/Example.antt, and what they rest on. Assumes nothing.
use Rattle.std.specs.Prelude.{◌≡◌, refl, [], ◌∷◌}
use Rattle.std.proofs.Common.{arith}
use Rattle.rules.specs.Numbers.{done}
use Rattle.rules.specs.Lists.{lookup}
use Rattle.rules.specs.Packets.{handle_of}
use Rattle.rules.specs.State.{made}
use Rattle.rules.specs.Saved.{saved}
use Rattle.rules.specs.Loaded.{call_load}
use Rattle.rules.specs.declared.Form.TheVariants.{One}
use Rattle.rule_laws.specs.Created.{AsCreated}
use Rattle.rows.specs.Keys.{once-nil, once-pushed}
use Rattle.promises_of_packets.specs.SoundNames.{no-tokens}
use Rattle.promises_of_packets.specs.Held.{Every, every-none}
use Rattle.promises_of_saving.specs.LoadedResources.{OneName}
use Rattle.promises_of_saving.proofs.LoadedIsSound.{names-sound}
use Rattle.promises_of_saving.specs.WrittenShared.{OtherNameOf}
use Rattle.promises_of_saving.specs.Savable.{FitsResource, FitsToken, Savable}
use Rattle.promises_of_saving.specs.Example.{created-buffer, created-other, created-texture, example_device, fits-buffer, fits-other, fits-texture, its_buffer, its_texture, other_name, shared_device, sound-tokens}

-- ---- a device within form 1

-- it is one that the theorems speak of
pub example-is-savable : Savable example_device
unfolding Every lookup
example-is-savable =
    record {
      error = record { code = refl; rest = refl; detail = λ e. refl };
      few = omega arith;
      some = refl;
      once = once-pushed handle_of (its_buffer ∷ []) its_texture (once-pushed handle_of [] its_buffer (once-nil handle_of) refl) refl;
      created = (created-buffer, (created-texture, every-none AsCreated));
      names = names-sound (its_buffer ∷ its_texture ∷ []) [] (refl, (refl, every-none OneName)) (every-none (OtherNameOf (its_buffer ∷ its_texture ∷ [])));
      tokens = no-tokens (its_buffer ∷ its_texture ∷ []);
      fits = record {
        memory = omega arith;
        regs = record {
          ring = omega arith;
          ringsize = omega arith;
          fencepage = omega arith;
          completed = omega arith;
          irqenable = omega arith;
          error = record { code = omega arith; fence = omega arith; count = omega arith; detail = omega arith };
        };
        resources = (fits-buffer, (fits-texture, every-none FitsResource));
        tokens = every-none FitsToken;
      };
    }

-- ---- a device beyond form 1: with a detail, another name of its texture, a token bound to that texture, and a spent one

pub shared-is-savable : Savable shared_device
unfolding Every lookup
shared-is-savable =
    record {
      error = record { code = refl; rest = refl; detail = λ e. absurd (omega arith) };
      few = omega arith;
      some = refl;
      once = once-pushed handle_of (its_buffer ∷ its_texture ∷ []) other_name example-is-savable.once refl;
      created = (created-buffer, (created-texture, (created-other, every-none AsCreated)));
      names = names-sound (its_buffer ∷ its_texture ∷ []) (other_name ∷ []) (refl, (refl, every-none OneName))
          (record { free = refl; below = omega arith; first = refl; shared = refl }, every-none (OtherNameOf (its_buffer ∷ its_texture ∷ [])));
      tokens = sound-tokens;
      fits = record {
        memory = omega arith;
        regs = record {
          ring = omega arith;
          ringsize = omega arith;
          fencepage = omega arith;
          completed = omega arith;
          irqenable = omega arith;
          error = record { code = omega arith; fence = omega arith; count = omega arith; detail = omega arith };
        };
        resources = (fits-buffer, (fits-texture, (fits-other, every-none FitsResource)));
        tokens = (record { name = omega arith; token = omega arith }, (record { name = omega arith; token = omega arith }, every-none FitsToken));
      };
    }
