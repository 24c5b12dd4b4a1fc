-- Wish 5's tokens live from one submission to the next, of something: a ring with two submissions, of two programs. The first makes a texture and
-- exports it, and is answered good; the second imports it by its token under another handle, and is answered good. By computation. Assumes nothing.
use Rattle.std.specs.Prelude.{◌≡◌, refl, true, false, List, [], ◌∷◌, ◌++◌, ℕ, ◌+◌}
use Rattle.rules.specs.Numbers.{ring_magic, version}
use Rattle.rules.specs.Packets.{pass, Belongings, at_first}
use Rattle.rules.specs.State.{World, made, with_regs, registers_of, no_error, nothing_owned, State}
use Rattle.rules.specs.State.Work.{packets, waiting}
use Rattle.rules.specs.declared.Job.{Job}
use Rattle.rules.specs.declared.ImportSurface.{ImportSurface}
use Rattle.rules.specs.declared.Packet.TheVariants.{Texture, Export, Import}
use Rattle.promises.specs.NightLog.{zeros}
use Rattle.promises_of_units.specs.Called.{after}
use Rattle.promises_of_units.specs.Called.Call.{runs, answers}
use Rattle.promises.specs.Witness.{in_bytes}
use Rattle.promises_of_sharing.specs.Shared.{IsBound, means, OneResource}
use Rattle.promises_of_sharing.specs.TokensOverCalls.{CalledOn}
use Rattle.promises_of_sharing.specs.TokensOverCalls.CalledOn.{not_yet, calls-on}
use Rattle.promises_of_sharing.specs.PacketsTaken.{Taken}
use Rattle.rules.specs.declared.Resource.{Resource}
use Rattle.promises.specs.StateWitness.{textured, stream_with, the_shape}
use Rattle.promises.specs.SharedWitness.{exported, imported, released, named}

abbrev pub shared_token : ℕ
shared_token = 4294967303

-- ---- the memory: a ring of two slots, and the streams of the two programs

unfoldable pub slot_at : ℕ → ℕ → ℕ → List ℕ
slot_at gpa size fence = 64 ∷ 0 ∷ 0 ∷ 0 ∷ gpa ∷ 0 ∷ size ∷ 0 ∷ 0 ∷ 0 ∷ 0 ∷ 0 ∷ fence ∷ 0 ∷ 0 ∷ 0 ∷ []

-- the first program: a texture with handle 5, exported
unfoldable pub first_program : List ℕ
first_program = textured 5 ++ exported 5 7

unfoldable pub two_programs : List ℕ → ℕ → List ℕ
two_programs second size =
    in_bytes ((ring_magic ∷ version ∷ 192 ∷ 2 ∷ 64 ∷ 0 ∷ 0 ∷ 2 ∷ zeros 8) ++ (slot_at 192 104 7 ++ slot_at 296 size 8))
    ++ (stream_with first_program ++ stream_with second)

-- the device, enabled and rung
unfoldable pub rung_with : List ℕ → ℕ → World
rung_with second size =
    record {
      state = with_regs (registers_of 0 192 true 0 0 false false 0 no_error true) (made (296 + size));
      mem = two_programs second size;
    }

-- the second program imports the texture as 3
abbrev pub rung : World
rung = rung_with (imported 3 7) 48

-- or it releases the token
abbrev pub rung_releasing : World
rung_releasing = rung_with (released 7) 40

abbrev pub second_job : Job
second_job = record { ring = 0; head = 1; signal = 8; silent = false }

-- what the first submission leaves to the device, and what the second makes of it: 3 is the lowest name then, and 5 and the token follow
abbrev pub after_first : Belongings
after_first = record { resources = named 5 5 ∷ []; tokens = record { name = 5; token = shared_token } ∷ [] }

abbrev pub after_second : Belongings
after_second = record { resources = named 5 3 ∷ named 3 3 ∷ []; tokens = record { name = 3; token = shared_token } ∷ [] }

pub record TwoSubmissions : Type 0 where
  -- the first is accepted; answered good, its texture and token are the device's
  pub nothing_yet : (after (runs 65535) rung).state.belongings ≡ nothing_owned
  pub first_good : (after (answers true 0) (after (runs 65535) rung)).state.belongings ≡ after_first
  -- with one unit more the second is due to take its import
  pub second-begun : (after (answers true 1) (after (runs 65535) rung)).state.work
      ≡ packets second_job (record { gpa = 296; size = 48 }) 24 [] (at_first after_first)
  -- it is accepted too, and answered good
  pub second-waits : (after (runs 65535) (after (answers true 1) (after (runs 65535) rung))).state.work
      ≡ waiting second_job [] (record { holdings = record { resources = after_second.resources; records = [] }; target = 0; tokens = after_second.tokens })
  pub second-good : (after (answers true 0) (after (runs 65535) (after (answers true 1) (after (runs 65535) rung)))).state.belongings ≡ after_second
  -- no error, and both fences are done
  pub no-error-at-all : (after (answers true 0) (after (runs 65535) (after (answers true 1) (after (runs 65535) rung)))).state.regs.error ≡ no_error
  pub both-fences : (after (answers true 0) (after (runs 65535) (after (answers true 1) (after (runs 65535) rung)))).state.regs.completed ≡ 8
  -- the first one answered failed, there is no such token: the second breaks rule 29 at its import
  pub first-failed : (after (answers false 65535) (after (runs 65535) rung)).state.regs.error ≡ record { code = 29; fence = 8; count = 2; detail = 24 }
  -- a second program that releases it, answered good, leaves it spent
  pub released-then : (after (answers true 0) (after (answers true 65535) (after (runs 65535) rung_releasing))).state.belongings
      ≡ record { resources = named 5 5 ∷ []; tokens = record { name = 0; token = shared_token } ∷ [] }

-- the name that the second program has means the same resource: of the same kind and bytes, and it is one resource with the first program's name
pub record SameSurface (b : Belongings) : Type 0 where
  pub means-the-same : means 3 b.resources ≡ means 5 b.resources
  pub one : OneResource b.resources 3 5
  pub token-is-bound : IsBound shared_token b.tokens

-- ---- so the theorems speak of it

-- the state before the import
abbrev pub before_the_import : State
before_the_import = (after (answers true 1) (after (runs 65535) rung)).state

unfoldable pub answered-and-on : CalledOn rung.state before_the_import
answered-and-on = calls-on (calls-on not_yet (runs 65535) refl rung.mem) (answers true 1) refl (after (runs 65535) rung).mem

abbrev pub the_texture : Taken
the_texture =
    record {
      before = at_first nothing_owned;
      packet = Texture (record { handle = 5; shape = the_shape; pitch = 0; backing = 0; offset = 0 });
    }

abbrev pub the_export : Taken
the_export =
    record {
      before = record { holdings = record { resources = named 5 5 ∷ []; records = [] }; target = 0; tokens = [] };
      packet = Export (record { handle = 5; token = shared_token });
    }

abbrev pub the_import : ImportSurface
the_import = record { handle = 3; token = shared_token }

-- and 3 is a name of the texture that was exported: it means what 5 meant at the export
abbrev pub second_program_has : List Resource
second_program_has = (pass [] (at_first after_first) (Import the_import)).held.holdings.resources
