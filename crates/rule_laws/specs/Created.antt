-- What create leaves of a resource, and settling of the last error, said by the rules of a saved desk (Saved.antt): of shapes and of the last error soundness asks no more than a file's rules.
use Rattle.std.specs.Prelude.{◌≡◌, true, false}
use Rattle.machine.specs.Machine.{pick}
use Rattle.rules.specs.Shapes.{good_shape, packed_size}
use Rattle.rules.specs.Packets.{backed}
use Rattle.rules.specs.declared.Kind.{Kind}
use Rattle.rules.specs.declared.Kind.TheVariants.{Buffer, Texture}
use Rattle.rules.specs.declared.LastError.{LastError}
use Rattle.rules.specs.declared.Resource.{Resource}
use Rattle.rules.specs.Loaded.{good_code, good_error, good_pitch}

-- ---- a resource as create leaves it

-- the bytes that it keeps are those of its kind: a buffer has some, a backed texture its packed size, a host-backed one none
abbrev pub BytesOf : Kind → Resource → Type 0
BytesOf Buffer r = r.bytes ≡ 0 → ⊥
BytesOf (Texture s) r = r.bytes ≡ pick (backed r.backing) (packed_size s r.pitch) 0

-- its shape and pitch: a buffer has no pitch
abbrev pub ShapeOf : Kind → Resource → Type 0
ShapeOf Buffer r = r.pitch ≡ 0
ShapeOf (Texture s) r = (good_shape s ≡ true) × (good_pitch s r.pitch r.backing ≡ true)

pub record AsCreated (r : Resource) : Type 0 where
  pub bytes : BytesOf r.kind r
  pub shape : ShapeOf r.kind r
  pub offset : backed r.backing ≡ false → r.offset ≡ 0

-- ---- the last error

pub record SoundError (e : LastError) : Type 0 where
  -- code 0 or listed
  pub code : good_code e.code ≡ true
  -- count 0 exactly with code 0, and then fence 0
  pub rest : good_error e.code e.fence e.count ≡ true
  -- and no place
  pub detail : e.code ≡ 0 → e.detail ≡ 0
