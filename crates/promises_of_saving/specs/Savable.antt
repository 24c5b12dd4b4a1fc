-- A device that is sound and whose numbers fit a file's fields: what the theorems of saving ask of it.
use Rattle.std.specs.Prelude.{◌≡◌, ◌^◌, ◌≤◌, ◌<◌, length}
use Rattle.rules.specs.Numbers.{most}
use Rattle.rules.specs.Lists.{lookup}
use Rattle.rules.specs.Lists.Found.{none}
use Rattle.rules.specs.Packets.{handle_of}
use Rattle.rules.specs.State.{State}
use Rattle.rules.specs.declared.Shape.{Shape}
use Rattle.rules.specs.declared.Kind.{Kind}
use Rattle.rules.specs.declared.Kind.TheVariants.{Buffer, Texture}
use Rattle.rules.specs.declared.LastError.{LastError}
use Rattle.rules.specs.declared.Registers.{Registers}
use Rattle.rules.specs.declared.Resource.{Resource}
use Rattle.rules.specs.declared.Token.{Token}
use Rattle.rule_laws.specs.Created.{AsCreated, SoundError}
use Rattle.rows.specs.Keys.{Once}
use Rattle.promises_of_packets.specs.Held.{Every}
use Rattle.promises_of_packets.specs.SoundNames.{SoundNames, SoundTokens}

-- ---- numbers fit their fields: a u32 or a u64

pub record FitsShape (s : Shape) : Type 0 where
  pub format : s.format < 2 ^ 32
  pub width : s.width < 2 ^ 32
  pub height : s.height < 2 ^ 32
  pub mips : s.mips < 2 ^ 32
  pub layers : s.layers < 2 ^ 32

abbrev pub FitsKind : Kind → Type 0
FitsKind Buffer = 0 ≤ 0
FitsKind (Texture s) = FitsShape s

pub record FitsResource (r : Resource) : Type 0 where
  pub handle : r.handle < 2 ^ 32
  pub kind : FitsKind r.kind
  pub bytes : r.bytes < 2 ^ 64
  pub pitch : r.pitch < 2 ^ 32
  pub backing : r.backing < 2 ^ 32
  pub offset : r.offset < 2 ^ 32
  pub lowest : r.lowest < 2 ^ 32

pub record FitsToken (t : Token) : Type 0 where
  pub name : t.name < 2 ^ 32
  pub token : t.token < 2 ^ 64

pub record FitsError (e : LastError) : Type 0 where
  pub code : e.code < 2 ^ 32
  pub fence : e.fence < 2 ^ 64
  pub count : e.count < 2 ^ 32
  pub detail : e.detail < 2 ^ 32

pub record FitsRegisters (r : Registers) : Type 0 where
  pub ring : r.ring < 2 ^ 64
  pub ringsize : r.ringsize < 2 ^ 32
  pub fencepage : r.fencepage < 2 ^ 64
  pub completed : r.completed < 2 ^ 64
  pub irqenable : r.irqenable < 2 ^ 32
  pub error : FitsError r.error

pub record Fits (s : State) : Type 0 where
  pub memory : s.memory < 2 ^ 64
  pub regs : FitsRegisters s.regs
  pub resources : Every FitsResource s.belongings.resources
  pub tokens : Every FitsToken s.belongings.tokens

-- ---- and it is sound

pub record Savable (s : State) : Type 0 where
  pub error : SoundError s.regs.error
  pub few : length s.belongings.resources ≤ most
  pub some : lookup handle_of 0 s.belongings.resources ≡ none
  pub once : Once handle_of s.belongings.resources
  pub created : Every AsCreated s.belongings.resources
  pub names : SoundNames s.belongings.resources
  pub tokens : SoundTokens s.belongings.resources s.belongings.tokens
  pub fits : Fits s
