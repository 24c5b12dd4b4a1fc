-- What is true of every device that was made and called, whatever bytes stood in memory: its soundness. A new device has it and
-- every step, run and answer keeps it; Refused.antt says it of every call. Assumes nothing.
use Rattle.std.specs.Prelude.{◌≡◌, false, ℕ, ◌≤◌, ◌<◌, length}
use Rattle.std.proofs.Math.Path.{refl}
use Rattle.std.proofs.Common.{arith}
use mathlib.Core.List.{List, [], ◌∷◌}
use Rattle.rules.specs.Numbers.{most}
use Rattle.rules.specs.Lists.{Found}
use Rattle.rules.specs.Lists.Found.{none, found}
use Rattle.rules.specs.Table.{entry_id, is_found}
use Rattle.rules.specs.State.{Work, State}
use Rattle.rules.specs.State.Work.{resting, entries, packets, waiting}
use Rattle.rules.specs.declared.Entry.{Entry}
use Rattle.rules.specs.declared.Resource.{Resource}
use Rattle.rows.specs.Keys.{Once}
use Rattle.rule_laws.specs.Created.{BytesOf, AsCreated, SoundError}
use Rattle.promises_of_packets.specs.Held.{Every, Inside, SoundBelongings, SoundProgress}

-- ---- the entries of a table: at most 64, each id once

pub record SoundEntries (es : List Entry) : Type 0 where
  pub few : length es ≤ most
  pub once : Once entry_id es

pub unfound : (f : Found Entry) → is_found f ≡ false → f ≡ none
unfound none e = refl
unfound (found x) e = absurd (let z : ◌≡◌ {A = ℕ} 0 1 = cc in omega arith)

-- ---- the state

abbrev pub SoundWork : Work → Type 0
SoundWork resting = 0 ≤ 0
SoundWork (entries o kept) = SoundEntries kept
SoundWork (packets j s at es h) = SoundEntries es × SoundProgress es h
SoundWork (waiting j es h) = SoundEntries es × SoundProgress es h

pub record SoundState (s : State) : Type 0 where
  pub belongings : SoundBelongings s.belongings
  pub work : SoundWork s.work
  -- the last error: code 0 or listed, and what stands beside code 0 is 0
  pub error : SoundError s.regs.error

-- ---- kept by a step

-- so the bytes that it keeps: a buffer has some, a backed texture its packed size, a host-backed one none
abbrev pub KeepsBytes : Resource → Type 0
KeepsBytes r = BytesOf r.kind r

pub created-keep-bytes : (rs : List Resource) → Every AsCreated rs → Every KeepsBytes rs
unfolding Every
created-keep-bytes [] h = h
created-keep-bytes (r ∷ rs) h = (h.0.bytes, created-keep-bytes rs h.1)
