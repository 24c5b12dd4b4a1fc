-- Where a phase has come to, as the rules' state then stands: of its own machine's state, and on the device's words.
use Rattle.std.specs.Prelude.{◌≡◌, List, ℕ, ◌%◌, ◌^◌, length}
use Rattle.rules.specs.Judging.{fault_at}
use Rattle.rules.specs.Judging.Finding.{broken}
use Rattle.rules.specs.Layouts.{stream_header_size}
use Rattle.rules.specs.Packets.{at_first}
use Rattle.rules.specs.State.{World, working}
use Rattle.rules.specs.State.Work.{entries, packets, waiting}
use Rattle.rules.specs.Settle.{settled_keeping}
use Rattle.rules.specs.Steps.{packets_at}
use Rattle.rules.specs.declared.Entry.{Entry}
use Rattle.rules.specs.declared.Fault.{Fault}
use Rattle.rules.specs.declared.Job.{Job}
use Rattle.rules.specs.declared.Stream.{Stream}
use Rattle.rules.specs.declared.Opened.{Opened}
use Rattle.run_entries.specs.declared.ending.Ending.{Ending}
use Rattle.run_entries.specs.declared.ending.Ending.TheVariants.{Going, Done, Broken, Left}
use Rattle.run_entries.specs.Entries.{Reading, reading_of}
use Rattle.run_entries.specs.declared.entries.EntriesPlace.{EntriesPlace}
use Rattle.run_packets.specs.Playing.{Playing, packet_tables, playing}
use Rattle.run_packets.specs.declared.PacketsPlace.{PacketsPlace}
use Rattle.run_state.specs.Views.{job_in, stream_in, opened_in, kept_in, held_tokens_in, world_in, bare_in, sides_in}

-- where a phase was left and nobody has done what is left: no rule is broken, so the number is 0
abbrev pub unruled_at : ℕ → Fault
unruled_at place = record { code = 0; place = place % 2 ^ 32 }

-- a device whose entries have come so far
abbrev pub laid_on : World → Opened → List Entry → Ending → World
laid_on w o kept Going = working (entries o kept) w
laid_on w o kept Done = working (packets_at o.job o.stream stream_header_size kept (at_first w.state.belongings)) w
laid_on w o kept (Broken r) = settled_keeping o.job (broken (fault_at (length kept) r)) w
laid_on w o kept Left = settled_keeping o.job (broken (unruled_at (length kept))) w

abbrev pub laid : World → Opened → Reading → World
laid w o s = laid_on w o s.kept s.ending

-- a device whose packets have come so far
abbrev pub played_on : World → Job → Stream → List Entry → Playing → Ending → World
played_on w j t es s Going = working (packets j t s.at es s.held) w
played_on w j t es s Done = working (waiting j es s.held) w
played_on w j t es s (Broken r) = settled_keeping j (broken (fault_at s.at r)) w
played_on w j t es s Left = settled_keeping j (broken (unruled_at s.at)) w

abbrev pub played : World → Job → Stream → List Entry → Playing → World
played w j t es s = played_on w j t es s s.ending

-- ---- on the words, whatever the rows are; the same tables stay the device's

pub record LandsEntries (s : List ℕ) (p : EntriesPlace) (m s' m' : List ℕ) : Type 0 where
  pub world : (e r h dt ot c : List ℕ) → world_in s' e r h dt ot c m' ≡ laid (bare_in s r dt m) (opened_in s) (reading_of p e)
  pub side : sides_in s' ≡ sides_in s

pub record LandsPackets (s : List ℕ) (p : PacketsPlace) (m s' m' : List ℕ) : Type 0 where
  pub world : (e r h dt ot c : List ℕ) → world_in s' e r h dt ot c m' ≡ played (bare_in s r dt m) (job_in s) (stream_in s) (kept_in s e) (playing p (packet_tables e r h c) (held_tokens_in s dt ot))
  pub side : sides_in s' ≡ sides_in s
