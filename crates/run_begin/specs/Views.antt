-- How a submission begins on the device's words, as the rules' state then stands, whatever the rows and the memory are.
use Rattle.std.specs.Prelude.{◌≡◌, List, [], ℕ}
use Rattle.rules.specs.Layouts.{stream_header_size}
use Rattle.rules.specs.Packets.{at_first}
use Rattle.rules.specs.State.{working}
use Rattle.rules.specs.State.Work.{entries}
use Rattle.rules.specs.Steps.{packets_at, entries_at}
use Rattle.rules.specs.declared.Job.{Job}
use Rattle.rules.specs.declared.Opened.{Opened}
use Rattle.kept_entries.specs.Views.{entries_of}
use Rattle.run_state.specs.Views.{job_in, stream_in, opened_in, belongings_in, world_in, bare_in, sides_in}

-- the packets come next, after so many entries; the same table stays the device's
pub record Begins (s : List ℕ) (kept : ℕ) (s' : List ℕ) : Type 0 where
  pub world : (e r h dt ot c m : List ℕ) → world_in s' e r h dt ot c m ≡ working (packets_at (job_in s) (stream_in s) stream_header_size (entries_of kept e) (at_first (belongings_in s r dt))) (bare_in s r dt m)
  pub side : sides_in s' ≡ sides_in s

-- the job is kept, and all else stays
pub record StoresJob (s : List ℕ) (j : Job) (s' : List ℕ) : Type 0 where
  pub job : job_in s' ≡ j
  pub bare : (r dt m : List ℕ) → bare_in s' r dt m ≡ bare_in s r dt m
  pub side : sides_in s' ≡ sides_in s

-- what was opened is kept, and its entries come next
pub record StoresOpened (s : List ℕ) (o : Opened) (s' : List ℕ) : Type 0 where
  pub opened : opened_in s' ≡ o
  pub bare : (r dt m : List ℕ) → bare_in s' r dt m ≡ bare_in s r dt m
  pub world : (e r h dt ot c m : List ℕ) → world_in s' e r h dt ot c m ≡ working (entries o []) (bare_in s r dt m)
  pub side : sides_in s' ≡ sides_in s

pub record Starts (s : List ℕ) (o : Opened) (s' : List ℕ) : Type 0 where
  pub world : (e r h dt ot c m : List ℕ) → world_in s' e r h dt ot c m ≡ working (entries_at o [] (belongings_in s r dt)) (bare_in s r dt m)
  pub side : sides_in s' ≡ sides_in s
