-- What a turn comes to: so many units of the rules' step machine, on a device's words and tables; the same tables
-- stay the device's.
use Rattle.std.specs.Prelude.{◌≡◌, true, List, ℕ, ◌-◌, ◌≤◌, ◌<◌, None, Some}
use Rattle.machine.specs.Machine.{pick, spent, run_while}
use Rattle.machine.specs.Within.{Turned}
use Rattle.rules.specs.Numbers.{most}
use Rattle.rules.specs.Stream.{stream_bytes}
use Rattle.rules.specs.State.{World}
use Rattle.rules.specs.Steps.{go, step}
use Rattle.rules.specs.declared.Token.{Token}
use Rattle.run_entries.specs.declared.ending.Ending.TheVariants.{Going}
use Rattle.run_packets.specs.Playing.{Playing, playing_goes, play_step, PacketTables, packet_tables, playing, shared_step}
use Rattle.run_packets.specs.declared.PacketsPlace.{PacketsPlace}
use Rattle.run_packets.specs.declared.PacketsRun.{PacketsRun}
use Rattle.run_packets.specs.declared.Left.{Left}
use Rattle.run_shared.specs.Shared.{SameButTokens}
use Rattle.run_state.specs.Views.{registers_in, stream_in, place_in, kept_in, held_tokens_in, held_with, world_in, sides_in, token_side_in}
use Rattle.packet_held.specs.Held.{held_of}
use Rattle.packet_held.specs.declared.held.Held.{Held}

-- the tables that a turn is lent: of resources the device's and the submission's own, of tokens the first and the second
pub record Tables : Type 0 where
  pub entries : List ℕ
  pub resources : List ℕ
  pub own : List ℕ
  pub first_tokens : List ℕ
  pub second_tokens : List ℕ
  pub records : List ℕ

abbrev pub tables : List ℕ → List ℕ → List ℕ → List ℕ → List ℕ → List ℕ → Tables
tables e r h ft st c = record { entries = e; resources = r; own = h; first_tokens = ft; second_tokens = st; records = c }

-- of tokens, by the words: the device's table, and the other
abbrev pub device_tokens : List ℕ → Tables → List ℕ
device_tokens s t = pick (token_side_in s) t.second_tokens t.first_tokens

abbrev pub other_tokens : List ℕ → Tables → List ℕ
other_tokens s t = pick (token_side_in s) t.first_tokens t.second_tokens

-- the device in the words and the tables, and the memory beside it
unfoldable pub world_with : List ℕ → Tables → List ℕ → World
world_with s t m = world_in s t.entries t.resources t.own (device_tokens s t) (other_tokens s t) t.records m

-- what the submission in work holds, read from the words, whatever the rows are; its rows are there
pub record HeldIn (s : List ℕ) (k : Held) : Type 0 where
  pub held : (r h c : List ℕ) (ts : List Token) → held_of k r h c ts ≡ held_with s r h c ts
  pub live : k.live ≤ most
  pub made : k.made ≤ most

-- where the words have the phase of packets, with these tokens
abbrev pub playing_in : List ℕ → PacketTables → List Token → Playing
playing_in s t ts = record { at = place_in s; held = held_with s t.resources t.own t.records ts; ending = Going }

-- one unit of the phase of packets of the submission in the words, by the entries kept and the memory
abbrev pub step_in : List ℕ → List ℕ → List ℕ → Playing → Playing
step_in s e m = play_step (kept_in s e) (stream_bytes m (stream_in s)) (stream_in s).size

-- a run from there is what it says; or it is left at a packet, the last of the units that it says
pub record PlaysWords (s : List ℕ) (allowance : ℕ) (m : List ℕ) (t : PacketTables) (x : PacketsRun) (t' : PacketTables) : Type 0 where
  pub run : x.left ≡ None → (ts : List Token) → record { state = playing x.place t' ts; units = x.units } ≡ run_while playing_goes (step_in s t.entries m) allowance (playing_in s t ts)
  pub left : (y : Left) → x.left ≡ Some y → (ts : List Token) → run_while playing_goes (step_in s t.entries m) allowance (playing_in s t ts)
      ≡ spent x.units (run_while playing_goes (step_in s t.entries m) (allowance - x.units) (shared_step (kept_in s t.entries) (stream_in s).size x.place y t' ts))
  pub some : (y : Left) → x.left ≡ Some y → (0 < x.units) × (x.units ≤ allowance)
  pub live : x.place.held.live ≤ most
  pub made : x.place.held.made ≤ most

-- some units of the phase, those of packets with tokens too, and where it then stands; the device's tokens stay
pub record PlaysShared (s : List ℕ) (left : ℕ) (m : List ℕ) (t : Tables) (q : PacketsPlace) (units : ℕ) (s' : List ℕ) (t' : Tables) : Type 0 where
  pub played : Turned playing_goes (step_in s t.entries m) left
      (playing_in s (packet_tables t.entries t.resources t.own t.records) (held_tokens_in s (device_tokens s t) (other_tokens s t)))
      (playing q (packet_tables t.entries t.resources t'.own t'.records) (held_tokens_in s' (device_tokens s t) (other_tokens s t'))) units
  pub device : device_tokens s t' ≡ device_tokens s t
  pub same : SameButTokens s s'
  pub live : q.held.live ≤ most
  pub made : q.held.made ≤ most

-- words, tables and memory; the units; and what then stands
pub record TurnOf (left : ℕ) (s : List ℕ) (t : Tables) (m : List ℕ) (units : ℕ) (s' : List ℕ) (t' : Tables) (m' : List ℕ) : Type 0 where
  pub turned : Turned go step left (world_with s t m) (world_with s' t' m') units
  pub side : sides_in s' ≡ sides_in s

-- of the entries, on an enabled device and whatever the tables are that it is not lent
pub record EntriesTurn (s : List ℕ) (left : ℕ) (m e : List ℕ) (units : ℕ) (s' m' e' : List ℕ) : Type 0 where
  pub turn : (registers_in s).enabled ≡ true → (r h ft st c : List ℕ) → TurnOf left s (tables e r h ft st c) m units s' (tables e' r h ft st c) m'

-- of the packets, on an enabled device
pub record PacketsTurn (s : List ℕ) (left : ℕ) (m : List ℕ) (t : Tables) (units : ℕ) (s' m' : List ℕ) (t' : Tables) : Type 0 where
  pub turn : (registers_in s).enabled ≡ true → TurnOf left s t m units s' t' m'
