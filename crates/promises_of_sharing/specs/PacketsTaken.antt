-- The packets that a device's submissions have taken, each with what was held before it: those of the submissions that were answered good, and so far of
-- the one in work. What a refused or failed submission took does not count. And what holds of them from packet to packet holds over any calls. Assumes
-- nothing.
use Rattle.std.proofs.Math.Path.{◌≡◌}
use Rattle.std.specs.Prelude.{Bool, eqb, take, Err, Ok}
use mathlib.Core.List.{List, [], ◌∷◌, ◌++◌}
use Prim.Native.Nat.{ℕ, zero, suc, ◌≤◌}
use Rattle.machine.specs.Machine.{pick}
use Rattle.rules.specs.Numbers.{done}
use Rattle.rules.specs.Stream.{left, frame_of, packet_of, Frame}
use Rattle.rules.specs.Packets.{Progress, Belongings, left_by, pass}
use Rattle.rules.specs.State.{Work, State, World}
use Rattle.rules.specs.State.Work.{resting, entries, packets, waiting}
use Rattle.rules.specs.Steps.{step, answered}
use Rattle.rules.specs.Calls.{Ran, call_run, call_answer}
use Rattle.rules.specs.declared.Entry.{Entry}
use Rattle.rules.specs.declared.Packet.{Packet}
use Rattle.promises_of_packets.specs.Held.{SoundProgress}
use Rattle.promises_of_units.specs.Called.{Call, Called}
use Rattle.promises_of_units.specs.Called.Call.{writes, reads, runs, records, answers}
use Rattle.promises_of_units.specs.Called.Called.{makes, loads, calls}
use Rattle.promises_of_units.specs.Sound.{SoundState}
use Rattle.promises_of_sharing.specs.TokensOverCalls.{CalledOn}
use Rattle.promises_of_sharing.specs.TokensOverCalls.CalledOn.{not_yet, calls-on}

-- ---- the packets that count

-- a packet, and what was held before it
pub record Taken : Type 0 where
  pub before : Progress
  pub packet : Packet

-- the one that some bytes begin with
abbrev pub taken_in : Progress → List ℕ → Frame → List Taken
taken_in h b (Ok (op, size)) = record { before = h; packet = packet_of op (take size b) } ∷ []
taken_in h b (Err r) = []

-- those of the submission in work, with one unit more, the last one first. An opening begins with none, so what a refused submission took is dropped.
abbrev pub packets_after_unit : World → Work → List Taken → List Taken
packets_after_unit w resting xs = []
packets_after_unit w (entries o kept) xs = xs
packets_after_unit w (packets j t at es h) xs = taken_in h (left w.mem t at) (frame_of (left w.mem t at)) ++ xs
packets_after_unit w (waiting j es h) xs = xs

-- the same with some units more
unfoldable pub packets_after_units : ℕ → World → List Taken → List Taken
packets_after_units zero w xs = xs
packets_after_units (suc n) w xs = packets_after_units n (step w) (packets_after_unit w w.state.work xs)

-- those of the submissions that were answered good, and so far of the one in work
pub record Packets : Type 0 where
  pub by_good : List Taken
  pub in_work : List Taken

-- with an answer, if it is taken, and the units after it: what the submission took counts with "good" and is dropped with "failed"
abbrev pub packets_after_answer : Bool → World → Ran → Packets → Packets
packets_after_answer good w r x =
    pick (eqb r.answer done)
    (record { by_good = pick good (x.in_work ++ x.by_good) x.by_good; in_work = packets_after_units r.units (answered good w) [] })
    x

-- with one call more
unfoldable pub packets_after_call : Call → World → Packets → Packets
packets_after_call (writes offset v) w x = x
packets_after_call (reads offset) w x = x
packets_after_call (runs n) w x = record { by_good = x.by_good; in_work = packets_after_units (call_run w n).units w x.in_work }
packets_after_call (records i) w x = x
packets_after_call (answers good n) w x = packets_after_answer good w (call_answer w good n) x

-- those of the submission in work, of any device made and called
unfoldable pub packets_in_work : (s : State) → Called s → List Taken
packets_in_work s (makes memory) = []
packets_in_work s (loads b good) = []
packets_in_work s (calls {s = t} c m k) = (packets_after_call c (record { state = t; mem = m }) (record { by_good = []; in_work = packets_in_work t k })).in_work

-- those since such a device, over calls of which none is a reset. What was in work at first counts whole, if it is answered good.
unfoldable pub packets_since : (s t : State) → Called s → CalledOn s t → Packets
packets_since s t k not_yet = record { by_good = []; in_work = packets_in_work s k }
packets_since s t k (calls-on {t = u} q c n m) = packets_after_call c (record { state = u; mem = m }) (packets_since s u k q)

-- ---- what holds from packet to packet, of what was had before and after

pub record Carries (R : List Taken → Belongings → Belongings → Type 0) : Type 0 where
  pub same : (b : Belongings) → R [] b b
  pub both : (xs ys : List Taken) (a b c : Belongings) → R xs a b → R ys b c → R (ys ++ xs) a c
  pub packet : (es : List Entry) (h : Progress) → SoundProgress es h → (p : Packet) → (pass es h p).verdict ≡ Ok tt
      → R (record { before = h; packet = p } ∷ []) (left_by h) (left_by (pass es h p).held)

module _ (R : List Taken → Belongings → Belongings → Type 0) (c : Carries R) where
  -- of the submission in work: from the device's own on
  abbrev pub InWork : List Taken → Belongings → Work → Type 0
  InWork xs own resting = 0 ≤ 0
  InWork xs own (entries o kept) = 0 ≤ 0
  InWork xs own (packets j t at es h) = R xs own (left_by h)
  InWork xs own (waiting j es h) = R xs own (left_by h)

  -- while its entries are judged, nothing was taken
  abbrev pub NoneYet : List Taken → Work → Type 0
  NoneYet xs resting = 0 ≤ 0
  NoneYet xs (entries o kept) = xs ≡ []
  NoneYet xs (packets j t at es h) = 0 ≤ 0
  NoneYet xs (waiting j es h) = 0 ≤ 0

  module _ (w : World) (xs : List Taken) where
    abbrev pub own : Belongings
    own = w.state.belongings

  -- ---- a device some calls after one that had these belongings

  pub record Follows (first : Belongings) (s : State) (x : Packets) : Type 0 where
    pub sound : SoundState s
    pub own : R x.by_good first s.belongings
    pub none_yet : NoneYet x.in_work s.work
    pub work : InWork x.in_work s.belongings s.work

  module _ (first : Belongings) where
    -- units: what was answered good stays
    module _ (by_good : List Taken) where
      abbrev pub With : List Taken → State → Type 0
      With xs s = Follows first s (record { by_good = by_good; in_work = xs })
