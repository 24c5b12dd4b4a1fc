-- Wish 12, "beyond": where ring and fence page stay where they are, the head and fence writes are those of that ring and that page. It is then enough that no listed byte but the
-- head's own lies in the ring's head or in the page. Assumes nothing.
use Rattle.std.specs.Prelude.{◌≡◌, Bool, ◌⊎◌, ℕ, ◌+◌, ◌≤◌, ltb, eqb, length, Err, Ok}
use Rattle.std.proofs.Math.Path.{refl, sym}
use Rattle.std.proofs.Common.{subst, ◌∙◌, inl, inr, arith, eq-eqb}
use Rattle.std.proofs.Math.Bool.{true, false}
use mathlib.Core.List.{List, []}
use Rattle.std.proofs.Math.ListN.{get_or}
use Rattle.machine.specs.Machine.{pick}
use Rattle.rules.specs.Bytes.{bytes_of}
use Rattle.rules.specs.Judging.{Finding, Verdict}
use Rattle.rules.specs.Layouts.{ring_header, head_offset, descriptor, stream_header_size}
use Rattle.rules.specs.Ring.{job_of, opened_of, concluded, slot_place, submission_rules, submission_opening, good_ring, ring_opening, opening_of}
use Rattle.rules.specs.Registers.{bit_of, with_enabled, reset_registers, reset, controlled, Write}
use Rattle.rules.specs.Packets.{Progress, Belongings, at_first, take_packet}
use Rattle.rules.specs.Table.{take_entry}
use Rattle.rules.specs.Stream.{left}
use Rattle.rules.specs.State.{Work, State, World, with_regs}
use Rattle.rules.specs.State.Work.{resting, entries, packets, waiting}
use Rattle.rules.specs.Settle.{ended_by, next_head, head_written, page_written, marked, settled}
use Rattle.rules.specs.Steps.{packets_at, entries_at, next_place, answer_on, answered}
use Rattle.rules.specs.Listed.{Named}
use Rattle.rules.specs.declared.Entry.{Entry}
use Rattle.rules.specs.declared.Job.{Job}
use Rattle.rules.specs.declared.Registers.{Registers}
use Rattle.rules.specs.declared.Opened.{Opened}
use Rattle.rules.specs.declared.Stream.{Stream}
use Rattle.rules.specs.declared.Descriptor.{Descriptor}
use Rattle.rules.specs.declared.RingHeader.{RingHeader}
use Rattle.rules.specs.declared.Opening.{Opening}
use Rattle.rules.specs.declared.Opening.TheVariants.{BadRing, NoWork, Refused, Started}
use Rattle.settle.specs.Only.{Apart, head_at, written_byte, only-head-and-page, settling-keeps-ring, settling-keeps-page}
use Rattle.promises_of_packets.specs.Held.{Every}
use Rattle.promises_of_submissions.specs.Reads.{AgreeOn}
use Rattle.promises_of_submissions.specs.LocalWrites.{AgreeAt}
use Rattle.promises_of_submissions.specs.Locality.{lent}
use Rattle.promises_of_units.specs.Units.{Next}
use Rattle.promises_of_units.specs.Called.{Call}
use Rattle.promises_of_leftovers.specs.Submissions.{openings, listed_in_work}
use Rattle.promises_of_leftovers.specs.Along.{WritesOnly}
use Rattle.promises_of_leftovers.specs.Beyond.{head_of, listed_at_first}

-- the submission in work was opened on this ring
abbrev pub OnRing : ℕ → Work → Type 0
OnRing ring resting = 0 ≤ 0
OnRing ring (entries o kept) = o.job.ring ≡ ring
OnRing ring (packets j s at es h) = j.ring ≡ ring
OnRing ring (waiting j es h) = j.ring ≡ ring

-- a register other than the ring's GPA and the fence page's
abbrev pub MovesNeither : ℕ → Type 0
MovesNeither offset = (offset ≡ 0x100 → ⊥) × ((offset ≡ 0x104 → ⊥) × ((offset ≡ 0x120 → ⊥) × (offset ≡ 0x124 → ⊥)))

-- a field that is the head's own, or lies outside the head and the page, where there is a page
abbrev pub Untouched : ℕ → ℕ → Named → Type 0
Untouched ring page f =
    (f ≡ head_of ring) ⊎ (Apart f.at f.width (ring + head_offset) 4 × ((page ≡ 0) ⊎ Apart f.at f.width page 16))

-- ---- the ring of what is opened

abbrev pub RingIs : ℕ → Opening → Type 0
RingIs ring BadRing = 0 ≤ 0
RingIs ring NoWork = 0 ≤ 0
RingIs ring (Refused j r) = j.ring ≡ ring
RingIs ring (Started o) = o.job.ring ≡ ring

opening_ring : (m : List ℕ) (ring size : ℕ) → RingIs ring (opening_of m ring size)
unfolding opening_of ring_opening submission_opening
opening_ring m ring size = by_tests (good_ring m ring size) (eqb h.head h.tail) (submission_rules m h.stride d)
  where
    h : RingHeader
    h = ring_header m ring

    d : Descriptor
    d = descriptor m (slot_place ring h)

    by_tests : (g t : Bool) (v : Verdict) → RingIs ring (pick g (pick t NoWork (concluded v (job_of ring h d) (opened_of m (job_of ring h d) d))) BadRing)
    by_tests true true v = omega arith
    by_tests true false (Ok _) = refl
    by_tests true false (Err r) = refl
    by_tests false t v = omega arith

-- ---- a write of another register

pub record SamePlaces (s t : State) : Type 0 where
  pub ring : t.regs.ring ≡ s.regs.ring
  pub page : t.regs.fencepage ≡ s.regs.fencepage
  pub work : (r : ℕ) → OnRing r s.work → OnRing r t.work

module _ (s : State) (v : ℕ) where
  abbrev pub Fits : Write → Type 0
  Fits x = MovesNeither x.offset → SamePlaces s x.state

  pub alike : {t : State} → t.regs.ring ≡ s.regs.ring → t.regs.fencepage ≡ s.regs.fencepage → ((r : ℕ) → OnRing r s.work → OnRing r t.work) → SamePlaces s t
  alike a b c = record { ring = a; page = b; work = c }

  pub control-fits : SamePlaces s (controlled v s)
  unfolding controlled reset reset_registers
  control-fits = by_bit (bit_of 1 v)
    where
      by_bit : (b : Bool) → SamePlaces s (pick b (reset (bit_of 0 v) s) (with_regs (with_enabled (bit_of 0 v) s.regs) s))
      by_bit true = alike refl refl (λ r h. omega arith)
      by_bit false = alike refl refl (λ r h. h)

-- ---- what is kept from world to world

module _ (m : List ℕ) (ring page : ℕ) where
  abbrev pub Outside : ℕ → Type 0
  Outside i = Apart i 1 (ring + head_offset) 4 × ((page ≡ 0) ⊎ Apart i 1 page 16)

  -- ring and page are where they were, what is in work is of that ring, and a byte outside its head and the page is what it was
  pub record Stays (w : World) : Type 0 where
    pub its-ring : w.state.regs.ring ≡ ring
    pub its-page : w.state.regs.fencepage ≡ page
    pub its-work : OnRing ring w.state.work
    pub bytes : (i : ℕ) → Outside i → AgreeAt i m w.mem

  -- settling writes that ring's head and that page
  marked-outside : (j : Job) (r : Registers) (x : List ℕ) (i : ℕ) → j.ring ≡ ring → r.fencepage ≡ page → Outside i → get_or (marked j r x) i 0 ≡ get_or x i 0
  unfolding marked page_written head_written bytes_of
  marked-outside j r x i e p h = by-page h.1
    where
      by-page : (page ≡ 0) ⊎ Apart i 1 page 16 → get_or (marked j r x) i 0 ≡ get_or x i 0
      by-page (inl z) = rw (eq-eqb r.fencepage 0 (p ∙ z)) (written_byte (head_at j) (bytes_of 4 (next_head j.head)) x i (rw e h.0))
      by-page (inr q) = only-head-and-page j r x i (rw e h.0) (rw p q)

  pub settled-stays : (j : Job) (v : Finding) (owned : Belongings) (w : World) → j.ring ≡ ring → Stays w → Stays (settled j v owned w)
  unfolding settled
  settled-stays j v owned w e k =
      record {
        its-ring = settling-keeps-ring j v w.state.regs ∙ k.its-ring;
        its-page = settling-keeps-page j v w.state.regs ∙ k.its-page;
        its-work = omega arith;
        bytes = λ i h. k.bytes i h ∙ sym (marked-outside j (ended_by j v w.state.regs) w.mem i e (settling-keeps-page j v w.state.regs ∙ k.its-page) h);
      }

  packets-on-ring : (j : Job) (t : Stream) (at : ℕ) (es : List Entry) (h : Progress) → j.ring ≡ ring → OnRing ring (packets_at j t at es h)
  packets-on-ring j t at es h e = by_test (ltb at t.size)
    where
      by_test : (b : Bool) → OnRing ring (pick b (packets j t at es h) (waiting j es h))
      by_test true = e
      by_test false = e

  entries-on-ring : (o : Opened) (kept : List Entry) (owned : Belongings) → o.job.ring ≡ ring → OnRing ring (entries_at o kept owned)
  entries-on-ring o kept owned e = by_test (ltb (length kept) o.table.count)
    where
      by_test : (b : Bool) → OnRing ring (pick b (entries o kept) (packets_at o.job o.stream stream_header_size kept (at_first owned)))
      by_test true = e
      by_test false = packets-on-ring o.job o.stream stream_header_size kept (at_first owned) e

  -- the opening of this world is on the ring
  pub opened-ring : (w : World) (v : Opening) → w.state.regs.ring ≡ ring → opening_of w.mem w.state.regs.ring w.state.regs.ringsize ≡ v → RingIs ring v
  opened-ring w v e h = subst (RingIs ring) h (subst (λ (r : ℕ). RingIs r (opening_of w.mem w.state.regs.ring w.state.regs.ringsize)) e (opening_ring w.mem w.state.regs.ring w.state.regs.ringsize))

  pub next-on-ring : (w : World) (k next : Work) → w.state.regs.ring ≡ ring → Next w k next → OnRing ring k → OnRing ring next
  next-on-ring w resting next e h on = rw h.first (entries-on-ring h.what [] w.state.belongings (opened-ring w (Started h.what) e h.here))
  next-on-ring w (entries o kept) next e h on = rw h.1 (entries-on-ring o (take_entry w.mem o.table kept).kept w.state.belongings on)
  next-on-ring w (packets j t at es held) next e h on =
      rw h.1 (packets-on-ring j t (next_place at (left w.mem t at)) es (take_packet es held (left w.mem t at)).held on)
  next-on-ring w (waiting j es held) next e h on = rw h on

  pub answer-stays : (good : Bool) (w : World) → Stays w → Stays (answered good w)
  unfolding answered
  answer-stays good w k = by-work good w.state.work k.its-work
    where
      by-work : (g : Bool) (x : Work) → OnRing ring x → Stays (answer_on g w x)
      by-work g resting on = k
      by-work g (entries o kept) on = k
      by-work g (packets j t at es h) on = k
      by-work true (waiting j es h) on = settled-stays j _ _ w on k
      by-work false (waiting j es h) on = settled-stays j _ _ w on k

-- ---- the theorem

-- "if the head and fence writes touch no listed byte but the head's own": the calls move neither the ring nor the page; what is in work when they begin was opened on that
-- ring; and of each submission that they open, listed in the memory first lent but for the head, no field but the head's own lies in the head or in the page
pub record TouchNoListed (cs : List Call) (s : State) (m : List ℕ) : Type 0 where
  pub places : Every (WritesOnly MovesNeither) cs
  pub on-ring : OnRing s.regs.ring s.work
  pub untouched : Every (λ (v : World). Every (Untouched s.regs.ring s.regs.fencepage) (listed_at_first m v)) (openings cs (lent s m))

pub record AgreeInFirst (cs : List Call) (s : State) (m m' : List ℕ) : Type 0 where
  pub as_long : length m ≡ length m'
  pub in_work : AgreeOn m m' (listed_in_work s m)
  pub opened : Every (λ (v : World). AgreeOn m m' (listed_at_first m v)) (openings cs (lent s m))
