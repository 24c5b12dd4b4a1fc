-- The theorems of specs/Touch.antt, and what they rest on. Assumes nothing.
use Rattle.std.specs.Prelude.{◌≡◌, ◌⊎◌, ℕ, ◌+◌, ◌<◌, length}
use Rattle.std.proofs.Math.Path.{refl, sym}
use Rattle.std.proofs.Common.{ap, subst, ◌∙◌, inl, inr, arith}
use mathlib.Core.List.{List, [], ◌∷◌}
use Rattle.rules.specs.Lists.{Found, lookup}
use Rattle.rules.specs.Lists.Found.{none, found}
use Rattle.rules.specs.Judging.Finding.{broken}
use Rattle.rules.specs.Layouts.{head_offset}
use Rattle.rules.specs.Registers.{Write, write_offset, writable, write_of}
use Rattle.rules.specs.State.{Work, State, World, with_state}
use Rattle.rules.specs.State.Work.{resting, entries, packets, waiting}
use Rattle.rules.specs.Settle.{faulted, doorbell_cleared}
use Rattle.rules.specs.Steps.{step}
use Rattle.rules.specs.Calls.{wrote, call_write}
use Rattle.rules.specs.Listed.{Named}
use Rattle.rules.specs.declared.Job.{Job}
use Rattle.rules.specs.declared.Fault.{Fault}
use Rattle.rules.specs.declared.Opening.TheVariants.{Refused}
use Rattle.settle.specs.Only.{Apart}
use Rattle.promises_of_packets.specs.Held.{Every, every-found}
use Rattle.promises_of_packets.specs.Names.{found-key}
use Rattle.promises_of_submissions.specs.Reads.{SameIn}
use Rattle.promises_of_submissions.specs.Locality.{lent}
use Rattle.promises_of_units.specs.Units.{Breaks, Unit}
use Rattle.promises_of_units.proofs.Units.{unit}
use Rattle.promises_of_units.specs.Units.Unit.{works-on, finds-bad-ring, finds-no-work, settles}
use Rattle.promises_of_units.specs.Called.{Call}
use Rattle.promises_of_leftovers.specs.Unit.{bytes-agree}
use Rattle.promises_of_leftovers.specs.Submissions.{openings}
use Rattle.promises_of_leftovers.specs.Along.{openings-kept}
use Rattle.promises_of_leftovers.specs.Matter.{SameResults}
use Rattle.promises_of_leftovers.specs.Beyond.{head_of, listed_at_first, Unwritten, same-lengths}
use Rattle.promises_of_leftovers.proofs.Beyond.{beyond-the-settling}
use Rattle.promises_of_leftovers.specs.Touch.{AgreeInFirst, Fits, MovesNeither, OnRing, SamePlaces, Stays, TouchNoListed, Untouched, alike, answer-stays, control-fits, next-on-ring, opened-ring, settled-stays}

-- ---- a write of another register

module _ (s : State) (v : ℕ) where
  all_fit : Every (Fits s v) (writable s v)
  unfolding Every
  all_fit =
      (λ k. absurd (k.0 refl), (λ k. absurd (k.1.0 refl), (λ k. (alike s v) refl refl (λ r h. h), (λ k. (control-fits s v), (λ k. absurd (k.1.1.0 refl), (λ k. absurd (k.1.1.1 refl), (λ k. (alike s v) refl refl (λ r h. h), (λ k. (alike s v) refl refl (λ r h. h), (λ k. (alike s v) refl refl (λ r h. h), omega arith)))))))))

  write-fits : (offset : ℕ) → MovesNeither offset → SamePlaces s (call_write s offset v).state
  unfolding call_write write_of
  write-fits offset k = by_found (lookup write_offset offset (writable s v)) refl
    where
      by_found : (f : Found Write) → lookup write_offset offset (writable s v) ≡ f → SamePlaces s (wrote s f).state
      by_found none e = (alike s v) refl refl (λ r h. h)
      by_found (found x) e =
          every-found (Fits s v) write_offset offset (writable s v) x e all_fit (subst MovesNeither (sym (found-key write_offset offset (writable s v) x e)) k)

-- ---- what is kept from world to world

module _ (m : List ℕ) (ring page : ℕ) where
  breaks-on-ring : (w : World) (k : Work) (j : Job) (f : Fault) → w.state.regs.ring ≡ ring → Breaks w k j f → OnRing ring k → j.ring ≡ ring
  breaks-on-ring w resting j f e h on = (opened-ring m ring page) w (Refused j h.why) e h.here
  breaks-on-ring w (entries o kept) j f e h on = ap (λ (x : Job). x.ring) h.0 ∙ on
  breaks-on-ring w (packets k t at es held) j f e h on = ap (λ (x : Job). x.ring) h.0 ∙ on
  breaks-on-ring w (waiting k es held) j f e h on = absurd h

  -- a unit, an answer, a write of another register
  unit-stays : (w w' : World) → Unit w w' → (Stays m ring page) w → (Stays m ring page) w'
  unfolding faulted doorbell_cleared
  unit-stays w w' (works-on next h) k =
      record { its-ring = k.its-ring; its-page = k.its-page; its-work = (next-on-ring m ring page) w w.state.work next k.its-ring h k.its-work; bytes = k.bytes }
  unit-stays w w' (finds-bad-ring e h) k = record { its-ring = k.its-ring; its-page = k.its-page; its-work = k.its-work; bytes = k.bytes }
  unit-stays w w' (finds-no-work e h) k = record { its-ring = k.its-ring; its-page = k.its-page; its-work = k.its-work; bytes = k.bytes }
  unit-stays w w' (settles j f h) k =
      (settled-stays m ring page) j (broken f) w.state.belongings w (breaks-on-ring w w.state.work j f k.its-ring h k.its-work) k

  write-stays : (w : World) (offset v : ℕ) → MovesNeither offset → (Stays m ring page) w → (Stays m ring page) (with_state (call_write w.state offset v).state w)
  write-stays w offset v free k =
      let same : SamePlaces w.state (call_write w.state offset v).state = write-fits w.state v offset free in
      record { its-ring = same.ring ∙ k.its-ring; its-page = same.page ∙ k.its-page; its-work = same.work ring k.its-work; bytes = k.bytes }

  -- ---- so a field outside both has not been written

  unwritten-field : (v : World) → length m ≡ length v.mem → (Stays m ring page) v → (f : Named) → Untouched ring page f → (f ≡ head_of v.state.regs.ring) ⊎ SameIn m v.mem f
  unwritten-field v long k f (inl e) = inl (e ∙ ap head_of (sym k.its-ring))
  unwritten-field v long k f (inr h) = inr (bytes-agree m v.mem long f.at f.width (λ i b. k.bytes (f.at + i) (byte-apart (ring + head_offset) 4 h.0 i b, by-page h.1 i b)))
    where
      byte-apart : (at n : ℕ) → Apart f.at f.width at n → (i : ℕ) → i < f.width → Apart (f.at + i) 1 at n
      byte-apart at n (inl q) i b = inl (omega arith)
      byte-apart at n (inr q) i b = inr (omega arith)

      by-page : (page ≡ 0) ⊎ Apart f.at f.width page 16 → (i : ℕ) → i < f.width → (page ≡ 0) ⊎ Apart (f.at + i) 1 page 16
      by-page (inl z) i b = inl z
      by-page (inr q) i b = inr (byte-apart page 16 q i b)

  unwritten-there : (v : World) → length m ≡ length v.mem → (Stays m ring page) v → (fs : List Named) → Every (Untouched ring page) fs
      → Every (λ (f : Named). (f ≡ head_of v.state.regs.ring) ⊎ SameIn m v.mem f) fs
  unfolding Every
  unwritten-there v long k [] h = h
  unwritten-there v long k (f ∷ fs) h = (unwritten-field v long k f h.0, unwritten-there v long k fs h.1)

  all-unwritten : (vs : List World) → Every (λ (v : World). length m ≡ length v.mem) vs → Every (Stays m ring page) vs → Every (λ (v : World). Every (Untouched ring page) (listed_at_first m v)) vs
      → Every (Unwritten m) vs
  unfolding Every
  all-unwritten [] l k h = h
  all-unwritten (v ∷ vs) l k h = (unwritten-there v l.0 k.0 (listed_at_first m v) h.0, all-unwritten vs l.1 k.1 h.1)

-- ---- the theorem

pub beyond-if-no-listed-byte-is-touched : (cs : List Call) (s : State) (m m' : List ℕ) → AgreeInFirst cs s m m' → TouchNoListed cs s m → SameResults cs s m m'
beyond-if-no-listed-byte-is-touched cs s m m' same clear =
    beyond-the-settling cs s m m'
    (record {
      as_long = same.as_long;
      in_work = same.in_work;
      opened = same.opened;
      unwritten =
          all-unwritten m s.regs.ring s.regs.fencepage (openings cs (lent s m)) (same-lengths cs (lent s m))
          (openings-kept (Stays m s.regs.ring s.regs.fencepage) (λ w k. unit-stays m s.regs.ring s.regs.fencepage w (step w) (unit w) k)
          (answer-stays m s.regs.ring s.regs.fencepage) MovesNeither (write-stays m s.regs.ring s.regs.fencepage) cs (lent s m) clear.places
          (record { its-ring = refl; its-page = refl; its-work = clear.on-ring; bytes = λ i h. refl }))
          clear.untouched;
    })
