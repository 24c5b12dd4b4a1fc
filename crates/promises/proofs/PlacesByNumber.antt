-- The theorems of specs/PlacesByNumber.antt, and what they rest on. Assumes nothing.
use Rattle.std.specs.Prelude.{◌≡◌, true, false, ◌||◌, List, ℕ, eqb}
use Rattle.std.proofs.Common.{ap, subst, ◌∙◌, inl, inr, arith, ne_eqb}
use Rattle.rules.specs.Numbers.{bad_entry, twice_in_table, no_place}
use Rattle.rules.specs.Stream.{left}
use Rattle.rules.specs.Packets.{take_packet}
use Rattle.rules.specs.State.{Work, State, World}
use Rattle.rules.specs.State.Work.{resting, entries, packets, waiting}
use Rattle.rules.specs.declared.Fault.{Fault}
use Rattle.rules.specs.declared.Job.{Job}
use Rattle.rules.specs.declared.LastError.{LastError}
use Rattle.promises_of_submissions.specs.Locality.{lent}
use Rattle.promises_of_units.specs.Called.{Called}
use Rattle.promises_of_units.specs.Units.{Breaks}
use Rattle.rule_laws.specs.RuleNumbers.{EntryRule, opening_number, packet_number, NumberedOpening, Numbered}
use Rattle.rule_laws.proofs.RuleNumbers.{opening-number-is-no-entrys, packet-number-is-no-entrys, opening-numbered, take-packet-numbered}
use Rattle.promises.specs.Places.{Placed, SizeFits, BrokenAt, TellsWhere}
use Rattle.promises.proofs.Places.{broken-at, each-settling-tells-where}
use Rattle.promises.specs.PlacesByNumber.{JudgesAnEntry, NumberedPlace, TellsWhich, entry_number_of, judged_by, place_told}
use Rattle.rules.specs.Judging.{error_number}

pub numbered-is-placed : (k : Work) (f : Fault) → NumberedPlace k f → Placed k f
numbered-is-placed resting f p = p.1
numbered-is-placed (entries o kept) f p = p
numbered-is-placed (packets j t at es h) f p = (p.0.1, p.1)
numbered-is-placed (waiting j es h) f p = p

-- a unit's broken rule has such a number
pub unit-numbered : (w : World) (k : Work) (j : Job) (f : Fault) → Breaks w k j f → Placed k f → NumberedPlace k f
unit-numbered w resting j f h p =
    let numbered : opening_number (error_number h.why) ≡ true =
    subst NumberedOpening h.here (opening-numbered w.mem w.state.regs.ring w.state.regs.ringsize) in
    (ap (λ (x : Fault). opening_number x.code) h.nowhere ∙ numbered, p)
unit-numbered w (entries o kept) j f h p = p
unit-numbered w (packets j t at es held) i f h p =
    let b : BrokenAt at (take_packet es held (left w.mem t at)).verdict f = broken-at _ _ f h.1 in
    let numbered : packet_number (error_number b.why) ≡ true = subst Numbered b.broke (take-packet-numbered es held (left w.mem t at)) in
    ((ap packet_number b.number ∙ numbered, p.0), p.1)
unit-numbered w (waiting j es held) i f h p = p

-- ---- the code and the detail alone tell the kind of place, as a host reads it (host/src/place.rs)

entry-rule-is : (n : ℕ) → EntryRule n → entry_number_of n ≡ true
entry-rule-is n (inl e) = rw e
entry-rule-is n (inr e) = rw e

other-rule-is : (n : ℕ) → (EntryRule n → ⊥) → entry_number_of n ≡ false
other-rule-is n h = rw (ne_eqb n bad_entry (λ e. h (inl e)), ne_eqb n twice_in_table (λ e. h (inr e)))

pub placed-tells : (k : Work) (f : Fault) → NumberedPlace k f → place_told f.code f.place ≡ judged_by k
placed-tells resting f p = rw (other-rule-is f.code (opening-number-is-no-entrys f.code p.0), p.1)
placed-tells (entries o kept) f p = rw (entry-rule-is f.code p.0.0, p.1)
placed-tells (packets j t at es h) f p =
    let some : eqb f.place no_place ≡ false = ne_eqb f.place no_place (λ e. absurd (omega (arith, p.0.1))) in
    rw (other-rule-is f.code (packet-number-is-no-entrys f.code p.0.0), some, p.1)
placed-tells (waiting j es h) f p = absurd p

pub entrys-exactly : (k : Work) (f : Fault) → NumberedPlace k f → (EntryRule f.code → JudgesAnEntry k) × (JudgesAnEntry k → EntryRule f.code)
entrys-exactly resting f p = (λ e. opening-number-is-no-entrys f.code p.0 e, λ n. absurd n)
entrys-exactly (entries o kept) f p = (λ e. omega arith, λ _. p.0.0)
entrys-exactly (packets j t at es h) f p = (λ e. packet-number-is-no-entrys f.code p.0.0 e, λ n. absurd n)
entrys-exactly (waiting j es h) f p = absurd p

-- ---- at a settling

pub which-tells-where : (w : World) (j : Job) (f : Fault) → TellsWhich w j f → TellsWhere w j f
which-tells-where w j f t = record { settles = t.settles; tells = t.tells; place = numbered-is-placed w.state.work f t.place }

pub each-settling-tells-which : (s : State) → Called s → SizeFits s.work → (m : List ℕ) (j : Job) (f : Fault) → Breaks (lent s m) s.work j f
    → TellsWhich (lent s m) j f
each-settling-tells-which s k fits m j f h =
    let t : TellsWhere (lent s m) j f = each-settling-tells-where s k fits m j f h in
    let place : NumberedPlace s.work f = unit-numbered (lent s m) s.work j f h t.place in
    record {
      settles = t.settles;
      tells = t.tells;
      place = place;
      told-apart = ap (λ (e : LastError). place_told e.code e.detail) t.tells ∙ placed-tells s.work f place;
      entrys = entrys-exactly s.work f place;
    }
