-- The theorems of specs/Beyond.antt, and what they rest on. Assumes nothing.
use Rattle.std.specs.Prelude.{◌≡◌, ◌⊎◌, length}
use Rattle.std.proofs.Common.{subst, ◌∙◌}
use mathlib.Core.List.{List, [], ◌∷◌}
use Prim.Native.Nat.{ℕ}
use Rattle.rules.specs.State.{State, World}
use Rattle.rules.specs.Listed.{Named}
use Rattle.promises_of_packets.specs.Held.{Every}
use Rattle.promises_of_submissions.specs.Reads.{AgreeOn, SameIn}
use Rattle.promises_of_submissions.specs.Locality.{lent}
use Rattle.promises_of_units.specs.Called.{Call}
use Rattle.promises_of_leftovers.proofs.Fixed.{listed-is-fixed}
use Rattle.promises_of_leftovers.specs.Submissions.{openings, listed_there}
use Rattle.promises_of_leftovers.specs.Matter.{SameResults, AgreeOnListed}
use Rattle.promises_of_leftovers.proofs.Matter.{bytes-not-listed-cannot-matter}
use Rattle.promises_of_leftovers.specs.Beyond.{AgreeAtFirst, Unwritten, fields-now, headed, headed-length, listed_at_first, same-lengths}

-- ---- what is listed at first is what is listed there

listed-since : (m : List ℕ) (v : World) → length m ≡ length v.mem → Unwritten m v → listed_at_first m v ≡ listed_there v
listed-since m v long h =
    listed-is-fixed (headed m v.state.regs.ring v.mem) v.mem (headed-length m v.mem v.state.regs.ring long ∙ long) v.state.regs.ring v.state.regs.ringsize
    (fields-now m v.mem v.state.regs.ring long (listed_at_first m v) h)

module _ (m m' : List ℕ) where
  there-now : (vs : List World) → Every (λ (v : World). length m ≡ length v.mem) vs → Every (Unwritten m) vs → Every (λ (v : World). AgreeOn m m' (listed_at_first m v)) vs
      → Every (λ (v : World). AgreeOn m m' (listed_there v)) vs
  unfolding Every
  there-now [] l h s = s
  there-now (v ∷ vs) l h s = (subst (AgreeOn m m') (listed-since m v l.0 h.0) s.0, there-now vs l.1 h.1 s.1)

pub agree-at-first : (cs : List Call) (s : State) (m m' : List ℕ) → AgreeAtFirst cs s m m' → AgreeOnListed cs s m m'
agree-at-first cs s m m' same =
    record {
      as_long = same.as_long;
      in_work = same.in_work;
      opened = there-now m m' (openings cs (lent s m)) (same-lengths cs (lent s m)) same.unwritten same.opened;
    }

-- "and beyond if the head and fence writes touch no listed byte but the head's own"
pub beyond-the-settling : (cs : List Call) (s : State) (m m' : List ℕ) → AgreeAtFirst cs s m m' → SameResults cs s m m'
beyond-the-settling cs s m m' same = bytes-not-listed-cannot-matter cs s m m' (agree-at-first cs s m m' same)
