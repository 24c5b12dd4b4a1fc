-- The theorems of specs/Targets.antt, and what they rest on. Assumes nothing.
use Rattle.std.proofs.Math.Path.{◌≡◌}
use Rattle.std.proofs.Common.{subst, arith}
use Rattle.std.specs.Prelude.{List, ℕ}
use Rattle.rules.specs.Layouts.{stream_header_size}
use Rattle.rules.specs.Packets.{Progress, pass}
use Rattle.rules.specs.State.{State}
use Rattle.rules.specs.State.Work.{packets}
use Rattle.rules.specs.declared.Entry.{Entry}
use Rattle.rules.specs.declared.Job.{Job}
use Rattle.rules.specs.declared.Stream.{Stream}
use Rattle.rules.specs.declared.Packet.TheVariants.{Destroy}
use Rattle.promises_of_packets.specs.Held.{TargetLives}
use Rattle.promises_of_units.specs.Called.{Called}
use Rattle.promises_of_units.specs.Sound.{SoundWork}
use Rattle.promises_of_units.specs.Kept.{AnyMemory, KeptByUnits}
use Rattle.promises_of_units.proofs.Kept.{lent_any, called-keeps}
use Rattle.promises_of_units.proofs.Ranges.{called-sound}
use Rattle.promises_of_sharing.specs.Targets.{BeginsWithNone, next-begins}

-- ---- of any device that was made and called

-- a target is a live texture for as long as it lasts
pub called-target-lives : (s : State) → Called s → (j : Job) (t : Stream) (at : ℕ) (es : List Entry) (h : Progress) → s.work ≡ packets j t at es h → TargetLives h
called-target-lives s k j t at es h e = let here : SoundWork (packets j t at es h) = subst SoundWork e (called-sound s k).work in here.1.target

-- a submission begins with no target
pub first-packet-finds-no-target : (s : State) → Called s → (j : Job) (t : Stream) (at : ℕ) (es : List Entry) (h : Progress) → s.work ≡ packets j t at es h
    → at ≡ stream_header_size → h.target ≡ 0
first-packet-finds-no-target s k j t at es h e =
    let here : BeginsWithNone (packets j t at es h) = subst BeginsWithNone e (called-keeps kept s k (lent_any s k)) in
    here.1
  where
    kept : KeptByUnits AnyMemory (λ memory work. BeginsWithNone work)
    kept = record { rests = λ n. omega arith; works-on = λ w l d. next-begins w; marks = λ j r m d. d }
