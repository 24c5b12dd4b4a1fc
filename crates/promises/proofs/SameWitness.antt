-- The theorems of specs/SameWitness.antt, and what they rest on. Assumes nothing.
use Rattle.promises_of_same_desks.specs.Desks.{SameDesk}
use Rattle.promises_of_same_desks.proofs.DesksForEver.{same-devices-for-ever}
use Rattle.promises_of_units.specs.Asked.{left, left_all}
use Rattle.promises_of_same_desks.proofs.Witness.{having-sound}
use Rattle.promises.specs.SameWitness.{into_the_midst, other_order, rising_order, two-orders-one-device}

-- ---- the ring's size, enabled, the doorbell, and a run of three units: the opening and two packets

-- so the devices are not equal there, and are the same desk
pub one-desk-in-the-midst : SameDesk (left_all into_the_midst rising_order) (left_all into_the_midst other_order)
unfolding rising_order other_order
one-desk-in-the-midst = (same-devices-for-ever rising_order other_order (having-sound 272 _) (having-sound 272 _) two-orders-one-device).left into_the_midst
