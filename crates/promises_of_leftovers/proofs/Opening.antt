-- The theorems of specs/Opening.antt, and what they rest on. Assumes nothing.
use Rattle.std.specs.Prelude.{◌≡◌, ◌&&◌, List, ℕ, ◌+◌, eqb, length}
use Rattle.std.proofs.Math.Bool.{not}
use borrow.Author.Tests.{le-leb, ne_eqb}
use Rattle.std.proofs.Math.Dec.{leb}
use Rattle.rules.specs.Layouts.{ring_header, ring_header_size}
use Rattle.rules.specs.Ring.{good_ring, slot_place, opening_of}
use Rattle.rules.specs.Listed.{where_true, opening_listed}
use Rattle.promises_of_submissions.specs.Reads.{AgreeOn, named-ring-header}
use Rattle.promises_of_submissions.specs.OpeningRead.{OpeningRead, read-opening}
use Rattle.promises_of_leftovers.specs.Opening.{back-of, front_of, on-true, slot_read}

module _ (m m' : List ℕ) where
  module _ (ring size : ℕ) (s : AgreeOn m m' (opening_listed m ring size)) where
    pub opening-read : OpeningRead m m' ring size
    unfolding opening_listed
    opening-read =
        record {
          header = λ h k.
              named-ring-header m m' ring
              ((on-true m m') (leb ring_header_size size && leb (ring + size) (length m)) _ (rw (le-leb ring_header_size size h, le-leb (ring + size) (length m) k)) ((front_of m m') _ _ s));
          pending = λ good some.
              (slot_read m m') (slot_place ring (ring_header m ring)) (ring_header m ring).stride
              ((on-true m m') (good_ring m ring size && not (eqb (ring_header m ring).head (ring_header m ring).tail)) _
              (rw (good, ne_eqb (ring_header m ring).head (ring_header m ring).tail some))
              ((back-of m m') (where_true (leb ring_header_size size && leb (ring + size) (length m)) _) _ s));
        }

    -- the same opening, whatever the other bytes are
    pub listed-opening : length m ≡ length m' → opening_of m ring size ≡ opening_of m' ring size
    listed-opening len = read-opening m m' len ring size opening-read
