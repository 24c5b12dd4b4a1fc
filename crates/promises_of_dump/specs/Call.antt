-- What a host may rely on of the call that writes the text of a dump into its buffer. Assumes nothing.
use Rattle.std.specs.Prelude.{◌≡◌, refl, Bool, List, ℕ, ◌+◌, ◌*◌, ◌≤◌, ◌<◌, length, take}
use Rattle.std.proofs.Math.Nat.{zero-add}
use Rattle.std.proofs.Common.{arith, lt-ltb, le-ltb}
use Rattle.rules.specs.Numbers.{done}
use Rattle.rules.specs.Dump.{dump_of, text_of}
use Rattle.words.specs.Over.{part_at}
use Rattle.dump_room.specs.Longest.{dump-bound}
use Rattle.dump_listing.specs.Views.{call_dump, too_short_for}

module _ (strict : Bool) (s buffer : List ℕ) where
  abbrev text : List ℕ
  text = text_of (dump_of strict s)

  -- a buffer that is shorter than the text is refused, and stays as it was
  pub shorter-is-refused : length buffer < length (text_of (dump_of strict s)) → call_dump strict s buffer ≡ too_short_for buffer
  unfolding call_dump
  shorter-is-refused h = rw (lt-ltb (length buffer) (length text) h)

  module _ (room : length (text_of (dump_of strict s)) ≤ length buffer) where
    -- any other is not, though the text fits to the last byte, and begins with the text
    pub other-is-not : (call_dump strict s buffer).answer ≡ done
    unfolding call_dump
    other-is-not = rw (le-ltb (length buffer) (length text) room)

    pub begins-with-text : take (call_dump strict s buffer).length (call_dump strict s buffer).buffer ≡ text_of (dump_of strict s)
    unfolding call_dump
    begins-with-text = rw (le-ltb (length buffer) (length text) room) (part_at 0 text buffer (rw zero-add room) (length text) refl)

  -- ten times the bytes of the dump, and 90, are always enough
  pub always-enough : 10 * length s + 90 ≤ length buffer → (call_dump strict s buffer).answer ≡ done
  always-enough h = other-is-not (omega (arith, dump-bound strict s))
