-- The text of a dump from a place of the stream on: nothing at its end, else a line and the text behind it, or the line that ends it.
-- Assumes nothing.
use Rattle.std.specs.Prelude.{◌≡◌, refl, Bool, true, false, List, [], ◌++◌, ℕ, ◌+◌, ◌≤◌, ◌<◌, length, take, drop, Err, Ok}
use Rattle.std.proofs.Common.{ap, ◌∙◌, append_assoc, arith, length-append}
use Rattle.machine.specs.Machine.{pick}
use Rattle.rules.specs.Stream.{frame_of, packet_of, Frame}
use Rattle.rules.specs.PacketRows.{packet_row}
use Rattle.rules.specs.Dump.{line, line_in, opcode_text, line_of, ending_text, stops, lines_of, text_of}
use Rattle.rules.specs.Dump.Ending.{refused}
use Rattle.rules.specs.declared.Refusal.{Refusal}
use Rattle.stream_listing.specs.Walk.{listed_from, from-none, from-bad, from-stopped, from_on}

-- the line of the packet at an offset, by its frame: its own, or the one that ends the listing there
abbrev pub line_by : Bool → ℕ → Frame → List ℕ → List ℕ
line_by strict at (Ok (op, size)) b =
    pick (stops strict (packet_of op (take size b))) (line at "STOPPED" size (opcode_text op)) (line_in (packet_row op) at op size (take size b))
line_by strict at (Err r) b = ending_text (refused r)

module _ (strict : Bool) where
  unfoldable pub next_line : List ℕ → ℕ → List ℕ
  next_line s at = line_by strict at (frame_of (drop at s)) (drop at s)

  unfoldable pub rest_from : List ℕ → ℕ → List ℕ
  rest_from s at = text_of (listed_from strict s at)

  module _ (s : List ℕ) (at : ℕ) where
    pub rest-none : length s ≤ at → rest_from s at ≡ []
    unfolding rest_from text_of lines_of ending_text
    rest-none h = rw (from-none strict s at h)

    module _ (here : at < length s) where
      module _ (r : Refusal) (e : frame_of (drop at s) ≡ Err r) where
        pub line-bad : next_line s at ≡ ending_text (refused r)
        unfolding next_line
        line-bad = rw e

        pub rest-bad : rest_from s at ≡ next_line s at
        unfolding rest_from text_of lines_of
        rest-bad = rw (from-bad strict s at here r e, line-bad)

      module _ (op size : ℕ) (e : frame_of (drop at s) ≡ Ok (op, size)) where
        module _ (h : stops strict (packet_of op (take size (drop at s))) ≡ true) where
          pub line-stopped : next_line s at ≡ line at "STOPPED" size (opcode_text op)
          unfolding next_line
          line-stopped = rw (e, h)

          pub rest-stopped : rest_from s at ≡ next_line s at
          unfolding rest_from text_of lines_of ending_text
          rest-stopped = rw (from-stopped strict s at here op size e h, line-stopped)

        module _ (h : stops strict (packet_of op (take size (drop at s))) ≡ false) where
          pub line_on : next_line s at ≡ line_in (packet_row op) at op size (take size (drop at s))
          unfolding next_line
          line_on = rw (e, h)

          pub rest-on : rest_from s at ≡ next_line s at ++ rest_from s (at + size)
          unfolding rest_from text_of lines_of line_of
          rest-on =
              rw (from_on strict s at here op size e h, line_on)
              (append_assoc (line_in (packet_row op) at op size (take size (drop at s))) _ _)

      -- the next line is a part of the text
      pub next-within : length (next_line s at) ≤ length (rest_from s at)
      next-within = by_frame (frame_of (drop at s)) refl
        where
          by-stop : (op size : ℕ) → frame_of (drop at s) ≡ Ok (op, size) → (t : Bool) → stops strict (packet_of op (take size (drop at s))) ≡ t
              → length (next_line s at) ≤ length (rest_from s at)
          by-stop op size e true h = rw (rest-stopped op size e h) (omega arith)
          by-stop op size e false h =
              let n : length (rest_from s at) ≡ length (next_line s at) + length (rest_from s (at + size)) = ap (λ x. length x) (rest-on op size e h) ∙ length-append (next_line s at) (rest_from s (at + size)) in
              omega arith

          by_frame : (f : Frame) → frame_of (drop at s) ≡ f → length (next_line s at) ≤ length (rest_from s at)
          by_frame (Ok (op, size)) e = by-stop op size e (stops strict (packet_of op (take size (drop at s)))) refl
          by_frame (Err r) e = rw (rest-bad r e) (omega arith)
