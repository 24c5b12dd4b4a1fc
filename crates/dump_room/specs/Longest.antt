-- How long the text of a dump is at most: ten times the bytes of its stream, and 90. Assumes nothing.
use Rattle.std.specs.Prelude.{◌≡◌, Bool, List, eqb, take, drop, Err, Ok}
use Rattle.std.proofs.Math.Path.{refl}
use Rattle.std.proofs.Math.Bool.{true, false}
use Prim.Native.Nat.{ℕ, zero, suc, ◌+◌, ◌-◌, ◌*◌, ◌≤◌, ◌<◌, ◌^◌}
use native.Mathlib.Omega.{arith}
use Rattle.std.proofs.Math.ListN.{length, length-append, length-drop}
use Rattle.std.proofs.Common.{length-take}
use Rattle.machine.specs.Machine.{pick}
use Rattle.rules.specs.Layouts.{stream_header, stream_header_size}
use Rattle.rules.specs.Stream.{stream_rules, frame_of, size_of, packet_of, Frame}
use Rattle.rules.specs.Dump.{line_of, ending_text, Dump, ends, first_then, stops, listed_at, listed_before, listed, dump_in, dump_of, lines_of, text_of}
use Rattle.rules.specs.Dump.Ending.{complete, stopped, refused}
use Rattle.rules.specs.declared.Refusal.{Refusal}
use Rattle.stream_packets.specs.Framing.{frame-sound}
use Rattle.stream_listing.specs.Walk.{listed_from}
use Rattle.dump_next.specs.Rest.{rest_from}
use Rattle.dump_room.specs.Widest.{packet-bound, stopped-bound, error-bound}
use Rattle.rules.specs.Judging.{Verdict}

-- ---- packet by packet

module _ (strict : Bool) where
  abbrev Bounded : Dump → List ℕ → Type 0
  Bounded d b = length (text_of d) ≤ 10 * length b + 90

  none-bound : (b : List ℕ) → Bounded (ends complete) b
  unfolding text_of lines_of ending_text
  none-bound b = omega arith

  module _ (b : List ℕ) (at : ℕ) (later : Dump) where
    bad-bound : (r : Refusal) → Bounded (ends (refused r)) b
    unfolding text_of lines_of
    bad-bound r = omega (arith, error-bound r)

    module _ (op size : ℕ) (e : frame_of b ≡ Ok (op, size)) (h : Bounded later (drop size b)) where
      stop-bound : Bounded (ends (stopped (listed_at at op size b))) b
      unfolding text_of lines_of ending_text
      stop-bound = omega (arith, stopped-bound at op size)

      on_bound : Bounded (first_then (listed_at at op size b) later) b
      unfolding text_of lines_of line_of
      on_bound =
          let p = packet-bound op at size (take size b) (frame-sound b op size e).known (frame-sound b op size e).header in
          let i : size ≤ length b = (frame-sound b op size e).inside in
          let n : length (drop size b) ≡ length b - size = length-drop size b in
          let k : length (lines_of later.packets) + length (ending_text later.ending) ≤ 10 * length (drop size b) + 90 = simp length-append at h in
          simp length-append (omega arith)

      whole-bound : (t : Bool) → Bounded (pick t (ends (stopped (listed_at at op size b))) (first_then (listed_at at op size b) later)) b
      whole-bound true = stop-bound
      whole-bound false = on_bound

    before-bound : (f : Frame) → frame_of b ≡ f → Bounded later (drop (size_of f) b) → Bounded (listed_before strict at f b later) b
    before-bound (Ok (op, size)) e h = whole-bound op size e h (stops strict (packet_of op (take size b)))
    before-bound (Err r) e h = bad-bound r

  listed-bound : (k at : ℕ) (b : List ℕ) → Bounded (listed strict k at b) b
  unfolding listed
  listed-bound zero at b = none-bound b
  listed-bound (suc k) at b =
      by_test (eqb (length b) 0) _
      (before-bound b at (listed strict k (at + size_of (frame_of b)) (drop (size_of (frame_of b)) b)) (frame_of b) refl
      (listed-bound k (at + size_of (frame_of b)) (drop (size_of (frame_of b)) b)))
    where
      by_test : (t : Bool) (x : Dump) → Bounded x b → Bounded (pick t (ends complete) x) b
      by_test true x h = none-bound b
      by_test false x h = h

  -- ---- the whole

  in-bound : (b : List ℕ) (size : ℕ) (v : Verdict) → Bounded (dump_in strict b v size) (take size b)
  unfolding text_of lines_of
  in-bound b size (Ok tt) =
      let n : length (drop 24 (take size b)) ≤ length (take size b) = rw length-drop (omega arith) in
      omega (arith, listed-bound size 24 (drop 24 (take size b)))
  in-bound b size (Err r) = omega (arith, error-bound r)

  module _ (b : List ℕ) where
    taken-bound : Bounded (dump_of strict b) (take (stream_header b 0).size b)
    unfolding dump_of
    taken-bound = in-bound b (stream_header b 0).size (stream_rules (length b) (stream_header b 0))

    pub dump-bound : length (text_of (dump_of strict b)) ≤ 10 * length b + 90
    dump-bound =
        let n : length (take (stream_header b 0).size b) ≤ length b = rw length-take (omega arith) in
        omega (arith, taken-bound)

-- where the size of a stream is a word, so is nearly the length of its text
pub rest-small : (strict : Bool) (s : List ℕ) (size : ℕ) → size < 4294967296 → length (rest_from strict (take size s) stream_header_size) < 2 ^ 36
unfolding rest_from listed_from
rest-small strict s size h =
    let n : length (take size s) ≤ size = rw length-take (omega arith) in
    let k : length (drop 24 (take size s)) ≤ length (take size s) = rw length-drop (omega arith) in
    omega (arith, listed-bound strict (length (take size s) - 24) 24 (drop 24 (take size s)))
