-- The theorems of specs/Dump.antt, and what they rest on. Assumes nothing.
use Rattle.std.specs.Prelude.{◌≡◌, Bool, List, [], ◌∷◌, eqb, length, take, drop, Err, Ok}
use Rattle.std.proofs.Math.Path.{refl, ap}
use Rattle.std.proofs.Math.Bool.{true, false}
use Prim.Native.Nat.{ℕ, zero, suc, ◌+◌}
use Rattle.machine.specs.Machine.{pick}
use Rattle.rules.specs.Layouts.{stream_header, stream_header_size}
use Rattle.rules.specs.Stream.{stream_rules, stream_of, frame_of, packet_of, size_of, Piece, before, cut, packets_of, Frame}
use Rattle.rules.specs.Stream.Piece.{packet}
use Rattle.rules.specs.Dump.{Dump, ends, first_then, stops, listed_at, listed_before, listed, dump_of}
use Rattle.rules.specs.Dump.Ending.{complete, stopped}
use Rattle.promises_of_dump.specs.Dump.{accepted, pieces}

-- ---- which packets are accepted: those of the rule book's own list of a stream's packets, up to the first that is bad or, with the strict

module _ (strict : Bool) where
  whole-pieces : (at op size : ℕ) (b : List ℕ) (d : Dump) (ps : List Piece) → pieces d.packets ≡ accepted strict ps → (t : Bool)
      → pieces (pick t (ends (stopped (listed_at at op size b))) (first_then (listed_at at op size b) d)).packets
      ≡ pick t [] (packet at (packet_of op (take size b)) ∷ accepted strict ps)
  unfolding pieces
  whole-pieces at op size b d ps h true = refl
  whole-pieces at op size b d ps h false = ap (λ x. packet at (packet_of op (take size b)) ∷ x) h

  before-pieces : (at : ℕ) (f : Frame) (b : List ℕ) (d : Dump) (ps : List Piece) → pieces d.packets ≡ accepted strict ps
      → pieces (listed_before strict at f b d).packets ≡ accepted strict (before at f b ps)
  unfolding accepted pieces
  before-pieces at (Ok (op, size)) b d ps h = whole-pieces at op size b d ps h (stops strict (packet_of op (take size b)))
  before-pieces at (Err r) b d ps h = refl

  test-pieces : (t : Bool) (d : Dump) (ps : List Piece) → pieces d.packets ≡ accepted strict ps → pieces (pick t (ends complete) d).packets ≡ accepted strict (pick t [] ps)
  unfolding accepted pieces
  test-pieces true d ps h = refl
  test-pieces false d ps h = h

  listed-pieces : (k at : ℕ) (b : List ℕ) → pieces (listed strict k at b).packets ≡ accepted strict (cut k at b)
  unfolding listed cut accepted pieces
  listed-pieces zero at b = refl
  listed-pieces (suc k) at b =
      test-pieces (eqb (length b) 0) _ _
      (before-pieces at (frame_of b) b _ _ (listed-pieces k (at + size_of (frame_of b)) (drop (size_of (frame_of b)) b)))

  -- "every accepted packet appears once, in order": the lines are of the accepted packets of the stream, one each, and of no other
  pub lists-each-once : (b : List ℕ) → stream_rules (length b) (stream_header b 0) ≡ Ok tt
      → pieces (dump_of strict b).packets ≡ accepted strict (packets_of b (stream_of 0 (stream_header b 0)))
  unfolding dump_of
  lists-each-once b fine = rw fine (listed-pieces (stream_header b 0).size stream_header_size (drop stream_header_size (take (stream_header b 0).size b)))
