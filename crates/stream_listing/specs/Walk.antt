-- The packets of a stream from a place on: none at its end, else the packet there and those after it, or how they end. Assumes nothing.
use Rattle.std.specs.Prelude.{◌≡◌, Bool, true, false, List, take, drop, Err, Ok}
use Rattle.std.proofs.Math.Path.{refl, ap}
use Rattle.std.proofs.Common.{◌∙◌, ⊎_elim, eq-eqb, ne_eqb, drop-drop}
use Prim.Native.Nat.{ℕ, zero, suc, ◌+◌, ◌-◌, ◌≤◌, ◌<◌}
use native.Mathlib.Omega.{arith}
use Rattle.std.proofs.Math.ListN.{length, length-drop}
use Rattle.words.specs.Over.{below_or_not}
use Rattle.rules.specs.Stream.{frame_of, size_of, packet_of, Frame}
use Rattle.rules.specs.Dump.{Dump, ends, first_then, stops, listed_at, listed_before, listed}
use Rattle.rules.specs.Dump.Ending.{complete, stopped, refused}
use Rattle.rules.specs.declared.Refusal.{Refusal}
use Rattle.stream_packets.specs.Framing.{frame-sound}

module _ (strict : Bool) where
  -- ---- the rule book's `listed`

  pub listed-end : (k at : ℕ) (b : List ℕ) → length b ≡ 0 → listed strict k at b ≡ ends complete
  unfolding listed
  listed-end zero at b h = refl
  listed-end (suc k) at b h = rw (eq-eqb (length b) 0 h)

  pub listed-packet : (k at : ℕ) (b : List ℕ) → 0 < length b
      → listed strict (suc k) at b ≡ listed_before strict at (frame_of b) b (listed strict k (at + size_of (frame_of b)) (drop (size_of (frame_of b)) b))
  unfolding listed
  listed-packet k at b h = rw (ne_eqb (length b) 0 (λ z. omega arith))

  -- what is after a packet counts only where the packet is whole
  before_same : (at : ℕ) (f : Frame) (b : List ℕ) (x y : Dump) → ((op size : ℕ) → f ≡ Ok (op, size) → x ≡ y) → listed_before strict at f b x ≡ listed_before strict at f b y
  before_same at (Ok (op, size)) b x y h = rw (h op size refl)
  before_same at (Err r) b x y h = refl

  -- its first number does not matter where it is no less than the number of bytes
  pub listed-fuel : (k k' at : ℕ) (b : List ℕ) → length b ≤ k → length b ≤ k' → listed strict k at b ≡ listed strict k' at b
  listed-fuel zero k' at b h h' = rw (listed-end zero at b (omega arith), listed-end k' at b (omega arith))
  listed-fuel (suc k) zero at b h h' = rw (listed-end (suc k) at b (omega arith), listed-end zero at b (omega arith))
  listed-fuel (suc k) (suc k') at b h h' =
      ⊎_elim
      (λ some. rw (listed-packet k at b some, listed-packet k' at b some)
      (before_same at (frame_of b) b _ _
      (λ op size e.
      let head : 8 ≤ size = (frame-sound b op size e).header in
      rw e (listed-fuel k k' (at + size) (drop size b) (rw length-drop (omega arith)) (rw length-drop (omega arith))))))
      (λ none. rw (listed-end (suc k) at b (omega arith), listed-end (suc k') at b (omega arith)))
      (below_or_not 0 (length b))

  -- ---- from a place on

  unfoldable pub listed_from : List ℕ → ℕ → Dump
  listed_from s at = listed strict (length s - at) at (drop at s)

  module _ (s : List ℕ) (at : ℕ) where
    pub from-none : length s ≤ at → listed_from s at ≡ ends complete
    unfolding listed_from
    from-none h = listed-end (length s - at) at (drop at s) (rw length-drop (omega arith))

    module _ (here : at < length s) where
      from_is : listed_from s at ≡ listed_before strict at (frame_of (drop at s)) (drop at s)
          (listed strict (length s - at - 1) (at + size_of (frame_of (drop at s))) (drop (at + size_of (frame_of (drop at s))) s))
      unfolding listed_from
      from_is =
          let k : length s - at ≡ suc (length s - at - 1) = omega arith in
          ap (λ n. listed strict n at (drop at s)) k
          ∙ (listed-packet (length s - at - 1) at (drop at s) (rw length-drop (omega arith)) ∙ rw drop-drop)

      pub from-bad : (r : Refusal) → frame_of (drop at s) ≡ Err r → listed_from s at ≡ ends (refused r)
      from-bad r e = from_is ∙ rw e

      module _ (op size : ℕ) (e : frame_of (drop at s) ≡ Ok (op, size)) where
        pub further : at < at + size
        further = omega (arith, (frame-sound (drop at s) op size e).header)

        pub inside : at + size ≤ length s
        inside = let i : size ≤ length s - at = rw length-drop at (frame-sound (drop at s) op size e).inside in omega arith

        pub from-stopped : stops strict (packet_of op (take size (drop at s))) ≡ true → listed_from s at ≡ ends (stopped (listed_at at op size (drop at s)))
        from-stopped h = from_is ∙ rw (e, h)

        pub from_on : stops strict (packet_of op (take size (drop at s))) ≡ false
            → listed_from s at ≡ first_then (listed_at at op size (drop at s)) (listed_from s (at + size))
        unfolding listed_from
        from_on h =
            let same : listed strict (length s - at - 1) (at + size) (drop (at + size) s) ≡ listed strict (length s - (at + size)) (at + size) (drop (at + size) s) =
            listed-fuel (length s - at - 1) (length s - (at + size)) (at + size) (drop (at + size) s) (rw length-drop (omega (arith, further))) (rw length-drop (omega arith)) in
            from_is ∙ rw (e, h, same)
