-- What is at a place of a stream, and what seeing it asks for. Assumes nothing.
use Rattle.std.specs.Prelude.{◌≡◌, Bool, true, false, List, ℕ, ◌+◌, ◌-◌, ◌≤◌, length, take, drop, Err, Ok, Result}
use Rattle.std.proofs.Math.Path.{refl}
use Rattle.std.proofs.Common.{sym, ap, ◌∙◌, add-zero, arith, rules, length-drop, drop-drop}
use Rattle.machine.specs.Machine.{pick}
use Rattle.rules.specs.Layouts.{word}
use Rattle.rules.specs.Stream.{frame_of, packet_of, Frame}
use Rattle.rules.specs.declared.Refusal.{Refusal}
use Rattle.rules.specs.declared.Packet.{Packet}
use Rattle.stream_packets.specs.Framing.{packet_read_at, WasWhole, was-whole, was-misframed, frame-sound}
use Rattle.rules.specs.Dump.{is_unknown}
use Rattle.stream_listing.specs.declared.Seen.{Seen}
use Rattle.stream_listing.specs.declared.Seen.TheVariants.{Known, Unknown, Bad}

abbrev pub seen_in : Frame → List ℕ → Seen
seen_in (Ok (op, size)) b = pick (is_unknown (packet_of op (take size b))) (Unknown op size) (Known op size)
seen_in (Err r) b = Bad r

-- what the bytes left of a stream begin with
unfoldable pub seen : List ℕ → Seen
seen b = seen_in (frame_of b) b

module _ (m : List ℕ) (at : ℕ) (x : Result (ℕ × Packet) Refusal) (is : x ≡ packet_read_at (drop at m)) where
  pub seen-bad : (r : Refusal) → x ≡ Err r → Bad r ≡ seen (drop at m)
  unfolding seen
  seen-bad r e = rw (was-misframed (drop at m) x is r e)

  module _ (size : ℕ) (k : Packet) (e : x ≡ Ok (size, k)) where
    was : WasWhole (drop at m) size k
    was = was-whole (drop at m) x is size k e

    pub header-there : at + 4 ≤ length m
    header-there =
        let f = frame-sound (drop at m) was.opcode size was.frame in
        let h : 8 ≤ size = f.header in
        let i : size ≤ length m - at = rw length-drop at f.inside in
        omega arith

    module _ (op : ℕ) (opcode : op ≡ word m at) (u : Bool) (tells : u ≡ is_unknown k) where
      same : was.opcode ≡ op
      same = (frame-sound (drop at m) was.opcode size was.frame).opcode ∙ (rw (drop-drop, add-zero) refl ∙ sym opcode)

      whole : frame_of (drop at m) ≡ Ok (op, size)
      whole = was.frame ∙ ap (λ o. Ok (o, size)) same

      told : is_unknown (packet_of op (take size (drop at m))) ≡ u
      told = ap (λ o. is_unknown (packet_of o (take size (drop at m)))) (sym same) ∙ (ap is_unknown (sym was.says) ∙ sym tells)

      pub seen-unknown : u ≡ true → Unknown op size ≡ seen (drop at m)
      unfolding seen
      seen-unknown t = rw (whole, told, t)

      pub seen-known : u ≡ false → Known op size ≡ seen (drop at m)
      unfolding seen
      seen-known t = rw (whole, told, t)

pub ruleset seeing = (seen-bad, header-there, seen-unknown, seen-known, rules)

-- ---- what is known of a packet that was seen

pub record SeenPacket (b : List ℕ) (op size : ℕ) (u : Bool) : Type 0 where
  pub frame : frame_of b ≡ Ok (op, size)
  pub tells : is_unknown (packet_of op (take size b)) ≡ u

module _ (b : List ℕ) where
  abbrev by_test : Bool → ℕ → ℕ → Seen
  by_test u op size = pick u (Unknown op size) (Known op size)

  known-whole : (o n : ℕ) (u : Bool) → frame_of b ≡ Ok (o, n) → is_unknown (packet_of o (take n b)) ≡ u → (op size : ℕ) → by_test u o n ≡ Known op size → SeenPacket b op size false
  known-whole o n true f t op size e = absurd (let z : ◌≡◌ {A = ℕ} 0 1 = cc in omega arith)
  known-whole o n false f t op size e =
      let p : o ≡ op = cc in
      let q : n ≡ size = cc in
      record { frame = rw (p, q) at f; tells = rw (p, q) at t }

  by-known : (f : Frame) → frame_of b ≡ f → (op size : ℕ) → seen_in f b ≡ Known op size → SeenPacket b op size false
  by-known (Ok (o, n)) f op size e = known-whole o n (is_unknown (packet_of o (take n b))) f refl op size e
  by-known (Err r) f op size e = absurd (let z : ◌≡◌ {A = ℕ} 0 1 = cc in omega arith)

  unknown-whole : (o n : ℕ) (u : Bool) → frame_of b ≡ Ok (o, n) → is_unknown (packet_of o (take n b)) ≡ u → (op size : ℕ) → by_test u o n ≡ Unknown op size → SeenPacket b op size true
  unknown-whole o n false f t op size e = absurd (let z : ◌≡◌ {A = ℕ} 0 1 = cc in omega arith)
  unknown-whole o n true f t op size e =
      let p : o ≡ op = cc in
      let q : n ≡ size = cc in
      record { frame = rw (p, q) at f; tells = rw (p, q) at t }

  by-unknown : (f : Frame) → frame_of b ≡ f → (op size : ℕ) → seen_in f b ≡ Unknown op size → SeenPacket b op size true
  by-unknown (Ok (o, n)) f op size e = unknown-whole o n (is_unknown (packet_of o (take n b))) f refl op size e
  by-unknown (Err r) f op size e = absurd (let z : ◌≡◌ {A = ℕ} 0 1 = cc in omega arith)

  bad-whole : (o n : ℕ) (u : Bool) (why : Refusal) → by_test u o n ≡ Bad why → ⊥
  bad-whole o n true why e = let z : ◌≡◌ {A = ℕ} 0 1 = cc in omega arith
  bad-whole o n false why e = let z : ◌≡◌ {A = ℕ} 0 1 = cc in omega arith

  by-bad : (f : Frame) → frame_of b ≡ f → (why : Refusal) → seen_in f b ≡ Bad why → frame_of b ≡ Err why
  by-bad (Ok (o, n)) f why e = absurd (bad-whole o n (is_unknown (packet_of o (take n b))) why e)
  by-bad (Err r) f why e = let p : r ≡ why = cc in rw p at f

  module _ (x : Seen) (is : x ≡ seen b) where
    pub was-known : (op size : ℕ) → x ≡ Known op size → SeenPacket b op size false
    unfolding seen
    was-known op size e = by-known (frame_of b) refl op size (sym is ∙ e)

    pub was-unknown : (op size : ℕ) → x ≡ Unknown op size → SeenPacket b op size true
    unfolding seen
    was-unknown op size e = by-unknown (frame_of b) refl op size (sym is ∙ e)

    pub was-bad : (why : Refusal) → x ≡ Bad why → frame_of b ≡ Err why
    unfolding seen
    was-bad why e = by-bad (frame_of b) refl why (sym is ∙ e)
