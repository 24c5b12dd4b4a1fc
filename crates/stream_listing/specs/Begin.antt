-- How the packets of a dump begin: behind a good header, or with the error of a bad one. Assumes nothing.
use Rattle.std.specs.Prelude.{◌≡◌, refl, Bool, List, ℕ, ◌-◌, ◌≤◌, take, drop, Err, Ok, Result}
use Rattle.std.proofs.Common.{sym, ap, ◌∙◌, arith, length-drop}
use Rattle.std.proofs.Math.ListN.{length}
use Rattle.std.proofs.Math.Seq.{length-take-le}
use Rattle.rules.specs.Layouts.{stream_header, stream_header_size}
use Rattle.rules.specs.Stream.{stream_rules, stream_of}
use Rattle.rules.specs.Dump.{ends, dump_of}
use Rattle.rules.specs.Dump.Ending.{refused}
use Rattle.rules.specs.declared.Refusal.{Refusal}
use Rattle.rules.specs.declared.Stream.{Stream}
use Rattle.stream_header.specs.Header.{begun, stream-sound}
use Rattle.stream_listing.specs.Walk.{listed_from, listed-fuel}
use Rattle.rules.specs.Judging.{Verdict}

-- `x` is what the check of the header gave
module _ (strict : Bool) (s : List ℕ) (n : ℕ) (all_of : n ≡ length s) (x : Result Stream Refusal)
    (is : x ≡ begun (stream_rules n (stream_header s 0)) (stream_of 0 (stream_header s 0))) where
  by-bad : (v : Verdict) (st : Stream) (r : Refusal) → begun v st ≡ Err r → v ≡ Err r
  by-bad (Ok _) st r e = absurd (let z : ◌≡◌ {A = ℕ} 0 1 = cc in omega arith)
  by-bad (Err q) st r e = let p : q ≡ r = cc in rw p

  by_good : (v : Verdict) (st st' : Stream) → begun v st ≡ Ok st' → (v ≡ Ok tt) × (st ≡ st')
  by_good (Ok _) st st' e = (refl, cc)
  by_good (Err r) st st' e = absurd (let z : ◌≡◌ {A = ℕ} 0 1 = cc in omega arith)

  pub begins-bad : (r : Refusal) → x ≡ Err r → dump_of strict s ≡ ends (refused r)
  unfolding dump_of
  begins-bad r e =
      let v : stream_rules (length s) (stream_header s 0) ≡ Err r = rw all_of at (by-bad (stream_rules n (stream_header s 0)) (stream_of 0 (stream_header s 0)) r (sym is ∙ e)) in
      rw v

  module _ (st : Stream) (e : x ≡ Ok st) (size : ℕ) (z : size ≡ st.size) where
    fine : stream_rules (length s) (stream_header s 0) ≡ Ok tt
    fine = rw all_of at (by_good (stream_rules n (stream_header s 0)) (stream_of 0 (stream_header s 0)) st (sym is ∙ e)).0

    kept : (stream_header s 0).size ≡ size
    kept = ap (λ (t : Stream). t.size) (by_good (stream_rules n (stream_header s 0)) (stream_of 0 (stream_header s 0)) st (sym is ∙ e)).1 ∙ sym z

    pub size-inside : size ≤ length s
    size-inside = rw kept at (stream-sound (length s) (stream_header s 0) fine).inside

    pub size-there : size ≡ length (take size s)
    size-there = sym (length-take-le size s size-inside)

    pub begins-good : dump_of strict s ≡ listed_from strict (take size s) stream_header_size
    unfolding dump_of listed_from
    begins-good =
        let t : length (take size s) ≡ size = length-take-le size s size-inside in
        rw (fine, kept, t)
        (listed-fuel strict size (size - 24) 24 (drop 24 (take size s)) (rw (length-drop, t) (omega arith)) (rw (length-drop, t) (omega arith)))
