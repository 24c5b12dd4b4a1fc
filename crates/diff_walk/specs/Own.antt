-- A stream's own bytes have its packets, and its header's check tells them. Assumes nothing.
use Rattle.std.specs.Prelude.{◌≡◌, refl, false, List, [], ℕ, ◌-◌, ◌≤◌, length, take, drop, Err, Ok, Result}
use Rattle.std.proofs.Math.Path.{sym, ap}
use Rattle.std.proofs.Common.{◌∙◌, arith, rules, length-drop, length-take-le}
use Rattle.rules.specs.Layouts.{stream_header, stream_header_size}
use Rattle.rules.specs.Stream.{stream_rules, stream_of}
use Rattle.rules.specs.Dump.{Dump, dump_in, dump_of, listed}
use Rattle.rules.specs.declared.Refusal.{Refusal}
use Rattle.rules.specs.declared.Stream.{Stream}
use Rattle.stream_header.specs.Header.{begun, stream-sound}
use Rattle.stream_listing.specs.Walk.{listed_from, listed-end, listed-fuel}
use Rattle.stream_listing.specs.Begin.{begins-bad, begins-good, size-inside}
use Rattle.rules.specs.Difference.{packets, broken_by, fault, own_in, own}
use Rattle.diff_walk.specs.Walk.{packets_from, ending_from}
use Rattle.rules.specs.Judging.{Verdict}

-- ---- own_bytes, fault_of: `x` is what the check of the header gave

module _ (b : List ℕ) (n : ℕ) (all_of : n ≡ length b) (x : Result Stream Refusal) (is : x ≡ begun (stream_rules n (stream_header b 0)) (stream_of 0 (stream_header b 0))) where
  by-bad : (v : Verdict) (st : Stream) (r : Refusal) → begun v st ≡ Err r → v ≡ Err r
  by-bad (Ok _) st r e = absurd (let z : ◌≡◌ {A = ℕ} 0 1 = cc in omega arith)
  by-bad (Err q) st r e = let p : q ≡ r = cc in rw p

  by_good : (v : Verdict) (st st' : Stream) → begun v st ≡ Ok st' → (v ≡ Ok tt) × (st ≡ st')
  by_good (Ok _) st st' e = (refl, cc)
  by_good (Err r) st st' e = absurd (let z : ◌≡◌ {A = ℕ} 0 1 = cc in omega arith)

  module _ (r : Refusal) (e : x ≡ Err r) where
    pub own-none : [] ≡ own b
    unfolding own
    own-none =
        let v : stream_rules (length b) (stream_header b 0) ≡ Err r = rw all_of at (by-bad (stream_rules n (stream_header b 0)) (stream_of 0 (stream_header b 0)) r (sym is ∙ e)) in
        rw v

    pub fault-header : Err r ≡ fault b
    fault-header = rw (begins-bad false b n all_of x is r e)

  module _ (st : Stream) (e : x ≡ Ok st) (size : ℕ) (z : size ≡ st.size) where
    pub own-inside : size ≤ length b
    own-inside = size-inside false b n all_of x is st e size z

    pub own-there : size ≡ length (take size b)
    own-there = sym (length-take-le size b own-inside)

    pub own_is : take size b ≡ own b
    unfolding own
    own_is =
        let g = by_good (stream_rules n (stream_header b 0)) (stream_of 0 (stream_header b 0)) st (sym is ∙ e) in
        let fine : stream_rules (length b) (stream_header b 0) ≡ Ok tt = rw all_of at g.0 in
        let kept : (stream_header b 0).size ≡ size = ap (λ (t : Stream). t.size) g.1 ∙ sym z in
        rw (fine, kept)

    pub fault-packets : (v : Verdict) → v ≡ broken_by (ending_from (take size b) stream_header_size) → v ≡ fault b
    fault-packets v h = rw (begins-good false b n all_of x is st e size z) h

pub ruleset heading = (own-none, fault-header, own-inside, own-there, own_is, fault-packets, rules)

-- ---- the packets of a stream are those of its own bytes

own-by : (b : List ℕ) (size : ℕ) (v : Verdict) → (v ≡ Ok tt → size ≤ length b) → packets_from (own_in v size b) stream_header_size ≡ (dump_in false b v size).packets
unfolding listed_from
own-by b size (Ok _) h =
    let t : length (take size b) ≡ size = length-take-le size b (h refl) in
    ap (λ k. (listed false (k - 24) 24 (drop 24 (take size b))).packets) t
    ∙ ap (λ (d : Dump). d.packets) (listed-fuel false (size - 24) size 24 (drop 24 (take size b)) (rw (length-drop, t) (omega arith)) (rw (length-drop, t) (omega arith)))
own-by b size (Err r) h = ap (λ (d : Dump). d.packets) (listed-end false (0 - 24) 24 (drop 24 []) refl)

pub own-packets : (b : List ℕ) → packets_from (own b) stream_header_size ≡ packets b
unfolding own dump_of
own-packets b =
    own-by b (stream_header b 0).size (stream_rules (length b) (stream_header b 0))
    (λ e. (stream-sound (length b) (stream_header b 0) e).inside)
