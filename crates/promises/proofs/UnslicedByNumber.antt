-- The theorems of specs/UnslicedByNumber.antt, and what they rest on. Assumes nothing.
use Rattle.std.specs.Prelude.{◌≡◌, ◌⊎◌, take, drop, Err, Ok}
use Rattle.std.proofs.Math.Path.{refl}
use Rattle.std.proofs.Common.{sym, ap, subst, ◌∙◌}
use Rattle.std.proofs.Math.Bool.{true}
use mathlib.Core.List.{List, [], ◌∷◌}
use Rattle.std.proofs.Math.Logic.{inl, inr, ⊎_elim}
use Prim.Native.Nat.{ℕ, zero, suc, ◌+◌, ◌-◌, ◌^◌, ◌≤◌, ◌<◌}
use native.Mathlib.Omega.{arith}
use Rattle.std.proofs.Math.ListN.{length, length-append, length-drop}
use Rattle.rules.specs.Lists.{pushed}
use Rattle.rules.specs.Judging.{Finding, fault_at, Verdict, error_number}
use Rattle.rules.specs.Judging.Finding.{fine, broken}
use Rattle.rules.specs.Layouts.{entry, stream_header_size}
use Rattle.rules.specs.Table.{Judged, entry_place, entry_rules, entries_from, entries_of, stop_or_go, judge_entries}
use Rattle.rules.specs.Stream.{left, frame_of, size_of, packet_of, before, cut, stream_bytes, Frame}
use Rattle.rules.specs.Ring.{opening_of}
use Rattle.rules.specs.Packets.{Progress, pass}
use Rattle.rules.specs.Unsliced.{Reckoned, one_further, judge_packets, after_entries, submission}
use Rattle.rules.specs.declared.Entry.{Entry}
use Rattle.rules.specs.declared.Fault.{Fault}
use Rattle.rules.specs.declared.Opened.{Opened}
use Rattle.rules.specs.declared.Refusal.{Refusal}
use Rattle.rules.specs.declared.Table.{Table}
use Rattle.rules.specs.declared.Opening.TheVariants.{Started}
use Rattle.words.specs.Over.{below_or_not}
use Rattle.stream_packets.specs.Framing.{frame-sound}
use Rattle.stream_packets.specs.Listing.{cut-end, cut-packet}
use Rattle.promises_of_submissions.specs.LentBytes.{OfBytes}
use Rattle.promises_of_submissions.specs.Submission.{Lies, LiesOn}
use Rattle.promises_of_submissions.proofs.Submission.{opening-lies}
use Rattle.rule_laws.specs.RuleNumbers.{EntryRule, packet_number, Numbered, NumberedFrame}
use Rattle.rule_laws.proofs.RuleNumbers.{packet-number-is-no-entrys, frame-of-numbered, pass-numbered}
use Rattle.promises.specs.Places.{OfAnEntry, BrokenAt, entry-number}
use Rattle.promises.proofs.Places.{broken-at}
use Rattle.promises.specs.PlacesByNumber.{OfANumberedPacket}
use Rattle.promises.specs.UnslicedByNumber.{Among, ByTheCode, fine-not-broken, packets_judged, table_judged}

module _ (f : Fault) where
  -- the first broken entry, of n after those that are earlier
  judged-entry : (memory : ℕ) (m : List ℕ) (t : Table) (n i : ℕ) (earlier : List Entry) → length earlier + n < 2 ^ 32
      → (judge_entries memory earlier (entries_from m t i n)).finding ≡ broken f → EntryRule f.code × (f.place < length earlier + n)
  unfolding judge_entries entries_from
  judged-entry memory m t zero i earlier room h = absurd (fine-not-broken h)
  judged-entry memory m t (suc n) i earlier room h =
      by-verdict (entry_rules memory earlier next) refl (judged-entry memory m t n (suc i) (pushed earlier next) (simp length-append (omega arith))) h
    where
      next : Entry
      next = entry m (entry_place t i)

      later : Judged
      later = judge_entries memory (pushed earlier next) (entries_from m t (suc i) n)

      by-verdict : (v : Verdict) → entry_rules memory earlier next ≡ v
          → (later.finding ≡ broken f → EntryRule f.code × (f.place < length (pushed earlier next) + n))
          → (stop_or_go (length earlier) v later).finding ≡ broken f → EntryRule f.code × (f.place < length earlier + suc n)
      by-verdict (Ok _) e ih k =
          let found : EntryRule f.code × (f.place < length (pushed earlier next) + n) = ih k in
          (found.0, omega (arith, found.1, length-append earlier (next ∷ [])))
      by-verdict (Err r) e ih k =
          let b : BrokenAt (length earlier) (Err r) f = broken-at (length earlier) (Err r) f k in
          let is : f.place ≡ length earlier = b.told (omega arith) in
          (subst EntryRule (sym b.number) (entry-number memory earlier next b.why (e ∙ b.broke)), omega arith)

  judged-packet : (es : List Entry) (k at : ℕ) (b : List ℕ) (h : Progress) → at + length b < 2 ^ 32
      → (judge_packets es h (cut k at b)).finding ≡ broken f → (Among f) at b
  unfolding judge_packets cut
  judged-packet es zero at b h room e = absurd (fine-not-broken e)
  judged-packet es (suc k) at b h room e =
      ⊎_elim (λ some. by_frame some (frame_of b) refl (judged-packet es k) (rw (cut-packet k at b some) at e))
      (λ none. absurd (fine-not-broken (rw (cut-end (suc k) at b (omega arith)) at e)))
      (below_or_not 0 (length b))
    where
      here : (r : Refusal) → packet_number (error_number r) ≡ true → 0 < length b → broken (fault_at at r) ≡ broken f → (Among f) at b
      here r numbered some q =
          let is : f.place ≡ at = (broken-at at (Err r) f q).told (omega arith) in
          let code : fault_at at r ≡ f = cc in
          (ap (λ (x : Fault). packet_number x.code) (sym code) ∙ numbered, omega arith, omega arith)

      by-verdict : (size : ℕ) → size ≤ length b → 0 < length b → (v : Verdict) → Numbered v → (q : Reckoned)
          → (q.finding ≡ broken f → (Among f) (at + size) (drop size b))
          → (one_further at v h q).finding ≡ broken f → (Among f) at b
      by-verdict size fits some (Ok _) l q ih g =
          let found : (Among f) (at + size) (drop size b) = ih g in
          (found.0, omega (arith, found.1), omega (arith, found.2, length-drop size b))
      by-verdict size fits some (Err r) l q ih g = here r l some g

      by_frame : 0 < length b → (x : Frame) → frame_of b ≡ x
          → ((at' : ℕ) (b' : List ℕ) (h' : Progress) → at' + length b' < 2 ^ 32 → (judge_packets es h' (cut k at' b')).finding ≡ broken f → (Among f) at' b')
          → (judge_packets es h (before at x b (cut k (at + size_of x) (drop (size_of x) b)))).finding ≡ broken f → (Among f) at b
      by_frame some (Ok (op, size)) e ih g =
          let fits : size ≤ length b = (frame-sound b op size e).inside in
          by-verdict size fits some (pass es h (packet_of op (take size b))).verdict (pass-numbered es h (packet_of op (take size b))) _
          (ih (at + size) (drop size b) (pass es h (packet_of op (take size b))).held (omega (arith, length-drop size b))) g
      by_frame some (Err r) e ih g = here r (subst NumberedFrame e (frame-of-numbered b)) some g

-- what an opening started over bytes, judged by the unsliced rules over the same bytes: the first broken rule is an entry's or a packet's
module _ (m : List ℕ) (ring size : ℕ) (o : Opened) (opened : opening_of m ring size ≡ Started o) (bytes : OfBytes m) where
  lies : Lies m o
  lies = subst (LiesOn m) opened (opening-lies m ring size)

  -- the first broken rule is an entry's: the number is 14 or 15, and the place below the table's count; or all entries are fine, and it is a packet's: the
  -- number is neither, and the place an offset in the stream
  pub unsliced-tells-which : (h : Progress) (f : Fault) → (submission m o h).finding ≡ broken f
      → (((table_judged m ring size o opened bytes) ≡ broken f) × OfAnEntry o.table f) ⊎ (((table_judged m ring size o opened bytes) ≡ fine) × (((packets_judged m ring size o opened bytes) h).finding ≡ broken f) × OfANumberedPacket o.stream f)
  unfolding submission
  unsliced-tells-which h f = by_table (table_judged m ring size o opened bytes) refl
    where
      by_table : (v : Finding) → (table_judged m ring size o opened bytes) ≡ v
          → (after_entries v (judge_entries (length m) [] (entries_of m o.table)).count h ((packets_judged m ring size o opened bytes) h)).finding ≡ broken f
          → (((table_judged m ring size o opened bytes) ≡ broken f) × OfAnEntry o.table f) ⊎ (((table_judged m ring size o opened bytes) ≡ fine) × (((packets_judged m ring size o opened bytes) h).finding ≡ broken f) × OfANumberedPacket o.stream f)
      by_table fine e k =
          let long : length (left m o.stream stream_header_size) ≡ o.stream.size - stream_header_size = length-drop stream_header_size (stream_bytes m o.stream) ∙ rw lies.stream in
          let found : (packet_number f.code ≡ true) × (24 ≤ f.place) × (f.place < 24 + length (left m o.stream stream_header_size)) =
          judged-packet f (entries_of m o.table) o.stream.size stream_header_size (left m o.stream stream_header_size) h (omega (arith, lies.short bytes)) k in
          inr (e, k, (found.0, (found.1, omega (arith, found.1, found.2))))
      by_table (broken g) e k =
          let found : EntryRule f.code × (f.place < 0 + o.table.count) =
          judged-entry f (length m) m o.table o.table.count 0 [] (omega (arith, lies.few)) (e ∙ k) in
          inl (e ∙ k, (found.0, omega (arith, found.1)))

  pub unsliced-by-the-code : (h : Progress) (f : Fault) → (submission m o h).finding ≡ broken f → (ByTheCode m ring size o opened bytes) h f
  unsliced-by-the-code h f e =
      ⊎_elim
      (λ x. record { entrys = (λ _. x.0, λ _. x.1.0); index = λ _. x.1.1; packets = λ n. absurd (n x.1.0) })
      (λ x. record {
        entrys = (λ c. absurd (packet-number-is-no-entrys f.code x.2.0 c), λ b. absurd (fine-not-broken (sym x.0 ∙ b)));
        index = λ c. absurd (packet-number-is-no-entrys f.code x.2.0 c);
        packets = λ _. (x.1, x.2);
      })
      (unsliced-tells-which h f e)
