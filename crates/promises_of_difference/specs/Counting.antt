-- Bytes that never count: those after the stream size, and the headers' own. An answer depends on the bytes from 24 to the stream size alone. Assumes
-- nothing.
use Rattle.std.specs.Prelude.{◌≡◌, false, List, ◌++◌, ℕ, ◌+◌, ◌-◌, ◌≤◌, length, take, drop, Ok}
use Rattle.std.proofs.Common.{sym, ap, ◌∙◌, arith, le-ltb, eq-eqb, length-drop, length-append, length-take-le}
use Rattle.std.proofs.lemmas.List.{take-append-le, drop-append-le}
use Rattle.rules.specs.Bytes.{le}
use Rattle.rules.specs.Headers.{wrong_header}
use Rattle.rules.specs.Layouts.{word, stream_header, stream_header_size}
use Rattle.rules.specs.Lists.{nth}
use Rattle.rules.specs.Stream.{stream_rules}
use Rattle.rules.specs.Dump.{Dump, listed, dump_of}
use Rattle.rules.specs.declared.StreamHeader.{StreamHeader}
use Rattle.stream_header.specs.Header.{stream-sound}
use Rattle.stream_listing.specs.Walk.{listed-fuel}
use Rattle.rules.specs.Difference.{broken_by, checked, check, class_of, offsets_of, next_from, asked, parted, parts, class_asked, next_asked, start}

-- the header keeps rule 16
abbrev pub KeepsHeader : List ℕ → Type 0
KeepsHeader b = stream_rules (length b) (stream_header b 0) ≡ Ok tt

-- the bytes that count: from 24 to the stream size
abbrev pub counted : List ℕ → List ℕ
counted b = drop stream_header_size (take (stream_header b 0).size b)

module _ (b : List ℕ) (fine : KeepsHeader b) where
  long : length (counted b) ≤ (stream_header b 0).size
  long = rw (length-drop, length-take-le (stream_header b 0).size b (stream-sound (length b) (stream_header b 0) fine).inside) (omega arith)

  dump-is : dump_of false b ≡ listed false (stream_header b 0).size 24 (counted b)
  unfolding dump_of
  dump-is = rw fine

-- two streams with the same counted bytes have the same packets and the same ending
pub same-dump : (b b' : List ℕ) → KeepsHeader b → KeepsHeader b' → counted b ≡ counted b' → dump_of false b ≡ dump_of false b'
same-dump b b' fine fine' e =
    let h : length (counted b') ≤ (stream_header b 0).size = rw e at (long b fine) in
    dump-is b fine
    ∙ (ap (λ l. listed false (stream_header b 0).size 24 l) e
    ∙ (listed-fuel false (stream_header b 0).size (stream_header b' 0).size 24 (counted b') h (long b' fine') ∙ sym (dump-is b' fine')))

-- ---- bytes after a stream

module _ (b rest : List ℕ) (long_as : 24 ≤ length b) where
  same_word : (at : ℕ) → at + 4 ≤ length b → word (b ++ rest) at ≡ word b at
  same_word at h =
      let k : 4 ≤ length (drop at b) = rw length-drop (omega arith) in
      ap le (ap (take 4) (drop-append-le at b rest (omega arith)) ∙ take-append-le 4 (drop at b) rest k)

  same-header : stream_header (b ++ rest) 0 ≡ stream_header b 0
  unfolding stream_header
  same-header =
      let m : word (b ++ rest) 0 ≡ word b 0 = same_word 0 (omega arith) in
      let v : word (b ++ rest) 4 ≡ word b 4 = same_word 4 (omega arith) in
      let z : word (b ++ rest) 8 ≡ word b 8 = same_word 8 (omega arith) in
      rw (m, v, z)

keeps-longer : (n more : ℕ) (h : StreamHeader) → n ≤ more → stream_rules n h ≡ Ok tt → stream_rules more h ≡ Ok tt
unfolding stream_rules wrong_header
keeps-longer n more h l e =
    let g = stream-sound n h e in
    let head : 24 ≤ h.size = g.header in
    let inside : h.size ≤ n = g.inside in
    let a : 24 ≤ more = omega arith in
    let b : h.size ≤ more = omega arith in
    rw (le-ltb more 24 a, eq-eqb _ _ g.right, eq-eqb _ _ g.major, le-ltb h.size 24 head, le-ltb more h.size b)

-- "Trailing bytes after the stream size never count."
pub trailing-bytes : (b rest : List ℕ) → KeepsHeader b → dump_of false (b ++ rest) ≡ dump_of false b
trailing-bytes b rest fine =
    let g = stream-sound (length b) (stream_header b 0) fine in
    let inside : (stream_header b 0).size ≤ length b = g.inside in
    let header : 24 ≤ (stream_header b 0).size = g.header in
    let long_as : 24 ≤ length b = omega arith in
    let e : stream_header (b ++ rest) 0 ≡ stream_header b 0 = same-header b rest long_as in
    let more : length b ≤ length (b ++ rest) = rw length-append (omega arith) in
    let keeps : KeepsHeader (b ++ rest) = rw e (keeps-longer (length b) (length (b ++ rest)) (stream_header b 0) more fine) in
    let same : counted (b ++ rest) ≡ counted b = ap (λ (h : StreamHeader). drop 24 (take h.size (b ++ rest))) e ∙ ap (drop 24) (take-append-le (stream_header b 0).size b rest inside) in
    same-dump (b ++ rest) b keeps fine same

-- the four questions, and how a walk begins
pub record SameAnswers (b c b' c' : List ℕ) : Type 0 where
  pub checks : check b c ≡ check b' c'
  pub parting : parts b c ≡ parts b' c'
  pub classes : (i : ℕ) → class_asked b c i ≡ class_asked b' c' i
  pub offsets : (i from : ℕ) → next_asked b c i from ≡ next_asked b' c' i from
  pub starts : start b c ≡ start b' c'

pub same-answers : (b c b' c' : List ℕ) → dump_of false b ≡ dump_of false b' → dump_of false c ≡ dump_of false c' → SameAnswers b c b' c'
same-answers b c b' c' e d =
    record {
      checks = of-dumps (λ u v. checked (broken_by u.ending) (broken_by v.ending));
      parting = of-dumps (λ u v. asked (checked (broken_by u.ending) (broken_by v.ending)) (parted 0 u.packets v.packets));
      classes = λ i. of-dumps (λ u v. asked (checked (broken_by u.ending) (broken_by v.ending)) (class_of (nth u.packets i) (nth v.packets i)));
      offsets = λ i from. of-dumps (λ u v. asked (checked (broken_by u.ending) (broken_by v.ending)) (next_from from (offsets_of (nth u.packets i) (nth v.packets i))));
      starts = of-dumps (λ u v. asked (checked (broken_by u.ending) (broken_by v.ending)) (record { first = stream_header_size; second = stream_header_size }));
    }
  where
    of-dumps : {A : Type 0} (f : Dump → Dump → A) → f (dump_of false b) (dump_of false c) ≡ f (dump_of false b') (dump_of false c')
    of-dumps f = ap (λ u. f u (dump_of false c)) e ∙ ap (λ v. f (dump_of false b') v) d

-- neither the headers' own bytes nor those after the stream size change an answer
pub uncounted-bytes : (b c b' c' : List ℕ) → KeepsHeader b → KeepsHeader c → KeepsHeader b' → KeepsHeader c' → counted b ≡ counted b' → counted c ≡ counted c' → SameAnswers b c b' c'
uncounted-bytes b c b' c' p q p' q' e d = same-answers b c b' c' (same-dump b b' p p' e) (same-dump c c' q q' d)
