-- What the check of a stream's header gives, and the laws that the check asks for. Assumes nothing.
use Rattle.std.specs.Prelude.{◌≡◌, refl, ℕ, ◌+◌, ◌≤◌, ◌<◌, Bool, true, false, List, length, Err, Ok, Result}
use Rattle.std.proofs.Common.{arith, rules, lt-ltb}
use Rattle.rules.specs.Numbers.{stream_magic}
use Rattle.rules.specs.Judging.{Verdict}
use Rattle.rules.specs.Layouts.{word, stream_header, stream_header_size}
use Rattle.rules.specs.Headers.{wrong_header}
use Rattle.rules.specs.Stream.{stream_rules, stream_of}
use Rattle.rules.specs.declared.Refusal.{Refusal}
use Rattle.rules.specs.declared.Stream.{Stream}
use Rattle.rules.specs.declared.StreamHeader.{StreamHeader}
use Rattle.rules.specs.declared.Refusal.TheVariants.{BadStream}
use Rattle.rule_laws.specs.Fine.{kept_rule}
use Rattle.headers.specs.Header.{GoodHeader, header-good}

-- the stream where its header is fine, and the broken rule where it is not
abbrev pub begun : Verdict → Stream → Result Stream Refusal
begun (Ok _) s = Ok s
begun (Err r) s = Err r

-- ---- header_at

pub header_is : (m : List ℕ) (at k v s : ℕ) → k ≡ word m at → v ≡ word m (at + 4) → s ≡ word m (at + 8)
    → ◌≡◌ {A = StreamHeader} (record { magic = k; version = v; size = s }) (stream_header m at)
unfolding stream_header
header_is m at k v s p q r = rw (p, q, r)

-- ---- header_verdict

module _ (cmdsize : ℕ) (h : StreamHeader) where
  pub range-short : cmdsize < stream_header_size → Err BadStream ≡ stream_rules cmdsize h
  unfolding stream_rules wrong_header
  range-short p = rw (lt-ltb cmdsize stream_header_size p)

  module _ (wrong : Bool) (front : wrong ≡ wrong_header stream_magic stream_header_size cmdsize h.magic h.version h.size) where
    pub stream-wrong : wrong ≡ true → Err BadStream ≡ stream_rules cmdsize h
    unfolding stream_rules
    stream-wrong p = rw (← front, p)

    pub stream-good : wrong ≡ false → Ok tt ≡ stream_rules cmdsize h
    unfolding stream_rules
    stream-good p = rw (← front, p)

-- ---- check_header

module _ (cmdsize : ℕ) (s : Stream) where
  pub begins-short : (h : StreamHeader) → cmdsize < stream_header_size → Err BadStream ≡ begun (stream_rules cmdsize h) s
  begins-short h p = rw (← range-short cmdsize h p)

pub begins-good : (cmdsize at gpa : ℕ) (v : Verdict) (h h' : StreamHeader) → h ≡ h' → gpa ≡ at → v ≡ stream_rules cmdsize h → v ≡ Ok tt
    → Ok (record { gpa = gpa; size = h.size }) ≡ begun (stream_rules cmdsize h') (stream_of at h')
begins-good cmdsize at gpa v h h' e g r f = rw (← e, ← r, f, g)

pub begins-bad : (cmdsize : ℕ) (s : Stream) (v : Verdict) (q : Refusal) (h h' : StreamHeader) → h ≡ h' → v ≡ stream_rules cmdsize h → v ≡ Err q
    → Err q ≡ begun (stream_rules cmdsize h') s
begins-bad cmdsize s v q h h' e r f = rw (← e, ← r, f)

pub ruleset heading = (header_is, stream-wrong, stream-good, begins-short, begins-good, begins-bad, rules)

-- ---- what a good stream is known by

abbrev pub GoodStreamHeader : ℕ → StreamHeader → Type 0
GoodStreamHeader cmdsize h = GoodHeader stream_magic stream_header_size cmdsize h.magic h.version h.size

pub stream-sound : (cmdsize : ℕ) (h : StreamHeader) → stream_rules cmdsize h ≡ Ok tt → GoodStreamHeader cmdsize h
unfolding stream_rules
stream-sound cmdsize h e = header-good stream_magic stream_header_size cmdsize h.magic h.version h.size (kept_rule BadStream _ e)

begun-good : (v : Verdict) (s s' : Stream) → begun v s ≡ Ok s' → (v ≡ Ok tt) × (s ≡ s')
begun-good (Ok _) s s' e = (refl, cc)
begun-good (Err r) s s' e = let z : ◌≡◌ {A = ℕ} 0 1 = cc in absurd (omega arith)

-- a stream that was begun lies in memory, header and all, where the command range does
module _ (m : List ℕ) (at cmdsize : ℕ) (s : Stream) (room : at + cmdsize ≤ length m)
    (good : begun (stream_rules cmdsize (stream_header m at)) (stream_of at (stream_header m at)) ≡ Ok s) where
  pub begun-inside : s.gpa + s.size ≤ length m
  begun-inside =
      let g = begun-good (stream_rules cmdsize (stream_header m at)) (stream_of at (stream_header m at)) s good in
      let i : (stream_header m at).size ≤ cmdsize = (stream-sound cmdsize (stream_header m at) g.0).inside in
      rw (← g.1) (omega arith)

  pub begun-header : stream_header_size ≤ s.size
  begun-header =
      let g = begun-good (stream_rules cmdsize (stream_header m at)) (stream_of at (stream_header m at)) s good in
      rw (← g.1) (stream-sound cmdsize (stream_header m at) g.0).header
