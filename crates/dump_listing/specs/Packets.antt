-- What the writers of a dump's text ask for: its lines one after the other, behind a good header, and the room that there is. Assumes nothing.
use Rattle.std.specs.Prelude.{◌≡◌, refl, Bool, false, not, List, [], ◌++◌, ℕ, ◌+◌, ◌≤◌, ◌<◌, take, Ok, Err, Result}
use Rattle.std.proofs.Common.{sym, ◌∙◌, append-nil, arith, rules, ltb-false}
use Rattle.std.proofs.Math.Path.{ap}
use Rattle.std.proofs.Math.Bool.{true}
use Rattle.std.proofs.Math.Nat.{zero-add}
use Rattle.std.proofs.Math.Dec.{ltb}
use Rattle.std.proofs.Math.ListN.{length}
use Rattle.machine.specs.Machine.{pick}
use Rattle.rules.specs.Numbers.{done}
use Rattle.rules.specs.Lists.{over}
use Rattle.rules.specs.Layouts.{stream_header, stream_header_size}
use Rattle.rules.specs.Stream.{stream_rules, stream_of}
use Rattle.rules.specs.Dump.{ending_text, lines_of, text_of, dump_of}
use Rattle.rules.specs.Dump.Ending.{refused}
use Rattle.rules.specs.declared.Refusal.{Refusal}
use Rattle.rules.specs.declared.Stream.{Stream}
use Rattle.stream_header.specs.Header.{begun}
use Rattle.stream_listing.specs.Begin.{begins-bad, begins-good, size-inside, size-there}
use Rattle.text_numbers.specs.Writing.{Puts, Writes, writes_start, writes_end, writes-length, writes-room, writes-next}
use Rattle.dump_next.specs.Rest.{next_line, rest_from, rest-none, next-within}
use Rattle.dump_next.specs.Next.{Goes, GoesOn, GoesNot, goes-less}
use Rattle.dump_next.specs.declared.Going.{Going}
use Rattle.dump_next.specs.declared.Going.TheVariants.{On, Ended}
use Rattle.dump_room.specs.Widest.{error-bound}
use Rattle.dump_room.specs.Longest.{rest-small}
use Rattle.dump_room.specs.Fitting.{fits}
use Rattle.call_errors.specs.declared.CallError.TheVariants.{TooShort}
use Rattle.dump_listing.specs.Views.{PutsDump, too_short_for, call_dump, Dumps}

-- ---- put_packets

module _ (strict : Bool) (s b : List ℕ) (room : length (rest_from strict s stream_header_size) ≤ length b) where
  abbrev all : List ℕ
  all = rest_from strict s stream_header_size

  pub all_start : Writes 0 all b (rest_from strict s stream_header_size) 0 b
  all_start = writes_start 0 all b

  module _ (at end : ℕ) (m : List ℕ) (w : Writes 0 all b (rest_from strict s at) end m) where
    as-part : Writes 0 all b (rest_from strict s at ++ []) end m
    as-part = rw append-nil w

    pub all-length : length m ≡ length b
    all-length = writes-length 0 all b (rw zero-add room) [] (rest_from strict s at) end m w

    pub all-kept : (m' : List ℕ) → length m' ≡ length m → length m' ≡ length b
    all-kept m' e = e ∙ all-length

    pub line-room : at < length s → end + length (next_line strict s at) ≤ length m
    line-room h = omega (arith, next-within strict s at h, writes-room 0 all b (rw zero-add room) (rest_from strict s at) [] end m as-part)

    pub all_end : length s ≤ at → Puts 0 all b end m
    all_end h = writes_end 0 all b end m (rw (rest-none strict s at h) at w)

    pub all-ended : (x : Going) (last : ℕ) (m' : List ℕ) → x ≡ Ended last → Goes strict s at end m x m' → Puts 0 all b last m'
    all-ended x last m' e g =
        let n : GoesNot strict s at end m last m' = rw e at g in
        let p : Puts end (rest_from strict s at) m last m' = rw n.whole n.puts in
        writes_end 0 all b last m' (writes-next 0 all b (rw zero-add room) (rest_from strict s at) [] end m as-part last m' p)

    module _ (x : Going) (next last : ℕ) (m' : List ℕ) (e : x ≡ On next last) (g : Goes strict s at end m x m') where
      on : GoesOn strict s at end m next last m'
      on = rw e at g

      pub all-on : Writes 0 all b (rest_from strict s next) last m'
      all-on = writes-next 0 all b (rw zero-add room) (next_line strict s at) (rest_from strict s next) end m (rw on.split at w) last m' on.puts

pub ruleset going_all = (all_start, all-length, all-kept, line-room, all_end, all-ended, all-on, rules)

pub ruleset Going-less = (goes-less, rules)

-- ---- put_dump

module _ (strict : Bool) (s : List ℕ) (n : ℕ) (all_of : n ≡ length s) (x : Result Stream Refusal)
    (is : x ≡ begun (stream_rules n (stream_header s 0)) (stream_of 0 (stream_header s 0))) (b : List ℕ) where
  module _ (r : Refusal) (e : x ≡ Err r) where
    error-is : text_of (dump_of strict s) ≡ ending_text (refused r)
    unfolding text_of lines_of
    error-is = rw (begins-bad strict s n all_of x is r e)

    pub error-room : length (text_of (dump_of strict s)) ≤ length b → 0 + length (ending_text (refused r)) ≤ length b
    error-room h = rw zero-add (rw error-is at h)

    pub error-put : (end : ℕ) (m : List ℕ) → Puts 0 (ending_text (refused r)) b end m → PutsDump strict s b end m
    error-put end m p =
        record {
          puts = rw error-is p;
          small = omega (arith, p.place, error-bound r);
        }

  module _ (st : Stream) (e : x ≡ Ok st) (size : ℕ) (z : size ≡ st.size) where
    pub part-inside : size ≤ length s
    part-inside = size-inside strict s n all_of x is st e size z

    pub part-there : size ≡ length (take size s)
    part-there = size-there strict s n all_of x is st e size z

    good-is : text_of (dump_of strict s) ≡ rest_from strict (take size s) stream_header_size
    unfolding rest_from
    good-is = ap text_of (begins-good strict s n all_of x is st e size z)

    pub good-room : length (text_of (dump_of strict s)) ≤ length b → length (rest_from strict (take size s) stream_header_size) ≤ length b
    good-room h = rw good-is at h

pub good-put : (strict : Bool) (s : List ℕ) (size end : ℕ) (b m : List ℕ) → Puts 0 (rest_from strict (take size s) stream_header_size) b end m
    → (st : Stream) → size ≡ st.size → st.size < 4294967296 → (x : Result Stream Refusal) → x ≡ Ok st → (n : ℕ) → x ≡ begun (stream_rules n (stream_header s 0)) (stream_of 0 (stream_header s 0)) → n ≡ length s
    → PutsDump strict s b end m
good-put strict s size end b m p st z few x e n is all_of =
    record {
      puts = rw (good-is strict s n all_of x is b st e size z) p;
      small = omega (arith, p.place, rest-small strict s size (rw z few));
    }

pub ruleset going_dump = (error-room, error-put, part-inside, part-there, good-room, rules)

-- ---- list_dump

module _ (strict : Bool) (s b : List ℕ) (t : Bool) (tells : t ≡ fits (text_of (dump_of strict s)) (length b)) where
  abbrev text : List ℕ
  text = text_of (dump_of strict s)

  by_test : (u : Bool) → not u ≡ true → u ≡ false
  by_test true e = absurd (let z : ◌≡◌ {A = ℕ} 0 1 = cc in omega arith)
  by_test false e = refl

  by-not : (u : Bool) → not u ≡ false → u ≡ true
  by-not true e = refl
  by-not false e = absurd (let z : ◌≡◌ {A = ℕ} 0 1 = cc in omega arith)

  module _ (h : not t ≡ false) where
    enough : ltb (length b) (length text) ≡ false
    unfolding fits
    enough = by_test (ltb (length b) (length text)) (sym tells ∙ by-not t h)

    pub text-room : length (text_of (dump_of strict s)) ≤ length b
    text-room = ltb-false (length b) (length text) enough

    pub dumps-text : (end long : ℕ) (m : List ℕ) → PutsDump strict s b end m → long ≡ end → Dumps strict s b (Ok long) m
    unfolding call_dump
    dumps-text end long m p e =
        let k : long ≡ length text = e ∙ (p.puts.place ∙ zero-add (length text)) in
        record {
          dumps = rw (enough, k, p.puts.is);
          small = rw e p.small;
        }

  pub dumps-none : not t ≡ true → Dumps strict s b (Err TooShort) b
  unfolding call_dump fits
  dumps-none h =
      let short : ltb (length b) (length text) ≡ true = by-not (ltb (length b) (length text)) (sym tells ∙ by_test t h) in
      record {
        dumps = rw short;
        small = omega arith;
      }

pub ruleset listing_dump = (text-room, dumps-text, dumps-none, rules)

-- the answer of a host's call is 0 or 6
pub answer-small : (strict : Bool) (s b : List ℕ) → (call_dump strict s b).answer < 256
unfolding call_dump
answer-small strict s b = by_test (ltb (length b) (length (text_of (dump_of strict s))))
  where
    by_test : (t : Bool) → (pick t (too_short_for b) (record { answer = done; length = length (text_of (dump_of strict s)); buffer = over 0 (text_of (dump_of strict s)) b })).answer < 256
    by_test true = omega arith
    by_test false = omega arith
