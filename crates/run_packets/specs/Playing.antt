-- The phase of packets as a machine over the place and what is held; and what its code asks. Assumes nothing.
use Rattle.std.proofs.Math.Path.{◌≡◌, refl}
use Rattle.std.proofs.Common.{ap, ◌∙◌, rules, length-drop, Fits}
use Rattle.std.specs.Prelude.{Bool, List, [], ℕ, ◌+◌, ◌-◌, ◌^◌, ◌≤◌, ◌<◌, length, drop, Err, None, Ok, Option, Result, Some}
use native.Mathlib.Omega.{arith}
use borrow.Author.Tests.{lt-ltb}
use Rattle.std.specs.Int.{w64}
use Rattle.machine.specs.Machine.{Out, spent, run_while, loop-start, loop-out}
use Rattle.rules.specs.Stream.{frame_of}
use Rattle.rules.specs.Packets.{Progress, Passed, apply, target_after, tokens_after, pass, take_packet}
use Rattle.rules.specs.Steps.{next_place}
use Rattle.rules.specs.declared.Entry.{Entry}
use Rattle.rules.specs.declared.Packet.{Packet}
use Rattle.rules.specs.declared.Token.{Token}
use Rattle.rules.specs.declared.Refusal.{Refusal}
use Rattle.kept_entries.specs.Views.{entries_of}
use Rattle.stream_packets.specs.Framing.{FrameFits, frame-sound, packet_read_at, WasWhole, was-whole, was-misframed, Passed as PassedOver}
use Rattle.packet_ranges.specs.Views.{RowsExist}
use Rattle.packet_apply.specs.Apply.{Takes, Changes, IsLeft, unbroken}
use Rattle.packet_apply.specs.declared.apply.Taken.{Taken}
use Rattle.packet_apply.specs.declared.apply.Taken.TheVariants.{Plain, Unknown as NotKnown, Left as IsLeftBy}
use Rattle.packet_held.specs.Held.{held_of, packet_of}
use Rattle.packet_held.specs.declared.held.Changed.{Changed}
use Rattle.packet_held.specs.declared.held.Held.{Held}
use Rattle.packet_held.specs.declared.held.SharedPacket.{SharedPacket}
use Rattle.run_entries.specs.Ending.{onward, ending_at, goes, ends, phase-on, phase-left}
use Rattle.run_entries.specs.declared.ending.Ending.{Ending}
use Rattle.run_entries.specs.declared.ending.Ending.TheVariants.{Going, Done, Broken, Left as AtLeft}
use Rattle.run_packets.specs.declared.PacketsPlace.{PacketsPlace}
use Rattle.run_packets.specs.declared.PacketsRun.{PacketsRun}
use Rattle.run_packets.specs.declared.Left.{Left}
use Rattle.run_packets.specs.declared.Skipped.{Skipped}
use Rattle.rules.specs.Judging.{Verdict}

pub record Playing : Type 0 where
  pub at : ℕ
  pub held : Progress
  pub ending : Ending

abbrev pub playing_goes : Playing → Bool
playing_goes s = onward s.ending

abbrev pub play_on : ℕ → ℕ → ℕ → Progress → Verdict → Playing
play_on at next end h (Ok _) = record { at = next; held = h; ending = ending_at next end }
play_on at next end h (Err r) = record { at = at; held = h; ending = Broken r }

-- the packet at the place, of the stream's bytes
unfoldable pub play_step : List Entry → List ℕ → ℕ → Playing → Playing
play_step es b end s =
    play_on s.at (next_place s.at (drop s.at b)) end (take_packet es s.held (drop s.at b)).held (take_packet es s.held (drop s.at b)).verdict

-- ---- views

-- the rows that packets without tokens read and write: entries, the device's resources, the submission's own, records
pub record PacketTables : Type 0 where
  pub entries : List ℕ
  pub resources : List ℕ
  pub own : List ℕ
  pub records : List ℕ

abbrev pub packet_tables : List ℕ → List ℕ → List ℕ → List ℕ → PacketTables
packet_tables e r l c = record { entries = e; resources = r; own = l; records = c }

-- the place, with what is held by these rows and these tokens
abbrev pub playing : PacketsPlace → PacketTables → List Token → Playing
playing p t ts = record { at = p.at; held = held_of p.held t.resources t.own t.records ts; ending = p.ending }

-- what a packet comes to, by its place and that of the next one, and what is held before it
abbrev pub packet_step : List Entry → ℕ → ℕ → ℕ → Held → Packet → PacketTables → List Token → Playing
packet_step es end at next h k t ts =
    play_on at next end (pass es (held_of h t.resources t.own t.records ts) k).held (pass es (held_of h t.resources t.own t.records ts) k).verdict

-- the same of a packet that is left
abbrev pub shared_step : List Entry → ℕ → PacketsPlace → Left → PacketTables → List Token → Playing
shared_step es end p y t ts = packet_step es end p.at y.next p.held (packet_of y.packet) t ts

-- the stream's end, the entries kept and the tables, the places of the packet and of the next one, what is held and the packet; the place, what is left
-- and the tables after: it is done, or it is the packet that is left; nothing is left where the phase goes on
pub record PacketTook (end n : ℕ) (t : PacketTables) (at next : ℕ) (h : Held) (k : Packet) (q : PacketsPlace) (x : Option Left) (t' : PacketTables) : Type 0 where
  pub step : x ≡ None → (ts : List Token) → playing q t' ts ≡ packet_step (entries_of n t.entries) end at next h k t ts
  pub left : (y : Left) → x ≡ Some y → (ts : List Token) → shared_step (entries_of n t.entries) end q y t' ts ≡ packet_step (entries_of n t.entries) end at next h k t ts
  pub alone : q.ending ≡ Going → x ≡ None
  pub room : RowsExist n q.held.live q.held.made

-- the stream's bytes and its end, the entries kept, the tables and the place before; the place, what is left and the tables after: the step is done,
-- or it is that of the packet that is left
pub record PacketStepped (b : List ℕ) (end n : ℕ) (t : PacketTables) (p q : PacketsPlace) (x : Option Left) (t' : PacketTables) : Type 0 where
  pub step : x ≡ None → (ts : List Token) → playing q t' ts ≡ play_step (entries_of n t.entries) b end (playing p t ts)
  pub left : (y : Left) → x ≡ Some y → (ts : List Token) → shared_step (entries_of n t.entries) end q y t' ts ≡ play_step (entries_of n t.entries) b end (playing p t ts)
  pub alone : q.ending ≡ Going → x ≡ None
  pub room : RowsExist n q.held.live q.held.made

-- a run of the allowance is what it says; or it is the units that it says, the last of them the packet's that is left, and a run of the rest
pub record PacketsRan (b : List ℕ) (end n : ℕ) (t : PacketTables) (p : PacketsPlace) (allowance : ℕ) (x : PacketsRun) (t' : PacketTables) : Type 0 where
  pub run : x.left ≡ None → (ts : List Token)
      → record { state = playing x.place t' ts; units = x.units } ≡ run_while playing_goes (play_step (entries_of n t.entries) b end) allowance (playing p t ts)
  pub left : (y : Left) → x.left ≡ Some y → (ts : List Token) → run_while playing_goes (play_step (entries_of n t.entries) b end) allowance (playing p t ts)
      ≡ spent x.units (run_while playing_goes (play_step (entries_of n t.entries) b end) (allowance - x.units) (shared_step (entries_of n t.entries) end x.place y t' ts))
  pub some : (y : Left) → x.left ≡ Some y → (0 < x.units) × (x.units ≤ allowance)
  pub room : RowsExist n x.place.held.live x.place.held.made

-- ---- place_after

abbrev pub place_by : ℕ → ℕ → ℕ → Held → Verdict → PacketsPlace
place_by at next end h (Ok _) = record { at = next; held = h; ending = ending_at next end }
place_by at next end h (Err r) = record { at = at; held = h; ending = Broken r }

unfoldable pub place_after : ℕ → ℕ → ℕ → Changed → PacketsPlace
place_after at next end x = place_by at next end x.held x.verdict

module _ (at next end : ℕ) (x : Changed) where
  pub after-broken : (r : Refusal) → x.verdict ≡ Err r → record { at = at; held = x.held; ending = Broken r } ≡ place_after at next end x
  unfolding place_after
  after-broken r e = rw e

  pub after-fine : (k : Ending) → x.verdict ≡ Ok tt → k ≡ ending_at next end → record { at = next; held = x.held; ending = k } ≡ place_after at next end x
  unfolding place_after
  after-fine k e is = rw (e, is)

pub ruleset going_after = (after-broken, after-fine, rules)

-- the place after a packet is the one that its verdict makes
module _ (at next end : ℕ) (x : Changed) (t : PacketTables) (ts : List Token) where
  pub after-plays : (o : Passed) → x.verdict ≡ o.verdict → held_of x.held t.resources t.own t.records ts ≡ o.held
      → playing (place_after at next end x) t ts ≡ play_on at next end o.held o.verdict
  unfolding place_after
  after-plays o verdict held = rw verdict (by-verdict o.verdict)
    where
      by-verdict : (v : Verdict) → playing (place_by at next end x.held v) t ts ≡ play_on at next end o.held v
      by-verdict (Ok _) = ap (λ (h : Progress). record { at = next; held = h; ending = ending_at next end }) held
      by-verdict (Err r) = ap (λ (h : Progress). record { at = at; held = h; ending = Broken r }) held

  pub after-held : (place_after at next end x).held ≡ x.held
  unfolding place_after
  after-held = by-verdict x.verdict
    where
      by-verdict : (v : Verdict) → (place_by at next end x.held v).held ≡ x.held
      by-verdict (Ok _) = refl
      by-verdict (Err r) = refl

-- ---- take_packet

module _ (end n : ℕ) (e : List ℕ) (at next : ℕ) (h : Held) (k : Packet) (r l c : List ℕ) (x : Taken) (l' c' : List ℕ) (takes : Takes (entries_of n e) h r l c k x l' c')
    (room : RowsExist n h.live h.made) where
  took-done : (y : Changed) → Changes (λ ts. pass (entries_of n e) (held_of h r l c ts) k) r y l' c' → (w : PacketsPlace) → w ≡ place_after at next end y
      → PacketTook end n (packet_tables e r l c) at next h k w None (packet_tables e r l' c')
  took-done y change w is =
      rw is
      (record {
        step = λ d ts. after-plays at next end y (packet_tables e r l' c') ts (pass (entries_of n e) (held_of h r l c ts) k) (change.verdict ts) (change.held ts);
        left = λ z d. absurd (let z : ◌≡◌ {A = ℕ} 0 1 = cc in omega arith);
        alone = λ d. refl;
        room = rw (after-held at next end y (packet_tables e r l' c') []) (record { entries = room.entries; live = change.live; made = change.made });
      })

  pub took-plain : (y : Changed) (w : PacketsPlace) → x ≡ Plain y → w ≡ place_after at next end y
      → PacketTook end n (packet_tables e r l c) at next h k w None (packet_tables e r l' c')
  took-plain y w q is = took-done y (takes.plain y q) w is

  pub took-unknown : (y : Held) (w : PacketsPlace) → x ≡ NotKnown y → w ≡ place_after at next end (unbroken y)
      → PacketTook end n (packet_tables e r l c) at next h k w None (packet_tables e r l' c')
  took-unknown y w q is = took-done (unbroken y) (takes.unknown y q) w is

  pub took-left : (y : Held) (s : SharedPacket) → x ≡ IsLeftBy y s
      → PacketTook end n (packet_tables e r l c) at next h k (record { at = at; held = y; ending = AtLeft }) (Some (record { next = next; packet = s })) (packet_tables e r l' c')
  took-left y s q =
      let was : IsLeft h r l c k y s l' c' = takes.left y s q in
      record {
        step = λ d. absurd (let z : ◌≡◌ {A = ℕ} 0 1 = cc in omega arith);
        left = λ z d ts.
            let same : ◌≡◌ {A = Left} (record { next = next; packet = s }) z = cc in
            rw (← same, was.same ts, was.packet);
        alone = λ d. absurd (let z : ◌≡◌ {A = ℕ} 0 1 = cc in omega arith);
        room = record { entries = room.entries; live = was.live; made = was.made };
      }

pub ruleset taking_packet = (took-plain, took-unknown, took-left, rules)

-- ---- step_packet

module _ (b : List ℕ) (end n : ℕ) (e : List ℕ) (p : PacketsPlace) (r l c : List ℕ) (f : Result (ℕ × Packet) Refusal) (read : f ≡ packet_read_at (drop p.at b)) where
  pub step-misframed : (why : Refusal) → RowsExist n p.held.live p.held.made → f ≡ Err why
      → PacketStepped b end n (packet_tables e r l c) p (record { at = p.at; held = p.held; ending = Broken why }) None (packet_tables e r l c)
  unfolding play_step take_packet
  step-misframed why room q =
      let framed : frame_of (drop p.at b) ≡ Err why = was-misframed (drop p.at b) f read why q in
      record {
        step = λ z ts. rw framed;
        left = λ y z. absurd (let z : ◌≡◌ {A = ℕ} 0 1 = cc in omega arith);
        alone = λ z. refl;
        room = room;
      }

  module _ (size : ℕ) (k : Packet) (q : f ≡ Ok (size, k)) where
    whole : WasWhole (drop p.at b) size k
    whole = was-whole (drop p.at b) f read size k q

    taken : (es : List Entry) (h : Progress) → take_packet es h (drop p.at b) ≡ pass es h k
    unfolding take_packet
    taken es h = rw (whole.frame, ← whole.says)

    pub next_fits : (i : ℕ) → i ≡ size → p.at < 2 ^ 64 → length b < 2 ^ 64 → Fits w64 (p.at + i)
    next_fits i same h g =
        let s : FrameFits (drop p.at b) whole.opcode size = frame-sound (drop p.at b) whole.opcode size whole.frame in
        record { fits = omega (arith, s.inside, s.header, length-drop p.at b) }

    -- the step is what the packet comes to
    packet-steps : (i : ℕ) → i ≡ size → (ts : List Token) → packet_step (entries_of n e) end p.at (p.at + i) p.held k (packet_tables e r l c) ts ≡ play_step (entries_of n e) b end (playing p (packet_tables e r l c) ts)
    unfolding play_step
    packet-steps i same ts = rw (taken (entries_of n e) (held_of p.held r l c ts), whole.frame, same)

    pub step-taken : (i : ℕ) → i ≡ size → (w : PacketsPlace) (x : Option Left) (l' c' : List ℕ) → PacketTook end n (packet_tables e r l c) p.at (p.at + i) p.held k w x (packet_tables e r l' c')
        → PacketStepped b end n (packet_tables e r l c) p w x (packet_tables e r l' c')
    step-taken i same w x l' c' took =
        record { step = λ d ts. took.step d ts ∙ packet-steps i same ts; left = λ y d ts. took.left y d ts ∙ packet-steps i same ts; alone = took.alone; room = took.room }

pub ruleset stepping_packet = (step-misframed, next_fits, step-taken, rules)

-- ---- skip_unknown

abbrev pub playing_at : ℕ → Progress → Playing
playing_at at h = record { at = at; held = h; ending = Going }

-- what was true of a run at the place and the units before is true of it at those after, whatever is held
pub record Skips (b : List ℕ) (bound at u a : ℕ) (x : Skipped) : Type 0 where
  pub least : u ≤ x.units
  pub room : x.units ≤ a
  pub run : (es : List Entry) (end : ℕ) (h : Progress) (o : Out Playing) → bound ≤ end
      → o ≡ spent u (run_while playing_goes (play_step es b end) (a - u) (playing_at at h))
      → o ≡ spent x.units (run_while playing_goes (play_step es b end) (a - x.units) (playing_at x.at h))

module _ (b : List ℕ) (bound at u a : ℕ) where
  pub skips-none : u ≤ a → Skips b bound at u a (record { at = at; units = u })
  skips-none h = record { least = omega arith; room = h; run = λ es end h o le e. e }

  module _ (here room size v : ℕ) (before : Skips b bound at u a (record { at = here; units = v })) (upto : here + room ≡ bound) (passed : PassedOver b here room size)
      (some : size ≡ 0 → ⊥) where
    skip_step : (es : List Entry) (end : ℕ) (h : Progress) → bound ≤ end → playing_at (here + size) h ≡ play_step es b end (playing_at here h)
    unfolding play_step take_packet pass apply target_after tokens_after
    skip_step es end h le =
        let below : size < room = passed.within some in
        rw (passed.whole some, ← (passed.nothing some), lt-ltb (here + size) end (omega arith))

    pub skips-on : v < a → Skips b bound at u a (record { at = here + size; units = v + 1 })
    skips-on more =
        record {
          least = omega (arith, before.least);
          room = omega arith;
          run = λ es end h o le e. phase-on playing_goes (play_step es b end) a v (playing_at here h) o (before.run es end h o le e) more refl (playing_at (here + size) h) (skip_step es end h le);
        }

    pub skips-within : size ≤ room
    skips-within = let below : size < room = passed.within some in omega arith

    pub skips-some : 0 < room - size
    skips-some = let below : size < room = passed.within some in omega arith

    pub skips-upto : here + size + (room - size) ≡ bound
    skips-upto = let below : size < room = passed.within some in omega arith

    pub skips-fits : bound ≤ length b - 7 → length b < 2 ^ 64 → Fits w64 (here + size)
    skips-fits h g = let below : size < room = passed.within some in record { fits = omega arith }

pub ruleset skipping = (skips-none, skips-on, skips-within, skips-some, skips-upto, skips-fits, rules)

-- ---- read_packets

-- a run of the allowance is the units spent so far, and a run of the rest from here, whatever the tokens are
abbrev pub RunsOn : List ℕ → ℕ → List Entry → ℕ → PacketsPlace → PacketTables → ℕ → PacketsPlace → PacketTables → Type 0
RunsOn b end es a p₀ t₀ u p t =
    (ts : List Token) → run_while playing_goes (play_step es b end) a (playing p₀ t₀ ts) ≡ spent u (run_while playing_goes (play_step es b end) (a - u) (playing p t ts))

module _ (b : List ℕ) (end n : ℕ) (e : List ℕ) (p₀ : PacketsPlace) (r l₀ c₀ : List ℕ) (a : ℕ) where
  pub plays-first : RunsOn b end (entries_of n e) a p₀ (packet_tables e r l₀ c₀) 0 p₀ (packet_tables e r l₀ c₀)
  plays-first ts = loop-start playing_goes (play_step (entries_of n e) b end) a (playing p₀ (packet_tables e r l₀ c₀) ts)

  module _ (u : ℕ) (p : PacketsPlace) (l c : List ℕ) (inv : RunsOn b end (entries_of n e) a p₀ (packet_tables e r l₀ c₀) u p (packet_tables e r l c)) where
    pub plays-no-more : a ≤ u → RowsExist n p.held.live p.held.made
        → PacketsRan b end n (packet_tables e r l₀ c₀) p₀ a (record { place = p; units = u; left = None }) (packet_tables e r l c)
    plays-no-more h room =
        record {
          run = λ z ts. loop-out playing_goes (play_step (entries_of n e) b end) a u (playing p (packet_tables e r l c) ts) _ (inv ts) h;
          left = λ y z. absurd (let z : ◌≡◌ {A = ℕ} 0 1 = cc in omega arith);
          some = λ y z. absurd (let z : ◌≡◌ {A = ℕ} 0 1 = cc in omega arith);
          room = room;
        }

    module _ (more : u < a) (here : p.ending ≡ Going) (q : PacketsPlace) (x : Option Left) (l' c' : List ℕ) (s : PacketStepped b end n (packet_tables e r l c) p q x (packet_tables e r l' c')) where
      pub plays-on : q.ending ≡ Going → RunsOn b end (entries_of n e) a p₀ (packet_tables e r l₀ c₀) (u + 1) q (packet_tables e r l' c')
      plays-on z ts =
          phase-on playing_goes (play_step (entries_of n e) b end) a u (playing p (packet_tables e r l c) ts) _ (inv ts) more (goes p.ending here) (playing q (packet_tables e r l' c') ts) (s.step (s.alone z) ts)

      pub plays-to-end : (q.ending ≡ Going → ⊥) → PacketsRan b end n (packet_tables e r l₀ c₀) p₀ a (record { place = q; units = u + 1; left = x }) (packet_tables e r l' c')
      plays-to-end h =
          record {
            run = λ z ts.
                phase-left playing_goes (play_step (entries_of n e) b end) a u (playing p (packet_tables e r l c) ts) _ (inv ts) more (goes p.ending here) (playing q (packet_tables e r l' c') ts) (s.step z ts) (ends q.ending h);
            left = λ y z ts.
                phase-on playing_goes (play_step (entries_of n e) b end) a u (playing p (packet_tables e r l c) ts) _ (inv ts) more (goes p.ending here) (shared_step (entries_of n e) end q y (packet_tables e r l' c') ts) (s.left y z ts);
            some = λ y z. (omega arith, omega arith);
            room = s.room;
          }

      -- and over unknown packets after it
      module _ (going : q.ending ≡ Going) (bound : ℕ) (inner : bound ≤ end) (w : Skipped) (skips : Skips b bound q.at (u + 1) a w) where
        abbrev moved : PacketsPlace
        moved = record { at = w.at; held = q.held; ending = q.ending }

        pub plays-skipped : RunsOn b end (entries_of n e) a p₀ (packet_tables e r l₀ c₀) w.units moved (packet_tables e r l' c')
        plays-skipped ts =
            let held : Progress = held_of q.held r l' c' ts in
            let from : ◌≡◌ {A = Playing} (playing q (packet_tables e r l' c') ts) (playing_at q.at held) = rw going in
            let to : ◌≡◌ {A = Playing} (playing moved (packet_tables e r l' c') ts) (playing_at w.at held) = rw going in
            skips.run (entries_of n e) end held _ inner (plays-on going ts ∙ rw from) ∙ rw to

pub skips-less : (b : List ℕ) (bound at u a : ℕ) (x : Skipped) → u < a → Skips b bound at (u + 1) a x → a - x.units < a - u
skips-less b bound at u a x more skips = omega (arith, skips.least, skips.room)

pub ruleset playing_on = (plays-first, plays-no-more, plays-on, plays-to-end, plays-skipped, skips-less, rules)
