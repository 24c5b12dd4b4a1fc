-- Wish 9, "the entry index for 14 and 15, the packet's byte offset in the stream for packet errors, else 0": the numbers that an opening's rules have and
-- those that a packet's rules have. None of them is 14 or 15, which are an entry's. Assumes nothing.
use Rattle.std.specs.Prelude.{◌≡◌, refl, Bool, true, false, ◌&&◌, ◌||◌, List, ℕ, leb, eqb, take, Err, Ok}
use Rattle.std.proofs.Common.{inl, inr}
use native.Mathlib.Omega.{arith}
use Rattle.machine.specs.Machine.{pick}
use Rattle.rules.specs.Numbers.{bad_entry, twice_in_table}
use Rattle.rules.specs.declared.Refusal.{Refusal}
use Rattle.rules.specs.Judging.{error_number, rule, only, ◌▹◌, Verdict}
use Rattle.rules.specs.Layouts.{ring_header, descriptor}
use Rattle.rules.specs.Table.{header_rules}
use Rattle.rules.specs.Stream.{stream_rules, frame_rules, framed, frame_of, packet_of, Frame}
use Rattle.rules.specs.Ring.{good_ring, slot_place, descriptor_rules, range_rules, submission_rules, job_of, opened_of, concluded, submission_opening, ring_opening, opening_of}
use Rattle.rules.specs.Lists.{Found}
use Rattle.rules.specs.Lists.Found.{none, found}
use Rattle.rules.specs.Packets.{Holdings, Outcome, accepted, refused, on_live, on_kind, on_entry, on_texture, on_bound, hand_out, create_hosted, create_backed, create, on_buffer_packet, on_texture_packet, on_destroy_packet, on_dirty_packet, write_back, on_copy_packet, on_target_packet, on_viewport_packet, on_clear_packet, on_scissor_packet, on_export_packet, on_import_packet, on_release_packet, apply, Progress, pass, pass_frame, take_packet}
use Rattle.rules.specs.declared.Entry.{Entry}
use Rattle.rules.specs.declared.Resource.{Resource}
use Rattle.rules.specs.declared.Shape.{Shape}
use Rattle.rules.specs.declared.Token.{Token}
use Rattle.rules.specs.declared.Packet.{Packet}
use Rattle.rules.specs.declared.Packet.TheVariants.{Buffer, Texture, Destroy, Dirty, Copy, Target, Viewport, Scissor, Clear, Export, Import, Release, NotANumber, Unknown}
use Rattle.rules.specs.declared.Kind.{Kind}
use Rattle.rules.specs.declared.Kind.TheVariants.{Buffer as BufferKind, Texture as TextureKind}
use Rattle.rules.specs.declared.Record.{Record}
use Rattle.rules.specs.declared.CopyBuffer.{CopyBuffer}
use Rattle.rules.specs.declared.Job.{Job}
use Rattle.rules.specs.declared.Opened.{Opened}
use Rattle.rules.specs.declared.Descriptor.{Descriptor}
use Rattle.rules.specs.declared.RingHeader.{RingHeader}
use Rattle.rules.specs.declared.TableHeader.{TableHeader}
use Rattle.rules.specs.declared.StreamHeader.{StreamHeader}
use Rattle.rules.specs.declared.Opening.TheVariants.{BadRing, NoWork}
use Rattle.rules.specs.declared.Refusal.TheVariants.{BadHandle, NotInTable, UnboundToken}
use Rattle.rule_laws.specs.RuleNumbers.{EntryRule, Numbered, NumberedFrame, NumberedOpening, NumberedOutcome, OfOpening, opening_number, packet_number}

-- neither is an entry's
pub opening-number-is-no-entrys : (n : ℕ) → opening_number n ≡ true → EntryRule n → ⊥
opening-number-is-no-entrys n h (inl e) = let w : opening_number bad_entry ≡ true = rw e at h in let z : ◌≡◌ {A = ℕ} 0 1 = cc in omega arith
opening-number-is-no-entrys n h (inr e) = let w : opening_number twice_in_table ≡ true = rw e at h in let z : ◌≡◌ {A = ℕ} 0 1 = cc in omega arith

pub packet-number-is-no-entrys : (n : ℕ) → packet_number n ≡ true → EntryRule n → ⊥
packet-number-is-no-entrys n h (inl e) = let w : packet_number bad_entry ≡ true = rw e at h in let z : ◌≡◌ {A = ℕ} 0 1 = cc in omega arith
packet-number-is-no-entrys n h (inr e) = let w : packet_number twice_in_table ≡ true = rw e at h in let z : ◌≡◌ {A = ℕ} 0 1 = cc in omega arith

-- ---- an opening's rules, one after the other

rule-numbered : (n : Refusal) (t : Bool) → opening_number (error_number n) ≡ true → OfOpening (rule n t)
rule-numbered n true l = l
rule-numbered n false l = omega arith

then-numbered : (a b : Verdict) → OfOpening a → OfOpening b → OfOpening (a ▹ b)
then-numbered (Ok _) b k l = l
then-numbered (Err r) b k l = k

only-numbered : (t : Bool) (v : Verdict) → OfOpening v → OfOpening (only t v)
only-numbered true v l = l
only-numbered false v l = omega arith

ruleset numbering = (rule-numbered, then-numbered, only-numbered)

table-numbered : (tablesize : ℕ) (h : TableHeader) → OfOpening (header_rules tablesize h)
unfolding header_rules
table-numbered tablesize h = search numbering depth 12

stream-numbered : (cmdsize : ℕ) (h : StreamHeader) → OfOpening (stream_rules cmdsize h)
unfolding stream_rules
stream-numbered cmdsize h = search numbering

descriptor-numbered : (stride : ℕ) (d : Descriptor) → OfOpening (descriptor_rules stride d)
unfolding descriptor_rules
descriptor-numbered stride d = search numbering depth 12

range-numbered : (memory : ℕ) (d : Descriptor) → OfOpening (range_rules memory d)
unfolding range_rules
range-numbered memory d = search numbering depth 12

submission-numbered : (m : List ℕ) (stride : ℕ) (d : Descriptor) → OfOpening (submission_rules m stride d)
unfolding submission_rules
submission-numbered m stride d = search (numbering, descriptor-numbered, range-numbered, table-numbered, stream-numbered) depth 12

concluded-numbered : (v : Verdict) (j : Job) (o : Opened) → OfOpening v → NumberedOpening (concluded v j o)
concluded-numbered (Ok _) j o l = l
concluded-numbered (Err r) j o l = l

submission-opening-numbered : (m : List ℕ) (stride : ℕ) (j : Job) (d : Descriptor) → NumberedOpening (submission_opening m stride j d)
unfolding submission_opening
submission-opening-numbered m stride j d = concluded-numbered (submission_rules m stride d) j (opened_of m j d) (submission-numbered m stride d)

ring-opening-numbered : (m : List ℕ) (ring : ℕ) (h : RingHeader) → NumberedOpening (ring_opening m ring h)
unfolding ring_opening
ring-opening-numbered m ring h = by_test (eqb h.head h.tail)
  where
    here : Descriptor
    here = descriptor m (slot_place ring h)

    by_test : (b : Bool) → NumberedOpening (pick b NoWork (submission_opening m h.stride (job_of ring h here) here))
    by_test true = omega arith
    by_test false = submission-opening-numbered m h.stride (job_of ring h here) here

pub opening-numbered : (m : List ℕ) (ring size : ℕ) → NumberedOpening (opening_of m ring size)
unfolding opening_of
opening-numbered m ring size = by_test (good_ring m ring size)
  where
    by_test : (b : Bool) → NumberedOpening (pick b (ring_opening m ring (ring_header m ring)) BadRing)
    by_test true = ring-opening-numbered m ring (ring_header m ring)
    by_test false = omega arith

-- ---- a packet's frame

framing-numbered : (n : Refusal) (t : Bool) → packet_number (error_number n) ≡ true → Numbered (rule n t)
framing-numbered n true l = l
framing-numbered n false l = omega arith

further-numbered : (a b : Verdict) → Numbered a → Numbered b → Numbered (a ▹ b)
further-numbered (Ok _) b k l = l
further-numbered (Err r) b k l = k

frame-numbered : (b : List ℕ) → Numbered (frame_rules b)
unfolding frame_rules
frame-numbered b = search (framing-numbered, further-numbered) depth 12

pub frame-of-numbered : (b : List ℕ) → NumberedFrame (frame_of b)
unfolding frame_of
frame-of-numbered b = by-verdict (frame_rules b) (frame-numbered b) _ _
  where
    by-verdict : (v : Verdict) → Numbered v → (op size : ℕ) → NumberedFrame (framed v op size)
    by-verdict (Ok _) l op size = omega arith
    by-verdict (Err r) l op size = l

-- ---- a packet

module _ (h : Holdings) where
  accepted-numbered : (g : Holdings) → NumberedOutcome (accepted g)
  unfolding NumberedOutcome
  accepted-numbered g = omega arith

  refused-numbered : (n : Refusal) → packet_number (error_number n) ≡ true → NumberedOutcome (refused n h)
  unfolding NumberedOutcome
  refused-numbered n l = l

  pick-numbered : (t : Bool) (x y : Outcome) → NumberedOutcome x → NumberedOutcome y → NumberedOutcome (pick t x y)
  pick-numbered true x y k l = k
  pick-numbered false x y k l = l

  live-numbered : (f : Found Resource) (later : Resource → Outcome) → ((r : Resource) → NumberedOutcome (later r)) → NumberedOutcome (on_live f h later)
  live-numbered none later l = refused-numbered BadHandle refl
  live-numbered (found r) later l = l r

  kind-numbered : (k : Kind) (later : Outcome) → NumberedOutcome later → NumberedOutcome (on_kind k h later)
  kind-numbered BufferKind later l = l
  kind-numbered (TextureKind s) later l = refused-numbered BadHandle refl

  entry-or-numbered : (f : Found Entry) (later : Entry → Outcome) → ((e : Entry) → NumberedOutcome (later e)) → NumberedOutcome (on_entry f h later)
  entry-or-numbered none later l = refused-numbered NotInTable refl
  entry-or-numbered (found e) later l = l e

  texture-numbered : (n : Refusal) (f : Found Shape) (later : Shape → Outcome) → packet_number (error_number n) ≡ true → ((s : Shape) → NumberedOutcome (later s)) → NumberedOutcome (on_texture n f h later)
  texture-numbered n none later k l = refused-numbered n k
  texture-numbered n (found s) later k l = l s

  bound-numbered : (f : Found Resource) (later : Resource → Outcome) → ((r : Resource) → NumberedOutcome (later r)) → NumberedOutcome (on_bound f h later)
  bound-numbered none later l = refused-numbered UnboundToken refl
  bound-numbered (found r) later l = l r

ruleset outcomes = (accepted-numbered, refused-numbered, pick-numbered, live-numbered, kind-numbered, entry-or-numbered, texture-numbered, bound-numbered)

hand-out-numbered : (c : Record) (h : Holdings) → NumberedOutcome (hand_out c h)
unfolding hand_out
hand-out-numbered c h = search outcomes depth 12

create-numbered : (es : List Entry) (h : Holdings) (good : Bool) (r : Resource) → NumberedOutcome (create es h good r)
unfolding create create_backed create_hosted
create-numbered es h good r = search outcomes depth 20

write-back-numbered : (es : List Entry) (h : Holdings) (c : CopyBuffer) (r : Resource) → NumberedOutcome (write_back es h c r)
unfolding write_back
write-back-numbered es h c r = search (outcomes, hand-out-numbered) depth 20

copy-numbered : (es : List Entry) (h : Holdings) (c : CopyBuffer) → NumberedOutcome (on_copy_packet es h c)
unfolding on_copy_packet
copy-numbered es h c = search (outcomes, write-back-numbered) depth 20

apply-numbered : (es : List Entry) (target : ℕ) (ts : List Token) (h : Holdings) (p : Packet) → NumberedOutcome (apply es target ts h p)
unfolding apply on_buffer_packet on_texture_packet on_destroy_packet on_dirty_packet on_target_packet on_viewport_packet on_clear_packet on_scissor_packet on_export_packet on_import_packet on_release_packet
apply-numbered es target ts h (Buffer c) = search create-numbered
apply-numbered es target ts h (Texture c) = search create-numbered
apply-numbered es target ts h (Destroy c) = search outcomes depth 20
apply-numbered es target ts h (Dirty c) = search (outcomes, hand-out-numbered) depth 20
apply-numbered es target ts h (Copy c) = copy-numbered es h c
apply-numbered es target ts h (Target c) = search outcomes depth 20
apply-numbered es target ts h (Viewport v) = search outcomes depth 20
apply-numbered es target ts h (Scissor c) = search outcomes depth 20
apply-numbered es target ts h (Clear c) = search outcomes depth 20
apply-numbered es target ts h (Export c) = search outcomes depth 20
apply-numbered es target ts h (Import c) = search outcomes depth 20
apply-numbered es target ts h (Release c) = search outcomes depth 20
apply-numbered es target ts h NotANumber = search outcomes
apply-numbered es target ts h Unknown = search outcomes

-- a packet, whatever is held
pub pass-numbered : (es : List Entry) (h : Progress) (p : Packet) → Numbered (pass es h p).verdict
unfolding pass NumberedOutcome
pass-numbered es h p = apply-numbered es h.target h.tokens h.holdings p

-- a packet's step
pub take-packet-numbered : (es : List Entry) (h : Progress) (b : List ℕ) → Numbered (take_packet es h b).verdict
unfolding take_packet
take-packet-numbered es h b = by_frame (frame_of b) (frame-of-numbered b)
  where
    by_frame : (f : Frame) → NumberedFrame f → Numbered (pass_frame es h b f).verdict
    by_frame (Ok (op, size)) l = pass-numbered es h (packet_of op (take size b))
    by_frame (Err r) l = l
