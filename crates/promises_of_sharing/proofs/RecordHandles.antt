-- The theorems of specs/RecordHandles.antt, and what they rest on. Assumes nothing.
use Rattle.std.specs.Prelude.{◌≡◌, refl, Bool, true, false, not, ◌||◌, List, [], ◌∷◌, ℕ, ◌+◌, ◌%◌, eqb, ltb}
use Rattle.std.proofs.Common.{sym, append-nil, arith}
use Rattle.machine.specs.Machine.{pick}
use Rattle.rules.specs.Numbers.{clips, backs, reads, writes}
use Rattle.rules.specs.Lists.{Found, pushed}
use Rattle.rules.specs.Lists.Found.{none, found}
use Rattle.rules.specs.StatePackets.{bad_viewport, bad_clear, clip_of}
use Rattle.rules.specs.Table.{matching}
use Rattle.rules.specs.Packets.{Holdings, Outcome, accepted, refused, refuse, full, handle_of, live, is_live, on_live, on_kind, on_buffer, on_entry, backed, range_of, recorded, hand_out, stored, create_hosted, create_backed, create, on_buffer_packet, on_texture_packet, on_dirty_packet, write_back, on_copy_packet, on_viewport_packet, on_clear_packet, apply, Progress, pass}
use Rattle.rules.specs.declared.Entry.{Entry}
use Rattle.rules.specs.declared.Kind.{Kind}
use Rattle.rules.specs.declared.Kind.TheVariants.{Buffer as BufferKind, Texture as TextureKind}
use Rattle.rules.specs.declared.Record.{Record}
use Rattle.rules.specs.declared.Resource.{Resource}
use Rattle.rules.specs.declared.CopyBuffer.{CopyBuffer}
use Rattle.rules.specs.declared.DirtyRange.{DirtyRange}
use Rattle.rules.specs.declared.Packet.{Packet}
use Rattle.rules.specs.declared.Packet.TheVariants.{Buffer, Texture, Destroy, Dirty, Copy, Target, Viewport, Scissor, Clear, Export, Import, Release, NotANumber, Unknown}
use Rattle.rules.specs.declared.Refusal.TheVariants.{BadHandle, TooMany, BadShape, PastEntry, ReadOnly, PastResource, HostBacked, BadCopy, BadState}
use Rattle.promises_of_packets.specs.Names.{found-key}
use Rattle.promises_of_packets.specs.Effects.{live-or, destroy-or, target-or, scissor-or, export-or, import-or, release-or}
use Rattle.promises_of_packets.specs.Held.{Every, every-none, clip-kind}
use Rattle.promises_of_sharing.specs.RecordHandles.{Adds, AddsUnderItsHandle, HasHandleOf}
use Rattle.rules.specs.declared.Refusal.{Refusal}

module _ (p : Packet) (h : Holdings) where
  none-added : AddsUnderItsHandle p h.records h.records
  none-added = record { added = []; are = sym (append-nil h.records); its-handle = every-none _ }

  one-added : (r : Record) → ((r.kind ≡ clips → ⊥) → HasHandleOf p r) → AddsUnderItsHandle p h.records (pushed h.records r)
  unfolding Every
  one-added r has = record { added = r ∷ []; are = refl; its-handle = (has, omega arith) }

  -- ---- rules, one by one

  either : (t : Bool) (x y : Outcome) → (Adds p h) x → (Adds p h) y → (Adds p h) (pick t x y)
  either true x y a b = a
  either false x y a b = b

  unless : (n : Refusal) (t : Bool) (later : Outcome) → (Adds p h) later → (Adds p h) (refuse n t h later)
  unless n t later a = either t (refused n h) later none-added a

  on-any-entry : (f : Found Entry) (later : Entry → Outcome) → ((e : Entry) → (Adds p h) (later e)) → (Adds p h) (on_entry f h later)
  on-any-entry none later a = none-added
  on-any-entry (found e) later a = a e

  on-any-kind : (k : Kind) (later : Outcome) → (Adds p h) later → (Adds p h) (on_kind k h later)
  on-any-kind BufferKind later a = a
  on-any-kind (TextureKind s) later a = none-added

  -- the row that a handle finds has that handle
  on-its-row : (k : ℕ) (later : Resource → Outcome) → ((r : Resource) → r.handle ≡ k → (Adds p h) (later r)) → (Adds p h) (on_live (live k h) h later)
  on-its-row k later a = live-or (Adds p h) h (λ _. none-added) (live k h) later (λ r e. a r (found-key handle_of k h.resources r e))

  on-its-buffer : (k : ℕ) (later : Resource → Outcome) → ((r : Resource) → r.handle ≡ k → (Adds p h) (later r)) → (Adds p h) (on_buffer (live k h) h later)
  on-its-buffer k later a = on-its-row k (λ r. on_kind r.kind h (later r)) (λ r e. on-any-kind r.kind (later r) (a r e))

  handed : (r : Record) → ((r.kind ≡ clips → ⊥) → HasHandleOf p r) → (Adds p h) (hand_out r h)
  unfolding hand_out
  handed r has = either (eqb r.length 0) (accepted h) _ none-added (unless TooMany (full h.records) (accepted (recorded r h)) (one-added r has))

  -- ---- create

  created : (es : List Entry) (good : Bool) (r : Resource) → ((e : Entry) → HasHandleOf p (range_of backs r e 0 r.bytes)) → (Adds p h) (create es h good r)
  unfolding create create_backed create_hosted
  created es good r has =
      unless BadHandle (eqb r.handle 0 || is_live (live r.handle h)) _
      (unless BadShape (not good) _
      (either (backed r.backing) _ _
      (on-any-entry (matching r.backing es) _ (λ e.
      unless PastEntry (ltb e.size (r.offset + r.bytes)) _
      (unless TooMany (full h.resources) _
      (unless TooMany (full h.records) _ (one-added (range_of backs r e 0 r.bytes) (λ _. has e))))))
      (unless TooMany (full h.resources) (accepted (stored r h)) none-added)))

-- ---- dirty and copy

dirty-adds : (es : List Entry) (h : Holdings) (c : DirtyRange) → Adds (Dirty c) h (on_dirty_packet es h c)
unfolding on_dirty_packet
dirty-adds es h c =
    on-its-row (Dirty c) h c.handle _ (λ r is.
    unless (Dirty c) h HostBacked (not (backed r.backing)) _
    (unless (Dirty c) h PastResource (ltb r.bytes (c.offset + c.size)) _
    (on-any-entry (Dirty c) h (matching r.backing es) _ (λ e.
    unless (Dirty c) h PastEntry (ltb e.size (r.offset + (c.offset + c.size))) _
    (handed (Dirty c) h (range_of reads r e c.offset c.size) (λ _. is))))))

copy-adds : (es : List Entry) (h : Holdings) (c : CopyBuffer) → Adds (Copy c) h (on_copy_packet es h c)
unfolding on_copy_packet write_back
copy-adds es h c =
    on-its-buffer (Copy c) h c.dst _ (λ d is.
    on-its-buffer (Copy c) h c.src _ (λ s _.
    unless (Copy c) h BadCopy (eqb c.dst c.src || ltb 1 c.flags) _
    (unless (Copy c) h PastResource (ltb d.bytes (c.dstoffset + c.size)) _
    (unless (Copy c) h PastResource (ltb s.bytes (c.srcoffset + c.size)) _
    (either (Copy c) h (eqb c.flags 1) _ _
    (unless (Copy c) h HostBacked (not (backed d.backing)) _
    (on-any-entry (Copy c) h (matching d.backing es) _ (λ e.
    unless (Copy c) h PastEntry (ltb e.size (d.offset + (c.dstoffset + c.size))) _
    (unless (Copy c) h ReadOnly (eqb (e.flags % 2) 1) _
    (handed (Copy c) h (range_of writes d e c.dstoffset c.size) (λ _. is))))))
    (none-added (Copy c) h))))))

-- ---- whatever the packet

pub ranges-carry-the-packets-handle : (es : List Entry) (h : Progress) (p : Packet)
    → AddsUnderItsHandle p h.holdings.records (pass es h p).held.holdings.records
unfolding pass apply on_buffer_packet on_texture_packet on_viewport_packet on_clear_packet
ranges-carry-the-packets-handle es h (Buffer c) = created (Buffer c) h.holdings es _ _ (λ e. refl)
ranges-carry-the-packets-handle es h (Texture c) = created (Texture c) h.holdings es _ _ (λ e. refl)
ranges-carry-the-packets-handle es h (Destroy c) =
    destroy-or (Adds (Destroy c) h.holdings) h.holdings (λ _. none-added (Destroy c) h.holdings) c (λ r e. none-added (Destroy c) h.holdings)
ranges-carry-the-packets-handle es h (Dirty c) = dirty-adds es h.holdings c
ranges-carry-the-packets-handle es h (Copy c) = copy-adds es h.holdings c
ranges-carry-the-packets-handle es h (Target c) =
    target-or (Adds (Target c) h.holdings) h.holdings (λ _. none-added (Target c) h.holdings) c (λ s e. none-added (Target c) h.holdings)
ranges-carry-the-packets-handle es h (Viewport v) =
    unless (Viewport v) h.holdings BadState (bad_viewport v) (accepted h.holdings) (none-added (Viewport v) h.holdings)
-- a clipped rectangle is no range
ranges-carry-the-packets-handle es h (Scissor c) =
    scissor-or (Adds (Scissor c) h.holdings) h.holdings (λ _. none-added (Scissor c) h.holdings) h.target c
    (λ s e. one-added (Scissor c) h.holdings (clip_of s c) (λ other. absurd (other (clip-kind s c))))
ranges-carry-the-packets-handle es h (Clear c) =
    unless (Clear c) h.holdings BadState (bad_clear c) (accepted h.holdings) (none-added (Clear c) h.holdings)
ranges-carry-the-packets-handle es h (Export c) =
    export-or (Adds (Export c) h.holdings) h (λ _. none-added (Export c) h.holdings) c (λ r e. none-added (Export c) h.holdings)
ranges-carry-the-packets-handle es h (Import c) =
    import-or (Adds (Import c) h.holdings) h.holdings (λ _. none-added (Import c) h.holdings) h.tokens c
    (λ r some unused e room. none-added (Import c) h.holdings)
ranges-carry-the-packets-handle es h (Release c) =
    release-or (Adds (Release c) h.holdings) h.holdings (λ _. none-added (Release c) h.holdings) h.tokens c
    (λ r e. none-added (Release c) h.holdings)
ranges-carry-the-packets-handle es h NotANumber = none-added NotANumber h.holdings
ranges-carry-the-packets-handle es h Unknown = none-added Unknown h.holdings
