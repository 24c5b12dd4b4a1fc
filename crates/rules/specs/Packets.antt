-- 01, "Packet rules, checked in this order": what each packet does to a submission's resources and records; and by 02, wishes 7 and 5, to its target and its tokens.
use Rattle.std.specs.Prelude.{Bool, true, false, not, ◌&&◌, ◌||◌, List, [], ℕ, ◌+◌, ◌%◌, ltb, leb, eqb, length, take, Err, Ok}
use Rattle.machine.specs.Machine.{pick}
use Rattle.rules.specs.Numbers.{most, most_tokens, no_name, backs, reads, writes}
use Rattle.rules.specs.Lists.{Found, lookup, index_of, pushed, removed}
use Rattle.rules.specs.Lists.Found.{none, found}
use Rattle.rules.specs.Judging.{Verdict}
use Rattle.rules.specs.Names.{token_of, shareable, names_left, tokens_left, names_with, tokens_with, of_another, is_new, with_token, without_token}
use Rattle.rules.specs.Shapes.{good_shape, good_backed, packed_size}
use Rattle.rules.specs.StatePackets.{bad_viewport, bad_clear, bad_sides, clip_of}
use Rattle.rules.specs.Table.{matching}
use Rattle.rules.specs.Stream.{frame_of, packet_of, Frame}
use Rattle.rules.specs.declared.Entry.{Entry}
use Rattle.rules.specs.declared.Shape.{Shape}
use Rattle.rules.specs.declared.CreateBuffer.{CreateBuffer}
use Rattle.rules.specs.declared.CreateTexture.{CreateTexture}
use Rattle.rules.specs.declared.DestroyResource.{DestroyResource}
use Rattle.rules.specs.declared.DirtyRange.{DirtyRange}
use Rattle.rules.specs.declared.CopyBuffer.{CopyBuffer}
use Rattle.rules.specs.declared.SetTarget.{SetTarget}
use Rattle.rules.specs.declared.SetViewport.{SetViewport}
use Rattle.rules.specs.declared.SetScissor.{SetScissor}
use Rattle.rules.specs.declared.ClearValues.{ClearValues}
use Rattle.rules.specs.declared.ExportSurface.{ExportSurface}
use Rattle.rules.specs.declared.ImportSurface.{ImportSurface}
use Rattle.rules.specs.declared.ReleaseToken.{ReleaseToken}
use Rattle.rules.specs.declared.Resource.{Resource}
use Rattle.rules.specs.declared.Token.{Token}
use Rattle.rules.specs.declared.Record.{Record}
use Rattle.rules.specs.declared.Kind.{Kind}
use Rattle.rules.specs.declared.Kind.TheVariants.{Buffer as BufferKind, Texture as TextureKind}
use Rattle.rules.specs.declared.Packet.{Packet}
use Rattle.rules.specs.declared.Packet.TheVariants.{Buffer, Texture, Destroy, Dirty, Copy, Target, Viewport, Scissor, Clear, Export, Import, Release, NotANumber, Unknown}
use Rattle.rules.specs.declared.Refusal.{Refusal}
use Rattle.rules.specs.declared.Refusal.TheVariants.{BadHandle, TooMany, BadShape, NotInTable, PastEntry, ReadOnly, PastResource, HostBacked, BadCopy, BadToken, UnboundToken, BadState}

-- what a submission holds: its resources as its earlier packets left them, and the records they made
pub record Holdings : Type 0 where
  pub resources : List Resource
  pub records : List Record

-- what a packet comes to. One that is refused leaves what was held.
pub record Outcome : Type 0 where
  pub verdict : Verdict
  pub held : Holdings

abbrev pub accepted : Holdings → Outcome
accepted h = record { verdict = Ok tt; held = h }

abbrev pub refused : Refusal → Holdings → Outcome
refused n h = record { verdict = Err n; held = h }

-- the rule with number n, and then those after it
abbrev pub refuse : Refusal → Bool → Holdings → Outcome → Outcome
refuse n broken h later = pick broken (refused n h) later

-- "if 64 resources are live", which "now counts names" (02, wish 5); "if 64 records exist"
abbrev pub full : {A : Type 0} → List A → Bool
full xs = leb most (length xs)

-- ---- resources by handle, entries by id

abbrev pub handle_of : Resource → ℕ
handle_of r = r.handle

abbrev pub live : ℕ → Holdings → Found Resource
live k h = lookup handle_of k h.resources

abbrev pub is_live : Found Resource → Bool
is_live none = false
is_live (found r) = true

-- 18, unless the handle is live
abbrev pub on_live : Found Resource → Holdings → (Resource → Outcome) → Outcome
on_live none h later = refused BadHandle h
on_live (found r) h later = later r

abbrev pub on_kind : Kind → Holdings → Outcome → Outcome
on_kind BufferKind h later = later
on_kind (TextureKind s) h later = refused BadHandle h

-- 18, unless the handle is a live buffer's
abbrev pub on_buffer : Found Resource → Holdings → (Resource → Outcome) → Outcome
on_buffer f h later = on_live f h (λ r. on_kind r.kind h (later r))

-- "21 id not in the table (or no table)"
abbrev pub on_entry : Found Entry → Holdings → (Entry → Outcome) → Outcome
on_entry none h later = refused NotInTable h
on_entry (found e) h later = later e

abbrev pub backed : ℕ → Bool
backed id = not (eqb id 0)

-- ---- records

-- a range of a resource, `from` bytes into it, within its entry: the backing offset is added
abbrev pub range_of : ℕ → Resource → Entry → ℕ → ℕ → Record
range_of kind r e from size =
    record { kind = kind; handle = r.handle; id = r.backing; gpa = e.gpa + (r.offset + from); length = size }

abbrev pub recorded : Record → Holdings → Holdings
recorded c h = record { resources = h.resources; records = pushed h.records c }

-- "19 records", and the record. "Dirty and copy of size 0 are put to every check except 19 and make no record."
unfoldable pub hand_out : Record → Holdings → Outcome
hand_out c h = pick (eqb c.length 0) (accepted h) (refuse TooMany (full h.records) h (accepted (recorded c h)))

-- ---- create

abbrev pub stored : Resource → Holdings → Holdings
stored r h = record { resources = pushed h.resources r; records = h.records }

-- "19 if 64 resources are live"
unfoldable pub create_hosted : Holdings → Resource → Outcome
create_hosted h r = refuse TooMany (full h.resources) h (accepted (stored r h))

-- "21 .., 22 backing offset + bytes above the entry's size; 19 if 64 resources are live; backed only: 19 if 64 records exist. Record kind 1."
unfoldable pub create_backed : List Entry → Holdings → Resource → Outcome
create_backed es h r =
    on_entry (matching r.backing es) h (λ e.
    refuse PastEntry (ltb e.size (r.offset + r.bytes)) h
    (refuse TooMany (full h.resources) h
    (refuse TooMany (full h.records) h
    (accepted (recorded (range_of backs r e 0 r.bytes) (stored r h))))))

-- "Create: 18 handle 0 or live; 20 bad shape; if backing id is non-zero: .."
unfoldable pub create : List Entry → Holdings → Bool → Resource → Outcome
create es h good r =
    refuse BadHandle (eqb r.handle 0 || is_live (live r.handle h)) h
    (refuse BadShape (not good) h
    (pick (backed r.backing) (create_backed es h r) (create_hosted h r)))

-- "A resource keeps kind, shape, pitch, backing id and offset; host-backed ones ignore pitch and offset and keep them as 0."
-- Its bytes are kept beside them: nothing of a resource but its lowest name changes after its creation, and "24 offset + size beyond the resource" asks for
-- them at each dirty range and copy. It has one name, which is its lowest.
abbrev pub resource_of : ℕ → Kind → ℕ → ℕ → ℕ → ℕ → Resource
resource_of handle kind bytes pitch backing offset =
    record { handle = handle; kind = kind; bytes = bytes; pitch = pick (backed backing) pitch 0; backing = backing; offset = pick (backed backing) offset 0; lowest = handle }

-- "Buffer size not 0."
unfoldable pub on_buffer_packet : List Entry → Holdings → CreateBuffer → Outcome
on_buffer_packet es h c =
    create es h (not (eqb c.size 0)) (resource_of c.handle BufferKind c.size 0 c.backing c.offset)

-- "Backed only: pitch >= minimum for mip 0."
unfoldable pub on_texture_packet : List Entry → Holdings → CreateTexture → Outcome
on_texture_packet es h c =
    create es h (pick (backed c.backing) (good_backed c.shape c.pitch) (good_shape c.shape))
    (resource_of c.handle (TextureKind c.shape) (pick (backed c.backing) (packed_size c.shape c.pitch) 0) c.pitch c.backing c.offset)

-- ---- destroy, dirty, copy

-- the names other than one
abbrev pub without : ℕ → Holdings → List Resource
without k h = removed (index_of handle_of k h.resources) h.resources

-- "Destroy: 18 not live." By 02, wish 5, "destroying one name leaves the others".
unfoldable pub on_destroy_packet : Holdings → DestroyResource → Outcome
on_destroy_packet h c =
    on_live (live c.handle h) h (λ r.
    accepted (record { resources = names_left r (without c.handle h); records = h.records }))

-- "Dirty: 18; 25 host-backed; 24 offset + size beyond the resource; 21; 22 with backing offset added; 19 records. Kind 2 (read)."
unfoldable pub on_dirty_packet : List Entry → Holdings → DirtyRange → Outcome
on_dirty_packet es h c =
    on_live (live c.handle h) h (λ r.
    refuse HostBacked (not (backed r.backing)) h
    (refuse PastResource (ltb r.bytes (c.offset + c.size)) h
    (on_entry (matching r.backing es) h (λ e.
    refuse PastEntry (ltb e.size (r.offset + (c.offset + c.size))) h
    (hand_out (range_of reads r e c.offset c.size) h)))))

-- "with writeback on dst: 25, 21, 22, 23 read_only, 19. 22 as for dirty. Kind 3 (write, of dst)"
unfoldable pub write_back : List Entry → Holdings → CopyBuffer → Resource → Outcome
write_back es h c r =
    refuse HostBacked (not (backed r.backing)) h
    (on_entry (matching r.backing es) h (λ e.
    refuse PastEntry (ltb e.size (r.offset + (c.dstoffset + c.size))) h
    (refuse ReadOnly (eqb (e.flags % 2) 1) h
    (hand_out (range_of writes r e c.dstoffset c.size) h))))

-- "Copy: 18 dst, then src, not a live buffer; 26 same handle, or flags above 1; 24 dst, then src; with writeback on dst: .."
unfoldable pub on_copy_packet : List Entry → Holdings → CopyBuffer → Outcome
on_copy_packet es h c =
    on_buffer (live c.dst h) h (λ d.
    on_buffer (live c.src h) h (λ s.
    refuse BadCopy (eqb c.dst c.src || ltb 1 c.flags) h
    (refuse PastResource (ltb d.bytes (c.dstoffset + c.size)) h
    (refuse PastResource (ltb s.bytes (c.srcoffset + c.size)) h
    (pick (eqb c.flags 1) (write_back es h c d) (accepted h))))))

-- ---- state packets (02, wish 7)

-- a texture's shape
abbrev pub shape_of : Kind → Found Shape
shape_of BufferKind = none
shape_of (TextureKind s) = found s

abbrev pub shape_in : Found Resource → Found Shape
shape_in none = none
shape_in (found r) = shape_of r.kind

-- that of the live texture that has a handle. Handle 0 is not live.
unfoldable pub live_texture : ℕ → Holdings → Found Shape
live_texture k h = pick (eqb k 0) none (shape_in (live k h))

-- the rule with number n, unless there is such a texture
abbrev pub on_texture : Refusal → Found Shape → Holdings → (Shape → Outcome) → Outcome
on_texture n none h later = refused n h
on_texture n (found s) h later = later s

-- "The target is a live texture, else 18"
unfoldable pub on_target_packet : Holdings → SetTarget → Outcome
on_target_packet h c = on_texture BadHandle (live_texture c.handle h) h (λ s. accepted h)

unfoldable pub on_viewport_packet : Holdings → SetViewport → Outcome
on_viewport_packet h v = refuse BadState (bad_viewport v) h (accepted h)

unfoldable pub on_clear_packet : Holdings → ClearValues → Outcome
on_clear_packet h c = refuse BadState (bad_clear c) h (accepted h)

-- "scissor sides negative; scissor without a target": 30. The clipped rectangle is a record "which counts toward the 64": 19. "Order: 18, 30, 19."
-- A target that is no live texture, which only made-up words hold, counts as none (docs/DECISIONS.md, 89).
unfoldable pub on_scissor_packet : ℕ → Holdings → SetScissor → Outcome
on_scissor_packet target h c =
    on_texture BadState (live_texture target h) h (λ s.
    refuse BadState (bad_sides c) h
    (refuse TooMany (full h.records) h (accepted (recorded (clip_of s c) h))))

-- ---- shared surfaces (02, wish 5): "The handle check (18, create's rule for import) comes first, then shape, token, room."

-- "Only textures with one mip and one layer may be exported, else 20. Export gives 28 for token 0, a token ever bound to another resource or
-- one released"; "At most 256 tokens .., then 19"
unfoldable pub on_export_packet : List Token → Holdings → ExportSurface → Outcome
on_export_packet ts h c =
    on_live (live c.handle h) h (λ r.
    refuse BadShape (not (shareable r.kind)) h
    (refuse BadToken (eqb c.token 0 || of_another (lookup token_of c.token ts) r.lowest) h
    (refuse TooMany (is_new (lookup token_of c.token ts) && leb most_tokens (length ts)) h (accepted h))))

-- the live resource that a token is bound to
abbrev pub bound_in : Found Token → List Resource → Found Resource
bound_in none rs = none
bound_in (found t) rs = pick (eqb t.name no_name) none (lookup handle_of t.name rs)

unfoldable pub bound : ℕ → List Token → List Resource → Found Resource
bound token ts rs = bound_in (lookup token_of token ts) rs

-- "Import and release give 29 for a token not bound to a live resource."
abbrev pub on_bound : Found Resource → Holdings → (Resource → Outcome) → Outcome
on_bound none h later = refused UnboundToken h
on_bound (found r) h later = later r

-- "The limit of 64 now counts names."
unfoldable pub on_import_packet : List Token → Holdings → ImportSurface → Outcome
on_import_packet ts h c =
    refuse BadHandle (eqb c.handle 0 || is_live (live c.handle h)) h
    (on_bound (bound c.token ts h.resources) h (λ r.
    refuse TooMany (full h.resources) h
    (accepted (record { resources = names_with c.handle r h.resources; records = h.records }))))

unfoldable pub on_release_packet : List Token → Holdings → ReleaseToken → Outcome
on_release_packet ts h c = on_bound (bound c.token ts h.resources) h (λ r. accepted h)

-- ---- one packet, in a submission that has this target and these tokens

unfoldable pub apply : List Entry → ℕ → List Token → Holdings → Packet → Outcome
apply es target ts h (Buffer c) = on_buffer_packet es h c
apply es target ts h (Texture c) = on_texture_packet es h c
apply es target ts h (Destroy c) = on_destroy_packet h c
apply es target ts h (Dirty c) = on_dirty_packet es h c
apply es target ts h (Copy c) = on_copy_packet es h c
apply es target ts h (Target c) = on_target_packet h c
apply es target ts h (Viewport v) = on_viewport_packet h v
apply es target ts h (Scissor c) = on_scissor_packet target h c
apply es target ts h (Clear c) = on_clear_packet h c
apply es target ts h (Export c) = on_export_packet ts h c
apply es target ts h (Import c) = on_import_packet ts h c
apply es target ts h (Release c) = on_release_packet ts h c
apply es target ts h NotANumber = refused BadState h
apply es target ts h Unknown = accepted h

-- ---- what a submission carries from packet to packet

-- what it holds, the handle of its target, 0 while it has none, and the tokens used since the last reset
pub record Progress : Type 0 where
  pub holdings : Holdings
  pub target : ℕ
  pub tokens : List Token

-- what a device has of its own: the resources by all their names, and the tokens
pub record Belongings : Type 0 where
  pub resources : List Resource
  pub tokens : List Token

-- "Resources live within a submission as its earlier packets left them", and tokens: at first they are the device's, and there is no target
abbrev pub at_first : Belongings → Progress
at_first b = record { holdings = record { resources = b.resources; records = [] }; target = 0; tokens = b.tokens }

-- and what becomes the device's on "good"
abbrev pub left_by : Progress → Belongings
left_by h = record { resources = h.holdings.resources; tokens = h.tokens }

-- a packet that is refused leaves target and tokens
abbrev pub if-fine : {A : Type 0} → Verdict → A → A → A
if-fine (Ok _) new old = new
if-fine (Err r) new old = old

-- "it lasts until the submission ends or that handle is destroyed"
unfoldable pub target_after : Packet → Verdict → ℕ → ℕ
target_after (Buffer c) v old = old
target_after (Texture c) v old = old
target_after (Destroy c) v old = if-fine v (pick (eqb c.handle old) 0 old) old
target_after (Dirty c) v old = old
target_after (Copy c) v old = old
target_after (Target c) v old = if-fine v c.handle old
target_after (Viewport c) v old = old
target_after (Scissor c) v old = old
target_after (Clear c) v old = old
target_after (Export c) v old = old
target_after (Import c) v old = old
target_after (Release c) v old = old
target_after NotANumber v old = old
target_after Unknown v old = old

-- the tokens after a destroy, an export and an import, by the resource that each finds
abbrev pub tokens_destroyed : Found Resource → List Resource → List Token → List Token
tokens_destroyed none left ts = ts
tokens_destroyed (found r) left ts = tokens_left r left ts

abbrev pub tokens_exported : Found Resource → ℕ → List Token → List Token
tokens_exported none token ts = ts
tokens_exported (found r) token ts = with_token token r.lowest ts

abbrev pub tokens_imported : Found Resource → ℕ → List Token → List Token
tokens_imported none k ts = ts
tokens_imported (found r) k ts = tokens_with k r ts

-- of what was held before it
unfoldable pub tokens_after : Packet → Verdict → Holdings → List Token → List Token
tokens_after (Buffer c) v h old = old
tokens_after (Texture c) v h old = old
tokens_after (Destroy c) v h old = if-fine v (tokens_destroyed (live c.handle h) (without c.handle h) old) old
tokens_after (Dirty c) v h old = old
tokens_after (Copy c) v h old = old
tokens_after (Target c) v h old = old
tokens_after (Viewport c) v h old = old
tokens_after (Scissor c) v h old = old
tokens_after (Clear c) v h old = old
tokens_after (Export c) v h old = if-fine v (tokens_exported (live c.handle h) c.token old) old
tokens_after (Import c) v h old = if-fine v (tokens_imported (bound c.token old h.resources) c.handle old) old
tokens_after (Release c) v h old = if-fine v (without_token c.token old) old
tokens_after NotANumber v h old = old
tokens_after Unknown v h old = old

-- what a packet comes to, and what is held after it
pub record Passed : Type 0 where
  pub verdict : Verdict
  pub held : Progress

abbrev pub passed : Packet → Progress → Outcome → Passed
passed p h o =
    record {
      verdict = o.verdict;
      held = record {
        holdings = o.held;
        target = target_after p o.verdict h.target;
        tokens = tokens_after p o.verdict h.holdings h.tokens;
      };
    }

unfoldable pub pass : List Entry → Progress → Packet → Passed
pass es h p = passed p h (apply es h.target h.tokens h.holdings p)

-- ---- the packet that the bytes left of a stream begin with

abbrev pub pass_frame : List Entry → Progress → List ℕ → Frame → Passed
pass_frame es h b (Ok (op, size)) = pass es h (packet_of op (take size b))
pass_frame es h b (Err r) = record { verdict = Err r; held = h }

unfoldable pub take_packet : List Entry → Progress → List ℕ → Passed
take_packet es h b = pass_frame es h b (frame_of b)
