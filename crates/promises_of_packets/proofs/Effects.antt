-- The theorems of specs/Effects.antt, and what they rest on. Assumes nothing.
use Rattle.std.specs.Prelude.{◌≡◌, true, List, ℕ, Err, Ok}
use Rattle.std.proofs.Math.Path.{refl}
use Rattle.machine.specs.Machine.{pick}
use Rattle.rules.specs.Numbers.{backs}
use Rattle.rules.specs.Lists.Found.{found}
use Rattle.rules.specs.Names.{with_token, without_token}
use Rattle.rules.specs.Shapes.{good_backed}
use Rattle.rules.specs.StatePackets.{bad_viewport, bad_clear, clip_of}
use Rattle.rules.specs.Packets.{live, backed, range_of, recorded, stored, on_buffer_packet, on_texture_packet, live_texture, on_viewport_packet, on_clear_packet, bound, apply, Progress, Passed, target_after, tokens_after, pass}
use Rattle.rules.specs.declared.Entry.{Entry}
use Rattle.rules.specs.declared.Resource.{Resource}
use Rattle.rules.specs.declared.Shape.{Shape}
use Rattle.rules.specs.declared.SetScissor.{SetScissor}
use Rattle.rules.specs.declared.Refusal.{Refusal}
use Rattle.rules.specs.declared.Packet.{Packet}
use Rattle.rules.specs.declared.Packet.TheVariants.{Buffer, Texture, Destroy, Dirty, Copy, Target, Viewport, Scissor, Clear, Export, Import, Release, NotANumber, Unknown}
use Rattle.rules.specs.declared.Refusal.TheVariants.{BadState}
use Rattle.promises_of_packets.specs.Effects.{Clipped, Exported, Fresh, Imported, InRange, Of, buffer-created, copy-or, create-or, destroy-or, destroyed, dirty-or, export-or, going_on, import-or, imported, refuse-or, release-or, scissor-or, target-or, texture-created, tokens_now}

-- ---- one packet, whatever it is

module _ (P : Passed → Type 0) (es : List Entry) (h : Progress)
    (refuses : (r : Refusal) → P (record { verdict = Err r; held = h }))
    (keeps : P (record { verdict = Ok tt; held = h }))
    (stores : (r : Resource) → Fresh h.holdings r → P (going_on h (stored r h.holdings)))
    (backs-up : (r : Resource) (e : Entry) → Fresh h.holdings r → InRange es h.holdings backs r e 0 r.bytes → P (going_on h (recorded (range_of backs r e 0 r.bytes) (stored r h.holdings))))
    (removes : (k : ℕ) (r : Resource) → live k h.holdings ≡ found r → P (destroyed h k r))
    (hands : (kind : ℕ) (r : Resource) (e : Entry) (from size : ℕ) → InRange es h.holdings kind r e from size → P (going_on h (recorded (range_of kind r e from size) h.holdings)))
    (targets : (k : ℕ) (s : Shape) → live_texture k h.holdings ≡ found s → P (record { verdict = Ok tt; held = record { holdings = h.holdings; target = k; tokens = h.tokens } }))
    (cuts : (s : Shape) (c : SetScissor) → Clipped h.target h.holdings s c → P (going_on h (recorded (clip_of s c) h.holdings)))
    (exports : (k token : ℕ) (r : Resource) → Exported h k token r → P (tokens_now h (with_token token r.lowest h.tokens)))
    (imports : (k token : ℕ) (r : Resource) → Imported h k token r → P (imported h k r))
    (releases : (token : ℕ) (r : Resource) → bound token h.tokens h.holdings.resources ≡ found r → P (tokens_now h (without_token token h.tokens))) where
  pub pass-or : (p : Packet) → P (pass es h p)
  unfolding pass apply target_after tokens_after on_buffer_packet on_texture_packet on_viewport_packet on_clear_packet
  pass-or (Buffer c) =
      create-or ((Of P es h refuses keeps stores backs-up removes hands targets cuts exports imports releases) (Buffer c)) h.holdings refuses es stores backs-up _ _ refl (buffer-created c.handle c.size c.backing c.offset)
  pass-or (Texture c) =
      create-or ((Of P es h refuses keeps stores backs-up removes hands targets cuts exports imports releases) (Texture c)) h.holdings refuses es stores backs-up _ _ refl (texture-created c.handle c.shape c.pitch c.backing c.offset)
  pass-or (Destroy c) =
      destroy-or ((Of P es h refuses keeps stores backs-up removes hands targets cuts exports imports releases) (Destroy c)) h.holdings refuses c (λ r e. rw e (removes c.handle r e))
  pass-or (Dirty c) = dirty-or ((Of P es h refuses keeps stores backs-up removes hands targets cuts exports imports releases) (Dirty c)) h.holdings refuses es keeps hands c
  pass-or (Copy c) = copy-or ((Of P es h refuses keeps stores backs-up removes hands targets cuts exports imports releases) (Copy c)) h.holdings refuses es keeps hands c
  pass-or (Target c) = target-or ((Of P es h refuses keeps stores backs-up removes hands targets cuts exports imports releases) (Target c)) h.holdings refuses c (targets c.handle)
  pass-or (Viewport v) = refuse-or ((Of P es h refuses keeps stores backs-up removes hands targets cuts exports imports releases) (Viewport v)) h.holdings refuses BadState (bad_viewport v) _ (λ _. keeps)
  pass-or (Scissor c) = scissor-or ((Of P es h refuses keeps stores backs-up removes hands targets cuts exports imports releases) (Scissor c)) h.holdings refuses h.target c (λ s k. cuts s c k)
  pass-or (Clear c) = refuse-or ((Of P es h refuses keeps stores backs-up removes hands targets cuts exports imports releases) (Clear c)) h.holdings refuses BadState (bad_clear c) _ (λ _. keeps)
  pass-or (Export c) = export-or ((Of P es h refuses keeps stores backs-up removes hands targets cuts exports imports releases) (Export c)) h refuses c (λ r e. rw e.named (exports c.handle c.token r e))
  pass-or (Import c) =
      import-or ((Of P es h refuses keeps stores backs-up removes hands targets cuts exports imports releases) (Import c)) h.holdings refuses h.tokens c (λ r some unused e room.
      rw e (imports c.handle c.token r (record { some = some; unused = unused; bound-to = e; room = room })))
  pass-or (Release c) = release-or ((Of P es h refuses keeps stores backs-up removes hands targets cuts exports imports releases) (Release c)) h.holdings refuses h.tokens c (λ r e. releases c.token r e)
  pass-or NotANumber = refuses BadState
  pass-or Unknown = keeps
