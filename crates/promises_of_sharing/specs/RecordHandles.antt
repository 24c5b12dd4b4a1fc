-- Wish 5, "A record made under a second name carries the packet's handle": each range that a packet hands out has the handle by which the packet names its
-- resource, whichever of the resource's names that is. Whatever the packet and what is held. Assumes nothing.
use Rattle.std.specs.Prelude.{◌≡◌, List, ◌++◌}
use Rattle.rules.specs.Numbers.{clips}
use Rattle.rules.specs.Packets.{Holdings, Outcome}
use Rattle.rules.specs.declared.Record.{Record}
use Rattle.rules.specs.declared.Packet.{Packet}
use Rattle.rules.specs.declared.Packet.TheVariants.{Buffer, Texture, Destroy, Dirty, Copy, Target, Viewport, Scissor, Clear, Export, Import, Release, NotANumber, Unknown}
use Rattle.promises_of_packets.specs.Held.{Every}

-- the handle by which a packet names the resource of its ranges: a create's and a dirty's own, a copy's dst. Any other packet hands out no range.
abbrev pub HasHandleOf : Packet → Record → Type 0
HasHandleOf (Buffer c) r = r.handle ≡ c.handle
HasHandleOf (Texture c) r = r.handle ≡ c.handle
HasHandleOf (Destroy c) r = ⊥
HasHandleOf (Dirty c) r = r.handle ≡ c.handle
HasHandleOf (Copy c) r = r.handle ≡ c.dst
HasHandleOf (Target c) r = ⊥
HasHandleOf (Viewport c) r = ⊥
HasHandleOf (Scissor c) r = ⊥
HasHandleOf (Clear c) r = ⊥
HasHandleOf (Export c) r = ⊥
HasHandleOf (Import c) r = ⊥
HasHandleOf (Release c) r = ⊥
HasHandleOf NotANumber r = ⊥
HasHandleOf Unknown r = ⊥

-- the records after a packet are those before it and the ones that it adds; each of those, of kinds 1 to 3, has the packet's handle
pub record AddsUnderItsHandle (p : Packet) (before after : List Record) : Type 0 where
  pub added : List Record
  pub are : after ≡ before ++ added
  pub its-handle : Every (λ (r : Record). (r.kind ≡ clips → ⊥) → HasHandleOf p r) added

module _ (p : Packet) (h : Holdings) where
  abbrev pub Adds : Outcome → Type 0
  Adds o = AddsUnderItsHandle p h.records o.held.records
