-- A device has one file of a form, and a file one device: the same devices are saved as the same bytes, and devices whose bytes are the same are
-- the same. Assumes nothing.
use Rattle.std.specs.Prelude.{◌≡◌, List, ℕ}
use Rattle.std.proofs.Common.{sym, ◌∙◌}
use Rattle.rules.specs.Lists.{lookup}
use Rattle.rules.specs.Names.{token_of}
use Rattle.rules.specs.Packets.{handle_of}
use Rattle.rules.specs.State.{State}
use Rattle.rules.specs.Saved.{rising, head_fields, saved_fields, saved}
use Rattle.rules.specs.declared.Form.{Form}
use Rattle.rules.specs.declared.Form.TheVariants.{One, Two}
use Rattle.promises_of_saving.specs.SameDevice.{SameDevice}
use Rattle.promises_of_saving.specs.Rising.{rising-is-one, rising-rises, found-rising}

-- the order in which a device keeps its resources and tokens does not show in the file
same-rising : {A : Type 0} (key : A → ℕ) (xs ys : List A) → ((k : ℕ) → lookup key k xs ≡ lookup key k ys) → rising key xs ≡ rising key ys
same-rising key xs ys same =
    rising-is-one key 0 (rising key xs) (rising key ys) (rising-rises key xs) (rising-rises key ys)
    (λ j l. found-rising key xs j l ∙ (same j ∙ sym (found-rising key ys j l)))

pub same-devices-one-file : (f : Form) (s t : State) → SameDevice s t → saved f s ≡ saved f t
unfolding saved saved_fields head_fields
same-devices-one-file One s t d = rw (same-rising handle_of s.belongings.resources t.belongings.resources d.resources, d.regs, d.memory)
same-devices-one-file Two s t d =
    rw (
      same-rising handle_of s.belongings.resources t.belongings.resources d.resources,
      same-rising token_of s.belongings.tokens t.belongings.tokens d.tokens,
      d.regs,
      d.memory,
    )
