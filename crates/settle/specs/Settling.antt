-- What settling writes, and the sizes of it.
use Rattle.std.specs.Prelude.{ℕ, ◌+◌, List, ◌==◌}
use Rattle.machine.specs.Machine.{pick}
use Rattle.rules.specs.Layouts.{head_offset, page_bytes}
use Rattle.rules.specs.Settle.{written}

-- "Fence page, 16 bytes"
abbrev pub page_size : ℕ
page_size = 16

-- the head is a u32
abbrev pub head_size : ℕ
head_size = 4

-- where it ends, from the start of the ring
abbrev pub head_end : ℕ
head_end = head_offset + head_size

-- the page written at an address, with a completed fence: the rules' `page-written` of registers that have these
abbrev pub page_put : ℕ → ℕ → List ℕ → List ℕ
page_put page completed m = pick (page == 0) m (written page (page_bytes completed) m)
