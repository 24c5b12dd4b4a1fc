-- Rows of words as resources and records: how a row is read. Four-byte numbers are a word's low half.
use Rattle.std.specs.Prelude.{List, ℕ, ◌+◌, ◌%◌, ◌^◌, eqb, get_or}
use Rattle.machine.specs.Machine.{pick}
use Rattle.rules.specs.Packets.{Holdings, Progress}
use Rattle.rules.specs.declared.Kind.{Kind}
use Rattle.rules.specs.declared.Kind.TheVariants.{Buffer, Texture}
use Rattle.rules.specs.declared.Resource.{Resource}
use Rattle.rules.specs.declared.Record.{Record}
use Rattle.rules.specs.declared.Token.{Token}
use Rattle.rows.specs.Rows.{table}

-- a four-byte number
abbrev pub small : List ℕ → ℕ → ℕ
small l i = get_or l i 0 % 2 ^ 32

-- what a resource is, by its tag and the words of its shape
abbrev pub flat_kind : ℕ → ℕ → ℕ → ℕ → ℕ → ℕ → Kind
flat_kind tag format width height mips layers =
    pick (eqb tag 0) Buffer
    (Texture (record { format = format % 2 ^ 32; width = width % 2 ^ 32; height = height % 2 ^ 32; mips = mips % 2 ^ 32; layers = layers % 2 ^ 32 }))

-- what the resource is whose row begins at b
abbrev pub kind_in : List ℕ → ℕ → Kind
kind_in l b =
    flat_kind (get_or l (b + 1) 0) (get_or l (b + 3) 0) (get_or l (b + 4) 0) (get_or l (b + 5) 0) (get_or l (b + 6) 0) (get_or l (b + 7) 0)

abbrev pub resource_of_row : List ℕ → Resource
resource_of_row r = record { handle = small r 0; kind = kind_in r 0; bytes = get_or r 2 0; pitch = small r 8; backing = small r 9; offset = small r 10; lowest = small r 11 }

-- the first n rows
abbrev pub resources_of : ℕ → List ℕ → List Resource
resources_of n l = table resource_of_row 12 n l

abbrev pub record_of : List ℕ → Record
record_of r = record { kind = small r 0; handle = small r 1; id = small r 2; gpa = get_or r 3 0; length = get_or r 4 0 }

abbrev pub records_of : ℕ → List ℕ → List Record
records_of n l = table record_of 5 n l

-- what a submission holds
abbrev pub holdings_of : ℕ → List ℕ → ℕ → List ℕ → Holdings
holdings_of live resources made records = record { resources = resources_of live resources; records = records_of made records }

-- what it carries from packet to packet: that, its target and its tokens
abbrev pub progress_of : ℕ → ℕ → List ℕ → ℕ → List ℕ → List Token → Progress
progress_of target live resources made records tokens =
    record { holdings = holdings_of live resources made records; target = target; tokens = tokens }
