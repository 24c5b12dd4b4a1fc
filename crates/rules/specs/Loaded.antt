-- 02, wishes 1 and 11: which files loading refuses and where, what it makes of the others, and what a move makes of a file. Saved.antt has the forms.
use Rattle.std.specs.Prelude.{Bool, true, false, not, ◌&&◌, ◌||◌, List, [], ◌∷◌, ◌++◌, ℕ, zero, suc, ◌+◌, ◌*◌, ltb, leb, eqb, length, drop}
use Rattle.machine.specs.Machine.{pick}
use Rattle.rules.specs.Numbers.{no_name, bad_ring, bad_state, most, most_layers, longest_side, device_magic, version, features, done, buffer_kind, texture_kind, bad_file, most_tokens}
use Rattle.rules.specs.Lists.{Found, lookup}
use Rattle.rules.specs.Lists.Found.{none, found}
use Rattle.rules.specs.Layouts.{word, long}
use Rattle.rules.specs.Shapes.{block_bytes, full_chain, tight, packed_size}
use Rattle.rules.specs.Packets.{backed, resource_of, Belongings, handle_of}
use Rattle.rules.specs.State.{State, registers_of}
use Rattle.rules.specs.State.Work.{resting}
use Rattle.rules.specs.Registers.{bit_of}
use Rattle.rules.specs.declared.Shape.{Shape}
use Rattle.rules.specs.declared.Kind.TheVariants.{Buffer, Texture}
use Rattle.rules.specs.declared.Registers.{Registers}
use Rattle.rules.specs.declared.Resource.{Resource}
use Rattle.rules.specs.Names.{shareable, under}
use Rattle.rules.specs.declared.Token.{Token}
use Rattle.rules.specs.declared.Form.{Form}
use Rattle.rules.specs.declared.Form.TheVariants.{One, Two}
use Rattle.rules.specs.Saved.{number_bytes, section_1_count, detail_place, memory_place, count_place, head_bytes, resource_bytes, name_bytes, token_bytes, Saved, not_saved, call_save}

-- ---- loading: the rules of a file, each once, in file order, with the place that it is reported at. Places are counted from the first byte of the
-- sections; `behind` moves them.

pub record Rule : Type 0 where
  pub place : ℕ
  pub broken : Bool

-- "exactly when a field is missing or breaks a rule": the field at this place has to be there, and this has to hold. "A field cut in the
-- middle is missing, at its own start"; "a rule that ties several fields is reported at the last of them".
abbrev pub missing : List ℕ → ℕ → Bool
missing b at = ltb (length b) (at + 4)

abbrev pub must : List ℕ → ℕ → Bool → Rule
must b at kept = record { place = at; broken = missing b at || not kept }

-- any number is good
abbrev pub any : List ℕ → ℕ → Rule
any b at = must b at true

-- ---- which form a file has

-- the first field; 0 where it is not all there, which is the number of no form
unfoldable pub first_field : List ℕ → ℕ
first_field b = pick (missing b 0) 0 (word b 0)

-- "A first u32, 1 or 2, tells the forms apart; old files without it are form 1 .."
abbrev pub form_in : List ℕ → Form
form_in b = pick (eqb (first_field b) 2) Two One

abbrev pub has_number : List ℕ → Bool
has_number b = eqb (first_field b) 1 || eqb (first_field b) 2

-- the bytes before the sections, and the sections
unfoldable pub before_sections : List ℕ → ℕ
before_sections b = pick (has_number b) number_bytes 0

unfoldable pub sections : List ℕ → List ℕ
sections b = drop (before_sections b) b

-- ---- section 1

-- "error code 0 or one of 01's", which wishes 5 and 7 made 10 to 30
abbrev pub good_code : ℕ → Bool
good_code code = eqb code 0 || (leb bad_ring code && leb code bad_state)

-- "count 0 exactly with code 0 and then fence 0": one rule
abbrev pub good_error : ℕ → ℕ → ℕ → Bool
good_error code fence count = pick (eqb code 0) (eqb fence 0 && eqb count 0) (not (eqb count 0))

-- "detail 0 with code 0"
abbrev pub detail_rules : Form → List ℕ → List Rule
detail_rules One b = []
detail_rules Two b = must b detail_place (not (eqb (word b 60) 0) || eqb (word b detail_place) 0) ∷ []

-- section 1, and section 2's count: "fixed registers as in 01, control at most 1, flag at most 1, status at most 3, .. at most 64 resources"
abbrev pub head_rules : Form → List ℕ → List Rule
head_rules f b =
    must b 0 (eqb (word b 0) (section_1_count f))
    ∷ must b 4 (eqb (word b 4) device_magic)
    ∷ must b 8 (eqb (word b 8) version)
    ∷ must b 12 (eqb (word b 12) features)
    ∷ must b 16 (eqb (word b 16) 0)
    ∷ any b 20
    ∷ any b 24
    ∷ any b 28
    ∷ must b 32 (leb (word b 32) 1)
    ∷ any b 36
    ∷ any b 40
    ∷ any b 44
    ∷ any b 48
    ∷ must b 52 (leb (word b 52) 3)
    ∷ any b 56
    ∷ must b 60 (good_code (word b 60))
    ∷ any b 64
    ∷ any b 68
    ∷ must b 72 (good_error (word b 60) (long b 64) (word b 72))
    ∷ (detail_rules f b
    ++ (any b (memory_place f)
    ∷ any b (memory_place f + 4)
    ∷ must b (memory_place f + 8) (leb (word b (memory_place f + 8)) 1)
    ∷ must b (count_place f) (leb (word b (count_place f)) most)
    ∷ []))

-- ---- section 2

abbrev pub between : ℕ → ℕ → ℕ → Bool
between least greatest v = leb least v && leb v greatest

-- the shape that stands in a resource's fields
abbrev pub saved_shape : List ℕ → ℕ → Shape
saved_shape b at =
    record { format = word b (at + 16); width = word b (at + 20); height = word b (at + 24); mips = word b (at + 28); layers = word b (at + 32) }

abbrev pub is_buffer : List ℕ → ℕ → Bool
is_buffer b at = eqb (word b (at + 4)) buffer_kind

-- "Backed only: pitch >= minimum for mip 0"; "host-backed ones .. keep them as 0"
abbrev pub good_pitch : Shape → ℕ → ℕ → Bool
good_pitch s pitch backing = pick (backed backing) (leb (tight s 0) pitch) (eqb pitch 0)

-- a resource whose fields stand from a place on, after one with this handle: "handles non-zero and rising, shapes, pitch and offset as in 01".
-- "Fields that mean nothing for the kind must be 0, each by itself".
abbrev pub resource_rules : List ℕ → ℕ → ℕ → List Rule
resource_rules b at before =
    must b at (ltb before (word b at))
    ∷ must b (at + 4) (is_buffer b at || eqb (word b (at + 4)) texture_kind)
    ∷ must b (at + 8) (is_buffer b at || eqb (word b (at + 8)) 0)
    ∷ must b (at + 12) (pick (is_buffer b at) (not (eqb (long b (at + 8)) 0)) (eqb (word b (at + 12)) 0))
    ∷ must b (at + 16) (pick (is_buffer b at) (eqb (word b (at + 16)) 0) (ltb 0 (block_bytes (word b (at + 16)))))
    ∷ must b (at + 20) (pick (is_buffer b at) (eqb (word b (at + 20)) 0) (between 1 longest_side (word b (at + 20))))
    ∷ must b (at + 24) (pick (is_buffer b at) (eqb (word b (at + 24)) 0) (between 1 longest_side (word b (at + 24))))
    ∷ must b (at + 28) (pick (is_buffer b at) (eqb (word b (at + 28)) 0) (between 1 (full_chain (word b (at + 20)) (word b (at + 24))) (word b (at + 28))))
    ∷ must b (at + 32) (pick (is_buffer b at) (eqb (word b (at + 32)) 0) (between 1 most_layers (word b (at + 32))))
    ∷ must b (at + 36) (not (is_buffer b at) || eqb (word b (at + 36)) 0)
    ∷ must b (at + 40) (is_buffer b at || good_pitch (saved_shape b at) (word b (at + 36)) (word b (at + 40)))
    ∷ must b (at + 44) (backed (word b (at + 40)) || eqb (word b (at + 44)) 0)
    ∷ []

unfoldable pub resources_rules : ℕ → List ℕ → ℕ → ℕ → List Rule
resources_rules zero b at before = []
resources_rules (suc n) b at before = resource_rules b at before ++ resources_rules n b (at + resource_bytes) (word b at)

-- the resource whose fields stand from a place on: its bytes are those that create keeps
unfoldable pub loaded_resource : List ℕ → ℕ → Resource
loaded_resource b at =
    pick (is_buffer b at)
    (resource_of (word b at) Buffer (long b (at + 8)) 0 (word b (at + 40)) (word b (at + 44)))
    (resource_of (word b at) (Texture (saved_shape b at)) (pick (backed (word b (at + 40))) (packed_size (saved_shape b at) (word b (at + 36))) 0) (word b (at + 36)) (word b (at + 40)) (word b (at + 44)))

unfoldable pub loaded_resources : ℕ → List ℕ → ℕ → List Resource
loaded_resources zero b at = []
loaded_resources (suc n) b at = loaded_resource b at ∷ loaded_resources n b (at + resource_bytes)

-- ---- sections 3 and 4

-- "All names .. are non-zero, once each, .. shared or bound only on one-mip one-layer textures": whether a name is no resource of section 2, by what is
-- found under it there, and whether it is one that may be shared
abbrev pub is_free : Found Resource → Bool
is_free none = true
is_free (found r) = false

abbrev pub may_be_shared : Found Resource → Bool
may_be_shared none = false
may_be_shared (found r) = shareable r.kind

-- another name whose fields stand from a place on, after one with this name: "Other name 0, not rising, or a handle of section 2: at the other name. A
-- lowest name that is no resource of section 2, or is not below the other name: at the lowest name"; "A shared .. resource that is no texture of one
-- mip and one layer ..: at the lowest name of the pair"
abbrev pub name_rules : List Resource → List ℕ → ℕ → ℕ → List Rule
name_rules rs b at before =
    must b at (ltb before (word b at) && is_free (lookup handle_of (word b at) rs))
    ∷ must b (at + 4) (ltb (word b (at + 4)) (word b at) && may_be_shared (lookup handle_of (word b (at + 4)) rs))
    ∷ []

unfoldable pub names_rules : ℕ → List Resource → List ℕ → ℕ → ℕ → List Rule
names_rules zero rs b at before = []
names_rules (suc n) rs b at before = name_rules rs b at before ++ names_rules n rs b (at + name_bytes) (word b at)

-- a token likewise: "Token 0 or not rising (as u64 numbers): at its HI word"; "a token is bound to the lowest name of its resource; any other name
-- there is 7"; "A .. bound resource that is no texture of one mip and one layer ..: at the name in section 4"
abbrev pub token_rules : List Resource → List ℕ → ℕ → ℕ → List Rule
token_rules rs b at before =
    any b at
    ∷ must b (at + 4) (ltb before (long b at))
    ∷ must b (at + 8) (eqb (word b (at + 8)) no_name || may_be_shared (lookup handle_of (word b (at + 8)) rs))
    ∷ []

unfoldable pub tokens_rules : ℕ → List Resource → List ℕ → ℕ → ℕ → List Rule
tokens_rules zero rs b at before = []
tokens_rules (suc n) rs b at before = token_rules rs b at before ++ tokens_rules n rs b (at + token_bytes) (long b at)

-- "or a byte follows the last"
abbrev pub end_rule : List ℕ → ℕ → Rule
end_rule b end = record { place = end; broken = ltb end (length b) }

-- where section 3's count stands, behind so many resources; where section 4's does, behind so many other names; and where the last section ends
abbrev pub names_place : Form → ℕ → ℕ
names_place f n = head_bytes f + resource_bytes * n

abbrev pub tokens_place : ℕ → ℕ → ℕ
tokens_place at n = at + 4 + name_bytes * n

abbrev pub end_place : ℕ → ℕ → ℕ
end_place at n = at + 4 + token_bytes * n

-- "within 64 and 256": "Names above 64 in all: at section 3's count", "More than 256 tokens: at section 4's count"; "or a byte follows the last"
unfoldable pub section_4_rules : List Resource → List ℕ → ℕ → List Rule
section_4_rules rs b at =
    must b at (leb (word b at) most_tokens)
    ∷ (tokens_rules (word b at) rs b (at + 4) 0 ++ (end_rule b (end_place at (word b at)) ∷ []))

unfoldable pub section_3_rules : List Resource → List ℕ → ℕ → List Rule
section_3_rules rs b at =
    must b at (leb (length rs + word b at) most)
    ∷ (names_rules (word b at) rs b (at + 4) 0 ++ section_4_rules rs b (tokens_place at (word b at)))

-- the resources of section 2
abbrev pub section_2 : Form → List ℕ → List Resource
section_2 f b = loaded_resources (word b (count_place f)) b (head_bytes f)

-- what comes after the resources
abbrev pub later_rules : Form → List ℕ → ℕ → List Rule
later_rules One b at = end_rule b at ∷ []
later_rules Two b at = section_3_rules (section_2 Two b) b at

unfoldable pub sections_rules : Form → List ℕ → List Rule
sections_rules f b =
    head_rules f b
    ++ (resources_rules (word b (count_place f)) b (head_bytes f) 0
    ++ later_rules f b (names_place f (word b (count_place f))))

-- "Offsets count from the file's first byte, its number included"
unfoldable pub behind : ℕ → List Rule → List Rule
behind n [] = []
behind n (r ∷ rs) = record { place = n + r.place; broken = r.broken } ∷ behind n rs

unfoldable pub file_rules : List ℕ → List Rule
file_rules b = behind (before_sections b) (sections_rules (form_in b) (sections b))

-- "the offset of the first such field .. or byte"
unfoldable pub first_broken : List Rule → Found ℕ
first_broken [] = none
first_broken (r ∷ rs) = pick r.broken (found r.place) (first_broken rs)

unfoldable pub bad_place : List ℕ → Found ℕ
bad_place b = first_broken (file_rules b)

-- ---- loading: the device that a good file says

abbrev pub detail_in : Form → List ℕ → ℕ
detail_in One b = 0
detail_in Two b = word b detail_place

abbrev pub loaded_registers : Form → List ℕ → Registers
loaded_registers f b =
    registers_of (long b 20) (word b 28) (eqb (word b 32) 1) (long b 36) (long b 44) (bit_of 0 (word b 52)) (bit_of 1 (word b 52)) (word b 56)
    (record { code = word b 60; fence = long b 64; count = word b 72; detail = detail_in f b }) (eqb (word b (memory_place f + 8)) 1)

-- another name of one of the resources
abbrev pub named : ℕ → Found Resource → List Resource
named k none = []
named k (found r) = under k r ∷ []

unfoldable pub loaded_names : ℕ → List Resource → List ℕ → ℕ → List Resource
loaded_names zero rs b at = []
loaded_names (suc n) rs b at = named (word b at) (lookup handle_of (word b (at + 4)) rs) ++ loaded_names n rs b (at + name_bytes)

abbrev pub loaded_token : List ℕ → ℕ → Token
loaded_token b at = record { name = word b (at + 8); token = long b at }

unfoldable pub loaded_tokens : ℕ → List ℕ → ℕ → List Token
loaded_tokens zero b at = []
loaded_tokens (suc n) b at = loaded_token b at ∷ loaded_tokens n b (at + token_bytes)

-- what stands in sections 3 and 4; the place is that of section 3's count, for both
abbrev pub section_3 : List Resource → List ℕ → ℕ → List Resource
section_3 rs b at = loaded_names (word b at) rs b (at + 4)

abbrev pub section_4 : List ℕ → ℕ → List Token
section_4 b at = loaded_tokens (word b (tokens_place at (word b at))) b (tokens_place at (word b at) + 4)

-- "A form 1 file gives detail 0, no tokens and no other names"
abbrev pub loaded_belongings : Form → List Resource → List ℕ → ℕ → Belongings
loaded_belongings One rs b at = record { resources = rs; tokens = [] }
loaded_belongings Two rs b at = record { resources = rs ++ section_3 rs b at; tokens = section_4 b at }

-- Nothing is in work (docs/DECISIONS.md, 115). Any memory length is good (116), and any offset of a backed resource.
unfoldable pub loaded_sections : Form → List ℕ → State
loaded_sections f b =
    record {
      memory = long b (memory_place f);
      regs = loaded_registers f b;
      belongings = loaded_belongings f (section_2 f b) b (names_place f (word b (count_place f)));
      work = resting;
    }

unfoldable pub loaded : List ℕ → State
loaded b = loaded_sections (form_in b) (sections b)

pub record Loaded : Type 0 where
  pub answer : ℕ
  pub place : ℕ
  pub state : State

-- "Loading answers 7, device unchanged, exactly when ..", with the place; else the device is what the file says, whatever it was
abbrev pub loaded_or : Found ℕ → List ℕ → State → Loaded
loaded_or none b s = record { answer = done; place = 0; state = loaded b }
loaded_or (found place) b s = record { answer = bad_file; place = place; state = s }

unfoldable pub call_load : State → List ℕ → Loaded
call_load s b = loaded_or (bad_place b) b s

-- ---- moving: a file's device, saved in the other form. "old files without it are form 1 and the move adds it"; "Form 2 goes back exactly when both
-- sections are empty and detail is 0, else 8 (7 comes before it, 6 after) and nothing written." A move is about files alone: no device is asked, and 5 never comes.
-- Beside 7, too, the length is 0.

abbrev pub other_form : Form → Form
other_form One = Two
other_form Two = One

abbrev pub moved_or : Found ℕ → List ℕ → List ℕ → Saved
moved_or none b buffer = call_save (other_form (form_in b)) (loaded b) buffer
moved_or (found place) b buffer = not_saved bad_file buffer

unfoldable pub call_move : List ℕ → List ℕ → Saved
call_move b buffer = moved_or (bad_place b) b buffer
