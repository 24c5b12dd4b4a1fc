-- 02, wishes 1 and 11, with what 5 and 9 say of saving: the forms of a saved desk, and what saving writes. Loaded.antt has which files loading refuses, and what a move makes of a file.
--
-- "Form 1 has sections in a fixed order, each after its count as a u32: the writable and read-only register numbers with memory length and doorbell
-- flag, then live resources by rising handle." "Form 2 is form 1 with one more register and two sections after the resources, each of which stands
-- under its lowest name: other names with that one, and tokens, bound to one or spent .., rising order, each after its count." "A first u32, 1 or 2,
-- tells the forms apart; old files without it are form 1 ..". Fields are u32 numbers, little-endian; a number of 64 bits is two of them, LO first.
-- docs/SAVED-DESK.md has the layout.
use Rattle.std.specs.Prelude.{Bool, false, not, ◌||◌, List, [], ◌∷◌, ◌++◌, ℕ, zero, suc, ◌+◌, ◌*◌, ltb, eqb, length, take}
use Rattle.machine.specs.Machine.{pick}
use Rattle.rules.specs.Numbers.{done, buffer_kind, texture_kind, in_work, too_short, not_in_form}
use Rattle.rules.specs.Bytes.{bytes_of}
use Rattle.rules.specs.Lists.{Found, over}
use Rattle.rules.specs.Lists.Found.{none, found}
use Rattle.rules.specs.Packets.{handle_of}
use Rattle.rules.specs.State.{State}
use Rattle.rules.specs.Registers.{low, high, bit, Read, readable}
use Rattle.rules.specs.Calls.{at_rest}
use Rattle.rules.specs.declared.Kind.{Kind}
use Rattle.rules.specs.declared.Kind.TheVariants.{Buffer, Texture}
use Rattle.rules.specs.declared.Resource.{Resource}
use Rattle.rules.specs.Names.{token_of}
use Rattle.rules.specs.declared.Token.{Token}
use Rattle.rules.specs.declared.Form.{Form}
use Rattle.rules.specs.declared.Form.TheVariants.{One, Two}

-- ---- the layout

-- the number that a file of the form begins with
abbrev pub number_of : Form → ℕ
number_of One = 1
number_of Two = 2

abbrev pub number_bytes : ℕ
number_bytes = 4

-- "with one more register": the error's detail, 320, after the error count
abbrev pub more_registers : Form → ℕ
more_registers One = 0
more_registers Two = 1

-- the numbers of section 1: the 18 registers of 01 that are read, those that the form adds, the memory's length, the doorbell flag
abbrev pub section_1_count : Form → ℕ
section_1_count f = 21 + more_registers f

abbrev pub saved_register_count : Form → ℕ
saved_register_count f = 18 + more_registers f

-- places, counted from the first byte of the sections: of the detail, of the memory's length, of section 2's count, and of the first resource
abbrev pub detail_place : ℕ
detail_place = 76

abbrev pub memory_place : Form → ℕ
memory_place f = 76 + 4 * more_registers f

abbrev pub count_place : Form → ℕ
count_place f = 88 + 4 * more_registers f

abbrev pub head_bytes : Form → ℕ
head_bytes f = 92 + 4 * more_registers f

-- how many bytes a resource has, another name, and a token
abbrev pub resource_bytes : ℕ
resource_bytes = 48

abbrev pub name_bytes : ℕ
name_bytes = 8

abbrev pub token_bytes : ℕ
token_bytes = 12

-- ---- rising order

module _ {A : Type 0} (key : A → ℕ) where
  -- the one with the lower key of two
  abbrev pub lower_keyed : A → Found A → Found A
  lower_keyed x none = found x
  lower_keyed x (found y) = found (pick (ltb (key y) (key x)) y x)

  -- the one with the lowest key above k
  unfoldable pub next_above : ℕ → List A → Found A
  next_above k [] = none
  next_above k (x ∷ xs) = pick (ltb k (key x)) (lower_keyed x (next_above k xs)) (next_above k xs)

  abbrev pub key_of : Found A → ℕ
  key_of none = 0
  key_of (found x) = key x

  abbrev pub onto : Found A → List A → List A
  onto none later = []
  onto (found x) later = x ∷ later

  -- and then the next, so many at most
  unfoldable pub rising_above : ℕ → ℕ → List A → List A
  rising_above zero k xs = []
  rising_above (suc n) k xs = onto (next_above k xs) (rising_above n (key_of (next_above k xs)) xs)

  unfoldable pub rising : List A → List A
  rising xs = rising_above (length xs) 0 xs

-- ---- saving: the numbers of a device, in file order

-- those of some that pass a test
module _ {A : Type 0} (test : A → Bool) where
  unfoldable pub those : List A → List A
  those [] = []
  those (x ∷ xs) = pick (test x) (x ∷ those xs) (those xs)

-- "live resources by rising handle", "each of which stands under its lowest name"; and "other names with that one", rising
abbrev pub is_other_name : Resource → Bool
is_other_name r = not (eqb r.handle r.lowest)

abbrev pub is_lowest_name : Resource → Bool
is_lowest_name r = not (is_other_name r)

abbrev pub firsts_of : State → List Resource
firsts_of s = those is_lowest_name (rising handle_of s.belongings.resources)

abbrev pub others_of : State → List Resource
others_of s = those is_other_name (rising handle_of s.belongings.resources)

abbrev pub tokens_of : State → List Token
tokens_of s = rising token_of s.belongings.tokens

abbrev pub values_of : List Read → List ℕ
values_of [] = []
values_of (r ∷ rs) = r.value ∷ values_of rs

-- section 1, and section 2's count
unfoldable pub head_fields : Form → State → List ℕ
head_fields f s =
    section_1_count f
    ∷ (values_of (take (saved_register_count f) (readable s.regs))
    ++ (low s.memory ∷ high s.memory ∷ bit s.regs.doorbell ∷ length (firsts_of s) ∷ []))

-- "handle, kind (1 buffer, 2 texture), size LO, HI, format, width, height, mips, layers, pitch, backing id, backing offset". "Fields that mean
-- nothing for the kind" are 0.
abbrev pub kind_fields : Kind → ℕ → List ℕ
kind_fields Buffer bytes = buffer_kind ∷ low bytes ∷ high bytes ∷ 0 ∷ 0 ∷ 0 ∷ 0 ∷ 0 ∷ []
kind_fields (Texture s) bytes = texture_kind ∷ 0 ∷ 0 ∷ s.format ∷ s.width ∷ s.height ∷ s.mips ∷ s.layers ∷ []

abbrev pub resource_fields : Resource → List ℕ
resource_fields r = r.handle ∷ (kind_fields r.kind r.bytes ++ (r.pitch ∷ r.backing ∷ r.offset ∷ []))

unfoldable pub resources_fields : List Resource → List ℕ
resources_fields [] = []
resources_fields (r ∷ rs) = resource_fields r ++ resources_fields rs

-- "(other name, lowest name)", and "(token LO, token HI, lowest name or 0 if spent)"
unfoldable pub names_fields : List Resource → List ℕ
names_fields [] = []
names_fields (r ∷ rs) = r.handle ∷ r.lowest ∷ names_fields rs

unfoldable pub tokens_fields : List Token → List ℕ
tokens_fields [] = []
tokens_fields (t ∷ ts) = low t.token ∷ high t.token ∷ t.name ∷ tokens_fields ts

-- sections 3 and 4, which form 1 does not have
abbrev pub shared_fields : Form → State → List ℕ
shared_fields One s = []
shared_fields Two s =
    (length (others_of s) ∷ names_fields (others_of s))
    ++ (length (tokens_of s) ∷ tokens_fields (tokens_of s))

unfoldable pub saved_fields : Form → State → List ℕ
saved_fields f s = number_of f ∷ (head_fields f s ++ (resources_fields (firsts_of s) ++ shared_fields f s))

-- the bytes of some fields
unfoldable pub file_of : List ℕ → List ℕ
file_of [] = []
file_of (v ∷ vs) = bytes_of 4 v ++ file_of vs

unfoldable pub saved : Form → State → List ℕ
saved f s = file_of (saved_fields f s)

-- what form 1 has no field for: "Saving in form 1 answers 8 .. once any token was used" (wish 5), "also where another name is live", and "while
-- detail is non-zero" (wish 9)
unfoldable pub other_name_among : List Resource → Bool
other_name_among [] = false
other_name_among (r ∷ rs) = is_other_name r || other_name_among rs

unfoldable pub beyond_form_1 : State → Bool
beyond_form_1 s =
    not (eqb (length s.belongings.tokens) 0)
    || (other_name_among s.belongings.resources
    || not (eqb s.regs.error.detail 0))

-- whether there is something that the form has no field for
abbrev pub beyond : Form → State → Bool
beyond One s = beyond_form_1 s
beyond Two s = false

pub record Saved : Type 0 where
  pub answer : ℕ
  pub length : ℕ
  pub buffer : List ℕ

abbrev pub not_saved : ℕ → List ℕ → Saved
not_saved answer buffer = record { answer = answer; length = 0; buffer = buffer }

-- "Saving while a submission is in work answers 5; then a buffer too short answers 6; both leave it untouched. It gives the length and keeps
-- later bytes." 8 comes "after 5, before 6". Beside 5, 6 and 8 the length is 0 (docs/SAVED-DESK.md).
unfoldable pub call_save : Form → State → List ℕ → Saved
call_save f s buffer =
    pick (not (at_rest s.work)) (not_saved in_work buffer)
    (pick (beyond f s) (not_saved not_in_form buffer)
    (pick (ltb (length buffer) (length (saved f s))) (not_saved too_short buffer)
    (record { answer = done; length = length (saved f s); buffer = over 0 (saved f s) buffer })))
