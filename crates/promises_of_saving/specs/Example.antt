-- Devices with a buffer and a texture, saved in both forms, loaded, refused and moved: that the theorems speak of something, by computation alone.
use Rattle.std.specs.Prelude.{◌≡◌, refl, true, false, List, [], ◌∷◌, ◌++◌, ℕ, length, take, drop, replicate}
use Rattle.std.proofs.Common.{arith}
use Rattle.rules.specs.Numbers.{no_name, done, not_in_form}
use Rattle.rules.specs.Lists.{lookup, over}
use Rattle.rules.specs.Lists.Found.{found}
use Rattle.rules.specs.Bytes.{le, bytes_of}
use Rattle.rules.specs.Names.{token_of, under}
use Rattle.rules.specs.Shapes.{block_bytes, block_side, halvings, full_chain, mip_side, blocks, tight, rows, mip_bytes, offset_of, good_shape, good_backed, texture_bytes, packed_size}
use Rattle.rules.specs.Packets.{resource_of}
use Rattle.rules.specs.State.{State, registers_of, made}
use Rattle.rules.specs.State.Work.{resting}
use Rattle.rules.specs.declared.Shape.{Shape}
use Rattle.rules.specs.declared.Kind.TheVariants.{Buffer, Texture}
use Rattle.rules.specs.declared.Resource.{Resource}
use Rattle.rules.specs.declared.Token.{Token}
use Rattle.rules.specs.Saved.{resources_fields, file_of, other_name_among, beyond_form_1, not_saved, next_above, rising_above, rising, those, head_fields, names_fields, tokens_fields, saved_fields, saved, call_save}
use Rattle.rules.specs.Loaded.{resources_rules, first_broken, loaded_resource, loaded_resources, first_field, before_sections, sections, names_rules, tokens_rules, section_3_rules, section_4_rules, sections_rules, behind, file_rules, bad_place, loaded_names, loaded_tokens, loaded_sections, loaded, call_load, call_move}
use Rattle.rules.specs.declared.Form.TheVariants.{One, Two}
use Rattle.rule_laws.specs.Created.{AsCreated}
use Rattle.rows.specs.Keys.{once-nil, once-pushed}
use Rattle.promises_of_packets.specs.SoundNames.{SoundTokens}
use Rattle.promises_of_packets.specs.Held.{Every, every-none, every-found}
use Rattle.promises_of_saving.specs.LoadedShared.{SpentOrBound}
use Rattle.promises_of_saving.specs.Savable.{FitsResource}

-- ---- a device within form 1

abbrev pub small_shape : Shape
small_shape = record { format = 1; width = 4; height = 4; mips = 1; layers = 1 }

-- 4,096 bytes, 64 bytes into the allocation with id 5
abbrev pub its_buffer : Resource
its_buffer = resource_of 7 Buffer 4096 0 5 64

-- four rows of 16 bytes, in the same allocation
abbrev pub its_texture : Resource
its_texture = resource_of 3 (Texture small_shape) 64 16 5 0

abbrev pub example_with : ℕ → List Resource → List Token → State
example_with detail rs ts =
    record {
      memory = 65536;
      regs = registers_of 4096 1024 true 12288 41 true false 3 (record { code = 17; fence = 40; count = 2; detail = detail }) true;
      belongings = record { resources = rs; tokens = ts };
      work = resting;
    }

-- it keeps the buffer first
abbrev pub example_device : State
example_device = example_with 0 (its_buffer ∷ its_texture ∷ []) []

pub created-buffer : AsCreated its_buffer
created-buffer = record { bytes = λ e. omega arith; shape = refl; offset = λ e. absurd (let z : ◌≡◌ {A = ℕ} 0 1 = cc in omega arith) }

pub created-texture : AsCreated its_texture
unfolding block_bytes block_side halvings full_chain mip_side blocks tight rows mip_bytes offset_of good_shape good_backed texture_bytes packed_size
created-texture = record { bytes = refl; shape = (refl, refl); offset = λ e. refl }

pub fits-buffer : FitsResource its_buffer
fits-buffer =
    record { handle = omega arith; kind = omega arith; bytes = omega arith; pitch = omega arith; backing = omega arith; offset = omega arith; lowest = omega arith }

pub fits-texture : FitsResource its_texture
fits-texture =
    record {
      handle = omega arith;
      kind = record { format = omega arith; width = omega arith; height = omega arith; mips = omega arith; layers = omega arith };
      bytes = omega arith;
      pitch = omega arith;
      backing = omega arith;
      offset = omega arith;
      lowest = omega arith;
    }

-- ---- saved in form 1

-- its fields, after the form's number: the texture comes first
pub example-fields : saved_fields One example_device
    ≡ 1
    ∷ 21 ∷ 0x55504741 ∷ 65539 ∷ 7 ∷ 0 ∷ 4096 ∷ 0 ∷ 1024 ∷ 1 ∷ 12288 ∷ 0 ∷ 41 ∷ 0 ∷ 1 ∷ 3 ∷ 17 ∷ 40 ∷ 0 ∷ 2 ∷ 65536 ∷ 0 ∷ 1
    ∷ 2
    ∷ 3 ∷ 2 ∷ 0 ∷ 0 ∷ 1 ∷ 4 ∷ 4 ∷ 1 ∷ 1 ∷ 16 ∷ 5 ∷ 0
    ∷ 7 ∷ 1 ∷ 4096 ∷ 0 ∷ 0 ∷ 0 ∷ 0 ∷ 0 ∷ 0 ∷ 0 ∷ 5 ∷ 64
    ∷ []
unfolding next_above rising_above rising those resources_fields head_fields saved_fields
example-fields = refl

-- into a buffer of 240 bytes, each AA hex
abbrev lent : List ℕ
lent = replicate 240 0xaa

-- it takes 192 of them
pub example-is-saved : ((call_save One example_device lent).answer ≡ done) × ((call_save One example_device lent).length ≡ 192)
unfolding next_above rising_above rising those resources_fields head_fields saved_fields file_of bytes_of saved other_name_among beyond_form_1 call_save
example-is-saved = (refl, refl)

-- ---- loaded

-- by a new device with another memory: it has the same resources, by rising handle
pub example-is-loaded : call_load (made 0) (saved One example_device) ≡ record { answer = done; place = 0; state = example_with 0 (its_texture ∷ its_buffer ∷ []) [] }
unfolding next_above rising_above rising those resources_fields head_fields saved_fields file_of le bytes_of saved first_field before_sections sections resources_rules sections_rules behind file_rules first_broken bad_place block_bytes block_side halvings full_chain mip_side blocks tight rows mip_bytes offset_of good_shape good_backed texture_bytes packed_size loaded_resource loaded_resources loaded_sections loaded call_load
example-is-loaded = refl

-- "old files without it are form 1"
pub old-is-loaded : call_load (made 0) (drop 4 (saved One example_device)) ≡ record { answer = done; place = 0; state = example_with 0 (its_texture ∷ its_buffer ∷ []) [] }
unfolding next_above rising_above rising those resources_fields head_fields saved_fields file_of le bytes_of saved first_field before_sections sections resources_rules sections_rules behind file_rules first_broken bad_place block_bytes block_side halvings full_chain mip_side blocks tight rows mip_bytes offset_of good_shape good_backed texture_bytes packed_size loaded_resource loaded_resources loaded_sections loaded call_load
old-is-loaded = refl

-- ---- refused

-- a status of 4, at its place: "Offsets count from the file's first byte, its number included"
pub bad-status : bad_place (over 56 (bytes_of 4 4) (saved One example_device)) ≡ found 56
unfolding next_above rising_above rising those resources_fields head_fields saved_fields file_of le bytes_of over saved first_field before_sections sections resources_rules sections_rules behind file_rules first_broken bad_place block_bytes block_side halvings full_chain mip_side blocks tight
bad-status = refl

-- error code 0 beside a fence and a count: at the count, the last of the four
pub bad-error : bad_place (over 64 (bytes_of 4 0) (saved One example_device)) ≡ found 76
unfolding next_above rising_above rising those resources_fields head_fields saved_fields file_of le bytes_of over saved first_field before_sections sections resources_rules sections_rules behind file_rules first_broken bad_place block_bytes block_side halvings full_chain mip_side blocks tight
bad-error = refl

-- a pitch of 15, where 16 is the least: at the backing id, the later of the two
pub bad-pitch : bad_place (over 132 (bytes_of 4 15) (saved One example_device)) ≡ found 136
unfolding next_above rising_above rising those resources_fields head_fields saved_fields file_of le bytes_of over saved first_field before_sections sections resources_rules sections_rules behind file_rules first_broken bad_place block_bytes block_side halvings full_chain mip_side blocks tight
bad-pitch = refl

-- the last byte cut off: the last field is missing, at its start
pub cut_short : bad_place (take 191 (saved One example_device)) ≡ found 188
unfolding next_above rising_above rising those resources_fields head_fields saved_fields file_of le bytes_of over saved first_field before_sections sections resources_rules sections_rules behind file_rules first_broken bad_place block_bytes block_side halvings full_chain mip_side blocks tight
cut_short = refl

-- a byte after the last
pub one-byte-more : bad_place (saved One example_device ++ (0 ∷ [])) ≡ found 192
unfolding next_above rising_above rising those resources_fields head_fields saved_fields file_of le bytes_of over saved first_field before_sections sections resources_rules sections_rules behind file_rules first_broken bad_place block_bytes block_side halvings full_chain mip_side blocks tight
one-byte-more = refl

-- ---- a device beyond form 1: with a detail, another name of its texture, a token bound to that texture, and a spent one

abbrev pub other_name : Resource
other_name = under 9 its_texture

abbrev pub bound_token : Token
bound_token = record { name = 3; token = 0x100000002 }

abbrev pub spent_token : Token
spent_token = record { name = no_name; token = 5 }

abbrev pub names_kept : List Resource
names_kept = its_buffer ∷ its_texture ∷ other_name ∷ []

-- it used the bound token first
abbrev pub shared_device : State
shared_device = example_with 8 names_kept (bound_token ∷ spent_token ∷ [])

pub created-other : AsCreated other_name
unfolding block_bytes block_side halvings full_chain mip_side blocks tight rows mip_bytes offset_of good_shape good_backed texture_bytes packed_size
created-other = record { bytes = refl; shape = (refl, refl); offset = λ e. refl }

pub fits-other : FitsResource other_name
fits-other =
    record { handle = omega arith; kind = fits-texture.kind; bytes = omega arith; pitch = omega arith; backing = omega arith; offset = omega arith; lowest = omega arith }

pub sound-tokens : SoundTokens names_kept (bound_token ∷ spent_token ∷ [])
unfolding Every lookup
sound-tokens =
    record {
      few = omega arith;
      once = once-pushed token_of (bound_token ∷ []) spent_token (once-pushed token_of [] bound_token (once-nil token_of) refl) refl;
      some = refl;
      bound-to = λ token t e. every-found (SpentOrBound names_kept) token_of token (bound_token ∷ spent_token ∷ []) t e
          (λ some. record { what = its_texture; here = refl; lowest = refl; shape = refl }, (λ some. absurd (some refl), every-none (SpentOrBound names_kept)));
    }

-- form 1 has no field for it
pub shared-is-beyond-form-1 : call_save One shared_device lent ≡ not_saved not_in_form lent
unfolding other_name_among beyond_form_1 call_save
shared-is-beyond-form-1 = refl

-- in form 2 the detail stands after the error count, and two sections after the resources
pub shared_fields : saved_fields Two shared_device
    ≡ 2
    ∷ 22 ∷ 0x55504741 ∷ 65539 ∷ 7 ∷ 0 ∷ 4096 ∷ 0 ∷ 1024 ∷ 1 ∷ 12288 ∷ 0 ∷ 41 ∷ 0 ∷ 1 ∷ 3 ∷ 17 ∷ 40 ∷ 0 ∷ 2 ∷ 8 ∷ 65536 ∷ 0 ∷ 1
    ∷ 2
    ∷ 3 ∷ 2 ∷ 0 ∷ 0 ∷ 1 ∷ 4 ∷ 4 ∷ 1 ∷ 1 ∷ 16 ∷ 5 ∷ 0
    ∷ 7 ∷ 1 ∷ 4096 ∷ 0 ∷ 0 ∷ 0 ∷ 0 ∷ 0 ∷ 0 ∷ 0 ∷ 5 ∷ 64
    ∷ 1
    ∷ 9 ∷ 3
    ∷ 2
    ∷ 5 ∷ 0 ∷ 0
    ∷ 2 ∷ 1 ∷ 3
    ∷ []
unfolding next_above rising_above rising those resources_fields head_fields names_fields tokens_fields saved_fields
shared_fields = refl

-- and all of it is loaded
pub shared-is-loaded : call_load (made 0) (saved Two shared_device)
    ≡ record { answer = done; place = 0; state = example_with 8 (its_texture ∷ its_buffer ∷ other_name ∷ []) (spent_token ∷ bound_token ∷ []) }
unfolding next_above rising_above rising those resources_fields head_fields names_fields tokens_fields saved_fields file_of le bytes_of saved first_field before_sections sections lookup resources_rules names_rules tokens_rules section_3_rules section_4_rules sections_rules behind file_rules first_broken bad_place block_bytes block_side halvings full_chain mip_side blocks tight rows mip_bytes offset_of good_shape good_backed texture_bytes packed_size loaded_resource loaded_resources loaded_names loaded_tokens loaded_sections loaded call_load
shared-is-loaded = refl

-- ---- refused in form 2

-- a detail beside no error: at the detail
pub bad-detail : bad_place (over 64 (bytes_of 16 0) (saved Two shared_device)) ≡ found 80
unfolding next_above rising_above rising those resources_fields head_fields names_fields tokens_fields saved_fields file_of le bytes_of over saved first_field before_sections sections lookup resources_rules names_rules tokens_rules section_3_rules section_4_rules sections_rules behind file_rules first_broken bad_place block_bytes block_side halvings full_chain mip_side blocks tight loaded_resource loaded_resources
bad-detail = refl

-- another name that is a resource's own: at the other name
pub bad-other-name : bad_place (over 200 (bytes_of 4 7) (saved Two shared_device)) ≡ found 200
unfolding next_above rising_above rising those resources_fields head_fields names_fields tokens_fields saved_fields file_of le bytes_of over saved first_field before_sections sections lookup resources_rules names_rules tokens_rules section_3_rules section_4_rules sections_rules behind file_rules first_broken bad_place block_bytes block_side halvings full_chain mip_side blocks tight loaded_resource loaded_resources
bad-other-name = refl

-- another name of a buffer: at the lowest name
pub bad-lowest-name : bad_place (over 204 (bytes_of 4 7) (saved Two shared_device)) ≡ found 204
unfolding next_above rising_above rising those resources_fields head_fields names_fields tokens_fields saved_fields file_of le bytes_of over saved first_field before_sections sections lookup resources_rules names_rules tokens_rules section_3_rules section_4_rules sections_rules behind file_rules first_broken bad_place block_bytes block_side halvings full_chain mip_side blocks tight loaded_resource loaded_resources
bad-lowest-name = refl

-- a token that is not above the one before: at its HI word
pub bad_token : bad_place (over 224 (bytes_of 8 5) (saved Two shared_device)) ≡ found 228
unfolding next_above rising_above rising those resources_fields head_fields names_fields tokens_fields saved_fields file_of le bytes_of over saved first_field before_sections sections lookup resources_rules names_rules tokens_rules section_3_rules section_4_rules sections_rules behind file_rules first_broken bad_place block_bytes block_side halvings full_chain mip_side blocks tight loaded_resource loaded_resources
bad_token = refl

-- one bound to a name that is not the lowest
pub bad-binding : bad_place (over 232 (bytes_of 4 9) (saved Two shared_device)) ≡ found 232
unfolding next_above rising_above rising those resources_fields head_fields names_fields tokens_fields saved_fields file_of le bytes_of over saved first_field before_sections sections lookup resources_rules names_rules tokens_rules section_3_rules section_4_rules sections_rules behind file_rules first_broken bad_place block_bytes block_side halvings full_chain mip_side blocks tight loaded_resource loaded_resources
bad-binding = refl

-- ---- moved

-- an old file moves, and gets a number, a detail and two empty sections
pub old-is-moved : call_move (drop 4 (saved One example_device)) lent ≡ record { answer = done; length = 204; buffer = over 0 (saved Two example_device) lent }
unfolding next_above rising_above rising those resources_fields head_fields names_fields tokens_fields saved_fields file_of le bytes_of saved first_field before_sections sections lookup resources_rules names_rules tokens_rules section_3_rules section_4_rules sections_rules behind file_rules first_broken bad_place block_bytes block_side halvings full_chain mip_side blocks tight rows mip_bytes offset_of good_shape good_backed texture_bytes packed_size loaded_resource loaded_resources loaded_names loaded_tokens loaded_sections loaded other_name_among beyond_form_1 call_save call_move
old-is-moved = refl

pub moved_back : call_move (saved Two example_device) lent ≡ record { answer = done; length = 192; buffer = over 0 (saved One example_device) lent }
unfolding next_above rising_above rising those resources_fields head_fields names_fields tokens_fields saved_fields file_of le bytes_of saved first_field before_sections sections lookup resources_rules names_rules tokens_rules section_3_rules section_4_rules sections_rules behind file_rules first_broken bad_place block_bytes block_side halvings full_chain mip_side blocks tight rows mip_bytes offset_of good_shape good_backed texture_bytes packed_size loaded_resource loaded_resources loaded_names loaded_tokens loaded_sections loaded other_name_among beyond_form_1 call_save call_move
moved_back = refl

-- "else 8 .. and nothing written"
pub shared-is-not-moved : call_move (saved Two shared_device) lent ≡ not_saved not_in_form lent
unfolding next_above rising_above rising those resources_fields head_fields names_fields tokens_fields saved_fields file_of le bytes_of saved first_field before_sections sections lookup resources_rules names_rules tokens_rules section_3_rules section_4_rules sections_rules behind file_rules first_broken bad_place block_bytes block_side halvings full_chain mip_side blocks tight rows mip_bytes offset_of good_shape good_backed texture_bytes packed_size loaded_resource loaded_resources loaded_names loaded_tokens loaded_sections loaded other_name_among beyond_form_1 call_save call_move
shared-is-not-moved = refl
