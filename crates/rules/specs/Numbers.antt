-- The numbers of document 01, and of the wishes of 02, that have a meaning of their own, each named once. Offsets of fields stand in Layouts.
use Rattle.std.specs.Prelude.{ℕ}

-- ---- errors

abbrev pub bad_ring : ℕ
bad_ring = 10

abbrev pub bad_descriptor : ℕ
bad_descriptor = 11

abbrev pub outside_memory : ℕ
outside_memory = 12

abbrev pub bad_table : ℕ
bad_table = 13

abbrev pub bad_entry : ℕ
bad_entry = 14

abbrev pub twice_in_table : ℕ
twice_in_table = 15

abbrev pub bad_stream : ℕ
bad_stream = 16

abbrev pub bad_packet : ℕ
bad_packet = 17

abbrev pub bad_handle : ℕ
bad_handle = 18

abbrev pub too_many : ℕ
too_many = 19

abbrev pub bad_shape : ℕ
bad_shape = 20

abbrev pub not_in_table : ℕ
not_in_table = 21

abbrev pub past_entry : ℕ
past_entry = 22

abbrev pub read_only : ℕ
read_only = 23

abbrev pub past_resource : ℕ
past_resource = 24

abbrev pub host_backed : ℕ
host_backed = 25

abbrev pub bad_copy : ℕ
bad_copy = 26

abbrev pub host_failed : ℕ
host_failed = 27

-- "28 and 29 join 01's errors" (02, wish 5): what export says of a token, and what import and release say
abbrev pub bad_token : ℕ
bad_token = 28

abbrev pub unbound_token : ℕ
unbound_token = 29

-- "Error 30" (02, wish 7)
abbrev pub bad_state : ℕ
bad_state = 30

-- ---- what stands for a place or a name that there is not

-- "else 0" (02, wish 9): what stands for a place where no entry and no packet broke a rule
abbrev pub no_place : ℕ
no_place = 0

-- what stands for a name where there is none: a token that has it is spent
abbrev pub no_name : ℕ
no_name = 0

-- ---- limits

-- entries of a table, names of live resources, records of a submission
abbrev pub most : ℕ
most = 64

-- "At most 256 tokens" (02, wish 5)
abbrev pub most_tokens : ℕ
most_tokens = 256

-- "a power of two, 1 to 1,024": 2 to the tenth at most
abbrev pub slot_doublings : ℕ
slot_doublings = 10

abbrev pub longest_side : ℕ
longest_side = 16384

-- it is 2 ^ 14, so no side is halved more often until it is 1
abbrev pub most_halvings : ℕ
most_halvings = 14

abbrev pub most_layers : ℕ
most_layers = 256

-- "clear flags above 7" (02, wish 7)
abbrev pub most_flags : ℕ
most_flags = 7

-- ---- magics, each the little-endian number of its four bytes, and the version

-- "ARNG"
abbrev pub ring_magic : ℕ
ring_magic = 0x474e5241

-- "ALOC"
abbrev pub table_magic : ℕ
table_magic = 0x434f4c41

-- "ACMD"
abbrev pub stream_magic : ℕ
stream_magic = 0x444d4341

-- "FENC"
abbrev pub page_magic : ℕ
page_magic = 0x434e4546

-- "AGPU"
abbrev pub device_magic : ℕ
device_magic = 0x55504741

-- 1.3, the major in the high 16 bits
abbrev pub version : ℕ
version = 65539

abbrev pub features : ℕ
features = 7

-- "A version is good when its major is 1": what a version is divided by, and the major
abbrev pub minors : ℕ
minors = 65536

abbrev pub good_major : ℕ
good_major = 1

-- ---- opcodes

abbrev pub create_buffer : ℕ
create_buffer = 256

abbrev pub create_texture : ℕ
create_texture = 257

abbrev pub destroy : ℕ
destroy = 258

abbrev pub dirty_range : ℕ
dirty_range = 259

abbrev pub copy_buffer : ℕ
copy_buffer = 261

-- those of 02, wish 7
abbrev pub set_target : ℕ
set_target = 1024

abbrev pub set_viewport : ℕ
set_viewport = 1025

abbrev pub set_scissor : ℕ
set_scissor = 1026

abbrev pub clear : ℕ
clear = 1536

-- those of 02, wish 5
abbrev pub export_surface : ℕ
export_surface = 1808

abbrev pub import_surface : ℕ
import_surface = 1809

abbrev pub release_token : ℕ
release_token = 1810

-- ---- the bytes of each packet that we know

abbrev pub create_buffer_size : ℕ
create_buffer_size = 40

abbrev pub create_texture_size : ℕ
create_texture_size = 56

abbrev pub destroy_size : ℕ
destroy_size = 16

abbrev pub dirty_range_size : ℕ
dirty_range_size = 32

abbrev pub copy_buffer_size : ℕ
copy_buffer_size = 48

abbrev pub set_target_size : ℕ
set_target_size = 16

abbrev pub set_viewport_size : ℕ
set_viewport_size = 32

abbrev pub set_scissor_size : ℕ
set_scissor_size = 24

abbrev pub clear_size : ℕ
clear_size = 36

abbrev pub export_surface_size : ℕ
export_surface_size = 24

abbrev pub import_surface_size : ℕ
import_surface_size = 24

abbrev pub release_token_size : ℕ
release_token_size = 16

-- ---- kinds of record

abbrev pub backs : ℕ
backs = 1

abbrev pub reads : ℕ
reads = 2

abbrev pub writes : ℕ
writes = 3

abbrev pub clips : ℕ
clips = 4

-- ---- call answers

abbrev pub done : ℕ
done = 0

-- "lent memory has another length than at making"
abbrev pub other_memory : ℕ
other_memory = 1

-- "no such register, or not readable/writable"
abbrev pub no_register : ℕ
no_register = 2

-- "host answer, nothing waiting"
abbrev pub nothing_waits : ℕ
nothing_waits = 3

-- "record index not below the count, or nothing waiting"
abbrev pub no_record : ℕ
no_record = 4

-- those of 02, wish 1: "Saving while a submission is in work"
abbrev pub in_work : ℕ
in_work = 5

-- "a buffer too short"
abbrev pub too_short : ℕ
too_short = 6

-- "a field is missing or breaks a rule, or a byte follows the last"
abbrev pub bad_file : ℕ
bad_file = 7

-- "Saving in form 1 answers 8 .. once any token was used" (wish 5), and "while detail is non-zero" (wish 9): the form has no field for these
abbrev pub not_in_form : ℕ
not_in_form = 8

-- "an addition that would reach it is refused with 9" (02, wish 13)
abbrev pub too_much : ℕ
too_much = 9

-- "is refused first, with 10"
abbrev pub bad_feed : ℕ
bad_feed = 10

-- ---- kinds of a saved resource: 1 a buffer, 2 a texture (docs/SAVED-DESK.md)

abbrev pub buffer_kind : ℕ
buffer_kind = 1

abbrev pub texture_kind : ℕ
texture_kind = 2
