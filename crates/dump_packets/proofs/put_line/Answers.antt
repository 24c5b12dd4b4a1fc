-- `put_line` meets its contract. Assumes nothing.
use Rattle.dump_packets.specs.Packets.{line_buffer, line_texture, line_destroy, line_dirty, Line-copy, line_target, line_viewport, line_scissor, Line-clear, line_export, line_import, line_release, line_unknown}
use Rattle.dump_packets.proofs.put_line.Goals as goal

pub put_buffer-requires : goal.put_buffer-requires
put_buffer-requires c = record { create_buffer_size_in_bounds = search line_buffer; part_in_bounds = search line_buffer }

pub put_texture-requires : goal.put_texture-requires
put_texture-requires c = record { create_texture_size_in_bounds = search line_texture; part_in_bounds = search line_texture }

pub put_destroy-requires : goal.put_destroy-requires
put_destroy-requires c = record { destroy_size_in_bounds = search line_destroy; part_in_bounds = search line_destroy }

pub put_dirty-requires : goal.put_dirty-requires
put_dirty-requires c = record { dirty_range_size_in_bounds = search line_dirty; part_in_bounds = search line_dirty }

pub put_copy-requires : goal.put_copy-requires
put_copy-requires c = record { copy_buffer_size_in_bounds = search Line-copy; part_in_bounds = search Line-copy }

pub put_target-requires : goal.put_target-requires
put_target-requires c = record { set_target_size_in_bounds = search line_target; part_in_bounds = search line_target }

pub put_viewport-requires : goal.put_viewport-requires
put_viewport-requires c = record { set_viewport_size_in_bounds = search line_viewport; part_in_bounds = search line_viewport }

pub put_scissor-requires : goal.put_scissor-requires
put_scissor-requires c = record { set_scissor_size_in_bounds = search line_scissor; part_in_bounds = search line_scissor }

pub put_clear-requires : goal.put_clear-requires
put_clear-requires c = record { clear_size_in_bounds = search Line-clear; part_in_bounds = search Line-clear }

pub put_export-requires : goal.put_export-requires
put_export-requires c = record { export_surface_size_in_bounds = search line_export; part_in_bounds = search line_export }

pub put_import-requires : goal.put_import-requires
put_import-requires c = record { import_surface_size_in_bounds = search line_import; part_in_bounds = search line_import }

pub put_release-requires : goal.put_release-requires
put_release-requires c = record { release_token_size_in_bounds = search line_release; part_in_bounds = search line_release }

pub put_unknown-requires : goal.put_unknown-requires
put_unknown-requires c = search line_unknown

pub returns-in-256 : goal.returns-in-256
returns-in-256 c = search line_buffer

pub returns-in-257 : goal.returns-in-257
returns-in-257 c = search line_texture

pub returns-in-258 : goal.returns-in-258
returns-in-258 c = search line_destroy

pub returns-in-259 : goal.returns-in-259
returns-in-259 c = search line_dirty

pub returns-in-261 : goal.returns-in-261
returns-in-261 c = search Line-copy

pub returns-in-1024 : goal.returns-in-1024
returns-in-1024 c = search line_target

pub returns-in-1025 : goal.returns-in-1025
returns-in-1025 c = search line_viewport

pub returns-in-1026 : goal.returns-in-1026
returns-in-1026 c = search line_scissor

pub returns-in-1536 : goal.returns-in-1536
returns-in-1536 c = search Line-clear

pub returns-in-1808 : goal.returns-in-1808
returns-in-1808 c = search line_export

pub returns-in-1809 : goal.returns-in-1809
returns-in-1809 c = search line_import

pub returns-in-1810 : goal.returns-in-1810
returns-in-1810 c = search line_release

pub returns-in_default : goal.returns-in_default
returns-in_default c = search line_unknown
