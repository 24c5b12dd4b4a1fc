-- `read_part` meets its contract. Assumes nothing.
use Rattle.stream_opcodes.specs.Opcodes.{reading_part}
use Rattle.stream_opcodes.proofs.read_part.Goals as goal

pub returns-then-size-lt-CREATE_BUFFER_SIZE : goal.returns-then-size-lt-CREATE_BUFFER_SIZE
returns-then-size-lt-CREATE_BUFFER_SIZE c = search reading_part

pub returns-then-size-lt-CREATE_TEXTURE_SIZE : goal.returns-then-size-lt-CREATE_TEXTURE_SIZE
returns-then-size-lt-CREATE_TEXTURE_SIZE c = search reading_part

pub returns-then-size-lt-DESTROY_SIZE : goal.returns-then-size-lt-DESTROY_SIZE
returns-then-size-lt-DESTROY_SIZE c = search reading_part

pub returns-then-size-lt-DIRTY_RANGE_SIZE : goal.returns-then-size-lt-DIRTY_RANGE_SIZE
returns-then-size-lt-DIRTY_RANGE_SIZE c = search reading_part

pub returns-then-size-lt-COPY_BUFFER_SIZE : goal.returns-then-size-lt-COPY_BUFFER_SIZE
returns-then-size-lt-COPY_BUFFER_SIZE c = search reading_part

pub returns-then-size-lt-SET_TARGET_SIZE : goal.returns-then-size-lt-SET_TARGET_SIZE
returns-then-size-lt-SET_TARGET_SIZE c = search reading_part

pub returns-then-size-lt-SET_VIEWPORT_SIZE : goal.returns-then-size-lt-SET_VIEWPORT_SIZE
returns-then-size-lt-SET_VIEWPORT_SIZE c = search reading_part

pub returns-then-size-lt-SET_SCISSOR_SIZE : goal.returns-then-size-lt-SET_SCISSOR_SIZE
returns-then-size-lt-SET_SCISSOR_SIZE c = search reading_part

pub returns-then-size-lt-CLEAR_SIZE : goal.returns-then-size-lt-CLEAR_SIZE
returns-then-size-lt-CLEAR_SIZE c = search reading_part

pub returns-then-size-lt-EXPORT_SURFACE_SIZE : goal.returns-then-size-lt-EXPORT_SURFACE_SIZE
returns-then-size-lt-EXPORT_SURFACE_SIZE c = search reading_part

pub returns-then-size-lt-IMPORT_SURFACE_SIZE : goal.returns-then-size-lt-IMPORT_SURFACE_SIZE
returns-then-size-lt-IMPORT_SURFACE_SIZE c = search reading_part

pub returns-then-size-lt-RELEASE_TOKEN_SIZE : goal.returns-then-size-lt-RELEASE_TOKEN_SIZE
returns-then-size-lt-RELEASE_TOKEN_SIZE c = search reading_part

pub returns-else-size-lt-CREATE_BUFFER_SIZE : goal.returns-else-size-lt-CREATE_BUFFER_SIZE
returns-else-size-lt-CREATE_BUFFER_SIZE c = search reading_part

pub returns-else-size-lt-CREATE_TEXTURE_SIZE : goal.returns-else-size-lt-CREATE_TEXTURE_SIZE
returns-else-size-lt-CREATE_TEXTURE_SIZE c = search reading_part

pub returns-else-size-lt-DESTROY_SIZE : goal.returns-else-size-lt-DESTROY_SIZE
returns-else-size-lt-DESTROY_SIZE c = search reading_part

pub returns-else-size-lt-DIRTY_RANGE_SIZE : goal.returns-else-size-lt-DIRTY_RANGE_SIZE
returns-else-size-lt-DIRTY_RANGE_SIZE c = search reading_part

pub returns-else-size-lt-COPY_BUFFER_SIZE : goal.returns-else-size-lt-COPY_BUFFER_SIZE
returns-else-size-lt-COPY_BUFFER_SIZE c = search reading_part

pub returns-else-size-lt-SET_TARGET_SIZE : goal.returns-else-size-lt-SET_TARGET_SIZE
returns-else-size-lt-SET_TARGET_SIZE c = search reading_part

pub returns-else-size-lt-SET_VIEWPORT_SIZE : goal.returns-else-size-lt-SET_VIEWPORT_SIZE
returns-else-size-lt-SET_VIEWPORT_SIZE c = search reading_part

pub returns-else-size-lt-SET_SCISSOR_SIZE : goal.returns-else-size-lt-SET_SCISSOR_SIZE
returns-else-size-lt-SET_SCISSOR_SIZE c = search reading_part

pub returns-else-size-lt-CLEAR_SIZE : goal.returns-else-size-lt-CLEAR_SIZE
returns-else-size-lt-CLEAR_SIZE c = search reading_part

pub returns-else-size-lt-EXPORT_SURFACE_SIZE : goal.returns-else-size-lt-EXPORT_SURFACE_SIZE
returns-else-size-lt-EXPORT_SURFACE_SIZE c = search reading_part

pub returns-else-size-lt-IMPORT_SURFACE_SIZE : goal.returns-else-size-lt-IMPORT_SURFACE_SIZE
returns-else-size-lt-IMPORT_SURFACE_SIZE c = search reading_part

pub returns-else-size-lt-RELEASE_TOKEN_SIZE : goal.returns-else-size-lt-RELEASE_TOKEN_SIZE
returns-else-size-lt-RELEASE_TOKEN_SIZE c = search reading_part

pub returns-in_default : goal.returns-in_default
returns-in_default c = search reading_part
