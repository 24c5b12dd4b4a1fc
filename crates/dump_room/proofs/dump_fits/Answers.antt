-- `dump_fits` meets its contract. Assumes nothing.
use Rattle.dump_room.specs.Fitting.{fitting}
use Rattle.dump_room.proofs.dump_fits.Goals as goal

pub returns-then-ample : goal.returns-then-ample
returns-then-ample c = search fitting

pub put_error-requires : goal.put_error-requires
put_error-requires c = search fitting

pub slice_bounds-packets_fit-end-in-Ok : goal.slice_bounds-packets_fit-end-in-Ok
slice_bounds-packets_fit-end-in-Ok c = search fitting

pub returns-in-Err : goal.returns-in-Err
returns-in-Err c = search fitting

pub returns-in-Ok : goal.returns-in-Ok
returns-in-Ok c = search fitting
