-- `move_form` meets its contract. Assumes nothing.
use Rattle.saved_move.specs.Moving.{moving, does_move}
use Rattle.saved_move.proofs.move_form.Goals as goal

pub returns-in-Err : goal.returns-in-Err
returns-in-Err c = search moving

pub returns : goal.returns
returns c = does_move _ _ _ _ _ _ _ _ _ c.load.ensures _ _ _ _ _ c.in-Ok.is c.form_in.ensures c.other_form-form.ensures c.save.ensures
