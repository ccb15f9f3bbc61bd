use Rattle.pgn_extract.proofs.Common.{err_from_is_err_and}
use Rattle.pgn_extract.proofs.app.EditTexts.{set_fault}
use Rattle.pgn_extract.proofs.app.edits.valued.Goals as goal

pub returns-in_err-edit : goal.returns-in_err-edit
returns-in_err-edit c = λ text parted.
    let p = err_from_is_err_and c.from_residual.result c.from_residual.ensures.1 in
    rw (p.1, p.2) (set_fault text c.args.name.now c.args.value.now c.in_err-edit.field-0.0 parted
    c.in_err-edit.ensures)
