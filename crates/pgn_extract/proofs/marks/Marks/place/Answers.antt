use Rattle.std.proofs.Common.{sym}
use Rattle.pgn_extract.proofs.marks.MarkOrder.{found, not_found}
use Rattle.pgn_extract.proofs.marks.Marks.place.Goals as goal

pub returns-in-Ok : goal.returns-in-Ok
returns-in-Ok c =
    sym
    (rw (← c.self.view_is)
    (found c.self.inside.pairs.items c.self.invariant c.args.id c.in-Ok.place
    (rw (← c.deref.ensures.value) c.in-Ok.ensures.bound)
    (rw (← c.deref.ensures.value) c.in-Ok.ensures.position)))

pub returns-in-Err : goal.returns-in-Err
returns-in-Err c =
    sym
    (rw (← c.self.view_is)
    (not_found c.self.inside.pairs.items c.self.invariant c.args.id c.in-Err.field-0
    (rw (← c.deref.ensures.value) c.in-Err.ensures.position)))
