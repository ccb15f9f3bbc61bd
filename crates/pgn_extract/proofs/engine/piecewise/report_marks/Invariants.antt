use Rattle.pgn_extract.proofs.Common.{◌≡◌, false, aim_of, game_id}
use Rattle.pgn_extract.proofs.engine.Indexed.{Indexed}
use Rattle.pgn_extract.proofs.engine.piecewise.report_marks.Given as goal

abbrev pub invariant-loop-mark : goal.invariant-loop-mark
invariant-loop-mark g l =
    Indexed (aim_of l.work.settings.now) l.initial.mark-iterator l.mark-iterator l.report
    (game_id l.work.number l.offset)
    (g.O.Write.contents l.fn.out.inner) (g.O.Write.contents l.out.inner)
    (g.E.Write.contents l.fn.err.inner) (g.E.Write.contents l.err.inner)
    × (l.out.faulted ≡ false) × (l.err.faulted ≡ false)
