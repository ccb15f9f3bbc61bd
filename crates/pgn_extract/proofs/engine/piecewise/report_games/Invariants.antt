use Rattle.pgn_extract.proofs.Common.{◌≡◌, false, aim_of, game_id}
use Rattle.pgn_extract.proofs.engine.Listed.{Listed}
use Rattle.pgn_extract.proofs.engine.piecewise.report_games.Given as goal

abbrev pub invariant-loop-piece : goal.invariant-loop-piece
invariant-loop-piece g l =
    Listed (aim_of l.work.settings.now) l.initial.piece-iterator l.piece-iterator l.report
    (game_id l.work.number l.offset)
    (g.O.Write.contents l.fn.out.inner) (g.O.Write.contents l.out.inner)
    (g.E.Write.contents l.fn.err.inner) (g.E.Write.contents l.err.inner)
    × (l.out.faulted ≡ false) × (l.err.faulted ≡ false)
