use Rattle.std.proofs.Common.{◌∷◌, [], sym, subst}
use Rattle.pgn_extract.proofs.NoteLines.{IsLine, line_join, shown_line}
use Rattle.pgn_extract.proofs.explain.move_notes.push_shown.Goals as goal

pub loop-byte-preserved : goal.loop-byte-preserved
loop-byte-preserved c before =
    subst IsLine (sym c.in_ok-push.ensures.items)
    (line_join c.loop-byte.line.items (c.shown.result
    ∷ []) (c.loop-byte.invariant before) (shown_line c.shown.result c.shown.ensures))
