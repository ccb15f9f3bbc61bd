use Rattle.pgn_extract.proofs.Common.{◌∷◌, [], refl, sym, subst, on_ok_weaker, indented}
use Rattle.pgn_extract.proofs.NoteLines.{IsLine, line_note}
use Rattle.pgn_extract.proofs.explain.move_notes.push_start_note.Goals as goal

pub returns : goal.returns
returns c =
    let line = c.as_slice.result.now in
    let whole = subst IsLine (sym c.as_slice.ensures.value)
    (c.in_ok-push_shown.ensures
    (c.in_ok-push_spot.ensures (subst IsLine (sym c.new-line.ensures.items) refl))) in
    on_ok_weaker c.push_line.result (λ is.
    (indented (line ∷ []), line_note line whole, is)) c.push_line.ensures
