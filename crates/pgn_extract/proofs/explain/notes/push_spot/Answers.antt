use Rattle.pgn_extract.proofs.Common.{refl, codes, on_ok_weaker}
use Rattle.pgn_extract.proofs.NoteLines.{number_kept}
use Rattle.pgn_extract.proofs.explain.notes.push_spot.Goals as goal

pub returns-in_default : goal.returns-in_default
returns-in_default c =
    on_ok_weaker c.push_number.result (λ is line.
    number_kept c.args.text.now.items c.push_number.new.text.items (codes "byte ") _ refl is
    line)
    c.push_number.ensures

pub returns : goal.returns
returns c =
    on_ok_weaker c.push_number-4.result
    (λ is line.
    number_kept c.push_number-3.new.text.items c.push_number-4.new.text.items (codes ", byte ") _
    refl is
    (number_kept c.push_number-2.new.text.items c.push_number-3.new.text.items (codes ", column ") _
    refl c.in_ok-push_number-2.ensures
    (number_kept c.args.text.now.items c.push_number-2.new.text.items (codes "line ") _ refl
    c.in_ok-push_number.ensures line)))
    c.push_number-4.ensures
