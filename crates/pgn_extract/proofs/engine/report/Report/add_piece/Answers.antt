use Rattle.pgn_extract.proofs.Common.{◌≡◌, false, sym, ap, subst, on_ok_weaker, piece_place, aim_of}
use Rattle.pgn_extract.proofs.Common.{is_chosen, id_at}
use Rattle.pgn_text.specs.declared.game.pieces.Piece.{Piece}
use Rattle.pgn_extract.proofs.ChoiceFacts.{passed_by, taken_by}
use Rattle.pgn_extract.proofs.engine.GameVerdict.{piece_game, piece_passed, piece_unreadable}
use Rattle.pgn_extract.proofs.engine.report.Report.add_piece.Goals as goal

pub returns-then-passes_over : goal.returns-then-passes_over
returns-then-passes_over c =
    let aim = aim_of c.args.context.settings.now in
    let id = c.args.context.id in
    let passed = passed_by (is_chosen aim.chosen (id_at id c.at.result)) c.passes_over.result
    c.passes_over.ensures.passed c.if-passes_over.true in
    let there = subst (λ n. is_chosen aim.chosen (id_at id n) ≡ false) c.at.ensures passed in
    let held = c.passes_over.ensures in
    piece_passed aim id c.args.context.bytes.now c.args.piece
    (subst (λ (p : Piece). is_chosen aim.chosen (id_at id (piece_place p))
    ≡ false) (sym c.in-Game.is) there) held.output held.faults held.counts.0 held.counts.1

pub returns-then-passes_over-2 : goal.returns-then-passes_over-2
returns-then-passes_over-2 c =
    let aim = aim_of c.args.context.settings.now in
    let id = c.args.context.id in
    let held = c.passes_over-in-Unreadable.ensures in
    let passed = passed_by (is_chosen aim.chosen (id_at id c.in-Unreadable.at))
    c.passes_over-in-Unreadable.result held.passed c.if-passes_over-2.true in
    piece_passed aim id c.args.context.bytes.now c.args.piece
    (subst (λ (p : Piece). is_chosen aim.chosen (id_at id (piece_place p))
    ≡ false) (sym c.in-Unreadable.is) passed) held.output held.faults held.counts.0
    held.counts.1

pub returns-else-passes_over : goal.returns-else-passes_over
returns-else-passes_over c =
    let aim = aim_of c.args.context.settings.now in
    let id = c.args.context.id in
    let held = c.passes_over.ensures in
    let taken =
    taken_by (is_chosen aim.chosen (id_at id c.at.result)) c.passes_over.result held.passed
    c.if-passes_over.false in
    on_ok_weaker c.add_game.result
    (λ adds.
    piece_game aim id (id_at id c.at.result) c.args.context.bytes.now c.args.piece
    c.in-Game.game c.in-Game.is
    (ap (id_at id) c.at.ensures) taken adds held.output held.faults held.counts.0 held.counts.1)
    c.add_game.ensures

pub returns-else-passes_over-2 : goal.returns-else-passes_over-2
returns-else-passes_over-2 c =
    let aim = aim_of c.args.context.settings.now in
    let id = c.args.context.id in
    let held = c.passes_over-in-Unreadable.ensures in
    let taken = taken_by (is_chosen aim.chosen (id_at id c.in-Unreadable.at))
    c.passes_over-in-Unreadable.result held.passed c.if-passes_over-2.false in
    on_ok_weaker c.add_unreadable.result
    (λ adds.
    piece_unreadable aim id c.args.context.bytes.now c.args.piece c.in-Unreadable.at adds.0
    c.in-Unreadable.is taken adds.1 adds.2 held.output held.faults held.counts.0 held.counts.1)
    c.add_unreadable.ensures
