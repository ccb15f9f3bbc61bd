use Rattle.std.proofs.lemmas.Result.{on_err_weaker}
use Rattle.pgn_extract.proofs.Common.{◌≡◌, false, ap, inl, inr, subst, on_ok_weaker}
use Rattle.pgn_extract.proofs.Common.{err_from_is_err_and}
use Rattle.pgn_extract.proofs.Common.{[], IfSome, SoundGame, FaultyGame, aim_of, cause_text}
use Rattle.pgn_extract.proofs.Common.{fault_text}
use Rattle.pgn_extract.proofs.Common.{fen_tag, id_at, is_chosen, tag_in}
use Rattle.pgn_game.specs.Public.Faults.{IsFault}
use Rattle.pgn_game.specs.declared.replays.replayer.Lines.TheVariants.{All}
use Rattle.pgn_text.specs.declared.game.pieces.Piece.TheVariants as given
use Rattle.pgn_extract.proofs.BlockWritten.{front_none}
use Rattle.pgn_extract.proofs.ChoiceFacts.{passed_by, taken_by}
use Rattle.pgn_extract.proofs.engine.Gathered.{adds_passing}
use Rattle.pgn_extract.proofs.engine.GameVerdict.{piece_passed}
use Rattle.pgn_extract.proofs.engine.LineVerdicts.{counted_begun, counted_passing, fault_verdict}
use Rattle.pgn_extract.proofs.engine.LineVerdicts.{lines_verdict, of_game, piece_gathered}
use Rattle.pgn_extract.proofs.engine.piecewise.put_game.Goals as goal

pub returns-then-passes_over-clause-done : goal.returns-then-passes_over-clause-done
returns-then-passes_over-clause-done g c =
    let aim = aim_of c.args.context.settings.now in
    let id = c.args.context.id in
    let held = c.passes_over.ensures in
    let passed = passed_by (is_chosen aim.chosen (id_at id c.at.result)) c.passes_over.result
    held.passed c.if-passes_over.true in
    piece_gathered aim _ _ id c.args.context.bytes.now (given.Game c.args.game) _ _
    (piece_passed aim id c.args.context.bytes.now (given.Game c.args.game)
    (subst (λ n. is_chosen aim.chosen (id_at id n) ≡ false) c.at.ensures passed)
    held.output held.faults held.counts.0 held.counts.1)

pub returns-in-Ok-clause-done : goal.returns-in-Ok-clause-done
returns-in-Ok-clause-done g c =
    let aim = aim_of c.args.context.settings.now in
    let id = c.args.context.id in
    let own = id_at id c.at.result in
    let held = c.passes_over.ensures in
    let taken = taken_by (is_chosen aim.chosen own) c.passes_over.result held.passed
    c.if-passes_over.false in
    on_ok_weaker c.put_lines.result (λ (text, exports, passes).
    of_game aim id own c.args.context.bytes.now c.args.game _ (ap (id_at id) c.at.ensures) taken
    (SoundGame text)
    (lines_verdict aim c.requires.lines own c.args.game c.invariant.ensures text c.in-Ok.ensures
    exports)
    (counted_passing held.output held.faults held.counts.0 held.counts.1 passes))
    c.put_lines.ensures.done

pub returns-in-Ok-clause-stopped : goal.returns-in-Ok-clause-stopped
returns-in-Ok-clause-stopped g c =
    let aim = aim_of c.args.context.settings.now in
    let id = c.args.context.id in
    let own = id_at id c.at.result in
    let held = c.passes_over.ensures in
    let taken = taken_by (is_chosen aim.chosen own) c.passes_over.result held.passed
    c.if-passes_over.false in
    on_err_weaker c.put_lines.result (λ (text, exports, begins).
    inr (of_game aim id own c.args.context.bytes.now c.args.game _ (ap (id_at id) c.at.ensures)
    taken (SoundGame text)
    (lines_verdict aim c.requires.lines own c.args.game c.invariant.ensures text c.in-Ok.ensures
    exports)
    (counted_begun held.output held.faults begins)))
    c.put_lines.ensures.stopped

pub returns-in_err-add_fault-in-Err-clause-stopped : goal.returns-in_err-add_fault-in-Err-clause-stopped
returns-in_err-add_fault-in-Err-clause-stopped g c =
    let p = err_from_is_err_and c.from_residual.result c.from_residual.ensures.1 in
    rw p.1 (inl (front_none _ _, front_none _ _))

pub returns-clause-done : goal.returns-clause-done
returns-clause-done g c =
    let settings = c.args.context.settings.now in
    let aim = aim_of settings in
    let id = c.args.context.id in
    let game = c.args.game in
    let own = id_at id c.at.result in
    let held = c.passes_over.ensures in
    let taken = taken_by (is_chosen aim.chosen own) c.passes_over.result held.passed
    c.if-passes_over.false in
    let (fault, note, is, noted, adds) = c.in_ok-add_fault-in-Err.ensures in
    of_game aim id own c.args.context.bytes.now game _ (ap (id_at id) c.at.ensures) taken
    (FaultyGame [] (fault_text settings.name own (cause_text fault)) note)
    (fault_verdict aim c.requires.lines own game c.invariant.ensures fault note
    (subst (λ o. IfSome o (IsFault All (tag_in fen_tag game.tags) game.elements)) is
    c.in-Err.ensures) noted)
    (counted_passing held.output held.faults held.counts.0 held.counts.1
    (adds_passing _ _ adds))
