-- The movetext is played from the start of the game.
use Rattle.pgn_game.proofs.Common.{inl, inr, subst, IfSome_then, IfErr-weaker, IfSome, fault_of}
use Rattle.pgn_game.proofs.Common.{err_from_is_err_and, tag_in, fen_tag, lines_with, HasLineFault}
use Rattle.pgn_game.proofs.Common.{IsFault, IsBadStart}
use Rattle.std.proofs.lemmas.Result.{IfOk-weaker}
use Rattle.pgn_game.proofs.exports.MovetextLines.{written_sound}
use Rattle.pgn_game.proofs.exports.exporter.follow_export.Goals as goal

pub returns-clause-text : goal.returns-clause-text
returns-clause-text c =
    let is_start = rw c.tags.ensures.tags at c.in_ok-start.ensures in
    IfOk-weaker c.follow_movetext.result _ _ (λ followed is. (c.in_ok-start.start, is_start, is))
    c.follow_movetext.ensures.text

pub returns-clause-sound : goal.returns-clause-sound
returns-clause-sound c =
    let game = c.args.game.now in
    let is_start = rw c.tags.ensures.tags at c.in_ok-start.ensures in
    IfOk-weaker c.follow_movetext.result _ _ (λ followed (tokens, are_tokens, laid).
    written_sound c.args.style.now (tag_in fen_tag game.tags) c.in_ok-start.start game.elements
    game.result tokens is_start are_tokens) c.follow_movetext.ensures.text

pub returns-in_err-start-clause-fault : goal.returns-in_err-start-clause-fault
returns-in_err-start-clause-fault c =
    let p = err_from_is_err_and c.from_residual.result c.from_residual.ensures.1 in
    rw (p.1, p.2) (IfSome_then (fault_of c.in_err-start.field-0.0) c.in_err-start.ensures
    (λ fault bad.
    inl (subst (λ tags. IsBadStart (tag_in fen_tag tags)) c.tags.ensures.tags bad.0, bad.1)))

pub returns-clause-fault : goal.returns-clause-fault
returns-clause-fault c =
    let lines = lines_with c.args.style.now.variations in
    let game = c.args.game.now in
    let start = c.in_ok-start.start in
    let is_start = rw c.tags.ensures.tags at c.in_ok-start.ensures in
    IfErr-weaker c.follow_movetext.result
    (λ fault. IfSome (fault_of fault) (HasLineFault lines start game.elements))
    (λ fault. IfSome (fault_of fault) (IsFault lines (tag_in fen_tag game.tags) game.elements))
    (λ fault met. IfSome_then (fault_of fault) met (λ f has. inr (start, is_start, has)))
    c.follow_movetext.ensures.fault
