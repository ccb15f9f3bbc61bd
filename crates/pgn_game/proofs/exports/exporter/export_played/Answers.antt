use Rattle.pgn_game.proofs.Common.{inl, inr, subst, IfSome, IfSome_then, on_ok_weaker}
use Rattle.pgn_game.proofs.Common.{err_from_is_err_and, IfErr-weaker, tag_in, lines_with}
use Rattle.pgn_game.proofs.Common.{HasLineFault, IsFault, fault_of, fen_tag, IsBadStart}
use Rattle.pgn_game.proofs.exports.MovetextLines.{written_sound}
use Rattle.pgn_game.proofs.exports.exporter.export_played.Goals as goal

pub returns-in_err-start-clause-fault : goal.returns-in_err-start-clause-fault
returns-in_err-start-clause-fault c =
    let p = err_from_is_err_and c.from_residual.result c.from_residual.ensures.1 in
    rw (p.1, p.2) (IfSome_then (fault_of c.in_err-start.field-0.0) c.in_err-start.ensures
    (λ fault bad.
    inl (subst (λ tags. IsBadStart (tag_in fen_tag tags)) c.tags.ensures.tags bad.0, bad.1)))

pub put_or_leave-requires : goal.put_or_leave-requires
put_or_leave-requires c = rw (← c.tags.ensures.tags) c.in_ok-start.ensures

pub returns-clause-sound : goal.returns-clause-sound
returns-clause-sound c =
    let style = c.args.style.now in
    let game = c.args.game.now in
    on_ok_weaker c.put_or_leave.result
    (λ put. written_sound style (tag_in fen_tag game.tags) put.1.start game.elements game.result
    put.1.tokens put.1.is_start put.1.are_tokens)
    c.put_or_leave.ensures.text

pub returns-clause-fault : goal.returns-clause-fault
returns-clause-fault c =
    let lines = lines_with c.args.style.now.variations in
    let game = c.args.game.now in
    let start = c.in_ok-start.start in
    let is_start = rw c.tags.ensures.tags at c.in_ok-start.ensures in
    IfErr-weaker c.put_or_leave.result
    (λ fault. IfSome (fault_of fault) (HasLineFault lines start game.elements))
    (λ fault. IfSome (fault_of fault) (IsFault lines (tag_in fen_tag game.tags) game.elements))
    (λ fault met. IfSome_then (fault_of fault) met (λ f has. inr (start, is_start, has)))
    c.put_or_leave.ensures.fault
