use Rattle.pgn_game.proofs.Common.{sym, ◌∙◌, subst, IfSome, err_from_is_err_and, RefusesTurn}
use Rattle.pgn_game.proofs.Common.{fault_of}
use Rattle.pgn_game.proofs.replays.walk.play_turn.Goals as goal

pub returns-in_err-m : goal.returns-in_err-m
returns-in_err-m c =
    let p = err_from_is_err_and c.from_residual.result c.from_residual.ensures.1 in
    rw (p.1, p.2) (λ plies is.
    subst (λ b.
    IfSome (fault_of c.in_err-m.field-0.0)
    (RefusesTurn b c.args.position.now plies c.args.word.now))
    (sym c.if-is_null_move.false ∙ c.is_null_move.ensures) (c.in_err-m.ensures plies is))
