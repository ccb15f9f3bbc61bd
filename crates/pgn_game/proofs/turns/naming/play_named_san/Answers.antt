use Rattle.std.proofs.Common.{ap, Err}
use Rattle.pgn_game.proofs.turns.naming.play_named_san.Goals as goal

pub returns-in-Err : goal.returns-in-Err
returns-in-Err c plies ply =
    c.refused.ensures c.args.position.now plies ply (λ is.
    c.in-Err.ensures.none.0 (ap Err is)) (λ is. c.in-Err.ensures.several.0 (ap Err is))
