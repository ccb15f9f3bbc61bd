use Rattle.pgn_criteria.proofs.MoveFacts.{gone_on}
use Rattle.pgn_criteria.proofs.moves.goes_on_by.Goals as goal

pub returns : goal.returns
returns c =
    gone_on c.args.replayed.now c.args.plies c.args.word.now c.position.result.now
    c.played.result c.is_move_like.result c.position.ensures c.played.ensures
    c.is_move_like.ensures
