use Rattle.std.proofs.Common.{◌∙◌}
use Rattle.pgn_criteria.proofs.MoveFacts.{like_move}
use Rattle.pgn_criteria.proofs.EndFacts.{not_like}
use Rattle.pgn_criteria.proofs.moves.is_move_like.Goals as goal

pub returns-then-not-may_be_like : goal.returns-then-not-may_be_like
returns-then-not-may_be_like c =
    not_like c.args.position.now c.args.m c.args.word.now c.may_be_like.result
    c.may_be_like.ensures c.if-not-may_be_like.true

pub returns : goal.returns
returns c =
    like_move c.args.position.now c.args.m c.args.word.now c.san.result.bytes c.is_like.result
    c.one_text.ensures c.san.ensures.text
    (rw (← (c.as_bytes.ensures.value ∙ c.deref.ensures.0)) c.is_like.ensures)
