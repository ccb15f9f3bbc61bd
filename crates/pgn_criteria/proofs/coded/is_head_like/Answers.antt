use Rattle.pgn_criteria.proofs.Common.{subst}
use Rattle.pgn_criteria.specs.Public.MoveTexts.{IsLike, without_check_signs}
use Rattle.pgn_criteria.proofs.CodedFacts.{head_like}
use Rattle.pgn_criteria.proofs.coded.is_head_like.Goals as goal

pub returns : goal.returns
returns c is castle piece =
    head_like c.args.coded.now c.args.word.now c.kind_letter.result
    c.in-len1-up.len_at_least c.if-last-ne42.false c.kind_letter.ensures.letter castle piece
    (subst (λ x. IsLike c.args.word.now (without_check_signs x)) c.as_slice.ensures
    (c.is_like.ensures.0 is))
