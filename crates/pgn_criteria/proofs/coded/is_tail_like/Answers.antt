use Rattle.pgn_criteria.proofs.Common.{◌+◌, arith, refl, subst}
use Rattle.pgn_criteria.specs.Public.MoveTexts.{IsLike, without_check_signs}
use Rattle.pgn_criteria.proofs.CodedFacts.{tail_like}
use Rattle.pgn_criteria.proofs.coded.is_tail_like.Goals as goal

pub returns : goal.returns
returns c is castle piece =
    tail_like c.args.coded.now c.args.word.now c.byte_if.result (96 + c.file.result)
    (48 + c.rank.result) c.in-len1-up.len_at_least c.if-first-ne42.false
    (c.byte_if.ensures (omega arith)) (rw c.file.ensures.number refl)
    (rw c.rank.ensures.number refl) castle piece
    (subst (λ x. IsLike c.args.word.now (without_check_signs x)) c.as_slice.ensures
    (c.is_like.ensures.0 is))
