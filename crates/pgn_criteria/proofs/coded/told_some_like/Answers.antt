use Rattle.std.proofs.lemmas.Option.{IfSome_then}
use Rattle.pgn_criteria.proofs.CodedFacts.{first_like, none_like}
use Rattle.pgn_criteria.proofs.EndFacts.{not_like}
use Rattle.pgn_criteria.proofs.Common.{get_or, false}
use Rattle.pgn_criteria.proofs.coded.told_some_like.Goals as goal

pub returns-in_default : goal.returns-in_default
returns-in_default c P moves sight legal are =
    none_like P moves c.args.left.now c.args.word.now c.in_default.len_below are

pub returns-else-not-may_be_like : goal.returns-else-not-may_be_like
returns-else-not-may_be_like c =
    IfSome_then c.told_like.result c.told_like.ensures (λ is reports P moves sight legal are.
    first_like P moves c.args.left.now c.args.word.now is c.in-len3-up.len_at_least legal are
    (λ m lawful code. reports P m sight lawful code))

pub returns-then-not-may_take : goal.returns-then-not-may_take
returns-then-not-may_take c P moves sight legal are =
    let left = c.args.left.now in
    first_like P moves left c.args.word.now false c.in-len3-up.len_at_least legal are
    (λ m lawful code. not_like P m c.args.word.now c.may_take.result
    (c.may_take.ensures P m (get_or left 0 0) (get_or left 1 0) sight lawful code)
    c.if-not-may_take.true)

pub returns-then-not-may_be_like : goal.returns-then-not-may_be_like
returns-then-not-may_be_like c P moves sight legal are =
    first_like P moves c.args.left.now c.args.word.now false c.in-len3-up.len_at_least legal are
    (λ m lawful code. not_like P m c.args.word.now c.may_be_like.result
    (c.may_be_like.ensures P m (c.coded_move.ensures P m sight lawful code))
    c.if-not-may_be_like.true)
