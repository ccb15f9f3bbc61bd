use Rattle.pgn_criteria.proofs.Common.{true}
use Rattle.pgn_criteria.proofs.CodedFacts.{by_plain, plain_alone, told_alike}
use Rattle.pgn_criteria.proofs.coded.told_text_like.Goals as goal

pub returns-then-is_bare : goal.returns-then-is_bare
returns-then-is_bare c P m text sight of san =
    by_plain c.args.coded.now text c.args.word.now c.is_text_like.result
    (c.is_bare.ensures.plain c.if-is_bare.true P m of text san) c.is_text_like.ensures

pub returns-then-is_tail_like : goal.returns-then-is_tail_like
returns-then-is_tail_like c P m text sight of san =
    let both = c.is_bare.ensures.officer c.if-is_bare.false in
    told_alike c.args.coded.now P m text c.args.word.now true of san
    (c.is_tail_like.ensures c.if-is_tail_like.true both.0 both.1)

pub returns-then-is_head_like : goal.returns-then-is_head_like
returns-then-is_head_like c P m text sight of san =
    let both = c.is_bare.ensures.officer c.if-is_bare.false in
    told_alike c.args.coded.now P m text c.args.word.now true of san
    (c.is_head_like.ensures c.if-is_head_like.true both.0 both.1)

pub returns-then-are_alike : goal.returns-then-are_alike
returns-then-are_alike c P m text sight of san =
    told_alike c.args.coded.now P m text c.args.word.now c.is_text_like-is.result of san
    (c.are_alike.ensures c.if-are_alike.true c.is_text_like-is.ensures)

pub returns-then-is_alone : goal.returns-then-is_alone
returns-then-is_alone c P m text sight of san =
    by_plain c.args.coded.now text c.args.word.now c.is_text_like-is.result
    (plain_alone c.args.coded.now P m of text san c.args.walk.now.men sight.men
    (c.is_alone.ensures c.if-is_alone.true)) c.is_text_like-is.ensures
