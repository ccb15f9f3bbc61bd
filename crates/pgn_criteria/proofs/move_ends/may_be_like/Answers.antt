use Rattle.pgn_criteria.specs.Public.MoveTexts.{without_check_signs}
use Rattle.std.proofs.Common.{◌∙◌, sym, arith}
use Rattle.pgn_criteria.proofs.EndFacts.{like_has, word_begins, word_ends}
use Rattle.pgn_criteria.proofs.move_ends.may_be_like.Goals as goal

pub returns-then-not-may_end_with : goal.returns-then-not-may_end_with
returns-then-not-may_end_with c out text san like =
    c.may_end_with.ensures c.args.position.now c.if-not-may_end_with.true text san
    (word_ends c.args.word.now (without_check_signs text) c.in-len1-up.len_at_least
    c.if-last-ne42.true
    like)

pub returns-else-first-eq42 : goal.returns-else-first-eq42
returns-else-first-eq42 c out text san like =
    c.may_begin_with.ensures out text san
    (word_begins c.args.word.now (without_check_signs text) c.in-len1-up-word.len_at_least
    c.if-first-eq42.false like)

pub returns-then-not-may_take : goal.returns-then-not-may_take
returns-then-not-may_take c out text san like =
    c.may_take.ensures c.if-not-may_take.true text san
    (like_has 120 c.args.word.now (without_check_signs text) (λ star. omega (arith, star))
    (sym c.contains.ensures.value ∙ c.if-contains.true) like)
