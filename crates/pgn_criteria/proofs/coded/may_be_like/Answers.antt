use Rattle.pgn_criteria.proofs.Common.{◌≡◌, Some, IsSan, man_at, refl, sym, subst}
use Rattle.chess.specs.declared.moves.Move.{Move}
use Rattle.pgn_criteria.specs.Public.MoveTexts.{without_check_signs}
use Rattle.pgn_criteria.proofs.EndFacts.{word_begins, word_ends}
use Rattle.pgn_criteria.proofs.coded.may_be_like.Goals as goal

pub returns-then-not-may_end_with : goal.returns-then-not-may_end_with
returns-then-not-may_end_with c P m of out text san like =
    c.may_end_with.ensures P c.if-not-may_end_with.true text
    (subst (λ (n : Move). IsSan P n text) (sym of.is) san)
    (word_ends c.args.word.now (without_check_signs text) c.in-len1-up.len_at_least
    c.if-last-ne42.true like)

pub returns-else-first-eq42 : goal.returns-else-first-eq42
returns-else-first-eq42 c P m of out text san like =
    c.may_begin_by.ensures P c.args.coded.now.man
    (subst (λ (n : Move). man_at P.men n.from ≡ Some c.args.coded.now.man) (sym of.is) of.here)
    refl out text (subst (λ (n : Move). IsSan P n text) (sym of.is) san)
    (word_begins c.args.word.now (without_check_signs text) c.in-len1-up-word.len_at_least
    c.if-first-eq42.false like)
