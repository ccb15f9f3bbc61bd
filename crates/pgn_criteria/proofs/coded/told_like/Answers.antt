use Rattle.std.proofs.lemmas.Option.{IfSome_then}
use Rattle.pgn_criteria.proofs.Common.{AreOnBoard, subst}
use Rattle.pgn_criteria.proofs.CodedFacts.{by_its_text}
use Rattle.pgn_criteria.proofs.coded.told_like.Goals as goal

pub returns : goal.returns
returns c =
    IfSome_then c.told_text_like.result c.told_text_like.ensures
    (λ is reports P m sight legal code.
    by_its_text P m c.args.word.now is
    (c.a_text.ensures P m (subst AreOnBoard sight.men c.invariant.ensures) legal)
    (λ text san. reports P m text sight (c.coded_move.ensures P m sight legal code) san))
