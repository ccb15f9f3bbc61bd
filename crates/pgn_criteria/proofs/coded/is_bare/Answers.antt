use Rattle.pgn_criteria.proofs.Common.{◌∙◌, inl, inr, sym}
use Rattle.pgn_criteria.proofs.CodedFacts.{plain_of}
use Rattle.pgn_criteria.proofs.coded.is_bare.Goals as goal

pub returns-then-is_some-clause-plain : goal.returns-then-is_some-clause-plain
returns-then-is_some-clause-plain c is P m of text san =
    plain_of c.args.coded.now P m of text san (inl (sym c.is_some.ensures ∙ c.if-is_some.true))

pub returns-in-Pawn-clause-plain : goal.returns-in-Pawn-clause-plain
returns-in-Pawn-clause-plain c is P m of text san =
    plain_of c.args.coded.now P m of text san (inr c.in-Pawn.is)
