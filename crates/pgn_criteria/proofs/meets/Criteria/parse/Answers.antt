use Rattle.std.proofs.lemmas.Result.{err_from_is_err_and}
use Rattle.pgn_criteria.proofs.Common.{refl, subst, alternatives_of}
use Rattle.pgn_criteria.specs.Private.Stages.{AllWithin}
use Rattle.pgn_criteria.proofs.ParseFacts.{spelled_good}
use Rattle.pgn_criteria.proofs.meets.Criteria.parse.Goals as goal

pub invariant_of-result : goal.invariant_of-result
invariant_of-result c = record {
  good = spelled_good c.args.text.now c.in_ok-alternatives.alternatives.items
      c.in_ok-alternatives.ensures;
  within =
      subst (AllWithin c.longest-beginning.result) c.deref.ensures.value
      c.longest-beginning.ensures;
}

pub returns-in_err-alternatives-clause-refused : goal.returns-in_err-alternatives-clause-refused
returns-in_err-alternatives-clause-refused c =
    let p = err_from_is_err_and c.from_residual.result c.from_residual.ensures.1 in
    let lines = c.in_default.ensures in
    rw (p.1, p.2) (alternatives_of lines.0, (c.if-text-gt-LIMIT.false, (lines.0, lines.1, refl)))
