use Rattle.std.proofs.Common.{sym, ◌∙◌}
use Rattle.pgn_criteria.proofs.CompareFacts.{number_so, number_missing}
use Rattle.pgn_criteria.proofs.compare.is_number.Goals as goal

pub returns-in-Some : goal.returns-in-Some
returns-in-Some c =
    number_so c.args.comparison c.args.given.now c.args.number c.in-Some.own c.compares.result
    c.requires (sym c.number_of.ensures ∙ c.in-Some.is) c.compares.ensures

pub returns-in-None : goal.returns-in-None
returns-in-None c = (
  (λ t. cc),
  (λ it. absurd (number_missing c.args.comparison c.args.given.now c.args.number c.requires
      (sym c.number_of.ensures ∙ c.in-None.is) it)),
)
