use Rattle.pgn_criteria.proofs.Common.{refl, sym, ◌∙◌}
use Rattle.pgn_criteria.proofs.move_ends.may_begin_with.Goals as goal

pub returns-in-Some : goal.returns-in-Some
returns-in-Some c =
    c.may_begin_by.ensures c.args.position.now c.in-Some.man (sym c.at.ensures ∙ c.in-Some.is) refl
