use Rattle.pgn_extract.proofs.Common.{◌∙◌, ap, refl, after}
use Rattle.pgn_criteria.proofs.StandFacts.{rest_is}
use Rattle.pgn_extract.proofs.packed.TurnedLines.{turns_end, turns_on}
use Rattle.pgn_extract.proofs.packed.turned.TurnedLine.advance.Goals as goal

pub returns-in_default-clause-moved : goal.returns-in_default-clause-moved
returns-in_default-clause-moved c aim game before P at =
    turns_end _ aim game before P at c.args.is_open (λ is_on. c.in_default.is)

pub returns-clause-moved : goal.returns-clause-moved
returns-clause-moved c aim game before P at =
    let m = c.in-Some.m in
    turns_on _ aim game before P at _ m c.in-Some.is refl refl
    (c.play-self.ensures.position ∙ ap (λ Q. after Q m) c.copy_from.ensures) c.copy_from.ensures
    (c.replace-self.ensures.value ∙ c.in-Some.is) (rest_is c.args.self.now.left.now _ refl)
    c.in_ok-self.ensures.ok c.args.is_open
