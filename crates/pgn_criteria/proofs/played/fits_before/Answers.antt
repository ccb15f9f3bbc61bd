use Rattle.pgn_criteria.proofs.Common.{◌↔◌, IsTrue, Conditions, subst}
use Rattle.pgn_criteria.proofs.TurnAbout.{fits_rest, not_met, not_reached}
use Rattle.pgn_criteria.specs.Private.Told.{AllAbout}
use Rattle.pgn_criteria.specs.declared.played.About.TheVariants.{Here}
use Rattle.pgn_criteria.proofs.played.fits_before.Goals as goal

pub returns-then-not-is_reached : goal.returns-then-not-is_reached
returns-then-not-is_reached c replay ply here last =
    not_reached replay c.args.alternative.now ply c.args.is_reached c.if-not-is_reached.true last

pub returns-then-not-is_met : goal.returns-then-not-is_met
returns-then-not-is_met c replay ply here last =
    not_met replay c.args.alternative.now ply c.args.position.now c.is_met.result
    c.if-not-is_met.true here c.is_met.ensures

pub returns : goal.returns
returns c replay ply here last =
    fits_rest replay c.args.alternative.now ply c.args.position.now c.args.is_reached
    c.is_met.result c.are_about.result c.if-not-is_reached.false last c.if-not-is_met.false here
    c.is_met.ensures
    (subst (λ (a : Conditions). IsTrue c.are_about.result ↔ AllAbout Here replay ply a.moves)
    c.alternative.view_is (rw c.deref.ensures.value at (c.are_about.ensures replay ply here)))
