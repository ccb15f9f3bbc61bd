use Rattle.pgn_criteria.proofs.Common.{◌↔◌, IsTrue, Conditions, subst}
use Rattle.pgn_criteria.proofs.TurnAbout.{turn_fits, turn_not}
use Rattle.pgn_criteria.specs.Private.Told.{AllAbout}
use Rattle.pgn_criteria.specs.declared.played.About.TheVariants.{Last, Next}
use Rattle.pgn_criteria.proofs.turns.fits_turn.Goals as goal

pub returns-then-not-fits_before : goal.returns-then-not-fits_before
returns-then-not-fits_before c replay ply turn =
    turn_not replay c.args.alternative.now ply c.fits_before.result c.if-not-fits_before.true
    (c.fits_before.ensures replay ply turn.here
    (subst (λ (a : Conditions). IsTrue c.are_about-is_reached.result
    ↔ AllAbout Last replay ply a.moves) c.alternative.view_is
    (rw c.deref.ensures.value at (c.are_about-is_reached.ensures replay ply turn.led))))

pub returns : goal.returns
returns c replay ply turn =
    turn_fits replay c.args.alternative.now ply c.fits_before.result c.are_about.result
    c.if-not-fits_before.false
    (c.fits_before.ensures replay ply turn.here
    (subst (λ (a : Conditions). IsTrue c.are_about-is_reached.result
    ↔ AllAbout Last replay ply a.moves) c.alternative.view_is
    (rw c.deref.ensures.value at (c.are_about-is_reached.ensures replay ply turn.led))))
    (subst (λ (a : Conditions). IsTrue c.are_about.result ↔ AllAbout Next replay ply a.moves)
    c.alternative.view_is
    (rw c.deref-2.ensures.value at (c.are_about.ensures replay ply (turn.here, turn.goes))))
