use Rattle.pgn_criteria.proofs.Common.{◌↔◌, IsTrue, Conditions, subst}
use Rattle.std.specs.Prelude.{false}
use Rattle.pgn_criteria.proofs.TurnAbout.{turn_fits, turn_not}
use Rattle.pgn_criteria.specs.Private.Told.{AllAbout}
use Rattle.pgn_criteria.specs.declared.played.About.TheVariants.{Next}
use Rattle.pgn_criteria.proofs.played.add_turn.Goals as goal

pub returns-then-not-is_met : goal.returns-then-not-is_met
returns-then-not-is_met c = (
  false,
  c.in_ok-add_ply.ensures,
  λ replay ply about before.
      turn_not replay c.args.alternative.now ply c.args.is_met c.if-not-is_met.true before,
)

pub returns : goal.returns
returns c = (
  c.are_about.result,
  c.in_ok-add_ply-2.ensures,
  λ replay ply about before.
      turn_fits replay c.args.alternative.now ply c.args.is_met c.are_about.result
      c.if-not-is_met.false before
      (subst (λ (a : Conditions). IsTrue c.are_about.result ↔ AllAbout Next replay ply a.moves)
      c.alternative.view_is (rw c.deref.ensures.value at (c.are_about.ensures replay ply about))),
)
