use Rattle.std.proofs.Common.{arith}
use Rattle.std.proofs.lemmas.Bool.Decides.{nat_tests}
use Rattle.pgn_criteria.proofs.SetupFacts.{set_up_at, set_up_nowhere}
use Rattle.pgn_criteria.proofs.setup.is_set_up.Goals as goal

pub returns-then-plies : goal.returns-then-plies
returns-then-plies c =
    set_up_at c.args.replayed.now c.args.plies c.args.setup.now c.position.result.now
    c.is_alike.result c.position.ensures c.is_alike.ensures

pub returns-else-plies : goal.returns-else-plies
returns-else-plies c = (
  (λ within. absurd (grind (arith, nat_tests))),
  (λ found. absurd
      (set_up_nowhere c.args.replayed.now c.args.plies c.plies.result c.args.setup.now
      c.plies.ensures.positions c.if-plies.false found)),
)
