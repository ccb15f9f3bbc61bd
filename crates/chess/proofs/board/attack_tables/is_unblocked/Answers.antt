use Rattle.chess.proofs.Common.{◌<◌, ◌^◌, arith, rules, nat_tests}
use Rattle.chess.proofs.board.AttackerFacts.{none_between, no_bits_between}
use Rattle.chess.proofs.board.attack_tables.is_unblocked.Goals as goal

pub returns : goal.returns
returns c =
    let fits : c.between.result < 2 ^ 64 = search rules in (
      (λ e. none_between c.args.from c.args.to c.between.result c.args.occupied c.between.ensures
          (grind (arith, nat_tests, e))),
      (λ clear_way.
          grind (
            arith,
            nat_tests,
            no_bits_between c.args.from c.args.to c.between.result c.args.occupied fits
                c.between.ensures clear_way,
          )),
    )
