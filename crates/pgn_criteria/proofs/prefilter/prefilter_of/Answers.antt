use Rattle.std.specs.Prelude.{option_map}
use Rattle.pgn_criteria.proofs.prefilter.prefilter_of.Goals.{then-is_tighter+then-not-is_met}
use Rattle.pgn_criteria.proofs.prefilter.prefilter_of.Goals.{else-is_tighter}
use Rattle.pgn_criteria.proofs.prefilter.prefilter_of.Goals as goal

pub loop-number-preserved : goal.loop-number-preserved
loop-number-preserved c =
    let layouts = option_map (λ layout. layout.now) c.args.turned in
    elim c.if-is_tighter.branch [
      | then-is_tighter+then-not-is_met w ↦
          rw w.best-is c.new-prefilter.ensures
      | else-is_tighter w ↦
          rw w.best-is c.loop-number.invariant
    ]
