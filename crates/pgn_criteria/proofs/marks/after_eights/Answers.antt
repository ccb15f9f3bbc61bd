use Rattle.std.proofs.Common.{refl}
use Rattle.pgn_criteria.proofs.ByMarkFacts.{eight_lack, eight_met}
use Rattle.pgn_criteria.proofs.StandFacts.{rest_after}
use Rattle.pgn_criteria.proofs.marks.after_eights.Goals as goal

pub loop-rest-init : goal.loop-rest-init
loop-rest-init c = record {
  lacks = λ all. all;
  met = λ set needs turn. (λ none. none, λ side left next. next);
}

pub loop-rest-preserved : goal.loop-rest-preserved
loop-rest-preserved c =
    let rest = c.loop-rest.rest.now in
    record {
      lacks = λ later.
          c.loop-rest.invariant.lacks
          (eight_lack c.args.check c.args.stuck rest _ c.loop-rest-test.true
          (rest_after 24 rest _ refl)
          (λ both. let yes = c.shows.ensures.1 both in let no = c.if-shows.false in
          absurd (cc)) later);
      met = λ set needs turn.
          let here = eight_met c.args.check c.args.stuck rest _ c.loop-rest-test.true
          (rest_after 24 rest _ refl)
          (λ both. let yes = c.shows.ensures.1 both in let no = c.if-shows.false in
          absurd (cc)) set needs turn in
          let so_far = c.loop-rest.invariant.met set needs turn in (
            λ none. so_far.0 (here.0 none),
            λ side left next.
                so_far.1 side left (here.1 side left next),
          );
    }
