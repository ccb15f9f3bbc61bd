use Rattle.pgn_criteria.proofs.Common.{◌≡◌, ◌+◌, length, drop, ap, ◌∙◌, arith, drop-length, Heading}
use Rattle.pgn_criteria.proofs.ByMarkFacts.{held_on, held_without, held_end}
use Rattle.pgn_criteria.proofs.MeetFacts.{good_from, alternatives_from}
use Rattle.pgn_criteria.proofs.meets.Criteria.marks_of_heading.Goals.{then-is_of_heading}
use Rattle.pgn_criteria.proofs.meets.Criteria.marks_of_heading.Goals.{else-is_of_heading}
use Rattle.pgn_criteria.proofs.meets.Criteria.marks_of_heading.Goals as goal

pub loop-alternative-preserved : goal.loop-alternative-preserved
loop-alternative-preserved g c =
    let heading : Heading = g.H.Headed.heading c.args.game.now in
    let all = c.deref-alternative-items.result.now in
    let i = c.loop-alternative.alternative-index in
    let own = c.alternative-item.result in
    let front = alternatives_from all i own c.loop-alternative-test.true c.alternative-item.is in
    let tells = rw c.in-Some.is at c.marks.ensures in
    record {
      good = (good_from all i own c.loop-alternative-test.true c.alternative-item.is
          c.loop-alternative.invariant.good).1;
      held = λ P check stuck marks replay ply.
          let so_far = c.loop-alternative.invariant.held P check stuck marks replay ply in
          elim c.if-is_of_heading.branch [
            | then-is_of_heading w ↦
                rw w.flags-is
                (held_on heading replay ply P check stuck marks c.loop-alternative.flags
                c.in-Some.own (drop i all) (drop (i + 1) all) c.args.self.now own front so_far
                (c.is_of_heading.ensures.0 w.if-is_of_heading.true) tells.0
                (tells.1 P.men P.turn check stuck))
            | else-is_of_heading w ↦
                rw w.flags-is
                (held_without heading replay ply P check stuck marks c.loop-alternative.flags
                c.in-Some.own (drop i all) (drop (i + 1) all) c.args.self.now own front so_far
                c.is_of_heading.result w.if-is_of_heading.false c.is_of_heading.ensures)
          ];
    }

pub returns : goal.returns
returns g c P check stuck marks replay ply =
    let heading : Heading = g.H.Headed.heading c.args.game.now in
    let all = c.deref-alternative-items.result.now in
    let end : c.loop-alternative.alternative-index ≡ length all = omega arith in
    held_end heading replay ply P check stuck marks c.loop-alternative.flags
    (drop c.loop-alternative.alternative-index all) c.args.self.now
    (ap (λ n. drop n all) end ∙ drop-length all)
    (c.loop-alternative.invariant.held P check stuck marks replay ply)
