use Rattle.pgn_criteria.proofs.Common.{◌≡◌, ◌+◌, [], length, drop, subst, ap, ◌∙◌, arith}
use Rattle.pgn_criteria.proofs.Common.{drop-length, heading_of}
use Rattle.pgn_criteria.specs.Public.Headings.{MayMeet}
use Rattle.pgn_criteria.proofs.HeadingFacts.{may_found, may_left, no_chance}
use Rattle.pgn_criteria.proofs.MeetFacts.{good_from, alternatives_from}
use Rattle.pgn_criteria.proofs.meets.Criteria.may_be_of.Goals as goal

pub returns-then-is_of_heading : goal.returns-then-is_of_heading
returns-then-is_of_heading c =
    let all = c.deref-alternative-items.result.now in
    let i = c.loop-alternative.alternative-index in
    may_found (heading_of c.args.game.now) (drop i all) (drop (i + 1) all)
    c.alternative-item.result c.is_of_heading.result c.args.self.now
    (alternatives_from all i c.alternative-item.result c.loop-alternative-test.true
    c.alternative-item.is) c.if-is_of_heading.true c.is_of_heading.ensures
    c.loop-alternative.invariant.kept

pub loop-alternative-preserved : goal.loop-alternative-preserved
loop-alternative-preserved c =
    let all = c.deref-alternative-items.result.now in
    let i = c.loop-alternative.alternative-index in
    let own = c.alternative-item.result in
    record {
      good = (good_from all i own c.loop-alternative-test.true c.alternative-item.is
          c.loop-alternative.invariant.good).1;
      kept =
          may_left (heading_of c.args.game.now) (drop i all) (drop (i + 1) all) own
          c.is_of_heading.result c.args.self.now
          (alternatives_from all i own c.loop-alternative-test.true c.alternative-item.is)
          c.if-is_of_heading.false c.is_of_heading.ensures c.loop-alternative.invariant.kept;
    }

pub returns : goal.returns
returns c =
    let all = c.deref-alternative-items.result.now in
    let end : c.loop-alternative.alternative-index ≡ length all = omega arith in
    let none : drop c.loop-alternative.alternative-index all ≡ [] =
    ap (λ n. drop n all) end ∙ drop-length all in (
      λ t. absurd (cc),
      λ may.
          absurd (no_chance (heading_of c.args.game.now)
          (subst (MayMeet (heading_of c.args.game.now)) none
          (c.loop-alternative.invariant.kept.1 may))),
    )
