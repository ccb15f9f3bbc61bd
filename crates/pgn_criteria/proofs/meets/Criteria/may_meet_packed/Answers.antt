use Rattle.pgn_criteria.proofs.Common.{◌≡◌, ◌+◌, [], length, drop, sym, subst, ap, ◌∙◌, arith}
use Rattle.pgn_criteria.proofs.Common.{drop-length, heading_of, heading_of_raw, Meets}
use Rattle.pgn_criteria.proofs.MeetFacts.{good_from, alternatives_from}
use Rattle.pgn_criteria.proofs.StageFacts.{meets_after}
use Rattle.pgn_criteria.proofs.RecordHeadings.{raw_heading, text_heading}
use Rattle.pgn_criteria.proofs.meets.Criteria.may_meet_packed.Goals as goal

pub loop-alternative-preserved : goal.loop-alternative-preserved
loop-alternative-preserved g c =
    let all = c.deref-alternative-items.result.now in
    let i = c.loop-alternative.alternative-index in
    let own = c.alternative-item.result in
    record {
      good = (good_from all i own c.loop-alternative-test.true c.alternative-item.is
          c.loop-alternative.invariant.good).1;
      kept = λ P replay seen by ply met.
          meets_after (heading_of_raw c.args.record.now) replay ply (drop i all)
          (drop (i + 1) all) own
          (alternatives_from all i own c.loop-alternative-test.true c.alternative-item.is)
          (c.may_be_told.ensures c.if-may_be_told.false P replay seen by ply)
          (c.loop-alternative.invariant.kept P replay seen by ply met);
    }

pub returns : goal.returns
returns g c none game replay packed is fits shows P seen by ply met =
    let raw = c.args.record.now in
    let all = c.deref-alternative-items.result.now in
    let end : c.loop-alternative.alternative-index ≡ length all = omega arith in
    let left : drop c.loop-alternative.alternative-index all ≡ [] =
    ap (λ n. drop n all) end ∙ drop-length all in
    let heading : heading_of_raw raw ≡ heading_of game =
    ap heading_of_raw (sym shows) ∙ raw_heading packed fits
    ∙ text_heading packed.name packed.number packed.offset game replay packed is in
    (subst (Meets (heading_of_raw raw) replay ply) left
    (c.loop-alternative.invariant.kept P replay seen by ply
    (subst (λ h. Meets h replay ply c.args.self.now) (sym heading) met))).hold
