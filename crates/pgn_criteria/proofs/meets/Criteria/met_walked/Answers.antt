use Rattle.std.proofs.lemmas.List.{take_at}
use Rattle.pgn_criteria.proofs.Common.{◌≡◌, ◌/◌, ◌+◌, ◌++◌, ◌∷◌, [], ◌∙◌, ℕ, Bool, List, ap, sym}
use Rattle.pgn_criteria.proofs.Common.{subst, arith, length, take, drop, take-length}
use Rattle.pgn_criteria.proofs.Common.{State, Replay, AllGood, AreMet, heading_of, heading_of_raw}
use Rattle.pgn_criteria.proofs.Common.{codes_in}
use Rattle.pgn_criteria.specs.Public.Prefilters.{IsPlayedBy}
use Rattle.pgn_criteria.proofs.CodedLines.{played_count}
use Rattle.pgn_criteria.proofs.CountedFacts.{games_of_counted, not_counted}
use Rattle.pgn_criteria.proofs.MeetFacts.{good_from, alternatives_to}
use Rattle.pgn_criteria.proofs.RecordHeadings.{raw_heading, text_heading}
use Rattle.pgn_criteria.proofs.SeenPlyFacts.{positions_count}
use Rattle.pgn_criteria.proofs.StageFacts.{met_added, met_dropped}
use Rattle.pgn_criteria.proofs.meets.Criteria.met_walked.Goals.{then-is_of_counted+else-not-is_of_seen+in_ok-add_walked+else-not-branch}
use Rattle.pgn_criteria.proofs.meets.Criteria.met_walked.Goals.{else-is_of_counted}
use Rattle.pgn_criteria.proofs.meets.Criteria.met_walked.Goals as goal

pub loop-alternative-init : goal.loop-alternative-init
loop-alternative-init c = record {
  good = subst AllGood (sym c.deref-alternative-items.ensures.value) c.self.invariant.good;
  size = c.in_ok-met.ensures.each
      ∙ ap (λ (bs : List ℕ). length bs / 3 + 1) c.plies-plies.ensures;
  so_far = λ P replay sight by.
      c.in_ok-met.ensures.none (heading_of_raw c.args.record.now) replay
      (positions_count P c.args.record.now.plies replay by
      ∙ ap (λ (bs : List ℕ). length bs / 3 + 1) (sym c.plies-plies.ensures));
}

pub loop-alternative-preserved : goal.loop-alternative-preserved
loop-alternative-preserved c =
    let heading = heading_of_raw c.args.record.now in
    let plies = length c.plies-plies.result.now / 3 in
    let all = c.deref-alternative-items.result.now in
    let i = c.loop-alternative.alternative-index in
    let own = c.alternative-item.result in
    let old = c.loop-alternative.met in
    let is = c.plies-plies.ensures in
    let size = λ (P : State) (replay : Replay)
    (by : IsPlayedBy P (codes_in c.args.record.now.plies) replay).
    played_count P c.args.record.now.plies replay by
    ∙ ap (λ (bs : List ℕ). length bs / 3) (sym is) in
    elim c.if-is_of_counted.branch [
      | then-is_of_counted+else-not-is_of_seen+in_ok-add_walked+else-not-branch w ↦
          let free = w.is_of_seen.ensures.0 w.if-not-is_of_seen.false in
          let new = w.add_walked.new.met in
          let whole : List Bool = take old.len (new ++ drop (length new) old.items) in
          let same : whole ≡ new = take_at new (drop (length new) old.items) old.len
          (w.add_walked.auto.met ∙ w.deref_mut.ensures.len) in
          let items : c.if-is_of_counted.met.items ≡ new = ap (λ v. v.items) w.met-is ∙ same in
          record {
            good = (good_from all i own c.loop-alternative-test.true c.alternative-item.is
                c.loop-alternative.invariant.good).1;
            size = ap length items ∙ w.add_walked.auto.met ∙ ap length w.deref_mut.ensures.value
                ∙ c.loop-alternative.invariant.size;
            so_far = λ P replay sight by.
                rw (alternatives_to all i own c.loop-alternative-test.true c.alternative-item.is)
                (subst (AreMet heading replay (take i all ++ own ∷ [])) (sym items)
                (met_added heading replay (take i all) own w.deref_mut.result.now new
                (games_of_counted heading replay plies (size P replay by) own.games free.0
                (c.is_of_counted.ensures.0 w.if-is_of_counted.true))
                w.add_walked.auto.met
                (w.in_ok-add_walked.ensures w.if-not-branch.false free.1 P replay sight
                (subst (λ (bs : List ℕ). IsPlayedBy P (codes_in bs) replay) (sym is) by))
                (subst (AreMet heading replay (take i all)) (sym w.deref_mut.ensures.value)
                (c.loop-alternative.invariant.so_far P replay sight by))));
          }
      | else-is_of_counted w ↦
          let items : c.if-is_of_counted.met.items ≡ old.items = ap (λ v. v.items) w.met-is in
          record {
            good = (good_from all i own c.loop-alternative-test.true c.alternative-item.is
                c.loop-alternative.invariant.good).1;
            size = ap length items ∙ c.loop-alternative.invariant.size;
            so_far = λ P replay sight by.
                rw (alternatives_to all i own c.loop-alternative-test.true c.alternative-item.is)
                (subst (AreMet heading replay (take i all ++ own ∷ [])) (sym items)
                (met_dropped heading replay (take i all) own old.items c.is_of_counted.result
                w.if-is_of_counted.false
                (not_counted heading replay plies (size P replay by) own c.is_of_counted.result
                w.if-is_of_counted.false c.is_of_counted.ensures)
                (c.loop-alternative.invariant.so_far P replay sight by)));
          }
    ]

pub returns-clause-met : goal.returns-clause-met
returns-clause-met c game replay packed is fits shows P sight by =
    let all = c.deref-alternative-items.result.now in
    let met = c.loop-alternative.met.items in
    let heading : heading_of_raw c.args.record.now ≡ heading_of game =
    ap heading_of_raw (sym shows) ∙ raw_heading packed fits
    ∙ text_heading packed.name packed.number packed.offset game replay packed is in
    let end : c.loop-alternative.alternative-index ≡ length all = omega arith in
    let whole = ap (λ n. take n all) end ∙ take-length all ∙ c.deref-alternative-items.ensures.value
    ∙ c.self.view_is in
    rw (← heading) (subst (λ cs. AreMet (heading_of_raw c.args.record.now) replay cs met) whole
    (c.loop-alternative.invariant.so_far P replay sight by))
