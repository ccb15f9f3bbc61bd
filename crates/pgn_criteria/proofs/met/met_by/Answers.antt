use Rattle.std.proofs.lemmas.List.{take_at}
use Rattle.pgn_criteria.proofs.Common.{◌≡◌, ◌++◌, ◌∷◌, [], Bool, List, length, take, drop, sym, ap}
use Rattle.pgn_criteria.proofs.Common.{◌∙◌, subst, arith, take-length, Heading, AreMet}
use Rattle.pgn_criteria.proofs.MeetFacts.{good_from, alternatives_to}
use Rattle.pgn_criteria.proofs.met.met_by.Goals as goal

pub loop-alternative-init : goal.loop-alternative-init
loop-alternative-init g c = record {
  good = c.requires.good;
  so_far = c.in_ok-met.ensures.none (g.H.Headed.heading c.args.game.now) c.args.replayed.now
      c.plies.ensures.positions;
}

pub loop-alternative-preserved : goal.loop-alternative-preserved
loop-alternative-preserved g c =
    let heading : Heading = g.H.Headed.heading c.args.game.now in
    let replay = c.args.replayed.now in
    let all = c.args.alternatives.now in
    let i = c.loop-alternative.alternative-index in
    let own = c.alternative-item.result in
    record {
      good = (good_from all i own c.loop-alternative-test.true c.alternative-item.is
          c.loop-alternative.invariant.good).1;
      so_far =
          let new = c.add_alternative.new.met in
          let whole : List Bool = take c.loop-alternative.met.len (new
          ++ drop (length new) c.loop-alternative.met.items) in
          let is : whole ≡ new =
          take_at new (drop (length new) c.loop-alternative.met.items) c.loop-alternative.met.len
          (c.add_alternative.auto.met ∙ c.deref_mut.ensures.len) in
          rw (alternatives_to all i own c.loop-alternative-test.true c.alternative-item.is) (subst
          (AreMet heading replay (take i all ++ own ∷ [])) (sym is) (c.add_alternative.ensures (take
          i all) (subst (AreMet heading replay (take i all)) (sym c.deref_mut.ensures.value)
          c.loop-alternative.invariant.so_far)));
    }

pub returns : goal.returns
returns g c =
    let all = c.args.alternatives.now in
    let end : c.loop-alternative.alternative-index ≡ length all = omega arith in
    subst (λ x.
    AreMet (g.H.Headed.heading c.args.game.now) c.args.replayed.now x
    c.loop-alternative.met.items)
    (ap (λ n. take n all) end ∙ take-length all) c.loop-alternative.invariant.so_far
