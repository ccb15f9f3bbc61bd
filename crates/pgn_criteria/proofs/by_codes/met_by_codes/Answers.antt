use Rattle.std.proofs.lemmas.List.{take_at}
use Rattle.pgn_criteria.proofs.Common.{◌≡◌, ◌++◌, ◌+◌, ◌∙◌, sym, subst, arith, List}
use Rattle.pgn_criteria.proofs.Common.{Bool, length, take, drop, map, AreMet}
use Rattle.pgn_criteria.proofs.CodedPlays.{coded_size}
use Rattle.pgn_criteria.proofs.ColumnFacts.{each_parted, taken_to, taken_rest}
use Rattle.pgn_criteria.specs.Private.Stages.{AllOfGame, EachIs}
use Rattle.pgn_criteria.proofs.by_codes.met_by_codes.Goals as goal

pub loop-at-init : goal.loop-at-init
loop-at-init c = record {
  within = omega arith;
  met = λ line legal coded heading each.
      c.in_ok-met.ensures.none heading line (coded_size c.args.start.now c.args.plies.now line
      legal coded);
}

pub loop-at-preserved : goal.loop-at-preserved
loop-at-preserved c =
    let all = c.args.left.now in
    let at = c.loop-at.at in
    let own = c.loop-at.met in
    let new = c.add_coded.new.met in
    let whole : List Bool = take own.len (new ++ drop (length new) own.items) in
    let same : whole ≡ new = take_at new (drop (length new) own.items) own.len
    (c.add_coded.auto.met ∙ c.deref_mut.ensures.len) in
    record {
      within = omega (arith, c.loop-at-test.true);
      met = λ line legal coded heading each.
          let more = taken_to (λ a. a.now) all at (at + 64) (omega arith) in
          let parts = each_parted (AllOfGame heading line) (map (λ a. a.now) (take at all)) _
          (subst (EachIs (AllOfGame heading line)) more each) in
          subst (λ xs. AreMet heading line xs whole) (sym more)
          (subst (AreMet heading line _) (sym same)
          (c.in_ok-add_coded.ensures line legal coded heading _ parts.1
          (subst (AreMet heading line _) (sym c.deref_mut.ensures.value)
          (c.loop-at.invariant.met line legal coded heading parts.0))));
    }

pub returns : goal.returns
returns c line legal coded heading each =
    let all = c.args.left.now in
    let at = c.loop-at.at in
    let own = c.loop-at.met in
    let new = c.add_coded-2.new.met in
    let whole : List Bool = take own.len (new ++ drop (length new) own.items) in
    let same : whole ≡ new = take_at new (drop (length new) own.items) own.len
    (c.add_coded-2.auto.met ∙ c.deref_mut-2.ensures.len) in
    let more = taken_rest (λ a. a.now) all at in
    let parts = each_parted (AllOfGame heading line) (map (λ a. a.now) (take at all)) _
    (subst (EachIs (AllOfGame heading line)) more each) in
    subst (λ xs. AreMet heading line xs whole) (sym more)
    (subst (AreMet heading line _) (sym same)
    (c.in_ok-add_coded-2.ensures line legal coded heading _ parts.1
    (subst (AreMet heading line _) (sym c.deref_mut-2.ensures.value)
    (c.loop-at.invariant.met line legal coded heading parts.0))))
