use Rattle.std.proofs.lemmas.List.{take_at}
use Rattle.std.proofs.lemmas.Option.{slice_get-get_or}
use Rattle.pgn_criteria.proofs.Common.{◌≡◌, ◌++◌, ◌+◌, ◌∙◌, refl, ap, sym, subst, arith, List, Bool}
use Rattle.pgn_criteria.proofs.Common.{Some, length, take, take-length, drop, map, append-nil}
use Rattle.pgn_criteria.proofs.Common.{slice_get, AreMet, FitsAt, FitsAbout}
use Rattle.pgn_criteria.proofs.ColumnFacts.{met_more}
use Rattle.pgn_criteria.proofs.MeetFacts.{alternatives_from}
use Rattle.pgn_criteria.specs.Private.Stages.{AllOfGame, EachIs}
use Rattle.pgn_criteria.specs.Private.Told.{AreTold, column}
use Rattle.pgn_criteria.proofs.told.add_columns.Goals as goal

pub loop-alternative-init : goal.loop-alternative-init
loop-alternative-init c =
    record {
      at = refl;
      met = λ replay told heading before each met. (
        each,
        subst (λ xs. AreMet heading replay xs c.args.met.now) (sym (append-nil before)) met,
      );
    }

pub loop-alternative-preserved : goal.loop-alternative-preserved
loop-alternative-preserved c =
    let old = c.loop-alternative.invariant in
    let all = c.args.alternatives.now in
    let i = c.loop-alternative.alternative-index in
    let own = c.alternative-item.result in
    let within = c.loop-alternative-test.true in
    let new = c.keep_spans.new.fits in
    let whole : List Bool = take c.in_ok-told.told.len (new
    ++ drop (length new) c.in_ok-told.told.items) in
    let same : whole ≡ new =
    take_at new (drop (length new) c.in_ok-told.told.items) c.in_ok-told.told.len
    (c.keep_spans.auto.fits ∙ c.deref_mut.ensures.len) in
    let here : slice_get all i ≡ Some own =
    slice_get-get_or all i own within ∙ ap Some (sym c.alternative-item.is) in
    let bits : column i c.args.fits.now ≡ c.deref_mut.result.now =
    sym (c.deref_mut.ensures.value ∙ c.in_ok-told.ensures
    ∙ ap (λ n. column n c.args.fits.now) old.at) in
    record {
      at = ap (λ n. n + 1) old.at;
      met = λ replay told heading before each met.
          let kept : AreTold (FitsAbout replay own.now) new =
          c.keep_spans.ensures replay
          (subst (AreTold (FitsAt replay own.now)) bits (told i own here)) in
          let (left, so_far) = old.met replay told heading before each met in
          let parts : AllOfGame heading replay own.now
          × EachIs (AllOfGame heading replay) (map (λ a. a.now) (drop (i + 1) all)) =
          subst (EachIs (AllOfGame heading replay))
          (ap (map (λ a. a.now)) (alternatives_from all i own within c.alternative-item.is)) left
          in (
            parts.1,
            met_more (λ a. a.now) heading replay before all i own
                c.deref.result.now
                c.loop-alternative.met c.add_told.new.met within c.alternative-item.is parts.0
                (subst (AreTold (FitsAbout replay own.now))
                (sym (c.deref.ensures.value ∙ same)) kept)
                c.add_told.auto.met c.add_told.ensures so_far,
          );
    }

pub returns : goal.returns
returns c replay told heading before each met =
    let old = c.loop-alternative.invariant in
    let all = c.args.alternatives.now in
    let end : c.loop-alternative.alternative-index ≡ length all = omega arith in
    subst (λ xs. AreMet heading replay (before ++ map (λ a. a.now) xs) c.loop-alternative.met)
    (ap (λ n. take n all) end ∙ take-length all) (old.met replay told heading before each met).1
