use Rattle.std.proofs.lemmas.List.{take_at}
use Rattle.pgn_criteria.proofs.Common.{◌≡◌, ◌++◌, ◌∷◌, ◌+◌, ◌∙◌, [], ap, sym, subst, arith, List}
use Rattle.pgn_criteria.proofs.Common.{Bool, length, take, drop, map}
use Rattle.pgn_criteria.proofs.Common.{AreMet, FitsAt, tag_in, fen_tag}
use Rattle.pgn_game.specs.Public.MainLines.{main_words}
use Rattle.pgn_game.specs.declared.replays.replayer.Lines.TheVariants.{Main}
use Rattle.pgn_game.proofs.OneLine.{plies_played}
use Rattle.pgn_game.proofs.OneReplay.{line_length, one_replay}
use Rattle.pgn_criteria.proofs.ColumnFacts.{added_met, each_parted, one_list, taken_to, taken_rest}
use Rattle.pgn_criteria.proofs.ToldFacts.{told_met}
use Rattle.pgn_criteria.specs.Private.Stages.{AllOfGame, EachIs}
use Rattle.pgn_criteria.specs.Private.Told.{AreTold}
use Rattle.pgn_criteria.proofs.played.met_by_left.Goals as goal

pub returns-in-len1 : goal.returns-in-len1
returns-in-len1 c =
    let own = c.only-item.result in
    let all = c.args.left.now in
    let one : all ≡ own ∷ [] =
    one_list all own c.only-item.is c.in-len1.len_at_least c.in-len1.len_below in
    let (replay, is, size, told) = c.in_ok-met.ensures in
    let new = c.keep_spans.new.fits in
    let whole : List Bool = take c.in_ok-met.met.len (new
    ++ drop (length new) c.in_ok-met.met.items) in
    let same : whole ≡ new =
    take_at new (drop (length new) c.in_ok-met.met.items) c.in_ok-met.met.len
    (c.keep_spans.auto.fits ∙ c.deref_mut.ensures.len) in
    let kept = c.keep_spans.ensures replay
    (subst (AreTold (FitsAt replay own.now)) (sym c.deref_mut.ensures.value) told) in
    let length_is = c.keep_spans.auto.fits ∙ ap length c.deref_mut.ensures.value ∙ size in (
      replay,
      is,
      λ heading each.
          let of_game : AllOfGame heading replay own.now × Unit {0} =
          subst (λ xs. EachIs (AllOfGame heading replay) (map (λ a. a.now) xs)) one each in
          subst (λ xs. AreMet heading replay (map (λ a. a.now) xs) whole) (sym one)
          (subst (AreMet heading replay (own.now ∷ [])) (sym same)
          (told_met heading replay own.now (own.now ∷ []) new of_game.0
          (λ ply. (λ meets. meets, λ meets. meets)) length_is kept)),
    )

pub loop-at-init : goal.loop-at-init
loop-at-init c = record {
  within = omega arith;
  met = λ replay is heading each.
      let words = main_words c.args.game.now.elements 0 in
      c.in_ok-met-2.ensures.none heading replay
      (line_length is.start words replay.positions replay.played is.line
      ∙ ap (λ n. n + 1) (sym (plies_played is.start words replay.positions replay.played is.line)
      ∙ sym c.requires));
}

pub loop-at-preserved : goal.loop-at-preserved
loop-at-preserved c =
    let all = c.args.left.now in
    let at = c.loop-at.at in
    let own = c.loop-at.met in
    let new = c.add_met.new.met in
    let whole : List Bool = take own.len (new ++ drop (length new) own.items) in
    let (other, is_other, adds) = c.in_ok-add_met.ensures in
    let same : whole ≡ new = take_at new (drop (length new) own.items) own.len
    (c.add_met.auto.met ∙ c.deref_mut-in-loop-at.ensures.len) in
    record {
      within = omega (arith, c.loop-at-test.true);
      met = λ replay is heading each.
          let more = taken_to (λ a. a.now) all at (at + 64) (omega arith) in
          let parts = each_parted (AllOfGame heading replay) (map (λ a. a.now) (take at all))
          _
          (subst (EachIs (AllOfGame heading replay)) more each) in
          subst (λ xs. AreMet heading replay xs whole) (sym more)
          (subst (AreMet heading replay _) (sym same)
          (added_met replay other (one_replay Main (tag_in fen_tag c.args.game.now.tags)
          c.args.game.now.elements other replay is_other is) heading _ _
          c.deref_mut-in-loop-at.result.now
          new adds parts.1 (subst (AreMet heading replay _)
          (sym c.deref_mut-in-loop-at.ensures.value)
          (c.loop-at.invariant.met replay is heading parts.0))));
    }

pub returns : goal.returns
returns c =
    let all = c.args.left.now in
    let at = c.loop-at.at in
    let own = c.loop-at.met in
    let new = c.add_met-2.new.met in
    let whole : List Bool = take own.len (new ++ drop (length new) own.items) in
    let (replay, is, adds) = c.in_ok-add_met-2.ensures in
    let same : whole ≡ new = take_at new (drop (length new) own.items) own.len
    (c.add_met-2.auto.met ∙ c.deref_mut-2.ensures.len) in (
      replay,
      is,
      λ heading each.
          let more = taken_rest (λ a. a.now) all at in
          let parts = each_parted (AllOfGame heading replay) (map (λ a. a.now) (take at all)) _
          (subst (EachIs (AllOfGame heading replay)) more each) in
          subst (λ xs. AreMet heading replay xs whole) (sym more)
          (subst (AreMet heading replay _) (sym same)
          (adds heading _ parts.1 (subst (AreMet heading replay _)
          (sym c.deref_mut-2.ensures.value)
          (c.loop-at.invariant.met replay is heading parts.0)))),
    )
