use Rattle.pgn_criteria.proofs.Common.{◌+◌, ◌≤◌, ◌∙◌, [], ap, arith, length}
use Rattle.pgn_criteria.proofs.Common.{map, move_seen, refl, stated, subst, sym}
use Rattle.std.specs.Prelude.{slice_set}
use Rattle.std.proofs.lemmas.List.{length-drop, length-set}
use Rattle.pgn_criteria.specs.Public.Walks.{IsSightOf}
use Rattle.pgn_criteria.specs.Private.Told.{AllAbout}
use Rattle.pgn_criteria.specs.declared.played.About.TheVariants.{Last, Next}
use Rattle.pgn_criteria.proofs.KeptFacts.{asked_all, kept_all, kept_first, kept_none}
use Rattle.pgn_criteria.proofs.KeptFacts.{kept_second, next_about}
use Rattle.pgn_criteria.proofs.KeptFacts.{walked_none, walked_on}
use Rattle.pgn_criteria.proofs.StandFacts.{rest_is}
use Rattle.pgn_criteria.proofs.walked.keep_moves.Goals as goal

pub loop-is-init : goal.loop-is-init
loop-is-init c =
    let asked = map (stated (move_seen (λ text. text.items))) c.args.conditions.now in
    let told = c.args.told.now in
    let size = c.requires in
    record {
      size = length-set told 0 c.in-Some.is';
      place = omega arith;
      so_far = λ P replay sight by.
          let seen = subst (λ s. IsSightOf P s) (sym c.by_cells-walk.ensures) sight in (
            walked_none P replay c.by_cells-walk.result c.args.plies.now seen by,
            kept_second (λ k. AllAbout Next replay k asked) (λ k. AllAbout Last replay k asked) 0 0
                0 told told c.in-Some.is' (omega (arith, size))
                (kept_none (λ k. AllAbout Next replay k asked) (λ k. AllAbout Last replay k asked)
                told) refl
                (asked_all (c.about_that-back.ensures replay 0)
                (c.in-Some.ensures P [] replay 0 seen tt refl refl)),
          );
    }

pub returns-in_default-left : goal.returns-in_default-left
returns-in_default-left c is P replay sight by ply =
    let asked = map (stated (move_seen (λ text. text.items))) c.args.conditions.now in
    let told = c.loop-is.told in
    let at = c.loop-is.ply in
    let size = c.requires in
    let same = c.loop-is.invariant.size in
    let place = c.loop-is.invariant.place in
    let short = c.in_default-left.len_below in
    let old = c.loop-is.invariant.so_far P replay sight by in
    let way = old.0 in
    let all : length c.args.told.now ≤ at + 1 = omega (arith, size, place, short) in
    let both =
    kept_all (λ k. AllAbout Next replay k asked) (λ k. AllAbout Last replay k asked) (at + 1)
    (at + 1) c.args.told.now (slice_set told at c.in-Some-stays.is') all all
    (kept_first (λ k. AllAbout Next replay k asked) (λ k. AllAbout Last replay k asked) at (at + 1)
    at c.args.told.now told c.in-Some-stays.is' (omega (arith, size, same, place)) old.1 refl
    (asked_all (c.about_that-on.ensures replay at)
    (c.in-Some-stays.ensures way.position way.moves replay at way.sight way.legal way.are
    (next_about replay c.loop-is.walk c.loop-is.left.now at way)))) ply in (
      λ t. let kept = both.0 t in (kept.0, (kept.1, kept.2)),
      λ so. both.1 (so.0, so.1.0, so.1.1),
    )

pub loop-is-preserved : goal.loop-is-preserved
loop-is-preserved c =
    let asked = map (stated (move_seen (λ text. text.items))) c.args.conditions.now in
    let told = c.loop-is.told in
    let left = c.loop-is.left.now in
    let at = c.loop-is.ply in
    let first = slice_set told at c.in-Some-stays.is' in
    let size = c.requires in
    let same = c.loop-is.invariant.size in
    let place = c.loop-is.invariant.place in
    let long = c.in-len3-up.len_at_least in
    let rest = rest_is left _ refl in
    let shorter = ap length rest ∙ length-drop 3 left in
    let kept = length-set told at c.in-Some-stays.is' in
    record {
      size = length-set first (at + 1) c.in-Some-stays-2.is' ∙ kept ∙ same;
      place = omega (arith, place, long, shorter);
      so_far = λ P replay sight by.
          let old = c.loop-is.invariant.so_far P replay sight by in
          let way = old.0 in
          let on = walked_on replay c.loop-is.walk left at way _ (at + 1) refl long rest in
          let next =
          kept_first (λ k. AllAbout Next replay k asked) (λ k. AllAbout Last replay k asked) at
          (at + 1) at c.args.told.now told c.in-Some-stays.is' (omega (arith, size, same, place))
          old.1 refl
          (asked_all (c.about_that-on.ensures replay at)
          (c.in-Some-stays.ensures way.position way.moves replay at way.sight way.legal way.are
          (next_about replay c.loop-is.walk left at way))) in (
            rw c.step.ensures on.1,
            kept_second (λ k. AllAbout Next replay k asked) (λ k. AllAbout Last replay k asked)
                (at + 1) (at + 1) (at + 1) c.args.told.now first c.in-Some-stays-2.is'
                (omega (arith, size, same, place, long, kept)) next refl
                (asked_all (c.about_that-back.ensures replay (at + 1))
                (c.in-Some-stays-2.ensures way.position way.moves replay (at + 1) way.sight
                way.legal way.are on.0)),
          );
    }
