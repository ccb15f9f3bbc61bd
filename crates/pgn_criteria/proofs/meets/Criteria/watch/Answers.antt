use Rattle.pgn_criteria.proofs.Common.{◌∙◌, ap, refl, sym, subst, arith, length, tag_in, fen_tag}
use Rattle.pgn_criteria.proofs.Common.{AllGood, EachAsksWithin, heading_of}
use Rattle.pgn_game.specs.Public.MainLines.{main_words}
use Rattle.pgn_game.proofs.Beginnings.{beginning_legal}
use Rattle.pgn_game.proofs.OneLine.{plies_played}
use Rattle.pgn_criteria.proofs.BeginningFacts.{beginning_fits, within_hold_there}
use Rattle.pgn_criteria.proofs.StageFacts.{same_plies}
use Rattle.pgn_criteria.proofs.meets.Criteria.watch.Goals as goal

pub returns-in-Some : goal.returns-in-Some
returns-in-Some c replay own ply =
    let heading = heading_of c.args.game.now in
    let watched = rw c.in-Some.is at c.in_ok-search.ensures in
    watched replay ply

pub returns-in-Some-2 : goal.returns-in-Some-2
returns-in-Some-2 c replay own ply =
    let met = rw c.in-Some-2.is at c.in_ok-search-2.ensures in
    let words = main_words c.args.game.now.elements 0 in
    let played = plies_played own.1.start words replay.positions replay.played own.1.line in
    let counted = ap (λ items. length (main_words items 0)) c.elements.ensures.elements in
    met replay (sym played ∙ sym counted ∙ sym c.count_main_moves-plies.ensures) ply

pub left_after-requires : goal.left_after-requires
left_after-requires c k =
    let most = c.in-Some-beginning.most in
    let within : EachAsksWithin most c.self.inside.alternatives.items =
    rw c.in-Some-beginning.is at c.self.invariant.within in (
      (refl, tt),
      (
        tt,
        (
          subst AllGood (sym c.deref.ensures.value) c.self.invariant.good,
          (
            beginning_legal (tag_in fen_tag c.args.game.now.tags) c.args.game.now.elements _
                c.in_ok-beginning.beginning c.in_ok-beginning.ensures,
            (most, subst (EachAsksWithin most) (sym c.deref.ensures.value) within),
          ),
        ),
      ),
    )

pub returns : goal.returns
returns c replay own ply =
    let heading = heading_of c.args.game.now in
    let most = c.in-Some-beginning.most in
    let beginning = c.in_ok-beginning.beginning in
    let search = c.in_ok-left_after.field-0 in
    let all = c.deref.ensures.value ∙ c.self.view_is in
    let fits =
    beginning_fits (tag_in fen_tag c.args.game.now.tags) c.args.game.now.elements most beginning
    replay c.in_ok-beginning.ensures own in
    let inside : EachAsksWithin most c.self.inside.alternatives.items =
    rw c.in-Some-beginning.is at c.self.invariant.within in
    let within = subst (EachAsksWithin most) c.self.view_is inside in
    same_plies heading replay search c.args.self.now
    (λ at P.
    let kept = rw all at (c.in_ok-left_after.ensures.kept at P) in
    let there = within_hold_there heading most beginning replay fits at P c.args.self.now within in
    let here = within_hold_there heading 0 beginning replay
    (record {
      words = λ words few. fits.words words (omega (arith, few));
      counts = λ comparison count none. absurd (omega (arith, none));
    })
    at P search c.in_ok-left_after.ensures.free in
    (λ hold. there.0 (kept.0 (here.1 hold)), λ hold. here.0 (kept.1 (there.1 hold))))
    ply
