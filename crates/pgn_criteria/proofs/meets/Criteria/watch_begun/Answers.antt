use Rattle.pgn_criteria.proofs.Common.{◌≡◌, ◌*◌, ℕ, List, take, ◌∙◌, refl, sym, ap, subst, arith}
use Rattle.pgn_criteria.proofs.Common.{heading_of, heading_of_raw, AllGood, EachAsksWithin}
use Rattle.chess.specs.declared.moves.Move.{Move}
use Rattle.pgn_game.specs.Public.CodeLines.{IsCodedLine, IsCodedReplay}
use Rattle.pgn_game.proofs.CodeLineFacts.{legal_along}
use Rattle.pgn_criteria.proofs.BeginningFacts.{within_hold_there}
use Rattle.pgn_criteria.proofs.BegunFacts.{begun_fits, none_begun}
use Rattle.pgn_criteria.proofs.RecordHeadings.{raw_heading, text_heading}
use Rattle.pgn_criteria.proofs.StageFacts.{same_plies}
use Rattle.pgn_criteria.proofs.meets.Criteria.watch_begun.Goals as goal

pub left_after-requires : goal.left_after-requires
left_after-requires c k =
    let most = c.in-Some.most in
    let line = c.in-Ok.ensures.line in
    let within : EachAsksWithin most c.self.inside.alternatives.items =
    rw c.in-Some.is at c.self.invariant.within in (
      (refl, tt),
      (
        c.requires,
        (
          subst AllGood (sym c.deref.ensures.value) c.self.invariant.good,
          (
            λ i P m at is.
                legal_along c.args.start c.in-Ok.beginning.played line.legal i P m
                (rw (← line.positions) at) is,
            (most, subst (EachAsksWithin most) (sym c.deref.ensures.value) within),
          ),
        ),
      ),
    )

pub returns-in-Err : goal.returns-in-Err
returns-in-Err c is =
    let most = c.in-Some.most in
    let raw = c.args.record.now in
    let front : c.front_of.result.now ≡ take (3 * most) raw.plies =
    c.front_of.ensures ∙ ap (take (3 * most)) c.plies.ensures in
    none_begun most c.args.start raw.plies
    (subst (λ (bytes : List ℕ). (moves : List Move) → IsCodedLine c.args.start bytes moves → ⊥)
    front (c.in-Err.ensures is))

pub returns-in_ok-left_after-in-Ok : goal.returns-in_ok-left_after-in-Ok
returns-in_ok-left_after-in-Ok c game replay packed is fits shows line legal coded ply =
    let raw = c.args.record.now in
    let own = heading_of_raw raw in
    let most = c.in-Some.most in
    let beginning = c.in-Ok.beginning in
    let search = c.in_ok-left_after-in-Ok.field-0 in
    let all = c.deref.ensures.value ∙ c.self.view_is in
    let front : c.front_of.result.now ≡ take (3 * most) raw.plies =
    c.front_of.ensures ∙ ap (take (3 * most)) c.plies.ensures in
    let begun =
    begun_fits most c.args.start raw.plies beginning line
    (subst (λ (bytes : List ℕ). IsCodedReplay c.args.start bytes beginning) front c.in-Ok.ensures)
    legal coded in
    let inside : EachAsksWithin most c.self.inside.alternatives.items =
    rw c.in-Some.is at c.self.invariant.within in
    let within = subst (EachAsksWithin most) c.self.view_is inside in
    let heading : own ≡ heading_of game =
    ap heading_of_raw (sym shows) ∙ raw_heading packed fits
    ∙ text_heading packed.name packed.number packed.offset game replay packed is in
    rw (← heading) (same_plies own line search c.args.self.now
    (λ at P.
    let kept = rw all at (c.in_ok-left_after-in-Ok.ensures.kept at P) in
    let there = within_hold_there own most beginning line begun at P c.args.self.now within in
    let here = within_hold_there own 0 beginning line
    (record {
      words = λ words few. begun.words words (omega (arith, few));
      counts = λ comparison count none. absurd (omega (arith, none));
    })
    at P search c.in_ok-left_after-in-Ok.ensures.free in
    (λ hold. there.0 (kept.0 (here.1 hold)), λ hold. here.0 (kept.1 (there.1 hold))))
    ply)
