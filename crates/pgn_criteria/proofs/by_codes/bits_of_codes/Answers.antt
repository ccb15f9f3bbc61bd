use Rattle.pgn_criteria.proofs.Common.{◌+◌, ◌++◌, ◌∷◌, ◌∙◌, [], None, refl, sym, subst}
use Rattle.std.proofs.lemmas.Result.{err_from_is_err_and}
use Rattle.pgn_criteria.proofs.Common.{Some, State, length, length-append, ap}
use Rattle.chess.specs.Public.Moves.{after}
use Rattle.pgn_criteria.proofs.ColumnFacts.{columns_end, columns_on}
use Rattle.pgn_criteria.proofs.CodedPlays.{coded_line, coded_none, coded_on, coded_stuck}
use Rattle.pgn_criteria.proofs.StandFacts.{rest_is}
use Rattle.pgn_criteria.proofs.ToldFacts.{none_told}
use Rattle.pgn_criteria.proofs.TurnAbout.{ends_from, ends_next, goes_from, goes_last, goes_next}
use Rattle.pgn_game.specs.Public.CodeLines.{IsNextCoded}
use Rattle.pgn_criteria.specs.Public.Turns.{HasLed, IsTurn}
use Rattle.pgn_criteria.specs.Private.Told.{AreToldOf, StartsWith, column}
use Rattle.pgn_criteria.proofs.by_codes.bits_of_codes.Goals as goal

pub loop-fits-init : goal.loop-fits-init
loop-fits-init c = record {
  passed = [];
  played = [];
  to = rw c.copy-here.ensures (coded_none c.args.start.now c.args.plies.now);
  told = λ i one at. subst (AreToldOf one.now 0 (StartsWith [] []))
      (sym (ap (column i) c.in_ok-fits.ensures.items)) (none_told one.now (StartsWith [] []));
  led = λ replay starts. refl;
  legal = tt;
}

pub returns-in_err-next : goal.returns-in_err-next
returns-in_err-next c =
    let given = c.from_residual-in_err-next in
    let p = err_from_is_err_and given.result given.ensures.1 in
    rw (p.1, p.2) (λ is. coded_stuck c.loop-fits.invariant.to c.in_err-next.ensures.1)

pub returns-in_default : goal.returns-in_default
returns-in_default c line legal coded =
    let old = c.loop-fits.invariant in
    let here = c.loop-fits.here in
    let even = sym old.to.even in
    let ends : IsNextCoded here c.loop-fits.left.now None =
    subst (IsNextCoded here c.loop-fits.left.now) c.in_default.is c.in_ok-next.ensures in
    let (positions, moves) = coded_line old.to ends line legal coded in
    let next = ends_next old.passed old.played here even line positions moves in
    let (own, items, bits) = c.in_ok-add_bits.ensures in
    let turn : IsTurn line (length old.passed) c.loop-fits.before c.loop-fits.last here
    c.in_ok-next.next =
    record {
      led = old.led line (ends_from old.passed old.played here even line positions moves);
      here = next.0;
      goes = rw c.in_default.is next.1;
    } in
    columns_end (λ a. a.now) c.args.alternatives.now old.passed old.played here even
    c.loop-fits.fits.items c.add_bits.new.fits.items own old.told items line positions moves
    (bits line (length old.passed) turn)

pub loop-fits-preserved : goal.loop-fits-preserved
loop-fits-preserved c =
    let old = c.loop-fits.invariant in
    let here = c.loop-fits.here in
    let left = c.loop-fits.left.now in
    let even = sym old.to.even in
    let m = c.in-Some.m in
    let some = c.in-Some.is in
    let goes : IsNextCoded here left (Some m) =
    subst (IsNextCoded here left) some c.in_ok-next.ensures in
    let (own, items, bits) = c.in_ok-add_bits.ensures in
    let from = c.copy_from.ensures in
    record {
      passed = old.passed ++ here ∷ [];
      played = old.played ++ m ∷ [];
      to = coded_on old.to m goes (old.played ++ m ∷ []) _ _ refl
          (c.play-here.ensures.position ∙ ap (λ (P : State). after P m) from)
          (rest_is left _ refl);
      told = columns_on (λ a. a.now) c.args.alternatives.now old.passed old.played here
          even c.loop-fits.fits.items c.add_bits.new.fits.items own old.told items m
          (λ replay starts.
          let next = goes_next old.passed old.played here even m replay starts in
          bits replay (length old.passed) (record {
            led = old.led replay (goes_from old.passed old.played here even m replay starts);
            here = next.0;
            goes = rw some next.1;
          }));
      led = λ replay starts.
          let n = length (old.passed ++ here ∷ []) in
          let last = subst (λ k. HasLed replay k here (Some m))
          (sym (length-append old.passed (here ∷ [])))
          (goes_last old.passed old.played here even m replay starts) in
          subst (λ P. HasLed replay n P c.in_ok-next.next) (sym from)
          (subst (λ k. HasLed replay n here k) (sym some) last);
      legal = rw (from, some) goes.0;
    }
