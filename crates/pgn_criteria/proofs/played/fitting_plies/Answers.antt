use Rattle.std.proofs.lemmas.Result.{err_from_is_err_and}
use Rattle.std.proofs.lemmas.Option.{IfSome_then}
use Rattle.pgn_criteria.proofs.Common.{◌↔◌, ◌++◌, ◌∷◌, ◌∙◌, [], IsTrue, Conditions, Replay, refl}
use Rattle.pgn_criteria.proofs.Common.{sym, subst, AllClaims, Some, length, length-append, tag_in}
use Rattle.pgn_criteria.proofs.Common.{ap, fen_tag, not}
use Rattle.pgn_criteria.proofs.PlayedFacts.{played_all, played_fault, played_none, played_on}
use Rattle.pgn_criteria.proofs.ToldFacts.{none_told}
use Rattle.pgn_criteria.proofs.TurnAbout.{ends_from, ends_next, goes_from, goes_last, goes_next}
use Rattle.pgn_criteria.proofs.TurnAbout.{none_of, some_of, still_fits, still_reached}
use Rattle.pgn_criteria.proofs.TurnAbout.{told_end, told_on}
use Rattle.pgn_criteria.specs.Private.Told.{AllAbout, AreToldOf, IsAbout, IsSetup, StartsWith}
use Rattle.pgn_criteria.specs.Shared.PlayedTo.{IsPlayedTo}
use Rattle.pgn_criteria.specs.declared.played.About.TheVariants.{Last}
use Rattle.pgn_criteria.proofs.played.fitting_plies.Goals as goal

pub loop-fits-init : goal.loop-fits-init
loop-fits-init c = record {
  before = [];
  played = [];
  to = played_none c.in_ok-line.ensures;
  told = subst (AreToldOf c.args.alternative.now 0 (StartsWith [] []))
      (sym c.in_ok-fits.ensures.items) (none_told c.args.alternative.now (StartsWith [] []));
  reached = λ replay starts.
      subst (λ (a : Conditions). IsTrue c.are_about-is_reached.result
      ↔ AllAbout Last replay 0 a.moves) c.alternative.view_is
      (rw c.deref-2.ensures.value at (c.are_about-is_reached.ensures replay 0 refl));
}

pub returns-in_err-advance : goal.returns-in_err-advance
returns-in_err-advance c =
    let given = c.from_residual-in_err-advance in
    let p = err_from_is_err_and given.result given.ensures.1 in
    rw (p.1, p.2) (IfSome_then _ c.in_err-advance.ensures (played_fault c.loop-fits.invariant.to))

pub returns-in_err-next : goal.returns-in_err-next
returns-in_err-next c =
    let given = c.from_residual-in_err-next in
    let p = err_from_is_err_and given.result given.ensures.1 in
    rw (p.1, p.2) (IfSome_then _ c.in_err-next.ensures.went (played_fault c.loop-fits.invariant.to))

pub returns-then-not-branch : goal.returns-then-not-branch
returns-then-not-branch c =
    let own = c.args.alternative.now in
    let old = c.loop-fits.invariant in
    let line = c.loop-fits.line in
    let even = old.to.moves ∙ sym old.to.count in
    let ended = rw c.if-not-branch.true at c.in_ok-advance.ensures in
    let replay : Replay =
    record { positions = old.before ++ line.position ∷ []; played = old.played; turns = [] } in
    let setups : AllClaims IsSetup own.moves =
    subst (λ (a : Conditions). AllClaims IsSetup a.moves) c.alternative.view_is
    (rw c.deref.ensures.value at (c.are_setups-is_of_positions.ensures.0 c.if-is_of_positions.true))
    in
    let here = (ends_next old.before old.played line.position even replay refl refl).0 in
    let before = c.fits_before-is_met.ensures replay _ (rw c.position-in-loop-fits.ensures here)
    (old.reached replay (ends_from old.before old.played line.position even replay refl refl)) in
    let told = told_end old.before old.played line.position even own c.loop-fits.fits.items
    c.add_ply.new.fits.items c.fits_before-is_met.result old.told c.in_ok-add_ply.ensures replay
    refl refl
    (still_fits replay own _ c.fits_before-is_met.result setups before) in
    (replay, played_all old.to ended.words, told.0, told.1)

pub loop-fits-preserved-then-is_of_positions : goal.loop-fits-preserved-then-is_of_positions
loop-fits-preserved-then-is_of_positions c =
    let own = c.args.alternative.now in
    let old = c.loop-fits.invariant in
    let line = c.loop-fits.line in
    let even = old.to.moves ∙ sym old.to.count in
    let word = rw c.if-not-branch.false at c.in_ok-advance.ensures in
    let setups : AllClaims IsSetup own.moves =
    subst (λ (a : Conditions). AllClaims IsSetup a.moves) c.alternative.view_is
    (rw c.deref.ensures.value at (c.are_setups-is_of_positions.ensures.0 c.if-is_of_positions.true))
    in
    let met = c.fits_before-is_met.result in
    record {
      before = old.before ++ line.position ∷ [];
      played = old.played ++ word.m ∷ [];
      to = played_on old.to word;
      told = told_on old.before old.played line.position even own c.loop-fits.fits.items
          c.add_ply.new.fits.items met old.told c.in_ok-add_ply.ensures word.m
          (λ replay starts.
          let here = (goes_next old.before old.played line.position even word.m replay starts).0 in
          still_fits replay own _ met setups
          (c.fits_before-is_met.ensures replay _ (rw c.position-in-loop-fits.ensures here)
          (old.reached replay
          (goes_from old.before old.played line.position even word.m replay starts))));
      reached = λ replay starts.
          still_reached replay own (length old.before) _ c.loop-fits.is_reached setups
          (old.reached replay
          (goes_from old.before old.played line.position even word.m replay starts));
    }

pub returns-then-is_none : goal.returns-then-is_none
returns-then-is_none c =
    let own = c.args.alternative.now in
    let old = c.loop-fits.invariant in
    let line = c.loop-fits.line in
    let even = old.to.moves ∙ sym old.to.count in
    let none = none_of c.in_ok-next.next (c.is_none.ensures ∙ ap not c.if-is_none.true) in
    let ended = rw none at c.in_ok-next.ensures.went in
    let replay : Replay =
    record { positions = old.before ++ line.position ∷ []; played = old.played; turns = [] } in
    let next = ends_next old.before old.played line.position even replay refl refl in
    let before = c.fits_before-is_met.ensures replay _ (rw c.position-in-loop-fits.ensures next.0)
    (old.reached replay (ends_from old.before old.played line.position even replay refl refl)) in
    let (is, items, fits) = c.in_ok-add_turn.ensures in
    let told = told_end old.before old.played line.position even own c.loop-fits.fits.items
    c.add_turn.new.fits.items is old.told items replay refl refl
    (fits replay _ (rw (c.in_ok-next.ensures.before, none) next) before) in
    (replay, played_all old.to ended.words, told.0, told.1)

pub loop-fits-preserved : goal.loop-fits-preserved
loop-fits-preserved c =
    let own = c.args.alternative.now in
    let old = c.loop-fits.invariant in
    let line = c.loop-fits.line in
    let even = old.to.moves ∙ sym old.to.count in
    let (m, some) = some_of c.in_ok-next.next (c.is_none.ensures ∙ ap not c.if-is_none.false) in
    let (word, same) = rw some at c.in_ok-next.ensures.went in
    let (is, items, fits) = c.in_ok-add_turn.ensures in
    record {
      before = old.before ++ line.position ∷ [];
      played = old.played ++ m ∷ [];
      to = subst (λ k. IsPlayedTo (tag_in fen_tag c.args.game.now.tags) c.args.game.now.elements
          c.advance_from.new.self (old.before ++ line.position ∷ []) (old.played ++ k ∷ [])) same
          (played_on old.to word);
      told = told_on old.before old.played line.position even own c.loop-fits.fits.items
          c.add_turn.new.fits.items is old.told items m
          (λ replay starts.
          let next = goes_next old.before old.played line.position even m replay starts in
          fits replay _ (rw (c.in_ok-next.ensures.before, some) next)
          (c.fits_before-is_met.ensures replay _ (rw c.position-in-loop-fits.ensures next.0)
          (old.reached replay
          (goes_from old.before old.played line.position even m replay starts))));
      reached = λ replay starts.
          let n = length (old.before ++ line.position ∷ []) in
          let last = subst (λ k. IsAbout Last replay k line.position (Some m))
          (sym (length-append old.before (line.position ∷ [])))
          (goes_last old.before old.played line.position even m replay starts) in
          subst (λ (a : Conditions). IsTrue c.are_about-is_reached-in-loop-fits.result
          ↔ AllAbout Last replay n a.moves) c.alternative.view_is
          (rw c.deref-in-loop-fits.ensures.value at
          (c.are_about-is_reached-in-loop-fits.ensures replay n
          (subst (λ P. IsAbout Last replay n P c.in_ok-next.next)
          (sym c.in_ok-next.ensures.before)
          (subst (λ k. IsAbout Last replay n line.position k) (sym some) last))));
    }
