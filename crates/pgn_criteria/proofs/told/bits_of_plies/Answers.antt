use Rattle.std.proofs.lemmas.Result.{err_from_is_err_and}
use Rattle.std.proofs.lemmas.Option.{IfSome_then}
use Rattle.pgn_criteria.proofs.Common.{◌+◌, ◌++◌, ◌∷◌, ◌∙◌, [], Replay, refl, sym, subst}
use Rattle.pgn_criteria.proofs.Common.{Some, length, length-append, tag_in, ap, fen_tag, not}
use Rattle.pgn_criteria.proofs.ColumnFacts.{columns_end, columns_on}
use Rattle.pgn_criteria.proofs.PlayedFacts.{played_all, played_fault, played_none, played_on}
use Rattle.pgn_criteria.proofs.ToldFacts.{none_told}
use Rattle.pgn_criteria.proofs.TurnAbout.{ends_from, ends_next, goes_from, goes_last, goes_next}
use Rattle.pgn_criteria.proofs.TurnAbout.{legal_next, none_of, some_of}
use Rattle.pgn_criteria.specs.Public.Turns.{HasLed, IsTurn}
use Rattle.pgn_criteria.specs.Private.Told.{AreToldOf, StartsWith, column}
use Rattle.pgn_criteria.specs.Shared.PlayedTo.{IsPlayedTo}
use Rattle.pgn_criteria.proofs.told.bits_of_plies.Goals as goal

pub loop-fits-init : goal.loop-fits-init
loop-fits-init c = record {
  passed = [];
  played = [];
  to = played_none c.in_ok-line.ensures;
  size = ap length c.in_ok-fits.ensures.items;
  told = λ i one at. subst (AreToldOf one.now 0 (StartsWith [] []))
      (sym (ap (column i) c.in_ok-fits.ensures.items)) (none_told one.now (StartsWith [] []));
  led = λ replay starts. refl;
  legal = tt;
}

pub returns-in_err-next : goal.returns-in_err-next
returns-in_err-next c =
    let given = c.from_residual-in_err-next in
    let p = err_from_is_err_and given.result given.ensures.1 in
    rw (p.1, p.2) (IfSome_then _ c.in_err-next.ensures.went (played_fault c.loop-fits.invariant.to))

pub returns-then-is_none : goal.returns-then-is_none
returns-then-is_none c =
    let old = c.loop-fits.invariant in
    let line = c.loop-fits.line in
    let even = old.to.moves ∙ sym old.to.count in
    let none = none_of c.in_ok-next.next (c.is_none.ensures ∙ ap not c.if-is_none.true) in
    let ended = rw none at c.in_ok-next.ensures.went in
    let replay : Replay =
    record { positions = old.passed ++ line.position ∷ []; played = old.played; turns = [] } in
    let next = ends_next old.passed old.played line.position even replay refl refl in
    let (own, items, bits) = c.in_ok-add_bits.ensures in
    let turn : IsTurn replay (length old.passed) c.loop-fits.before c.loop-fits.last
    c.advance_from.new.before c.in_ok-next.next =
    record {
      led = old.led replay
          (ends_from old.passed old.played line.position even replay refl refl);
      here = rw c.in_ok-next.ensures.before next.0;
      goes = rw none next.1;
    } in (
      replay,
      played_all old.to ended.words,
      ap length items ∙ length-append c.loop-fits.fits.items (own ∷ [])
          ∙ ap (λ n. n + 1) old.size ∙ sym (length-append old.passed (line.position ∷ [])),
      columns_end (λ a. a.now) c.args.alternatives.now old.passed old.played line.position even
          c.loop-fits.fits.items c.add_bits.new.fits.items own old.told items replay refl refl
          (bits replay (length old.passed) turn),
    )

pub loop-fits-preserved : goal.loop-fits-preserved
loop-fits-preserved c =
    let old = c.loop-fits.invariant in
    let line = c.loop-fits.line in
    let even = old.to.moves ∙ sym old.to.count in
    let (m, some) = some_of c.in_ok-next.next (c.is_none.ensures ∙ ap not c.if-is_none.false) in
    let (word, same) = rw some at c.in_ok-next.ensures.went in
    let (own, items, bits) = c.in_ok-add_bits.ensures in
    let from = c.copy_from.ensures ∙ c.in_ok-next.ensures.before in
    record {
      passed = old.passed ++ line.position ∷ [];
      played = old.played ++ m ∷ [];
      to = subst (λ k. IsPlayedTo (tag_in fen_tag c.args.game.now.tags) c.args.game.now.elements
          c.advance_from.new.self (old.passed ++ line.position ∷ []) (old.played ++ k ∷ [])) same
          (played_on old.to word);
      size = ap length items ∙ length-append c.loop-fits.fits.items (own ∷ [])
          ∙ ap (λ n. n + 1) old.size ∙ sym (length-append old.passed (line.position ∷ []));
      told = columns_on (λ a. a.now) c.args.alternatives.now old.passed old.played line.position
          even c.loop-fits.fits.items c.add_bits.new.fits.items own old.told items m
          (λ replay starts.
          let next = goes_next old.passed old.played line.position even m replay starts in
          bits replay (length old.passed) (record {
            led = old.led replay
                (goes_from old.passed old.played line.position even m replay starts);
            here = rw c.in_ok-next.ensures.before next.0;
            goes = rw some next.1;
          }));
      led = λ replay starts.
          let n = length (old.passed ++ line.position ∷ []) in
          let last = subst (λ k. HasLed replay k line.position (Some m))
          (sym (length-append old.passed (line.position ∷ [])))
          (goes_last old.passed old.played line.position even m replay starts) in
          subst (λ P. HasLed replay n P c.in_ok-next.next) (sym from)
          (subst (λ k. HasLed replay n line.position k) (sym some) last);
      legal = legal_next line c.advance_from.new.self _ c.in_ok-next.next from
          c.in_ok-next.ensures.went;
    }
