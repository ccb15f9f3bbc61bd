use Rattle.pgn_criteria.proofs.Common.{◌≡◌, ◌+◌, ◌<◌, refl, sym, ap, ◌∙◌, arith, Some}
use Rattle.std.proofs.lemmas.Option.{slice_get-get_or}
use Rattle.pgn_criteria.proofs.Common.{slice_get, slice_get_within, get_or}
use Rattle.pgn_criteria.proofs.Common.{FitsAt}
use Rattle.pgn_criteria.proofs.ColumnFacts.{bit_left, bit_put, no_bit, none_above}
use Rattle.pgn_criteria.proofs.told.add_bits.Goals.{then-fits_turn, else-fits_turn}
use Rattle.pgn_criteria.proofs.told.add_bits.Goals as goal

pub loop-alternative-init : goal.loop-alternative-init
loop-alternative-init c = record {
  at = refl;
  none = λ i up. no_bit i;
  told = λ replay ply turn i one less. absurd (omega (arith, less));
}

pub loop-alternative-preserved : goal.loop-alternative-preserved
loop-alternative-preserved c =
    let all = c.args.alternatives.now in
    let one = c.alternative-item.result in
    let place = c.loop-alternative.place in
    let own = c.loop-alternative.own in
    let old = c.loop-alternative.invariant in
    let at = old.at in
    let some = c.loop-alternative-test.true in
    let few = c.requires.few in
    let low : place < 64 = omega (arith, at, some, few) in
    let here : slice_get all place ≡ Some one =
    slice_get-get_or all place one (omega (arith, at, some))
    ∙ ap Some (ap (λ n. get_or all n one) at ∙ sym c.alternative-item.is) in
    elim c.if-fits_turn.branch [
      | then-fits_turn w ↦ record {
        at = ap (λ n. n + 1) at;
        none = rw w.own-is (none_above place own low old.none);
        told = λ replay ply turn. rw w.own-is
            (bit_put all (λ a. FitsAt replay a.now ply) one place own here
            (old.told replay ply turn) low
            ((c.fits_turn.ensures replay ply turn).0 w.if-fits_turn.true));
      }
      | else-fits_turn w ↦ record {
        at = ap (λ n. n + 1) at;
        none = λ i up. rw w.own-is (old.none i (omega (arith, up)));
        told = λ replay ply turn. rw w.own-is
            (bit_left all (λ a. FitsAt replay a.now ply) one place own here
            (old.told replay ply turn) (old.none place (omega arith))
            (λ fits. let so = (c.fits_turn.ensures replay ply turn).1 fits in
            let is = w.if-fits_turn.false in absurd (cc (so, is))));
      }
    ]

pub returns : goal.returns
returns c = (
  c.loop-alternative.own,
  c.in_ok-push.ensures.items,
  λ replay ply turn i one there.
      let within = slice_get_within c.args.alternatives.now i one there in
      let at = c.loop-alternative.invariant.at in
      let end = c.loop-alternative-test.false in
      c.loop-alternative.invariant.told replay ply turn i one
      (omega (arith, within, at, end)) there,
)
