use Rattle.pgn_criteria.proofs.Common.{◌≡◌, ap, sym, ◌∙◌, arith, value_of, one_value, number_after}
use Rattle.pgn_criteria.proofs.compare.NumberFacts.{number_found, tenfold, digit_small}
use Rattle.pgn_criteria.proofs.compare.number_of.Goals as goal

pub loop-byte-init : goal.loop-byte-init
loop-byte-init c =
    let same : c.into_iter-byte-iterator.result ≡ value_of c.args.contents.now =
    c.into_iter-byte-iterator.ensures.into_iter_gives ∙ one_value _ _ _ c.value-byte-items.ensures.1
    in
    record {
      few = omega arith;
      small = omega arith;
      rest = ap (number_after 0 0) same ∙ number_found (value_of c.args.contents.now);
    }

pub overflow_mul-number : goal.overflow_mul-number
overflow_mul-number c =
    omega (
      arith,
      tenfold c.loop-byte.number c.loop-byte.digits c.loop-byte.invariant.few c.if-digits-eq18.false
          c.loop-byte.invariant.small,
    )

pub overflow_add-number : goal.overflow_add-number
overflow_add-number c =
    let bound = tenfold c.loop-byte.number c.loop-byte.digits c.loop-byte.invariant.few
    c.if-digits-eq18.false c.loop-byte.invariant.small in
    let digit = digit_small c.in-Some.byte (sym (c.if-not-is_digit.ensures)) in
    omega (arith, bound, digit, c.from.ensures)
