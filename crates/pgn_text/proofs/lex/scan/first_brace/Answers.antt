use Rattle.memchr.specs.Find.{is_byte}
use Rattle.pgn_text.proofs.Common.{◌≡◌, ◌<◌, ℕ, get_or, sym, ap, ◌∙◌, arith, subst}
use Rattle.pgn_text.proofs.Common.{take_rest, IsFirstByte, has_bit}
use Rattle.std.specs.Prelude.{None, Some}
use Rattle.pgn_text.proofs.Bits.{clash}
use Rattle.pgn_text.proofs.Braces.{first_after, nowhere_after}
use Rattle.pgn_text.proofs.lex.scan.first_brace.Goals as goal

pub returns-then-place-lt32 : goal.returns-then-place-lt32
returns-then-place-lt32 c =
    let text = c.args.text.now in
    let place = c.first_from-place.result in
    let found = c.first_from-place.ensures.found (omega arith) in
    let shows : (k : ℕ) → k < 32
    → is_byte 125 (get_or text k 0) ≡ has_bit c.closing_braces.result k =
    λ k below. ap (λ n. is_byte 125 (get_or text n 0)) (omega arith)
    ∙ sym (ap (is_byte 125) (c.bytes_at.ensures k below)) ∙ sym (c.closing_braces.ensures k below)
    in (
      record {
        low = omega arith;
        high = omega arith;
        before = λ k low below is.
            clash (is_byte 125 (get_or text k 0)) is (shows k (omega arith)
            ∙ c.first_from-place.ensures.before k (omega arith) below (omega arith));
      },
      shows place (omega arith) ∙ found.1,
    )

pub returns-in_default : goal.returns-in_default
returns-in_default c =
    let text = c.args.text.now in
    nowhere_after 125 32 text (λ k below. ap (λ n. is_byte 125 (get_or text n 0)) (omega arith)
    ∙ sym (ap (is_byte 125) (c.bytes_at.ensures k below)) ∙ sym (c.closing_braces.ensures k below)
    ∙ c.first_from-place.ensures.before k (omega arith) (omega arith) (omega arith))
    (subst (λ xs. IsFirstByte (is_byte 125) xs None) (take_rest text 32) c.in_default.ensures)

pub returns : goal.returns
returns c =
    let text = c.args.text.now in
    first_after 125 32 text (λ k below. ap (λ n. is_byte 125 (get_or text n 0)) (omega arith)
    ∙ sym (ap (is_byte 125) (c.bytes_at.ensures k below)) ∙ sym (c.closing_braces.ensures k below)
    ∙ c.first_from-place.ensures.before k (omega arith) (omega arith) (omega arith))
    c.in-Some.further
    (subst (λ xs. IsFirstByte (is_byte 125) xs (Some c.in-Some.further)) (take_rest text 32)
    c.in-Some.ensures)
