use Rattle.pgn_text.proofs.Common.{sym, ◌∙◌, arith, is_check_sign, no_byte}
use Rattle.pgn_text.proofs.error.FrontLengths.{front_short, front_whole}
use Rattle.pgn_text.proofs.error.Furthest.{as_far}
use Rattle.pgn_text.proofs.error.error_position.castling_stop.Goals as goal

pub returns-then-count-word : goal.returns-then-count-word
returns-then-count-word c =
    c.common-count.ensures
    ∙ sym (front_short is_check_sign c.args.word.now c.args.text.now
    (omega (arith, c.common-count.ensures, c.if-count-word.true)))

pub loop-count-init : goal.loop-count-init
loop-count-init c = record {
  within = (let h = as_far no_byte c.args.word.now c.args.text.now in
      omega (arith, h.within, c.common-count.ensures));
  so_far = rw c.common-count.ensures (front_whole is_check_sign c.args.word.now c.args.text.now
      (omega (arith, c.common-count.ensures, c.if-count-word.false)));
}
