use Rattle.pgn_text.proofs.Bits.{bit-below_low, bit-below_high}
use Rattle.pgn_game.proofs.exports.sweep.bits_before.Goals as goal

pub returns-then-end-lt64-clause-low : goal.returns-then-end-lt64-clause-low
returns-then-end-lt64-clause-low c i before lt =
    bit-below_low c.args.word c.args.end i before c.if-end-lt64.true

pub returns-then-end-lt64-clause-high : goal.returns-then-end-lt64-clause-high
returns-then-end-lt64-clause-high c i le lt = bit-below_high c.args.word c.args.end i le lt
