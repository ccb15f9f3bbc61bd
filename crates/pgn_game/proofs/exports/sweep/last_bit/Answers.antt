use Rattle.std.proofs.Common.{sym, ◌∙◌, refl, arith}
use Rattle.pgn_game.proofs.exports.SweepFacts.{no_bit, last_is}
use Rattle.pgn_game.proofs.exports.sweep.last_bit.Goals as goal

pub returns-then-bits-eq0 : goal.returns-then-bits-eq0
returns-then-bits-eq0 c i before lt = sym (c.bits_before-bits.ensures.low i before lt)
    ∙ no_bit c.bits_before-bits.result i c.if-bits-eq0.true

pub returns : goal.returns
returns c =
    let found = c.bits_before-bits in
    last_is c.args.word found.result c.args.end (omega arith) (omega arith) found.ensures.low
    found.ensures.high _ refl
