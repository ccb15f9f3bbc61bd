use Rattle.std.proofs.lemmas.Fmt.{decimal_digit}
use Rattle.itoa.proofs.Decimal.{decimal_two}
use Rattle.pgn_game.proofs.exports.tokens.put_point.Goals as goal

pub returns-then-number-lt10-clause-text : goal.returns-then-number-lt10-clause-text
returns-then-number-lt10-clause-text c =
    rw (decimal_digit c.args.number c.if-number-lt10.true) c.put.ensures.text

pub returns-then-number-lt100-clause-text : goal.returns-then-number-lt100-clause-text
returns-then-number-lt100-clause-text c =
    let put = c.put-then-number-lt100 in
    rw (decimal_two c.args.number c.if-number-lt10.false c.if-number-lt100.true) put.ensures.text
