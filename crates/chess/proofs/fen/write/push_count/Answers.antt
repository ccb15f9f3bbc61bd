use Rattle.chess.proofs.FenTextFacts.{one_digit, two_digits}
use Rattle.chess.proofs.fen.write.push_count.Goals as goal

pub returns-then-count-lt10-clause-text : goal.returns-then-count-lt10-clause-text
returns-then-count-lt10-clause-text c =
    one_digit c.args.out.now.bytes c.push_byte.new.out.bytes c.args.count c.if-count-lt10.true
    c.push_byte.ensures

pub returns-then-count-lt100-clause-text : goal.returns-then-count-lt100-clause-text
returns-then-count-lt100-clause-text c =
    two_digits c.args.out.now.bytes c.push_byte-then-count-lt100.new.out.bytes
    c.push_byte-then-count-lt100-2.new.out.bytes c.args.count c.if-count-lt10.false
    c.if-count-lt100.true
    c.push_byte-then-count-lt100.ensures c.push_byte-then-count-lt100-2.ensures
