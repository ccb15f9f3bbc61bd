use Rattle.std.proofs.Common.{arith}
use Rattle.pgn_text.proofs.Bits.{not_strange_each, not_strange_begins, not_strange_goes_on}
use Rattle.pgn_text.proofs.lex.movetext.strange.Goals as goal

pub returns-clause-each : goal.returns-clause-each
returns-clause-each c =
    let a = c.args in
    not_strange_each a.words a.gaps a.begins a.letters a.numbers (omega arith)
    (omega arith) (omega arith) (omega arith)

pub returns-clause-begins : goal.returns-clause-begins
returns-clause-begins c =
    let a = c.args in
    not_strange_begins a.words a.gaps a.begins a.letters a.numbers (omega arith)
    (omega arith) (omega arith) (omega arith)

pub returns-clause-goes_on : goal.returns-clause-goes_on
returns-clause-goes_on c =
    let a = c.args in
    not_strange_goes_on a.words a.gaps a.begins a.letters a.numbers (omega arith)
    (omega arith) (omega arith) (omega arith)
