use Rattle.pgn_text.proofs.Common.{sym, ◌∙◌, ◌+◌, arith, test_of}
use Rattle.pgn_text.proofs.lex.RunsTo.{one_more, passed_to}
use Rattle.pgn_text.proofs.lex.class.run_end.Goals as goal

pub returns-then-not-is_in : goal.returns-then-not-is_in
returns-then-not-is_in c =
    passed_to (test_of c.args.class) c.args.block.now c.args.from c.loop-at.at c.loop-at.invariant
    (λ _. sym c.is_in.ensures ∙ c.if-not-is_in.true)

pub returns-then-not-is_in-2 : goal.returns-then-not-is_in-2
returns-then-not-is_in-2 c =
    let test = test_of c.args.class in
    let block = c.args.block.now in
    let at = c.loop-at.at in
    let one =
    one_more test block c.args.from at (at
    + 1) (omega arith) c.loop-at.invariant (omega arith) (sym c.is_in.ensures
    ∙ c.if-not-is_in.false) in
    passed_to test block c.args.from (at + 1) one (λ _. sym c.is_in-in-loop-at.ensures
    ∙ c.if-not-is_in-2.true)

pub returns-then-not-is_in-3 : goal.returns-then-not-is_in-3
returns-then-not-is_in-3 c =
    let test = test_of c.args.class in
    let block = c.args.block.now in
    let at = c.loop-at.at in
    let one =
    one_more test block c.args.from at (at
    + 1) (omega arith) c.loop-at.invariant (omega arith) (sym c.is_in.ensures
    ∙ c.if-not-is_in.false) in
    let two =
    one_more test block c.args.from (at + 1) (at
    + 2) (omega arith) one (omega arith) (sym c.is_in-in-loop-at.ensures
    ∙ c.if-not-is_in-2.false) in
    passed_to test block c.args.from (at + 2) two (λ _. sym c.is_in-in-loop-at-2.ensures
    ∙ c.if-not-is_in-3.true)

pub returns-then-not-is_in-4 : goal.returns-then-not-is_in-4
returns-then-not-is_in-4 c =
    let test = test_of c.args.class in
    let block = c.args.block.now in
    let at = c.loop-at.at in
    let one =
    one_more test block c.args.from at (at
    + 1) (omega arith) c.loop-at.invariant (omega arith) (sym c.is_in.ensures
    ∙ c.if-not-is_in.false) in
    let two =
    one_more test block c.args.from (at + 1) (at
    + 2) (omega arith) one (omega arith) (sym c.is_in-in-loop-at.ensures
    ∙ c.if-not-is_in-2.false) in
    let three =
    one_more test block c.args.from (at + 2) (at
    + 3) (omega arith) two (omega arith) (sym c.is_in-in-loop-at-2.ensures
    ∙ c.if-not-is_in-3.false) in
    passed_to test block c.args.from (at + 3) three (λ _. sym c.is_in-in-loop-at-3.ensures
    ∙ c.if-not-is_in-4.true)

pub returns-else-is_in : goal.returns-else-is_in
returns-else-is_in c =
    passed_to (test_of c.args.class) c.args.block.now c.args.from c.loop-at-2.at
    c.loop-at-2.invariant (λ _. sym c.is_in-in-loop-at-2-2.ensures ∙ c.if-is_in.false)

pub returns-after-loop-at-2 : goal.returns-after-loop-at-2
returns-after-loop-at-2 c =
    passed_to (test_of c.args.class) c.args.block.now c.args.from c.loop-at-2.at
    c.loop-at-2.invariant (λ below. absurd (omega arith))
