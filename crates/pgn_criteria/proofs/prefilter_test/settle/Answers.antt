use Rattle.std.specs.Prelude.{Some}
use Rattle.pgn_criteria.proofs.Common.{◌<◌, ◌+◌, ◌*◌, ◌/◌, ◌%◌, None, arith, square_at}
use Rattle.pgn_criteria.proofs.Common.{with_man, numbered_man, code_fits}
use Rattle.pgn_criteria.proofs.prefilter_test.PrefilterTestFacts.{comes_from, leaves, no_castle}
use Rattle.pgn_criteria.proofs.prefilter_test.settle.Goals as goal

pub returns-then-d-ge192 : goal.returns-then-d-ge192
returns-then-d-ge192 c = λ men are.
    let taken = square_at (c.args.d % 64) in
    let from = square_at (c.args.a % 64) in
    let to = square_at (c.args.b % 64) in
    let own = numbered_man (c.args.b / 64 + 4 * (c.args.d / 64)) in
    let p1 = rw c.of_index.ensures.square at c.put.ensures in
    let p2 = rw c.of_index-2.ensures.square at c.put-2.ensures in
    let p3 = rw c.of_index-3.ensures.square at c.put-3.ensures in
    c.settle_rook.ensures (with_man (with_man (with_man men taken None) from None) to (Some own))
    (comes_from (with_man men taken None) from to own c.put.new.squares c.put-2.new.squares
    c.put-3.new.squares (code_fits c.args.a c.args.b c.args.d).to p2 p3
    (leaves men taken c.args.taken c.put.new.squares p1 are))

pub returns : goal.returns
returns c = λ men are.
    let taken = square_at (c.args.d % 64) in
    let from = square_at (c.args.a % 64) in
    let to = square_at (c.args.b % 64) in
    let w = c.args.b / 64 + 4 * (c.args.d / 64) in
    let own = numbered_man w in
    let low : w < 12 = omega (arith, c.if-d-ge192.false) in
    let p1 = rw c.of_index.ensures.square at c.put.ensures in
    let p2 = rw c.of_index-2.ensures.square at c.put-2.ensures in
    let p3 = rw c.of_index-3.ensures.square at c.put-3.ensures in
    rw (no_castle w low) (comes_from (with_man men taken None) from to own c.put.new.squares
    c.put-2.new.squares c.put-3.new.squares (code_fits c.args.a c.args.b c.args.d).to p2 p3 (leaves
    men taken c.args.taken c.put.new.squares p1 are))
