use Rattle.pgn_criteria.proofs.Common.{◌≡◌, ◌↔◌, ◌<◌, ◌+◌, ◌*◌, ◌/◌, ◌%◌, true, None, arith}
use Rattle.pgn_criteria.proofs.Common.{square_at, with_man, numbered_man, code_fits}
use Rattle.pgn_criteria.proofs.prefilter_test.PrefilterTestFacts.{goes, is_taken, is_his_number}
use Rattle.pgn_criteria.proofs.prefilter_test.PrefilterTestFacts.{no_castle}
use Rattle.pgn_criteria.proofs.prefilter_test.follow.Goals as goal

pub returns-then-d-ge192 : goal.returns-then-d-ge192
returns-then-d-ge192 c = λ man his men are.
    let taken = square_at (c.args.d % 64) in
    let p1 = rw c.of_index.ensures.square at c.put.ensures in
    c.follow_castling.ensures man his (with_man men taken None)
    (is_taken men man taken c.args.squares c.put.new.squares
    (code_fits c.args.a c.args.b c.args.d).taken p1 are)

pub returns : goal.returns
returns c = λ man his men are.
    let taken = square_at (c.args.d % 64) in
    let from = square_at (c.args.a % 64) in
    let to = square_at (c.args.b % 64) in
    let w = c.args.b / 64 + 4 * (c.args.d / 64) in
    let own = numbered_man w in
    let fits = code_fits c.args.a c.args.b c.args.d in
    let low : w < 12 = omega (arith, c.if-d-ge192.false) in
    let number = is_his_number man c.args.number w low his in
    let says : (c.is_arriving.result ≡ true) ↔ (man ≡ own) =
    (λ t. number.0 (c.is_arriving.ensures.0 t), λ e. c.is_arriving.ensures.1 (number.1 e)) in
    let p1 = rw c.of_index.ensures.square at c.put.ensures in
    let p2 = rw c.of_index-2.ensures.square at c.put-2.ensures in
    let p3 = rw c.of_index-3.ensures.square at c.put-3.ensures in
    rw (no_castle w low) (goes (with_man men taken None) man own from to c.put.new.squares
    c.put-2.new.squares c.put-3.new.squares c.is_arriving.result fits.from fits.to says p2 p3
    (is_taken men man taken c.args.squares c.put.new.squares fits.taken p1 are))
