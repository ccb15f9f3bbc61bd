use Rattle.std.proofs.Common.{arith}
use Rattle.pgn_game.proofs.SegmentReading.{is_found, is_none}
use Rattle.pgn_game.proofs.pack.segment.read.Goals as goal

pub returns-clause-found : goal.returns-clause-found
returns-clause-found c = is_found c.args.bytes.now c.read_segment.result (λ x. (x.0, x.1.now))
    (λ i. omega (arith, c.type_inv.bytes i)) c.read_segment.ensures

pub returns-clause-none : goal.returns-clause-none
returns-clause-none c = is_none c.args.bytes.now c.read_segment.result (λ x.
    (x.0, x.1.now)) c.read_segment.ensures
