use Rattle.std.proofs.Common.{arith}
use Rattle.pgn_game.proofs.RecordFacts.{plies_known}
use Rattle.pgn_game.proofs.pack.reading.read_again.Goals as goal

pub overflow_sub-tail : goal.overflow_sub-tail
overflow_sub-tail c =
    (plies_known _ _ _ _ c.args.bytes.now _ _ _ _ _ (λ i.
    omega (arith, c.type_inv.bytes i)) c.requires
    c.in_ok-number.ensures c.in_ok-offset.ensures c.in_ok-head.ensures c.in_ok-name.ensures).0

pub returns : goal.returns
returns c =
    rw c.split_at.ensures.back
    (plies_known _ _ _ _ c.args.bytes.now _ _ _ _ _ (λ i.
    omega (arith, c.type_inv.bytes i)) c.requires
    c.in_ok-number.ensures c.in_ok-offset.ensures c.in_ok-head.ensures c.in_ok-name.ensures).1
