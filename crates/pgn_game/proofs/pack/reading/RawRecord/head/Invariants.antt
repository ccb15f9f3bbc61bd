-- The tags that were read are those of the head.
use Rattle.pgn_game.specs.Private.RecordHeads.{HaveFilled}
use Rattle.pgn_game.proofs.pack.reading.RawRecord.head.Given as goal

abbrev pub invariant-loop : goal.invariant-loop
invariant-loop l = HaveFilled l.self l.counter l.rest l.head
