use Rattle.pgn_game.proofs.TagSearch.{AreSought}
use Rattle.pgn_game.proofs.pack.reading.RawRecord.tag.Given as goal

abbrev pub invariant-loop : goal.invariant-loop
invariant-loop l = AreSought l.wanted l.self l.counter l.rest
