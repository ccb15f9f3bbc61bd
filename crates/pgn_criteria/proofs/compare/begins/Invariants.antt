use Rattle.pgn_criteria.proofs.Common.{◌↔◌, value_of, Allows, Begins}
use Rattle.pgn_criteria.proofs.compare.begins.Given as goal

abbrev pub invariant-loop-byte : goal.invariant-loop-byte
invariant-loop-byte l = Allows Begins l.bytes l.byte-iterator
    ↔ Allows Begins (value_of l.given) (value_of l.text)
