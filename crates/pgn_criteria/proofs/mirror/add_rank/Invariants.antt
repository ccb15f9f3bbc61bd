use Rattle.pgn_criteria.proofs.Common.{◌≡◌, ◌++◌, map, take, other_letter}
use Rattle.pgn_criteria.proofs.mirror.add_rank.Given as goal

abbrev pub invariant-loop-byte : goal.invariant-loop-byte
invariant-loop-byte l = l.text.items ≡ l.fn.text.items
    ++ map other_letter (take l.byte-index l.rank)
