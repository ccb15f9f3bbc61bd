use Rattle.pgn_criteria.proofs.Common.{◌↔◌, ◌<◌, ◌^◌, length, CanBeSplit, items_of, Ends}
use Rattle.pgn_criteria.proofs.rank.matches_rank.Given as goal

abbrev pub invariant-loop-rest : goal.invariant-loop-rest
invariant-loop-rest l =
    record {
      low : l.reached < 2 ^ 9;
      goes_on : Ends l.squares l.reached (items_of l.rest)
          ↔ CanBeSplit (items_of l.items) l.squares;
    }

abbrev pub decreases-loop-rest : goal.decreases-loop-rest
decreases-loop-rest l = length l.rest
