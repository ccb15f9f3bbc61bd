use Rattle.pgn_criteria.proofs.Common.{◌≡◌, ◌+◌, ◌/◌, length, drop, take, State, Replay, AllGood}
use Rattle.pgn_criteria.proofs.Common.{AreMet, codes_in, heading_of_raw}
use Rattle.pgn_criteria.specs.Public.Prefilters.{IsPlayedBy}
use Rattle.pgn_criteria.specs.Public.Walks.{IsSightOf}
use Rattle.pgn_criteria.proofs.meets.Criteria.met_walked.Given as goal

abbrev pub invariant-loop-alternative : goal.invariant-loop-alternative
invariant-loop-alternative l = record {
  good : AllGood (drop l.alternative-index l.alternative-items);
  size : length l.met.items ≡ length l.record.plies / 3 + 1;
  so_far : (P : State) (replay : Replay) → IsSightOf P l.start
      → IsPlayedBy P (codes_in l.record.plies) replay
      → AreMet (heading_of_raw l.record) replay (take l.alternative-index l.alternative-items)
      l.met.items;
}
