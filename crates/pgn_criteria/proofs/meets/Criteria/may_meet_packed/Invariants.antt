use Rattle.pgn_criteria.proofs.Common.{ℕ, drop, AllGood, State, Replay, Meets, IsSeenOf, codes_in}
use Rattle.pgn_criteria.proofs.Common.{heading_of_raw}
use Rattle.pgn_criteria.specs.Public.Prefilters.{IsPlayedBy}
use Rattle.pgn_criteria.proofs.meets.Criteria.may_meet_packed.Given as goal

abbrev pub invariant-loop-alternative : goal.invariant-loop-alternative
invariant-loop-alternative g l =
    let S = l.start in
    record {
      good : AllGood (drop l.alternative-index l.alternative-items);
      kept : (P : State) (replay : Replay)
          → IsSeenOf P (g.S.Seen.men S) (g.S.Seen.turn S) (g.S.Seen.checked S) (g.S.Seen.stuck S)
          → IsPlayedBy P (codes_in l.record.plies) replay → (ply : ℕ)
          → Meets (heading_of_raw l.record) replay ply l.self
          → Meets (heading_of_raw l.record) replay ply
          (drop l.alternative-index l.alternative-items);
    }
