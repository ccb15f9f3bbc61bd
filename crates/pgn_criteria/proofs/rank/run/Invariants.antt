use Rattle.pgn_criteria.proofs.Common.{◌↔◌, ◌-◌, ◌<◌, ◌^◌, ℕ, List, Goes, Run}
use Rattle.pgn_criteria.proofs.rank.run.Given as goal

abbrev pub invariant-loop-step : goal.invariant-loop-step
invariant-loop-step l = record {
  low : l.now < 2 ^ 9;
  goes_on : (items : List (List ℕ)) → Goes l.squares l.now (Run l.class (l.count - l.step)) items
      ↔ Goes l.squares l.fn.reached (Run l.class l.count) items;
}
