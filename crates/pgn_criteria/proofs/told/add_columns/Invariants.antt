use Rattle.pgn_criteria.proofs.Common.{◌≡◌, ◌++◌, List, take, drop, map, Replay, Conditions}
use Rattle.pgn_criteria.proofs.Common.{Heading, AreMet, FitsAt}
use Rattle.pgn_criteria.specs.Private.Stages.{AllOfGame, EachIs}
use Rattle.pgn_criteria.specs.Private.Told.{AreTold, EachColumn}
use Rattle.pgn_criteria.proofs.told.add_columns.Given as goal

abbrev pub invariant-loop-alternative : goal.invariant-loop-alternative
invariant-loop-alternative l = record {
  at : l.place ≡ l.alternative-index;
  met : (replay : Replay)
      → EachColumn l.alternatives (λ a told. AreTold (FitsAt replay a.now) told) l.fits
      → (heading : Heading) (before : List Conditions)
      → EachIs (AllOfGame heading replay) (map (λ a. a.now) l.alternatives)
      → AreMet heading replay before l.initial.met
      → EachIs (AllOfGame heading replay)
      (map (λ a. a.now) (drop l.alternative-index l.alternatives))
      × AreMet heading replay (before ++ map (λ a. a.now) (take l.alternative-index l.alternatives))
      l.met;
}
