use Rattle.pgn_criteria.proofs.Common.{◌↔◌, drop, heading_of, AllGood}
use Rattle.pgn_criteria.specs.Public.Headings.{MayMeet}
use Rattle.pgn_criteria.proofs.meets.Criteria.may_be_of.Given as goal

abbrev pub invariant-loop-alternative : goal.invariant-loop-alternative
invariant-loop-alternative l = record {
  good : AllGood (drop l.alternative-index l.alternative-items);
  kept : MayMeet (heading_of l.game) (drop l.alternative-index l.alternative-items)
      ↔ MayMeet (heading_of l.game) l.self;
}
