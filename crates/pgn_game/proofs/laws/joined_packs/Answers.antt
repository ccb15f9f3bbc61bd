use Rattle.pgn_game.proofs.SegmentFacts.{packs_join}
use Rattle.pgn_game.proofs.SegmentWritingFacts.{records_of_pack, records_are_of_pack}
use Rattle.pgn_game.proofs.laws.joined_packs.Goals as goal

pub returns-clause-join : goal.returns-clause-join
returns-clause-join c = packs_join

pub returns-clause-records : goal.returns-clause-records
returns-clause-records c = records_of_pack

pub returns-clause-segments : goal.returns-clause-segments
returns-clause-segments c = records_are_of_pack
