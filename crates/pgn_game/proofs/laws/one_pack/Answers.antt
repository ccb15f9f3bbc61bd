use Rattle.pgn_game.proofs.HeadFacts.{head_shows}
use Rattle.pgn_game.proofs.PackOnce.{one_record, one_pack}
use Rattle.pgn_game.proofs.laws.one_pack.Goals as goal

pub returns-clause-head : goal.returns-clause-head
returns-clause-head c = head_shows

pub returns-clause-record : goal.returns-clause-record
returns-clause-record c = one_record

pub returns-clause-pack : goal.returns-clause-pack
returns-clause-pack c = one_pack
