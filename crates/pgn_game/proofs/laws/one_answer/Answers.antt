use Rattle.pgn_game.proofs.OneReplay.{one_replay, one_fault, no_fault}
use Rattle.pgn_game.proofs.laws.one_answer.Goals as goal

pub returns-clause-replay : goal.returns-clause-replay
returns-clause-replay c = one_replay

pub returns-clause-fault : goal.returns-clause-fault
returns-clause-fault c = one_fault

pub returns-clause-not_both : goal.returns-clause-not_both
returns-clause-not_both c = no_fault
