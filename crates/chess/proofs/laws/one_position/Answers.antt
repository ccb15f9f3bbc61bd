use Rattle.chess.proofs.FenOnce.{one_spelling, read_or_refused, one_refusal}
use Rattle.chess.proofs.laws.one_position.Goals as goal

pub returns-clause-one : goal.returns-clause-one
returns-clause-one c = one_spelling

pub returns-clause-apart : goal.returns-clause-apart
returns-clause-apart c = (read_or_refused, one_refusal)
