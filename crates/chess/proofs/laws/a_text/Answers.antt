use Rattle.chess.proofs.SanSettled.{some_san}
use Rattle.chess.proofs.laws.a_text.Goals as goal

pub returns : goal.returns
returns c = some_san
