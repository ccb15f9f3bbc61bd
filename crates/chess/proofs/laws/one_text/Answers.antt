use Rattle.chess.proofs.SanOnce.{one_san}
use Rattle.chess.proofs.laws.one_text.Goals as goal

pub returns : goal.returns
returns c = one_san
