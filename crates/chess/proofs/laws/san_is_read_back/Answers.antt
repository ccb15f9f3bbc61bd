use Rattle.chess.proofs.SanNamesFacts.{san_names}
use Rattle.chess.proofs.laws.san_is_read_back.Goals as goal

pub returns : goal.returns
returns c = san_names
