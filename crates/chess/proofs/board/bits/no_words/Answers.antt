use Rattle.chess.proofs.BitFacts.{no_words_apart}
use Rattle.chess.proofs.board.bits.no_words.Goals as goal

pub returns-clause-apart : goal.returns-clause-apart
returns-clause-apart c = no_words_apart
