use Rattle.chess.proofs.board.InitialWords.{initial_words_men, initial_words_apart}
use Rattle.chess.proofs.board.bits.initial_words.Goals as goal

pub returns-clause-men : goal.returns-clause-men
returns-clause-men c = initial_words_men

pub returns-clause-apart : goal.returns-clause-apart
returns-clause-apart c = initial_words_apart
