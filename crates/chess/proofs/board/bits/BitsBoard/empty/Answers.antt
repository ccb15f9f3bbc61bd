use Rattle.chess.proofs.Common.{ap, ◌∙◌, words_men}
use Rattle.chess.proofs.BitFacts.{no_words_men}
use Rattle.chess.proofs.board.bits.BitsBoard.empty.Goals as goal

pub returns : goal.returns
returns c = ap words_men c.no_words.ensures.words ∙ no_words_men
