-- Men stand on the board alone, in each position that a game comes to.
use Rattle.chess.specs.Public.Laws.{SpelledMenAreOnBoard, MenStayOnBoard}
use Rattle.chess.proofs.AfterFacts.{after_on_board}

pub spelled_men_on_board : SpelledMenAreOnBoard
spelled_men_on_board x P spells = spells.men.on_board

pub men_stay_on_board : MenStayOnBoard
men_stay_on_board P m on_board legal = after_on_board P m on_board legal.pseudo_legal.to
