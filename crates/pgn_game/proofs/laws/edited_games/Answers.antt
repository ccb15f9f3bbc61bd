use Rattle.pgn_game.proofs.FirstPlies.{first_plies_beginning}
use Rattle.pgn_game.proofs.TagsInOrder.{same_names_in_order}
use Rattle.pgn_game.proofs.laws.edited_games.Goals as goal

pub returns-clause-plies : goal.returns-clause-plies
returns-clause-plies c = first_plies_beginning

pub returns-clause-order : goal.returns-clause-order
returns-clause-order c = same_names_in_order
