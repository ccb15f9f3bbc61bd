-- The law is a lemma.
use Rattle.pgn_game.proofs.PackRoom.{game_fits}
use Rattle.pgn_game.proofs.laws.room_in_a_record.Goals as goal

pub returns : goal.returns
returns c = game_fits
