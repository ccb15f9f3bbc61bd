-- The laws are lemmas.
use Rattle.pgn_game.proofs.laws.PlainExport.{export_read_as_one}
use Rattle.pgn_game.proofs.laws.PlainLines.{no_line_misread}
use Rattle.pgn_game.proofs.laws.no_line_misread.Goals as goal

pub returns-clause-movetext : goal.returns-clause-movetext
returns-clause-movetext c = no_line_misread

pub returns-clause-export : goal.returns-clause-export
returns-clause-export c = export_read_as_one
