-- Both laws are lemmas.
use Rattle.pgn_text.proofs.laws.LeftEnds.{ends_where_nothing_is_left, ends_after_an_error}
use Rattle.pgn_text.proofs.laws.ends_of_pieces.Goals as goal

pub returns-clause-nothing_left : goal.returns-clause-nothing_left
returns-clause-nothing_left c = ends_where_nothing_is_left

pub returns-clause-after_error : goal.returns-clause-after_error
returns-clause-after_error c = ends_after_an_error
