-- Both laws are lemmas.
use Rattle.pgn_text.proofs.laws.OneWithin.{stands_in_one_thing, comment_is_open}
use Rattle.pgn_text.proofs.laws.one_context.Goals as goal

pub returns-clause-one : goal.returns-clause-one
returns-clause-one c = stands_in_one_thing

pub returns-clause-comment : goal.returns-clause-comment
returns-clause-comment c = comment_is_open
