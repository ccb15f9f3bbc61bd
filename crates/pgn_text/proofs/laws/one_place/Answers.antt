-- Both laws are lemmas.
use Rattle.pgn_text.proofs.laws.OnePlace.{one_element_place, one_tag_place}
use Rattle.pgn_text.proofs.laws.one_place.Goals as goal

pub returns-clause-element : goal.returns-clause-element
returns-clause-element c = one_element_place

pub returns-clause-tag : goal.returns-clause-tag
returns-clause-tag c = one_tag_place
