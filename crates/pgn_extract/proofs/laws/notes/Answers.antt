-- The laws are lemmas.
use Rattle.pgn_extract.proofs.laws.NoteOnce.{no_notes, one_byte}
use Rattle.pgn_extract.proofs.laws.notes.Goals as goal

pub returns-clause-one : goal.returns-clause-one
returns-clause-one c = one_byte

pub returns-clause-none : goal.returns-clause-none
returns-clause-none c = no_notes
