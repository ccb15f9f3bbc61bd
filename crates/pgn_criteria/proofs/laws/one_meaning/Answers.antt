-- Each law is a lemma.
use Rattle.pgn_criteria.proofs.laws.OneMeaning.{text_one_meaning, text_one_answer}
use Rattle.pgn_criteria.proofs.laws.OneMeaning.{memory_only_fault}
use Rattle.pgn_criteria.proofs.laws.one_meaning.Goals as goal

pub returns-clause-meaning : goal.returns-clause-meaning
returns-clause-meaning c = text_one_meaning

pub returns-clause-answer : goal.returns-clause-answer
returns-clause-answer c = text_one_answer

pub returns-clause-memory : goal.returns-clause-memory
returns-clause-memory c = memory_only_fault
