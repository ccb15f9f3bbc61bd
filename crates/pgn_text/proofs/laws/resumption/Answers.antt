-- The law is a lemma.
use Rattle.pgn_text.proofs.ResumedText.{resumes_at}
use Rattle.pgn_text.proofs.laws.resumption.Goals as goal

pub returns : goal.returns
returns c = resumes_at
