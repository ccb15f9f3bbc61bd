-- The law is a lemma.
use Rattle.pgn_text.proofs.laws.UncutFailures.{fails_before_no_event_line}
use Rattle.pgn_text.proofs.laws.failures.Goals as goal

pub returns : goal.returns
returns c = fails_before_no_event_line
