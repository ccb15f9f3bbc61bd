-- Both laws are lemmas.
use Rattle.pgn_text.proofs.laws.EventLines.{join_at_event_line, part_at_event_line}
use Rattle.pgn_text.proofs.laws.event_lines.Goals as goal

pub returns-clause-join : goal.returns-clause-join
returns-clause-join c = join_at_event_line

pub returns-clause-part : goal.returns-clause-part
returns-clause-part c = part_at_event_line
