use Rattle.pgn_text.proofs.Runs.{first_byte-run, first_byte-none}
use Rattle.pgn_text.proofs.lex.scan.line_len.Goals as goal

pub returns-in-Some-clause-value : goal.returns-in-Some-clause-value
returns-in-Some-clause-value c = first_byte-run 10 c.args.text.now c.in-Some.len c.in-Some.ensures

pub returns-in-None-clause-value : goal.returns-in-None-clause-value
returns-in-None-clause-value c = first_byte-none 10 c.args.text.now c.in-None.ensures
