use Rattle.pgn_text.proofs.Common.{◌∙◌, take_rest, is_not_line_feed}
use Rattle.pgn_text.proofs.Runs.{take_run, drop_run}
use Rattle.pgn_text.proofs.lex.scan.line.Goals as goal

pub returns-clause-front : goal.returns-clause-front
returns-clause-front c = rw c.line_len-len.ensures.value (take_run is_not_line_feed c.args.text.now)

pub returns-clause-rest : goal.returns-clause-rest
returns-clause-rest c =
    take_rest c.args.text.now c.line_len-len.result
    ∙ rw c.line_len-len.ensures.value (drop_run is_not_line_feed c.args.text.now)
