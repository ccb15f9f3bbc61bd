use Rattle.std.proofs.Common.{arith}
use Rattle.chess.proofs.FieldFacts.{run_whole}
use Rattle.chess.proofs.RestFacts.{rest_within, front_taken}
use Rattle.chess.specs.Shared.Runs.{run_of, after_run}
use Rattle.pgn_extract.proofs.rows.list.split_run.Goals as goal

pub slice_bounds-result-count : goal.slice_bounds-result-count
slice_bounds-result-count c =
    let text = c.args.text.now in
    let mark = c.args.separator in
    let within = rest_within text (run_of mark text) (after_run mark text)
    c.from_separator-rest.result.now (run_whole mark text) c.from_separator-rest.ensures in
    omega arith

pub returns-clause-run : goal.returns-clause-run
returns-clause-run c =
    let text = c.args.text.now in
    let mark = c.args.separator in
    front_taken text (run_of mark text) (after_run mark text) c.from_separator-rest.result.now
    (run_whole mark text) c.from_separator-rest.ensures
