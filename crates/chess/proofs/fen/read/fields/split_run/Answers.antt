use Rattle.chess.proofs.Common.{arith, run_of, after_run}
use Rattle.chess.proofs.RestFacts.{rest_within, front_taken}
use Rattle.chess.proofs.FieldFacts.{run_whole}
use Rattle.chess.proofs.fen.read.fields.split_run.Goals as goal

pub slice_bounds-result-count : goal.slice_bounds-result-count
slice_bounds-result-count c =
    let text = c.args.text.now in
    let within =
    rest_within text (run_of c.args.separator text) (after_run c.args.separator text)
    c.from_separator-rest.result.now (run_whole c.args.separator text)
    c.from_separator-rest.ensures in
    omega arith

pub returns-clause-run : goal.returns-clause-run
returns-clause-run c =
    let text = c.args.text.now in
    front_taken text (run_of c.args.separator text) (after_run c.args.separator text)
    c.from_separator-rest.result.now (run_whole c.args.separator text)
    c.from_separator-rest.ensures
