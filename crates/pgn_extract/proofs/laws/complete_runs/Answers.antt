use Rattle.pgn_extract.proofs.LineOutputs.{run_lists_lines}
use Rattle.pgn_extract.proofs.ModeOutputs.{run_indexes, run_exports}
use Rattle.pgn_extract.proofs.laws.Resumed.{run_resumes}
use Rattle.pgn_extract.proofs.laws.complete_runs.Goals as goal

pub returns : goal.returns
returns c = record {
  indexes = run_indexes;
  lines = run_lists_lines;
  exports = run_exports;
  resumes = run_resumes;
}
