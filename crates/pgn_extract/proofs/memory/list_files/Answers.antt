use Rattle.pgn_extract.proofs.Common.{◌++◌, ◌∙◌, ap, take, IfOk-weaker, listing, job_of}
use Rattle.pgn_extract.proofs.TwoFiles.{listed_alone}
use Rattle.pgn_extract.proofs.memory.list_files.Goals as goal

pub returns : goal.returns
returns c =
    let job = job_of c.args.settings in
    IfOk-weaker c.report_files.result _ _
    (λ written (one, faults, line, two, others, first, named, second, output, report).
    let a = listed_alone job (take c.args.end c.args.files.now.first.now) one faults c.requires.mode
    first in
    let b = listed_alone job (take c.args.end c.args.files.now.second.now) two others
    c.requires.mode second in (
      a.0,
      a.1,
      b.0,
      b.1,
      a.2,
      a.3,
      b.2,
      b.3,
      output ∙ ap (λ t. t ++ two) a.4 ∙ ap (λ t. listing job.aim.name a.1 ++ t) b.4,
    ))
    c.report_files.ensures.written
