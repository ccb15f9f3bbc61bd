use Rattle.pgn_extract.proofs.Common.{Main}
use Rattle.pgn_extract.proofs.packed.KeptPackedFacts.{each_line, none_of}
use Rattle.pgn_extract.proofs.packed.kept_packed.met_of.Goals as goal

pub returns-in-Ok-met_coded-clause-met : goal.returns-in-Ok-met_coded-clause-met
returns-in-Ok-met_coded-clause-met c game replay packed own =
    let start = c.in-Ok.start in
    let line = each_line own start (c.in-Ok.ensures.ok game replay packed own) replay
    (Main, own.is_replay) in
    c.in-Ok-met_coded.ensures game replay packed own.kept own.fits own.shows replay line.0 line.1

pub returns-in-Err-NoLine-clause-err : goal.returns-in-Err-NoLine-clause-err
returns-in-Err-NoLine-clause-err c is =
    none_of c.args.context.record.now c.in-Ok.start c.in-Ok.ensures.ok
    (c.in-Err-NoLine.ensures c.in-Err-NoLine.field-0-is)
