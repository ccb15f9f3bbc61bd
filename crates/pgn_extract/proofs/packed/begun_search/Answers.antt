use Rattle.std.proofs.lemmas.Option.{IfSome_then}
use Rattle.pgn_extract.proofs.Common.{heading_of}
use Rattle.pgn_extract.proofs.Picks.{same_met}
use Rattle.pgn_extract.proofs.packed.KeptPackedFacts.{each_line, none_of}
use Rattle.pgn_extract.proofs.packed.begun_search.Goals as goal

pub returns-in-Ok-clause-ok : goal.returns-in-Ok-clause-ok
returns-in-Ok-clause-ok c =
    let start = c.args.start in
    IfSome_then c.in-Ok.told c.in-Ok.ensures (λ search met game replay packed own other is ply
    within.
    let line = each_line own start (c.requires.start game replay packed own) other is in
    same_met (heading_of game) other c.args.context.settings.now.criteria c.args.criteria.now search
    ply c.requires.criteria
    (met game replay packed own.kept own.fits own.shows other line.0 line.1 ply))

pub returns-in-Err-NoLine-clause-err : goal.returns-in-Err-NoLine-clause-err
returns-in-Err-NoLine-clause-err c is =
    none_of c.args.context.record.now c.args.start c.requires.start
    (c.in-Err-NoLine.ensures c.in-Err-NoLine.field-0-is)
