use Rattle.pgn_extract.proofs.app.StoppedFiles.{none_named, none_named_at}
use Rattle.pgn_extract.proofs.app.files.put_unopened.Goals as goal

pub returns-then-eq-clause-left : goal.returns-then-eq-clause-left
returns-then-eq-clause-left g c =
    none_named (g.E.Write.contents c.args.err.now.inner) c.args.path.now

pub returns-in_err-line-clause-left : goal.returns-in_err-line-clause-left
returns-in_err-line-clause-left g c =
    none_named_at c.from_residual.result (g.E.Write.contents c.args.err.now.inner) c.args.path.now
