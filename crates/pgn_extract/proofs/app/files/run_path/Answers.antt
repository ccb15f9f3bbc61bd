use Rattle.std.specs.IoError.{error_kind}
use Rattle.pgn_extract.proofs.Common.{[], inr, err_from_is_err_and, order_at}
use Rattle.pgn_extract.proofs.app.SeveralFacts.{unopened_path}
use Rattle.pgn_extract.proofs.app.StoppedFiles.{none_begun, stops_late, stops_unopened}
use Rattle.pgn_extract.proofs.Writing.{appends_none}
use Rattle.pgn_extract.proofs.app.files.run_path.Goals as goal

pub returns-in-Ok-put_unopened-clause-written : goal.returns-in-Ok-put_unopened-clause-written
returns-in-Ok-put_unopened-clause-written g c = λ known.
    let path = c.args.path.now in
    let named = c.in-Ok-put_unopened.ensures.line in (
      [],
      named.0,
      unopened_path (order_at c.args.task.now path) path (g.F.Files.known c.args.files.now path)
          (error_kind c.in-Err.error) named.0 known
          c.in-Err.ensures.refused c.in-Ok-put_unopened.ensures.memory named.1,
      appends_none (g.O.Write.contents c.args.out.now.inner),
      named.2,
    )

pub returns-in_err-name_file-clause-stopped : goal.returns-in_err-name_file-clause-stopped
returns-in_err-name_file-clause-stopped g c =
    let p = err_from_is_err_and c.from_residual.result c.from_residual.ensures.1 in
    let path = c.args.path.now in
    rw p.1
    (λ known.
    stops_late _ (order_at c.args.task.now path) path (g.F.Files.known c.args.files.now path) _
    _ (inr p.2)
    (none_begun (order_at c.args.task.now path) path (g.F.Files.known c.args.files.now path) _ _
    known
    (appends_none (g.O.Write.contents c.args.out.now.inner))
    (appends_none (g.E.Write.contents c.args.err.now.inner))))

pub returns-in-Err-put_unopened-clause-stopped : goal.returns-in-Err-put_unopened-clause-stopped
returns-in-Err-put_unopened-clause-stopped g c = λ known.
    let path = c.args.path.now in
    let left = c.in-Err-put_unopened.ensures.left in
    stops_unopened _ (order_at c.args.task.now path) path (g.F.Files.known c.args.files.now path)
    (error_kind c.in-Err.error) _ _ known
    c.in-Err.ensures.refused c.in-Err-put_unopened.ensures.kept c.in-Err-put_unopened.ensures.only
    (appends_none (g.O.Write.contents c.args.out.now.inner)) left.0 left.1 left.2
