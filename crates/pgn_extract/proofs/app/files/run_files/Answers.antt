use Rattle.pgn_extract.proofs.Common.{◌++◌, ◌<◌, ◌∙◌, ℕ, Bor, List, [], arith, length, rules}
use Rattle.pgn_extract.proofs.Common.{err_from_is_err_and, order_at}
use Rattle.pgn_extract.proofs.app.SeveralFacts.{known_there, unopened_there, written_there}
use Rattle.pgn_extract.proofs.app.StoppedFiles.{stops_there}
use Rattle.pgn_extract.proofs.Writing.{appends_join}
use Rattle.pgn_extract.proofs.app.files.run_files.Goals as goal

pub loop-path-preserved : goal.loop-path-preserved
loop-path-preserved g c =
    let all = c.args.task.now.paths.now in
    let i = c.loop-path.path-index in
    let within : i < length all = omega arith in
    let files = g.F.Files.known in
    let none : Bor (List ℕ) = record { ref_ptr = (0, 0); now = [] } in
    record {
      sound = search rules;
      number = search rules;
      offset = search rules;
      orders = λ path. c.run_path.ensures.orders path ∙ c.loop-path.invariant.orders path;
      known = λ path. c.run_path.ensures.known path ∙ c.loop-path.invariant.known path;
      written = λ known.
          let there = known_there (λ path. path.now) all i none (files c.args.files.now)
          (files c.loop-path.files) c.loop-path.invariant.known within known in
          let before = c.loop-path.invariant.written known in
          let own = c.in_ok-run_path.ensures.written there in (
            before.0 ++ own.0,
            before.1 ++ own.1,
            written_there (λ path. path.now) all i none (order_at c.args.task.now)
                (order_at c.loop-path.task) (files c.args.files.now) (files c.loop-path.files)
                c.loop-path.invariant.orders c.loop-path.invariant.known within before.0 before.1
                own.0 own.1 before.2 own.2,
            appends_join (g.O.Write.contents c.args.out.now.inner)
                (g.O.Write.contents c.loop-path.out.inner)
                (g.O.Write.contents c.run_path.new.out.inner) before.0 own.0 before.3 own.3,
            appends_join (g.E.Write.contents c.args.err.now.inner)
                (g.E.Write.contents c.loop-path.err.inner)
                (g.E.Write.contents c.run_path.new.err.inner) before.1 own.1 before.4 own.4,
          );
      unopened = λ known.
          let there = known_there (λ path. path.now) all i none (files c.args.files.now)
          (files c.loop-path.files) c.loop-path.invariant.known within known in
          unopened_there (λ path. path.now) all i none (files c.args.files.now)
          (files c.loop-path.files) c.loop-path.invariant.known within _ _ _
          c.add.ensures (c.loop-path.invariant.unopened known)
          (c.in_ok-run_path.ensures.unopened there);
    }

pub returns-in_err-run_path-clause-stopped : goal.returns-in_err-run_path-clause-stopped
returns-in_err-run_path-clause-stopped g c =
    let all = c.args.task.now.paths.now in
    let i = c.loop-path.path-index in
    let within : i < length all = omega arith in
    let files = g.F.Files.known in
    let none : Bor (List ℕ) = record { ref_ptr = (0, 0); now = [] } in
    let p = err_from_is_err_and c.from_residual.result c.from_residual.ensures.1 in
    rw p.1
    (rw p.2
    (λ known.
    let there =
    known_there (λ path. path.now) all i none (files c.args.files.now) (files c.loop-path.files)
    c.loop-path.invariant.known within known in
    stops_there (λ path. path.now) all i none (order_at c.args.task.now) (order_at c.loop-path.task)
    (files c.args.files.now) (files c.loop-path.files)
    c.loop-path.invariant.orders c.loop-path.invariant.known within _ _ _ _ _
    (c.loop-path.invariant.written known) (c.in_err-run_path.ensures.stopped there)))
