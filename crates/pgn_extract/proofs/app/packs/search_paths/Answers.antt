use Rattle.pgn_extract.proofs.Common.{◌<◌, ◌∙◌, ℕ, Bor, List, [], arith, length, rules, aim_of}
use Rattle.pgn_extract.proofs.app.SeveralFacts.{known_there}
use Rattle.pgn_extract.proofs.app.SeveralPackFacts.{searched_there, stops_at_pack}
use Rattle.pgn_extract.proofs.app.packs.search_paths.Goals as goal

pub loop-path-preserved : goal.loop-path-preserved
loop-path-preserved g c =
    let all = c.args.task.now.paths.now in
    let i = c.loop-path.path-index in
    let within : i < length all = omega arith in
    let files = g.F.Files.known in
    let none : Bor (List ℕ) = record { ref_ptr = (0, 0); now = [] } in
    record {
      sound = search rules;
      known = λ path. c.in-Ok.ensures.known path ∙ c.loop-path.invariant.known path;
      searched = λ known.
          let there = known_there (λ path. path.now) all i none
          (files c.args.files.now) (files c.loop-path.files) c.loop-path.invariant.known within
          known in
          searched_there (λ path. path.now) all i none (aim_of c.args.task.now.settings)
          (files c.args.files.now) (files c.loop-path.files)
          c.loop-path.invariant.known within _ _ _ _ _ _ (c.loop-path.invariant.searched known)
          (c.in-Ok.ensures.searched there);
    }

pub returns-in-Err-clause-stopped : goal.returns-in-Err-clause-stopped
returns-in-Err-clause-stopped g c = λ known.
    let all = c.args.task.now.paths.now in
    let i = c.loop-path.path-index in
    let within : i < length all = omega arith in
    let files = g.F.Files.known in
    let none : Bor (List ℕ) = record { ref_ptr = (0, 0); now = [] } in
    let there = known_there (λ path. path.now) all i none
    (files c.args.files.now) (files c.loop-path.files) c.loop-path.invariant.known within known in
    stops_at_pack (λ path. path.now) all i none (aim_of c.args.task.now.settings)
    (files c.args.files.now) (files c.loop-path.files)
    c.loop-path.invariant.known within _ _ _ _ _ (c.loop-path.invariant.searched known)
    (c.in-Err.ensures.stopped there)
