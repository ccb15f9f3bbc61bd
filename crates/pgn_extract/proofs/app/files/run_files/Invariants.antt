use Rattle.pgn_extract.proofs.Common.{◌≡◌, ◌≤◌, ◌^◌, ℕ, List, take, false, list_any, largest_offset}
use Rattle.pgn_extract.proofs.Common.{passage, AreKnown, WritesPaths, is_no_file, order_at}
use Rattle.pgn_extract.specs.Public.Several.{paths_of}
use Rattle.pgn_extract.proofs.app.files.run_files.Given as goal

abbrev pub invariant-loop-path : goal.invariant-loop-path
invariant-loop-path g l =
    record {
      sound : (l.out.faulted ≡ false) × (l.err.faulted ≡ false);
      number : (1 ≤ l.task.settings.number) × (l.task.settings.number ≤ 2 ^ 62);
      offset : l.task.settings.offset ≤ largest_offset;
      orders : (path : List ℕ) → order_at l.task path ≡ order_at l.initial.task path;
      known : (path : List ℕ) → g.F.Files.known l.files path ≡ g.F.Files.known l.initial.files path;
      written : AreKnown (g.F.Files.known l.initial.files) (paths_of l.initial.task)
          → WritesPaths (order_at l.initial.task) (g.F.Files.known l.initial.files)
          (take l.path-index (paths_of l.initial.task))
          (passage g.O.Write.contents l.initial.out l.out)
          (passage g.E.Write.contents l.initial.err l.err);
      unopened : AreKnown (g.F.Files.known l.initial.files) (paths_of l.initial.task)
          → l.total.unopened ≡ list_any (λ path. is_no_file (g.F.Files.known l.initial.files path))
          (take l.path-index (paths_of l.initial.task));
    }
