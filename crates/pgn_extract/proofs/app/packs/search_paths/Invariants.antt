use Rattle.pgn_extract.proofs.Common.{◌≡◌, ℕ, List, take, false, aim_of, passage, AreKnown}
use Rattle.pgn_extract.specs.Private.SeveralPacks.{SearchesPaths, pack_paths}
use Rattle.pgn_extract.proofs.app.packs.search_paths.Given as goal

abbrev pub invariant-loop-path : goal.invariant-loop-path
invariant-loop-path g l =
    record {
      sound : (l.out.faulted ≡ false) × (l.err.faulted ≡ false);
      known : (path : List ℕ) → g.F.Files.known l.files path ≡ g.F.Files.known l.initial.files path;
      searched : AreKnown (g.F.Files.known l.initial.files) (pack_paths l.task)
          → SearchesPaths (aim_of l.task.settings) (g.F.Files.known l.initial.files)
          (take l.path-index (pack_paths l.task))
          (passage g.O.Write.contents l.initial.out l.out)
          (passage g.E.Write.contents l.initial.err l.err);
    }
