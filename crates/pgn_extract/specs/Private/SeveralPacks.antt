-- Searches of several packs: each pack is searched as if it were the only one, in their order.
use Rattle.std.specs.Prelude.{◌≡◌, ℕ, List, [], ◌∷◌, map}
use Rattle.pgn_extract.specs.Public.Aims.{Aim}
use Rattle.pgn_extract.specs.Public.Runs.{Adds, Passage, Stream}
use Rattle.pgn_extract.specs.Private.SegmentSearching.{SearchesPack}
use Rattle.pgn_extract.specs.Public.Several.{AtPath, Unknown, NoFile, FileOf, NamesUnopened}
use Rattle.pgn_extract.specs.declared.app.packs.PackTask.{PackTask}
use Rattle.pgn_extract.specs.declared.packed.searching.Searched.{Searched}

-- the paths of the packs, in their order
abbrev pub pack_paths : PackTask → List (List ℕ)
pack_paths task = map (λ path. path.now) task.paths.now

-- the pack at a path was searched to its end; where there is none, standard error grew by the line
-- that names it, and by nothing else
abbrev pub SearchesPath : Aim → List ℕ → AtPath → Passage → Passage → Type 0
SearchesPath aim path Unknown out err = ⊥
SearchesPath aim path NoFile out err =
    (out.new ≡ out.old) × ((line : List ℕ) × NamesUnopened path line × Adds err line)
SearchesPath aim path (FileOf whole) out err =
    ((searched : Searched) × SearchesPack aim whole out.old.bytes out.new.bytes searched)
    × (err.new ≡ err.old)

-- so it was at paths in a row: each search begins where the one before it ended
abbrev pub SearchesPaths : Aim → (List ℕ → AtPath) → List (List ℕ) → Passage → Passage → Type 0
SearchesPaths aim known [] out err = (out.new ≡ out.old) × (err.new ≡ err.old)
SearchesPaths aim known (path ∷ more) out err =
    (out_there : Stream) × (err_there : Stream)
    × SearchesPath aim path (known path)
    (record { old = out.old; new = out_there }) (record { old = err.old; new = err_there })
    × SearchesPaths aim known more
    (record { old = out_there; new = out.new }) (record { old = err_there; new = err.new })
