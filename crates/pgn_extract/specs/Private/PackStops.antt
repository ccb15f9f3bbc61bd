-- What stands where a search of several packs ends early.
use Rattle.std.specs.Prelude.{◌≡◌, ℕ, List, ◌∷◌, ◌++◌}
use Rattle.std.specs.Io.KnownBytes.{Keeps}
use Rattle.pgn_extract.specs.Public.Aims.{Aim}
use Rattle.pgn_extract.specs.Public.Outcomes.{AppendsFront}
use Rattle.pgn_extract.specs.Public.Runs.{Passage, Stream}
use Rattle.pgn_extract.specs.Private.SegmentSearching.{StopsByCause}
use Rattle.pgn_extract.specs.Public.Several.{AtPath, Unknown, NoFile, FileOf, NamesUnopened}
use Rattle.pgn_extract.specs.Private.SeveralPacks.{SearchesPaths}
use Rattle.pgn_extract.specs.declared.app.packs.PackFailure.{PackFailure}
use Rattle.pgn_extract.specs.declared.app.packs.PackFailure.TheVariants.{Search, Report}

-- the search of a pack, whose bytes are known, stopped, and it is named after its path
abbrev pub StopsInPack : PackFailure → Aim → List ℕ → List ℕ → Passage → Type 0
StopsInPack (Search name stop) aim path whole out =
    (name.now ≡ path) × StopsByCause stop.cause aim whole stop out.old.bytes out.new.bytes
StopsInPack (Report error) aim path whole out = ⊥

-- at a path a search stopped; or the line that names a path without a file was not written whole;
-- or memory ran out as the file was opened, and then nothing is written
abbrev pub StopsAtPack : PackFailure → Aim → List ℕ → AtPath → Passage → Passage → Type 0
StopsAtPack failure aim path Unknown out err = ⊥
StopsAtPack (Search name error) aim path NoFile out err = ⊥
StopsAtPack (Report error) aim path NoFile out err =
    (out.new ≡ out.old)
    × ((line : List ℕ) × NamesUnopened path line × AppendsFront err.old.bytes err.new.bytes line)
StopsAtPack (Search name error) aim path (FileOf whole) out err =
    StopsInPack (Search name error) aim path whole out × (err.new ≡ err.old)
StopsAtPack (Report error) aim path (FileOf whole) out err =
    (out.new ≡ out.old) × Keeps err.old.bytes err.new.bytes

-- among paths in a row: those before it were searched to their ends, and none after it
pub record StopsAmongPacks (aim : Aim) (known : List ℕ → AtPath) (paths : List (List ℕ))
    (failure : PackFailure) (out err : Passage) : Type 0 where
  pub before : List (List ℕ)
  pub path : List ℕ
  pub after : List (List ℕ)
  pub parted : paths ≡ before ++ path ∷ after
  pub out_there : Stream
  pub err_there : Stream
  pub whole : SearchesPaths aim known before
      (record { old = out.old; new = out_there }) (record { old = err.old; new = err_there })
  pub there : StopsAtPack failure aim path (known path)
      (record { old = out_there; new = out.new }) (record { old = err_there; new = err.new })
