-- What is written of pieces: the words that those of `Runs` stand on.
use Rattle.std.specs.Prelude.{ℕ, List, take, Option}
use Rattle.std.specs.Io.KnownBytes.{Appends}
use Rattle.pgn_text.specs.Public.Complete.{AreCompletePieces}
use Rattle.pgn_text.specs.Public.Marks.{MarkedPiece, AreMarkedPieces}
use Rattle.pgn_extract.specs.Public.Verdicts.{Verdict, AreVerdicts, output_text, fault_lines}
use Rattle.pgn_extract.specs.Public.Aims.{Aim, GameId}

-- known bytes grow by a beginning of the bytes
abbrev pub AppendsFront : Option (List ℕ) → Option (List ℕ) → List ℕ → Type 0
AppendsFront old new bytes = (size : ℕ) × Appends old new (take size bytes)

-- the pieces are reported so in the mode, and the output and standard error grew by what is
-- reported
pub record Writes (aim : Aim) (out out' err err' : Option (List ℕ)) (number : ℕ)
    (pieces : List MarkedPiece) (verdicts : List Verdict) : Type 0 where
  pub each : AreVerdicts aim number pieces verdicts
  pub output : Appends out out' (output_text verdicts)
  pub faults : Appends err err' (fault_lines verdicts)

-- the pieces of the complete blocks of some bytes are reported, and nothing else
pub record WritesComplete (aim : Aim) (limit max_depth : ℕ) (id : GameId) (bytes : List ℕ)
    (out out' err err' : Option (List ℕ)) : Type 0 where
  pub pieces : List MarkedPiece
  pub each : AreCompletePieces limit max_depth id.offset bytes pieces
  pub verdicts : List Verdict
  pub written : Writes aim out out' err err' id.number pieces verdicts

-- each of the two grew by a beginning of what is reported of all pieces of the bytes
pub record BeginsAll (aim : Aim) (limit max_depth : ℕ) (id : GameId) (bytes : List ℕ)
    (out out' err err' : Option (List ℕ)) : Type 0 where
  pub pieces : List MarkedPiece
  pub each : AreMarkedPieces limit max_depth id.offset bytes pieces
  pub verdicts : List Verdict
  pub written : AreVerdicts aim id.number pieces verdicts
  pub output : AppendsFront out out' (output_text verdicts)
  pub faults : AppendsFront err err' (fault_lines verdicts)
