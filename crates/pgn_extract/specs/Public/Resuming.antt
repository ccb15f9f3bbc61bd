-- A run begun at a mark of an earlier run reports exactly the rest.
use Rattle.std.specs.Prelude.{◌≡◌, ℕ, ◌+◌, nat_le, if◌then◌else◌, List, [], ◌∷◌, ◌++◌, length}
use Rattle.std.specs.Prelude.{Option}
use Rattle.pgn_text.specs.Public.Marks.{MarkedPiece}
use Rattle.pgn_extract.specs.Public.Outcomes.{Writes}
use Rattle.pgn_extract.specs.Public.Verdicts.{Verdict, AreVerdicts, IsSameReport}
use Rattle.pgn_extract.specs.Public.Aims.{Aim, GameId}

-- what is reported of those pieces whose number is at least `least`, where the pieces are numbered
-- from a number on
abbrev pub verdicts_at_least : ℕ → ℕ → List Verdict → List Verdict
verdicts_at_least least number [] = []
verdicts_at_least least number (verdict ∷ more) =
    if nat_le least number then verdict ∷ verdicts_at_least least (number + 1) more
    else verdicts_at_least least (number + 1) more

-- `number@offset` is the mark of one of the pieces, which are numbered from 1 on
pub record IsMarkAmong (id : GameId) (pieces : List MarkedPiece) : Type 0 where
  pub before : List MarkedPiece
  pub piece : MarkedPiece
  pub after : List MarkedPiece
  pub parted : pieces ≡ before ++ piece ∷ after
  pub numbered : id.number ≡ length before + 1
  pub placed : id.offset ≡ piece.offset

-- the run reported exactly the pieces from the mark on, and just as a run over all pieces reports
-- them
pub record WritesRest (aim : Aim) (number : ℕ) (pieces rest : List MarkedPiece)
    (out out' err err' : Option (List ℕ)) : Type 0 where
  pub verdicts : List Verdict
  pub written : Writes aim out out' err err' number rest verdicts
  pub same : (all : List Verdict) → AreVerdicts aim 1 pieces all
      → IsSameReport aim verdicts (verdicts_at_least number 1 all)
