-- The pieces of a text are reported in only one way, but for the notes.
use Rattle.pgn_extract.proofs.Common.{ℕ, List, sym, ◌∙◌, MarkedPiece, Aim, Verdict, AreVerdicts}
use Rattle.pgn_extract.proofs.Common.{IsSameReport}
use Rattle.pgn_extract.specs.Public.Laws.{TextHasOneReport}
use Rattle.pgn_extract.proofs.laws.OneVerdict.{all_one_verdict, bare_verdicts}

pub same_report : (aim : Aim) (number : ℕ) (pieces : List MarkedPiece) (xs ys : List Verdict)
    → AreVerdicts aim number pieces xs → AreVerdicts aim number pieces ys → IsSameReport aim xs ys
same_report aim number pieces xs ys x y =
    let same = all_one_verdict aim number pieces xs ys x y in record {
      but_notes = same;
      without_notes = λ plain. sym (bare_verdicts aim plain number pieces xs x) ∙ same
          ∙ bare_verdicts aim plain number pieces ys y;
    }

pub one_report : TextHasOneReport
one_report aim number pieces reported others verdict also =
    same_report aim number pieces others reported also verdict
