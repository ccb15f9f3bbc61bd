-- A run that reported the pieces of the rest reported what is reported of the whole from the mark
-- on.
use Rattle.pgn_extract.proofs.Common.{◌≡◌, ℕ, ◌+◌, ◌≤◌, true, false, List, [], ◌∷◌, ◌++◌, length}
use Rattle.pgn_extract.proofs.Common.{drop, refl, sym, ap, ◌∙◌, subst, arith, nat_le, if◌then◌else◌}
use Rattle.pgn_extract.proofs.Common.{nat_tests, MarkedPiece, AreMarkedPieces, resumed_pieces}
use Rattle.pgn_extract.proofs.Common.{verdicts_at_least, Verdict, AreVerdicts, IsSameReport, Aim}
use Rattle.pgn_extract.specs.Public.Laws.{RunResumes}
use Rattle.pgn_extract.proofs.laws.OneReport.{same_report}

-- pieces that are all numbered high enough
at_least_all : (least number : ℕ) (verdicts : List Verdict) → least ≤ number
    → verdicts_at_least least number verdicts ≡ verdicts
at_least_all least number [] low = refl
at_least_all least number (verdict ∷ more) low =
    let here : nat_le least number ≡ true = grind (arith, nat_tests) in
    ap (λ b. if b then verdict ∷ verdicts_at_least least (number + 1) more
    else verdicts_at_least least (number + 1) more) here
    ∙ ap (λ rest. verdict ∷ rest) (at_least_all least (number + 1) more (omega arith))

-- of the pieces before the mark nothing is kept, of those from it on all
at_least_from : (aim : Aim) (number : ℕ) (before after : List MarkedPiece) (verdicts : List Verdict)
    → AreVerdicts aim number (before ++ after) verdicts
    → (later : List Verdict) × AreVerdicts aim (length before + number) after later
    × (verdicts_at_least (length before + number) number verdicts ≡ later)
at_least_from aim number [] after verdicts all =
    let none : number ≡ 0 + number = omega arith in (
      verdicts,
      subst (λ n. AreVerdicts aim n after verdicts) none all,
      at_least_all (0 + number) number verdicts (omega arith),
    )
at_least_from aim number (piece ∷ before) after verdicts (verdict, rest, parted, is, others) =
    let least = length (piece ∷ before) + number in
    let above : nat_le least number ≡ false = grind (arith, nat_tests) in
    let next : length before + (number + 1) ≡ least = omega arith in
    let from = at_least_from aim (number + 1) before after rest others in (
      from.0,
      subst (λ n. AreVerdicts aim n after from.0) next from.1,
      ap (verdicts_at_least least number) parted
          ∙ ap (λ b. if b then verdict ∷ verdicts_at_least least (number + 1) rest
          else verdicts_at_least least (number + 1) rest) above
          ∙ ap (λ n. verdicts_at_least n (number + 1) rest) (sym next) ∙ from.2,
    )

-- what a run reported of the rest is what the whole has from the mark on
pub run_resumes : RunResumes
run_resumes job io whole summary done pieces all mark =
    let rest = mark.piece ∷ mark.after in
    let same : done.pieces ≡ rest =
    resumed_pieces job.limit job.max_depth whole mark.before mark.piece mark.after done.pieces
    (subst (AreMarkedPieces job.limit job.max_depth 0 whole) mark.parted all)
    (subst (λ o. AreMarkedPieces job.limit job.max_depth o (drop o whole) done.pieces)
    mark.placed done.each) in
    let own : AreVerdicts job.aim job.id.number rest done.verdicts =
    subst (λ p. AreVerdicts job.aim job.id.number p done.verdicts) same done.written.each in
    record {
      verdicts = done.verdicts;
      written = record {
        each = own;
        output = done.written.output;
        faults = done.written.faults;
      };
      same = λ verdicts verdict.
          let from = at_least_from job.aim 1 mark.before rest verdicts
          (subst (λ p. AreVerdicts job.aim 1 p verdicts) mark.parted verdict) in
          subst (IsSameReport job.aim done.verdicts)
          (sym from.2 ∙ ap (λ n. verdicts_at_least n 1 verdicts) (sym mark.numbered))
          (same_report job.aim (length mark.before + 1) rest done.verdicts from.0
          (subst (λ n. AreVerdicts job.aim n rest done.verdicts) mark.numbered own) from.1);
    }
