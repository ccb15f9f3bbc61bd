-- What is reported of a text is what is reported of its parts, where it is cut at a piece.
use Rattle.pgn_extract.proofs.Common.{◌≡◌, ◌+◌, ◌-◌, ◌∷◌, ◌++◌, length, take, drop, ap, ◌∙◌, subst}
use Rattle.pgn_extract.proofs.Common.{front_of_text, one_marked_pieces, AreVerdicts, fault_lines}
use Rattle.pgn_text.proofs.ResumedText.{resumes}
use Rattle.pgn_extract.specs.Public.Laws.{PartsJoin}
use Rattle.pgn_extract.proofs.laws.OneReport.{same_report}
use Rattle.pgn_extract.proofs.VerdictFacts.{output_text-append, fault_lines-append, verdicts-append}
use Rattle.pgn_extract.proofs.VerdictFacts.{count_by-join, same_output, same_faulty}

pub parts_join : PartsJoin
parts_join aim limit max_depth id text before piece after all whole first second front rest one
    two =
    let size = piece.offset - id.offset in
    let same_before : first ≡ before =
    one_marked_pieces limit max_depth id.offset (take size text) first before one.each
    (front_of_text limit max_depth id.offset text before piece after whole.each) in
    let same_after : second ≡ piece ∷ after =
    one_marked_pieces limit max_depth piece.offset (drop size text) second (piece ∷ after) two.each
    (resumes limit max_depth id.offset text before piece after whole.each) in
    let verdicts_after =
    subst (λ p. AreVerdicts aim (id.number + length first) p rest) same_after two.written in
    let both = verdicts-append aim id.number before (piece
    ∷ after) front rest (subst (λ p. AreVerdicts aim id.number p front) same_before one.written)
    (subst (λ p. AreVerdicts aim (id.number + length p) (piece ∷ after) rest) same_before
    verdicts_after) in
    let joined =
    same_report aim id.number (before ++ piece ∷ after) all (front ++ rest) whole.written both
    in record {
      same_before = same_before;
      same_after = same_after;
      reported = joined;
      output = same_output all (front ++ rest) joined.but_notes ∙ output_text-append front rest;
      faults = λ plain. ap fault_lines (joined.without_notes plain) ∙ fault_lines-append front rest;
      faulty = same_faulty all (front ++ rest) joined.but_notes ∙ count_by-join front rest;
    }
