-- What is reported of the two parts of a text, cut at a mark, is what is reported of the whole.
use Rattle.pgn_extract.proofs.Common.{◌≡◌, ◌+◌, ◌-◌, List, ◌∷◌, length, take, drop, sym, ap, ◌∙◌}
use Rattle.pgn_extract.proofs.Common.{subst, arith, MarkedPiece, AreMarkedPieces, front_of_text}
use Rattle.pgn_extract.proofs.Common.{one_marked_pieces, AreVerdicts, game_id}
use Rattle.pgn_extract.specs.Public.Laws.{AreJoined, PartsAreReported}
use Rattle.pgn_extract.proofs.laws.JoinedParts.{parts_join}

pub parts_reported : PartsAreReported
parts_reported aim limit max_depth id text pieces first second all front rest plain each mark are
    one own two others =
    let whole = subst (AreMarkedPieces limit max_depth 0 text) mark.parted each in
    let placed = mark.placed in let at : id.offset ≡ mark.piece.offset - 0 = omega arith in
    let before : AreMarkedPieces limit max_depth 0 (take (mark.piece.offset - 0) text) first =
    subst (λ n. AreMarkedPieces limit max_depth 0 (take n text) first) at one in
    let same : first ≡ mark.before =
    one_marked_pieces limit max_depth 0 (take (mark.piece.offset - 0) text) first mark.before before
    (front_of_text limit max_depth 0 text mark.before mark.piece mark.after whole) in
    let next : id.number ≡ 1 + length first =
    mark.numbered ∙ ap (λ (p : List MarkedPiece). length p + 1) (sym same) ∙ omega arith in
    let after : AreMarkedPieces limit max_depth mark.piece.offset
    (drop (mark.piece.offset - 0) text) second =
    subst (λ n. AreMarkedPieces limit max_depth mark.piece.offset (drop n text) second) at
    (subst (λ n. AreMarkedPieces limit max_depth n (drop id.offset text) second) placed two) in
    let joined : AreJoined aim mark.before (mark.piece ∷ mark.after) first second all front rest =
    parts_join aim limit max_depth (game_id 1 0) text mark.before mark.piece mark.after all
    (record { each = whole; written = subst (λ p. AreVerdicts aim 1 p all) mark.parted are }) first
    second front rest
    (record { each = before; written = own })
    (record { each = after; written = subst (λ n. AreVerdicts aim n second rest) next others })
    in
    (joined.output, joined.faults plain, joined.faulty)
