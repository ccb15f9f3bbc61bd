-- The exports of pieces are one text.
use Rattle.pgn_extract.proofs.Common.{◌≡◌, ℕ, ◌+◌, List, [], ◌∷◌, ◌++◌, sym, ap, ◌∙◌, subst}
use Rattle.pgn_extract.proofs.Common.{GameText, tag_in, PieceKind, ReadableGame, UnreadableRest}
use Rattle.pgn_extract.proofs.Common.{TooLongBlock, Replay, fen_tag, one_replay, no_fault, Aim}
use Rattle.pgn_extract.proofs.Common.{GameId, id_of, is_chosen, written_lines, IsWritten}
use Rattle.pgn_extract.proofs.Common.{IsGameExport, sound, faulty, IsPieceExport}
use Rattle.pgn_extract.specs.Public.Laws.{TextHasOneExport}
use Rattle.pgn_extract.proofs.Counting.{one_counted}
use Rattle.pgn_extract.proofs.laws.OneVerdict.{one_written}
use Rattle.pgn_extract.proofs.ChoiceFacts.{by_both}

of_game : (aim : Aim) (id : GameId) (game : GameText) (x y : List ℕ) → IsGameExport aim id game x
    → IsGameExport aim id game y → x ≡ y
of_game aim id game x y (sound first is this) (sound second also that) =
    let same : second ≡ first =
    one_replay (written_lines aim) (tag_in fen_tag game.tags) game.elements second first also
    is in
    one_written aim id game first x y this
    (subst (λ (r : Replay). IsWritten aim id game r y) same that)
of_game aim id game x y (sound first is this) (faulty fault also none) =
    absurd (no_fault (written_lines aim) (tag_in fen_tag game.tags) game.elements fault
    (first, is) also)
of_game aim id game x y (faulty fault is none) (sound second also that) =
    absurd (no_fault (written_lines aim) (tag_in fen_tag game.tags) game.elements fault
    (second, also) is)
of_game aim id game x y (faulty fault is none) (faulty other also empty) = none ∙ sym empty

of_piece : (kind : PieceKind) (aim : Aim) (id : GameId) (x y : List ℕ) → IsPieceExport aim id kind x
    → IsPieceExport aim id kind y → x ≡ y
of_piece (ReadableGame parts) aim id x y (game, is, a) (other, also, b) =
    of_game aim id game x y a
    (subst (λ g. IsGameExport aim id g y) (one_counted aim.openings parts other game also is)
    b)
of_piece (UnreadableRest bytes) aim id x y a b = a ∙ sym b
of_piece TooLongBlock aim id x y a b = a ∙ sym b

pub one_exports : TextHasOneExport
one_exports aim number [] text other a b = a ∙ sym b
one_exports aim number (piece ∷ more) text other (own, rest, parted, is, others)
    (also, later, split, that, those) =
    let one = by_both (is_chosen aim.chosen (id_of number piece))
    (of_piece piece.kind aim (id_of number piece) own also) (λ none also_none. none
    ∙ sym also_none) is that in
    parted ∙ ap (λ t. t ++ rest) one
    ∙ ap (λ t. also ++ t) (one_exports aim (number + 1) more rest later others those) ∙ sym split
