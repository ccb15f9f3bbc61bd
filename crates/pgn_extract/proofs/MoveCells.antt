-- What rows show of a main line that is kept is one thing, and there is one for each ply.
use Rattle.std.specs.Prelude.{Option, None, zero, suc, drop, decimal}
use Rattle.pgn_extract.proofs.Common.{◌≡◌, ℕ, List, [], ◌∷◌, ◌++◌, length, refl, sym, ap, ◌∙◌}
use Rattle.pgn_extract.proofs.Common.{subst, MatchOption, slice_get, same_Some, State, Move, Some}
use Rattle.pgn_extract.proofs.Common.{after, IsSan, Item, main_words, Replay, IsReplay, Lines}
use Rattle.pgn_extract.proofs.Common.{line_legal, line_positions, positions_from}
use Rattle.chess.specs.Public.Placements.{AreOnBoard}
use Rattle.chess.proofs.OnBoard.{men_stay_on_board}
use Rattle.pgn_game.proofs.MoveTexts as texts
use Rattle.pgn_game.proofs.StartTexts.{start_read_back}
use Rattle.pgn_game.specs.Public.CodeLines.{AreLegalMoves}
use Rattle.pgn_game.specs.Public.GameLines.{AreMoveTexts, IsMoveText, uci_text}
use Rattle.pgn_game.specs.declared.exports.notation.Notation.{Notation}
use Rattle.pgn_game.specs.declared.exports.notation.Notation.TheVariants.{San, Uci}
use Rattle.pgn_extract.specs.Public.Rows.{IsAt, IsMoveIn, IsLastCell, AreMovesCell, IsLineCell}
use Rattle.pgn_extract.specs.declared.rows.column.LineColumn.{LineColumn}
use Rattle.pgn_extract.specs.declared.rows.column.LineColumn.TheVariants.{Plies, Last, Moves}
use Rattle.pgn_extract.proofs.FieldTexts.{some_move_text}

-- One cell.

one_move : (notation : Notation) (move : Option Move) (replay : Replay) (ply : ℕ) (x y : List ℕ)
    → MatchOption move (x ≡ []) (λ m. IsAt replay ply (λ P. IsMoveText notation P m x))
    → MatchOption move (y ≡ []) (λ m. IsAt replay ply (λ P. IsMoveText notation P m y)) → x ≡ y
one_move notation None replay ply x y first other = first ∙ sym other
one_move notation (Some m) replay ply x y (P, here, is) (Q, there, of) =
    texts.one_move_text notation P m x y is
    (subst (λ R. IsMoveText notation R m y) (same_Some Q P (sym there ∙ here)) of)

pub one_move_cell : (notation : Notation) (replay : Replay) (ply : ℕ) (x y : List ℕ)
    → IsMoveIn notation replay ply x → IsMoveIn notation replay ply y → x ≡ y
one_move_cell notation replay ply x y first other =
    one_move notation (slice_get replay.played ply) replay ply x y first other

one_last_cell : (notation : Notation) (replay : Replay) (ply : ℕ) (x y : List ℕ)
    → IsLastCell notation replay ply x → IsLastCell notation replay ply y → x ≡ y
one_last_cell notation replay zero x y first other = first ∙ sym other
one_last_cell notation replay (suc before) x y first other =
    one_move_cell notation replay before x y first other

one_texts : (notation : Notation) (now : State) (played : List Move) (x y : List ℕ)
    → AreMoveTexts notation now played x → AreMoveTexts notation now played y → x ≡ y
one_texts notation now [] x y a b = a ∙ sym b
one_texts notation now (m ∷ more) x y (own, rest, parted, spells, others)
    (also, end, split, is, those) =
    parted ∙ ap (λ t. 32 ∷ t ++ rest) (texts.one_move_text notation now m own also spells is)
    ∙ ap (λ t. 32 ∷ also ++ t) (one_texts notation (after now m) more rest end others those)
    ∙ sym split

one_moves_cell : (notation : Notation) (replay : Replay) (x y : List ℕ)
    → AreMovesCell notation replay x → AreMovesCell notation replay y → x ≡ y
one_moves_cell notation replay x y (P, here, (text, are, is)) (Q, there, (other, too, of)) =
    is ∙ ap (λ t. drop 1 t) (one_texts notation P replay.played text other are
    (subst (λ R. AreMoveTexts notation R replay.played other)
    (same_Some Q P (sym there ∙ here)) too)) ∙ sym of

pub one_line_cell : (own : LineColumn) (replay : Replay) (ply : ℕ) (x y : List ℕ)
    → IsLineCell own replay ply x → IsLineCell own replay ply y → x ≡ y
one_line_cell Plies replay ply x y first other = first ∙ sym other
one_line_cell (Last notation) replay ply x y first other =
    one_last_cell notation replay ply x y first other
one_line_cell (Moves notation) replay ply x y first other =
    one_moves_cell notation replay x y first other

-- Some cell.

some_in : (notation : Notation) (move : Option Move) (replay : Replay) (ply : ℕ) (text : List ℕ)
    → MatchOption move (text ≡ []) (λ m. IsAt replay ply (λ P. IsSan P m text))
    → (own : List ℕ)
    × MatchOption move (own ≡ []) (λ m. IsAt replay ply (λ P. IsMoveText notation P m own))
some_in San move replay ply text is = (text, is)
some_in Uci None replay ply text is = ([], refl)
some_in Uci (Some m) replay ply text (P, here, san) = (uci_text m, (P, here, refl))

some_texts : (notation : Notation) (now : State) (moves : List Move) → AreOnBoard now.men
    → AreLegalMoves now moves → (text : List ℕ) × AreMoveTexts notation now moves text
some_texts notation now [] stands legal = ([], refl)
some_texts notation now (m ∷ moves) stands legal =
    let own = texts.some_move_text notation now m stands legal.0 in
    let more = some_texts notation (after now m) moves (men_stay_on_board now m stands legal.0)
    legal.1 in
    (32 ∷ own.0 ++ more.0, (own.0, more.0, refl, own.1, more.1))

-- the first position is the one that the moves are played from
pub first_position : (start : State) (moves : List Move)
    → slice_get (positions_from start moves) 0 ≡ Some start
first_position start [] = refl
first_position start (m ∷ moves) = refl

module _ (lines : Lines) (fen : Option (List ℕ)) (items : List Item) (replay : Replay)
    (is : IsReplay lines fen items replay) where
  some_move_cell : (notation : Notation) (ply : ℕ)
      → (cell : List ℕ) × IsMoveIn notation replay ply cell
  some_move_cell notation ply =
      let san = some_move_text lines fen items replay is ply in
      some_in notation (slice_get replay.played ply) replay ply san.0 san.1

  some_last_cell : (notation : Notation) (ply : ℕ)
      → (cell : List ℕ) × IsLastCell notation replay ply cell
  some_last_cell notation zero = ([], refl)
  some_last_cell notation (suc before) = some_move_cell notation before

  some_moves_cell : (notation : Notation) → (cell : List ℕ) × AreMovesCell notation replay cell
  some_moves_cell notation =
      let kept = start_read_back fen is.start is.is_start in
      let words = main_words items 0 in
      let legal = line_legal is.start words replay.positions replay.played is.line in
      let positions = line_positions is.start words replay.positions replay.played is.line in
      let text = some_texts notation is.start replay.played kept.sound.on_board legal in (
        drop 1 text.0,
        (
          is.start,
          ap (λ ps. slice_get ps 0) positions ∙ first_position is.start replay.played,
          (text.0, text.1, refl),
        ),
      )

  pub some_line_cell : (own : LineColumn) (ply : ℕ)
      → (cell : List ℕ) × IsLineCell own replay ply cell
  some_line_cell Plies ply = (decimal (length replay.played), refl)
  some_line_cell (Last notation) ply = some_last_cell notation ply
  some_line_cell (Moves notation) ply = some_moves_cell notation
