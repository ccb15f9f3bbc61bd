-- What a line shows after a ply is one text, and there is one for each ply of a main line.
use Rattle.std.specs.Prelude.{◌&&◌, Option, None, codes}
use Rattle.pgn_extract.proofs.Common.{◌≡◌, ◌<◌, ℕ, zero, suc, Bool, true, false, not, List, [], ◌∷◌}
use Rattle.pgn_extract.proofs.Common.{◌++◌, length, Some, refl, sym, ap, ◌∙◌, subst, arith}
use Rattle.pgn_extract.proofs.Common.{MatchOption, slice_get, slice_get-get_or, same_Some, State}
use Rattle.pgn_extract.proofs.Common.{after, IsSan, Move, Item, main_words, IsMainLine, Replay}
use Rattle.pgn_extract.proofs.Common.{IsReplay, Lines, IsFenField, IsNextMove, IsNextField}
use Rattle.pgn_extract.proofs.Common.{AreFields, is_plain, Fields}
use Rattle.chess.specs.Public.Placements.{AreOnBoard}
use Rattle.chess.specs.Public.Fen.{IsFen}
use Rattle.chess.proofs.FenOneText.{one_fen, some_fen}
use Rattle.chess.proofs.OnBoard.{men_stay_on_board}
use Rattle.chess.proofs.SanOnce.{one_san}
use Rattle.chess.proofs.SanSettled.{some_san}
use Rattle.pgn_game.proofs.StartTexts.{start_read_back}

one_fen_field : (fen : Bool) (replay : Replay) (ply : ℕ) (x y : List ℕ)
    → IsFenField fen replay ply x → IsFenField fen replay ply y → x ≡ y
one_fen_field false replay ply x y first other = first ∙ sym other
one_fen_field true replay ply x y (position, text, here, is, shown) (other, also, there, of, seen) =
    let same : other ≡ position = same_Some other position (sym there ∙ here) in
    shown ∙ ap (λ (t : List ℕ). 32
    ∷ t) (one_fen position text also is (subst (λ P. IsFen P also) same of)) ∙ sym seen

-- the text of a move at a place of positions
abbrev pub IsTextAt : List State → ℕ → List ℕ → Move → Type 0
IsTextAt positions ply text m = (position : State) × (slice_get positions ply ≡ Some position)
    × IsSan position m text

one_next : (move : Option Move) (positions : List State) (ply : ℕ) (x y : List ℕ)
    → MatchOption move (x ≡ codes "-") (IsTextAt positions ply x)
    → MatchOption move (y ≡ codes "-") (IsTextAt positions ply y) → x ≡ y
one_next None positions ply x y first other = first ∙ sym other
one_next (Some m) positions ply x y (position, here, is) (other, there, of) =
    one_san position m x y is
    (subst (λ P. IsSan P m y) (same_Some other position (sym there ∙ here)) of)

one_next_field : (next : Bool) (replay : Replay) (ply : ℕ) (x y : List ℕ)
    → IsNextField next replay ply x → IsNextField next replay ply y → x ≡ y
one_next_field false replay ply x y first other = first ∙ sym other
one_next_field true replay ply x y (text, is, shown) (also, of, seen) =
    shown ∙ ap (λ (t : List ℕ). 32
    ∷ t) (one_next (slice_get replay.played ply) replay.positions ply text also is of) ∙ sym seen

pub one_text : (fields : Fields) (replay : Replay) (ply : ℕ) (x y : List ℕ)
    → AreFields fields replay ply x → AreFields fields replay ply y → x ≡ y
one_text fields replay ply x y (fen, next, is, also, shown) (fen2, next2, is2, also2, seen) =
    shown ∙ ap (λ (t : List ℕ). t ++ next) (one_fen_field fields.fen replay ply fen fen2 is is2)
    ∙ ap (λ (t : List ℕ). fen2 ++ t) (one_next_field fields.next replay ply next next2 also also2)
    ∙ sym seen

pub some_position : (positions : List State) (ply : ℕ) → ply < length positions
    → (position : State) × (slice_get positions ply ≡ Some position)
some_position [] ply less = absurd (omega arith)
some_position (position ∷ more) ply less = (_, slice_get-get_or (position ∷ more) ply position less)

some_fen_field : (fen : Bool) (replay : Replay) (ply : ℕ) → ply < length replay.positions
    → (shown : List ℕ) × IsFenField fen replay ply shown
some_fen_field false replay ply less = ([], refl)
some_fen_field true replay ply less =
    let at = some_position replay.positions ply less in
    let text = some_fen at.0 in
    (32 ∷ text.0, (at.0, text.0, at.1, text.1, refl))

-- after each ply of a main line a move is played that has a text, or none is
some_next : (now : State) (words : List (List ℕ)) (positions : List State) (played : List Move)
    → AreOnBoard now.men → IsMainLine now words positions played
    → (ply : ℕ) → (text : List ℕ) × IsNextMove positions played ply text
some_next now [] positions played stands line ply = (
  codes "-",
  subst (λ (ms : List Move). IsNextMove positions ms ply (codes "-")) (sym line.1) refl,
)
some_next now (word ∷ words) positions played stands
    (m, later, more, positions_is, played_is, named, rest) zero =
    let own = some_san now m stands named.named.legal in (
      own.0,
      subst (λ (ms : List Move). IsNextMove positions ms 0 own.0) (sym played_is)
          (subst (λ (ps : List State). IsNextMove ps (m ∷ more) 0 own.0) (sym positions_is)
          (now, refl, own.1)),
    )
some_next now (word ∷ words) positions played stands
    (m, later, more, positions_is, played_is, named, rest) (suc ply) =
    let own =
    some_next (after now m) words later more (men_stay_on_board now m stands named.named.legal)
    rest ply in (
      own.0,
      subst (λ (ms : List Move). IsNextMove positions ms (suc ply) own.0) (sym played_is)
          (subst (λ (ps : List State). IsNextMove ps (m ∷ more) (suc ply) own.0) (sym positions_is)
          own.1),
    )

-- so its column has a value
some_value : (now : State) (words : List (List ℕ)) (positions : List State) (played : List Move)
    → AreOnBoard now.men → IsMainLine now words positions played
    → (ply : ℕ) → (text : List ℕ) × MatchOption (slice_get played ply) (text ≡ [])
    (λ m. (position : State) × (slice_get positions ply ≡ Some position) × IsSan position m text)
some_value now words positions played stands line ply =
    let text = some_next now words positions played stands line ply in
    value_of (slice_get played ply) text.0 text.1
  where
    value_of : (move : Option Move) (text : List ℕ)
        → MatchOption move (text ≡ codes "-") (IsTextAt positions ply text)
        → (own : List ℕ) × MatchOption move (own ≡ []) (IsTextAt positions ply own)
    value_of None text is = ([], refl)
    value_of (Some m) text is = (text, is)

pub some_move_text : (lines : Lines) (fen : Option (List ℕ)) (items : List Item)
    (replay : Replay) → IsReplay lines fen items replay
    → (ply : ℕ) → (text : List ℕ) × MatchOption (slice_get replay.played ply) (text ≡ [])
    (λ m. (position : State) × (slice_get replay.positions ply ≡ Some position)
    × IsSan position m text)
some_move_text lines fen items replay is ply =
    let kept = start_read_back fen is.start is.is_start in
    some_value is.start (main_words items 0) replay.positions replay.played kept.sound.on_board
    is.line ply

some_next_field : (next : Bool) (lines : Lines) (fen : Option (List ℕ)) (items : List Item)
    (replay : Replay) → IsReplay lines fen items replay
    → (ply : ℕ) → (shown : List ℕ) × IsNextField next replay ply shown
some_next_field false lines fen items replay is ply = ([], refl)
some_next_field true lines fen items replay is ply =
    let kept = start_read_back fen is.start is.is_start in
    let text =
    some_next is.start (main_words items 0) replay.positions replay.played kept.sound.on_board
    is.line ply in
    (32 ∷ text.0, (text.0, text.1, refl))

pub some_fields : (fields : Fields) (lines : Lines) (fen : Option (List ℕ)) (items : List Item)
    (replay : Replay) → IsReplay lines fen items replay → (ply : ℕ) → ply < length replay.positions
    → (shown : List ℕ) × AreFields fields replay ply shown
some_fields fields lines fen items replay is ply less =
    let first = some_fen_field fields.fen replay ply less in
    let other = some_next_field fields.next lines fen items replay is ply in
    (first.0 ++ other.0, (first.0, other.0, first.1, other.1, refl))

-- where nothing is asked for, nothing is shown
plain_fields : (fen next : Bool) → not fen && not next ≡ true → (replay : Replay) (ply : ℕ)
    → IsFenField fen replay ply [] × IsNextField next replay ply []
plain_fields false false is replay ply = (refl, refl)
plain_fields false true is replay ply = absurd (cc)
plain_fields true next is replay ply = absurd (cc)

pub no_fields : (fields : Fields) → is_plain fields ≡ true → (replay : Replay) (ply : ℕ)
    → AreFields fields replay ply []
no_fields fields plain replay ply =
    let none = plain_fields fields.fen fields.next plain replay ply in
    ([], [], none.0, none.1, refl)
