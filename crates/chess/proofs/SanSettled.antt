-- A legal move has a text in standard algebraic notation, where men stand on the board alone: which
-- rivals a man has is settled, and so
-- are check and mate after the move.
use Rattle.chess.proofs.Common.{◌≡◌, ℕ, Option, Some, None, List, [], ◌∷◌, ◌++◌, inl, inr, refl}
use Rattle.chess.proofs.Common.{cases_eq, Place, man_at, AreOnBoard, State, after, kind_letter}
use Rattle.chess.proofs.Common.{file_letter, rank_digit, square_text, IsRival, HasRival}
use Rattle.chess.proofs.Common.{IsDisambiguation, IsPieceText, IsBody, IsCheckSign, castling_text}
use Rattle.chess.proofs.Common.{capture_text, pawn_text, alone, by_file, by_rank, by_both, mate}
use Rattle.chess.proofs.Common.{check, quiet, Kind, King, Queen, Rook, Bishop, Knight, Pawn, Wing}
use Rattle.chess.proofs.Common.{Move}
use Rattle.chess.specs.Public.Laws.{EachMoveHasAText}
use Rattle.chess.proofs.OnBoard.{men_stay_on_board}
use Rattle.chess.proofs.PlaceFacts.{cases_place}
use Rattle.chess.proofs.Settled.{Settled, settled_like, settled_not, settled_both}
use Rattle.chess.proofs.Settled.{settled_three}
use Rattle.chess.proofs.Searches.{search_square}
use Rattle.chess.proofs.LegalSettled.{settled_man_at, settled_check}
use Rattle.chess.proofs.MateSettled.{settled_can_go, settled_mate}

-- ---- rivals

settled_rival : (P : State) (m : Move) (s : Place) → AreOnBoard P.men → Settled (IsRival P m s)
settled_rival P m s on_board =
    settled_like (λ h. record { other = h.0; alike = h.1; goes = h.2 }) (λ r.
    (r.other, r.alike, r.goes))
    (settled_three (settled_not (cases_place s m.from))
    (settled_man_at P.men s (man_at P.men m.from)) (settled_can_go P s m.to on_board))

settled_has_rival : (P : State) (m : Move) (Asked : Place → Type 0)
    → ((s : Place) → Settled (Asked s)) → AreOnBoard P.men
    → Settled (HasRival P m Asked)
settled_has_rival P m Asked each on_board =
    settled_like (λ h. (h.0, h.2.0, h.2.1)) (λ h. (h.0, h.1.goes.2.pseudo_legal.from, (h.1, h.2)))
    (search_square (λ s. IsRival P m s × Asked s) (λ s.
    settled_both (settled_rival P m s on_board) (each s)))

-- ---- the parts of a text

some_origin : (P : State) (m : Move) → AreOnBoard P.men
    → (origin : List ℕ) × IsDisambiguation P m origin
some_origin P m on_board = elim (settled_has_rival P m (λ s. Unit {0}) (λ s. inl tt) on_board) [
  | inr none ↦ ([], alone none)
  | inl some ↦ elim (settled_has_rival P m (λ s. s.file
      ≡ m.from.file) (λ s. cases_eq s.file m.from.file) on_board) [
        | inr other ↦ (file_letter m.from.file ∷ [], by_file some other)
        | inl file ↦ elim (settled_has_rival P m (λ s. s.rank
            ≡ m.from.rank) (λ s. cases_eq s.rank m.from.rank) on_board) [
              | inr none ↦ (rank_digit m.from.rank ∷ [], by_rank file none)
              | inl rank ↦ (square_text m.from, by_both file rank)
            ]
      ]
]

some_piece : (P : State) (m : Move) (kind : Kind) → AreOnBoard P.men
    → (x : List ℕ) × IsPieceText P m kind x
some_piece P m kind on_board =
    let found = some_origin P m on_board in (
      kind_letter kind ∷ (found.0 ++ (capture_text P m ++ square_text m.to)),
      (found.0, found.1, refl),
    )

some_body : (P : State) (m : Move) (castle : Option Wing) (kind : Kind) → AreOnBoard P.men
    → (x : List ℕ) × IsBody P m castle kind x
some_body P m (Some wing) mover on_board = (castling_text wing, refl)
some_body P m None Pawn on_board = (pawn_text P m, refl)
some_body P m None King on_board = some_piece P m King on_board
some_body P m None Queen on_board = some_piece P m Queen on_board
some_body P m None Rook on_board = some_piece P m Rook on_board
some_body P m None Bishop on_board = some_piece P m Bishop on_board
some_body P m None Knight on_board = some_piece P m Knight on_board

some_mark : (P : State) → AreOnBoard P.men → (x : List ℕ) × IsCheckSign P x
some_mark P on_board = elim (settled_check P.men P.turn on_board) [
  | inr calm ↦ ([], quiet calm)
  | inl in_check ↦ elim (settled_mate P on_board) [
    | inl mated ↦ (35 ∷ [], mate mated)
    | inr other ↦ (43 ∷ [], check in_check other)
  ]
]

pub some_san : EachMoveHasAText
some_san P m on_board legal =
    let rules = legal.pseudo_legal in
    let body = some_body P m m.castle rules.man.kind on_board in
    let mark = some_mark (after P m) (men_stay_on_board P m on_board legal) in (
      body.0 ++ mark.0,
      record {
        man = rules.man;
        here = rules.here;
        body = body.0;
        body_is = body.1;
        mark =
            mark.0;
        mark_is = mark.1;
        text = refl;
      },
    )
