-- The standard text of a legal move names that move and no other.
use Rattle.chess.proofs.Common.{◌≡◌, ◌⊎◌, ℕ, true, inl, inr, ap, refl, sym, subst, ◌∙◌, Some, None}
use Rattle.chess.proofs.Common.{List, ◌++◌, list_all, State, IsSound, after, IsLegal, is_check_sign}
use Rattle.chess.proofs.Common.{IsOnlyNamed, IsPieceText, IsBody, IsCheckSign, IsSan, pawn_text}
use Rattle.chess.proofs.Common.{mate, Kind, Pawn, Move}
use Rattle.chess.proofs.SaidNamesFacts.{castling_named}
use Rattle.chess.proofs.PieceNamesFacts.{piece_named}
use Rattle.chess.proofs.PawnNamesFacts.{pawn_named}

marks_are : (P : State) (mark : List ℕ) → IsCheckSign P mark → list_all is_check_sign mark ≡ true
marks_are P _ (mate mated) = refl
marks_are P _ _ = refl

cases_pawn : (kind : Kind) → (kind ≡ Pawn) ⊎ (kind ≡ Pawn → ⊥)
cases_pawn Pawn = inl refl
cases_pawn _ = inr (λ e. cc)

piece_text : (P : State) (m : Move) (kind : Kind) (body : List ℕ) → (kind ≡ Pawn → ⊥)
    → IsBody P m None kind body → IsPieceText P m kind body
piece_text P m Pawn body piece is = absurd (piece refl)
piece_text P m _ body piece is = is

pub san_names : (P : State) (m : Move) (x : List ℕ) → IsSound P → IsLegal P m → IsSan P m x
    → IsOnlyNamed P x m
san_names P m x sound legal san =
    let marks = marks_are (after P m) san.mark san.mark_is in
    elim m.castle as (λ c. m.castle ≡ c → IsBody P m c san.man.kind san.body → IsOnlyNamed P x m) [
      | Some wing ↦ λ castle is. castling_named P m x wing legal castle (
        san.mark,
        marks,
        inl (san.text ∙ ap (λ z. z ++ san.mark) is),
      )
      | None ↦ λ castle is. subst (λ z.
          IsOnlyNamed P z m) (sym san.text) (elim (cases_pawn san.man.kind) [
            | inl pawn ↦
                let text : san.body ≡ pawn_text P m =
                subst (λ kind. IsBody P m None kind san.body) pawn is in
                rw text (pawn_named P m san.man san.mark sound legal castle san.here pawn marks)
            | inr piece ↦ piece_named P m san.man san.body san.mark legal castle san.here piece
                (piece_text P m san.man.kind san.body piece is) marks
          ])
    ] refl san.body_is
