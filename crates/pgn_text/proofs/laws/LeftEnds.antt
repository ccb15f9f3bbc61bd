-- The pieces of a block end where none is left, or after an error.
use Rattle.std.proofs.Common.{Some}
use Rattle.pgn_text.proofs.Common.{◌≡◌, ℕ, List, [], ◌∷◌, None, Ok, Err, take, drop, refl, sym, ◌∙◌}
use Rattle.pgn_text.proofs.Common.{inl, inr, false≢true, Left, ArePiecesLeft}
use Rattle.pgn_text.specs.Public.AnswerLaws.{EndsWhereNothingIsLeft, EndsAfterAnError}
use Rattle.pgn_text.proofs.Existence.{pieces_exist}
use Rattle.pgn_text.proofs.OneList.{one_list}
use Rattle.pgn_text.specs.Public.Pieces as spec

one_left : (max_depth : ℕ) (left : Left) (pieces others : List spec.Piece)
    → ArePiecesLeft max_depth left pieces → ArePiecesLeft max_depth left others → pieces ≡ others
one_left max_depth left pieces others are own =
    one_list max_depth left.file_start (take left.at left.block) pieces others
    (drop left.at left.block) are own

pub ends_where_nothing_is_left : EndsWhereNothingIsLeft
ends_where_nothing_is_left max_depth old new None pieces gives going are = (
  λ _. elim gives.0 [
    | inl failed ↦ absurd (false≢true (sym going ∙ failed))
    | inr none ↦ one_left max_depth old pieces [] are none
  ],
  λ _. refl,
)
ends_where_nothing_is_left max_depth old new (Some (Ok piece)) pieces gives going are =
    let more = pieces_exist max_depth new.file_start (take new.at new.block) (drop new.at new.block)
    in
    let all =
    one_left max_depth old pieces (gives.shown ∷ more.0) are (gives.completes more.0 more.1) in
    (λ e. cc, λ e. cc)
ends_where_nothing_is_left max_depth old new (Some (Err error)) pieces gives going are =
    let same = one_left max_depth old pieces gives.2.0 are gives.2.2 in
    (λ e. cc, λ e. absurd (gives.2.1 (sym same ∙ e)))

pub ends_after_an_error : EndsAfterAnError
ends_after_an_error max_depth old new last error None failed gives = (refl, gives.1)
ends_after_an_error max_depth old new last error (Some (Ok piece)) failed gives =
    absurd (false≢true (sym gives.going ∙ failed.1))
ends_after_an_error max_depth old new last error (Some (Err other)) failed gives =
    absurd (false≢true (sym gives.0 ∙ failed.1))
