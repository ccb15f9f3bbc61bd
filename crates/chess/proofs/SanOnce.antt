-- A move has one text in standard algebraic notation.
use Rattle.chess.proofs.Common.{◌≡◌, ℕ, refl, sym, ap, subst, ◌∙◌, Option, Some, None, List, ◌∷◌}
use Rattle.chess.proofs.Common.{◌++◌, same_Some, State, after, kind_letter, square_text}
use Rattle.chess.proofs.Common.{IsDisambiguation, IsBody, IsCheckSign, IsSan, capture_text, alone}
use Rattle.chess.proofs.Common.{by_file, by_rank, by_both, mate, check, quiet, Man, Kind, King}
use Rattle.chess.proofs.Common.{Queen, Rook, Bishop, Knight, Pawn, Wing, Move}

one_origin : (P : State) (m : Move) (x y : List ℕ) → IsDisambiguation P m x → IsDisambiguation P m y
    → x ≡ y
one_origin P m _ _ (alone none) (by_file some other) = absurd (none some)
one_origin P m _ _ (alone none) (by_rank some other) = absurd (none (some.0, some.1, tt))
one_origin P m _ _ (alone none) (by_both file rank) = absurd (none (file.0, file.1, tt))
one_origin P m _ _ (by_file some none) (alone other) = absurd (other some)
one_origin P m _ _ (by_file some none) (by_rank file other) = absurd (none file)
one_origin P m _ _ (by_file some none) (by_both file rank) = absurd (none file)
one_origin P m _ _ (by_rank file none) (alone other) = absurd (other (file.0, file.1, tt))
one_origin P m _ _ (by_rank file none) (by_file some other) = absurd (other file)
one_origin P m _ _ (by_rank file none) (by_both also rank) = absurd (none rank)
one_origin P m _ _ (by_both file rank) (alone other) = absurd (other (file.0, file.1, tt))
one_origin P m _ _ (by_both file rank) (by_file some other) = absurd (other file)
one_origin P m _ _ (by_both file rank) (by_rank also other) = absurd (other rank)
one_origin P m _ _ _ _ = refl

one_mark : (P : State) (x y : List ℕ) → IsCheckSign P x → IsCheckSign P y → x ≡ y
one_mark P _ _ (mate mated) (check also other) = absurd (other mated)
one_mark P _ _ (mate mated) (quiet calm) = absurd (calm mated.0)
one_mark P _ _ (check in_check other) (mate mated) = absurd (other mated)
one_mark P _ _ (check in_check other) (quiet calm) = absurd (calm in_check)
one_mark P _ _ (quiet calm) (mate mated) = absurd (calm mated.0)
one_mark P _ _ (quiet calm) (check in_check other) = absurd (calm in_check)
one_mark P _ _ _ _ = refl

one_piece : (P : State) (m : Move) (letter : ℕ) (x y : List ℕ)
    → ((origin : List ℕ) × IsDisambiguation P m origin
    × (x ≡ letter ∷ (origin ++ (capture_text P m ++ square_text m.to))))
    → ((origin : List ℕ) × IsDisambiguation P m origin
    × (y ≡ letter ∷ (origin ++ (capture_text P m ++ square_text m.to)))) → x ≡ y
one_piece P m letter x y (origin, reports, is) (other, also, too) =
    is ∙ ap (λ o. letter ∷ (o ++ (capture_text P m ++ square_text m.to)))
    (one_origin P m origin other reports also) ∙ sym too

one_body : (P : State) (m : Move) (castle : Option Wing) (kind : Kind) (x y : List ℕ)
    → IsBody P m castle kind x → IsBody P m castle kind y → x ≡ y
one_body P m (Some wing) mover x y is also = is ∙ sym also
one_body P m None Pawn x y is also = is ∙ sym also
one_body P m None King x y is also = one_piece P m (kind_letter King) x y is also
one_body P m None Queen x y is also = one_piece P m (kind_letter Queen) x y is also
one_body P m None Rook x y is also = one_piece P m (kind_letter Rook) x y is also
one_body P m None Bishop x y is also = one_piece P m (kind_letter Bishop) x y is also
one_body P m None Knight x y is also = one_piece P m (kind_letter Knight) x y is also

pub one_san : (P : State) (m : Move) (x y : List ℕ) → IsSan P m x → IsSan P m y → x ≡ y
one_san P m x y s t =
    let same : t.man ≡ s.man = same_Some t.man s.man (sym t.here ∙ s.here) in
    let body =
    one_body P m m.castle s.man.kind s.body t.body s.body_is
    (subst (λ (man : Man). IsBody P m m.castle man.kind t.body) same t.body_is) in
    let mark = one_mark (after P m) s.mark t.mark s.mark_is t.mark_is in
    s.text ∙ (λ i. body i ++ mark i) ∙ sym t.text
