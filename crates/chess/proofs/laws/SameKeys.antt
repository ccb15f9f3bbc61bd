-- Sound positions with the same key are the same but for their counts, and the other way round.
use Rattle.chess.proofs.Common.{◌≡◌, ◌↔◌, ◌<◌, ◌+◌, ◌*◌, ◌^◌, ℕ, Bool, true, false, List}
use Rattle.chess.proofs.Common.{[], ◌∷◌, get_or, Option, Some, None, IfSome, inl, inr, ap, refl}
use Rattle.chess.proofs.Common.{sym, subst, ◌∙◌, arith, eqb-true, eq-eqb, cases_eq, cases_lt}
use Rattle.chess.proofs.Common.{bit_at, bit_at-lt}
use Rattle.chess.proofs.Common.{same_from_bits_below, Place, IsOnBoard, square_at, index_of}
use Rattle.chess.proofs.Common.{Placement, man_at, row_of, man_of_row, State, IsSound, pawn_of}
use Rattle.chess.proofs.Common.{FitsEnPassant, has_bit, index_of-square_at, square_at-index_of}
use Rattle.chess.proofs.Common.{on_board-square_at, same_men, on_board_or_not}
use Rattle.chess.proofs.Common.{Man, Side, White, Black, CastlingRights, Move}
use Rattle.std.proofs.lemmas.List.{ext_get_or}
use Rattle.chess.specs.Public.Moves.{TakesEnPassant}
use Rattle.chess.specs.Public.Keys.{IsSamePosition, IsUsed, IsBitboardOfMan, IsKey}
use Rattle.chess.specs.Public.Keys.{number_of_turn, number_of_right, number_of_en_passant}
use Rattle.chess.specs.Public.Keys.{number_of_rest}
use Rattle.chess.specs.Public.Laws.{KeysTellPositions, SamePositionsHaveSamePawns}
use Rattle.chess.proofs.BitFacts.{row_of-man_of_row}
use Rattle.chess.proofs.EnPassantFacts.{captures, takes_alike}

-- ---- from keys to positions: the men

-- two options that hold the same values are one
same_option : (o p : Option Man) → ((man : Man) → o ≡ Some man → p ≡ Some man)
    → ((man : Man) → p ≡ Some man → o ≡ Some man) → o ≡ p
same_option None None there back = refl
same_option None (Some man) there back = back man refl
same_option (Some man) p there back = sym (there man refl)

-- a square off the board holds no man
off_board : (P : State) → IsSound P → (s : Place) → (IsOnBoard s → ⊥) → (man : Man)
    → man_at P.men s ≡ Some man → ⊥
off_board P sound s off man here = off (sound.on_board s man here)

-- the men of the first are men of the second
men_carry : (P Q : State) (x y : List ℕ) → IsKey P x → IsKey Q y → x ≡ y → (s : Place)
    → IsOnBoard s → (man : Man) → man_at P.men s ≡ Some man → man_at Q.men s ≡ Some man
men_carry P Q x y keyed keyed' same s on man here =
    let bit = (keyed.men man s on).1 here in
    (keyed'.men man s on).0
    (subst (λ (z : List ℕ). has_bit (get_or z (row_of man) 0) (index_of s) ≡ true) same bit)

same_placement : (P Q : State) (x y : List ℕ) → IsSound P → IsSound Q → IsKey P x → IsKey Q y
    → x ≡ y → P.men ≡ Q.men
same_placement P Q x y sound sound' keyed keyed' same =
    same_men P.men Q.men (λ s. elim (on_board_or_not s) [
      | inl on ↦ same_option _ _ (men_carry P Q x y keyed keyed' same s on)
          (men_carry Q P y x keyed' keyed (sym same) s on)
      | inr off ↦ same_option _ _ (λ man here. absurd (off_board P sound s off man here))
          (λ man here. absurd (off_board Q sound' s off man here))
    ])

-- ---- the rest: its number is taken apart bit by bit

same_turn : (a b : Side) (x y : ℕ) → number_of_turn a + 2 * x ≡ number_of_turn b + 2 * y
    → (a ≡ b) × (x ≡ y)
same_turn White White x y e = (refl, omega arith)
same_turn White Black x y e = absurd (omega arith)
same_turn Black White x y e = absurd (omega arith)
same_turn Black Black x y e = (refl, omega arith)

same_right : (a b : Bool) (x y : ℕ) → number_of_right a + 2 * x ≡ number_of_right b + 2 * y
    → (a ≡ b) × (x ≡ y)
same_right false false x y e = (refl, omega arith)
same_right false true x y e = absurd (omega arith)
same_right true false x y e = absurd (omega arith)
same_right true true x y e = (refl, omega arith)

same_rights : (r t : CastlingRights) → r.white_king_side ≡ t.white_king_side
    → r.white_queen_side ≡ t.white_queen_side → r.black_king_side ≡ t.black_king_side
    → r.black_queen_side ≡ t.black_queen_side → r ≡ t
same_rights r t a b c d = λ i. record {
  white_king_side = a i;
  white_queen_side = b i;
  black_king_side = c i;
  black_queen_side = d i;
}

-- an en passant square is on the board
abbrev IsThereOnBoard : Option Place → Type 0
IsThereOnBoard None = Unit {0}
IsThereOnBoard (Some s) = IsOnBoard s

same_en_passant : (o p : Option Place) → IsThereOnBoard o → IsThereOnBoard p
    → 2 * number_of_en_passant o ≡ 2 * number_of_en_passant p → o ≡ p
same_en_passant None None on on' e = refl
same_en_passant None (Some t) on on' e = absurd (omega arith)
same_en_passant (Some s) None on on' e = absurd (omega arith)
same_en_passant (Some s) (Some t) on on' e =
    let same : index_of s ≡ index_of t = omega arith in
    ap Some (sym (square_at-index_of s on) ∙ ap square_at same ∙ square_at-index_of t on')

used_on : (P : State) (o : Option Place) → IsSound P → IsUsed P o → IsThereOnBoard o
used_on P None sound used = tt
used_on P (Some s) sound used =
    (subst (λ o. IfSome o (FitsEnPassant P.men P.turn)) used.0 sound.en_passant).on_board

-- where the same square counts the same moves take a pawn en passant
same_takes : (P Q : State) (o : Option Place) → P.men ≡ Q.men → P.turn ≡ Q.turn
    → P.rights ≡ Q.rights → IsUsed P o → IsUsed Q o → (m : Move) → TakesEnPassant P m
    → TakesEnPassant Q m
same_takes P Q None men turn rights used used' m takes = absurd (used (m, takes))
same_takes P Q (Some s) men turn rights used used' m takes =
    takes_alike P Q men turn rights (used.0 ∙ sym used'.0) m takes

same_of_keys : (P Q : State) (x y : List ℕ) → IsSound P → IsSound Q → IsKey P x → IsKey Q y
    → x ≡ y → IsSamePosition P Q
same_of_keys P Q x y sound sound' keyed keyed' same =
    let o = keyed.rest.0 in
    let p = keyed'.rest.0 in
    let used = keyed.rest.1 in
    let used' = keyed'.rest.1 in
    let rest =
    sym keyed.rest.2 ∙ ap (λ (z : List ℕ). get_or z 12 0) same ∙ keyed'.rest.2 in
    let turn = same_turn _ _ _ _ rest in
    let first = same_right _ _ _ _ turn.1 in
    let second = same_right _ _ _ _ first.1 in
    let third = same_right _ _ _ _ second.1 in
    let fourth = same_right _ _ _ _ third.1 in
    let men = same_placement P Q x y sound sound' keyed keyed' same in
    let rights = same_rights _ _ first.0 second.0 third.0 fourth.0 in
    let square =
    same_en_passant o p (used_on P o sound used) (used_on Q p sound' used')
    (ap (λ n. 2 * n) fourth.1) in
    record {
      men = men;
      turn = turn.0;
      rights = rights;
      en_passant = λ m. (
        same_takes P Q p men turn.0 rights (subst (IsUsed P) square used) used' m,
        same_takes Q P p (sym men) (sym turn.0) (sym rights) used' (subst (IsUsed P) square used)
            m,
      );
    }

-- ---- from positions to keys

same_bit : (a b i : ℕ) → ((has_bit a i ≡ true) ↔ (has_bit b i ≡ true)) → bit_at a i ≡ bit_at b i
same_bit a b i both =
    let low = bit_at-lt a i in
    let low' = bit_at-lt b i in
    elim (cases_eq (bit_at a i) 1) [
      | inl one ↦ one ∙ sym (eqb-true _ _ (both.0 (eq-eqb _ _ one)))
      | inr other ↦ elim (cases_eq (bit_at b i) 1) [
        | inl one ↦ absurd (other (eqb-true _ _ (both.1 (eq-eqb _ _ one))))
        | inr other' ↦ omega arith
      ]
    ]

-- a man has one bitboard
one_bitboard : (p : Placement) (man : Man) (a b : ℕ) → a < 2 ^ 64 → b < 2 ^ 64
    → IsBitboardOfMan p man a → IsBitboardOfMan p man b → a ≡ b
one_bitboard p man a b fits fits' men men' = same_from_bits_below 64 a b fits fits' (λ i less.
    let on = on_board-square_at i less in
    subst (λ (k : ℕ). bit_at a k ≡ bit_at b k) (index_of-square_at i less)
    (same_bit a b (index_of (square_at i)) (
      (λ bit. (men' (square_at i) on).1 ((men (square_at i) on).0 bit)),
      (λ bit. (men (square_at i) on).1 ((men' (square_at i) on).0 bit)),
    )))

same_row : (P Q : State) (x y : List ℕ) → IsKey P x → IsKey Q y → P.men ≡ Q.men → (i : ℕ)
    → i < 12 → get_or x i 0 ≡ get_or y i 0
same_row P Q x y keyed keyed' same i less =
    let man = man_of_row i in
    subst (λ (k : ℕ). get_or x k 0 ≡ get_or y k 0) (row_of-man_of_row i less)
    (one_bitboard Q.men man _ _ (keyed.fit _) (keyed'.fit _)
    (subst (λ (p : Placement). IsBitboardOfMan p man (get_or x (row_of man) 0)) same
    (keyed.men man)) (keyed'.men man))

-- where the same moves take a pawn en passant the same square counts
same_used : (P Q : State) (o p : Option Place) → IsSamePosition P Q → IsUsed P o → IsUsed Q p
    → o ≡ p
same_used P Q None None same used used' = refl
same_used P Q None (Some t) same used used' =
    absurd (used (used'.1.0, (same.en_passant used'.1.0).1 used'.1.1))
same_used P Q (Some s) None same used used' =
    absurd (used' (used.1.0, (same.en_passant used.1.0).0 used.1.1))
same_used P Q (Some s) (Some t) same used used' =
    let m = used.1.0 in
    sym used.0 ∙ (captures P m used.1.1).0
    ∙ sym (captures Q m ((same.en_passant m).0 used.1.1)).0 ∙ used'.0

same_rest : (P Q : State) (o p : Option Place) → IsSamePosition P Q → IsUsed P o → IsUsed Q p
    → number_of_rest P.turn P.rights o ≡ number_of_rest Q.turn Q.rights p
same_rest P Q o p same used used' =
    λ i. number_of_rest (same.turn i) (same.rights i) (same_used P Q o p same used used' i)

keys_of_same : (P Q : State) (x y : List ℕ) → IsKey P x → IsKey Q y → IsSamePosition P Q → x ≡ y
keys_of_same P Q x y keyed keyed' same =
    ext_get_or 0 x y (keyed.size ∙ sym keyed'.size) (λ i less. elim (cases_lt i 12) [
      | inl row ↦ same_row P Q x y keyed keyed' same.men i row
      | inr last ↦
          let size = keyed.size in
          let twelve : i ≡ 12 = omega arith in
          ap (λ k. get_or x k 0) twelve ∙ keyed.rest.2
          ∙ same_rest P Q keyed.rest.0 keyed'.rest.0 same keyed.rest.1 keyed'.rest.1
          ∙ sym (ap (λ k. get_or y k 0) twelve ∙ keyed'.rest.2)
    ])

pub keys_tell_positions : KeysTellPositions
keys_tell_positions P Q x y sound sound' keyed keyed' =
    (same_of_keys P Q x y sound sound' keyed keyed', keys_of_same P Q x y keyed keyed')

-- ---- the pawns

same_pawns_of : (P Q : State) (side : Side) (a b : ℕ) → P.men ≡ Q.men → a < 2 ^ 64 → b < 2 ^ 64
    → IsBitboardOfMan P.men (pawn_of side) a → IsBitboardOfMan Q.men (pawn_of side) b → a ≡ b
same_pawns_of P Q side a b same fits fits' men men' =
    one_bitboard Q.men (pawn_of side) a b fits fits'
    (subst (λ (p : Placement). IsBitboardOfMan p (pawn_of side) a) same men) men'

pub same_pawns : SamePositionsHaveSamePawns
same_pawns P Q x y first second same =
    let white = same_pawns_of P Q White first.white second.white same.men first.white_fit
    second.white_fit first.white_men second.white_men in
    let black = same_pawns_of P Q Black first.black second.black same.men first.black_fit
    second.black_fit first.black_men second.black_men in
    first.pair ∙ (λ i. white i ∷ black i ∷ []) ∙ sym second.pair
