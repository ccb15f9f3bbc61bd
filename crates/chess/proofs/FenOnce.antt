-- A text spells one position at most.
use Rattle.std.specs.Prelude.{codes}
use Rattle.chess.proofs.Common.{◌≡◌, ◌⊎◌, ◌↔◌, ◌≤◌, ◌+◌, ◌-◌, ℕ, zero, suc, Bool, true, false, List}
use Rattle.chess.proofs.Common.{[], ◌∷◌, ◌++◌, length, Option, Some, None, inl, inr, sym, ap, refl}
use Rattle.chess.proofs.Common.{subst, ◌∙◌, arith, replicate, cases_lt, Place, IsOnBoard, Placement}
use Rattle.chess.proofs.Common.{man_at, same_men, man_letter, square_text, file_letter, rank_digit}
use Rattle.chess.proofs.Common.{State, has_right, FitsEnPassant, IsSquares, SpellsRank, row}
use Rattle.chess.proofs.Common.{SpellRanks, SpellsMen, parted_at, side_text, right_letter, has_byte}
use Rattle.chess.proofs.Common.{GivesEnPassant, IsCount, GiveCounts, AreAtHome, SpellsPosition}
use Rattle.chess.proofs.Common.{ReadsFen, HasWrongKings, HasWrongPawns, HasWrongCheck, Syntax}
use Rattle.chess.proofs.Common.{Kings, Pawns, InCheck, letter, step, Man, Side, White, Black, Wing}
use Rattle.chess.proofs.Common.{KingSide, QueenSide, CastlingRights}
use Rattle.chess.specs.Public.Fen.{IsRefused}
use Rattle.chess.specs.declared.fen.FenError.{FenError}
use Rattle.chess.proofs.RankFacts.{step_only, letter_only}

-- ---- ranks and men

one_squares : (b : ℕ) (own other : List (Option Man)) → IsSquares b own → IsSquares b other
    → own ≡ other
one_squares _ _ other (letter man) spelled =
    sym (letter_only (man_letter man) other man spelled refl)
one_squares _ _ other (step n low high) spelled =
    let same : 48 + n - 48 ≡ n = omega arith in
    sym (step_only (48 + n) other spelled (omega arith) ∙ ap (λ m. replicate m None) same)

one_rank : (x : List ℕ) (squares others : List (Option Man)) → SpellsRank x squares
    → SpellsRank x others → squares ≡ others
one_rank [] squares others s t = s ∙ sym t
one_rank (b ∷ x) squares others (own, more, joined, spelled, rest) (
  own2,
  more2,
  joined2,
  spelled2,
  rest2,
) =
    joined ∙ (λ i. one_squares b own own2 spelled spelled2 i ++ one_rank x more more2 rest rest2 i)
    ∙ sym joined2

-- the square of a row on that file
square_in : List (Option Man) → ℕ → Option Man
square_in [] file = None
square_in (square ∷ more) zero = None
square_in (square ∷ more) (suc zero) = square
square_in (square ∷ more) (suc (suc file)) = square_in more (suc file)

in_row : (p : Placement) (r file : ℕ) → 1 ≤ file → file ≤ 8
    → square_in (row p r) file ≡ man_at p (record { file = file; rank = r })
unfolding square_in
in_row p r zero low high = absurd (omega arith)
in_row p r (suc zero) low high = refl
in_row p r (suc (suc zero)) low high = refl
in_row p r (suc (suc (suc zero))) low high = refl
in_row p r (suc (suc (suc (suc zero)))) low high = refl
in_row p r (suc (suc (suc (suc (suc zero))))) low high = refl
in_row p r (suc (suc (suc (suc (suc (suc zero)))))) low high = refl
in_row p r (suc (suc (suc (suc (suc (suc (suc zero))))))) low high = refl
in_row p r (suc (suc (suc (suc (suc (suc (suc (suc zero)))))))) low high = refl
in_row p r (suc (suc (suc (suc (suc (suc (suc (suc (suc n))))))))) low high = absurd (omega arith)

cases_last : (r n : ℕ) → r ≤ n → (r ≡ n) ⊎ (r ≤ n - 1)
cases_last r n high =
    elim (cases_lt r n) [ inl less ↦ inr (omega arith) | inr more ↦ inl (omega arith) ]

same_rows : (p q : Placement) (n : ℕ) (x : List (List ℕ)) → SpellRanks p n x → SpellRanks q n x
    → (r : ℕ) → 1 ≤ r → r ≤ n → row p r ≡ row q r
same_rows p q n [] s t r low high = absurd (omega arith)
same_rows p q n (x ∷ more) s t r low high = elim (cases_last r n high) [
  | inl e ↦ subst (λ k. row p k ≡ row q k) (sym e) (one_rank x (row p n) (row q n) s.1 t.1)
  | inr less ↦ same_rows p q (n - 1) more s.2 t.2 r low less
]

same_on_board : (p q : Placement) (x : List ℕ) → SpellsMen x p → SpellsMen x q → (s : Place)
    → IsOnBoard s → man_at p s ≡ man_at q s
same_on_board p q x spells others s on =
    sym (in_row p s.rank s.file on.file_low on.file_high)
    ∙ ap (λ r. square_in r s.file)
    (same_rows p q 8 (parted_at 47 x) spells.ranks others.ranks s.rank on.rank_low on.rank_high)
    ∙ in_row q s.rank s.file on.file_low on.file_high

same_square_men : (p q : Placement) (s : Place) (a b : Option Man) → man_at p s ≡ a → man_at q s ≡ b
    → (IsOnBoard s → a ≡ b)
    → ((man : Man) → a ≡ Some man → IsOnBoard s) → ((man : Man) → b ≡ Some man → IsOnBoard s)
    → a ≡ b
same_square_men p q s None None here there same on others = refl
same_square_men p q s None (Some man) here there same on others = same (others man refl)
same_square_men p q s (Some man) b here there same on others = same (on man refl)

pub one_men : (p q : Placement) (x : List ℕ) → SpellsMen x p → SpellsMen x q → p ≡ q
one_men p q x spells others =
    same_men p q (λ s.
    same_square_men p q s (man_at p s) (man_at q s) refl refl
    (same_on_board p q x spells others s)
    (spells.on_board s) (others.on_board s))

-- ---- the other fields

first_byte : (a b : ℕ) (x y : List ℕ) → a ∷ x ≡ b ∷ y → a ≡ b
first_byte a b x y e = cc

one_side : (a b : Side) → side_text a ≡ side_text b → a ≡ b
one_side White White e = refl
one_side White Black e = let clash : ◌≡◌ {A = ℕ} 119 98 = first_byte _ _ _ _ e in
    absurd (omega arith)
one_side Black White e = let clash : ◌≡◌ {A = ℕ} 98 119 = first_byte _ _ _ _ e in
    absurd (omega arith)
one_side Black Black e = refl

same_tests : (a b : Bool) (fact other : Type 0) → (a ≡ true) ↔ fact → (b ≡ true) ↔ other
    → (fact → other) → (other → fact) → a ≡ b
same_tests true true fact other by others there back = refl
same_tests false false fact other by others there back = refl
same_tests true false fact other by others there back = sym (others.1 (there (by.0 refl)))
same_tests false true fact other by others there back = by.1 (back (others.0 refl))

one_rights : (a b : CastlingRights)
    → ((side : Side) (wing : Wing) → has_right a side wing ≡ has_right b side wing) → a ≡ b
one_rights a b each = λ i. record {
  white_king_side = each White KingSide i;
  white_queen_side = each White QueenSide i;
  black_king_side = each Black KingSide i;
  black_queen_side = each Black QueenSide i;
}

dash_length : (s : Place) → codes "-" ≡ square_text s → ⊥
dash_length s e = let clash : ◌≡◌ {A = ℕ} 1 2 = ap length e in absurd (omega arith)

one_square : (s t : Place) → square_text s ≡ square_text t → s ≡ t
one_square s t e =
    let file : file_letter s.file ≡ file_letter t.file = cc in
    let rank : rank_digit s.rank ≡ rank_digit t.rank = cc in
    let same_file : s.file ≡ t.file = omega arith in
    let same_rank : s.rank ≡ t.rank = omega arith in
    λ i. record { file = same_file i; rank = same_rank i }

one_given : (x : List ℕ) (a b : Option Place) → GivesEnPassant x a → GivesEnPassant x b → a ≡ b
one_given x None None s t = refl
one_given x None (Some b) s t = absurd (dash_length b (sym s ∙ t.1))
one_given x (Some a) None s t = absurd (dash_length a (sym t ∙ s.1))
one_given x (Some a) (Some b) s t = ap (λ (u : Place). Some u) (one_square a b (sym s.1 ∙ t.1))

one_option : (a b : Option Place) → ((s : Place) → a ≡ Some s → b ≡ Some s)
    → ((s : Place) → b ≡ Some s → a ≡ Some s) → a ≡ b
one_option None None there back = refl
one_option None (Some s) there back = back s refl
one_option (Some s) b there back = sym (there s refl)

one_count : (x : List ℕ) (m n : ℕ) → IsCount x m → IsCount x n → m ≡ n
one_count x m n s t = s.value ∙ sym t.value

one_counts : (x : List (List ℕ)) (clock number clock2 number2 : ℕ) → GiveCounts x clock number
    → GiveCounts x clock2 number2 → (clock ≡ clock2) × (number ≡ number2)
one_counts [] clock number clock2 number2 s t = (s.0 ∙ sym t.0, s.1 ∙ sym t.1)
one_counts (x ∷ []) clock number clock2 number2 s t =
    (one_count x clock clock2 s.0 t.0, s.1 ∙ sym t.1)
one_counts (x ∷ y ∷ []) clock number clock2 number2 s t =
    (one_count x clock clock2 s.0 t.0, one_count y number number2 s.1 t.1)
one_counts (x ∷ y ∷ z ∷ more) clock number clock2 number2 s t = absurd s

-- the fields of the two are the same
record AreFields (a b : List ℕ) (c d : List ℕ) (e f : List ℕ) (g h : List ℕ)
    (k l : List (List ℕ)) : Type 0 where
  first : a ≡ b
  second : c ≡ d
  third : e ≡ f
  fourth : g ≡ h
  more : k ≡ l

same_fields : (a b c d e f g h : List ℕ) (k l : List (List ℕ))
    → a ∷ c ∷ e ∷ g ∷ k ≡ b ∷ d ∷ f ∷ h ∷ l → AreFields a b c d e f g h k l
same_fields a b c d e f g h k l same =
    record { first = cc; second = cc; third = cc; fourth = cc; more = cc }

pub one_spelling : (x : List ℕ) (P Q : State) → SpellsPosition x P → SpellsPosition x Q → P ≡ Q
one_spelling x P Q s t =
    let fields = same_fields _ _ _ _ _ _ _ _ _ _ (sym s.fields ∙ t.fields) in
    let men : P.men ≡ Q.men =
    one_men P.men Q.men s.men_field s.men
    (subst (λ f. SpellsMen f Q.men) (sym fields.first) t.men) in
    let turn : P.turn ≡ Q.turn = one_side P.turn Q.turn (sym s.turn ∙ fields.second ∙ t.turn) in
    let given_rights : (side : Side) (wing : Wing)
    → has_right s.given_rights side wing ≡ has_right t.given_rights side wing =
    λ side wing. s.rights_given.each side wing ∙ ap (has_byte (right_letter side wing)) fields.third
    ∙ sym (t.rights_given.each side wing) in
    let rights =
    one_rights P.rights Q.rights (λ side wing.
    same_tests _ _ _ _ (s.rights side wing) (t.rights side wing)
    (λ held. (sym (given_rights side wing) ∙ held.0, subst (λ p. AreAtHome p side wing) men held.1))
    (λ held. (
      given_rights side wing ∙ held.0,
      subst (λ p. AreAtHome p side wing) (sym men) held.1,
    ))) in
    let given =
    one_given s.en_passant_field s.given_en_passant t.given_en_passant s.en_passant_given
    (subst (λ f. GivesEnPassant f t.given_en_passant) (sym fields.fourth) t.en_passant_given) in
    let fits : (u : Place) → FitsEnPassant P.men P.turn u ≡ FitsEnPassant Q.men Q.turn u =
    λ u i. FitsEnPassant (men i) (turn i) u in
    let en_passant = one_option P.en_passant Q.en_passant
    (λ u here. let held = (s.en_passant u).0 here in
    (t.en_passant u).1 (sym given ∙ held.0, subst (λ (A : Type 0). A) (fits u) held.1))
    (λ u here. let held = (t.en_passant u).0 here in
    (s.en_passant u).1 (given ∙ held.0, subst (λ (A : Type 0). A) (sym (fits u)) held.1)) in
    let counts =
    one_counts s.count_fields P.halfmove_clock P.fullmove_number Q.halfmove_clock
    Q.fullmove_number s.counts
    (subst (λ f. GiveCounts f Q.halfmove_clock Q.fullmove_number) (sym fields.more) t.counts) in
    λ i. record {
      men = men i;
      turn = turn i;
      rights = rights i;
      en_passant = en_passant i;
      halfmove_clock = counts.0 i;
      fullmove_number = counts.1 i;
    }

-- ---- and it is read, or refused for one reason

pub read_or_refused : (x : List ℕ) (P : State) (error : FenError) → ReadsFen x P → IsRefused x error
    → ⊥
read_or_refused x P Syntax reads refused = refused P reads.spells
read_or_refused x P Kings reads (Q, spells, wrong) =
    reads.kings (subst HasWrongKings (one_spelling x Q P spells reads.spells) wrong)
read_or_refused x P Pawns reads (Q, spells, right, wrong) =
    reads.pawns (subst HasWrongPawns (one_spelling x Q P spells reads.spells) wrong)
read_or_refused x P InCheck reads (Q, spells, right, fine, wrong) =
    reads.quiet (subst HasWrongCheck (one_spelling x Q P spells reads.spells) wrong)

pub one_refusal : (x : List ℕ) (error other : FenError) → IsRefused x error → IsRefused x other
    → error ≡ other
one_refusal x Syntax Kings a b = absurd (a b.0 b.1)
one_refusal x Syntax Pawns a b = absurd (a b.0 b.1)
one_refusal x Syntax InCheck a b = absurd (a b.0 b.1)
one_refusal x Kings Syntax a b = absurd (b a.0 a.1)
one_refusal x Kings Pawns a b =
    absurd (b.2 (subst HasWrongKings (one_spelling x a.0 b.0 a.1 b.1) a.2))
one_refusal x Kings InCheck a b =
    absurd (b.2 (subst HasWrongKings (one_spelling x a.0 b.0 a.1 b.1) a.2))
one_refusal x Pawns Syntax a b = absurd (b a.0 a.1)
one_refusal x Pawns Kings a b =
    absurd (a.2 (subst HasWrongKings (one_spelling x b.0 a.0 b.1 a.1) b.2))
one_refusal x Pawns InCheck a b =
    absurd (b.3 (subst HasWrongPawns (one_spelling x a.0 b.0 a.1 b.1) a.3))
one_refusal x InCheck Syntax a b = absurd (b a.0 a.1)
one_refusal x InCheck Kings a b =
    absurd (a.2 (subst HasWrongKings (one_spelling x b.0 a.0 b.1 a.1) b.2))
one_refusal x InCheck Pawns a b =
    absurd (a.3 (subst HasWrongPawns (one_spelling x b.0 a.0 b.1 a.1) b.3))
one_refusal x _ _ a b = refl
