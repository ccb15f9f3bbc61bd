-- Men with their sides exchanged, and with their files turned: who stands on which square.
use Rattle.std.specs.Prelude.{map, reverse}
use Rattle.std.proofs.lemmas.List.Folds.{fold-map}
use Rattle.pgn_criteria.proofs.Common.{◌≡◌, ◌↔◌, ◌≤◌, ◌+◌, ◌-◌, ℕ, suc, List, [], ◌∷◌, Option, Some}
use Rattle.pgn_criteria.proofs.Common.{None, refl, sym, ap, ◌∙◌, subst, inl, inr, arith, option_map}
use Rattle.pgn_criteria.proofs.Common.{count_by, if◌then◌else◌, sum_by-append, Place, IsOnBoard}
use Rattle.pgn_criteria.proofs.Common.{square_at, square_at-index_of, Placement, man_at, AreOnBoard}
use Rattle.pgn_criteria.proofs.Common.{row, Man, White, Black, opposite-opposite, limit_of, is_man}
use Rattle.pgn_criteria.proofs.Common.{count_of, FitsMaterial, other_man, across, beside, Limits}
use Rattle.chess.specs.Shared.CellFacts.{man_at-men_of, on_board-men_of, same_men, on_board_or_not}
use Rattle.pgn_criteria.specs.Public.Materials.{Allows, squares_to}
use Rattle.pgn_criteria.specs.Public.Mirrors.{mirrored_men, flipped_men}
use Rattle.pgn_criteria.proofs.CountFacts.{is_man-same, is_man-then, true_both}

-- the man of the other side, or none
abbrev pub exchanged : Option Man → Option Man
exchanged = option_map other_man

-- all is undone by itself
pub man_twice : (man : Man) → other_man (other_man man) ≡ man
man_twice man = λ i. record { side = opposite-opposite man.side i; kind = man.kind }

pub square_twice : (square : Option Man) → exchanged (exchanged square) ≡ square
square_twice None = refl
square_twice (Some man) = ap Some (man_twice man)

pub squares_twice : (squares : List (Option Man)) → map exchanged (map exchanged squares) ≡ squares
squares_twice [] = refl
squares_twice (square ∷ more) = λ i. square_twice square i ∷ squares_twice more i

pub across_twice : (s : Place) → IsOnBoard s → across (across s) ≡ s
across_twice s on = let low = on.rank_low in let high = on.rank_high in
    let rank : 9 - (9 - s.rank) ≡ s.rank = omega arith in
    λ i. record { file = s.file; rank = rank i }

pub beside_twice : (s : Place) → IsOnBoard s → beside (beside s) ≡ s
beside_twice s on = let low = on.file_low in let high = on.file_high in
    let file : 9 - (9 - s.file) ≡ s.file = omega arith in
    λ i. record { file = file i; rank = s.rank }

across_on : (s : Place) → IsOnBoard s → IsOnBoard (across s)
across_on s on =
    let low = on.rank_low in
    let high = on.rank_high in
    record {
      file_low = on.file_low;
      file_high = on.file_high;
      rank_low = omega arith;
      rank_high = omega arith;
    }

pub beside_on : (s : Place) → IsOnBoard s → IsOnBoard (beside s)
beside_on s on =
    let low = on.file_low in
    let high = on.file_high in
    record {
      file_low = omega arith;
      file_high = omega arith;
      rank_low = on.rank_low;
      rank_high = on.rank_high;
    }

-- who stands on a square
pub mirrored_at : (men : Placement) (s : Place) → IsOnBoard s
    → man_at (mirrored_men men) s ≡ exchanged (man_at men (across s))
unfolding mirrored_men
mirrored_at men s on =
    man_at-men_of (λ n. exchanged (man_at men (across (square_at n)))) s on
    ∙ ap (λ (t : Place). exchanged (man_at men (across t))) (square_at-index_of s on)

pub flipped_at : (men : Placement) (s : Place) → IsOnBoard s
    → man_at (flipped_men men) s ≡ man_at men (beside s)
unfolding flipped_men
flipped_at men s on = man_at-men_of (λ n. man_at men (beside (square_at n))) s on
    ∙ ap (λ (t : Place). man_at men (beside t)) (square_at-index_of s on)

pub mirrored_on : (men : Placement) → AreOnBoard (mirrored_men men)
unfolding mirrored_men
mirrored_on men s man here =
    on_board-men_of (λ n. exchanged (man_at men (across (square_at n)))) s man here

pub flipped_on : (men : Placement) → AreOnBoard (flipped_men men)
unfolding flipped_men
flipped_on men s man here = on_board-men_of (λ n. man_at men (beside (square_at n))) s man here

-- the squares of a rank
on_rank : (file rank : ℕ) → 1 ≤ file → file ≤ 8 → 1 ≤ rank → rank ≤ 8
    → IsOnBoard (record { file = file; rank = rank })
on_rank file rank a b c d = record { file_low = a; file_high = b; rank_low = c; rank_high = d }

pub row_mirrored : (men : Placement) (r : ℕ) → 1 ≤ r → r ≤ 8
    → row (mirrored_men men) r ≡ map exchanged (row men (9 - r))
row_mirrored men r low high = λ i. at 1 (omega arith) (omega arith) i
    ∷ at 2 (omega arith) (omega arith) i ∷ at 3 (omega arith) (omega arith) i
    ∷ at 4 (omega arith) (omega arith) i ∷ at 5 (omega arith) (omega arith) i
    ∷ at 6 (omega arith) (omega arith) i ∷ at 7 (omega arith) (omega arith) i
    ∷ at 8 (omega arith) (omega arith) i ∷ []
  where
    at : (file : ℕ) → 1 ≤ file → file ≤ 8
        → man_at (mirrored_men men) (record { file = file; rank = r })
        ≡ exchanged (man_at men (record { file = file; rank = 9 - r }))
    at file a b = mirrored_at men (record { file = file; rank = r }) (on_rank file r a b low high)

pub row_flipped : (men : Placement) (r : ℕ) → 1 ≤ r → r ≤ 8
    → row (flipped_men men) r ≡ reverse (row men r)
row_flipped men r low high = λ i. at 1 (omega arith) (omega arith) i
    ∷ at 2 (omega arith) (omega arith) i ∷ at 3 (omega arith) (omega arith) i
    ∷ at 4 (omega arith) (omega arith) i ∷ at 5 (omega arith) (omega arith) i
    ∷ at 6 (omega arith) (omega arith) i ∷ at 7 (omega arith) (omega arith) i
    ∷ at 8 (omega arith) (omega arith) i ∷ []
  where
    at : (file : ℕ) → 1 ≤ file → file ≤ 8
        → man_at (flipped_men men) (record { file = file; rank = r })
        ≡ man_at men (record { file = 9 - file; rank = r })
    at file a b = flipped_at men (record { file = file; rank = r }) (on_rank file r a b low high)

-- the mirror of the mirror, and the two ways of turning in either order
pub none_there : (square : Option Man) → ((man : Man) → square ≡ Some man → ⊥) → square ≡ None
none_there None none = refl
none_there (Some man) none = absurd (none man refl)

same_on_board : (p q : Placement) → AreOnBoard p → AreOnBoard q
    → ((s : Place) → IsOnBoard s → man_at p s ≡ man_at q s) → p ≡ q
same_on_board p q on_p on_q same = same_men p q (λ s. elim (on_board_or_not s) [
  | inl on ↦ same s on
  | inr off ↦
      none_there (man_at p s) (λ man here. off (on_p s man here))
      ∙ sym (none_there (man_at q s) (λ man here. off (on_q s man here)))
])

pub mirrored_twice : (men : Placement) → AreOnBoard men → mirrored_men (mirrored_men men) ≡ men
mirrored_twice men on =
    same_on_board (mirrored_men (mirrored_men men)) men (mirrored_on (mirrored_men men)) on
    (λ s on_s.
    mirrored_at (mirrored_men men) s on_s
    ∙ ap exchanged (mirrored_at men (across s) (across_on s on_s))
    ∙ square_twice (man_at men (across (across s))) ∙ ap (man_at men) (across_twice s on_s))

pub flipped_twice : (men : Placement) → AreOnBoard men → flipped_men (flipped_men men) ≡ men
flipped_twice men on =
    same_on_board (flipped_men (flipped_men men)) men (flipped_on (flipped_men men)) on (λ s on_s.
    flipped_at (flipped_men men) s on_s ∙ flipped_at men (beside s) (beside_on s on_s)
    ∙ ap (man_at men) (beside_twice s on_s))

pub flipped_mirrored : (men : Placement)
    → flipped_men (mirrored_men men) ≡ mirrored_men (flipped_men men)
flipped_mirrored men =
    same_on_board (flipped_men (mirrored_men men)) (mirrored_men (flipped_men men))
    (flipped_on (mirrored_men men)) (mirrored_on (flipped_men men)) (λ s on_s.
    flipped_at (mirrored_men men) s on_s ∙ mirrored_at men (beside s) (beside_on s on_s)
    ∙ sym (mirrored_at (flipped_men men) s on_s
    ∙ ap exchanged (flipped_at men (across s) (across_on s on_s))))

-- how many men there are
is_other : (man : Man) (square : Option Man)
    → is_man man (exchanged square) ≡ is_man (other_man man) square
is_other man square = true_both _ _
    (λ t. is_man-same (other_man man) square (sym (square_twice square)
    ∙ ap exchanged (is_man-then man (exchanged square) t)))
    (λ t. is_man-same man (exchanged square) (ap exchanged (is_man-then (other_man man) square t)
    ∙ ap Some (man_twice man)))

count_exchanged : (man : Man) (squares : List (Option Man))
    → count_by (is_man man) (map exchanged squares) ≡ count_by (is_man (other_man man)) squares
count_exchanged man squares =
    fold-map (λ a x. a + (if is_man man x then 1 else 0)) exchanged 0 squares
    ∙ (λ i. count_by (λ square. is_other man square i) squares)

more_squares : (men : Placement) (man : Man) (n : ℕ)
    → count_by (is_man man) (squares_to men (suc n))
    ≡ count_by (is_man man) (squares_to men n) + count_by (is_man man) (row men (suc n))
unfolding squares_to
more_squares men man n =
    sum_by-append (λ x. if is_man man x then 1 else 0) (squares_to men n) (row men (suc n))

no_squares : (men : Placement) (man : Man) → count_by (is_man man) (squares_to men 0) ≡ 0
unfolding squares_to
no_squares men man = refl

eight_rows : (men : Placement) (man : Man) → count_of men man
    ≡ (((((((count_by (is_man man) (row men 1) + count_by (is_man man) (row men 2))
    + count_by (is_man man) (row men 3))
    + count_by (is_man man) (row men 4)) + count_by (is_man man) (row men 5))
    + count_by (is_man man) (row men 6)) + count_by (is_man man) (row men 7))
    + count_by (is_man man) (row men 8))
eight_rows men man =
    let a = more_squares men man 0 in
    let b = more_squares men man 1 in
    let c = more_squares men man 2 in
    let d = more_squares men man 3 in
    let e = more_squares men man 4 in
    let f = more_squares men man 5 in
    let g = more_squares men man 6 in
    let h = more_squares men man 7 in
    let none = no_squares men man in
    omega arith

row_count : (men : Placement) (man : Man) (r : ℕ) → 1 ≤ r → r ≤ 8
    → count_by (is_man man) (row (mirrored_men men) r)
    ≡ count_by (is_man (other_man man)) (row men (9 - r))
row_count men man r low high = ap (count_by (is_man man)) (row_mirrored men r low high)
    ∙ count_exchanged man (row men (9 - r))

pub count_mirrored : (men : Placement) (man : Man)
    → count_of (mirrored_men men) man ≡ count_of men (other_man man)
count_mirrored men man =
    let all = eight_rows (mirrored_men men) man in
    let own = eight_rows men (other_man man) in
    let a = row_count men man 1 (omega arith) (omega arith) in
    let b = row_count men man 2 (omega arith) (omega arith) in
    let c = row_count men man 3 (omega arith) (omega arith) in
    let d = row_count men man 4 (omega arith) (omega arith) in
    let e = row_count men man 5 (omega arith) (omega arith) in
    let f = row_count men man 6 (omega arith) (omega arith) in
    let g = row_count men man 7 (omega arith) (omega arith) in
    let h = row_count men man 8 (omega arith) (omega arith) in
    omega arith

pub material_mirrored : (men : Placement) (white black : Limits)
    → FitsMaterial (mirrored_men men) white black ↔ FitsMaterial men black white
material_mirrored men white black = (
  λ fits. (
    λ kind. subst (Allows (limit_of black kind))
        (count_mirrored men (record { side = Black; kind = kind })) (fits.1 kind),
    λ kind. subst (Allows (limit_of white kind))
        (count_mirrored men (record { side = White; kind = kind })) (fits.0 kind),
  ),
  λ fits. (
    λ kind. subst (Allows (limit_of white kind))
        (sym (count_mirrored men (record { side = White; kind = kind }))) (fits.1 kind),
    λ kind. subst (Allows (limit_of black kind))
        (sym (count_mirrored men (record { side = Black; kind = kind }))) (fits.0 kind),
  ),
)
