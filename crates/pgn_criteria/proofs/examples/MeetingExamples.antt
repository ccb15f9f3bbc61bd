-- Worked rows of lines, values, marks and men of criteria; and what these definitions refuse.
use Rattle.std.proofs.Common.{◌≡◌, ◌+◌, ◌∙◌, ℕ, zero, suc, true, false, List, [], ◌∷◌, codes, None}
use Rattle.std.proofs.Common.{Some, inl, inr, refl, sym, subst, arith}
use Rattle.std.specs.List.{filter}
use Rattle.pgn_criteria.proofs.Common.{slice_get, row, Placement, State, king_of, Kind, Side, White}
use Rattle.pgn_criteria.proofs.Common.{Black, Replay, first_place, place_of_marks, AreBlanks}
use Rattle.pgn_criteria.proofs.Common.{side_text, comparison_text, is_move_byte, Spells, onto_first}
use Rattle.pgn_criteria.proofs.Common.{FitsSide, FitsMaterial, count_of, limit_of, Holds, IsSoAt}
use Rattle.pgn_criteria.proofs.Common.{Taken, FitsEitherWay, flipped_men, other_man, FitsMove}
use Rattle.pgn_criteria.proofs.Common.{AreRanks, FitRanks, FitsPattern, IsPattern, no_conditions}
use Rattle.pgn_criteria.proofs.Common.{with_condition, Condition, Game, Position, Move, Span}
use Rattle.pgn_criteria.proofs.Common.{Stated, GameClaim, PositionCondition, MoveClaim, SpanClaim}
use Rattle.pgn_criteria.proofs.Common.{Nothing, Or, Limits}
use Rattle.chess.specs.Public.Positions.{pawn_of}
use Rattle.pgn_criteria.specs.Public.Comparing.{is_number, order_by}
use Rattle.pgn_criteria.specs.Public.Materials.{Allows, squares_to}
use Rattle.std.specs.declared.cmp.Ordering.TheVariants as order
use Rattle.pgn_criteria.specs.declared.compare.Comparison.TheVariants as compared

-- Lines.

no_letter_is_blank : AreBlanks (codes " a") → ⊥
no_letter_is_blank are = cc

names_of_sides : side_text White ∷ side_text Black ∷ [] ≡ codes "white" ∷ codes "black" ∷ []
names_of_sides = refl

signs_of_comparisons :
    comparison_text compared.Equal ∷ comparison_text compared.Unequal
    ∷ comparison_text compared.Less
    ∷ comparison_text compared.LessOrEqual ∷ comparison_text compared.Greater
    ∷ comparison_text compared.GreaterOrEqual ∷ []
    ≡ codes "=" ∷ codes "<>" ∷ codes "<" ∷ codes "<=" ∷ codes ">" ∷ codes ">=" ∷ []
signs_of_comparisons = refl

-- so many numbers in a row
abbrev numbers : ℕ → ℕ → List ℕ
numbers first zero = []
numbers first (suc count) = first ∷ numbers (first + 1) count

bytes_of_moves :
    filter is_move_byte (numbers 0 256)
    ≡ codes "-0123456789=ABCDEFGHIJKLMNOPQRSTUVWXYZabcdefghijklmnopqrstuvwxyz"
bytes_of_moves = refl

no_word_is_nothing : Spells (codes "x") Nothing → ⊥
no_word_is_nothing spells = elim spells [ inl none ↦ cc | inr comment ↦ let is = comment.1 in cc ]

no_or_of_nothing : Spells [] Or → ⊥
no_or_of_nothing spells = cc

condition_begins : (condition : Condition (List ℕ))
    → onto_first condition [] ≡ with_condition condition no_conditions ∷ []
condition_begins condition = refl

condition_comes_first : (first second : PositionCondition (List ℕ)) → onto_first (Position first)
    (with_condition (Position second) no_conditions ∷ no_conditions ∷ [])
    ≡ record { games = []; positions = first ∷ second ∷ []; moves = []; spans = [] }
    ∷ no_conditions ∷ []
condition_comes_first first second = refl

each_kind_apart : (game : Stated (GameClaim (List ℕ))) (own : PositionCondition (List ℕ))
    (move : Stated (MoveClaim (List ℕ))) (span : SpanClaim)
    → with_condition (Span span) (with_condition (Move move)
    (with_condition (Position own) (with_condition (Game game) no_conditions)))
    ≡ record { games = game ∷ []; positions = own ∷ []; moves = move ∷ []; spans = span ∷ [] }
each_kind_apart game own move span = refl

-- Values.

digits_are_a_number : is_number (codes "007") ≡ true
digits_are_a_number = refl

no_number_of_other_bytes : is_number (codes "1.0") ∷ is_number [] ∷ [] ≡ false ∷ false ∷ []
no_number_of_other_bytes = refl

numbers_are_ordered : order_by (Some 9) (Some 10) order.Greater ≡ order.Less
numbers_are_ordered = refl

bytes_are_ordered :
    order_by (Some 9) None order.Greater ∷ order_by None (Some 9) order.Less ∷ []
    ≡ order.Greater ∷ order.Less ∷ []
bytes_are_ordered = refl

-- Marks.

places_of_sides : first_place White ∷ first_place Black ∷ [] ≡ 0 ∷ 4 ∷ []
places_of_sides = refl

places_of_marks :
    place_of_marks White true false ∷ place_of_marks White false true
    ∷ place_of_marks Black true true
    ∷ [] ≡ 1 ∷ 2 ∷ 7 ∷ []
places_of_marks = refl

-- Men.

king_of_the_other_side : other_man (king_of White) ∷ other_man (pawn_of Black) ∷ []
    ≡ king_of Black ∷ pawn_of White ∷ []
king_of_the_other_side = refl

squares_of_a_rank : (men : Placement) → squares_to men 1 ≡ row men 1
unfolding squares_to
squares_of_a_rank men = refl

no_more_men_of_a_side : (men : Placement) (side : Side) (limits : Limits) (kind : Kind)
    → (Allows (limit_of limits kind) (count_of men (record { side = side; kind = kind })) → ⊥)
    → FitsSide men side limits → ⊥
no_more_men_of_a_side men side limits kind many fits = many (fits kind)

no_side_is_free : (men : Placement) (white black : Limits) → (FitsSide men Black black → ⊥)
    → FitsMaterial men white black → ⊥
no_side_is_free men white black many fits = many fits.1

no_rank_left_out : (men : Placement) → FitRanks men 1 [] → ⊥
no_rank_left_out men fits = omega (arith, fits)

no_position_of_one_rank : (men : Placement) → FitsPattern men (codes "8") → ⊥
no_position_of_one_rank men fits = omega (arith, fits.2)

no_ranks_missing : AreRanks 1 [] → ⊥
no_ranks_missing are = omega (arith, are)

no_pattern_of_one_rank : IsPattern (codes "8") → ⊥
no_pattern_of_one_rank is = omega (arith, is.2)

no_third_way : (men : Placement) (pattern : List ℕ) → (FitsPattern men pattern → ⊥)
    → (FitsPattern (flipped_men men) pattern → ⊥) → FitsEitherWay men pattern → ⊥
no_third_way men pattern other flipped fits =
    elim fits [ inl own ↦ other own | inr turned ↦ flipped turned ]

-- Games.

no_move_after_the_last : (replay : Replay) (plies : ℕ) (word : List ℕ)
    → slice_get replay.played plies ≡ None → FitsMove replay plies word → ⊥
no_move_after_the_last replay plies word none fits = let both : Some fits.move
    ≡ None = sym fits.played ∙ none in cc

no_fact_is_denied : (fact : Type 0) → fact → Taken true fact → ⊥
no_fact_is_denied fact so denied = denied so

no_claim_is_left_out : (P : State) (condition : PositionCondition (List ℕ))
    → condition.is_denied ≡ false → (IsSoAt P condition.claim → ⊥) → Holds P condition → ⊥
no_claim_is_left_out P condition own wrong holds =
    wrong (subst (λ denied. Taken denied (IsSoAt P condition.claim)) own holds)
