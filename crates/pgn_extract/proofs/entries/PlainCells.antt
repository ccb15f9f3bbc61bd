-- What columns show of a position is plain.
use Rattle.std.proofs.Common.{ℕ, true, false, List, [], ◌∷◌, ◌++◌, inl, inr, refl, sym, ◌∙◌}
use Rattle.std.proofs.Common.{subst, arith}
use Rattle.std.specs.Prelude.{◌==◌, if◌then◌else◌, codes, decimal, flat_map}
use Rattle.chess.specs.Public.Letters.{kind_letter}
use Rattle.chess.specs.Public.Placements.{Placement}
use Rattle.chess.specs.Public.Positions.{State, IsSound}
use Rattle.chess.specs.Public.San.{IsCheckSign}
use Rattle.chess.specs.Public.San.IsCheckSign.{mate, check, quiet}
use Rattle.chess.specs.Shared.Runs.{run_of}
use Rattle.chess.specs.declared.board.man.Kind.{Kind}
use Rattle.chess.specs.declared.board.man.Kind.TheVariants.{King, Queen, Rook, Bishop, Knight, Pawn}
use Rattle.chess.specs.declared.board.man.Side.{Side}
use Rattle.chess.specs.declared.board.man.Side.TheVariants.{White, Black}
use Rattle.chess.proofs.FieldFacts.{parted_by_run}
use Rattle.pgn_criteria.specs.Public.Materials.{count_of}
use Rattle.pgn_extract.specs.Private.RowTexts.{IsPlainByte, IsPlainValue}
use Rattle.pgn_extract.specs.Public.PositionCells.{IsMenText, IsCheckText, counted_letter}
use Rattle.pgn_extract.specs.Public.PositionCells.{kind_text, side_men_text, material_text}
use Rattle.pgn_extract.specs.Public.Rows.{IsPositionCell}
use Rattle.pgn_extract.specs.declared.rows.column.PositionColumn.{PositionColumn}
use Rattle.pgn_extract.specs.declared.rows.column.PositionColumn.TheVariants.{Fen, Turn, Number}
use Rattle.pgn_extract.specs.declared.rows.column.PositionColumn.TheVariants.{Men, Check, Material}
use Rattle.pgn_extract.proofs.PositionTexts.{first_alike}
use Rattle.pgn_extract.proofs.entries.PlainTexts.{low_byte, high_byte, blank_byte, check_byte}
use Rattle.pgn_extract.proofs.entries.PlainTexts.{kind_byte, plain_append, decimal_plain, fen_plain}
use Rattle.pgn_extract.proofs.entries.PlainTexts.{side_plain}

-- The men.

run_plain : (separator : ℕ) (text : List ℕ) → IsPlainValue text
    → IsPlainValue (run_of separator text)
run_plain separator [] plain = tt
run_plain separator (b ∷ x) plain =
    elim (b == separator) as (λ t. IsPlainValue (if t then [] else b ∷ run_of separator x)) [
      | true ↦ tt
      | false ↦ (plain.0, run_plain separator x plain.1)
    ]

men_plain : (P : State) (x : List ℕ) → IsSound P → IsMenText P x → IsPlainValue x
men_plain P x sound (fen, more, is, parts) =
    subst IsPlainValue (first_alike (sym (parted_by_run 32 fen) ∙ parts))
    (run_plain 32 fen (fen_plain P fen sound is))

-- The sign of a check.

sign_plain : (P : State) (x : List ℕ) → IsCheckSign P x → IsPlainValue x
sign_plain P _ (mate mated) = (check_byte 35 (inr refl), tt)
sign_plain P _ (check in_check other) = (check_byte 43 (inl refl), tt)
sign_plain P _ (quiet calm) = tt

pub check_plain : (P : State) (x : List ℕ) → IsCheckText P x → IsPlainValue x
check_plain P x (inl (still, is)) =
    subst IsPlainValue (sym is) (low_byte 61 (omega arith) (omega arith), tt)
check_plain P x (inr (other, sign)) = sign_plain P x sign

-- The material.

counted_plain : (letter count : ℕ) → IsPlainByte letter
    → IsPlainValue (counted_letter letter count)
counted_plain letter count is =
    elim (count == 0) as (λ t.
    IsPlainValue (if t then [] else letter ∷ (if count == 1 then [] else decimal count))) [
      | true ↦ tt
      | false ↦ (
        is,
        elim (count == 1) as (λ t. IsPlainValue (if t then [] else decimal count)) [
          | true ↦ tt
          | false ↦ decimal_plain count
        ],
      )
    ]

kinds_plain : (men : Placement) (side : Side) (kinds : List Kind)
    → IsPlainValue (flat_map (kind_text men side) kinds)
kinds_plain men side [] = tt
kinds_plain men side (kind ∷ kinds) =
    plain_append (kind_text men side kind) (flat_map (kind_text men side) kinds)
    (counted_plain (kind_letter kind) (count_of men (record { side = side; kind = kind }))
    (kind_byte kind)) (kinds_plain men side kinds)

abbrev all_kinds : List Kind
all_kinds = King ∷ Queen ∷ Rook ∷ Bishop ∷ Knight ∷ Pawn ∷ []

pub material_plain : (men : Placement) → IsPlainValue (material_text men)
material_plain men =
    plain_append (side_men_text men White ++ codes " v ") (side_men_text men Black)
    (plain_append (side_men_text men White) (codes " v ") (kinds_plain men White all_kinds)
    (blank_byte, (high_byte 118 (omega arith) (omega arith), (blank_byte, tt))))
    (kinds_plain men Black all_kinds)

-- So is what each column shows of a position.
pub position_plain : (own : PositionColumn) (P : State) (x : List ℕ) → IsSound P
    → IsPositionCell own P x → IsPlainValue x
position_plain Fen P x sound is = fen_plain P x sound is
position_plain Turn P x sound is = subst IsPlainValue (sym is) (side_plain P.turn)
position_plain Number P x sound is =
    subst IsPlainValue (sym is) (decimal_plain P.fullmove_number)
position_plain Men P x sound is = men_plain P x sound is
position_plain Check P x sound is = check_plain P x is
position_plain Material P x sound is = subst IsPlainValue (sym is) (material_plain P.men)
