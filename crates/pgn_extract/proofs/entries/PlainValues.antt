-- A value of plain bytes stands for itself in each format.
use Rattle.std.proofs.Common.{◌≡◌, ◌≢◌, ℕ, zero, suc, Bool, true, false, List, [], ◌∷◌}
use Rattle.std.proofs.Common.{◌++◌, refl, sym, ap, ◌∙◌, append-nil, arith}
use Rattle.std.specs.Prelude.{flat_map, nat_lt, ◌==◌}
use Rattle.std.specs.List.{list_any}
use Rattle.std.specs.Str.{IsAscii, is_utf8}
use Rattle.std.proofs.lemmas.Bool.{eqb-true}
use Rattle.std.proofs.lemmas.Bool.Decides.{nat_tests}
use Rattle.std.proofs.lemmas.Str.{IsUtf8-from_ascii, is_utf8-from_IsUtf8}
use Rattle.pgn_extract.specs.Public.Csv as csv
use Rattle.pgn_extract.specs.Public.Json as json
use Rattle.pgn_extract.specs.Public.Tsv as tsv
use Rattle.pgn_extract.specs.Private.RowTexts.{IsPlainByte, IsPlainValue, value_text, quote_text}
use Rattle.pgn_extract.specs.declared.rows.column.Format.{Format}
use Rattle.pgn_extract.specs.declared.rows.column.Format.TheVariants.{Csv, Tsv, Jsonl}
use Rattle.pgn_extract.proofs.rows.JsonCells as json_cells
use Rattle.pgn_extract.proofs.rows.TsvCells as tsv_cells

pub other_byte : (a b : ℕ) → a ≢ b → (a == b) ≡ false
other_byte a b apart = by_test (a == b) refl
  where
    by_test : (t : Bool) → (a == b) ≡ t → (a == b) ≡ false
    by_test true is = absurd (apart (eqb-true a b is))
    by_test false is = is

plain_in_csv : (b : ℕ) → IsPlainByte b → csv.is_special b ≡ false
plain_in_csv b (low, high, quote, comma, slash) =
    rw (
      other_byte b 44 comma,
      other_byte b 34 quote,
      other_byte b 13 (λ is. omega arith),
      other_byte b 10 (λ is. omega arith),
    ) refl

plain_in_tsv : (b : ℕ) → IsPlainByte b → tsv.is_special b ≡ false
plain_in_tsv b (low, high, quote, comma, slash) =
    rw (
      other_byte b 9 (λ is. omega arith),
      other_byte b 10 (λ is. omega arith),
      other_byte b 13 (λ is. omega arith),
      other_byte b 92 slash,
    ) refl

plain_in_json : (b : ℕ) → IsPlainByte b → json.is_special b ≡ false
plain_in_json b (low, high, quote, comma, slash) =
    let above : nat_lt b 32 ≡ false = grind (arith, nat_tests) in
    rw (above, other_byte b 34 quote, other_byte b 92 slash) refl

none_of : (test : ℕ → Bool) → ((b : ℕ) → IsPlainByte b → test b ≡ false) → (value : List ℕ)
    → IsPlainValue value → list_any test value ≡ false
none_of test never [] plain = refl
none_of test never (b ∷ value) plain =
    rw (never b plain.0) (none_of test never value plain.1)

plain_ascii : (value : List ℕ) → IsPlainValue value → IsAscii value
plain_ascii [] plain i = omega arith
plain_ascii (b ∷ value) plain zero = plain.0.1
plain_ascii (b ∷ value) plain (suc i) = plain_ascii value plain.1 i

in_csv : (value : List ℕ) → IsPlainValue value → csv.cell_text value ≡ value
in_csv value plain =
    let none : list_any csv.is_special value ≡ false =
    none_of csv.is_special plain_in_csv value plain
    in rw none refl

in_tsv : (value : List ℕ) → IsPlainValue value → tsv.cell_text value ≡ value
in_tsv value plain = tsv_cells.plain value (none_of tsv.is_special plain_in_tsv value plain)

in_json : (value : List ℕ) → IsPlainValue value
    → 34 ∷ (value ++ 34 ∷ []) ≡ json.string_text (json.text_of value)
in_json value plain =
    let utf8 : is_utf8 value ≡ true =
    is_utf8-from_IsUtf8 value (IsUtf8-from_ascii value (plain_ascii value plain)) in
    let own : flat_map json.escaped value ≡ value =
    json_cells.plain value (none_of json.is_special plain_in_json value plain) in
    let same : json.text_of value ≡ value = rw utf8 refl in
    ap (λ t. 34 ∷ (t ++ 34 ∷ [])) (sym own) ∙ ap json.string_text (sym same)

-- between its quotes, where it has any
pub plain_text : (format : Format) (is_number : Bool) (value : List ℕ) → IsPlainValue value
    → quote_text format is_number ++ (value ++ quote_text format is_number)
    ≡ value_text format is_number value
plain_text Csv is_number value plain = append-nil value ∙ sym (in_csv value plain)
plain_text Tsv is_number value plain = append-nil value ∙ sym (in_tsv value plain)
plain_text Jsonl true value plain = append-nil value
plain_text Jsonl false value plain = in_json value plain
