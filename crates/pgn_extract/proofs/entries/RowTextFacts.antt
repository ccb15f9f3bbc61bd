-- The text of a row is the parts of which it is made.
use Rattle.std.proofs.Common.{◌≡◌, ℕ, Bool, true, false, List, [], ◌∷◌, ◌++◌, refl, sym, ap, ◌∙◌}
use Rattle.std.proofs.Common.{append_assoc, append-nil}
use Rattle.std.specs.Prelude.{map, if◌then◌else◌}
use Rattle.std.specs.List.{list_any}
use Rattle.pgn_extract.specs.Public.Columns.{column_name, is_number_column}
use Rattle.pgn_extract.specs.Public.Csv as csv
use Rattle.pgn_extract.specs.Public.Json.{string_text, text_of, later_members}
use Rattle.pgn_extract.specs.Public.Json as json
use Rattle.pgn_extract.specs.Public.Rows.{RowPlace, AreCells, members, row_text}
use Rattle.pgn_extract.specs.Public.Tsv as tsv
use Rattle.pgn_extract.specs.Private.RowTexts.{front, back, or_quotes, quotes_if_empty, cells_text}
use Rattle.pgn_extract.specs.Private.RowTexts.{later_text, later_names, names_text, gap, gap_after}
use Rattle.pgn_extract.specs.Private.RowTexts.{value_text}
use Rattle.pgn_extract.specs.declared.rows.column.Column.{Column}
use Rattle.pgn_extract.specs.declared.rows.column.Format.{Format}
use Rattle.pgn_extract.specs.declared.rows.column.Format.TheVariants.{Csv, Tsv, Jsonl}

-- there are as many cells as columns
abbrev AreMatched : List Column → List (List ℕ) → Type 0
AreMatched [] cells = cells ≡ []
AreMatched (column ∷ columns) cells =
    (cell : List ℕ) × (more : List (List ℕ)) × (cells ≡ cell ∷ more) × AreMatched columns more

later_csv : (columns : List Column) (cells : List (List ℕ))
    → AreMatched columns cells
    → csv.later_cells cells ≡ later_text Csv columns cells ++ 10 ∷ []
later_csv [] cells none = rw none refl
later_csv (column ∷ columns) cells (cell, more, are, others) =
    rw are (ap (λ t. 44 ∷ (csv.cell_text cell ++ t)) (later_csv columns more others)
    ∙ ap (λ (t : List ℕ). 44 ∷ t)
    (sym (append_assoc (csv.cell_text cell) (later_text Csv columns more) (10 ∷ []))))

later_tsv : (columns : List Column) (cells : List (List ℕ))
    → AreMatched columns cells
    → tsv.later_cells cells ≡ later_text Tsv columns cells ++ 10 ∷ []
later_tsv [] cells none = rw none refl
later_tsv (column ∷ columns) cells (cell, more, are, others) =
    rw are (ap (λ t. 9 ∷ (tsv.cell_text cell ++ t)) (later_tsv columns more others)
    ∙ ap (λ (t : List ℕ). 9 ∷ t)
    (sym (append_assoc (tsv.cell_text cell) (later_text Tsv columns more) (10 ∷ []))))

-- the name of a member and its value
member_is : (column : Column) (cell rest : List ℕ)
    → json.member_text (record {
      name = column_name column;
      is_number = is_number_column column;
      value = cell;
    }) ++ rest
    ≡ ((string_text (text_of (column_name column)) ++ 58 ∷ [])
    ++ json.value_text (is_number_column column) cell) ++ rest
member_is column cell rest =
    ap (λ t. t ++ rest) (sym (append_assoc (string_text (text_of (column_name column))) (58 ∷ [])
    (json.value_text (is_number_column column) cell)))

later_json : (columns : List Column) (cells : List (List ℕ))
    → AreMatched columns cells
    → later_members (members columns cells) ≡ later_text Jsonl columns cells ++ 125 ∷ 10 ∷ []
later_json [] cells none = refl
later_json (column ∷ columns) cells (cell, more, are, others) =
    let key = string_text (text_of (column_name column)) ++ 58 ∷ [] in
    let value = json.value_text (is_number_column column) cell in
    rw are (ap (λ (t : List ℕ). 44 ∷ t)
    (member_is column cell (later_members (members columns more))
    ∙ ap (λ t. (key ++ value) ++ t) (later_json columns more others)
    ∙ sym (append_assoc (key ++ value) (later_text Jsonl columns more) (125 ∷ 10 ∷ []))))

-- a cell that is not empty leaves the line so
some_bytes : (b : ℕ) (cell rest : List ℕ)
    → quotes_if_empty (csv.cell_text (b ∷ cell) ++ rest) ≡ csv.cell_text (b ∷ cell) ++ rest
some_bytes b cell rest = by_test (list_any csv.is_special (b ∷ cell))
  where
    by_test : (t : Bool)
        → quotes_if_empty ((if t then csv.quoted (b ∷ cell) else b ∷ cell) ++ rest)
        ≡ (if t then csv.quoted (b ∷ cell) else b ∷ cell) ++ rest
    by_test true = refl
    by_test false = refl

csv_line : (columns : List Column) (cells : List (List ℕ))
    → AreMatched columns cells
    → csv.row_text cells ≡ quotes_if_empty (cells_text Csv columns cells ++ []) ++ 10 ∷ []
csv_line [] cells none = rw none refl
csv_line (column ∷ columns) cells ([], more, are, others) =
    rw are (empty_first columns more others)
  where
    empty_first : (columns : List Column) (more : List (List ℕ)) → AreMatched columns more
        → csv.row_text ([] ∷ more)
        ≡ quotes_if_empty (later_text Csv columns more ++ []) ++ 10 ∷ []
    empty_first [] more none = rw none refl
    empty_first (next ∷ columns) more (cell, rest, are, others) =
        let all : AreMatched (next ∷ columns) (cell ∷ rest) = (cell, rest, refl, others) in
        rw are (later_csv (next ∷ columns) (cell ∷ rest) all
        ∙ ap (λ t. t ++ 10 ∷ []) (sym (append-nil (later_text Csv (next ∷ columns) (cell ∷ rest)))))
csv_line (column ∷ columns) cells ((b ∷ cell), more, are, others) =
    let later = later_text Csv columns more in
    let own = csv.cell_text (b ∷ cell) in
    rw are (ap (λ t. own ++ t) (later_csv columns more others)
    ∙ sym (append_assoc own later (10 ∷ []))
    ∙ ap (λ t. t ++ 10 ∷ []) (sym (some_bytes b cell later)
    ∙ ap quotes_if_empty (sym (append-nil (own ++ later)))))

line_is : (format : Format) (columns : List Column) (cells : List (List ℕ))
    → AreMatched columns cells → row_text format columns cells
    ≡ or_quotes format (front format ++ (cells_text format columns cells ++ back format))
    ++ 10 ∷ []
line_is Csv columns cells are = csv_line columns cells are
line_is Tsv [] cells none = rw none refl
line_is Tsv (column ∷ columns) cells (cell, more, are, others) =
    rw are (ap (λ t. tsv.cell_text cell ++ t) (later_tsv columns more others)
    ∙ sym (append_assoc (tsv.cell_text cell) (later_text Tsv columns more) (10 ∷ []))
    ∙ ap (λ t. t ++ 10 ∷ [])
    (sym (append-nil (tsv.cell_text cell ++ later_text Tsv columns more))))
line_is Jsonl [] cells none = refl
line_is Jsonl (column ∷ columns) cells (cell, more, are, others) =
    let key = string_text (text_of (column_name column)) ++ 58 ∷ [] in
    let value = json.value_text (is_number_column column) cell in
    let later = later_text Jsonl columns more in
    rw are (ap (λ (t : List ℕ). 123 ∷ t)
    (member_is column cell (later_members (members columns more))
    ∙ ap (λ t. (key ++ value) ++ t) (later_json columns more others)
    ∙ sym (append_assoc (key ++ value) later (125 ∷ 10 ∷ []))
    ∙ sym (append_assoc ((key ++ value) ++ later) (125 ∷ []) (10 ∷ []))))

matched : (columns : List Column) (place : RowPlace) (cells : List (List ℕ))
    → AreCells columns place cells → AreMatched columns cells
matched [] place cells none = none
matched (column ∷ columns) place cells (cell, more, are, is, others) =
    (cell, more, are, matched columns place more others)

-- the row of cells
pub row_is : (format : Format) (columns : List Column) (place : RowPlace) (cells : List (List ℕ))
    → AreCells columns place cells → row_text format columns cells
    ≡ or_quotes format (front format ++ (cells_text format columns cells ++ back format))
    ++ 10 ∷ []
row_is format columns place cells are =
    line_is format columns cells (matched columns place cells are)

-- The row of the names.

names_matched : (columns : List Column) → AreMatched columns (map column_name columns)
names_matched [] = refl
names_matched (column ∷ columns) =
    (column_name column, map column_name columns, refl, names_matched columns)

later_names_csv : (columns : List Column)
    → later_text Csv columns (map column_name columns) ≡ later_names Csv columns
later_names_csv [] = refl
later_names_csv (column ∷ columns) =
    ap (λ t. 44 ∷ (csv.cell_text (column_name column) ++ t)) (later_names_csv columns)

later_names_tsv : (columns : List Column)
    → later_text Tsv columns (map column_name columns) ≡ later_names Tsv columns
later_names_tsv [] = refl
later_names_tsv (column ∷ columns) =
    ap (λ t. 9 ∷ (tsv.cell_text (column_name column) ++ t)) (later_names_tsv columns)

names_csv : (columns : List Column)
    → cells_text Csv columns (map column_name columns) ≡ names_text Csv columns
names_csv [] = refl
names_csv (column ∷ columns) =
    ap (λ t. csv.cell_text (column_name column) ++ t) (later_names_csv columns)

names_tsv : (columns : List Column)
    → cells_text Tsv columns (map column_name columns) ≡ names_text Tsv columns
names_tsv [] = refl
names_tsv (column ∷ columns) =
    ap (λ t. tsv.cell_text (column_name column) ++ t) (later_names_tsv columns)

pub csv_header : (columns : List Column)
    → or_quotes Csv (names_text Csv columns) ++ 10 ∷ [] ≡ csv.row_text (map column_name columns)
csv_header columns =
    ap (λ t. quotes_if_empty t ++ 10 ∷ []) (sym (names_csv columns)
    ∙ sym (append-nil (cells_text Csv columns (map column_name columns))))
    ∙ sym (line_is Csv columns (map column_name columns) (names_matched columns))

pub tsv_header : (columns : List Column)
    → or_quotes Tsv (names_text Tsv columns) ++ 10 ∷ [] ≡ tsv.row_text (map column_name columns)
tsv_header columns =
    ap (λ t. t ++ 10 ∷ []) (sym (names_tsv columns)
    ∙ sym (append-nil (cells_text Tsv columns (map column_name columns))))
    ∙ sym (line_is Tsv columns (map column_name columns) (names_matched columns))

-- one more name
later_push : (format : Format) (columns : List Column) (column : Column)
    → later_names format (columns ++ column ∷ [])
    ≡ later_names format columns
    ++ (gap format ++ value_text format false (column_name column))
later_push format [] column =
    ap (λ t. gap format ++ t) (append-nil (value_text format false (column_name column)))
later_push format (first ∷ columns) column =
    let own = value_text format false (column_name first) in
    let last = gap format ++ value_text format false (column_name column) in
    ap (λ t. gap format ++ (own ++ t)) (later_push format columns column)
    ∙ ap (λ t. gap format ++ t) (sym (append_assoc own (later_names format columns) last))
    ∙ sym (append_assoc (gap format) (own ++ later_names format columns) last)

pub names_push : (format : Format) (columns : List Column) (column : Column)
    → names_text format (columns ++ column ∷ [])
    ≡ names_text format columns
    ++ (gap_after format columns ++ value_text format false (column_name column))
names_push format [] column = append-nil (value_text format false (column_name column))
names_push format (first ∷ columns) column =
    let own = value_text format false (column_name first) in
    ap (λ t. own ++ t) (later_push format columns column)
    ∙ sym (append_assoc own (later_names format columns)
    (gap format ++ value_text format false (column_name column)))
