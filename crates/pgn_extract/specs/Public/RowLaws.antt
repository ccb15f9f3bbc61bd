-- What holds of every row that is written: it is read as it was written, and in no other way.
use Rattle.std.specs.Prelude.{◌≡◌, ◌≢◌, ℕ, List, [], ◌∷◌, ◌++◌}
use Rattle.pgn_extract.specs.Public.Csv as csv
use Rattle.pgn_extract.specs.Public.Json.{ReadsString, string_text}
use Rattle.pgn_extract.specs.Public.Tsv as tsv

-- each row that has a cell is read as it was written, whatever stands after it
abbrev pub IsReadBack : (List (List ℕ) → List ℕ)
    → (List ℕ → List (List ℕ) → List ℕ → Type 0) → Type 0
IsReadBack row_text Reads =
    (cells : List (List ℕ)) (rest : List ℕ) → cells ≢ [] → Reads (row_text cells ++ rest) cells rest

-- a text begins with one row at most
abbrev pub HasOneReading : (List ℕ → List (List ℕ) → List ℕ → Type 0) → Type 0
HasOneReading Reads =
    (text : List ℕ) (cells others : List (List ℕ)) (rest more : List ℕ)
    → Reads text cells rest → Reads text others more → (cells ≡ others) × (rest ≡ more)

-- so a row is read in no other way than it was written
abbrev pub IsReadOnce : (List (List ℕ) → List ℕ)
    → (List ℕ → List (List ℕ) → List ℕ → Type 0) → Type 0
IsReadOnce row_text Reads =
    (cells others : List (List ℕ)) (rest more : List ℕ) → cells ≢ []
    → Reads (row_text cells ++ rest) others more → (others ≡ cells) × (more ≡ rest)

-- the three of comma-separated values, and of values parted by tabs
abbrev pub CsvIsReadBack : Type 0
CsvIsReadBack = IsReadBack csv.row_text csv.ReadsRow

abbrev pub CsvHasOneReading : Type 0
CsvHasOneReading = HasOneReading csv.ReadsRow

abbrev pub CsvIsReadOnce : Type 0
CsvIsReadOnce = IsReadOnce csv.row_text csv.ReadsRow

abbrev pub TsvIsReadBack : Type 0
TsvIsReadBack = IsReadBack tsv.row_text tsv.ReadsRow

abbrev pub TsvHasOneReading : Type 0
TsvHasOneReading = HasOneReading tsv.ReadsRow

abbrev pub TsvIsReadOnce : Type 0
TsvIsReadOnce = IsReadOnce tsv.row_text tsv.ReadsRow

-- and of the strings of JSON
abbrev pub StringIsReadBack : Type 0
StringIsReadBack = (text rest : List ℕ) → ReadsString (string_text text ++ rest) text rest

abbrev pub StringHasOneReading : Type 0
StringHasOneReading =
    (bytes text other rest more : List ℕ) → ReadsString bytes text rest
    → ReadsString bytes other more → (text ≡ other) × (rest ≡ more)

abbrev pub StringIsReadOnce : Type 0
StringIsReadOnce =
    (text other rest more : List ℕ) → ReadsString (string_text text ++ rest) other more
    → (other ≡ text) × (more ≡ rest)

-- rows that each have a cell, one below another, are read as those rows and as no others: no value
-- makes a cell or a row of its own
abbrev pub HaveCells : List (List (List ℕ)) → Type 0
HaveCells [] = Unit {0}
HaveCells (row ∷ more) = (row ≢ []) × HaveCells more

abbrev pub TableIsReadBack : Type 0
TableIsReadBack =
    (rows : List (List (List ℕ))) → HaveCells rows → csv.ReadsRows rows (csv.rows_text rows)

abbrev pub TableIsReadOnce : Type 0
TableIsReadOnce =
    (rows others : List (List (List ℕ))) → HaveCells rows
    → csv.ReadsRows others (csv.rows_text rows) → others ≡ rows
