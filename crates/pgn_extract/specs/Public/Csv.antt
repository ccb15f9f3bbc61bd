-- A row of cells as comma-separated values, and how RFC 4180 reads one.
use Rattle.std.specs.Prelude.{◌≡◌, ◌⊎◌, ℕ, Bool, true, not, ◌==◌, ◌||◌, if◌then◌else◌, List, []}
use Rattle.std.specs.Prelude.{◌∷◌, ◌++◌, map, flat_map, IsTrue}
use Rattle.std.specs.List.{list_all, list_any}

-- What is written.

-- a comma, a quote, a carriage return or a line feed: a cell that has one stands in quotes
abbrev pub is_special : ℕ → Bool
is_special b = b == 44 || b == 34 || b == 13 || b == 10

-- a byte in a quoted cell: a quote stands twice
abbrev pub doubled : ℕ → List ℕ
doubled b = if b == 34 then 34 ∷ 34 ∷ [] else b ∷ []

-- a cell in quotes
abbrev pub quoted : List ℕ → List ℕ
quoted cell = 34 ∷ flat_map doubled cell ++ 34 ∷ []

-- the text of a cell: in quotes only where it has to be
abbrev pub cell_text : List ℕ → List ℕ
cell_text cell = if list_any is_special cell then quoted cell else cell

-- the cells after the first one, each after a comma, and the line feed that ends the row
abbrev pub later_cells : List (List ℕ) → List ℕ
later_cells [] = 10 ∷ []
later_cells (cell ∷ more) = 44 ∷ cell_text cell ++ later_cells more

-- the text of a row; one that is a single empty cell has it in quotes, since many readers drop an
-- empty line
abbrev pub row_text : List (List ℕ) → List ℕ
row_text [] = quoted [] ++ 10 ∷ []
row_text ([] ∷ []) = quoted [] ++ 10 ∷ []
row_text (cell ∷ more) = cell_text cell ++ later_cells more

-- the text of rows, one below another
abbrev pub rows_text : List (List (List ℕ)) → List ℕ
rows_text rows = flat_map row_text rows

-- What RFC 4180 reads (section 2, and its grammar), with bytes for characters, and a line feed or
-- both bytes for a line's end.

-- what stands between the quotes of a field: a byte other than the quote, which may be a comma, a
-- carriage return or a line feed; or two quotes
pub data Quotable : Type 0 where
  Other : ℕ → Quotable
  TwoQuotes : Quotable

-- its bytes, what it stands for, and whether it is one
abbrev pub spelled_quotable : Quotable → List ℕ
spelled_quotable (Other b) = b ∷ []
spelled_quotable TwoQuotes = 34 ∷ 34 ∷ []

abbrev pub value_of_quotable : Quotable → ℕ
value_of_quotable (Other b) = b
value_of_quotable TwoQuotes = 34

abbrev pub is_quotable : Quotable → Bool
is_quotable (Other b) = not (b == 34)
is_quotable TwoQuotes = true

-- a field: bytes none of which is special, or what may stand between two quotes
pub data Field : Type 0 where
  Bare : List ℕ → Field
  Quoted : List Quotable → Field

abbrev pub spelled_field : Field → List ℕ
spelled_field (Bare bytes) = bytes
spelled_field (Quoted parts) = 34 ∷ flat_map spelled_quotable parts ++ 34 ∷ []

abbrev pub value_of_field : Field → List ℕ
value_of_field (Bare bytes) = bytes
value_of_field (Quoted parts) = map value_of_quotable parts

abbrev pub is_field : Field → Bool
is_field (Bare bytes) = list_all (λ b. not (is_special b)) bytes
is_field (Quoted parts) = list_all is_quotable parts

-- what stands after the fields of a record: the end of its line, and the rest of the text
abbrev pub EndsLine : List ℕ → List ℕ → Type 0
EndsLine text rest = (text ≡ 10 ∷ rest) ⊎ (text ≡ 13 ∷ 10 ∷ rest)

-- the fields after the first one of a record, each after a comma, and the end of its line
abbrev pub SpellsLater : List Field → List ℕ → List ℕ → Type 0
SpellsLater [] text rest = EndsLine text rest
SpellsLater (field ∷ more) text rest =
    (after : List ℕ) × (text ≡ 44 ∷ spelled_field field ++ after) × SpellsLater more after rest

-- the text begins with a record of these fields, and the rest of the text stands after its line
abbrev pub Spells : List Field → List ℕ → List ℕ → Type 0
Spells [] text rest = ⊥
Spells (field ∷ more) text rest =
    (after : List ℕ) × (text ≡ spelled_field field ++ after) × SpellsLater more after rest

-- the text begins with a record whose cells are these, and the rest of the text stands after it
pub record ReadsRow (text : List ℕ) (cells : List (List ℕ)) (rest : List ℕ) : Type 0 where
  pub fields : List Field
  pub each : IsTrue (list_all is_field fields)
  pub spells : Spells fields text rest
  pub gives : cells ≡ map value_of_field fields

-- the text is the records of these rows, from its first byte to its last
abbrev pub ReadsRows : List (List (List ℕ)) → List ℕ → Type 0
ReadsRows [] text = text ≡ []
ReadsRows (row ∷ more) text = (rest : List ℕ) × ReadsRow text row rest × ReadsRows more rest
