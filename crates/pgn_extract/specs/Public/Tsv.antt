-- A row of cells parted by tabs, in which a tab, a line feed, a carriage return and a backslash of
-- a cell stand as `\t`, `\n`, `\r` and `\\`; and how it is read.
use Rattle.std.specs.Prelude.{◌≡◌, ℕ, Bool, true, not, ◌==◌, ◌||◌, if◌then◌else◌, List, [], ◌∷◌}
use Rattle.std.specs.Prelude.{◌++◌, map, flat_map, IsTrue}
use Rattle.std.specs.List.{list_all}

-- What is written.

-- the byte does not stand for itself
abbrev pub is_special : ℕ → Bool
is_special b = b == 9 || b == 10 || b == 13 || b == 92

-- a byte of a cell
abbrev pub escaped : ℕ → List ℕ
escaped b =
    if b == 9 then 92 ∷ 116 ∷ [] else
    (if b == 10 then 92 ∷ 110 ∷ [] else
    (if b == 13 then 92 ∷ 114 ∷ [] else (if b == 92 then 92 ∷ 92 ∷ [] else b ∷ [])))

-- the text of a cell
abbrev pub cell_text : List ℕ → List ℕ
cell_text cell = flat_map escaped cell

-- the cells after the first one, each after a tab, and the line feed that ends the row
abbrev pub later_cells : List (List ℕ) → List ℕ
later_cells [] = 10 ∷ []
later_cells (cell ∷ more) = 9 ∷ cell_text cell ++ later_cells more

-- the text of a row
abbrev pub row_text : List (List ℕ) → List ℕ
row_text [] = 10 ∷ []
row_text (cell ∷ more) = cell_text cell ++ later_cells more

-- What is read.

-- a byte by itself, or a letter or a backslash after a backslash
pub data Sign : Type 0 where
  Plain : ℕ → Sign
  Tab : Sign
  LineFeed : Sign
  Return : Sign
  Backslash : Sign

-- its bytes, what it stands for, and whether it is one
abbrev pub spelled_sign : Sign → List ℕ
spelled_sign (Plain b) = b ∷ []
spelled_sign Tab = 92 ∷ 116 ∷ []
spelled_sign LineFeed = 92 ∷ 110 ∷ []
spelled_sign Return = 92 ∷ 114 ∷ []
spelled_sign Backslash = 92 ∷ 92 ∷ []

abbrev pub value_of_sign : Sign → ℕ
value_of_sign (Plain b) = b
value_of_sign Tab = 9
value_of_sign LineFeed = 10
value_of_sign Return = 13
value_of_sign Backslash = 92

abbrev pub is_sign : Sign → Bool
is_sign (Plain b) = not (is_special b)
is_sign Tab = true
is_sign LineFeed = true
is_sign Return = true
is_sign Backslash = true

-- the cells after the first one, as their signs, each after a tab, and the line feed after them
abbrev pub SpellsLater : List (List Sign) → List ℕ → List ℕ → Type 0
SpellsLater [] text rest = text ≡ 10 ∷ rest
SpellsLater (cell ∷ more) text rest =
    (after : List ℕ) × (text ≡ 9 ∷ flat_map spelled_sign cell ++ after)
    × SpellsLater more after rest

-- the text begins with a row of cells with these signs, and the rest stands after it
abbrev pub Spells : List (List Sign) → List ℕ → List ℕ → Type 0
Spells [] text rest = ⊥
Spells (cell ∷ more) text rest =
    (after : List ℕ) × (text ≡ flat_map spelled_sign cell ++ after) × SpellsLater more after rest

-- the text begins with a row whose cells are these, and the rest of the text stands after it
pub record ReadsRow (text : List ℕ) (cells : List (List ℕ)) (rest : List ℕ) : Type 0 where
  pub signs : List (List Sign)
  pub each : IsTrue (list_all (list_all is_sign) signs)
  pub spells : Spells signs text rest
  pub gives : cells ≡ map (map value_of_sign) signs
