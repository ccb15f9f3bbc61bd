-- The contents of a string, between its quotes, and its value (PGN 7, string tokens).
use Rattle.std.specs.Prelude.{◌≡◌, ℕ, Bool, not, ◌&&◌, ◌||◌, ◌==◌, if◌then◌else◌, List, [], ◌∷◌}
use Rattle.std.specs.Prelude.{flat_map, IsTrue}
use Rattle.std.specs.List.{list_all}
use Rattle.pgn_text.specs.Public.Bytes.{is_plain}

-- what the contents are made of: a byte by itself, or a byte after a backslash
pub data Sign : Type 0 where
  Single : ℕ → Sign
  Escaped : ℕ → Sign

-- the bytes of a sign as they stand in the file
abbrev pub spelled_sign : Sign → List ℕ
spelled_sign (Single b) = b ∷ []
spelled_sign (Escaped b) = 92 ∷ b ∷ []

-- a byte by itself is a plain byte other than the quote and the backslash; after a backslash any
-- plain byte may stand
abbrev pub is_sign : Sign → Bool
is_sign (Single b) = is_plain b && (not (b == 34) && not (b == 92))
is_sign (Escaped b) = is_plain b

-- what a sign stands for: a backslash before a quote or a backslash is dropped, before another byte
-- it stays
abbrev pub value_of_sign : Sign → List ℕ
value_of_sign (Single b) = b ∷ []
value_of_sign (Escaped b) = if (b == 34 || b == 92) then b ∷ [] else 92 ∷ b ∷ []

-- the bytes are the contents of a string: they are spelled by signs
abbrev pub IsContents : List ℕ → Type 0
IsContents contents = (signs : List Sign) × (contents ≡ flat_map spelled_sign signs)
    × IsTrue (list_all is_sign signs)

-- the contents are spelled by these signs, and this is their value
pub record HasValue (contents value : List ℕ) (signs : List Sign) : Type 0 where
  pub spells : contents ≡ flat_map spelled_sign signs
  pub each : IsTrue (list_all is_sign signs)
  pub gives : value ≡ flat_map value_of_sign signs
