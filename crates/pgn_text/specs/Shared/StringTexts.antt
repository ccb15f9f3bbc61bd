-- The contents of a string at the front of a text, and the value of contents, computed.
use Rattle.std.specs.Prelude.{ℕ, Bool, true, false, not, ◌&&◌, ◌||◌, ◌==◌, if◌then◌else◌, List, []}
use Rattle.std.specs.Prelude.{◌∷◌, Option, Some, None, option_map}
use Rattle.pgn_text.specs.Public.Bytes.{is_plain}

-- one more byte before contents that were read
abbrev pub with_byte : ℕ → List ℕ × List ℕ → List ℕ × List ℕ
with_byte b found = (b ∷ found.0, found.1)

-- the longest contents of a string at the front of the text, and what follows them; `escaped` says
-- that a backslash stands before
abbrev pub contents_front : Bool → List ℕ → Option (List ℕ × List ℕ)
contents_front true [] = None
contents_front false [] = Some ([], [])
contents_front true (b ∷ rest) = if is_plain b
    then option_map (with_byte b) (contents_front false rest) else None
contents_front false (b ∷ rest) =
    if b == 92 then option_map (with_byte b) (contents_front true rest)
    else (if b == 34 || not (is_plain b) then Some ([], b ∷ rest)
    else option_map (with_byte b) (contents_front false rest))

-- the value of a string with these contents: a backslash before a quote or a backslash is dropped
abbrev pub value_of : List ℕ → List ℕ
value_of [] = []
value_of (b ∷ []) = b ∷ []
value_of (a ∷ b ∷ more) = if (a == 92 && (b == 34 || b == 92)) then b ∷ value_of more
    else a ∷ value_of (b ∷ more)
