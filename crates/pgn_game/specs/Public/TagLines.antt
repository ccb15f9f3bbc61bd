-- The tags of an export, one a line: first the seven of the roster in their order, then the others
-- in the order of their names (PGN 8.1, 8.1.1).
use Rattle.std.specs.Prelude.{◌≡◌, ℕ, Bool, not, ◌&&◌, ◌||◌, ◌==◌, if◌then◌else◌, bytes_eq, codes}
use Rattle.std.specs.Prelude.{List, [], ◌∷◌, ◌++◌, flat_map, filter, Option, Some, None, is_some}
use Rattle.std.specs.List.{list_any}
use Rattle.pgn_text.specs.Public.GameTexts.{tag_in, tag_names}
use Rattle.pgn_game.specs.Public.Starts.{fen_tag, IsValueOf}
use Rattle.pgn_game.specs.declared.exports.style.Style.{Style}

-- the names of the roster, in the order in which they are written (PGN 8.1.1)
abbrev pub roster : List (List ℕ)
roster = codes "Event" ∷ codes "Site" ∷ codes "Date" ∷ codes "Round" ∷ codes "White" ∷ codes "Black"
    ∷ codes "Result" ∷ []

-- what is written for a tag of the roster that a game has not: its result, or that it is unknown
-- (PGN 8.1.1)
abbrev pub missing_text : List ℕ → List ℕ → List ℕ
missing_text result name =
    if bytes_eq name (codes "Result") then result
    else (if bytes_eq name (codes "Date") then codes "????.??.??" else codes "?")

-- a byte in a string: a quote and a backslash stand after a backslash, and a tab, which is no
-- printing character, is a space (PGN 7)
abbrev pub escaped : ℕ → List ℕ
escaped b = if (b == 34 || b == 92) then 92 ∷ b ∷ [] else (if b == 9 then 32 ∷ [] else b ∷ [])

-- the value of a string with these contents, as it stands in a string that is written
abbrev pub IsValueText : List ℕ → List ℕ → Type 0
IsValueText contents text = (value : List ℕ) × IsValueOf contents value
    × (text ≡ flat_map escaped value)

-- what is written in the string of a tag: the value of its contents, empty or not, or what stands
-- for a tag that is missing
abbrev pub IsTagText : Option (List ℕ) → List ℕ → List ℕ → Type 0
IsTagText None missing text = text ≡ missing
IsTagText (Some contents) missing text = IsValueText contents text

-- a tag with this name and string, and a line feed: `[Name "text"]` (PGN 8.1)
abbrev pub tag_line : List ℕ → List ℕ → List ℕ
tag_line name text = 91 ∷ name ++ (32 ∷ 34 ∷ text) ++ (34 ∷ 93 ∷ 10 ∷ [])

-- the line of the tag with this name and these contents, or of one that is missing, in a game with
-- this result
abbrev pub IsLineOf : List ℕ → List ℕ → Option (List ℕ) → List ℕ → Type 0
IsLineOf result name contents line =
    (text : List ℕ) × IsTagText contents (missing_text result name) text
    × (line ≡ tag_line name text)

-- the lines of the tags with these names, one below another
abbrev pub AreLinesOf : List (List ℕ × List ℕ) → List ℕ → List (List ℕ) → List ℕ → Type 0
AreLinesOf tags result [] lines = lines ≡ []
AreLinesOf tags result (name ∷ names) lines =
    (line : List ℕ) × (more : List ℕ) × IsLineOf result name (tag_in name tags) line
    × (lines ≡ line ++ more) × AreLinesOf tags result names more

-- the name is one of these
abbrev pub is_among : List (List ℕ) → List ℕ → Bool
is_among names name = list_any (λ other. bytes_eq other name) names

-- the tag is none of the roster and is written beside it: with the roster alone only the tags of
-- the start are, where the game has a FEN tag (PGN 9.7)
abbrev pub is_beside : Style → Bool → List ℕ → Bool
is_beside style has_fen name =
    not (is_among roster name)
    && (not style.roster_only
    || (has_fen && (bytes_eq name (codes "SetUp") || bytes_eq name fen_tag)))

-- the names with those first that are asked for first, in the order in which they are asked for
abbrev pub in_order : List (List ℕ) → List (List ℕ) → List (List ℕ)
in_order [] names = names
in_order (first ∷ more) names = filter (is_among names) (first ∷ more)
    ++ filter (λ name. not (is_among (first ∷ more) name)) names

-- the names of the tags that are written: the roster, and then the others, of which some are asked
-- for first; a game's tags ascend in the bytes of their names
abbrev pub written_names : List (List ℕ) → Style → List (List ℕ × List ℕ) → List (List ℕ)
written_names order style tags = roster
    ++ in_order order (filter (is_beside style (is_some (tag_in fen_tag tags))) (tag_names tags))

-- the tag lines in the style of a game with these tags and this result, where some tags are asked
-- for first
abbrev pub AreTagLines : List (List ℕ) → Style → List (List ℕ × List ℕ) → List ℕ → List ℕ → Type 0
AreTagLines order style tags result lines =
    AreLinesOf tags result (written_names order style tags) lines
