-- Fronts of parts: what the functions of `error_position` answer where no whole part follows.
use Rattle.std.specs.Prelude.{◌≡◌, ℕ, suc, ◌==◌, ◌≤◌, ◌⊎◌, List, [], ◌∷◌, ◌++◌, take, Some, None}
use Rattle.std.specs.Prelude.{Bool, true, false, ◌&&◌, nat_le, if◌then◌else◌, length, codes, Option}
use Rattle.std.specs.List.{list_all}
use Rattle.pgn_text.specs.Public.Bytes.{is_white, is_digit, is_name_byte, is_check_sign, is_plain}
use Rattle.pgn_text.specs.Public.Parts.{Part, Standing, Stands, spelled_part, number_of}
use Rattle.pgn_text.specs.Public.Games.{is_result}
use Rattle.pgn_text.specs.Private.Steps.{State, step}
use Rattle.pgn_text.specs.declared.error.error_position.InTag.{InTag}
use Rattle.pgn_text.specs.declared.error.error_position.InTag.TheVariants.{BeforeName, AfterString}
use Rattle.pgn_text.specs.declared.error.error_position.InTag.TheVariants.{Name, AfterName, Closed}
use Rattle.pgn_text.specs.declared.error.error_position.InTag.TheVariants.{Contents, AfterBackslash}

-- so many of the text's first bytes have the property, and no more
pub record Longest (P : List ℕ → Type 0) (text : List ℕ) (n : ℕ) : Type 0 where
  pub within : n ≤ length text
  pub here : P (take n text)
  pub most : (k : ℕ) → k ≤ length text → P (take k text) → k ≤ n

-- the part may follow in the state
pub record Follows (max_depth : ℕ) (s : State) (p : Part) : Type 0 where
  pub ends : is_result p ≡ true → s.depth ≡ 0
  pub goes_on : is_result p ≡ false → (t : State) × (step max_depth s p ≡ Some t)

-- these bytes are the front of a part that may follow
pub record IsPartFront (max_depth : ℕ) (place : Standing) (s : State) (front : List ℕ) : Type 0
  where
    pub part : Part
    pub more : List ℕ
    pub spelt : spelled_part part ≡ front ++ more
    pub stands : Stands place part []
    pub follows : Follows max_depth s part

-- no part that stands at the front of the text may follow
abbrev pub NoneFollows : ℕ → Standing → State → List ℕ → Type 0
NoneFollows max_depth place s text =
    (p : Part) (rest : List ℕ) → text ≡ spelled_part p ++ rest → Stands place p rest
    → Follows max_depth s p → ⊥

-- no byte
abbrev pub no_byte : ℕ → Bool
no_byte b = false

-- the bytes are a front of the word and of bytes after it that pass the test
abbrev pub IsFrontOf : (ℕ → Bool) → List ℕ → List ℕ → Type 0
IsFrontOf test word [] = Unit {0}
IsFrontOf test [] (b ∷ x) = (test b ≡ true) × IsFrontOf test [] x
IsFrontOf test (c ∷ word) (b ∷ x) = (b ≡ c) × IsFrontOf test word x

-- how many of the text's first bytes are such a front
abbrev pub front_length : (ℕ → Bool) → List ℕ → List ℕ → ℕ
front_length test word [] = 0
front_length test [] (b ∷ rest) = if test b then suc (front_length test [] rest) else 0
front_length test (c ∷ word) (b ∷ rest) = if b == c then suc (front_length test word rest) else 0

-- the bytes are the front of a move number, or of a move that begins with no letter
abbrev pub IsMoveFront : List ℕ → Type 0
IsMoveFront x = (IsFrontOf is_digit [] x ⊎ IsFrontOf no_byte (codes "--") x)
    ⊎ (IsFrontOf is_check_sign (codes "0-0") x ⊎ IsFrontOf is_check_sign (codes "0-0-0") x)

-- the bytes are the front of a result
abbrev pub IsResultFront : List ℕ → Type 0
IsResultFront x = (IsFrontOf no_byte (codes "1-0") x ⊎ IsFrontOf no_byte (codes "0-1") x)
    ⊎ IsFrontOf no_byte (codes "1/2-1/2") x

-- the bytes are the front of a word that begins with no letter; it may be a result where no
-- variation is open
abbrev pub IsWordFront : Bool → List ℕ → Type 0
IsWordFront closed x = IsMoveFront x ⊎ ((closed ≡ true) × IsResultFront x)

-- the bytes are the front of a NAG's digits
abbrev pub is_glyph_front : List ℕ → Bool
is_glyph_front x = list_all is_digit x && (nat_le (length x) 3 && nat_le (number_of x) 255)

-- where in a tag the place after one byte more is, if a tag may have it there
abbrev pub next_in : InTag → ℕ → Option InTag
next_in BeforeName b = if is_white b then Some BeforeName
    else (if is_name_byte b then Some Name else None)
next_in Name b =
    if is_name_byte b then Some Name
    else (if is_white b then Some AfterName else (if b == 34 then Some Contents else None))
next_in AfterName b = if is_white b then Some AfterName
    else (if b == 34 then Some Contents else None)
next_in Contents b =
    if b == 92 then Some AfterBackslash
    else (if b == 34 then Some AfterString else (if is_plain b then Some Contents else None))
next_in AfterBackslash b = if is_plain b then Some Contents else None
next_in AfterString b = if is_white b then Some AfterString
    else (if b == 93 then Some Closed else None)
next_in Closed b = None

-- the bytes go on from there to the tag's end
abbrev pub Ends : InTag → List ℕ → Type 0
Ends s [] = s ≡ Closed
Ends s (b ∷ x) = (t : InTag) × (next_in s b ≡ Some t) × Ends t x

-- with some more bytes they do
abbrev pub IsTagFront : InTag → List ℕ → Type 0
IsTagFront s x = (more : List ℕ) × Ends s (x ++ more)
