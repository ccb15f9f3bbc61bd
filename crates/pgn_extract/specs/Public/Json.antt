-- A string and an object of JSON, and how RFC 8259 reads a string.
use Rattle.std.specs.Prelude.{◌≡◌, ℕ, ◌+◌, ◌-◌, ◌*◌, ◌/◌, ◌%◌, nat_lt, Bool, not, ◌==◌, ◌||◌, ◌&&◌}
use Rattle.std.specs.Prelude.{if◌then◌else◌, List, [], ◌∷◌, ◌++◌, flat_map, IsTrue}
use Rattle.std.specs.List.{list_all}
use Rattle.std.specs.Str.{is_utf8}

-- What is written.

-- the byte does not stand for itself in a string: a control byte, a quote or a backslash
abbrev pub is_special : ℕ → Bool
is_special b = nat_lt b 32 || b == 34 || b == 92

-- the digit of a number below 16, in lower case
abbrev pub hex_digit : ℕ → ℕ
hex_digit n = if nat_lt n 10 then n + 48 else n + 87

-- a byte of a text: `\"`, `\\`, `\u00XX` for a control byte, or the byte itself
abbrev pub escaped : ℕ → List ℕ
escaped b =
    if nat_lt b 32 then 92 ∷ 117 ∷ 48 ∷ 48 ∷ hex_digit (b / 16) ∷ hex_digit (b % 16) ∷ [] else
    (if (b == 34 || b == 92) then 92 ∷ b ∷ [] else b ∷ [])

-- the string of a text
abbrev pub string_text : List ℕ → List ℕ
string_text text = 34 ∷ flat_map escaped text ++ 34 ∷ []

-- a byte that is taken as Latin-1, in UTF-8
abbrev pub latin : ℕ → List ℕ
latin b = if nat_lt b 128 then b ∷ [] else (192 + b / 64) ∷ (128 + b % 64) ∷ []

-- the text of a value: the value itself where it is UTF-8, else each byte taken as Latin-1
abbrev pub text_of : List ℕ → List ℕ
text_of value = if is_utf8 value then value else flat_map latin value

-- a member of an object: its name, whether its value is a number, and the value
pub record Member : Type 0 where
  pub name : List ℕ
  pub is_number : Bool
  pub value : List ℕ

-- the text of a value: digits as they are, or a string
abbrev pub value_text : Bool → List ℕ → List ℕ
value_text is_number value = if is_number then value else string_text (text_of value)

-- the text of a member
abbrev pub member_text : Member → List ℕ
member_text member =
    string_text (text_of member.name) ++ 58 ∷ value_text member.is_number member.value

-- the members after the first one, each after a comma, and what ends the object and its line
abbrev pub later_members : List Member → List ℕ
later_members [] = 125 ∷ 10 ∷ []
later_members (member ∷ more) = 44 ∷ member_text member ++ later_members more

-- an object on a line of its own
abbrev pub object_text : List Member → List ℕ
object_text [] = 123 ∷ later_members []
object_text (member ∷ more) = 123 ∷ member_text member ++ later_members more

-- What RFC 8259 reads (section 7).

-- a byte by itself; a backslash with one of its letters; or a backslash, `u` and four digits
pub data Sign : Type 0 where
  Plain : ℕ → Sign
  Short : ℕ → Sign
  Digits : ℕ → ℕ → ℕ → ℕ → Sign

abbrev pub spelled_sign : Sign → List ℕ
spelled_sign (Plain b) = b ∷ []
spelled_sign (Short c) = 92 ∷ c ∷ []
spelled_sign (Digits a b c d) = 92 ∷ 117 ∷ a ∷ b ∷ c ∷ d ∷ []

-- a letter that may stand after a backslash: `"`, `\`, `/`, `b`, `f`, `n`, `r`, `t`
abbrev pub is_short : ℕ → Bool
is_short c =
    c == 34 || c == 92 || c == 47 || c == 98 || c == 102 || c == 110 || c == 114 || c == 116

-- what it stands for
abbrev pub value_of_short : ℕ → ℕ
value_of_short c =
    if c == 98 then 8 else
    (if c == 102 then 12 else
    (if c == 110 then 10 else (if c == 114 then 13 else (if c == 116 then 9 else c))))

-- a digit of base 16, in either case
abbrev pub is_hex : ℕ → Bool
is_hex d = (not (nat_lt d 48) && nat_lt d 58) || (not (nat_lt d 65) && nat_lt d 71)
    || (not (nat_lt d 97) && nat_lt d 103)

abbrev pub value_of_hex : ℕ → ℕ
value_of_hex d = if nat_lt d 58 then d - 48 else (if nat_lt d 71 then d - 55 else d - 87)

abbrev pub number_of : ℕ → ℕ → ℕ → ℕ → ℕ
number_of a b c d =
    4096 * value_of_hex a + 256 * value_of_hex b + 16 * value_of_hex c + value_of_hex d

-- a character below 65,536 in UTF-8
abbrev pub utf8_of : ℕ → List ℕ
utf8_of n =
    if nat_lt n 128 then n ∷ [] else
    (if nat_lt n 2048 then (192 + n / 64) ∷ (128 + n % 64) ∷ [] else
    (224 + n / 4096) ∷ (128 + n / 64 % 64) ∷ (128 + n % 64) ∷ [])

-- what a sign stands for, in UTF-8
abbrev pub value_of_sign : Sign → List ℕ
value_of_sign (Plain b) = b ∷ []
value_of_sign (Short c) = value_of_short c ∷ []
value_of_sign (Digits a b c d) = utf8_of (number_of a b c d)

-- half of a character from 65,536 on: no sign here, since what is written has none
abbrev pub is_surrogate : ℕ → Bool
is_surrogate n = not (nat_lt n 55296) && nat_lt n 57344

abbrev pub is_sign : Sign → Bool
is_sign (Plain b) = not (is_special b)
is_sign (Short c) = is_short c
is_sign (Digits a b c d) = is_hex a && is_hex b && is_hex c && is_hex d
    && not (is_surrogate (number_of a b c d))

-- the bytes begin with a string that stands for the text, and the rest stands after it
pub record ReadsString (bytes text rest : List ℕ) : Type 0 where
  pub signs : List Sign
  pub each : IsTrue (list_all is_sign signs)
  pub spells : bytes ≡ 34 ∷ flat_map spelled_sign signs ++ 34 ∷ rest
  pub gives : text ≡ flat_map value_of_sign signs
