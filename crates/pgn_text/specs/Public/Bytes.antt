-- Classes of bytes, and what a longest run is. A byte is a number below 256; letters and digits are
-- those of ASCII.
use Rattle.std.specs.Prelude.{ℕ, Bool, true, false, not, ◌&&◌, ◌||◌, ◌==◌, ◌-◌, nat_le, List, []}
use Rattle.std.specs.Prelude.{◌∷◌, length, slice_index, if◌then◌else◌}

-- the number is a byte
abbrev pub is_byte : ℕ → Bool
is_byte b = nat_le b 255

-- white space: tab, line feed, vertical tab, form feed, carriage return and space
abbrev pub is_white : ℕ → Bool
is_white b = (nat_le 9 b && nat_le b 13) || b == 32

-- a decimal digit
abbrev pub is_digit : ℕ → Bool
is_digit b = nat_le 48 b && nat_le b 57

-- a letter, upper or lower case
abbrev pub is_letter : ℕ → Bool
is_letter b = (nat_le 65 b && nat_le b 90) || (nat_le 97 b && nat_le b 122)

-- a byte of a tag's name: a letter, a digit or an underscore
abbrev pub is_name_byte : ℕ → Bool
is_name_byte b = (is_letter b || is_digit b) || b == 95

-- a byte of a word: that of a name, or one of + # = : - /
abbrev pub is_word_byte : ℕ → Bool
is_word_byte b = is_name_byte b || ((b == 43 || b == 35) || (b == 61 || b == 58))
    || (b == 45 || b == 47)

-- a suffix mark: ! or ?
abbrev pub is_mark : ℕ → Bool
is_mark b = b == 33 || b == 63

-- a sign of check or mate after a castling word: + or #
abbrev pub is_check_sign : ℕ → Bool
is_check_sign b = b == 43 || b == 35

-- a byte that may stand in a string: a tab, or anything from the space on but the delete byte
abbrev pub is_plain : ℕ → Bool
is_plain b = b == 9 || (nat_le 32 b && nat_le b 126) || nat_le 128 b

-- a byte that does not end a line
abbrev pub is_not_line_feed : ℕ → Bool
is_not_line_feed b = not (b == 10)

-- a byte that does not end a brace comment
abbrev pub is_not_brace : ℕ → Bool
is_not_brace b = not (b == 125)

-- the text's last byte is a line feed
abbrev pub ends_in_line_feed : List ℕ → Bool
ends_in_line_feed text = slice_index text (length text - 1) == 10

-- the list has no element
abbrev pub is_empty : {X : Type 0} → List X → Bool
is_empty [] = true
is_empty (x ∷ xs) = false

-- the text ends here, or goes on with a byte that fails the test: so a run of bytes before it is as
-- long as it can be
abbrev pub stops : (ℕ → Bool) → List ℕ → Bool
stops test [] = true
stops test (b ∷ rest) = not (test b)

-- the text begins with a byte that passes the test
abbrev pub begins : (ℕ → Bool) → List ℕ → Bool
begins test [] = false
begins test (b ∷ rest) = test b

-- the longest front whose bytes pass the test
abbrev pub run_of : (ℕ → Bool) → List ℕ → List ℕ
run_of test [] = []
run_of test (b ∷ rest) = if test b then b ∷ run_of test rest else []

-- what follows the longest front whose bytes pass the test
abbrev pub after_run : (ℕ → Bool) → List ℕ → List ℕ
after_run test [] = []
after_run test (b ∷ rest) = if test b then after_run test rest else b ∷ rest
