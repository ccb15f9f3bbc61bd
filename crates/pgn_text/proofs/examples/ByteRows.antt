-- Worked rows of the classes of bytes, of runs and of strings. A class is held by all its bytes.
use Rattle.std.specs.List.{filter}
use Rattle.pgn_text.proofs.Common.{◌≡◌, ℕ, zero, suc, ◌+◌, Bool, true, false, not, List, [], ◌∷◌}
use Rattle.pgn_text.proofs.Common.{◌++◌, codes, refl, is_byte, is_white, is_digit, is_letter}
use Rattle.pgn_text.proofs.Common.{is_name_byte, is_word_byte, is_mark, is_check_sign, is_plain}
use Rattle.pgn_text.proofs.Common.{is_not_line_feed, is_not_brace, ends_in_line_feed, is_empty}
use Rattle.pgn_text.proofs.Common.{stops, begins, run_of, after_run, is_open_brace, is_open_bracket}
use Rattle.pgn_text.proofs.Common.{is_quote, Single, Escaped, spelled_sign, is_sign, value_of_sign}

-- so many numbers in a row
abbrev numbers : ℕ → ℕ → List ℕ
numbers first zero = []
numbers first (suc count) = first ∷ numbers (first + 1) count

-- the bytes of a class, in their order
abbrev bytes_in : (ℕ → Bool) → List ℕ
bytes_in test = filter test (numbers 0 256)

bytes : filter is_byte (numbers 250 9) ≡ numbers 250 6
bytes = refl

white_bytes : bytes_in is_white ≡ 9 ∷ 10 ∷ 11 ∷ 12 ∷ 13 ∷ 32 ∷ []
white_bytes = refl

digits : bytes_in is_digit ≡ codes "0123456789"
digits = refl

letters : bytes_in is_letter ≡ codes "ABCDEFGHIJKLMNOPQRSTUVWXYZabcdefghijklmnopqrstuvwxyz"
letters = refl

name_bytes :
    bytes_in is_name_byte ≡ codes "0123456789ABCDEFGHIJKLMNOPQRSTUVWXYZ_abcdefghijklmnopqrstuvwxyz"
name_bytes = refl

word_bytes :
    bytes_in is_word_byte
    ≡ codes "#+-/0123456789:=ABCDEFGHIJKLMNOPQRSTUVWXYZ_abcdefghijklmnopqrstuvwxyz"
word_bytes = refl

marks : bytes_in is_mark ≡ codes "!?"
marks = refl

check_marks : bytes_in is_check_sign ≡ codes "#+"
check_marks = refl

bytes_of_strings : bytes_in (λ b. not (is_plain b)) ≡ numbers 0 9 ++ numbers 10 22 ++ 127 ∷ []
bytes_of_strings = refl

ends_of_lines : bytes_in (λ b. not (is_not_line_feed b)) ≡ 10 ∷ []
ends_of_lines = refl

closing_braces : bytes_in (λ b. not (is_not_brace b)) ≡ codes "}"
closing_braces = refl

opening_braces : bytes_in is_open_brace ≡ codes "{"
opening_braces = refl

opening_brackets : bytes_in is_open_bracket ≡ codes "["
opening_brackets = refl

quotes : bytes_in is_quote ≡ 34 ∷ []
quotes = refl

-- the last byte of a text is asked, and not its first
line_is_ended : ends_in_line_feed (97 ∷ 10 ∷ []) ≡ true
line_is_ended = refl

line_goes_on : ends_in_line_feed (10 ∷ 97 ∷ []) ≡ false
line_goes_on = refl

no_text_ends_no_line : ends_in_line_feed [] ≡ false
no_text_ends_no_line = refl

nothing_is_empty : is_empty (codes "") ≡ true
nothing_is_empty = refl

something_is_not_empty : is_empty (codes "a") ≡ false
something_is_not_empty = refl

-- a run stops at the end, and before a byte that is not of its class
run_stops_at_the_end : stops is_digit [] ≡ true
run_stops_at_the_end = refl

run_stops_at_a_letter : stops is_digit (codes "a1") ≡ true
run_stops_at_a_letter = refl

run_goes_on : stops is_digit (codes "1a") ≡ false
run_goes_on = refl

nothing_begins : begins is_digit [] ≡ false
nothing_begins = refl

digit_begins : begins is_digit (codes "1a") ≡ true
digit_begins = refl

letter_begins : begins is_digit (codes "a1") ≡ false
letter_begins = refl

run_of_digits : run_of is_digit (codes "12a3") ≡ codes "12"
run_of_digits = refl

after_digits : after_run is_digit (codes "12a3") ≡ codes "a3"
after_digits = refl

-- a backslash takes the byte after it with it
byte_spelled : spelled_sign (Single 97) ≡ codes "a"
byte_spelled = refl

quote_spelled : spelled_sign (Escaped 34) ≡ 92 ∷ 34 ∷ []
quote_spelled = refl

-- by themselves stand all bytes of strings but the quote and the backslash
bytes_alone :
    filter (λ b. not (is_sign (Single b))) (numbers 32 95) ≡ 34 ∷ 92 ∷ []
bytes_alone = refl

no_line_feed_alone : is_sign (Single 10) ≡ false
no_line_feed_alone = refl

bytes_after_backslashes : filter (λ b. not (is_sign (Escaped b))) (numbers 32 96) ≡ 127 ∷ []
bytes_after_backslashes = refl

-- a quote and a backslash lose the backslash before them, and other bytes do not
byte_meant : value_of_sign (Single 97) ≡ codes "a"
byte_meant = refl

quote_meant : value_of_sign (Escaped 34) ≡ 34 ∷ []
quote_meant = refl

backslash_meant : value_of_sign (Escaped 92) ≡ 92 ∷ []
backslash_meant = refl

letter_meant : value_of_sign (Escaped 97) ≡ 92 ∷ 97 ∷ []
letter_meant = refl
