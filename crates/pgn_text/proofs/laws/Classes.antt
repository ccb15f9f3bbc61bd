-- Classes of bytes that have no byte in common.
use Rattle.pgn_text.proofs.Common.{◌≡◌, ℕ, true, false, arith, nat_tests, ◌==◌, is_white, is_digit}
use Rattle.pgn_text.proofs.Common.{is_letter, is_name_byte, is_word_byte, is_mark, is_gap}
use Rattle.pgn_text.proofs.Common.{is_move_sign, ◌||◌, false}

pub is_white-word : (b : ℕ) → is_word_byte b ≡ true → is_white b ≡ false
is_white-word b word = grind (arith, nat_tests)

pub brace-word : (b : ℕ) → is_word_byte b ≡ true → (b == 123) ≡ false
brace-word b word = grind (arith, nat_tests)

pub semicolon-word : (b : ℕ) → is_word_byte b ≡ true → (b == 59) ≡ false
semicolon-word b word = grind (arith, nat_tests)

pub percent-word : (b : ℕ) → is_word_byte b ≡ true → (b == 37) ≡ false
percent-word b word = grind (arith, nat_tests)

pub order_mark-word : (b : ℕ) → is_word_byte b ≡ true → (b == 239) ≡ false
order_mark-word b word = grind (arith, nat_tests)

pub is_white-mark : (b : ℕ) → is_mark b ≡ true → is_white b ≡ false
is_white-mark b mark = grind (arith, nat_tests)

pub brace-mark : (b : ℕ) → is_mark b ≡ true → (b == 123) ≡ false
brace-mark b mark = grind (arith, nat_tests)

pub semicolon-mark : (b : ℕ) → is_mark b ≡ true → (b == 59) ≡ false
semicolon-mark b mark = grind (arith, nat_tests)

pub percent-mark : (b : ℕ) → is_mark b ≡ true → (b == 37) ≡ false
percent-mark b mark = grind (arith, nat_tests)

pub order_mark-mark : (b : ℕ) → is_mark b ≡ true → (b == 239) ≡ false
order_mark-mark b mark = grind (arith, nat_tests)

pub is_word_byte-mark : (b : ℕ) → is_mark b ≡ true → is_word_byte b ≡ false
is_word_byte-mark b mark = grind (arith, nat_tests)

pub dot-mark : (b : ℕ) → is_mark b ≡ true → (b == 46) ≡ false
dot-mark b mark = grind (arith, nat_tests)

pub dollar-mark : (b : ℕ) → is_mark b ≡ true → (b == 36) ≡ false
dollar-mark b mark = grind (arith, nat_tests)

pub is_name_byte-white : (b : ℕ) → is_white b ≡ true → is_name_byte b ≡ false
is_name_byte-white b white = grind (arith, nat_tests)

pub is_white-name : (b : ℕ) → is_name_byte b ≡ true → is_white b ≡ false
is_white-name b name = grind (arith, nat_tests)

pub is_letter-word : (b : ℕ) → is_letter b ≡ true → is_word_byte b ≡ true
is_letter-word b letter = grind (arith, nat_tests)

pub is_digit-word : (b : ℕ) → is_digit b ≡ true → is_word_byte b ≡ true
is_digit-word b digit = grind (arith, nat_tests)

pub is_letter-digit : (b : ℕ) → is_digit b ≡ true → is_letter b ≡ false
is_letter-digit b digit = grind (arith, nat_tests)

pub is_gap-word : (b : ℕ) → is_gap b ≡ true → is_word_byte b ≡ false
is_gap-word b gap = grind (arith, nat_tests)

pub is_gap-digit : (b : ℕ) → is_gap b ≡ true → is_digit b ≡ false
is_gap-digit b gap = grind (arith, nat_tests)

pub plain-word : (b : ℕ) → ((is_letter b || is_digit b) || is_move_sign b) ≡ true
    → is_word_byte b ≡ true
plain-word b plain = grind (arith, nat_tests)
