-- A move text is its bytes by their places, and marks; read from its end, each byte is found at its
-- place.
use Rattle.std.specs.Prelude.{if◌then◌else◌}
use Rattle.chess.proofs.Common.{◌≡◌, ℕ, true, false, ap, refl, ◌∙◌, arith, Option, Some, None}
use Rattle.chess.proofs.Common.{IfSome, IsTrue, List, [], ◌∷◌, ◌++◌, reverse, list_all}
use Rattle.chess.proofs.Common.{append_assoc, reverse-append, nat_tests, is_check_sign, is_of}
use Rattle.chess.proofs.Common.{last_of, before_last, unmarked, before_equals, stem}
use Rattle.chess.proofs.Common.{after_target_rank, after_sign, after_rank, after_file, after_letter}
use Rattle.chess.proofs.Common.{ByteClass, Sign, Digit, FileLetter, KindLetter, Equals}
use Rattle.chess.proofs.Common.{PromotionLetter}
use Rattle.chess.proofs.ReadingFacts.{BeginsOtherwise, given, taken_given, begins_given}
use Rattle.chess.proofs.CastlingTextFacts.{marks_off}

-- the bytes of a text without its marks, by their places
pub record Bytes : Type 0 where
  pub letter : Option ℕ
  pub file : Option ℕ
  pub rank : Option ℕ
  pub sign : Option ℕ
  pub target_file : ℕ
  pub target_rank : ℕ
  pub equals : Option ℕ
  pub promotion : Option ℕ

-- a byte that is given is of the class
abbrev pub IsGivenOf : ByteClass → Option ℕ → Type 0
IsGivenOf class o = IfSome o (λ b. is_of class b ≡ true)

pub record AreBytes (b : Bytes) : Type 0 where
  pub letter : IsGivenOf KindLetter b.letter
  pub file : IsGivenOf FileLetter b.file
  pub rank : IsGivenOf Digit b.rank
  pub sign : IsGivenOf Sign b.sign
  pub target_file : is_of FileLetter b.target_file ≡ true
  pub target_rank : is_of Digit b.target_rank ≡ true
  pub equals : IsGivenOf Equals b.equals
  pub promotion : IsGivenOf PromotionLetter b.promotion
  pub plain : b.promotion ≡ None → b.equals ≡ None

-- the text, and the text from its end
abbrev pub stem_text : Bytes → List ℕ
stem_text b = given b.letter
    ++ (given b.file
    ++ (given b.rank
    ++ (given b.sign ++ (b.target_file ∷ b.target_rank ∷ (given b.equals ++ given b.promotion)))))

abbrev pub before_file : Bytes → List ℕ
before_file b = given b.file ++ given b.letter

abbrev pub before_rank : Bytes → List ℕ
before_rank b = given b.rank ++ before_file b

abbrev pub before_sign : Bytes → List ℕ
before_sign b = given b.sign ++ before_rank b

abbrev pub before_promotion : Bytes → List ℕ
before_promotion b = b.target_rank ∷ b.target_file ∷ before_sign b

abbrev pub turned_text : Bytes → List ℕ
turned_text b = given b.promotion ++ (given b.equals ++ before_promotion b)

given_turned : (o : Option ℕ) → reverse (given o) ≡ given o
given_turned None = refl
given_turned (Some b) = refl

turn : (a : Option ℕ) (x y : List ℕ) → reverse x ≡ y → reverse (given a ++ x) ≡ y ++ given a
turn a x y e = reverse-append (given a) x ∙ ap (λ z. z ++ reverse (given a)) e
    ∙ ap (λ z. y ++ z) (given_turned a)

pair_turned : (f r : ℕ) (x y : List ℕ) → reverse x ≡ y → reverse (f ∷ r ∷ x) ≡ y ++ r ∷ f ∷ []
pair_turned f r x y e = reverse-append (f ∷ r ∷ []) x ∙ ap (λ z. z ++ r ∷ f ∷ []) e

pub turned : (b : Bytes) → reverse (stem_text b) ≡ turned_text b
turned b =
    let ends : reverse (given b.equals ++ given b.promotion) ≡ given b.promotion ++ given b.equals =
    turn b.equals (given b.promotion) (given b.promotion) (given_turned b.promotion) in
    let target =
    pair_turned b.target_file b.target_rank (given b.equals
    ++ given b.promotion) (given b.promotion ++ given b.equals) ends in
    let sign = turn b.sign _ _ target in
    let rank = turn b.rank _ _ sign in
    let file = turn b.file _ _ rank in
    let letter = turn b.letter _ _ file in
    letter ∙ simp (append_assoc)

-- the text reads so from its end
pub record ReadAs (y : List ℕ) (b : Bytes) : Type 0 where
  pub promotion : last_of PromotionLetter (unmarked y) ≡ b.promotion
  pub target_rank : last_of Digit (stem y) ≡ Some b.target_rank
  pub target_file : last_of FileLetter (after_target_rank y) ≡ Some b.target_file
  pub rank : last_of Digit (after_sign y) ≡ b.rank
  pub file : last_of FileLetter (after_rank y) ≡ b.file
  pub letter : last_of KindLetter (after_file y) ≡ b.letter
  pub rest : after_letter y ≡ []

-- ---- which class a byte is not of

pub digit_apart : (b : ℕ) → is_of Digit b ≡ true
    → (is_of PromotionLetter b ≡ false) × (is_of Equals b ≡ false) × (is_of Sign b ≡ false)
    × (is_check_sign b ≡ false)
digit_apart b e = (
  grind (arith, nat_tests),
  grind (arith, nat_tests),
  grind (arith, nat_tests),
  grind (arith, nat_tests),
)

pub file_apart : (b : ℕ) → is_of FileLetter b ≡ true
    → (is_of Digit b ≡ false) × (is_of Sign b ≡ false)
file_apart b e = (grind (arith, nat_tests), grind (arith, nat_tests))

pub equals_apart : (b : ℕ) → is_of Equals b ≡ true
    → (is_of PromotionLetter b ≡ false) × (is_check_sign b ≡ false)
equals_apart b e = (grind (arith, nat_tests), grind (arith, nat_tests))

pub promotion_apart : (b : ℕ) → is_of PromotionLetter b ≡ true → is_check_sign b ≡ false
promotion_apart b e = grind (arith, nat_tests)

pub kind_apart : (b : ℕ) → is_of KindLetter b ≡ true
    → (is_of FileLetter b ≡ false) × (is_of Digit b ≡ false) × (is_of Sign b ≡ false)
kind_apart b e = (grind (arith, nat_tests), grind (arith, nat_tests), grind (arith, nat_tests))

apart_from : (class other : ByteClass) (o : Option ℕ)
    → ((b : ℕ) → is_of class b ≡ true → is_of other b ≡ false) → IsGivenOf class o
    → IfSome o (λ b. is_of other b ≡ false)
apart_from class other None apart is = tt
apart_from class other (Some b) apart is = apart b is

begins_alone : (class : ByteClass) (o : Option ℕ) → IfSome o (λ b. is_of class b ≡ false)
    → BeginsOtherwise class (given o)
begins_alone class None other = tt
begins_alone class (Some b) other = other

taken_alone : (class : ByteClass) (o : Option ℕ) → IsGivenOf class o
    → (last_of class (given o) ≡ o) × (before_last class (given o) ≡ [])
taken_alone class None is = (refl, refl)
taken_alone class (Some b) is =
    (ap (λ t. if t then Some b else None) is, ap (λ t. if t then [] else b ∷ []) is)

-- ---- reading from the end

head_stays : (n : ℕ) (y : List ℕ) → is_check_sign n ≡ false → unmarked (n ∷ y) ≡ n ∷ y
head_stays n y e = ap (λ t. if t then unmarked y else n ∷ y) e

unmarked_parts : (p e : Option ℕ) (n : ℕ) (y : List ℕ) → IsGivenOf PromotionLetter p
    → IsGivenOf Equals e → is_check_sign n ≡ false
    → unmarked (given p ++ (given e ++ n ∷ y)) ≡ given p ++ (given e ++ n ∷ y)
unmarked_parts (Some b) e n y is equals rank =
    head_stays b (given e ++ n ∷ y) (promotion_apart b is)
unmarked_parts None (Some b) n y is equals rank = head_stays b (n ∷ y) (equals_apart b equals).1
unmarked_parts None None n y is equals rank = head_stays n y rank

unmarked_turned : (b : Bytes) → AreBytes b → unmarked (turned_text b) ≡ turned_text b
unmarked_turned b are =
    unmarked_parts b.promotion b.equals b.target_rank (b.target_file
    ∷ before_sign b) are.promotion are.equals (digit_apart b.target_rank are.target_rank).3

promotion_taken : (b : Bytes) → AreBytes b
    → (last_of PromotionLetter (turned_text b) ≡ b.promotion)
    × (before_last PromotionLetter (turned_text b) ≡ given b.equals ++ before_promotion b)
promotion_taken b are =
    taken_given PromotionLetter b.promotion (given b.equals ++ before_promotion b) are.promotion
    (begins_given PromotionLetter b.equals (before_promotion b)
    (apart_from Equals PromotionLetter b.equals (λ n e. (equals_apart n e).0) are.equals)
    (digit_apart b.target_rank are.target_rank).0)

equals_dropped : (p e : Option ℕ) (y : List ℕ) → (p ≡ None → e ≡ None)
    → before_last Equals (given e ++ y) ≡ y → before_equals p (given e ++ y) ≡ y
equals_dropped None e y plain dropped = ap (λ o. given o ++ y) (plain refl)
equals_dropped (Some b) e y plain dropped = dropped

equals_taken : (b : Bytes) → AreBytes b
    → before_equals b.promotion (given b.equals ++ before_promotion b) ≡ before_promotion b
equals_taken b are =
    equals_dropped b.promotion b.equals (before_promotion b) are.plain
    (taken_given Equals b.equals (before_promotion b) are.equals
    (digit_apart b.target_rank are.target_rank).1).1

stem_read : (y : List ℕ) (b : Bytes) → AreBytes b → unmarked y ≡ turned_text b
    → stem y ≡ before_promotion b
stem_read y b are e =
    ap (λ z. before_equals (last_of PromotionLetter z) (before_last PromotionLetter z)) e
    ∙ ap (λ o. before_equals o (before_last PromotionLetter (turned_text b)))
    (promotion_taken b are).0
    ∙ ap (before_equals b.promotion) (promotion_taken b are).1
    ∙ equals_taken b are

rank_taken : (b : Bytes) → AreBytes b → (last_of Digit (before_promotion b) ≡ Some b.target_rank)
    × (before_last Digit (before_promotion b) ≡ b.target_file ∷ before_sign b)
rank_taken b are =
    taken_given Digit (Some b.target_rank) (b.target_file
    ∷ before_sign b) are.target_rank (file_apart b.target_file are.target_file).0

file_taken : (b : Bytes) → AreBytes b
    → (last_of FileLetter (b.target_file ∷ before_sign b) ≡ Some b.target_file)
    × (before_last FileLetter (b.target_file ∷ before_sign b) ≡ before_sign b)
file_taken b are = (
  ap (λ t. if t then Some b.target_file else None) are.target_file,
  ap (λ t. if t then before_sign b else b.target_file ∷ before_sign b) are.target_file,
)

letter_begins : (class : ByteClass) (b : Bytes) → AreBytes b
    → ((n : ℕ) → is_of KindLetter n ≡ true → is_of class n ≡ false)
    → BeginsOtherwise class (given b.letter)
letter_begins class b are apart =
    begins_alone class b.letter (apart_from KindLetter class b.letter apart are.letter)

sign_taken : (b : Bytes) → AreBytes b → (last_of Sign (before_sign b) ≡ b.sign)
    × (before_last Sign (before_sign b) ≡ before_rank b)
sign_taken b are =
    taken_given Sign b.sign (before_rank b) are.sign
    (begins_given Sign b.rank (before_file b)
    (apart_from Digit Sign b.rank (λ n e. (digit_apart n e).2) are.rank)
    (begins_given Sign b.file (given b.letter)
    (apart_from FileLetter Sign b.file (λ n e. (file_apart n e).1) are.file)
    (letter_begins Sign b are (λ n e. (kind_apart n e).2))))

own_rank_taken : (b : Bytes) → AreBytes b
    → (last_of Digit (before_rank b) ≡ b.rank) × (before_last Digit (before_rank b) ≡ before_file b)
own_rank_taken b are =
    taken_given Digit b.rank (before_file b) are.rank
    (begins_given Digit b.file (given b.letter)
    (apart_from FileLetter Digit b.file (λ n e. (file_apart n e).0) are.file)
    (letter_begins Digit b are (λ n e. (kind_apart n e).1)))

own_file_taken : (b : Bytes) → AreBytes b
    → (last_of FileLetter (before_file b) ≡ b.file)
    × (before_last FileLetter (before_file b) ≡ given b.letter)
own_file_taken b are =
    taken_given FileLetter b.file (given b.letter) are.file
    (letter_begins FileLetter b are (λ n e. (kind_apart n e).0))

read_turned : (y : List ℕ) (b : Bytes) → AreBytes b → unmarked y ≡ turned_text b → ReadAs y b
read_turned y b are e =
    let at_stem = stem_read y b are e in
    let at_file = ap (before_last Digit) at_stem ∙ (rank_taken b are).1 in
    let at_sign = ap (before_last FileLetter) at_file ∙ (file_taken b are).1 in
    let at_rank = ap (before_last Sign) at_sign ∙ (sign_taken b are).1 in
    let at_own_file = ap (before_last Digit) at_rank ∙ (own_rank_taken b are).1 in
    let at_letter = ap (before_last FileLetter) at_own_file ∙ (own_file_taken b are).1 in record {
      promotion = ap (last_of PromotionLetter) e ∙ (promotion_taken b are).0;
      target_rank = ap (last_of Digit) at_stem ∙ (rank_taken b are).0;
      target_file = ap (last_of FileLetter) at_file ∙ (file_taken b are).0;
      rank = ap (last_of Digit) at_rank ∙ (own_rank_taken b are).0;
      file = ap (last_of FileLetter) at_own_file ∙ (own_file_taken b are).0;
      letter = ap (last_of KindLetter) at_letter ∙ (taken_alone KindLetter b.letter are.letter).0;
      rest = ap (before_last KindLetter) at_letter ∙ (taken_alone KindLetter b.letter are.letter).1;
    }

pub read_text : (x marks : List ℕ) (b : Bytes) → AreBytes b → IsTrue (list_all is_check_sign marks)
    → x ≡ stem_text b ++ marks → ReadAs (reverse x) b
read_text x marks b are all e =
    read_turned (reverse x) b are
    (ap (λ z. unmarked (reverse z)) e ∙ marks_off marks (stem_text b) all ∙ ap unmarked (turned b)
    ∙ unmarked_turned b are)
