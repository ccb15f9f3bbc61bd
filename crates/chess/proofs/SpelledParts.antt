-- What a move text says and its bytes by their places are the same.
use Rattle.std.specs.Prelude.{if◌then◌else◌}
use Rattle.chess.proofs.Common.{◌≡◌, ◌+◌, ◌-◌, ◌≤◌, ◌⊎◌, ℕ, Bool, true, false, inl, inr, ap, refl}
use Rattle.chess.proofs.Common.{sym, subst, ◌∙◌, arith, Option, Some, None, IfSome, IsTrue, List}
use Rattle.chess.proofs.Common.{[], ◌∷◌, ◌++◌, reverse, option_map, is_some, list_all, append_assoc}
use Rattle.chess.proofs.Common.{append-nil, reverse-reverse, nat_tests, is_check_sign, is_sign}
use Rattle.chess.proofs.Common.{kind_letter, file_letter, rank_digit, Said, Spells, letter_text}
use Rattle.chess.proofs.Common.{file_text, rank_text, promotion_text, IsFileOrRank, IsPromotionKind}
use Rattle.chess.proofs.Common.{Kind, King, Queen, Rook, Bishop, Knight, ByteClass, Sign, Digit}
use Rattle.chess.proofs.Common.{FileLetter, KindLetter, Equals, PromotionLetter}
use Rattle.chess.specs.Private.SanWords.{is_of, before_last, after_target, after_sign, after_letter}
use Rattle.chess.specs.Private.SanWords.{kind_of, last_of, unmarked, stem, after_rank, after_file}
use Rattle.chess.specs.Private.SanWords.{kind_given, number_given, before_equals, after_target_rank}
use Rattle.chess.proofs.ReadingFacts.{given, taken_whole}
use Rattle.chess.proofs.CastlingTextFacts.{marks_of}
use Rattle.chess.proofs.TextParts.{Bytes, AreBytes, IsGivenOf, stem_text, turned_text, turned}

-- ---- the bytes that are found are the whole text

abbrev pub equals_of : Option ℕ → List ℕ → Option ℕ
equals_of None y = None
equals_of (Some b) y = last_of Equals y

abbrev pub found_bytes : List ℕ → ℕ → ℕ → Bytes
found_bytes y file rank = record {
  letter = last_of KindLetter (after_file y);
  file = last_of FileLetter (after_rank y);
  rank = last_of Digit (after_sign y);
  sign = last_of Sign (after_target y);
  target_file = file;
  target_rank = rank;
  equals =
      equals_of (last_of PromotionLetter (unmarked y)) (before_last PromotionLetter (unmarked y));
  promotion = last_of PromotionLetter (unmarked y);
}

equals_whole : (p : Option ℕ) (z : List ℕ)
    → (z ≡ given (equals_of p z) ++ before_equals p z) × IsGivenOf Equals (equals_of p z)
    × (p ≡ None → equals_of p z ≡ None)
equals_whole None z = (refl, tt, (λ e. refl))
equals_whole (Some b) z = ((taken_whole Equals z).0, (taken_whole Equals z).1, (λ e. absurd (cc)))

one_whole : (class : ByteClass) (y : List ℕ) (b : ℕ) → last_of class y ≡ Some b
    → (y ≡ b ∷ before_last class y) × (is_of class b ≡ true)
one_whole class y b e = (
  (taken_whole class y).0 ∙ ap (λ o. given o ++ before_last class y) e,
  subst (λ o. IsGivenOf class o) e (taken_whole class y).1,
)

pub found_are : (y : List ℕ) (file rank : ℕ) → last_of Digit (stem y) ≡ Some rank
    → last_of FileLetter (after_target_rank y) ≡ Some file → AreBytes (found_bytes y file rank)
found_are y file rank has_rank has_file = record {
  letter = (taken_whole KindLetter (after_file y)).1;
  file = (taken_whole FileLetter (after_rank y)).1;
  rank = (taken_whole Digit (after_sign y)).1;
  sign = (taken_whole Sign (after_target y)).1;
  target_file = (one_whole FileLetter (after_target_rank y) file has_file).1;
  target_rank = (one_whole Digit (stem y) rank has_rank).1;
  equals =
      (equals_whole (last_of PromotionLetter (unmarked y))
      (before_last PromotionLetter (unmarked y))).1;
  promotion = (taken_whole PromotionLetter (unmarked y)).1;
  plain = (equals_whole (last_of PromotionLetter (unmarked y))
      (before_last PromotionLetter (unmarked y))).2;
}

found_whole : (y : List ℕ) (file rank : ℕ) → last_of Digit (stem y) ≡ Some rank
    → last_of FileLetter (after_target_rank y) ≡ Some file
    → after_letter y ≡ [] → unmarked y ≡ turned_text (found_bytes y file rank)
found_whole y file rank has_rank has_file rest =
    let b = found_bytes y file rank in
    let letter : after_file y ≡ given b.letter =
    (taken_whole KindLetter (after_file y)).0 ∙ ap (λ z. given b.letter ++ z) rest
    ∙ append-nil (given b.letter) in
    let own_file : after_rank y ≡ given b.file ++ given b.letter =
    (taken_whole FileLetter (after_rank y)).0 ∙ ap (λ z. given b.file ++ z) letter in
    let own_rank = (taken_whole Digit (after_sign y)).0 ∙ ap (λ z. given b.rank ++ z) own_file in
    let sign = (taken_whole Sign (after_target y)).0 ∙ ap (λ z. given b.sign ++ z) own_rank in
    let at_file = (one_whole FileLetter (after_target_rank y) file has_file).0
    ∙ ap (λ z. file ∷ z) sign in
    let at_rank = (one_whole Digit (stem y) rank has_rank).0 ∙ ap (λ z. rank ∷ z) at_file in
    let equals =
    (equals_whole (last_of PromotionLetter (unmarked y))
    (before_last PromotionLetter (unmarked y))).0 ∙ ap (λ z. given b.equals ++ z) at_rank in
    (taken_whole PromotionLetter (unmarked y)).0 ∙ ap (λ z. given b.promotion ++ z) equals

pub found_text : (x : List ℕ) (file rank : ℕ) → last_of Digit (stem (reverse x)) ≡ Some rank
    → last_of FileLetter (after_target_rank (reverse x)) ≡ Some file
    → after_letter (reverse x) ≡ [] → (marks : List ℕ) × IsTrue (list_all is_check_sign marks)
    × (x ≡ stem_text (found_bytes (reverse x) file rank) ++ marks)
found_text x file rank has_rank has_file rest =
    let b = found_bytes (reverse x) file rank in
    let parted = marks_of (reverse x) in
    let front : reverse (unmarked (reverse x)) ≡ stem_text b =
    ap reverse (found_whole (reverse x) file rank has_rank has_file rest)
    ∙ ap reverse (sym (turned b)) ∙ reverse-reverse (stem_text b) in
    (parted.0, parted.1, sym (reverse-reverse x) ∙ parted.2 ∙ ap (λ z. z ++ parted.0) front)

-- ---- letters and numbers

pub kind_byte : (b : ℕ) → is_of KindLetter b ≡ true
    → (b ≡ 75) ⊎ ((b ≡ 81) ⊎ ((b ≡ 82) ⊎ ((b ≡ 66) ⊎ ((b ≡ 78) ⊎ (b ≡ 80)))))
kind_byte b e = grind (arith, nat_tests)

pub promotion_byte : (b : ℕ) → is_of PromotionLetter b ≡ true
    → (b ≡ 81) ⊎ ((b ≡ 82) ⊎ ((b ≡ 66) ⊎ (b ≡ 78)))
promotion_byte b e = grind (arith, nat_tests)

pub file_number : (b : ℕ) → is_of FileLetter b ≡ true
    → (1 ≤ b - 96) × (b - 96 ≤ 8) × (96 + (b - 96) ≡ b)
file_number b e = (grind (arith, nat_tests), grind (arith, nat_tests), grind (arith, nat_tests))

pub rank_number : (b : ℕ) → is_of Digit b ≡ true → (1 ≤ b - 48) × (b - 48 ≤ 8) × (48 + (b - 48) ≡ b)
rank_number b e = (grind (arith, nat_tests), grind (arith, nat_tests), grind (arith, nat_tests))

equals_byte : (b : ℕ) → is_of Equals b ≡ true → b ≡ 61
equals_byte b e = grind (arith, nat_tests)

pub letter_shown : (b : ℕ) → is_of KindLetter b ≡ true → letter_text (kind_of b) ≡ b ∷ []
letter_shown b is = elim (kind_byte b is) [
  | inl e ↦ subst (λ n. letter_text (kind_of n) ≡ n ∷ []) (sym e) refl
  | inr (inl e) ↦ subst (λ n. letter_text (kind_of n) ≡ n ∷ []) (sym e) refl
  | inr (inr (inl e)) ↦ subst (λ n. letter_text (kind_of n) ≡ n ∷ []) (sym e) refl
  | inr (inr (inr (inl e))) ↦ subst (λ n. letter_text (kind_of n) ≡ n ∷ []) (sym e) refl
  | inr (inr (inr (inr (inl e)))) ↦ subst (λ n. letter_text (kind_of n) ≡ n ∷ []) (sym e) refl
  | inr (inr (inr (inr (inr e)))) ↦ subst (λ n. letter_text (kind_of n) ≡ n ∷ []) (sym e) refl
]

-- a byte of a promotion, after a sign = or without one
promotion_of_byte : (b : ℕ) (p : Kind) (equals : Option ℕ) → IsPromotionKind p → kind_of b ≡ Some p
    → kind_letter p ≡ b → IsGivenOf Equals equals
    → IfSome (kind_of b) IsPromotionKind
    × (promotion_text (is_some equals) (kind_of b) ≡ given equals ++ b ∷ [])
promotion_of_byte b p None is e letter none = (
  subst (λ o. IfSome o IsPromotionKind) (sym e) is,
  ap (promotion_text false) e ∙ ap (λ n. n ∷ []) letter,
)
promotion_of_byte b p (Some n) is e letter given_equals = (
  subst (λ o. IfSome o IsPromotionKind) (sym e) is,
  ap (promotion_text true) e ∙ ap (λ n. 61 ∷ n ∷ []) letter
      ∙ ap (λ k. k ∷ b ∷ []) (sym (equals_byte n given_equals)),
)

promotion_shown : (b : ℕ) (equals : Option ℕ) → is_of PromotionLetter b ≡ true
    → IsGivenOf Equals equals
    → IfSome (kind_of b) IsPromotionKind
    × (promotion_text (is_some equals) (kind_of b) ≡ given equals ++ b ∷ [])
promotion_shown b equals is given_equals = elim (promotion_byte b is) [
  | inl e ↦ promotion_of_byte b Queen equals (inl refl) (ap kind_of e) (sym e) given_equals
  | inr (inl e) ↦ promotion_of_byte b Rook equals (inr (inl refl)) (ap kind_of e) (sym e)
      given_equals
  | inr (inr (inl e)) ↦ promotion_of_byte b Bishop equals (inr (inr (inl refl))) (ap kind_of e)
      (sym e) given_equals
  | inr (inr (inr e)) ↦ promotion_of_byte b Knight equals (inr (inr (inr refl))) (ap kind_of e)
      (sym e) given_equals
]

-- ---- what the bytes say

abbrev pub said_of : Bytes → Said
said_of b = record {
  letter = kind_given b.letter;
  file = number_given b.file 96;
  rank = number_given b.rank 48;
  target = record { file = b.target_file - 96; rank = b.target_rank - 48 };
  promote = kind_given b.promotion;
}

letter_given : (o : Option ℕ) → IsGivenOf KindLetter o → letter_text (kind_given o) ≡ given o
letter_given None is = refl
letter_given (Some b) is = letter_shown b is

file_given : (o : Option ℕ) → IsGivenOf FileLetter o
    → IfSome (number_given o 96) IsFileOrRank × (file_text (number_given o 96) ≡ given o)
file_given None is = (tt, refl)
file_given (Some b) is =
    (((file_number b is).0, (file_number b is).1), ap (λ n. n ∷ []) (file_number b is).2)

rank_given : (o : Option ℕ) → IsGivenOf Digit o
    → IfSome (number_given o 48) IsFileOrRank × (rank_text (number_given o 48) ≡ given o)
rank_given None is = (tt, refl)
rank_given (Some b) is =
    (((rank_number b is).0, (rank_number b is).1), ap (λ n. n ∷ []) (rank_number b is).2)

sign_given : (o : Option ℕ) → IsGivenOf Sign o
    → (given o ≡ []) ⊎ ((b : ℕ) × IsTrue (is_sign b) × (given o ≡ b ∷ []))
sign_given None is = inl refl
sign_given (Some b) is = inr (b, is, refl)

promotion_given : (p equals : Option ℕ) → IsGivenOf PromotionLetter p → IsGivenOf Equals equals
    → (p ≡ None → equals ≡ None)
    → IfSome (kind_given p) IsPromotionKind
    × (promotion_text (is_some equals) (kind_given p) ≡ given equals ++ given p)
promotion_given None equals is given_equals plain = (tt, ap (λ o. given o ++ []) (sym (plain refl)))
promotion_given (Some b) equals is given_equals plain = promotion_shown b equals is given_equals

parts_joined : (b : Bytes) (marks : List ℕ) → stem_text b ++ marks
    ≡ given b.letter
    ++ (given b.file
    ++ (given b.rank
    ++ (given b.sign
    ++ (b.target_file ∷ b.target_rank ∷ ((given b.equals ++ given b.promotion) ++ marks)))))
parts_joined b marks = simp (append_assoc)

pub spelled_parts : (x marks : List ℕ) (b : Bytes) → AreBytes b
    → IsTrue (list_all is_check_sign marks) → x ≡ stem_text b ++ marks → Spells x (said_of b)
spelled_parts x marks b are all e =
    let letter = letter_given b.letter are.letter in
    let file = file_given b.file are.file in
    let rank = rank_given b.rank are.rank in
    let target_file = file_number b.target_file are.target_file in
    let target_rank = rank_number b.target_rank are.target_rank in
    let promotion = promotion_given b.promotion b.equals are.promotion are.equals are.plain in
    record {
      file = file.0;
      rank = rank.0;
      target = record {
        file_low = target_file.0;
        file_high = target_file.1;
        rank_low =
            target_rank.0;
        rank_high = target_rank.1;
      };
      promote = promotion.0;
      sign = given b.sign;
      sign_is = sign_given b.sign are.sign;
      equals = is_some b.equals;
      marks = marks;
      marks_are = all;
      text = e ∙ parts_joined b marks
          ∙ sym (λ i. letter i
          ++ (file.1 i
          ++ (rank.1 i
          ++ (given b.sign ++ (target_file.2 i ∷ target_rank.2 i ∷ (promotion.1 i ++ marks))))));
    }

-- ---- the bytes of what a text says

abbrev pub sign_of : List ℕ → Option ℕ
sign_of [] = None
sign_of (b ∷ x) = Some b

abbrev pub equals_byte_of : Bool → Option Kind → Option ℕ
equals_byte_of equals None = None
equals_byte_of equals (Some p) = if equals then Some 61 else None

abbrev pub bytes_of : Said → List ℕ → Bool → Bytes
bytes_of said sign equals = record {
  letter = option_map kind_letter said.letter;
  file = option_map file_letter said.file;
  rank = option_map rank_digit said.rank;
  sign = sign_of sign;
  target_file = file_letter said.target.file;
  target_rank = rank_digit said.target.rank;
  equals = equals_byte_of equals said.promote;
  promotion = option_map kind_letter said.promote;
}

pub letter_is_kind : (k : Kind) → (is_of KindLetter (kind_letter k) ≡ true)
    × (kind_of (kind_letter k) ≡ Some k)
letter_is_kind King = (refl, refl)
letter_is_kind _ = (refl, refl)

said_letter : (o : Option Kind) → IsGivenOf KindLetter (option_map kind_letter o)
    × (letter_text o ≡ given (option_map kind_letter o))
    × (o ≡ kind_given (option_map kind_letter o))
said_letter None = (tt, refl, refl)
said_letter (Some k) = ((letter_is_kind k).0, refl, sym (letter_is_kind k).1)

file_said : (n : ℕ) → IsFileOrRank n → (is_of FileLetter (96 + n) ≡ true) × (n ≡ (96 + n) - 96)
file_said n is = let low = is.0 in let high = is.1 in (grind (arith, nat_tests), omega arith)

rank_said : (n : ℕ) → IsFileOrRank n → (is_of Digit (48 + n) ≡ true) × (n ≡ (48 + n) - 48)
rank_said n is = let low = is.0 in let high = is.1 in (grind (arith, nat_tests), omega arith)

said_file : (o : Option ℕ) → IfSome o IsFileOrRank
    → IsGivenOf FileLetter (option_map file_letter o)
    × (file_text o ≡ given (option_map file_letter o))
    × (o ≡ number_given (option_map file_letter o) 96)
said_file None is = (tt, refl, refl)
said_file (Some n) is = ((file_said n is).0, refl, ap (λ (k : ℕ). Some k) (file_said n is).1)

said_rank : (o : Option ℕ) → IfSome o IsFileOrRank
    → IsGivenOf Digit (option_map rank_digit o) × (rank_text o ≡ given (option_map rank_digit o))
    × (o ≡ number_given (option_map rank_digit o) 48)
said_rank None is = (tt, refl, refl)
said_rank (Some n) is = ((rank_said n is).0, refl, ap (λ (k : ℕ). Some k) (rank_said n is).1)

said_sign : (sign : List ℕ) → (sign ≡ []) ⊎ ((b : ℕ) × IsTrue (is_sign b) × (sign ≡ b ∷ []))
    → IsGivenOf Sign (sign_of sign) × (sign ≡ given (sign_of sign))
said_sign sign (inl e) =
    (subst (λ z. IsGivenOf Sign (sign_of z)) (sym e) tt, e ∙ ap (λ z. given (sign_of z)) (sym e))
said_sign sign (inr (b, is, e)) =
    (subst (λ z. IsGivenOf Sign (sign_of z)) (sym e) is, e ∙ ap (λ z. given (sign_of z)) (sym e))

promotion_letter : (k : Kind) → IsPromotionKind k → is_of PromotionLetter (kind_letter k) ≡ true
promotion_letter k (inl e) = ap (λ p. is_of PromotionLetter (kind_letter p)) e
promotion_letter k (inr (inl e)) = ap (λ p. is_of PromotionLetter (kind_letter p)) e
promotion_letter k (inr (inr (inl e))) = ap (λ p. is_of PromotionLetter (kind_letter p)) e
promotion_letter k (inr (inr (inr e))) = ap (λ p. is_of PromotionLetter (kind_letter p)) e

pub record IsSaidPromotion (o : Option Kind) (equals : Bool) : Type 0 where
  pub given_of : IsGivenOf PromotionLetter (option_map kind_letter o)
  pub equals_are : IsGivenOf Equals (equals_byte_of equals o)
  pub plain : option_map kind_letter o ≡ None → equals_byte_of equals o ≡ None
  pub text : promotion_text equals o ≡ given (equals_byte_of equals o)
      ++ given (option_map kind_letter o)
  pub back : o ≡ kind_given (option_map kind_letter o)

said_promotion : (o : Option Kind) (equals : Bool) → IfSome o IsPromotionKind
    → IsSaidPromotion o equals
said_promotion None equals is =
    record { given_of = tt; equals_are = tt; plain = λ e. refl; text = refl; back = refl }
said_promotion (Some k) true is =
    record {
      given_of = promotion_letter k is;
      equals_are = refl;
      plain = λ e. absurd (cc);
      text =
          refl;
      back = sym (letter_is_kind k).1;
    }
said_promotion (Some k) false is =
    record {
      given_of = promotion_letter k is;
      equals_are = tt;
      plain = λ e. refl;
      text =
          refl;
      back = sym (letter_is_kind k).1;
    }

-- what is said of a text: its bytes, and that they say it
pub record AreSaidBytes (x : List ℕ) (said : Said) : Type 0 where
  pub bytes : Bytes
  pub marks : List ℕ
  pub are : AreBytes bytes
  pub all : IsTrue (list_all is_check_sign marks)
  pub text : x ≡ stem_text bytes ++ marks
  pub back : said ≡ said_of bytes

pub said_bytes : (x : List ℕ) (said : Said) → Spells x said → AreSaidBytes x said
said_bytes x said spells =
    let b = bytes_of said spells.sign spells.equals in
    let letter = said_letter said.letter in
    let file = said_file said.file spells.file in
    let rank = said_rank said.rank spells.rank in
    let sign = said_sign spells.sign spells.sign_is in
    let target_file = file_said said.target.file (spells.target.file_low, spells.target.file_high)
    in
    let target_rank = rank_said said.target.rank (spells.target.rank_low, spells.target.rank_high)
    in
    let promotion = said_promotion said.promote spells.equals spells.promote in record {
      bytes = b;
      marks = spells.marks;
      are = record {
        letter = letter.0;
        file = file.0;
        rank = rank.0;
        sign = sign.0;
        target_file = target_file.0;
        target_rank = target_rank.0;
        equals = promotion.equals_are;
        promotion = promotion.given_of;
        plain = promotion.plain;
      };
      all = spells.marks_are;
      text = spells.text
          ∙ (λ i. letter.1 i
          ++ (file.1 i
          ++ (rank.1 i
          ++ (sign.1 i
          ++ (file_letter said.target.file ∷ rank_digit said.target.rank
          ∷ (promotion.text i ++ spells.marks))))))
          ∙ sym (parts_joined b spells.marks);
      back = λ i. record {
        letter = letter.2 i;
        file = file.2 i;
        rank = rank.2 i;
        target = record { file = target_file.1 i; rank = target_rank.1 i };
        promote = promotion.back i;
      };
    }
