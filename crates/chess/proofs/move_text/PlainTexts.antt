-- Move texts that are a target alone, or a letter and a target.
use Rattle.chess.proofs.Common.{◌≡◌, ◌∙◌, ◌<◌, ◌≤◌, ℕ, true, ap, refl, sym, subst, arith, Option}
use Rattle.chess.proofs.Common.{Some, None, IfSome, MatchOption, List, [], ◌∷◌, ◌++◌, length}
use Rattle.chess.proofs.Common.{get_or, same_Some, Said, Spells, is_of, said_by, IsReadSaid, Digit}
use Rattle.chess.proofs.Common.{FileLetter, KindLetter, Sign, ParsedSan}
use Rattle.chess.specs.Private.SanWords.{SaysPlainly, SaysPawnTakes, IsBeforeCheckSigns}
use Rattle.chess.proofs.ReadingFacts.{given}
use Rattle.chess.proofs.SaidOnceFacts.{one_said}
use Rattle.chess.proofs.SpelledParts.{spelled_parts, said_of}
use Rattle.chess.proofs.TextParts.{Bytes, AreBytes, stem_text}

abbrev plain_bytes : Option ℕ → ℕ → ℕ → Bytes
plain_bytes letter file rank =
    record {
      letter = letter;
      file = None;
      rank = None;
      sign = None;
      target_file =
          file;
      target_rank = rank;
      equals = None;
      promotion = None;
    }

plain_are : (letter : Option ℕ) (file rank : ℕ) → IfSome letter (λ b. is_of KindLetter b ≡ true)
    → is_of FileLetter file ≡ true → is_of Digit rank ≡ true
    → AreBytes (plain_bytes letter file rank)
plain_are letter file rank is_letter is_file is_rank = record {
  letter = is_letter;
  file = tt;
  rank = tt;
  sign = tt;
  target_file = is_file;
  target_rank = is_rank;
  equals = tt;
  promotion = tt;
  plain = λ e. refl;
}

-- a text of two bytes, and of three
two_bytes : (x : List ℕ) → 2 ≤ length x → length x < 3 → x ≡ get_or x 0 0 ∷ get_or x 1 0 ∷ []
two_bytes [] least less = absurd (omega arith)
two_bytes (a ∷ []) least less = absurd (omega arith)
two_bytes (a ∷ b ∷ []) least less = refl
two_bytes (a ∷ b ∷ c ∷ x) least less = absurd (omega arith)

three_bytes : (x : List ℕ) → 3 ≤ length x → length x < 4
    → x ≡ get_or x 0 0 ∷ get_or x 1 0 ∷ get_or x 2 0 ∷ []
three_bytes [] least less = absurd (omega arith)
three_bytes (a ∷ []) least less = absurd (omega arith)
three_bytes (a ∷ b ∷ []) least less = absurd (omega arith)
three_bytes (a ∷ b ∷ c ∷ []) least less = refl
three_bytes (a ∷ b ∷ c ∷ d ∷ x) least less = absurd (omega arith)

four_bytes : (x : List ℕ) → 4 ≤ length x → length x < 5
    → x ≡ get_or x 0 0 ∷ get_or x 1 0 ∷ get_or x 2 0 ∷ get_or x 3 0 ∷ []
four_bytes [] least less = absurd (omega arith)
four_bytes (a ∷ []) least less = absurd (omega arith)
four_bytes (a ∷ b ∷ []) least less = absurd (omega arith)
four_bytes (a ∷ b ∷ c ∷ []) least less = absurd (omega arith)
four_bytes (a ∷ b ∷ c ∷ d ∷ []) least less = refl
four_bytes (a ∷ b ∷ c ∷ d ∷ e ∷ x) least less = absurd (omega arith)

-- ---- before marks

-- a text of these bytes and marks says just what they say
bytes_read : (x y : List ℕ) (b : Bytes) (r : ParsedSan) → AreBytes b → IsBeforeCheckSigns x y
    → y ≡ stem_text b → said_by r ≡ said_of b → IsReadSaid x (Some r)
bytes_read x y b r are marked e says said =
    let own : Spells x (said_by r) =
    subst (Spells x) (sym says)
    (spelled_parts x marked.0 b are marked.1 (marked.2 ∙ ap (λ z. z ++ marked.0) e)) in (
      (λ spells. ap (λ (s : Said). Some s) (one_said x (said_by r) said own spells)),
      (λ same. subst (Spells x) (same_Some (said_by r) said same) own),
    )

stem_plain : (letter : Option ℕ) (file rank : ℕ)
    → given letter ++ file ∷ rank ∷ [] ≡ stem_text (plain_bytes letter file rank)
stem_plain None file rank = refl
stem_plain (Some b) file rank = refl

plainly_marked : (x y : List ℕ) (letter : Option ℕ) (file rank : ℕ) (r : ParsedSan)
    → IsBeforeCheckSigns x y → y ≡ given letter ++ file ∷ rank ∷ []
    → SaysPlainly letter file rank r → IsReadSaid x (Some r)
plainly_marked x y letter file rank r marked e says =
    bytes_read x y (plain_bytes letter file rank) r
    (plain_are letter file rank says.0 says.1 says.2) marked (e
    ∙ stem_plain letter file rank) says.3

pub two_marked : (x y : List ℕ) (r : ParsedSan) → IsBeforeCheckSigns x y → 2 ≤ length y
    → length y < 3
    → SaysPlainly None (get_or y 0 0) (get_or y 1 0) r
    → IsReadSaid x (Some r)
two_marked x y r marked least less says =
    plainly_marked x y None (get_or y 0 0) (get_or y 1 0) r marked (two_bytes y least less) says

pub three_marked : (x y : List ℕ) (r : ParsedSan) → IsBeforeCheckSigns x y → 3 ≤ length y
    → length y < 4
    → SaysPlainly (Some (get_or y 0 0)) (get_or y 1 0) (get_or y 2 0) r → IsReadSaid x (Some r)
three_marked x y r marked least less says =
    plainly_marked x y (Some (get_or y 0 0)) (get_or y 1 0) (get_or y 2 0) r marked
    (three_bytes y least less) says

-- a capture: a file or a letter, x and a target
abbrev taking_bytes : Option ℕ → Option ℕ → ℕ → ℕ → ℕ → Bytes
taking_bytes letter from sign file rank =
    record {
      letter = letter;
      file = from;
      rank = None;
      sign = Some sign;
      target_file =
          file;
      target_rank = rank;
      equals = None;
      promotion = None;
    }

taking_are : (letter from : Option ℕ) (sign file rank : ℕ)
    → IfSome letter (λ b. is_of KindLetter b ≡ true) → IfSome from (λ b. is_of FileLetter b ≡ true)
    → sign ≡ 120 → is_of FileLetter file ≡ true → is_of Digit rank ≡ true
    → AreBytes (taking_bytes letter from sign file rank)
taking_are letter from sign file rank is_letter is_from is_x is_file is_rank = record {
  letter = is_letter;
  file = is_from;
  rank = tt;
  sign = ap (is_of Sign) is_x;
  target_file = is_file;
  target_rank = is_rank;
  equals = tt;
  promotion = tt;
  plain = λ e. refl;
}

pub piece_takes : (x y : List ℕ) (r : ParsedSan) → IsBeforeCheckSigns x y → 4 ≤ length y
    → length y < 5
    → get_or y 1 0 ≡ 120
    → SaysPlainly (Some (get_or y 0 0)) (get_or y 2 0) (get_or y 3 0) r → IsReadSaid x (Some r)
piece_takes x y r marked least less is_x says =
    bytes_read x y
    (taking_bytes (Some (get_or y 0 0)) None (get_or y 1 0) (get_or y 2 0) (get_or y 3 0)) r
    (taking_are (Some (get_or y 0 0)) None (get_or y 1 0) (get_or y 2 0) (get_or y 3 0) says.0 tt
    is_x says.1 says.2) marked (four_bytes y least less) says.3

pub pawn_takes : (x y : List ℕ) (r : ParsedSan) → IsBeforeCheckSigns x y → 4 ≤ length y
    → length y < 5
    → get_or y 1 0 ≡ 120
    → SaysPawnTakes (get_or y 0 0) (get_or y 2 0) (get_or y 3 0) r → IsReadSaid x (Some r)
pawn_takes x y r marked least less is_x says =
    bytes_read x y
    (taking_bytes None (Some (get_or y 0 0)) (get_or y 1 0) (get_or y 2 0) (get_or y 3 0)) r
    (taking_are None (Some (get_or y 0 0)) (get_or y 1 0) (get_or y 2 0) (get_or y 3 0) tt says.0
    is_x says.1 says.2) marked (four_bytes y least less) says.3

-- what is read is of a form
pub answer_weaker : {A B : ParsedSan → Type 0} (o : Option ParsedSan)
    → ((said : ParsedSan) → A said → B said) → MatchOption o (Unit {0}) A
    → MatchOption o (Unit {0}) B
answer_weaker None weaker h = tt
answer_weaker (Some said) weaker h = weaker said h
