-- Words that begin with no letter: how far a text can be the front of one that has a meaning.
use Rattle.std.proofs.Common.{◌≡◌, ℕ, Bool, true, false, List, [], ◌∷◌, ◌++◌, IsTrue, codes, drop}
use Rattle.std.proofs.Common.{length, refl, sym, ap, subst, ◌∙◌, ◌⊎◌, inl, inr, append-nil}
use Rattle.std.specs.Prelude.{◌==◌, ◌&&◌, ◌||◌, not, nat_eq, bytes_eq}
use Rattle.std.specs.List.{list_all, starts_with}
use Rattle.std.proofs.lemmas.Bool.{and_parts, and_from, or_cases, or_left, or_right, eqb-true}
use Rattle.pgn_text.specs.Public.Bytes.{is_digit, is_letter, is_word_byte, is_check_sign, is_empty}
use Rattle.pgn_text.specs.Public.Games.{is_number, is_result_word, is_zero_castling, is_move_text}
use Rattle.pgn_text.specs.Private.PartFronts.{no_byte, IsFrontOf, IsMoveFront, IsResultFront}
use Rattle.pgn_text.proofs.error.Furthest.{as_far_front, as_far_whole, as_far_goes}
use Rattle.pgn_text.proofs.laws.Classes.{is_digit-word}
use Rattle.pgn_text.proofs.TagLemmas.{bytes_eq-same}

-- a word that begins as another and goes on with check signs
castling_far : (w x y : List ℕ) → starts_with nat_eq (x ++ y) w ≡ true
    → list_all is_check_sign (drop (length w) (x ++ y)) ≡ true → IsFrontOf is_check_sign w x
castling_far w x y s all = as_far_front is_check_sign w x y (whole w (x ++ y) s all)
  where
    whole : (w z : List ℕ) → starts_with nat_eq z w ≡ true
        → list_all is_check_sign (drop (length w) z) ≡ true
        → IsFrontOf is_check_sign w z
    whole [] z s all = as_far_whole is_check_sign [] z all
    whole (c ∷ w) [] s all = tt
    whole (c ∷ w) (b ∷ z) s all =
        let both = and_parts (c == b) (starts_with nat_eq z w) s in
        (sym (eqb-true c b both.0), whole w z both.1 all)

word_far : (w x y : List ℕ) → bytes_eq (x ++ y) w ≡ true → IsFrontOf no_byte w x
word_far w x y e = as_far_front no_byte w x y
    (subst (IsFrontOf no_byte w) (append-nil w
    ∙ sym (bytes_eq-same (x ++ y) w e)) (as_far_whole no_byte w [] refl))

-- a word with a meaning that begins with no letter: how its fronts look
pub move_far : (b : ℕ) (x y : List ℕ) → is_letter b ≡ false
    → (is_number ((b ∷ x) ++ y) || is_move_text ((b ∷ x) ++ y)) ≡ true → IsMoveFront (b ∷ x)
move_far b x y letter e =
    elim (or_cases (is_number ((b ∷ x) ++ y)) (is_move_text ((b ∷ x) ++ y)) e) [
      | inl n ↦ inl (inl (as_far_front is_digit [] (b ∷ x) y
          (as_far_whole is_digit [] ((b ∷ x)
          ++ y) (and_parts true (list_all is_digit ((b ∷ x) ++ y)) n).1)))
      | inr m ↦ moved (or_cases (is_letter b
          || is_zero_castling ((b ∷ x) ++ y)) (bytes_eq ((b ∷ x) ++ y) (codes "--")) m)
    ]
  where
    castled : ((starts_with nat_eq ((b ∷ x) ++ y) (codes "0-0-0")
        && list_all is_check_sign (drop 5 ((b ∷ x) ++ y))) ≡ true)
        ⊎ ((starts_with nat_eq ((b ∷ x) ++ y) (codes "0-0")
        && list_all is_check_sign (drop 3 ((b ∷ x) ++ y))) ≡ true)
        → IsMoveFront (b ∷ x)
    castled (inl l) =
        let both = and_parts (starts_with nat_eq ((b ∷ x) ++ y) (codes "0-0-0")) _ l in
        inr (inr (castling_far (codes "0-0-0") (b ∷ x) y both.0 both.1))
    castled (inr r) =
        let both = and_parts (starts_with nat_eq ((b ∷ x) ++ y) (codes "0-0")) _ r in
        inr (inl (castling_far (codes "0-0") (b ∷ x) y both.0 both.1))

    moved : ((is_letter b || is_zero_castling ((b ∷ x) ++ y)) ≡ true)
        ⊎ (bytes_eq ((b ∷ x) ++ y) (codes "--") ≡ true)
        → IsMoveFront (b ∷ x)
    moved (inl l) = castled (or_cases _ _ (rw letter at l))
    moved (inr r) = inl (inr (word_far (codes "--") (b ∷ x) y r))

pub result_far : (x y : List ℕ) → is_result_word (x ++ y) ≡ true → IsResultFront x
result_far x y e =
    elim (or_cases (bytes_eq (x ++ y) (codes "1-0") || bytes_eq (x ++ y) (codes "0-1")) _ e) [
      | inl l ↦ elim (or_cases (bytes_eq (x ++ y) (codes "1-0")) _ l) [
        | inl p ↦ inl (inl (word_far (codes "1-0") x y p))
        | inr q ↦ inl (inr (word_far (codes "0-1") x y q))
      ]
      | inr r ↦ inr (word_far (codes "1/2-1/2") x y r)
    ]

-- ---- and on to a word with a meaning

-- so the bytes go on to a word
pub record GoesOnTo (meaning : List ℕ → Bool) (x : List ℕ) : Type 0 where
  pub more : List ℕ
  pub some : IsTrue (not (is_empty (x ++ more)))
  pub words : IsTrue (list_all is_word_byte (x ++ more))
  pub meant : meaning (x ++ more) ≡ true

all_words : (test : ℕ → Bool) → ((b : ℕ) → test b ≡ true → is_word_byte b ≡ true) → (y : List ℕ)
    → IsTrue (list_all test y) → IsTrue (list_all is_word_byte y)
all_words test within [] all = refl
all_words test within (b ∷ y) all =
    let both = and_parts (test b) (list_all test y) all in
    and_from (is_word_byte b) (list_all is_word_byte y) (within b both.0)
    (all_words test within y both.1)

check_word : (b : ℕ) → is_check_sign b ≡ true → is_word_byte b ≡ true
check_word b e = or_left _ _ (or_right _ _ (or_left _ _ e))

number_goes : (b : ℕ) (x : List ℕ) → IsFrontOf is_digit [] (b ∷ x) → GoesOnTo is_number (b ∷ x)
number_goes b x h =
    let next = as_far_goes is_digit [] (b ∷ x) h in
    let all : list_all is_digit ((b ∷ x) ++ next.0) ≡ true =
    ap (list_all is_digit) next.2 ∙ next.3 in
    record {
      more = next.0;
      some = refl;
      words =
          all_words is_digit is_digit-word ((b ∷ x) ++ next.0) all;
      meant = all;
    }

-- the word and such bytes, if they have the meaning
word_goes : (meaning : List ℕ → Bool) (test : ℕ → Bool) (w x : List ℕ) → IsFrontOf test w x
    → ((y : List ℕ) → IsTrue (list_all test y)
    → IsTrue (not (is_empty (w ++ y))) × IsTrue (list_all is_word_byte (w ++ y))
    × (meaning (w ++ y) ≡ true))
    → GoesOnTo meaning x
word_goes meaning test w x h fits =
    let next = as_far_goes test w x h in
    let good = fits next.1 next.3 in
    record {
      more = next.0;
      some = rw next.2 good.0;
      words = rw next.2 good.1;
      meant =
          rw next.2 good.2;
    }

-- where no byte passes there are none
exact : (meaning : List ℕ → Bool) (w x : List ℕ) → IsTrue (not (is_empty w))
    → IsTrue (list_all is_word_byte w) → meaning w ≡ true
    → IsFrontOf no_byte w x → GoesOnTo meaning x
exact meaning w x some words meant h = word_goes meaning no_byte w x h fits
  where
    fits : (y : List ℕ) → IsTrue (list_all no_byte y)
        → IsTrue (not (is_empty (w ++ y))) × IsTrue (list_all is_word_byte (w ++ y))
        × (meaning (w ++ y) ≡ true)
    fits [] all = rw append-nil (some, words, meant)
    fits (b ∷ y) all = cc

castling : (w x : List ℕ) → IsTrue (not (is_empty w))
    → ((y : List ℕ) → IsTrue (list_all is_check_sign y)
    → IsTrue (list_all is_word_byte (w ++ y)) × (is_move_text (w ++ y) ≡ true))
    → IsTrue (list_all is_word_byte w) → IsFrontOf is_check_sign w x → GoesOnTo is_move_text x
castling w x some meant words h =
    word_goes is_move_text is_check_sign w x h (λ y all.
    (nonempty w some y, (meant y all).0, (meant y all).1))
  where
    nonempty : (w : List ℕ) → IsTrue (not (is_empty w)) → (y : List ℕ)
        → IsTrue (not (is_empty (w ++ y)))
    nonempty [] some y = cc
    nonempty (c ∷ w) some y = refl

pub move_goes : (b : ℕ) (x : List ℕ) → IsMoveFront (b ∷ x)
    → GoesOnTo is_number (b ∷ x) ⊎ GoesOnTo is_move_text (b ∷ x)
move_goes b x (inl (inl h)) = inl (number_goes b x h)
move_goes b x (inl (inr h)) = inr (exact is_move_text (codes "--") (b ∷ x) refl refl refl h)
move_goes b x (inr (inl h)) = inr (castling (codes "0-0") (b ∷ x) refl
    (λ y all. (
      all_words is_check_sign check_word y all,
      or_left _ _ (or_right (starts_with nat_eq (codes "0-0" ++ y) (codes "0-0-0")
          && list_all is_check_sign (drop 5 (codes "0-0" ++ y))) _ all),
    )) refl h)
move_goes b x (inr (inr h)) = inr (castling (codes "0-0-0") (b ∷ x) refl
    (λ y all. (
      all_words is_check_sign check_word y all,
      or_left _ _ (or_left (list_all is_check_sign y) _ all),
    )) refl h)

pub result_goes : (x : List ℕ) → IsResultFront x → GoesOnTo is_result_word x
result_goes x (inl (inl h)) = exact is_result_word (codes "1-0") x refl refl refl h
result_goes x (inl (inr h)) = exact is_result_word (codes "0-1") x refl refl refl h
result_goes x (inr h) = exact is_result_word (codes "1/2-1/2") x refl refl refl h
