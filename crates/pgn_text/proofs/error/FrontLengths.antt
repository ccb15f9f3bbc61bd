-- How long a front of a word and of bytes after it is, counted byte by byte.
use Rattle.pgn_text.proofs.Common.{◌≡◌, ℕ, suc, ◌+◌, ◌<◌, ◌≤◌, Bool, List, [], ◌∷◌, drop, length}
use Rattle.pgn_text.proofs.Common.{refl, ap, inl, inr, arith, ◌==◌, drop_of_length-le, cases_Bool}
use Rattle.pgn_text.proofs.Common.{front_length, no_byte, run_of}

-- the word alone, and bytes after it, as far as the word does not stand whole
pub front_short : (test : ℕ → Bool) (word text : List ℕ)
    → front_length no_byte word text < length word
    → front_length test word text ≡ front_length no_byte word text
front_short test word [] l = refl
front_short test [] (b ∷ text) l = absurd (omega (arith, l))
front_short test (c ∷ word) (b ∷ text) l = elim (cases_Bool (b == c)) [
  | inl e ↦ rw e (ap suc (front_short test word text (let k = rw e at l in omega (arith, k))))
  | inr e ↦ rw e refl
]

-- where it does, the bytes after it are counted on
pub front_whole : (test : ℕ → Bool) (word text : List ℕ)
    → length word ≤ front_length no_byte word text
    → front_length test word text ≡ front_length no_byte word text
    + front_length test [] (drop (front_length no_byte word text) text)
front_whole test word [] l = refl
front_whole test [] (b ∷ text) l = omega arith
front_whole test (c ∷ word) (b ∷ text) l = elim (cases_Bool (b == c)) [
  | inl e ↦
      let deep : front_length test word text ≡ front_length no_byte word text
      + front_length test [] (drop (front_length no_byte word text) text) =
      front_whole test word text (let k = rw e at l in omega (arith, k)) in
      rw e (omega (arith, deep))
  | inr e ↦ absurd (let k = rw e at l in omega (arith, k))
]

nothing_more : (text : List ℕ) → front_length no_byte [] text ≡ 0
nothing_more [] = refl
nothing_more (b ∷ text) = refl

-- the word's end
pub word_end : (word text : List ℕ) (i : ℕ) → length word ≤ i
    → front_length no_byte (drop i word) (drop i text) ≡ 0
word_end word text i past = rw (drop_of_length-le word past) (nothing_more (drop i text))

-- with no word it is the longest run
pub run_front : (test : ℕ → Bool) (text : List ℕ)
    → front_length test [] text ≡ length (run_of test text)
run_front test [] = refl
run_front test (b ∷ text) = elim (cases_Bool (test b)) [
  | inl e ↦ rw e (ap suc (run_front test text))
  | inr e ↦ rw e refl
]
