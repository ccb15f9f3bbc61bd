-- The longest front of a text that has a property which each front of such a front has.
use Rattle.std.proofs.Math.Nat.{max-eq_left, max-eq_right}
use Rattle.std.specs.Prelude.{max}
use Rattle.pgn_text.proofs.Common.{◌≡◌, ℕ, zero, suc, ◌≤◌, Bool, true, List, [], ◌∷◌, ◌++◌, IsTrue}
use Rattle.pgn_text.proofs.Common.{take, length, refl, sym, ap, subst, ◌∙◌, ◌⊎◌, inl, inr, arith}
use Rattle.pgn_text.proofs.Common.{append-nil, append_assoc, ◌==◌, if◌then◌else◌, list_all, Longest}
use Rattle.pgn_text.proofs.Common.{IsFrontOf, front_length, false≢true, and_parts, and_from}
use Rattle.pgn_text.proofs.Common.{cases_Bool, cases_eq, cases_lt, ne_eqb, eq-eqb}

-- the same by another property
pub longest_same : (P Q : List ℕ → Type 0) (text : List ℕ) (n : ℕ) → ((x : List ℕ) → Q x → P x)
    → ((x : List ℕ) → P x → Q x)
    → Longest Q text n → Longest P text n
longest_same P Q text n to from l =
    record {
      within = l.within;
      here = to (take n text) l.here;
      most =
          λ k low p. l.most k low (from (take k text) p);
    }

-- after one byte
pub longest_after : (P Q : List ℕ → Type 0) (c : ℕ) (rest : List ℕ) (n : ℕ)
    → ((x : List ℕ) → Q x → P (c ∷ x))
    → ((x : List ℕ) → P (c ∷ x) → Q x) → Longest Q rest n → Longest P (c ∷ rest) (suc n)
longest_after P Q c rest n to from l = record {
  within = omega (arith, l.within);
  here = to (take n rest) l.here;
  most = most;
}
  where
    most : (k : ℕ) → k ≤ length (c ∷ rest) → P (take k (c ∷ rest)) → k ≤ suc n
    most zero low p = omega arith
    most (suc k) low p = omega (arith, l.most k (omega (arith, low)) (from (take k rest) p))

-- not even one byte
pub longest_nothing : (P : List ℕ → Type 0) (c : ℕ) (rest : List ℕ) → P []
    → ((x : List ℕ) → P (c ∷ x) → ⊥)
    → Longest P (c ∷ rest) 0
longest_nothing P c rest empty none = record { within = omega arith; here = empty; most = most }
  where
    most : (k : ℕ) → k ≤ length (c ∷ rest) → P (take k (c ∷ rest)) → k ≤ 0
    most zero low p = omega arith
    most (suc k) low p = absurd (none (take k rest) p)

-- one property or the other
longest_either : (P Q : List ℕ → Type 0) (text : List ℕ) (a b n : ℕ) → a ≤ n → b ≤ n
    → ((n ≡ a) ⊎ (n ≡ b))
    → Longest P text a → Longest Q text b → Longest (λ x. P x ⊎ Q x) text n
longest_either P Q text a b n over under one l m = elim one [
  | inl e ↦ record {
    within = omega (arith, l.within, e);
    here = inl (subst (λ k. P (take k text)) (sym e) l.here);
    most = λ k low h. elim h [
      | inl p ↦ omega (arith, l.most k low p, over)
      | inr q ↦ omega (
        arith,
        m.most k low q,
        under,
      )
    ];
  }
  | inr e ↦ record {
    within = omega (arith, m.within, e);
    here = inr (subst (λ k. Q (take k text)) (sym e) m.here);
    most = λ k low h. elim h [
      | inl p ↦ omega (arith, l.most k low p, over)
      | inr q ↦ omega (
        arith,
        m.most k low q,
        under,
      )
    ];
  }
]

pub longest_max : (P Q : List ℕ → Type 0) (text : List ℕ) (a b : ℕ) → Longest P text a
    → Longest Q text b
    → Longest (λ x. P x ⊎ Q x) text (max a b)
longest_max P Q text a b l m = elim (cases_lt a b) [
  | inl less ↦
      let low : a ≤ b = omega (arith, less) in
      rw (max-eq_right low)
      (longest_either P Q text a b b (omega (arith, less)) (omega arith) (inr refl) l m)
  | inr more ↦ rw (max-eq_left more)
      (longest_either P Q text a b a (omega arith) more (inl refl) l m)
]

-- the same by another property of the text's fronts
pub longest_take : (P Q : List ℕ → Type 0) (text : List ℕ) (n : ℕ)
    → ((k : ℕ) → Q (take k text) → P (take k text))
    → ((k : ℕ) → P (take k text) → Q (take k text)) → Longest Q text n → Longest P text n
longest_take P Q text n to from l =
    record { within = l.within; here = to n l.here; most = λ k low p. l.most k low (from k p) }

-- ---- a test that holds of each front of what it holds of

abbrev pub greedy : (List ℕ → Bool) → List ℕ → List ℕ → ℕ
greedy D acc [] = 0
greedy D acc (b ∷ rest) = if D (acc ++ b ∷ []) then suc (greedy D (acc ++ b ∷ []) rest) else 0

pub longest_greedy : (D : List ℕ → Bool) → ((x y : List ℕ) → D (x ++ y) ≡ true → D x ≡ true)
    → (acc text : List ℕ)
    → D acc ≡ true → Longest (λ x. D (acc ++ x) ≡ true) text (greedy D acc text)
longest_greedy D closed acc [] good =
    record { within = omega arith; here = ap D (append-nil acc) ∙ good; most = λ k low p. low }
longest_greedy D closed acc (b ∷ rest) good = elim (cases_Bool (D (acc ++ b ∷ []))) [
  | inl more ↦ rw more
      (longest_after (λ x. D (acc ++ x) ≡ true) (λ x. D ((acc ++ b ∷ []) ++ x) ≡ true) b rest
      (greedy D (acc ++ b ∷ []) rest) (λ x q. ap D (sym (append_assoc acc (b ∷ []) x)) ∙ q)
      (λ x p. ap D (append_assoc acc (b ∷ []) x)
      ∙ p) (longest_greedy D closed (acc ++ b ∷ []) rest more))
  | inr bad ↦ rw bad (longest_nothing (λ x. D (acc ++ x)
      ≡ true) b rest (ap D (append-nil acc) ∙ good)
      (λ x p. false≢true (sym bad
      ∙ closed (acc ++ b ∷ []) x (ap D (append_assoc acc (b ∷ []) x) ∙ p))))
]

-- ---- a word, and after it bytes that pass a test

pub as_far : (test : ℕ → Bool) (w text : List ℕ)
    → Longest (IsFrontOf test w) text (front_length test w text)
as_far test [] [] = record { within = omega arith; here = tt; most = λ k low p. low }
as_far test (c ∷ w) [] = record { within = omega arith; here = tt; most = λ k low p. low }
as_far test [] (b ∷ rest) = elim (cases_Bool (test b)) [
  | inl good ↦ rw good
      (longest_after (IsFrontOf test []) (IsFrontOf test []) b rest (front_length test [] rest)
      (λ x q. (good, q)) (λ x p. p.1)
      (as_far test [] rest))
  | inr bad ↦ rw bad (longest_nothing (IsFrontOf test []) b rest tt (λ x p. let e = p.0 in cc))
]
as_far test (c ∷ w) (b ∷ rest) = elim (cases_eq b c) [
  | inl good ↦
      let is : (b == c) ≡ true = eq-eqb b c good in
      rw is (longest_after (IsFrontOf test (c ∷ w)) (IsFrontOf test w) b rest
      (front_length test w rest) (λ x q. (good, q)) (λ x p. p.1)
      (as_far test w rest))
  | inr bad ↦ rw (ne_eqb b c bad)
      (longest_nothing (IsFrontOf test (c ∷ w)) b rest tt (λ x p. absurd (bad p.0)))
]

-- fronts of these are fronts
pub as_far_front : (test : ℕ → Bool) (w x y : List ℕ) → IsFrontOf test w (x ++ y)
    → IsFrontOf test w x
as_far_front test w [] y h = tt
as_far_front test [] (b ∷ x) y h = (h.0, as_far_front test [] x y h.1)
as_far_front test (c ∷ w) (b ∷ x) y h = (h.0, as_far_front test w x y h.1)

-- the word and such bytes are
pub as_far_whole : (test : ℕ → Bool) (w y : List ℕ) → IsTrue (list_all test y)
    → IsFrontOf test w (w ++ y)
as_far_whole test [] [] all = tt
as_far_whole test [] (b ∷ y) all = let both = and_parts (test b) (list_all test y) all in
    (both.0, as_far_whole test [] y both.1)
as_far_whole test (c ∷ w) y all = (refl, as_far_whole test w y all)

-- and what is a front goes on to the word and such bytes
pub as_far_goes : (test : ℕ → Bool) (w x : List ℕ) → IsFrontOf test w x
    → (more : List ℕ) × (y : List ℕ) × (x ++ more ≡ w ++ y) × IsTrue (list_all test y)
as_far_goes test w [] h = (w, [], sym (append-nil w), refl)
as_far_goes test [] (b ∷ x) h =
    let next = as_far_goes test [] x h.1 in (
      next.0,
      b ∷ next.1,
      ap (λ l. b ∷ l) next.2,
      and_from (test b) (list_all test next.1) h.0 next.3,
    )
as_far_goes test (c ∷ w) (b ∷ x) h =
    let next = as_far_goes test w x h.1 in
    let head : b ∷ (x ++ next.0) ≡ c ∷ (x ++ next.0) = ap (λ k. k ∷ (x ++ next.0)) h.0 in
    (next.0, next.1, head ∙ ap (λ l. c ∷ l) next.2, next.3)
