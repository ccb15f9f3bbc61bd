-- What is settled: it holds, or it is refuted. So is what is made of settled parts, and whether a
-- search over finitely many finds one.
use Rattle.chess.proofs.Common.{◌≡◌, ◌⊎◌, ℕ, zero, suc, ◌<◌, ◌≤◌, Bool, true, false, Option, Some}
use Rattle.chess.proofs.Common.{None, IfSome, refl, sym, ap, ap₂, ◌∙◌, subst, inl, inr, arith, List}
use Rattle.chess.proofs.Common.{[], ◌∷◌, ◌++◌, IsTrue, list_all, cases_eq, cases_lt}

abbrev pub Settled : Type 0 → Type 0
Settled A = A ⊎ (A → ⊥)

-- of two facts that follow from each other either may be settled
pub settled_like : {A B : Type 0} → (A → B) → (B → A) → Settled A → Settled B
settled_like there back (inl a) = inl (there a)
settled_like there back (inr none) = inr (λ b. none (back b))

pub settled_not : {A : Type 0} → Settled A → Settled (A → ⊥)
settled_not (inl a) = inr (λ none. none a)
settled_not (inr none) = inl none

pub settled_both : {A B : Type 0} → Settled A → Settled B → Settled (A × B)
settled_both (inl a) (inl b) = inl (a, b)
settled_both (inl a) (inr none) = inr (λ p. none p.1)
settled_both (inr none) b = inr (λ p. none p.0)

pub settled_three : {A B C : Type 0} → Settled A → Settled B → Settled C → Settled (A × B × C)
settled_three a b c =
    settled_like (λ p. (p.0, p.1.0, p.1.1)) (λ p.
    (p.0, (p.1, p.2))) (settled_both a (settled_both b c))

pub settled_either : {A B : Type 0} → Settled A → Settled B → Settled (A ⊎ B)
settled_either (inl a) b = inl (inl a)
settled_either (inr none) (inl b) = inl (inr b)
settled_either (inr none) (inr no_b) = inr (λ e. elim e [ inl a ↦ none a | inr b ↦ no_b b ])

pub settled_implies : {A B : Type 0} → Settled A → Settled B → Settled (A → B)
settled_implies (inl a) (inl b) = inl (λ x. b)
settled_implies (inl a) (inr none) = inr (λ f. none (f a))
settled_implies (inr none) b = inl (λ a. absurd (none a))

pub settled_if_some : {A : Type 0} (o : Option A) (F : A → Type 0) → ((a : A) → Settled (F a))
    → Settled (IfSome o F)
settled_if_some None F each = inl tt
settled_if_some (Some a) F each = each a

pub settled_le : (a b : ℕ) → Settled (a ≤ b)
settled_le a b = elim (cases_lt b a) [ inl more ↦ inr (λ h. omega arith) | inr less ↦ inl less ]

pub settled_true : (b : Bool) → Settled (b ≡ true)
settled_true true = inl refl
settled_true false = inr (λ e. cc)

-- ---- searches

-- below a bound
pub settled_below : (n : ℕ) (F : ℕ → Type 0) → ((k : ℕ) → k < n → Settled (F k))
    → Settled ((k : ℕ) × (k < n) × F k)
settled_below zero F each = inr (λ p. let h = p.1 in omega arith)
settled_below (suc n) F each = elim (each n (omega arith)) [
  | inl holds ↦ inl (n, omega arith, holds)
  | inr none ↦ elim (settled_below n F (λ k less. each k (omega arith))) [
    | inl found ↦ inl (found.0, omega (arith, found.1), found.2)
    | inr no_other ↦ inr (λ p. elim (cases_eq p.0 n) [
      | inl e ↦ none (subst F e p.2)
      | inr apart ↦ no_other (p.0, (let h = p.1 in omega arith), p.2)
    ])
  ]
]

-- through all values of a type
abbrev pub Search : Type 0 → Type 1
Search A = (F : A → Type 0) → ((a : A) → Settled (F a)) → Settled ((a : A) × F a)

-- where each value comes back from its code, a search through the codes finds each value
pub search_by : {A B : Type 0} (into : A → B) (from : B → A) → ((a : A) → from (into a) ≡ a)
    → Search B → Search A
search_by into from back search F each =
    settled_like (λ h. (from h.0, h.1)) (λ h. (into h.0, subst F (sym (back h.0)) h.1))
    (search (λ b. F (from b)) (λ b. each (from b)))

pub search_pair : {A B : Type 0} → Search A → Search B → Search (A × B)
search_pair {A} {B} first second F each =
    settled_like (λ h. ((h.0, h.1.0), h.1.1)) (λ h. (h.0.0, (h.0.1, h.1)))
    (first (λ a. (b : B) × F (a, b)) (λ a. second (λ b. F (a, b)) (λ b. each (a, b))))

-- through those values of a type of which something holds
abbrev pub SearchIn : (A : Type 0) → (A → Type 0) → Type 1
SearchIn A P = (F : A → Type 0) → ((a : A) → Settled (F a)) → Settled ((a : A) × P a × F a)

abbrev pub IsAny : {A : Type 0} → A → Type 0
IsAny a = Unit {0}

pub search_any : {A : Type 0} → Search A → SearchIn A IsAny
search_any search F each = settled_like (λ h. (h.0, tt, h.1)) (λ h. (h.0, h.2)) (search F each)

pub search_both : {A B : Type 0} (P : A → Type 0) (Q : B → Type 0) → SearchIn A P → SearchIn B Q
    → SearchIn (A × B) (λ c. P c.0 × Q c.1)
search_both {A} {B} P Q first second F each =
    settled_like (λ h. ((h.0, h.2.0), (h.1, h.2.1), h.2.2)) (λ h.
    (h.0.0, h.1.0, (h.0.1, h.1.1, h.2)))
    (first (λ a. (b : B) × Q b × F (a, b)) (λ a. second (λ b. F (a, b)) (λ b. each (a, b))))

a_test : (F : Bool → Type 0) → F true ⊎ F false → (b : Bool) × F b
a_test F (inl h) = (true, h)
a_test F (inr h) = (false, h)

which_test : (F : Bool → Type 0) (b : Bool) → F b → F true ⊎ F false
which_test F true h = inl h
which_test F false h = inr h

pub search_bool : Search Bool
search_bool F each =
    settled_like (a_test F) (λ p. which_test F p.0 p.1) (settled_either (each true) (each false))

an_option : {A : Type 0} (F : Option A → Type 0) → F None ⊎ ((a : A) × F (Some a))
    → (o : Option A) × F o
an_option F (inl h) = (None, h)
an_option F (inr h) = (Some h.0, h.1)

which_option : {A : Type 0} (F : Option A → Type 0) (o : Option A) → F o
    → F None ⊎ ((a : A) × F (Some a))
which_option F None h = inl h
which_option F (Some a) h = inr (a, h)

pub settled_option : {A : Type 0} (F : Option A → Type 0) → Settled (F None)
    → Settled ((a : A) × F (Some a))
    → Settled ((o : Option A) × F o)
settled_option F none some =
    settled_like (an_option F) (λ p. which_option F p.0 p.1) (settled_either none some)

pub search_option : {A : Type 0} → Search A → Search (Option A)
search_option search F each =
    settled_option F (each None) (search (λ a. F (Some a)) (λ a. each (Some a)))

-- what is known of the value that an option holds
pub settled_held : {A : Type 0} (o : Option A) (F : A → Type 0) → ((a : A) → Settled (F a))
    → Settled ((a : A) × (o ≡ Some a) × F a)
settled_held None F each = inr (λ p. let e = p.1 in cc)
settled_held (Some a) F each = elim (each a) [
  | inl holds ↦ inl (a, refl, holds)
  | inr none ↦ inr (λ p. let same : a ≡ p.0 = some_same a p.0 p.1 in none (subst F (sym same) p.2))
]
  where
    some_same : {A : Type 0} (a b : A) → Some a ≡ Some b → a ≡ b
    some_same a b e = cc

-- a text that begins with these bytes, and goes on with bytes that pass the test
pub settled_front : (test : ℕ → Bool) (front x : List ℕ)
    → Settled ((marks : List ℕ) × IsTrue (list_all test marks) × (x ≡ front ++ marks))
settled_front test [] x = elim (settled_true (list_all test x)) [
  | inl all ↦ inl (x, all, refl)
  | inr none ↦ inr (λ p. none (ap (list_all test) p.2 ∙ p.1))
]
settled_front test (b ∷ front) [] = inr (λ p. let e = p.2 in cc)
settled_front test (b ∷ front) (c ∷ x) = elim (cases_eq c b) [
  | inl e ↦ elim (settled_front test front x) [
    | inl found ↦ inl (found.0, found.1, (let f = found.2 in cc))
    | inr none ↦ inr (λ p. none (p.0, p.1, (let f = p.2 in cc)))
  ]
  | inr none ↦ inr (λ p. none (let f = p.2 in cc))
]

-- ---- two values are the same or not

abbrev pub Cases : Type 0 → Type 0
Cases A = (a b : A) → Settled (a ≡ b)

pub cases_by : {A B : Type 0} (into : A → B) (from : B → A) → ((a : A) → from (into a) ≡ a)
    → Cases B → Cases A
cases_by into from back cases a b = elim (cases (into a) (into b)) [
  | inl e ↦ inl (sym (back a) ∙ ap from e ∙ back b)
  | inr none ↦ inr (λ e. none (ap into e))
]

pub cases_pair : {A B : Type 0} → Cases A → Cases B → Cases (A × B)
cases_pair first second a b = elim (first a.0 b.0) [
  | inl e ↦ elim (second a.1 b.1) [
    | inl f ↦ inl (λ i. (e i, f i))
    | inr none ↦ inr (λ same. none (ap (λ p. p.1) same))
  ]
  | inr none ↦ inr (λ same. none (ap (λ p. p.0) same))
]

pub cases_bool : Cases Bool
cases_bool true true = inl refl
cases_bool true false = inr (λ e. cc)
cases_bool false true = inr (λ e. cc)
cases_bool false false = inl refl

pub cases_option : {A : Type 0} → Cases A → Cases (Option A)
cases_option cases None None = inl refl
cases_option cases None (Some b) = inr (λ e. cc)
cases_option cases (Some a) None = inr (λ e. cc)
cases_option cases (Some a) (Some b) = elim (cases a b) [
  | inl e ↦ inl (ap (λ x. Some x) e)
  | inr none ↦ inr (λ same. none cc)
]

pub cases_bytes : Cases (List ℕ)
cases_bytes [] [] = inl refl
cases_bytes [] (b ∷ y) = inr (λ e. cc)
cases_bytes (a ∷ x) [] = inr (λ e. cc)
cases_bytes (a ∷ x) (b ∷ y) = elim (cases_eq a b) [
  | inl e ↦ elim (cases_bytes x y) [
    | inl f ↦ inl (ap₂ (λ (c : ℕ) (z : List ℕ). c ∷ z) e f)
    | inr none ↦ inr (λ same. none cc)
  ]
  | inr none ↦ inr (λ same. none cc)
]
