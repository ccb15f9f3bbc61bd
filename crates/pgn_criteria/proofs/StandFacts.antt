-- What is kept while one man is followed through the codes of a game.
use Rattle.std.proofs.lemmas.List.{length-drop}
use Rattle.pgn_criteria.proofs.Common.{◌≡◌, ◌⊎◌, inl, inr, ◌-◌, ◌≤◌, ◌<◌, ℕ, List, [], ◌∷◌, length}
use Rattle.pgn_criteria.proofs.Common.{take, drop, get_or, arith, refl, ap, ◌∙◌, take_all}
use Rattle.pgn_criteria.proofs.Common.{Placement, is_in-empty, Places, is_in, IsSquaresOf, Man}
use Rattle.pgn_criteria.proofs.Common.{PlyCode, code_of, moved, codes_in, AreTaken, Nowhere}
use Rattle.chess.specs.Public.Sets.{no_places}

-- no square is known to be taken
pub none_taken : (men : Placement) (taken : Places) → taken ≡ no_places → AreTaken men taken
none_taken men taken none s here = let no =
    ap (λ (set : Places). is_in set s) none ∙ is_in-empty s in absurd (cc (no, here))

-- the men that are reached: the man's squares are these, and those are taken. They do not have the
-- fact. Where nothing from there on has it,
-- nothing has it
pub record IsFollowed (fact : Placement
    → Type 0) (man : Man) (men : Placement) (codes : List ℕ) (squares taken : Places)
    (rest : List ℕ) : Type 0 where
  pub now : Placement
  pub his : IsSquaresOf now man squares
  pub known : AreTaken now taken
  pub not_here : ¬ fact now
  pub nowhere : Nowhere fact now (codes_in rest) → Nowhere fact men (codes_in codes)

pub begins : (fact : Placement
    → Type 0) (man : Man) (squares taken : Places) (men : Placement) (codes : List ℕ)
    → IsSquaresOf men man squares → AreTaken men taken → (¬ fact men)
    → IsFollowed fact man men codes squares taken codes
begins fact man squares taken men codes his known never =
    record { now = men; his = his; known = known; not_here = never; nowhere = λ h. h }

pub three : (bytes : List ℕ) → 3 ≤ length bytes
    → codes_in bytes ≡ code_of (get_or bytes 0 0) (get_or bytes 1 0) (get_or bytes 2 0)
    ∷ codes_in (drop 3 bytes)
three [] long = absurd (omega (arith, long))
three (a ∷ []) long = absurd (omega (arith, long))
three (a ∷ b ∷ []) long = absurd (omega (arith, long))
three (a ∷ b ∷ d ∷ rest) long = refl

pub below : (bytes : List ℕ) → length bytes < 3 → codes_in bytes ≡ []
below [] short = refl
below (a ∷ []) short = refl
below (a ∷ b ∷ []) short = refl
below (a ∷ b ∷ d ∷ rest) short = absurd (omega (arith, short))

pub ends : (fact : Placement → Type 0) (man : Man) (squares taken : Places) (men : Placement)
    (codes rest : List ℕ) → IsFollowed fact man men codes squares taken rest → length rest < 3
    → Nowhere fact men (codes_in codes)
ends fact man squares taken men codes rest way short =
    way.nowhere (rw (below rest short) way.not_here)

-- the men after one more ply
abbrev pub next_men : Placement → List ℕ → Placement
next_men men rest = moved men (code_of (get_or rest 0 0) (get_or rest 1 0) (get_or rest 2 0))

pub goes_on : (fact : Placement
    → Type 0) (man : Man) (squares squares' taken taken' : Places) (men : Placement)
    (codes rest rest' : List ℕ) → 3 ≤ length rest → rest' ≡ drop 3 rest
    → (way : IsFollowed fact man men codes squares taken rest)
    → IsSquaresOf (next_men way.now rest) man squares' → AreTaken (next_men way.now rest) taken'
    → (¬ fact (next_men way.now rest)) → IsFollowed fact man men codes squares' taken' rest'
goes_on fact man squares squares' taken taken' men codes rest rest' long same way his known never =
    record {
      now = next_men way.now rest;
      his = his;
      known = known;
      not_here = never;
      nowhere = λ none. way.nowhere (rw (three rest long) (way.not_here, rw (← same) none));
    }

-- what is left after so many bytes
pub rest_after : (k : ℕ) (rest : List ℕ) (n : ℕ) → n ≡ length rest
    → take (n - k) (drop k rest) ≡ drop k rest
rest_after k rest n e = take_all (n - k) (drop k rest) (omega (arith, length-drop k rest))

pub rest_is : (rest : List ℕ) (n : ℕ) → n ≡ length rest → take (n - 3) (drop 3 rest) ≡ drop 3 rest
rest_is = rest_after 3

-- what follows from one fact is nowhere where that is nowhere
pub nowhere_of : (fact other : Placement → Type 0) (men : Placement) (codes : List PlyCode)
    → ((p : Placement) → other p → fact p) → Nowhere fact men codes → Nowhere other men codes
nowhere_of fact other men [] then none = λ h. none (then men h)
nowhere_of fact other men (code ∷ codes) then none =
    (λ h. none.0 (then men h), nowhere_of fact other (moved men code) codes then none.1)

-- and so is the one or the other where both are
pub nowhere_either : (first second : Placement → Type 0) (men : Placement) (codes : List PlyCode)
    → Nowhere first men codes → Nowhere second men codes
    → Nowhere (λ p. first p ⊎ second p) men codes
nowhere_either first second men [] one two = λ either. elim either [ inl h ↦ one h | inr h ↦ two h ]
nowhere_either first second men (code ∷ codes) one two = (
  λ either. elim either [ inl h ↦ one.0 h | inr h ↦ two.0 h ],
  nowhere_either first second (moved men code) codes one.1 two.1,
)
