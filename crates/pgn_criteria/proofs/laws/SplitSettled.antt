-- Whether squares can be split among items, and so whether a position fits a pattern, is settled.
use Rattle.pgn_criteria.proofs.Common.{◌≡◌, ◌⊎◌, ℕ, ◌-◌, List, [], ◌∷◌, ◌++◌, length, Option, Some}
use Rattle.pgn_criteria.proofs.Common.{None, IsTrue, refl, sym, ap, subst, inl, inr, cases_eq}
use Rattle.pgn_criteria.proofs.Common.{same_Some, Placement, row, parted_at, Man, Settled}
use Rattle.pgn_criteria.proofs.Common.{settled_like, settled_both, settled_either, settled_le}
use Rattle.pgn_criteria.proofs.Common.{settled_held, settled_not, settled_true, cases_bytes}
use Rattle.pgn_criteria.proofs.Common.{cases_side, AreMen, IsStretch, CanBeSplit, FitRanks}
use Rattle.pgn_criteria.proofs.Common.{FitsPattern, is_letter, IsItem, items_of, IsOf, EachOf, Fits}
use Rattle.pgn_criteria.proofs.Common.{Reads, item_of, has_man, men_in, SquareTest, Empty, This}
use Rattle.pgn_criteria.proofs.Common.{Not, Any, Occupied, Of, Among, Other, Item, Run, Many}
use Rattle.pgn_criteria.proofs.Common.{spelled, among, other, list_all}
use Rattle.chess.proofs.Settled.{settled_three, cases_option}
use Rattle.chess.proofs.Searches.{cases_man}
use Rattle.pgn_criteria.proofs.ItemFacts.{item_exact, no_stretch}
use Rattle.pgn_criteria.proofs.SetFacts.{first_of, rest_of, among_read, other_read, no_set}
use Rattle.pgn_criteria.proofs.SetFacts.{same_after}

-- ---- whether an item takes squares

settled_class : (class : SquareTest) (square : Option Man) → Settled (IsOf class square)
settled_class Empty square = cases_option cases_man square None
settled_class (This man) square = cases_option cases_man square (Some man)
settled_class (Not man) square = settled_not (cases_option cases_man square (Some man))
settled_class Any square = inl tt
settled_class Occupied square =
    settled_like (λ h. (h.0, h.1)) (λ h.
    (h.0, h.1, tt)) (settled_held square (λ man. Unit {0}) (λ man. inl tt))
settled_class (Of side) square =
    settled_held square (λ man. man.side ≡ side) (λ man. cases_side man.side side)
settled_class (Among men) square =
    settled_held square (λ man. IsTrue (has_man men man)) (λ man. settled_true (has_man men man))
settled_class (Other men) None = inl (λ man has is. cc)
settled_class (Other men) (Some man) =
    settled_like (λ none other has is.
    none (subst (λ m. IsTrue (has_man men m)) (same_Some other man (sym is)) has))
    (λ none has. none man has refl)
    (settled_not (settled_true (has_man men man)))

settled_each : (class : SquareTest) (squares : List (Option Man)) → Settled (EachOf class squares)
settled_each class [] = inl tt
settled_each class (square ∷ more) =
    settled_both (settled_class class square) (settled_each class more)

settled_fits : (item : Item) (own : List (Option Man)) → Settled (Fits item own)
settled_fits (Run class count) own =
    settled_both (cases_eq (length own) count) (settled_each class own)
settled_fits Many own = inl tt

settled_read : (text : List ℕ) (item : Item) (own : List (Option Man)) → Reads text item
    → Settled (IsStretch text own)
settled_read text item own reads =
    settled_like (reads.1 own).1 (reads.1 own).0 (settled_fits item own)

settled_no : (text : List ℕ) (own : List (Option Man)) → (IsItem text → ⊥)
    → Settled (IsStretch text own)
settled_no text own none = inr (λ stretch. none (own, stretch))

-- what stands between brackets
settled_men : (letters : List ℕ) → Settled (AreMen letters)
settled_men letters =
    settled_both (settled_not (cases_bytes letters [])) (settled_true (list_all is_letter letters))

settled_other : (letters : List ℕ) (own : List (Option Man)) → (AreMen (94 ∷ letters) → ⊥)
    → Settled (AreMen letters) → Settled (IsStretch (91 ∷ 94 ∷ (letters ++ 93 ∷ [])) own)
settled_other letters own no_men (inl are) =
    settled_read (91 ∷ 94 ∷ (letters ++ 93 ∷ [])) (Run (Other (men_in letters)) 1) own
    (other_read letters are)
settled_other letters own no_men (inr none) =
    settled_no (91 ∷ 94 ∷ (letters ++ 93 ∷ [])) own
    (no_set (94 ∷ letters) no_men (λ rest is are.
    none (subst AreMen (sym (same_after letters rest (94 ∷ letters) refl is)) are)))

settled_apart : (inside : List ℕ) (own : List (Option Man)) → (AreMen inside → ⊥)
    → Settled (IsStretch (91 ∷ (inside ++ 93 ∷ [])) own)
settled_apart [] own no_men =
    settled_no (91 ∷ 93 ∷ []) own (no_set [] no_men (λ letters is are. cc))
settled_apart (b ∷ letters) own no_men = elim (cases_eq b 94) [
  | inl same ↦
      rw same (settled_other letters own (subst (λ n. AreMen (n ∷ letters) → ⊥) same no_men)
      (settled_men letters))
  | inr differs ↦ settled_no (91 ∷ b
      ∷ (letters ++ 93 ∷ [])) own
      (no_set (b ∷ letters) no_men (λ rest is are. differs (ap first_of is)))
]

settled_set : (inside : List ℕ) (own : List (Option Man)) → Settled (AreMen inside)
    → Settled (IsStretch (91 ∷ (inside ++ 93 ∷ [])) own)
settled_set inside own (inl are) =
    settled_read (91 ∷ (inside ++ 93 ∷ [])) (Run (Among (men_in inside)) 1) own
    (among_read inside are)
settled_set inside own (inr none) = settled_apart inside own none

-- a text of two bytes or more is an item only between brackets
abbrev pub without_last : List ℕ → List ℕ
without_last [] = []
without_last (b ∷ []) = []
without_last (b ∷ c ∷ x) = b ∷ without_last (c ∷ x)

last_dropped : (x : List ℕ) (b : ℕ) → without_last (x ++ b ∷ []) ≡ x
last_dropped [] b = refl
last_dropped (c ∷ []) b = refl
last_dropped (c ∷ d ∷ x) b = ap (λ y. c ∷ y) (last_dropped (d ∷ x) b)

abbrev pub inside_of : List ℕ → List ℕ
inside_of item = without_last (rest_of item)

bracketed : (item : List ℕ) (own : List (Option Man)) → IsStretch item own → (b c : ℕ) (x : List ℕ)
    → item ≡ b ∷ c ∷ x → item ≡ 91 ∷ (inside_of item ++ 93 ∷ [])
bracketed _ _ (among letters man are has) b c x e =
    ap (λ y. 91 ∷ (y ++ 93 ∷ [])) (sym (last_dropped letters 93))
bracketed _ _ (other letters square are none) b c x e =
    ap (λ y. 91 ∷ (y ++ 93 ∷ [])) (sym (last_dropped (94 ∷ letters) 93))
bracketed _ _ _ b c x e = absurd (cc)

empty_item : (item : List ℕ) (own : List (Option Man)) → IsStretch item own → item ≡ [] → ⊥
empty_item _ _ (spelled n own s) e = cc
empty_item _ _ _ e = cc

settled_long : (item : List ℕ) (own : List (Option Man)) (b c : ℕ) (x : List ℕ) → item ≡ b ∷ c ∷ x
    → Settled (item ≡ 91 ∷ (inside_of item ++ 93 ∷ [])) → Settled (IsStretch item own)
settled_long item own b c x e (inl is) =
    rw is (settled_set (inside_of item) own (settled_men (inside_of item)))
settled_long item own b c x e (inr none) =
    inr (λ stretch. none (bracketed item own stretch b c x e))

settled_stretch : (item : List ℕ) (own : List (Option Man)) → Settled (IsStretch item own)
settled_stretch [] own = inr (λ stretch. empty_item [] own stretch refl)
settled_stretch (b ∷ []) own =
    elim (item_of b) as (λ o. item_of b ≡ o → Settled (IsStretch (b ∷ []) own)) [
      | None ↦ λ none. inr (λ stretch. no_stretch b none own stretch)
      | Some item ↦ λ is. let exact = item_exact b item is own in
          settled_like exact.1 exact.0 (settled_fits item own)
    ] refl
settled_stretch (b ∷ c ∷ x) own =
    settled_long (b ∷ c ∷ x) own b c x refl
    (cases_bytes (b ∷ c ∷ x) (91 ∷ (inside_of (b ∷ c ∷ x) ++ 93 ∷ [])))

-- ---- the ways of parting squares in two

abbrev IsParted : List (Option Man) → (List (Option Man) → List (Option Man) → Type 0) → Type 0
IsParted squares F = (own more : List (Option Man)) × (squares ≡ own ++ more) × F own more

part_none : (F : List (Option Man) → List (Option Man) → Type 0) (own more : List (Option Man))
    → [] ≡ own ++ more → F own more → F [] []
part_none F [] more is h = subst (F []) (sym is) h
part_none F (square ∷ own) more is h = absurd (cc)

abbrev Later : Option Man → (List (Option Man) → List (Option Man) → Type 0) → List (Option Man)
    → List (Option Man) → Type 0
Later square F own more = F (square ∷ own) more

part_some : (F : List (Option Man) → List (Option Man)
    → Type 0) (square : Option Man) (squares own more : List (Option Man))
    → square ∷ squares ≡ own ++ more → F own more
    → F [] (square ∷ squares) ⊎ IsParted squares (Later square F)
part_some F square squares [] more is h = inl (subst (F []) (sym is) h)
part_some F square squares (first ∷ own) more is h =
    let same : first ≡ square = cc in let rest : squares ≡ own ++ more = cc in
    inr (own, more, rest, subst (λ s. F (s ∷ own) more) same h)

settled_parted : (squares : List (Option Man)) (F : List (Option Man) → List (Option Man) → Type 0)
    → ((own more : List (Option Man)) → Settled (F own more)) → Settled (IsParted squares F)
settled_parted [] F each =
    settled_like (λ h. ([], [], refl, h)) (λ p. part_none F p.0 p.1 p.2 p.3) (each [] [])
settled_parted (square ∷ squares) F each =
    settled_like
    (λ h. elim h [
      | inl none ↦ ([], square ∷ squares, refl, none)
      | inr p ↦ (square ∷ p.0, p.1, ap (λ t. square ∷ t) p.2, p.3)
    ])
    (λ p. part_some F square squares p.0 p.1 p.2 p.3)
    (settled_either (each [] (square ∷ squares))
    (settled_parted squares (Later square F) (λ own more. each (square ∷ own) more)))

-- ---- a rank, and the ranks of a pattern

settled_split : (items : List (List ℕ)) (squares : List (Option Man))
    → Settled (CanBeSplit items squares)
settled_split [] [] = inl refl
settled_split [] (square ∷ squares) = inr (λ e. cc)
settled_split (b ∷ items) squares =
    settled_like (λ p. (p.0, p.1, p.2, p.3.0, p.3.1)) (λ p. (p.0, p.1, p.2, (p.3, p.4)))
    (settled_parted squares (λ own more. IsStretch b own × CanBeSplit items more)
    (λ own more. settled_both (settled_stretch b own) (settled_split items more)))

settled_ranks : (men : Placement) (n : ℕ) (ranks : List (List ℕ)) → Settled (FitRanks men n ranks)
settled_ranks men n [] = cases_eq n 0
settled_ranks men n (rank ∷ more) =
    settled_three (settled_le 1 n) (settled_split (items_of rank) (row men n))
    (settled_ranks men (n - 1) more)

pub settled_pattern : (men : Placement) (pattern : List ℕ) → Settled (FitsPattern men pattern)
settled_pattern men pattern = settled_ranks men 8 (parted_at 47 pattern)
