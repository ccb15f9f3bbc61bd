-- The texts of castling, with and without marks.
use Rattle.std.specs.Prelude.{if◌then◌else◌}
use Rattle.chess.proofs.Common.{◌≡◌, ◌↔◌, ◌⊎◌, ℕ, Bool, true, false, inl, inr, ap, refl, sym, subst}
use Rattle.chess.proofs.Common.{◌∙◌, arith, Some, None, List, [], ◌∷◌, ◌++◌, reverse, length}
use Rattle.chess.proofs.Common.{list_all, append_assoc, append-nil, reverse-append, reverse-reverse}
use Rattle.chess.proofs.Common.{and_parts, and_from, same_Some, is_check_sign, castling_text}
use Rattle.chess.proofs.Common.{castling_with_zeros, IsCastlingText, Wing, KingSide, QueenSide}
use Rattle.chess.specs.Private.SanWords.{unmarked, IsCastlingStem}

all_and_one : (m : List ℕ) (b : ℕ) → list_all is_check_sign m ≡ true → is_check_sign b ≡ true
    → list_all is_check_sign (m ++ b ∷ []) ≡ true
all_and_one [] b all mark = and_from (is_check_sign b) true mark refl
all_and_one (a ∷ m) b all mark =
    and_from (is_check_sign a) (list_all is_check_sign (m ++ b ∷ []))
    (and_parts (is_check_sign a) (list_all is_check_sign m) all).0
    (all_and_one m b (and_parts (is_check_sign a) (list_all is_check_sign m) all).1 mark)

-- a text is what is left without its marks, and marks
pub marks_of : (y : List ℕ) → (m : List ℕ) × (list_all is_check_sign m ≡ true)
    × (reverse y ≡ reverse (unmarked y) ++ m)
marks_of [] = ([], refl, refl)
marks_of (b ∷ y) =
    elim (is_check_sign b) as (λ t. is_check_sign b ≡ t
    → (m : List ℕ) × (list_all is_check_sign m ≡ true)
    × (reverse (b ∷ y) ≡ reverse (if t then unmarked y else b ∷ y) ++ m)) [
      | true ↦ λ mark. let before = marks_of y in (
        before.0 ++ b ∷ [],
        all_and_one before.0 b before.1 mark,
        reverse-append (b ∷ []) y ∙ ap (λ z. z ++ b ∷ []) before.2
            ∙ append_assoc (reverse (unmarked y)) before.0 (b ∷ []),
      )
      | false ↦ λ none. ([], refl, sym (append-nil (reverse (b ∷ y))))
    ] refl

-- marks at the end change nothing
pub marks_off : (m s : List ℕ) → list_all is_check_sign m ≡ true
    → unmarked (reverse (s ++ m)) ≡ unmarked (reverse s)
marks_off [] s all = ap (λ x. unmarked (reverse x)) (append-nil s)
marks_off (b ∷ m) s all =
    ap (λ x. unmarked (reverse x)) (sym (append_assoc s (b ∷ []) m))
    ∙ marks_off m (s ++ b ∷ []) (and_parts (is_check_sign b) (list_all is_check_sign m) all).1
    ∙ ap unmarked (reverse-append s (b ∷ []))
    ∙ ap (λ t. if t then unmarked (reverse s)
    else b ∷ reverse s) (and_parts (is_check_sign b) (list_all is_check_sign m) all).0

-- the stem of a text
abbrev pub IsStem : List ℕ → List ℕ → Type 0
IsStem x stem = reverse stem ≡ unmarked (reverse x)

bare : (stem text : List ℕ) → reverse stem ≡ reverse text → stem ≡ text
bare stem text e = sym (reverse-reverse stem) ∙ ap reverse e ∙ reverse-reverse text

no_marks : (wing : Wing) → (unmarked (reverse (castling_text wing)) ≡ reverse (castling_text wing))
    × (unmarked (reverse (castling_with_zeros wing)) ≡ reverse (castling_with_zeros wing))
no_marks KingSide = (refl, refl)
no_marks QueenSide = (refl, refl)

pub stem_castles : (wing : Wing) (x stem : List ℕ) → IsStem x stem → IsCastlingText wing x
    → IsCastlingStem wing stem
stem_castles wing x stem is (marks, are, inl e) =
    inl (bare stem (castling_text wing) (is ∙ ap (λ z. unmarked (reverse z)) e
    ∙ marks_off marks (castling_text wing) are ∙ (no_marks wing).0))
stem_castles wing x stem is (marks, are, inr e) =
    inr (bare stem (castling_with_zeros wing) (is ∙ ap (λ z. unmarked (reverse z)) e
    ∙ marks_off marks (castling_with_zeros wing) are ∙ (no_marks wing).1))

castles_text : (wing : Wing) (x stem : List ℕ) → IsStem x stem → IsCastlingStem wing stem
    → IsCastlingText wing x
castles_text wing x stem is castles =
    let marks = marks_of (reverse x) in
    let whole : x ≡ stem ++ marks.0 = sym (reverse-reverse x) ∙ marks.2
    ∙ ap (λ z. reverse z ++ marks.0) (sym is) ∙ ap (λ z. z ++ marks.0) (reverse-reverse stem) in (
      marks.0,
      marks.1,
      elim castles [
        | inl e ↦ inl (whole ∙ ap (λ z. z ++ marks.0) e)
        | inr e ↦ inr (whole ∙ ap (λ z. z ++ marks.0) e)
      ],
    )

abbrev pub size : Wing → ℕ
size KingSide = 3
size QueenSide = 5

castles_size : (wing : Wing) (stem : List ℕ) → IsCastlingStem wing stem → length stem ≡ size wing
castles_size KingSide stem (inl e) = ap length e
castles_size KingSide stem (inr e) = ap length e
castles_size QueenSide stem (inl e) = ap length e
castles_size QueenSide stem (inr e) = ap length e

one_size : (a b : Wing) → size a ≡ size b → a ≡ b
one_size KingSide KingSide e = refl
one_size KingSide QueenSide e = absurd (omega arith)
one_size QueenSide KingSide e = absurd (omega arith)
one_size QueenSide QueenSide e = refl

pub castling_found : (wing : Wing) (x stem : List ℕ) → IsStem x stem → IsCastlingStem wing stem
    → (w : Wing) → IsCastlingText w x ↔ (Some wing ≡ Some w)
castling_found wing x stem is castles w = (
  (λ text.
      ap (λ (v : Wing).
      Some v) (one_size wing w (sym (castles_size wing stem castles)
      ∙ castles_size w stem (stem_castles w x stem is text)))),
  (λ e. subst (λ v. IsCastlingText v x) (same_Some wing w e) (castles_text wing x stem is castles)),
)

not_either : (stem : List ℕ) (wing : Wing) → (IsCastlingStem KingSide stem → ⊥)
    → (IsCastlingStem QueenSide stem → ⊥) → IsCastlingStem wing stem → ⊥
not_either stem KingSide king queen castles = king castles
not_either stem QueenSide king queen castles = queen castles

pub castling_none : (x stem : List ℕ) → IsStem x stem → (IsCastlingStem KingSide stem → ⊥)
    → (IsCastlingStem QueenSide stem → ⊥)
    → (w : Wing) → IsCastlingText w x ↔ (None ≡ Some w)
castling_none x stem is king queen w = (
  (λ text. absurd (not_either stem w king queen (stem_castles w x stem is text))),
  (λ e. absurd (cc)),
)

-- ---- how a text of castling begins

abbrev pub BeginsCastling : ℕ → Type 0
BeginsCastling b = (b ≡ 79) ⊎ (b ≡ 48)

-- the first byte of a text
abbrev pub Begins : (ℕ → Type 0) → List ℕ → Type 0
Begins fact [] = ⊥
Begins fact (b ∷ x) = fact b

pub castling_begins : (x : List ℕ) (wing : Wing) → IsCastlingText wing x → Begins BeginsCastling x
castling_begins x KingSide (marks, are, inl e) = subst (Begins BeginsCastling) (sym e) (inl refl)
castling_begins x KingSide (marks, are, inr e) = subst (Begins BeginsCastling) (sym e) (inr refl)
castling_begins x QueenSide (marks, are, inl e) = subst (Begins BeginsCastling) (sym e) (inl refl)
castling_begins x QueenSide (marks, are, inr e) = subst (Begins BeginsCastling) (sym e) (inr refl)

-- a text that begins otherwise castles on neither wing
pub no_castling : (x : List ℕ) (b : Bool) → ((wing : Wing) → IsCastlingText wing x → b ≡ true)
    → b ≡ false
    → (w : Wing) → IsCastlingText w x ↔ (None ≡ Some w)
no_castling x b begins none w = (
  (λ text. let clash : true ≡ false = sym (begins w text) ∙ none in absurd (cc)),
  (λ e. absurd (cc)),
)
