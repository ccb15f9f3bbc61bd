-- Facts about placements given square by square.
use Rattle.std.proofs.Common.{◌≡◌, ◌<◌, ◌≤◌, ◌⊎◌, ℕ, zero, suc, true, false, inl, inr, ap, refl}
use Rattle.std.proofs.Common.{sym, subst, ◌∙◌, arith, Option, Some, None, cond}
use Rattle.std.specs.Ordering.{eq_by_cmp}
use Rattle.std.specs.FinMap.{get-empty, get-insert, get-remove, same_map}
use Rattle.std.proofs.lemmas.Bool.{cases_eq, cases_lt}
use Rattle.chess.specs.Public.Squares.{Place, IsOnBoard, place_cmp, square_at, index_of}
use Rattle.chess.specs.Shared.SquareFacts.{index_of-square_at}
use Rattle.chess.specs.Shared.OrderFacts.{place_total, place_exact}
use Rattle.chess.specs.Shared.SetFacts.{square_at-index_of, index_of-below, on_board-square_at}
use Rattle.chess.specs.Shared.SetFacts.{ties, tied, false_of}
use Rattle.chess.specs.Public.Placements.{Placement, no_men, man_at, with_man, first_men, men_of}
use Rattle.std.specs.Prelude.{replicate}
use Rattle.std.proofs.lemmas.List.{get_or-replicate, get_or_past, length-replicate}
use Rattle.chess.specs.Private.Cells.{cell_of}
use Rattle.chess.specs.declared.board.man.Man.{Man}

-- the man on the square that was changed, and on any other
pub man_at-same : (p : Placement) (s : Place) (man : Option Man) → man_at (with_man p s man) s ≡ man
man_at-same p s None = get-remove place_total p s s ∙ ap (λ b. cond b None (man_at p s)) (ties s)
man_at-same p s (Some man) = get-insert place_total p s man s
    ∙ ap (λ b. cond b (Some man) (man_at p s)) (ties s)

pub man_at-other : (p : Placement) (s t : Place) (man : Option Man) → (t ≡ s → ⊥)
    → man_at (with_man p s man) t ≡ man_at p t
man_at-other p s t None other =
    get-remove place_total p s t
    ∙ ap (λ b. cond b None (man_at p t)) (false_of _ (λ e. other (tied t s _ refl e)))
man_at-other p s t (Some man) other =
    get-insert place_total p s man t
    ∙ ap (λ b. cond b (Some man) (man_at p t)) (false_of _ (λ e. other (tied t s _ refl e)))

-- placements with the same man on each square are one
pub same_men : (p q : Placement) → ((s : Place) → man_at p s ≡ man_at q s) → p ≡ q
same_men p q each = same_map place_total place_exact p q each

-- the first n squares hold their cells, and no other square holds a man
pub none_further : (cell : ℕ → Option Man) (n : ℕ) → n ≤ 64 → (s : Place)
    → ((k : ℕ) → k < n → s ≡ square_at k → ⊥) → man_at (first_men cell n) s ≡ None
unfolding first_men
none_further cell zero h s other = get-empty place_cmp s
none_further cell (suc n) h s other =
    man_at-other (first_men cell n) (square_at n) s (cell n) (other n (omega arith))
    ∙ none_further cell n (omega arith) s (λ k less. other k (omega arith))

pub man_at-first_men : (cell : ℕ → Option Man) (n : ℕ) → n ≤ 64 → (k : ℕ) → k < n
    → man_at (first_men cell n) (square_at k) ≡ cell k
unfolding first_men
man_at-first_men cell zero h k less = absurd (omega arith)
man_at-first_men cell (suc n) h k less = elim (cases_eq k n) [
  | inl same ↦
      ap (λ m. man_at (with_man (first_men cell n) (square_at n) (cell n)) (square_at m)) same
      ∙ man_at-same (first_men cell n) (square_at n) (cell n) ∙ ap cell (sym same)
  | inr other ↦
      let apart_squares : square_at k ≡ square_at n → ⊥ = λ e.
      let same : k ≡ n = sym (index_of-square_at k (omega arith)) ∙ ap index_of e
      ∙ index_of-square_at n (omega arith) in other same in
      man_at-other (first_men cell n) (square_at n) (square_at k) (cell n) apart_squares
      ∙ man_at-first_men cell n (omega arith) k (omega arith)
]

-- a square of the board holds its cell
pub man_at-men_of : (cell : ℕ → Option Man) (s : Place) → IsOnBoard s
    → man_at (men_of cell) s ≡ cell (index_of s)
man_at-men_of cell s on_board =
    ap (man_at (men_of cell)) (sym (square_at-index_of s on_board))
    ∙ man_at-first_men cell 64 (omega arith) (index_of s) (index_of-below s on_board)

-- and men stand on the board alone
is_some_none : (man : Man) → None ≡ Some man → ⊥
is_some_none man e = cc

some_square : (cell : ℕ → Option Man) (n : ℕ) → n ≤ 64 → (s : Place) (man : Man)
    → man_at (first_men cell n) s ≡ Some man → IsOnBoard s
unfolding first_men
some_square cell zero h s man here = absurd (is_some_none man (sym (get-empty place_cmp s) ∙ here))
some_square cell (suc n) h s man here =
    elim (eq_by_cmp place_cmp s (square_at n)) as (λ b. eq_by_cmp place_cmp s (square_at n) ≡ b
    → IsOnBoard s) [
      | true ↦ λ e. subst IsOnBoard (sym (tied s (square_at n) _ e refl))
          (on_board-square_at n (omega arith))
      | false ↦ λ e. some_square cell n (omega arith) s man
          (sym (man_at-other (first_men cell n) (square_at n) s (cell n) (λ same.
          let both : false ≡ true = sym e ∙ ap (λ (t : Place). eq_by_cmp place_cmp s t) (sym same)
          ∙ ties s in cc)) ∙ here)
    ] refl

pub on_board-men_of : (cell : ℕ → Option Man) (s : Place) (man : Man)
    → man_at (men_of cell) s ≡ Some man → IsOnBoard s
on_board-men_of cell s man here = some_square cell 64 (omega arith) s man here

-- cells without men
pub men_of-none : (cell : ℕ → Option Man) → ((n : ℕ) → cell n ≡ None) → (n : ℕ)
    → first_men cell n ≡ no_men
unfolding first_men
men_of-none cell none zero = refl
men_of-none cell none (suc n) =
    same_men _ _ (λ s.
    elim (eq_by_cmp place_cmp s (square_at n)) as (λ b. eq_by_cmp place_cmp s (square_at n) ≡ b
    → man_at (with_man (first_men cell n) (square_at n) (cell n)) s ≡ man_at no_men s) [
      | true ↦ λ e.
          ap (man_at (with_man (first_men cell n) (square_at n) (cell n)))
          (tied s (square_at n) _ e refl)
          ∙ man_at-same (first_men cell n) (square_at n) (cell n) ∙ none n
          ∙ sym (get-empty place_cmp s)
      | false ↦ λ e.
          man_at-other (first_men cell n) (square_at n) s (cell n) (λ same.
          let both : false ≡ true = sym e ∙ ap (λ (t : Place). eq_by_cmp place_cmp s t) (sym same)
          ∙ ties s in cc)
          ∙ ap (λ p. man_at p s) (men_of-none cell none n)
    ] refl)

-- a square is on the board or not
pub on_board_or_not : (s : Place) → IsOnBoard s ⊎ (IsOnBoard s → ⊥)
on_board_or_not s = elim (cases_lt 0 s.file) [
  | inr no_file ↦ inr (λ h. let f = h.file_low in omega arith)
  | inl f1 ↦ elim (cases_lt s.file 9) [
    | inr no_file ↦ inr (λ h. let f = h.file_high in omega arith)
    | inl f8 ↦ elim (cases_lt 0 s.rank) [
      | inr no_rank ↦ inr (λ h. let f = h.rank_low in omega arith)
      | inl r1 ↦ elim (cases_lt s.rank 9) [
        | inr no_rank ↦ inr (λ h. let f = h.rank_high in omega arith)
        | inl r8 ↦ inl (record {
          file_low = omega arith;
          file_high = omega arith;
          rank_low =
              omega arith;
          rank_high = omega arith;
        })
      ]
    ]
  ]
]

none_off_board : (cell : ℕ → Option Man) (s : Place) → (IsOnBoard s → ⊥)
    → man_at (men_of cell) s ≡ None
none_off_board cell s off =
    none_further cell 64 (omega arith) s (λ k less e.
    off (subst IsOnBoard (sym e) (on_board-square_at k less)))

same_elsewhere : (old new : ℕ → Option Man) (s t : Place)
    → ((k : ℕ) → k < 64 → (k ≡ index_of s → ⊥) → new k ≡ old k) → (t ≡ s → ⊥)
    → IsOnBoard s → man_at (men_of new) t ≡ man_at (men_of old) t
same_elsewhere old new s t else_same other on_board = elim (on_board_or_not t) [
  | inl here ↦
      man_at-men_of new t here
      ∙ else_same (index_of t) (index_of-below t here)
      (λ e. other (sym (square_at-index_of t here) ∙ ap square_at e
      ∙ square_at-index_of s on_board))
      ∙ sym (man_at-men_of old t here)
  | inr off ↦ none_off_board new t off ∙ sym (none_off_board old t off)
]

-- cells that differ at one square are the placement with that square changed
pub men_of-put : (old new : ℕ → Option Man) (s : Place) (man : Option Man) → IsOnBoard s
    → new (index_of s) ≡ man
    → ((k : ℕ) → k < 64 → (k ≡ index_of s → ⊥) → new k ≡ old k)
    → men_of new ≡ with_man (men_of old) s man
men_of-put old new s man on_board here else_same =
    same_men _ _ (λ t.
    elim (eq_by_cmp place_cmp t s) as (λ b. eq_by_cmp place_cmp t s ≡ b
    → man_at (men_of new) t ≡ man_at (with_man (men_of old) s man) t) [
      | true ↦ λ e.
          ap (man_at (men_of new)) (tied t s _ e refl) ∙ man_at-men_of new s on_board ∙ here
          ∙ sym (ap (man_at (with_man (men_of old) s man)) (tied t s _ e refl)
          ∙ man_at-same (men_of old) s man)
      | false ↦ λ e.
          let other : t ≡ s → ⊥ = λ same. let both : false ≡ true =
          sym e ∙ ap (λ (u : Place). eq_by_cmp place_cmp t u) (sym same) ∙ ties t in cc in
          same_elsewhere old new s t else_same other on_board
          ∙ sym (man_at-other (men_of old) s t man other)
    ] refl)

-- cells that hold no man
pub no_cell : (n m : ℕ) → cell_of (replicate n None) m ≡ None
no_cell n m = elim (cases_lt m n) [
  | inl less ↦ get_or-replicate n m None None less
  | inr more ↦ get_or_past (replicate n None) m None
      (subst (λ k. k ≤ m) (sym (length-replicate n None)) more)
]
