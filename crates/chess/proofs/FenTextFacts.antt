-- Facts about the text of a position: what is written spells the ranks, and is as short as can be.
use Rattle.std.proofs.Common.{decimal, append_assoc}
use Rattle.std.specs.Prelude.{◌&&◌}
use Rattle.std.proofs.lemmas.List.{replicate_more}
use Rattle.itoa.proofs.Decimal.{decimal_two}
use Rattle.chess.proofs.Common.{◌≡◌, ◌<◌, ◌≤◌, ◌+◌, ◌-◌, ◌/◌, ◌%◌, ℕ, zero, suc, Bool, true, false}
use Rattle.chess.proofs.Common.{not, ap, refl, sym, subst, ◌∙◌, arith, Option, Some, None, IsTrue}
use Rattle.chess.proofs.Common.{List, [], ◌∷◌, ◌++◌, length, replicate, list_all}
use Rattle.chess.proofs.Common.{append-nil, decimal_digit, Placement, man_letter}
use Rattle.chess.proofs.Common.{SpellsRank, SpellRanks, is_shortest, is_step, joined, row, letter}
use Rattle.chess.proofs.Common.{step, spelled_from, rank_texts, each_after}
use Rattle.chess.proofs.Common.{Man, Side, White, Black, Kind, King, and_false}
use Rattle.chess.specs.Private.FenTextWords.{digit_of, rank_text}

-- ---- what is written spells the squares

-- a run of empty squares, and more
run_and_more : (n : ℕ) (squares : List (Option Man))
    → replicate (n + 1) None ++ squares ≡ replicate n None ++ None ∷ squares
run_and_more n squares =
    ap (λ q. q ++ squares) (sym (replicate_more {X = Option Man} n None))
    ∙ append_assoc (replicate n None) (None ∷ []) squares

spells_run : (n : ℕ) → n ≤ 8 → (x : List ℕ) (squares : List (Option Man)) → SpellsRank x squares
    → SpellsRank (digit_of n ++ x) (replicate n None ++ squares)
spells_run zero h x squares rest = rest
spells_run (suc n) h x squares rest =
    (replicate (suc n) None, squares, refl, step (suc n) (omega arith) h, rest)

pub spells : (squares : List (Option Man)) (n : ℕ) → n + length squares ≤ 8
    → SpellsRank (spelled_from n squares) (replicate n None ++ squares)
spells [] n h =
    rw (← (append-nil (digit_of n))) (spells_run n (omega arith) [] [] refl)
spells (None ∷ squares) n h =
    rw (← (run_and_more n squares)) (spells squares (n + 1) (omega arith))
spells (Some man ∷ squares) n h =
    spells_run n (omega arith) (man_letter man ∷ spelled_from 0 squares) (Some man ∷ squares)
    (Some man ∷ [], squares, refl, letter man, spells squares 0 (omega arith))

-- ---- what is written has no two digits side by side

by_side : (side : Side) (kind : Kind) → is_step (man_letter (record { side = side; kind = kind }))
    ≡ false
by_side White King = refl
by_side Black King = refl
by_side _ _ = refl

no_step : (man : Man) → is_step (man_letter man) ≡ false
no_step man = by_side man.side man.kind

-- the first byte is no digit
abbrev is_led : List ℕ → Bool
is_led [] = false
is_led (b ∷ x) = is_step b

shortest_run : (n : ℕ) (x : List ℕ) → is_led x ≡ false → is_shortest x ≡ true
    → is_shortest (digit_of n ++ x) ≡ true
shortest_run zero x led short = short
shortest_run (suc n) [] led short = refl
shortest_run (suc n) (b ∷ x) led short =
    ap (λ t. not (is_step (48 + suc n) && t) && is_shortest (b ∷ x)) led
    ∙ ap (λ t. not t && is_shortest (b ∷ x)) (and_false (is_step (48 + suc n))) ∙ short

shortest_letter : (b : ℕ) (x : List ℕ) → is_step b ≡ false → is_shortest x ≡ true
    → is_shortest (b ∷ x) ≡ true
shortest_letter b [] other short = refl
shortest_letter b (a ∷ x) other short =
    ap (λ t. not (t && is_step a) && is_shortest (a ∷ x)) other ∙ short

pub shortest : (squares : List (Option Man)) (n : ℕ) → is_shortest (spelled_from n squares) ≡ true
shortest [] n =
    subst (λ x. is_shortest x ≡ true) (append-nil (digit_of n)) (shortest_run n [] refl refl)
shortest (None ∷ squares) n = shortest squares (n + 1)
shortest (Some man ∷ squares) n =
    shortest_run n (man_letter man
    ∷ spelled_from 0 squares) (no_step man)
    (shortest_letter (man_letter man) _ (no_step man) (shortest squares 0))

-- ---- the ranks

pub spell_ranks : (p : Placement) (n : ℕ) → SpellRanks p n (rank_texts p n)
spell_ranks p zero = refl
spell_ranks p (suc n) = (
  omega arith,
  spells (row p (suc n)) 0 (omega arith),
  (let less : n ≡ suc n - 1 = omega arith in
      subst (λ m. SpellRanks p m (rank_texts p n)) less (spell_ranks p n)),
)

pub shortest_ranks : (p : Placement) (n : ℕ) → IsTrue (list_all is_shortest (rank_texts p n))
shortest_ranks p zero = refl
shortest_ranks p (suc n) =
    ap (λ t. t && list_all is_shortest (rank_texts p n)) (shortest (row p (suc n)) 0)
    ∙ shortest_ranks p n

pub joined-each_after : (separator : ℕ) (x : List ℕ) (more : List (List ℕ))
    → joined separator (x ∷ more) ≡ x ++ each_after separator more
joined-each_after separator x [] = sym (append-nil x)
joined-each_after separator x (y ∷ more) =
    ap (λ t. x ++ separator ∷ t) (joined-each_after separator y more)

-- ---- ranks that are begun
pub one_more_rank : (p : Placement) (k : ℕ) → k < 8
    → each_after 47 (rank_texts p (8 - k)) ≡ 47 ∷ rank_text p (8 - k)
    ++ each_after 47 (rank_texts p (8 - (k + 1)))
one_more_rank p k high =
    let next : 8 - k ≡ suc (8 - (k + 1)) = omega arith in
    ap (λ n. each_after 47 (rank_texts p n)) next
    ∙ ap (λ n. 47 ∷ rank_text p n ++ each_after 47 (rank_texts p (8 - (k + 1)))) (sym next)

pub no_more_ranks : (p : Placement) (k : ℕ) → 8 ≤ k → each_after 47 (rank_texts p (8 - k)) ≡ []
no_more_ranks p k high = let none : 8 - k ≡ 0 = omega arith in
    ap (λ n. each_after 47 (rank_texts p n)) none

-- a rank is written after a slash
pub rank_is_written : (before slashed after rank rest all_rest whole : List ℕ)
    → slashed ≡ before ++ 47 ∷ [] → after ≡ slashed ++ rank
    → all_rest ≡ 47 ∷ rank ++ rest → before ++ all_rest ≡ whole → after ++ rest ≡ whole
rank_is_written before slashed after rank rest all_rest whole slash written split text =
    ap (λ x. x ++ rest) (written ∙ ap (λ x. x ++ rank) slash)
    ∙ append_assoc (before ++ 47 ∷ []) rank rest ∙ append_assoc before (47 ∷ []) (rank ++ rest)
    ∙ ap (λ x. before ++ x) (sym split) ∙ text

-- the first rank is written
pub first_is_written : (p : Placement) (before after : List ℕ) → after ≡ before ++ rank_text p 8
    → after ++ each_after 47 (rank_texts p 7) ≡ before ++ joined 47 (rank_texts p 8)
first_is_written p before after written =
    ap (λ x. x ++ each_after 47 (rank_texts p 7)) written
    ∙ append_assoc before (rank_text p 8) (each_after 47 (rank_texts p 7))
    ∙ ap (λ x. before ++ x) (sym (joined-each_after 47 (rank_text p 8) (rank_texts p 7)))

-- all ranks are written
pub all_is_written : (before rest whole : List ℕ) → rest ≡ [] → before ++ rest ≡ whole
    → before ≡ whole
all_is_written before rest whole none text =
    sym (append-nil before) ∙ ap (λ x. before ++ x) (sym none) ∙ text

-- ---- the fields

-- what is written of a value is what is written of one that is equal
pub written_of : {A : Type 0} (text : A → List ℕ) (before after : List ℕ) (a b : A)
    → after ≡ before ++ text a → a ≡ b → after ≡ before ++ text b
written_of text before after a b written same = written ∙ ap (λ x. before ++ text x) same

-- six fields, each but the first after a space
pub six_fields : (men side rights en_passant clock number x0 x1 x2 x3 x4 x5 x6 x7 x8 x9 x10
    x11 : List ℕ)
    → x0 ≡ [] → x1 ≡ x0 ++ men → x2 ≡ x1 ++ 32 ∷ [] → x3 ≡ x2 ++ side → x4 ≡ x3 ++ 32 ∷ []
    → x5 ≡ x4 ++ rights → x6 ≡ x5 ++ 32 ∷ []
    → x7 ≡ x6 ++ en_passant → x8 ≡ x7 ++ 32 ∷ [] → x9 ≡ x8 ++ clock → x10 ≡ x9 ++ 32 ∷ []
    → x11 ≡ x10 ++ number
    → x11 ≡ joined 32 (men ∷ side ∷ rights ∷ en_passant ∷ clock ∷ number ∷ [])
six_fields men side rights en_passant clock number x0 x1 x2 x3 x4 x5 x6 x7 x8 x9 x10 x11 e0 e1 e2 e3
    e4 e5 e6 e7 e8 e9 e10 e11 =
    rw (e11, e10, e9, e8, e7, e6, e5, e4, e3, e2, e1, e0) (simp append_assoc)

-- ---- a number of one digit, and of two

pub one_digit : (before after : List ℕ) (n : ℕ) → n < 10 → after ≡ before ++ (48 + n) ∷ []
    → after ≡ before ++ decimal n
one_digit before after n small written =
    written ∙ ap (λ x. before ++ x) (sym (decimal_digit n small))

pub two_digits : (before middle after : List ℕ) (n : ℕ) → 10 ≤ n → n < 100
    → middle ≡ before ++ (48 + n / 10) ∷ []
    → after ≡ middle ++ (48 + n % 10) ∷ [] → after ≡ before ++ decimal n
two_digits before middle after n low high first second =
    second ∙ ap (λ x. x ++ (48 + n % 10) ∷ []) first
    ∙ append_assoc before ((48 + n / 10) ∷ []) ((48 + n % 10) ∷ [])
    ∙ ap (λ x. before ++ x) (sym (decimal_two n low high))
