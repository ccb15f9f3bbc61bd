-- A position has one text in FEN: its ranks can be written in one shortest way only.
use Rattle.std.specs.Prelude.{replicate, ◌&&◌, decimal}
use Rattle.chess.proofs.Common.{◌≡◌, ◌≤◌, ◌+◌, ◌-◌, ℕ, zero, suc, Bool, true, not, ap, refl, sym}
use Rattle.chess.proofs.Common.{subst, ◌∙◌, arith, Option, Some, None, List, [], ◌∷◌, ◌++◌}
use Rattle.chess.proofs.Common.{list_all, nat_tests, and_parts, and_from, Placement, State}
use Rattle.chess.proofs.Common.{man_letter, IsSquares, SpellsRank, SpellRanks, IsFen, is_shortest}
use Rattle.chess.proofs.Common.{is_step, joined, row, side_text, or_dash, rights_letters}
use Rattle.chess.proofs.Common.{en_passant_text, letter, step, spelled_from, rank_texts, Man}
use Rattle.chess.proofs.FenTextFacts.{spell_ranks, shortest_ranks}
use Rattle.chess.proofs.PlaceFacts.{true_not}

-- a run of empty squares after others is a longer run
longer_run : (k n : ℕ) (more : List (Option Man))
    → spelled_from k (replicate n None ++ more) ≡ spelled_from (k + n) more
longer_run k zero more = let same : k ≡ k + 0 = omega arith in ap (λ m. spelled_from m more) same
longer_run k (suc n) more =
    let same : k + 1 + n ≡ k + suc n = omega arith in
    longer_run (k + 1) n more ∙ ap (λ m. spelled_from m more) same

not_both : (a b : Bool) → not (a && b) ≡ true → a ≡ true → b ≡ true → ⊥
not_both a b e f g = true_not (a && b) e (and_from a b f g)

-- the squares after a digit begin with a man, or there are none
abbrev BeginsWithMan : List (Option Man) → Type 0
BeginsWithMan [] = Unit {0}
BeginsWithMan (None ∷ more) = ⊥
BeginsWithMan (Some man ∷ more) = Unit {0}

digit_byte : (n : ℕ) → 1 ≤ n → n ≤ 8 → is_step (48 + n) ≡ true
digit_byte n low high = grind (arith, nat_tests)

after_digit : (n c : ℕ) (own : List (Option Man)) (x : List ℕ) (more rest : List (Option Man))
    → 1 ≤ n → n ≤ 8 → is_shortest ((48 + n) ∷ c ∷ x) ≡ true
    → IsSquares c own → more ≡ own ++ rest → BeginsWithMan more
after_digit n _ _ x more rest low high short (letter man) e = subst BeginsWithMan (sym e) tt
after_digit n _ _ x more rest low high short (step k some few) e =
    absurd (not_both (is_step (48 + n)) (is_step (48 + k))
    (and_parts (not (is_step (48 + n) && is_step (48 + k))) (is_shortest ((48 + k) ∷ x))
    short).0
    (digit_byte n low high) (digit_byte k some few))

squares_after : (n : ℕ) (x : List ℕ) (more : List (Option Man)) → 1 ≤ n → n ≤ 8
    → is_shortest ((48 + n) ∷ x) ≡ true → SpellsRank x more → BeginsWithMan more
squares_after n [] more low high short none = subst BeginsWithMan (sym none) tt
squares_after n (c ∷ x) more low high short (own, rest, joined_by, byte, spelled) =
    after_digit n c own x more rest low high short byte joined_by

-- the digit of a run stands before the text of what follows it
run_text : (n : ℕ) (more : List (Option Man)) → 1 ≤ n → BeginsWithMan more
    → spelled_from n more ≡ (48 + n) ∷ spelled_from 0 more
run_text zero more low begins = absurd (omega arith)
run_text (suc n) [] low begins = refl
run_text (suc n) (None ∷ more) low begins = absurd begins
run_text (suc n) (Some man ∷ more) low begins = refl

-- what follows a byte of a shortest text is a shortest text
shortest_rest : (b : ℕ) (x : List ℕ) → is_shortest (b ∷ x) ≡ true → is_shortest x ≡ true
shortest_rest b [] short = refl
shortest_rest b (c ∷ x) short =
    (and_parts (not (is_step b && is_step c)) (is_shortest (c ∷ x)) short).1

-- a shortest text of squares is the one that is written
shortest_by : (b : ℕ) (x : List ℕ) (squares own more : List (Option Man))
    → is_shortest (b ∷ x) ≡ true → squares ≡ own ++ more → IsSquares b own
    → SpellsRank x more → x ≡ spelled_from 0 more → b ∷ x ≡ spelled_from 0 squares
shortest_by _ x squares _ more short joined_by (letter man) rest text =
    ap (λ y. man_letter man ∷ y) text ∙ sym (ap (spelled_from 0) joined_by)
shortest_by _ x squares _ more short joined_by (step n low high) rest text =
    let none_before : 0 + n ≡ n = omega arith in
    ap (λ y. (48 + n) ∷ y) text
    ∙ sym (run_text n more low (squares_after n x more low high short rest))
    ∙ sym (ap (spelled_from 0) joined_by ∙ longer_run 0 n more
    ∙ ap (λ m. spelled_from m more) none_before)

shortest_is : (x : List ℕ) (squares : List (Option Man)) → SpellsRank x squares
    → is_shortest x ≡ true → x ≡ spelled_from 0 squares
shortest_is [] squares none short = sym (ap (spelled_from 0) none)
shortest_is (b ∷ x) squares (own, more, joined_by, byte, rest) short =
    shortest_by b x squares own more short joined_by byte rest
    (shortest_is x more rest (shortest_rest b x short))

same_ranks : (p : Placement) (n : ℕ) (x y : List (List ℕ)) → SpellRanks p n x → SpellRanks p n y
    → list_all is_shortest x ≡ true
    → list_all is_shortest y ≡ true → x ≡ y
same_ranks p n [] [] s t short also = refl
same_ranks p n [] (b ∷ y) s t short also = let low = t.0 in absurd (omega arith)
same_ranks p n (a ∷ x) [] s t short also = let low = s.0 in absurd (omega arith)
same_ranks p n (a ∷ x) (b ∷ y) s t short also =
    let first =
    shortest_is a (row p n) s.1 (and_parts (is_shortest a) (list_all is_shortest x) short).0 in
    let other =
    shortest_is b (row p n) t.1 (and_parts (is_shortest b) (list_all is_shortest y) also).0 in
    let rest =
    same_ranks p (n - 1) x y s.2 t.2
    (and_parts (is_shortest a) (list_all is_shortest x) short).1
    (and_parts (is_shortest b) (list_all is_shortest y) also).1 in
    λ i. (first ∙ sym other) i ∷ rest i

pub one_fen : (P : State) (x y : List ℕ) → IsFen P x → IsFen P y → x ≡ y
one_fen P x y s t =
    s.text
    ∙ ap (λ ranks.
    joined 32 (joined 47 ranks ∷ side_text P.turn ∷ or_dash (rights_letters P.rights)
    ∷ en_passant_text P.en_passant
    ∷ decimal P.halfmove_clock ∷ decimal P.fullmove_number ∷ []))
    (same_ranks P.men 8 s.ranks t.ranks s.spelled t.spelled s.shortest t.shortest)
    ∙ sym t.text

-- it has one: the text that is written rank by rank
pub some_fen : (P : State) → (x : List ℕ) × IsFen P x
some_fen P = (
  _,
  record {
    ranks = rank_texts P.men 8;
    spelled = spell_ranks P.men 8;
    shortest =
        shortest_ranks P.men 8;
    text = refl;
  },
)
