-- Conditions on the men: what spells one is read as it, and the other way round.
use Rattle.std.specs.Prelude.{codes, Option, ◌+◌, ◌-◌, ◌==◌, if◌then◌else◌}
use Rattle.pgn_criteria.proofs.Common.{◌≡◌, ◌≢◌, ℕ, true, false, Bool, List, [], ◌∷◌, ◌++◌, IsTrue}
use Rattle.pgn_criteria.proofs.Common.{refl, sym, subst, arith, list_all, and_parts, and_from}
use Rattle.pgn_criteria.proofs.Common.{nat_tests, IsSquares, letter, step, parted_at, before_first}
use Rattle.pgn_criteria.proofs.Common.{man_letter, Man, Side, White, Black, Kind, King, IsStretch}
use Rattle.pgn_criteria.proofs.Common.{AreRanks, IsPattern, items_where, AreItems, is_letter}
use Rattle.pgn_criteria.proofs.Common.{items_of, run_of, after_word, SpellsPosition, Fen, Flip}
use Rattle.pgn_criteria.specs.Public.Patterns.{spelled, among, other}
use Rattle.pgn_criteria.proofs.SetFacts.{all_men, letter_in, are_split}
use Rattle.pgn_criteria.proofs.SolidFacts.{is_solid, AreSolid, EachSolid, all_solid, front_solid}
use Rattle.pgn_criteria.proofs.SolidFacts.{parts_solid, solid_begins, word_read, word_spelled}
use Rattle.pgn_criteria.proofs.SolidFacts.{BeginsSolid, begins_some}

letter_solid : (side : Side) (kind : Kind)
    → is_solid (man_letter (record { side = side; kind = kind })) ≡ true
letter_solid White King = refl
letter_solid Black King = refl
letter_solid _ _ = refl

digit_solid : (n : ℕ) → is_solid (48 + n) ≡ true
digit_solid n = grind (arith, nat_tests)

squares_solid : (b : ℕ) (own : List (Option Man)) → IsSquares b own → is_solid b ≡ true
squares_solid b own (letter man) = letter_solid man.side man.kind
squares_solid b own (step n low high) = digit_solid n

letters_solid : (letters : List ℕ) → IsTrue (list_all is_letter letters) → AreSolid letters
letters_solid letters are = all_solid is_letter one_solid letters are
  where
    one_solid : (b : ℕ) → is_letter b ≡ true → is_solid b ≡ true
    one_solid b is = let man = letter_in all_men b is in
        subst (λ n. is_solid n ≡ true) man.1 (letter_solid man.0.side man.0.kind)

-- both ends of a set are
set_solid : (letters : List ℕ) → AreSolid letters → AreSolid (91 ∷ (letters ++ 93 ∷ []))
set_solid [] solid = refl
set_solid (b ∷ x) solid = let parts = and_parts (is_solid b) (list_all is_solid x) solid in
    and_from (is_solid b) (list_all is_solid (x ++ 93 ∷ [])) parts.0 (set_solid x parts.1)

stretch_solid : (item : List ℕ) (own : List (Option Man)) → IsStretch item own → AreSolid item
stretch_solid _ _ (spelled byte squares is) =
    and_from (is_solid byte) true (squares_solid byte squares is) refl
stretch_solid _ _ (among letters man are has) = set_solid letters (letters_solid letters are.1)
stretch_solid _ _ (other letters square are none) =
    set_solid (94 ∷ letters) (letters_solid letters are.1)
stretch_solid _ _ _ = refl

-- so is a text that is cut into items
cut_solid : (in_set : Bool) (x : List ℕ) → EachSolid (items_where in_set x) → AreSolid x
cut_solid in_set [] each = refl
cut_solid true (b ∷ x) each =
    elim (b == 93) as (λ t.
    EachSolid (if t then (b ∷ []) ∷ items_where false x
    else before_first b (items_where true x)) → AreSolid (b ∷ x)) [
      | true ↦ λ solid. and_from (is_solid b) (list_all is_solid x)
          (and_parts (is_solid b) true solid.0).0 (cut_solid false x solid.1)
      | false ↦ λ solid. let parts = front_solid b (items_where true x) solid in
          and_from (is_solid b) (list_all is_solid x) parts.0 (cut_solid true x parts.1)
    ] each
cut_solid false (b ∷ x) each =
    elim (b == 91) as (λ t.
    EachSolid (if t then before_first b (items_where true x)
    else (b ∷ []) ∷ items_where false x) → AreSolid (b ∷ x)) [
      | true ↦ λ solid. let parts = front_solid b (items_where true x) solid in
          and_from (is_solid b) (list_all is_solid x) parts.0 (cut_solid true x parts.1)
      | false ↦ λ solid. and_from (is_solid b) (list_all is_solid x)
          (and_parts (is_solid b) true solid.0).0 (cut_solid false x solid.1)
    ] each

each_solid : (items : List (List ℕ)) → AreItems items → EachSolid items
each_solid [] are = tt
each_solid (item ∷ more) are = (stretch_solid item are.0.0 are.0.1, each_solid more are.1)

-- the ranks of a pattern are of items, and so are solid
ranks_solid : (n : ℕ) (ranks : List (List ℕ)) → AreRanks n ranks → EachSolid ranks
ranks_solid n [] are = tt
ranks_solid n (rank ∷ more) are = (
  cut_solid false rank
      (each_solid (items_of rank) ((are_split (items_of rank)).1 (are.1.1, are.1.2))),
  ranks_solid (n - 1) more are.2,
)

pub pattern_solid : (pattern : List ℕ) → IsPattern pattern → AreSolid pattern
pattern_solid pattern is = parts_solid 47 refl pattern (ranks_solid 8 (parted_at 47 pattern) is)

pub pattern_some : (pattern : List ℕ) → IsPattern pattern → pattern ≢ []
pattern_some [] is none = is.1.0 refl
pattern_some (b ∷ x) is none = cc

pub fen_read : (text pattern : List ℕ) → SpellsPosition text (Fen pattern)
    → (run_of text ≡ codes "fen") × (after_word text ≡ pattern)
fen_read text pattern ((gap, is, g), good) =
    word_read text (codes "fen") gap pattern is refl g
    (solid_begins pattern (pattern_some pattern good) (pattern_solid pattern good))

pub fen_spelled : (text pattern : List ℕ) → run_of text ≡ codes "fen" → pattern ≡ after_word text
    → IsPattern pattern → SpellsPosition text (Fen pattern)
fen_spelled text pattern run after good =
    let two = word_spelled text (codes "fen") pattern run (sym after) (pattern_some pattern good) in
    (two, good)

-- so it is after `flip`
fen_begins : (text pattern : List ℕ) → SpellsPosition text (Fen pattern) → BeginsSolid text
fen_begins text pattern ((gap, is, g), good) = (102, _, is, refl)

pub flip_read : (text pattern : List ℕ) → SpellsPosition text (Flip pattern)
    → (run_of text ≡ codes "flip") × SpellsPosition (after_word text) (Fen pattern)
flip_read text pattern (own, (gap, is, g), fen, good) =
    let parts = word_read text (codes "flip") gap own is refl g (fen_begins own pattern (fen, good))
    in
    (parts.0, subst (λ x. SpellsPosition x (Fen pattern)) (sym parts.1) (fen, good))

pub flip_spelled : (text own pattern : List ℕ) → run_of text ≡ codes "flip" → own ≡ after_word text
    → SpellsPosition own (Fen pattern) → SpellsPosition text (Flip pattern)
flip_spelled text own pattern run after spells =
    let two = word_spelled text (codes "flip") own run (sym after)
    (begins_some own (fen_begins own pattern spells)) in (own, two, spells.0, spells.1)
