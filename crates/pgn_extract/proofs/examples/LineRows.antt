-- Worked rows of the lines of a text and of the marks that stand in a stretch; and what these
-- definitions refuse.
use Rattle.pgn_extract.proofs.Common.{◌≡◌, ◌<◌, inl, inr, List, ℕ, [], ◌∷◌, ◌++◌, None, Some, codes}
use Rattle.pgn_extract.proofs.Common.{length, refl, sym, ap, arith, AreMarksOf, IsBeforeLine}
use Rattle.pgn_extract.proofs.Common.{IsLineOf, IsWithin, pairs_of, game_id}
use Rattle.pgn_extract.proofs.app.LinesOfMarks.{first_or_later, none_of_none}

-- ---- lines

-- a line has its end
first_line : IsLineOf (codes "a\nb") (codes "a\n")
first_line = record {
  before = [];
  rest = codes "a\nb";
  parted = refl;
  begins = inl refl;
  some = λ none. cc;
  is = refl;
}

-- and the last one need not have one
last_line : IsLineOf (codes "a\nb") (codes "b")
last_line = record {
  before = codes "a\n";
  rest = codes "b";
  parted = refl;
  begins = inr
      (codes "a", refl);
  some = λ none. cc;
  is = refl;
}

-- none begins within another
no_line_within : IsLineOf (codes "ab") (codes "b") → ⊥
no_line_within of =
    elim (first_or_later (codes "ab") (codes "b") of) [
      | inl is ↦ absurd (let differ : 1 ≡ 2 = ap length is in omega arith)
      | inr none ↦ none.some (none_of_none none.before none.rest (sym none.parted))
    ]

-- none ends before its end
no_part_of_a_line : IsLineOf (codes "ab\n") (codes "ab") → ⊥
no_part_of_a_line of =
    elim (first_or_later (codes "ab\n") (codes "ab") of) [
      | inl is ↦ absurd (let differ : 2 ≡ 3 = ap length is in omega arith)
      | inr none ↦ none.some (none_of_none none.before none.rest (sym none.parted))
    ]

-- none begins after a byte that is no line feed
no_line_after_a_letter : IsBeforeLine (codes "a") → ⊥
no_line_after_a_letter before =
    elim before [
      | inl none ↦ absurd (let differ : 1 ≡ 0 = ap length none in omega arith)
      | inr ended ↦ last_is ended.0 ended.1
    ]
  where
    last_is : (front : List ℕ) → codes "a" ≡ front ++ 10 ∷ [] → ⊥
    last_is [] is = cc
    last_is (x ∷ []) is = cc
    last_is (x ∷ y ∷ more) is = cc

-- ---- marks

-- the stretch has its first offset, and not its end
stretch : IsWithin 22 44 (game_id 2 22)
stretch = (omega arith, omega arith)

not_its_end : IsWithin 22 44 (game_id 3 44) → ⊥
not_its_end within = let beyond : 44 < 44 = within.1 in omega arith

pairs_in_a_stretch : pairs_of 22 44 (Some (game_id 2 22)) ∷ pairs_of 22 44 (Some (game_id 3 44))
    ∷ pairs_of 22 44 (Some (game_id 1 0)) ∷ pairs_of 22 44 None ∷ []
    ≡ ((2, 22) ∷ []) ∷ [] ∷ [] ∷ [] ∷ []
pairs_in_a_stretch = refl

-- no mark of a line is left out
none_left_out : AreMarksOf (codes "a.pgn") (codes "2@22 13\n") 0 44 [] → ⊥
none_left_out are =
    let line : IsLineOf (codes "2@22 13\n") (codes "2@22 13\n") = record {
      before = [];
      rest = codes "2@22 13\n";
      parted = refl;
      begins = inl refl;
      some = λ none. cc;
      is = refl;
    } in
    let asked = (are (game_id 2 22)).1 ((omega arith, omega arith), (codes "2@22 13\n", line, refl))
    in cc

-- and none is added, as one beside the stretch
none_added : AreMarksOf (codes "a.pgn") (codes "2@22 13\n") 0 22 (game_id 2 22 ∷ []) → ⊥
none_added are =
    let beyond : 22 < 22 = ((are (game_id 2 22)).0 refl).0.1 in omega arith
