-- The legal moves that a word names, square by square.
use Rattle.std.specs.List.{Contains, slice_index}
use Rattle.std.specs.List.Sorted.{IsStrictlyIncreasing}
use Rattle.std.proofs.Math.ListN.{get_or-append}
use Rattle.std.proofs.Math.Seq.{get_or-append_seam}
use Rattle.std.proofs.lemmas.Bool.{cases_eq}
use Rattle.std.proofs.lemmas.List.{map-append, length-map, get_or-map}
use Rattle.std.proofs.lemmas.List.Elements.{Contains-get_or, Contains-push, Contains-push_cases}
use Rattle.std.proofs.lemmas.List.Elements.{Contains-append_left}
use Rattle.pgn_game.proofs.Common.{◌≡◌, ◌↔◌, ℕ, ◌+◌, ◌<◌, List, [], ◌∷◌, ◌++◌, length}
use Rattle.pgn_game.proofs.Common.{length-append, map, get_or, sym, ap, subst, ◌∙◌, inl, inr, arith}
use Rattle.pgn_game.proofs.Common.{State, IsNamed, square_at-index_of, index_of-below}
use Rattle.pgn_game.proofs.Common.{index_of-square_at, Place, square_at, index_of, Move, AreNamed}
use Rattle.pgn_game.specs.Private.RefusalWalks.{AddsFrom}

-- a number above the last of numbers that ascend
increasing_push : (xs : List ℕ) (y : ℕ) → IsStrictlyIncreasing xs
    → ((k : ℕ) → k < length xs → slice_index xs k < y) → IsStrictlyIncreasing (xs ++ y ∷ [])
increasing_push xs y rises below k low =
    let size : length (xs ++ y ∷ []) ≡ length xs + 1 = length-append xs (y ∷ []) in
    let here : slice_index (xs ++ y ∷ []) k ≡ slice_index xs k =
    get_or-append xs (y ∷ []) 0 k (omega arith) in
    elim (cases_eq (k + 1) (length xs)) [
      | inl last ↦
          let next : slice_index (xs ++ y ∷ []) (k + 1) ≡ y =
          ap (slice_index (xs ++ y ∷ [])) last ∙ get_or-append_seam xs y [] 0 in
          let there = below k (omega arith) in omega arith
      | inr more ↦
          let next : slice_index (xs ++ y ∷ []) (k + 1) ≡ slice_index xs (k + 1) =
          get_or-append xs (y ∷ []) 0 (k + 1) (omega arith) in
          let there = rises k (omega arith) in omega arith
    ]

-- a named move whose square has that place goes from the square
at_square : {now : State} {word : List ℕ} (n : ℕ) (s : Place) (m : Move) → IsNamed now word m
    → index_of m.from ≡ n → s ≡ square_at n → m.from ≡ s
at_square n s m named here at = sym (square_at-index_of m.from named.legal.pseudo_legal.from)
    ∙ ap square_at here ∙ sym at

-- ---- the moves from the first squares, so many

pub record HasNamed (now : State) (word : List ℕ) (n : ℕ) (moves : List Move) : Type 0 where
  pub each : (m : Move) → (IsNamed now word m × (index_of m.from < n)) ↔ Contains moves m
  pub ascending : IsStrictlyIncreasing (map (λ m. index_of m.from) moves)

pub named_start : (now : State) (word : List ℕ) (moves : List Move) → moves ≡ []
    → HasNamed now word 0 moves
named_start now word moves none = record {
  each = λ m. (
    (λ named. absurd (let low = named.1 in omega arith)),
    (λ here. absurd (let at : here.0 < length moves = here.1 in omega (arith, ap length none))),
  );
  ascending =
      λ k low. absurd
      (omega (arith, ap (λ (ms : List Move). length (map (λ m. index_of m.from) ms)) none));
}

-- each of their squares stands before the next
below_next : (now : State) (word : List ℕ) (n : ℕ) (moves : List Move) → HasNamed now word n moves
    → (k : ℕ) → k < length (map (λ m. index_of m.from) moves)
    → slice_index (map (λ m. index_of m.from) moves) k < n
below_next now word n [] has k low = absurd (omega arith)
below_next now word n (first ∷ rest) has k low =
    let moves = first ∷ rest in
    let small : k < length moves = simp length-map at low in
    let is : slice_index (map (λ m. index_of m.from) moves) k
    ≡ index_of (get_or moves k first).from =
    get_or-map (λ (m : Move). index_of m.from) moves k first 0 small in
    let below = ((has.each (get_or moves k first)).1 (Contains-get_or moves k first small)).1 in
    omega arith

pub named_more : (now : State) (word : List ℕ) (n : ℕ) (s : Place) (old new : List Move) → n < 64
    → s ≡ square_at n → HasNamed now word n old
    → AddsFrom now word s old new → HasNamed now word (n + 1) new
named_more now word n s old new low at has (inl (same, none)) = record {
  each = λ m. subst (λ ms. (IsNamed now word m × (index_of m.from < n + 1))
      ↔ Contains ms m) (sym same) (
        (λ named. elim (cases_eq (index_of m.from) n) [
          | inl here ↦ absurd (none m (at_square n s m named.0 here at) named.0)
          | inr other ↦ (has.each m).0 (named.0, (let below = named.1 in omega arith))
        ]),
        (λ here. let named = (has.each m).1 here in
            (named.0, (let below = named.1 in omega arith))),
      );
  ascending = rw same has.ascending;
}
named_more now word n s old new low at has (inr (own, is, from, named, only)) =
    let place : index_of own.from ≡ n = ap index_of (from ∙ at) ∙ index_of-square_at n low in
    record {
      each = λ m. subst (λ ms. (IsNamed now word m × (index_of m.from < n + 1))
          ↔ Contains ms m) (sym is) (
            (λ asked. elim (cases_eq (index_of m.from) n) [
              | inl here ↦ subst (Contains (old ++ own ∷ []))
                  (sym (only m (at_square n s m asked.0 here at) asked.0)) (Contains-push old own)
              | inr other ↦ Contains-append_left old (own
                  ∷ []) m ((has.each m).0 (asked.0, (let below = asked.1 in omega arith)))
            ]),
            (λ here. elim (Contains-push_cases old own m here) [
              | inl before ↦ let was = (has.each m).1 before in
                  (was.0, (let below = was.1 in omega arith))
              | inr same ↦ (
                subst (IsNamed now word) same named,
                (let there = ap (λ (x : Move). index_of x.from) same in omega arith),
              )
            ]),
          );
      ascending =
          subst (λ (ms : List Move). IsStrictlyIncreasing (map (λ m. index_of m.from) ms)) (sym is)
          (subst IsStrictlyIncreasing
          (sym (map-append (λ (m : Move). index_of m.from) old (own ∷ [])))
          (increasing_push (map (λ m. index_of m.from) old) (index_of own.from) has.ascending
          (λ k under. let below = below_next now word n old has k under in omega arith)));
    }

pub named_all : (now : State) (word : List ℕ) (moves : List Move) → HasNamed now word 64 moves
    → AreNamed now word moves
named_all now word moves has = record {
  each = λ m. (
    (λ named. (has.each m).0 (named, index_of-below m.from named.legal.pseudo_legal.from)),
    (λ here. ((has.each m).1 here).0),
  );
  ascending = has.ascending;
}
