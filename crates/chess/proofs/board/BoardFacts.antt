-- Facts that boards rest on.
use Rattle.chess.proofs.Common.{◌≡◌, ◌↔◌, ◌<◌, ◌≤◌, ◌+◌, ◌&&◌, ◌||◌, ℕ, Bool, true, false, inl, inr}
use Rattle.chess.proofs.Common.{ap, refl, sym, subst, ◌∙◌, arith, IsTrue, Some, None, cases_eq}
use Rattle.chess.proofs.Common.{or_cases, or_left, true≢false, Place, IsOnBoard, square_at}
use Rattle.chess.proofs.Common.{index_of, same_square, index_of-square_at, square_at-index_of}
use Rattle.chess.proofs.Common.{on_board-square_at, is_in-empty, Placement, man_at}
use Rattle.chess.specs.Shared.SetFacts.{same_squares, other_squares}
use Rattle.chess.specs.Public.Sets.{Places, is_in, no_places, IsReachOf}
use Rattle.chess.proofs.PlaceFacts.{same_square-then}

-- ---- loops over the 64 squares that gather those with a fact

pub record IsGathered (fact : Place → Type 0) (n : ℕ) (set : Places) : Type 0 where
  pub there : (s : Place) → IsOnBoard s → index_of s < n → (is_in set s ≡ true) ↔ fact s
  pub none : (s : Place) → IsOnBoard s → n ≤ index_of s → is_in set s ≡ false
  pub inside : (s : Place) → is_in set s ≡ true → IsOnBoard s

-- the nth square is the one at its place
the_square : (s : Place) (n : ℕ) → IsOnBoard s → index_of s ≡ n → s ≡ square_at n
the_square s n on_board e = sym (square_at-index_of s on_board) ∙ ap square_at e

pub gathered_more : (fact : Place → Type 0) (n : ℕ) (old new : Places) → n < 64
    → IsGathered fact n old → fact (square_at n)
    → ((s : Place) → is_in new s ≡ (same_square (square_at n) s || is_in old s))
    → IsGathered fact (n + 1) new
gathered_more fact n old new h so_far holds put = record {
  there = λ s on_board less. elim (cases_eq (index_of s) n) [
    | inl same ↦
        let here = the_square s n on_board same in
        let in_set : is_in new s ≡ true =
        put s ∙ or_left _ (is_in old s)
        (same_squares (square_at n) s (on_board-square_at n h) on_board
        (ap index_of (sym here))) in
        ((λ e. subst fact (sym here) holds), (λ f. in_set))
    | inr other ↦
        let apart = other_squares (square_at n) s (on_board-square_at n h) on_board
        (λ e. other (sym e ∙ index_of-square_at n h)) in
        let as_before : is_in new s ≡ is_in old s = put s ∙ ap (λ b. b || is_in old s) apart in
        let before = so_far.there s on_board (omega arith) in
        ((λ e. before.0 (sym as_before ∙ e)), (λ f. as_before ∙ before.1 f))
  ];
  none = λ s on_board more.
      let apart = other_squares (square_at n) s (on_board-square_at n h) on_board
      (λ e. let place = index_of-square_at n h in omega arith) in
      put s ∙ ap (λ b. b || is_in old s) apart ∙ so_far.none s on_board (omega arith);
  inside =
      λ s here. elim (or_cases (same_square (square_at n) s) (is_in old s) (sym (put s) ∙ here)) [
        | inl added ↦ subst IsOnBoard (same_square-then (square_at n) s added)
            (on_board-square_at n h)
        | inr before ↦ so_far.inside s before
      ];
}

pub gathered_skip : (fact : Place → Type 0) (n : ℕ) (set : Places) → n < 64 → IsGathered fact n set
    → (fact (square_at n) → ⊥) → IsGathered fact (n + 1) set
gathered_skip fact n set h so_far fails = record {
  there = λ s on_board less. elim (cases_eq (index_of s) n) [
    | inl same ↦
        let here = the_square s n on_board same in (
          (λ e. let out = so_far.none s on_board (omega arith) in let no : true ≡ false =
              sym e ∙ out in absurd (true≢false no)),
          (λ f. absurd (fails (subst fact here f))),
        )
    | inr other ↦ so_far.there s on_board (omega arith)
  ];
  none = λ s on_board more. so_far.none s on_board (omega arith);
  inside = so_far.inside;
}

gathered_same : (fact : Place → Type 0) (n : ℕ) (old new : Places) → IsGathered fact n old
    → ((s : Place) → is_in new s ≡ is_in old s) → IsGathered fact n new
gathered_same fact n old new so_far same = record {
  there = λ s on_board less.
      let before = so_far.there s on_board less in
      ((λ e. before.0 (sym (same s) ∙ e)), (λ f. same s ∙ before.1 f));
  none = λ s on_board more. same s ∙ so_far.none s on_board more;
  inside = λ s here. so_far.inside s (sym (same s) ∙ here);
}

pub gathered_step : (fact : Place → Type 0) (n : ℕ) (old new : Places) (t : Place) (b : Bool)
    → n < 64 → IsGathered fact n old → t ≡ square_at n
    → IsTrue b ↔ fact t → ((s : Place) → is_in new s ≡ ((b && same_square t s) || is_in old s))
    → IsGathered fact (n + 1) new
gathered_step fact n old new t true h so_far here test put =
    gathered_more fact n old new h so_far (subst fact here (test.0 refl))
    (λ s. put s ∙ ap (λ (u : Place). same_square u s || is_in old s) here)
gathered_step fact n old new t false h so_far here test put =
    gathered_same fact (n + 1) old new
    (gathered_skip fact n old h so_far (λ f. let no : false ≡ true =
    test.1 (subst fact (sym here) f) in absurd (true≢false (sym no)))) put

pub gathered_none : (fact : Place → Type 0) (set : Places) → set ≡ no_places → IsGathered fact 0 set
gathered_none fact set e = record {
  there = λ s on_board less. absurd (omega arith);
  none = λ s on_board more. ap (λ set. is_in set s) e ∙ is_in-empty s;
  inside = λ s here. let clash : true ≡ false =
      sym here ∙ ap (λ set. is_in set s) e ∙ is_in-empty s in absurd (true≢false clash);
}

-- no square of 64 has the fact
abbrev pub IsNoneYet : (Place → Type 0) → ℕ → Type 0
IsNoneYet fact n = (s : Place) → IsOnBoard s → index_of s < n → fact s → ⊥

-- where no man stands nothing is attacked
pub no_reach : (p : Placement) (s : Place) (set : Places) → man_at p s ≡ None → set ≡ no_places
    → IsReachOf p s set
no_reach p s set none bare t =
    let outside : is_in set t ≡ false = ap (λ set. is_in set t) bare ∙ is_in-empty t in (
      (λ e. absurd (true≢false (sym e ∙ outside))),
      (λ r. let both : None ≡ Some r.1.man = sym none ∙ r.1.here in cc),
    )
