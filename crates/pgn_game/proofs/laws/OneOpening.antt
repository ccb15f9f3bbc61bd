-- A game has one opening at most, and one where a line ends in a position of it.
use Rattle.pgn_game.proofs.Common.{◌≡◌, ◌<◌, List, Some, None, inl, inr, ap, refl, sym}
use Rattle.pgn_game.proofs.Common.{subst, arith, State}
use Rattle.std.proofs.Common.{rules, IsSome}
use Rattle.std.proofs.lemmas.Bool.{cases_eq, cases_lt}
use Rattle.pgn_game.specs.Public.Laws.{GameHasOneOpening, OpeningIsOneOrNone, OpeningIsThere}
use Rattle.pgn_game.specs.Public.Openings.{EndsAt, IsOpeningOf}
use Rattle.pgn_game.specs.declared.openings.Opening.{Opening}

same_opening : (a b : Opening) → a.ply ≡ b.ply → a.line ≡ b.line → a ≡ b
same_opening a b ply line = λ i. record { ply = ply i; line = line i }

not_later : (ends positions : List State) (a b : Opening) → IsOpeningOf ends positions a
    → IsOpeningOf ends positions b → a.ply < b.ply → ⊥
not_later ends positions a b first second later = first.last b.ply b.line later second.here

not_earlier_line : (ends positions : List State) (a b : Opening) → IsOpeningOf ends positions a
    → IsOpeningOf ends positions b → a.ply ≡ b.ply → a.line < b.line → ⊥
not_earlier_line ends positions a b first second ply less =
    second.first a.line less (subst (λ n. EndsAt ends positions n a.line) ply first.here)

same_line : (ends positions : List State) (a b : Opening) → IsOpeningOf ends positions a
    → IsOpeningOf ends positions b → a.ply ≡ b.ply → a.line ≡ b.line
same_line ends positions a b first second ply = elim (cases_eq a.line b.line) [
  | inl line ↦ line
  | inr other ↦ elim (cases_lt a.line b.line) [
    | inl less ↦ absurd (not_earlier_line ends positions a b first second ply less)
    | inr not_less ↦ absurd (not_earlier_line ends positions b a second first (sym ply)
        (omega arith))
  ]
]

pub one_opening : GameHasOneOpening
one_opening ends positions a b first second = elim (cases_eq a.ply b.ply) [
  | inl ply ↦ same_opening a b ply (same_line ends positions a b first second ply)
  | inr other ↦ elim (cases_lt a.ply b.ply) [
    | inl less ↦ absurd (not_later ends positions a b first second less)
    | inr not_less ↦ absurd (not_later ends positions b a second first (omega arith))
  ]
]

pub one_or_none : OpeningIsOneOrNone
one_or_none ends positions None None first second = refl
one_or_none ends positions None (Some b) first second = absurd (first b.ply b.line second.here)
one_or_none ends positions (Some a) None first second = absurd (second a.ply a.line first.here)
one_or_none ends positions (Some a) (Some b) first second =
    ap Some (one_opening ends positions a b first second)

none_there : IsSome {T = Opening} None → ⊥
none_there some = search rules

some_there : (opening : Opening) → IsSome (Some opening)
some_there opening = search rules

pub opening_is_there : OpeningIsThere
opening_is_there ends positions None none =
    ((λ some. absurd (none_there some)), (λ here. absurd (none here.0 here.1 here.2)))
opening_is_there ends positions (Some opening) found =
    ((λ _. (opening.ply, opening.line, found.here)), (λ _. some_there opening))
