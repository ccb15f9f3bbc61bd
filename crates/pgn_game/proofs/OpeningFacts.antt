-- A game that comes to one more position: its opening is there, or stays.
use Rattle.pgn_game.proofs.Common.{◌≡◌, ◌<◌, ℕ, List, [], ◌∷◌, ◌++◌, length, Option, Some, None}
use Rattle.pgn_game.proofs.Common.{inl, inr, subst, arith, State}
use Rattle.std.specs.Prelude.{◌⊎◌}
use Rattle.std.proofs.lemmas.Option.{slice_get_within}
use Rattle.pgn_game.specs.Public.Openings.{EndsIn, EndsAt, IsOpeningOf, IsOpeningIn, IsFirstIn}
use Rattle.pgn_game.specs.declared.openings.Opening.{Opening}
use Rattle.pgn_game.proofs.OneMore.{get_kept, get_last, get_more}

ends_kept : (ends seen : List State) (P : State) (ply line : ℕ) → EndsAt ends seen ply line
    → EndsAt ends (seen ++ P ∷ []) ply line
ends_kept ends seen P ply line here = (here.0, get_kept seen P ply here.0 here.1, here.2)

ends_more : (ends seen : List State) (P : State) (ply line : ℕ)
    → EndsAt ends (seen ++ P ∷ []) ply line
    → EndsAt ends seen ply line ⊎ ((ply ≡ length seen) × EndsIn ends line P)
ends_more ends seen P ply line here = elim (get_more seen P ply here.0 here.1) [
  | inl old ↦ inl (here.0, old, here.2)
  | inr new ↦ inr (new.0, subst (EndsIn ends line) new.1 here.2)
]

within : (ends seen : List State) (ply line : ℕ) → EndsAt ends seen ply line → ply < length seen
within ends seen ply line here = slice_get_within seen ply here.0 here.1

-- the first line that ends there is the opening
pub opening_here : (ends seen : List State) (P : State) (line : ℕ) → IsFirstIn ends P (Some line)
    → IsOpeningOf ends (seen ++ P ∷ []) (record { ply = length seen; line = line })
opening_here ends seen P line first = record {
  here = (P, get_last seen P, first.0);
  last = λ ply other later there. elim (ends_more ends seen P ply other there) [
    | inl old ↦ let less = within ends seen ply other old in absurd (omega arith)
    | inr new ↦ let same = new.0 in absurd (omega arith)
  ];
  first = λ other less there. elim (ends_more ends seen P (length seen) other there) [
    | inl old ↦ let below = within ends seen (length seen) other old in absurd (omega arith)
    | inr new ↦ first.1 other less new.1
  ];
}

none_more : (ends seen : List State) (P : State) → IsFirstIn ends P None → (ply line : ℕ)
    → EndsAt ends (seen ++ P ∷ []) ply line → EndsAt ends seen ply line
none_more ends seen P none ply line there = elim (ends_more ends seen P ply line there) [
  | inl old ↦ old
  | inr new ↦ absurd (none line new.1)
]

-- where no line ends there, all is as it was
pub opening_stays : (ends seen : List State) (P : State) (found : Option Opening)
    → IsFirstIn ends P None → IsOpeningIn ends seen found
    → IsOpeningIn ends (seen ++ P ∷ []) found
opening_stays ends seen P None none before = λ ply line there.
    before ply line (none_more ends seen P none ply line there)
opening_stays ends seen P (Some opening) none before = record {
  here = ends_kept ends seen P opening.ply opening.line before.here;
  last = λ ply line later there.
      before.last ply line later (none_more ends seen P none ply line there);
  first = λ line less there.
      before.first line less (none_more ends seen P none opening.ply line there);
}
