-- What the definitions of openings refuse: an earlier ply, a later line of the file, a line that
-- ends elsewhere, none where a line ends.
use Rattle.pgn_game.proofs.Common.{◌<◌, ℕ, List, Some, None, State}
use Rattle.pgn_game.specs.Public.Openings.{EndsIn, EndsAt, IsOpeningOf, IsOpeningIn, IsFirstIn}
use Rattle.pgn_game.specs.declared.openings.Opening.{Opening}

no_earlier_ply : (ends positions : List State) (opening : Opening) (ply line : ℕ)
    → opening.ply < ply → EndsAt ends positions ply line → IsOpeningOf ends positions opening → ⊥
no_earlier_ply ends positions opening ply line later there is = is.last ply line later there

no_later_line : (ends positions : List State) (opening : Opening) (line : ℕ)
    → line < opening.line → EndsAt ends positions opening.ply line
    → IsOpeningOf ends positions opening → ⊥
no_later_line ends positions opening line earlier there is = is.first line earlier there

no_line_from_elsewhere : (ends positions : List State) (opening : Opening)
    → (EndsAt ends positions opening.ply opening.line → ⊥)
    → IsOpeningOf ends positions opening → ⊥
no_line_from_elsewhere ends positions opening elsewhere is = elsewhere is.here

not_none : (ends positions : List State) (ply line : ℕ) → EndsAt ends positions ply line
    → IsOpeningIn ends positions None → ⊥
not_none ends positions ply line there none = none ply line there

-- of the lines that end in a position the second is not the first, and it has one
no_second_line : (ends : List State) (P : State) (line other : ℕ) → other < line
    → EndsIn ends other P → IsFirstIn ends P (Some line) → ⊥
no_second_line ends P line other earlier there is = is.1 other earlier there

no_first_elsewhere : (ends : List State) (P : State) (line : ℕ) → (EndsIn ends line P → ⊥)
    → IsFirstIn ends P (Some line) → ⊥
no_first_elsewhere ends P line elsewhere is = elsewhere is.0

not_without_line : (ends : List State) (P : State) (line : ℕ) → EndsIn ends line P
    → IsFirstIn ends P None → ⊥
not_without_line ends P line there none = none line there
