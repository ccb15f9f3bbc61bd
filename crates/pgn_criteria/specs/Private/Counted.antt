-- What conditions say of a game by its tags, its result and the number of its plies.
use Rattle.std.specs.Prelude.{◌≡◌, ◌≤◌, ℕ, Bool, List, [], ◌∷◌, length}
use Rattle.pgn_game.specs.Public.Replays.{Replay}
use Rattle.pgn_criteria.specs.Public.Comparing.{Compares}
use Rattle.pgn_criteria.specs.Public.Conditions.{Conditions}
use Rattle.pgn_criteria.specs.Public.Meeting.{Heading, Taken}
use Rattle.pgn_criteria.specs.Public.MoveTexts.{FitMoves}
use Rattle.pgn_criteria.specs.Public.Words.{words_of}
use Rattle.pgn_criteria.specs.Private.Stages.{AllClaims, SaysOfHeading}
use Rattle.pgn_criteria.specs.declared.condition.Stated.{Stated}
use Rattle.pgn_criteria.specs.declared.condition.GameClaim.{GameClaim}
use Rattle.pgn_criteria.specs.declared.condition.GameClaim.TheVariants.{Moves, Plies}
use Rattle.pgn_criteria.specs.declared.condition.MoveClaim.{MoveClaim}
use Rattle.pgn_criteria.specs.declared.condition.MoveClaim.TheVariants.{Setup}

-- what a condition says of the tags, the result and the number of plies
abbrev pub SaysOfCounted : Heading → ℕ → Bool → GameClaim (List ℕ) → Type 0
SaysOfCounted heading plies denied (Plies comparison count) =
    Taken denied (Compares comparison plies count)
SaysOfCounted heading plies denied claim = SaysOfHeading heading denied claim

abbrev pub AllOfCounted : Heading → ℕ → List (Stated (GameClaim (List ℕ))) → Type 0
AllOfCounted heading plies [] = Unit {0}
AllOfCounted heading plies (one ∷ more) = SaysOfCounted heading plies one.is_denied one.claim
    × AllOfCounted heading plies more

-- the claim does not speak of the texts of moves
abbrev pub IsFreeOfWords : GameClaim (List ℕ) → Type 0
IsFreeOfWords (Moves words) = ⊥
IsFreeOfWords claim = Unit {0}

-- none of the conditions speaks of moves but by their number
abbrev pub AreFreeOfWords : Conditions → Type 0
AreFreeOfWords asked = AllClaims IsFreeOfWords asked.games × (asked.moves ≡ []) × (asked.spans ≡ [])

-- the claim speaks of the move before or after a position
abbrev pub IsBesidePlies : MoveClaim (List ℕ) → Type 0
IsBesidePlies (Setup setup) = ⊥
IsBesidePlies claim = Unit {0}

-- none of the conditions speaks of the first moves by their texts, or has `position`
abbrev pub AreOfSeen : Conditions → Type 0
AreOfSeen asked = AllClaims IsFreeOfWords asked.games × AllClaims IsBesidePlies asked.moves

-- the conditions speak of the game but by the texts of its first moves, of single plies and of the
-- moves beside them
abbrev pub AreOfTurns : Conditions → Type 0
AreOfTurns asked = AllClaims IsFreeOfWords asked.games × (asked.spans ≡ [])

-- what a condition says of a game with this heading and so many plies that begins as this replay
abbrev pub SaysOfBegun : Heading → ℕ → Replay → Bool → GameClaim (List ℕ) → Type 0
SaysOfBegun heading plies beginning denied (Moves words) =
    Taken denied (FitMoves beginning 0 (words_of words))
SaysOfBegun heading plies beginning denied claim = SaysOfCounted heading plies denied claim

abbrev pub AllOfBegun : Heading → ℕ → Replay → List (Stated (GameClaim (List ℕ))) → Type 0
AllOfBegun heading plies beginning [] = Unit {0}
AllOfBegun heading plies beginning (one ∷ more) =
    SaysOfBegun heading plies beginning one.is_denied one.claim
    × AllOfBegun heading plies beginning more

-- a claim asks for no more than so many first moves by their texts
abbrev pub AsksWords : ℕ → GameClaim (List ℕ) → Type 0
AsksWords most (Moves words) = length (words_of words) ≤ most
AsksWords most claim = Unit {0}

abbrev pub AskWords : ℕ → Conditions → Type 0
AskWords most asked = AllClaims (AsksWords most) asked.games
