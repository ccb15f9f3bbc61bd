-- What holds of the place where a text stops agreeing with games.
use Rattle.std.specs.Prelude.{◌≡◌, ℕ, ◌+◌, ◌≤◌, ◌==◌, Bool, List, [], ◌∷◌, ◌++◌, length, take, drop}
use Rattle.pgn_text.specs.Public.Parts.{Part, spelled}
use Rattle.pgn_text.specs.Public.Games.{IsGame}
use Rattle.pgn_text.specs.Public.Stops.{IsGameFront, IsLongestViablePrefix}
use Rattle.pgn_text.specs.Public.Pieces.{Piece, Unreadable, ArePieces}

-- each text stops at one place
abbrev pub EachTextStopsOnce : Type 0
EachTextStopsOnce =
    (max_depth : ℕ) (file_start : Bool) (before text : List ℕ)
    → (place : ℕ) × IsLongestViablePrefix max_depth file_start before text place
    × ((other : ℕ) → IsLongestViablePrefix max_depth file_start before text other → other ≡ place)

-- each front of a front of a game is one
abbrev pub FrontsOfGameFronts : Type 0
FrontsOfGameFronts =
    (max_depth : ℕ) (file_start : Bool) (before front more : List ℕ)
    → IsGameFront max_depth file_start before (front ++ more)
    → IsGameFront max_depth file_start before front

-- a text that begins with a game stops after it
abbrev pub StopsAfterGame : Type 0
StopsAfterGame =
    (max_depth : ℕ) (file_start : Bool) (before text : List ℕ) (parts : List Part) (after : List ℕ)
    → text ≡ spelled parts ++ after → IsGame max_depth file_start before parts after
    → IsLongestViablePrefix max_depth file_start before text (length (spelled parts))

-- a text that was the front of a game up to a change stops at the change or after it
abbrev pub StopsAfterChange : Type 0
StopsAfterChange =
    (max_depth : ℕ) (file_start : Bool) (before game text : List ℕ) (change place : ℕ)
    → IsGameFront max_depth file_start before game → take change text ≡ take change game
    → change ≤ length text
    → IsLongestViablePrefix max_depth file_start before text place → change ≤ place

-- bytes of a block that are no game stop by themselves where they do in the block, so nothing that
-- stands before them is needed
abbrev pub UnreadableStopsAlone : Type 0
UnreadableStopsAlone =
    (max_depth offset : ℕ) (block : List ℕ) (before : List Piece) (at : ℕ) (bytes : List ℕ)
    (after : List Piece) (place : ℕ)
    → ArePieces max_depth (offset == 0) [] (before ++ Unreadable at bytes ∷ after) block
    → IsLongestViablePrefix max_depth (offset == 0) (take at block) (drop at block) place
    → IsLongestViablePrefix max_depth ((offset + at) == 0) [] bytes place
