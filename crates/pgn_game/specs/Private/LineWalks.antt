-- All lines while they are played: what is left of the elements completes the whole. Nothing but
-- the proof of the replay cites these.
use Rattle.std.specs.Prelude.{◌≡◌, ◌⊎◌, ◌+◌, ◌-◌, Bool, true, false, List, [], ◌∷◌}
use Rattle.chess.specs.Public.Positions.{State}
use Rattle.pgn_text.specs.Public.Games.{Item, MoveText, GlyphNumber, CommentText, VariationOpen}
use Rattle.pgn_text.specs.Public.Games.{VariationClose}
use Rattle.pgn_game.specs.Public.Faults.{Fault, IsRefusedTurn}
use Rattle.pgn_game.specs.Public.AllLines.{IsTurn, after_turn}
use Rattle.pgn_game.specs.declared.turns.line_move.LineMove.{LineMove}
use Rattle.pgn_game.specs.declared.replays.walk.Level.{Level}

-- the lines around this one, the innermost first: where there is one, this one is a variation
abbrev pub is_inside : {T : Type 0} → List T → Bool
is_inside [] = false
is_inside (line ∷ outer) = true

-- the line after a turn; a variation as it begins
abbrev pub gone_on : Level → LineMove → Level
gone_on level turn =
    record { before = level.now; now = after_turn level.now turn; plies = level.plies + 1 }

abbrev pub begun : Level → Level
begun level = record { before = level.before; now = level.before; plies = level.plies - 1 }

-- the main line as it begins
abbrev pub first_level : State → Level
first_level start = record { before = start; now = start; plies = 0 }

-- the lines around the first one of a walk: where that is a variation, one that begins with it
abbrev pub lines_around : Bool → State → List Level
lines_around false start = []
lines_around true start = first_level start ∷ []

-- with these lines around this one, what is left of the elements is played by these turns
abbrev pub Runs : List Item → Level → List Level → List LineMove → Type 0
Runs [] level outer turns = turns ≡ []
Runs (MoveText word ∷ items) level outer turns =
    (turn : LineMove) × (more : List LineMove) × (turns ≡ turn ∷ more)
    × IsTurn (is_inside outer) level.now word turn × Runs items (gone_on level turn) outer more
Runs (GlyphNumber number ∷ items) level outer turns = Runs items level outer turns
Runs (CommentText text ∷ items) level outer turns = Runs items level outer turns
Runs (VariationOpen ∷ items) level outer turns = Runs items (begun level) (level ∷ outer) turns
Runs (VariationClose ∷ items) level [] turns = Runs items level [] turns
Runs (VariationClose ∷ items) level (next ∷ outer) turns = Runs items next outer turns

-- or has the fault
abbrev pub Stops : List Item → Level → List Level → Fault → Type 0
Stops [] level outer fault = ⊥
Stops (MoveText word ∷ items) level outer fault =
    IsRefusedTurn (is_inside outer) level.now level.plies word fault
    ⊎ ((turn : LineMove) × IsTurn (is_inside outer) level.now word turn
    × Stops items (gone_on level turn) outer fault)
Stops (GlyphNumber number ∷ items) level outer fault = Stops items level outer fault
Stops (CommentText text ∷ items) level outer fault = Stops items level outer fault
Stops (VariationOpen ∷ items) level outer fault = Stops items (begun level) (level ∷ outer) fault
Stops (VariationClose ∷ items) level [] fault = Stops items level [] fault
Stops (VariationClose ∷ items) level (next ∷ outer) fault = Stops items next outer fault

-- or leads to that line, which is a variation or not
abbrev pub Leads : List Item → Level → List Level → Bool → Level → Type 0
Leads [] level outer inside last = (inside ≡ is_inside outer) × (last ≡ level)
Leads (MoveText word ∷ items) level outer inside last =
    (turn : LineMove) × IsTurn (is_inside outer) level.now word turn
    × Leads items (gone_on level turn) outer inside last
Leads (GlyphNumber number ∷ items) level outer inside last = Leads items level outer inside last
Leads (CommentText text ∷ items) level outer inside last = Leads items level outer inside last
Leads (VariationOpen ∷ items) level outer inside last =
    Leads items (begun level) (level ∷ outer) inside last
Leads (VariationClose ∷ items) level [] inside last = Leads items level [] inside last
Leads (VariationClose ∷ items) level (next ∷ outer) inside last = Leads items next outer inside last

-- the last position of the main line
abbrev pub main_now : Level → List Level → State
main_now level [] = level.now
main_now level (next ∷ outer) = main_now next outer

-- no variation begins among the elements
abbrev pub IsFlat : List Item → Type 0
IsFlat [] = Unit {0}
IsFlat (MoveText word ∷ items) = IsFlat items
IsFlat (GlyphNumber number ∷ items) = IsFlat items
IsFlat (CommentText text ∷ items) = IsFlat items
IsFlat (VariationOpen ∷ items) = ⊥
IsFlat (VariationClose ∷ items) = IsFlat items
