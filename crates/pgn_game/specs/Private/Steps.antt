-- One walk over the lines of a game: its steps, and what a visitor of them does. Nothing but the
-- proofs of the walk and its visitors cites these.
use Rattle.std.specs.Prelude.{◌≡◌, ◌==◌, ◌≤◌, ℕ, ◌+◌, ◌-◌, Bool, true, false, List, [], ◌∷◌, ◌++◌}
use Rattle.std.specs.Prelude.{reverse}
use Rattle.chess.specs.Public.Positions.{State}
use Rattle.chess.specs.declared.moves.Move.{Move}
use Rattle.pgn_text.specs.Public.Games.{Item, MoveText, GlyphNumber, CommentText, VariationOpen}
use Rattle.pgn_text.specs.Public.Games.{VariationClose}
use Rattle.pgn_game.specs.Public.AllLines.{IsTurn, after_turn}
use Rattle.pgn_game.specs.Public.Faults.{Fault}
use Rattle.pgn_game.specs.Private.LineWalks.{Leads, Stops, begun, gone_on, is_inside}
use Rattle.pgn_game.specs.declared.replays.all_lines.ReplayKeeper.{ReplayKeeper}
use Rattle.pgn_game.specs.declared.replays.line_stack.LineStack.{LineStack}
use Rattle.pgn_game.specs.declared.turns.line_move.LineMove.{LineMove}
use Rattle.pgn_game.specs.declared.turns.line_move.LineMove.TheVariants.{Played, Passed}
use Rattle.pgn_game.specs.declared.replays.walk.Level.{Level}

-- the lines around the one that is gone along, the innermost first
abbrev pub around : {T : Type 0} → LineStack T → List T
around stack = reverse stack.outer.items

-- after the end of a variation the line around it goes on
abbrev pub IsBack : {T : Type 0} → T → List T → T → List T → Type 0
IsBack line [] new left = (new ≡ line) × (left ≡ [])
IsBack line (next ∷ outer) new left = (new ≡ next) × (left ≡ outer)

-- a turn taken in a position, in a variation or not; or another element
pub data Step : Type 0 where
  Turned : Bool → State → LineMove → Step
  Beside : Item → Step

-- an element that is gone over or left out
abbrev pub shown_if : Bool → Item → List Item → List Item
shown_if true item items = item ∷ items
shown_if false item items = items

-- the elements that stand in no variation, where so many are open before them
abbrev pub outside : List Item → ℕ → List Item
outside [] depth = []
outside (MoveText word ∷ items) depth = shown_if (depth == 0) (MoveText word) (outside items depth)
outside (GlyphNumber number ∷ items) depth =
    shown_if (depth == 0) (GlyphNumber number) (outside items depth)
outside (CommentText text ∷ items) depth =
    shown_if (depth == 0) (CommentText text) (outside items depth)
outside (VariationOpen ∷ items) depth = outside items (depth + 1)
outside (VariationClose ∷ items) depth = outside items (depth - 1)

-- the elements that are gone over: all, with variations or without
abbrev pub shown_items : Bool → ℕ → List Item → List Item
shown_items true depth items = items
shown_items false depth items = outside items depth

-- with these lines around this one, what is left of the elements has these steps
abbrev pub Walks : List Item → Level → List Level → List Step → Type 0
Walks [] line outer steps = steps ≡ []
Walks (MoveText word ∷ items) line outer steps =
    (turn : LineMove) × (more : List Step) × (steps ≡ Turned (is_inside outer) line.now turn ∷ more)
    × IsTurn (is_inside outer) line.now word turn
    × Walks items (gone_on line turn) outer more
Walks (GlyphNumber number ∷ items) line outer steps =
    (more : List Step) × (steps ≡ Beside (GlyphNumber number) ∷ more) × Walks items line outer more
Walks (CommentText text ∷ items) line outer steps =
    (more : List Step) × (steps ≡ Beside (CommentText text) ∷ more) × Walks items line outer more
Walks (VariationOpen ∷ items) line outer steps =
    (more : List Step) × (steps ≡ Beside VariationOpen ∷ more)
    × Walks items (begun line) (line ∷ outer) more
Walks (VariationClose ∷ items) line [] steps =
    (more : List Step) × (steps ≡ Beside VariationClose ∷ more) × Walks items line [] more
Walks (VariationClose ∷ items) line (next ∷ outer) steps =
    (more : List Step) × (steps ≡ Beside VariationClose ∷ more) × Walks items next outer more

-- a visitor went along the steps, each by what it does at one
abbrev pub Visits : {V : Type 0} → (V → Step → V → Type 0) → V → List Step → V → Type 0
Visits does old [] new = new ≡ old
Visits {V} does old (step ∷ more) new = (mid : V) × does old step mid × Visits does mid more new

-- on a stack
abbrev pub WalksOn : LineStack Level → List Item → List Step → Type 0
WalksOn stack items steps = Walks items stack.line (around stack) steps

abbrev pub StopsAt : LineStack Level → List Item → Fault → Type 0
StopsAt stack items fault = Stops items stack.line (around stack) fault

-- what is left leads to that line, which is a variation or not
abbrev pub LeadsAt : LineStack Level → List Item → Bool → Level → Type 0
LeadsAt stack items inside last = Leads items stack.line (around stack) inside last

-- a turn of the main line was kept: a move, and the position after it; of a variation neither
abbrev pub Keeps : Bool → List State → List State → List Move → List Move → LineMove → State
    → Type 0
Keeps true before next moves grown turn now = (next ≡ before) × (grown ≡ moves)
Keeps false before next moves grown (Played m) now =
    (next ≡ before ++ now ∷ []) × (grown ≡ moves ++ m ∷ [])
Keeps false before next moves grown Passed now = ⊥

-- what is kept at a step
abbrev pub KeepsStep : ReplayKeeper → Step → ReplayKeeper → Type 0
KeepsStep old (Turned inside before turn) new =
    (new.turns.items ≡ old.turns.items ++ turn ∷ [])
    × Keeps inside old.positions.items new.positions.items old.played.items new.played.items turn
    (after_turn before turn)
KeepsStep old (Beside item) new = new ≡ old

-- no line has more plies
abbrev pub AreWithin : ℕ → List Level → Type 0
AreWithin n [] = Unit {0}
AreWithin n (line ∷ lines) = (line.plies ≤ n) × AreWithin n lines

abbrev pub IsWithin : ℕ → LineStack Level → Type 0
IsWithin n stack = AreWithin n (stack.line ∷ around stack)

abbrev pub IsNoMove : Item → Type 0
IsNoMove (MoveText word) = ⊥
IsNoMove (GlyphNumber number) = Unit {0}
IsNoMove (CommentText text) = Unit {0}
IsNoMove VariationOpen = Unit {0}
IsNoMove VariationClose = Unit {0}
