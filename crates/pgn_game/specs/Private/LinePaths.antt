-- The lines of a game while its elements are gone along. Nothing but the proof of their exports
-- cites these.
use Rattle.std.specs.Prelude.{◌≡◌, ◌≤◌, ◌==◌, ◌+◌, ◌-◌, ℕ, Bool, true, if◌then◌else◌, map}
use Rattle.std.specs.Prelude.{List, [], ◌∷◌, ◌++◌, length, Option, Some, None, option_map, reverse}
use Rattle.std.specs.Prelude.{take}
use Rattle.std.specs.Borrow.{Bor}
use Rattle.chess.specs.Public.Positions.{State}
use Rattle.pgn_text.specs.Public.Games.{Item, MoveText, GlyphNumber, CommentText, VariationOpen}
use Rattle.pgn_text.specs.Public.Games.{VariationClose}
use Rattle.pgn_text.specs.Public.GameTexts.{GameText}
use Rattle.pgn_game.specs.Public.AllLines.{IsPlayed, Line, LineEnd, ThenMove, ThenGlyph}
use Rattle.pgn_game.specs.Public.AllLines.{ThenComment}
use Rattle.pgn_game.specs.Public.AllLines.{ThenVariation, spelled}
use Rattle.pgn_game.specs.Public.Edits.{Edits, IsTagged}
use Rattle.pgn_game.specs.Public.LineGames.{LineGame}
use Rattle.pgn_game.specs.Public.Starts.{IsStart}
use Rattle.pgn_game.specs.Private.Steps.{shown_if}
use Rattle.pgn_game.specs.declared.exports.lines.Fork.{Fork}
use Rattle.pgn_game.specs.declared.exports.lines.Path.{Path}
use Rattle.pgn_game.specs.declared.turns.line_move.LineMove.{LineMove}

-- no variation stands in the line
abbrev pub IsAlone : Line → Type 0
IsAlone LineEnd = Unit {0}
IsAlone (ThenMove word rest) = IsAlone rest
IsAlone (ThenGlyph number rest) = IsAlone rest
IsAlone (ThenComment text rest) = IsAlone rest
IsAlone (ThenVariation inner rest) = ⊥

-- the elements are one line, which is played from the start
abbrev pub IsSoundLine : Bool → Option (List ℕ) → List Item → Type 0
IsSoundLine inside fen items = (start : State) × IsStart fen start × (line : Line) × IsAlone line
    × (items ≡ spelled line) × (turns : List LineMove) × IsPlayed inside start start line turns

-- a line as far as it is gone along: the words of the moves in front of its last one, and that one,
-- if it has one
pub record Track : Type 0 where
  pub before : List (List ℕ)
  pub last : Option (List ℕ)

abbrev pub words_of : Option (List ℕ) → List (List ℕ)
words_of None = []
words_of (Some word) = word ∷ []

abbrev pub words_now : Track → List (List ℕ)
words_now track = track.before ++ words_of track.last

-- at the start of a game
abbrev pub first_track : Track
first_track = record { before = []; last = None }

-- the elements up to the end of the line that stand in none of its variations, of which so many are
-- open
abbrev pub own_front : List Item → ℕ → List Item
own_front [] depth = []
own_front (MoveText word ∷ items) depth =
    shown_if (depth == 0) (MoveText word) (own_front items depth)
own_front (GlyphNumber number ∷ items) depth =
    shown_if (depth == 0) (GlyphNumber number) (own_front items depth)
own_front (CommentText text ∷ items) depth =
    shown_if (depth == 0) (CommentText text) (own_front items depth)
own_front (VariationOpen ∷ items) depth = own_front items (depth + 1)
own_front (VariationClose ∷ items) depth = if depth == 0 then [] else own_front items (depth - 1)

-- the line after an element, and those around it
abbrev pub gone_along : Item → Track → Track
gone_along (MoveText word) track = record { before = words_now track; last = Some word }
gone_along (GlyphNumber number) track = track
gone_along (CommentText text) track = track
gone_along VariationOpen track = record { before = track.before; last = None }
gone_along VariationClose track = track

-- the variation that begins with the element, in front of these
abbrev pub begun_by : Item → List Item → Track → List LineGame
begun_by (MoveText word) items track = []
begun_by (GlyphNumber number) items track = []
begun_by (CommentText text) items track = []
begun_by VariationOpen items track =
    record { inside = true; before = track.before; own = own_front items 0 } ∷ []
begun_by VariationClose items track = []

abbrev pub begun_at : List Item → Track → List LineGame
begun_at [] track = []
begun_at (item ∷ items) track = begun_by item items track

-- the variations that begin among the elements, with these lines around the one that is gone along
abbrev pub variations_left : List Item → Track → List Track → List LineGame
variations_left [] track outer = []
variations_left (MoveText word ∷ items) track outer =
    variations_left items (gone_along (MoveText word) track) outer
variations_left (GlyphNumber number ∷ items) track outer = variations_left items track outer
variations_left (CommentText text ∷ items) track outer = variations_left items track outer
variations_left (VariationOpen ∷ items) track outer =
    record { inside = true; before = track.before; own = own_front items 0 }
    ∷ variations_left items (gone_along VariationOpen track) (track ∷ outer)
variations_left (VariationClose ∷ items) track [] = variations_left items track []
variations_left (VariationClose ∷ items) track (next ∷ outer) = variations_left items next outer

-- what is kept of the line that is gone along
abbrev pub track_of : Path → Track
track_of path = record {
  before = map (λ word. word.now) path.before.items;
  last = option_map (λ word. word.now) path.last;
}

-- and of those around it, the innermost first, in front of whose last moves these words begin
abbrev pub tracks_by : List (Bor (List ℕ)) → List Fork → List Track
tracks_by before [] = []
tracks_by before (fork ∷ outer) = record {
  before = map (λ word. word.now) (take fork.length before);
  last = option_map (λ word. word.now) fork.last;
} ∷ tracks_by (take fork.length before) outer

abbrev pub tracks_around : Path → List Track
tracks_around path = tracks_by path.before.items (reverse path.outer.items)

-- no line has more words than the one within it
abbrev pub AreNested : ℕ → List Fork → Type 0
AreNested most [] = Unit {0}
AreNested most (fork ∷ outer) = (fork.length ≤ most) × AreNested fork.length outer

abbrev pub IsNested : Path → Type 0
IsNested path = AreNested (length path.before.items) (reverse path.outer.items)

-- the last ply that is written, if not all are
abbrev pub last_ply_of : Option Edits → Option ℕ
last_ply_of None = None
last_ply_of (Some edits) = edits.last_ply

-- the line that ends after its last ply is the other one once its tags are edited
abbrev pub IsRetaggedLine : Option Edits → GameText → GameText → Type 0
IsRetaggedLine None line own = own ≡ line
IsRetaggedLine (Some edits) line own = IsTagged edits line own
