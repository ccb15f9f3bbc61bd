-- The movetext while it is written: what is written at each step. Nothing but the proof of its
-- writer cites these.
use Rattle.std.specs.Prelude.{◌≡◌, ◌⊎◌, ◌||◌, ℕ, Bool, true, false, codes, decimal, List, [], ◌∷◌}
use Rattle.std.specs.Prelude.{◌++◌, Option}
use Rattle.chess.specs.Public.Positions.{State}
use Rattle.pgn_text.specs.Public.Games.{Item, MoveText, GlyphNumber, CommentText, VariationOpen}
use Rattle.pgn_text.specs.Public.Games.{VariationClose}
use Rattle.pgn_game.specs.Public.Comments.{shown_tokens}
use Rattle.pgn_game.specs.Public.Exports.{number_tokens, IsTurnText, kept}
use Rattle.pgn_game.specs.Public.Exports.{shows}
use Rattle.pgn_game.specs.Public.Faults.{BadStart, Fault}
use Rattle.pgn_game.specs.Public.Starts.{IsBadStart, IsStart}
use Rattle.pgn_game.specs.Private.LineWalks.{Stops, first_level, lines_around}
use Rattle.pgn_game.specs.Private.LineWrappers.{HasPut}
use Rattle.pgn_game.specs.Private.Steps.{Step, Turned, Beside, shown_items}
use Rattle.pgn_game.specs.declared.exports.movetext.MovetextWriter.{MovetextWriter}
use Rattle.pgn_game.specs.declared.exports.style.Style.{Style}

-- it has written no token after these bytes
pub record IsNew (wanted : Style) (before : List ℕ) (writer : MovetextWriter) : Type 0 where
  pub out : writer.out.items ≡ before
  pub width : writer.wrapper.width ≡ wanted.width
  pub begun : writer.wrapper.begun ≡ false
  pub column : writer.wrapper.column ≡ 0
  pub apart : writer.apart ≡ true
  pub style : writer.style ≡ wanted

-- the tokens are written, and the next move stands apart after them or does not
pub record Puts (old new : MovetextWriter) (tokens : List (List ℕ)) (apart : Bool) : Type 0 where
  pub put : HasPut old.wrapper new.wrapper old.out.items new.out.items tokens
  pub stands : new.apart ≡ apart
  pub same : new.style ≡ old.style

-- what is written at a step
abbrev pub WritesStep : MovetextWriter → Step → MovetextWriter → Type 0
WritesStep old (Turned inside before turn) new =
    (text : List ℕ) × IsTurnText before turn text
    × Puts old new (number_tokens before.turn before.fullmove_number old.apart ++ text
    ∷ []) false
WritesStep old (Beside (MoveText word)) new = new ≡ old
WritesStep old (Beside (GlyphNumber number)) new =
    Puts old new (kept old.style.glyphs ((36 ∷ decimal number) ∷ [])) old.apart
WritesStep old (Beside (CommentText text)) new =
    Puts old new (kept (shows old.style text) (shown_tokens old.style.commands text))
    (old.apart || shows old.style text)
WritesStep old (Beside VariationOpen) new = Puts old new (codes "(" ∷ []) true
WritesStep old (Beside VariationClose) new = Puts old new (codes ")" ∷ []) true

-- the lines of these elements that are written have the fault, where the first one is a variation
-- or the main line
abbrev pub IsFaultOfLine : Bool → Bool → Option (List ℕ) → List Item → Fault → Type 0
IsFaultOfLine inside variations fen items fault =
    (IsBadStart fen × (fault ≡ BadStart))
    ⊎ ((start : State) × IsStart fen start
    × Stops (shown_items variations 0 items) (first_level start) (lines_around inside start) fault)
