-- An export by its parts: the tags of a game, and its movetext.
use Rattle.pgn_game.proofs.Common.{◌≡◌, ℕ, List, [], ◌∷◌, ◌++◌, Option, Some, None, refl, sym, ◌∙◌}
use Rattle.pgn_game.proofs.Common.{Bool, false}
use Rattle.pgn_game.proofs.Common.{subst, State, GameText, tag_in, fen_tag, IsStart, Style}
use Rattle.pgn_game.specs.Public.Exports.{IsExport, IsLineExport, IsLineMovetext, IsMovetext}
use Rattle.pgn_game.specs.Public.Exports.{IsOrderedExport}
use Rattle.pgn_game.specs.Public.Openings.{NamedLine, IsClassified, tag_by}
use Rattle.pgn_game.specs.Public.TagLines.{AreTagLines}

pub line_export_of : (inside : Bool) (order : List (List ℕ)) (style : Style) (game : GameText)
    (start : State) (head movetext : List ℕ) → IsStart (tag_in fen_tag game.tags) start
    → AreTagLines order style game.tags game.result head
    → IsLineMovetext inside style start game movetext
    → IsLineExport inside order style game (head ++ 10 ∷ (movetext ++ 10 ∷ []))
line_export_of inside order style game start head movetext is_start tags
    (tokens, are_tokens, laid) = record {
      start = start;
      is_start = is_start;
      head = head;
      tags = tags;
      tokens = tokens;
      are_tokens = are_tokens;
      movetext = movetext;
      laid = laid;
      spells = refl;
    }

pub export_of : (order : List (List ℕ)) (style : Style) (game : GameText) (start : State)
    (head movetext : List ℕ) → IsStart (tag_in fen_tag game.tags) start
    → AreTagLines order style game.tags game.result head
    → IsMovetext style start game movetext
    → IsOrderedExport order style game (head ++ 10 ∷ (movetext ++ 10 ∷ []))
export_of = line_export_of false

-- a line of openings names no start
fen_stays : (line : Option NamedLine) (own : Option (List ℕ)) → tag_by line fen_tag own ≡ own
fen_stays None own = refl
fen_stays (Some line) own = refl

-- the tags of a game as it counts, before the movetext of the game as it stands
pub export_as : (style : Style) (lines : List NamedLine) (game own : GameText) (start : State)
    (head movetext : List ℕ) → IsStart (tag_in fen_tag game.tags) start
    → IsClassified lines game own → AreTagLines [] style own.tags own.result head
    → IsMovetext style start game movetext
    → IsExport style own (head ++ 10 ∷ (movetext ++ 10 ∷ []))
export_as style lines game own start head movetext is_start (line, is_line, tagged) tags
    is_movetext =
    export_of [] style own start head movetext
    (subst (λ fen. IsStart fen start) (sym (tagged.tags fen_tag
    ∙ fen_stays line (tag_in fen_tag game.tags))) is_start)
    tags (rw tagged.elements (rw tagged.result is_movetext))
