-- A sound game has an export in each style: each of its tags has a value, its movetext has tokens,
-- and they have a text in lines.
use Rattle.std.proofs.Common.{◌≡◌, ℕ, List, [], ◌∷◌, ◌++◌, Option, Some, None, refl, flat_map}
use Rattle.pgn_game.proofs.Common.{HoldStrings, tag_in, value_of_sign, missing_text, escaped}
use Rattle.pgn_game.proofs.Common.{IsTagText, tag_line, AreLinesOf, written_names, GameText}
use Rattle.pgn_game.proofs.Common.{Replay, Style, fen_tag}
use Rattle.pgn_text.specs.Public.GameTexts.{IsGameText}
use Rattle.pgn_game.specs.Public.Exports.{IsOrderedExport, IsReplayFor}
use Rattle.pgn_game.specs.Public.Laws.{GameHasAnExport}
use Rattle.pgn_game.proofs.LaidFacts.{some_text}
use Rattle.pgn_game.proofs.laws.SomeMovetext.{some_movetext}

-- a tag, there or missing, has a text
some_tag_text : (tags : List (List ℕ × List ℕ)) → HoldStrings tags
    → (name missing : List ℕ) (tag : Option (List ℕ)) → tag_in name tags ≡ tag
    → (text : List ℕ) × IsTagText tag missing text
some_tag_text tags strings name missing None is = (missing, refl)
some_tag_text tags strings name missing (Some contents) is =
    let of = strings name contents is in
    let value = flat_map value_of_sign of.0 in (
      flat_map escaped value,
      (value, (of.0, record { spells = of.1; each = of.2; gives = refl }), refl),
    )

-- so tags have lines
pub some_lines : (tags : List (List ℕ × List ℕ)) → HoldStrings tags
    → (result : List ℕ) (names : List (List ℕ))
    → (lines : List ℕ) × AreLinesOf tags result names lines
some_lines tags strings result [] = ([], refl)
some_lines tags strings result (name ∷ names) =
    let own = some_tag_text tags strings name (missing_text result name) (tag_in name tags) refl in
    let more = some_lines tags strings result names in
    let line = tag_line name own.0 in
    (line ++ more.0, (line, more.0, (own.0, own.1, refl), refl, more.1))

pub some_ordered : (order : List (List ℕ)) (style : Style) (game : GameText) (replay : Replay)
    → IsGameText game → IsReplayFor style (tag_in fen_tag game.tags) game.elements replay
    → (text : List ℕ) × IsOrderedExport order style game text
some_ordered order style game replay is sound =
    let head = some_lines game.tags is.strings game.result (written_names order style game.tags) in
    let tokens = some_movetext style _ game.elements replay game.result is.paired sound in
    let movetext = some_text style.width tokens.1 in (
      head.0 ++ 10 ∷ (movetext.0 ++ 10 ∷ []),
      record {
        start = tokens.0;
        is_start = tokens.2;
        head = head.0;
        tags = head.1;
        tokens = tokens.1;
        are_tokens = tokens.3;
        movetext = movetext.0;
        laid = movetext.1;
        spells = refl;
      },
    )

pub some_export : GameHasAnExport
some_export = some_ordered []
