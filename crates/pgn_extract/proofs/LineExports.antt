-- A sound game has a text of its lines, and that of a game that is given is that of the game by
-- itself.
use Rattle.std.proofs.Common.{◌≡◌, ℕ, Bool, true, false, List, [], ◌∷◌, ◌++◌, Option, Some, None}
use Rattle.std.proofs.Common.{inl, inr, refl, sym, ap, subst, ◌∙◌}
use Rattle.std.specs.List.{AllByRecursion}
use Rattle.pgn_extract.proofs.Common.{GameText, IsGameText, Style, tag_in, fen_tag, by_itself}
use Rattle.pgn_game.proofs.EditedTags.{start_stays}
use Rattle.pgn_game.proofs.SomeLines.{LineIsSound, each_line_sound, good_line, some_line_export}
use Rattle.pgn_game.proofs.SomeLines.{sound_up_to, start_of_line}
use Rattle.pgn_game.specs.Public.Edits.{Edits, IsEditedLine, IsTagged, all_edits, up_to}
use Rattle.pgn_game.specs.Public.Exports.{IsLineExport}
use Rattle.pgn_game.specs.Public.AllLines.{Line, spelled}
use Rattle.pgn_game.specs.Public.LineGames.{AreLineTexts, AreTextsOf, AsExports, IsTextOfLine}
use Rattle.pgn_game.specs.Public.LineGames.{LineGame, LineLayout, OnLines, WritesFirst, as_game}
use Rattle.pgn_game.specs.Public.LineGames.{ending_as, line_items, lines_of}
use Rattle.pgn_game.proofs.Spelling.{one_tree}
use Rattle.pgn_game.proofs.LinesInRow.{all_parted, texts_joined}
use Rattle.pgn_game.proofs.TurnTextFacts.{some_line_text}
use Rattle.pgn_game.specs.Public.Replays.{IsSoundGame}
use Rattle.pgn_game.specs.declared.replays.replayer.Lines.TheVariants.{All}
use Rattle.pgn_extract.proofs.SomeEdited.{edits_or_not, own_edited_line, some_edited, up_to_good}

-- ---- there is one

some_line_tagged : (inside : Bool) (edits : Edits) (style : Style) (game : GameText)
    → IsGameText game → LineIsSound inside (tag_in fen_tag game.tags) game.elements
    → (own : GameText) × (text : List ℕ) × IsTagged edits game own
    × IsLineExport inside edits.order style own text
some_line_tagged inside edits style game good sound = elim (edits_or_not (all_edits edits game)) [
  | inr none ↦
      let own = some_line_export inside edits.order style game good sound in
      (game, own.0, ((λ able. absurd (none able)), (λ _. refl)), own.1)
  | inl able ↦
      let (other, fine, is) = some_edited (all_edits edits game) game good able in
      let start =
      is.tags fen_tag ∙ start_stays (all_edits edits game) (tag_in fen_tag game.tags) able in
      let own =
      some_line_export inside edits.order style other fine (rw (start, is.elements) sound) in
      (other, own.0, ((λ _. (fine, is)), (λ none. absurd (none able))), own.1)
]

some_edited_line : (inside : Bool) (edits : Option Edits) (style : Style) (game : GameText)
    → IsGameText game → LineIsSound inside (tag_in fen_tag game.tags) game.elements
    → (text : List ℕ) × IsEditedLine inside edits style game text
some_edited_line inside None style game good sound =
    let own = some_line_export inside [] style game good sound in (own.0, (game, refl, own.1))
some_edited_line inside (Some edits) style game good sound =
    let (own, text, is, exports) =
    some_line_tagged inside edits style (up_to edits.last_ply game)
    (up_to_good edits.last_ply game good) (sound_up_to inside edits.last_ply game sound) in
    (text, (own, is, exports))

some_text_of_line : (layout : LineLayout) (inside : Bool) (line : GameText) → IsGameText line
    → LineIsSound inside (tag_in fen_tag line.tags) line.elements
    → (text : List ℕ) × IsTextOfLine layout inside line text
some_text_of_line (AsExports edits style) inside line good sound =
    some_edited_line inside edits style line good sound
some_text_of_line (OnLines notation before) inside line good sound =
    let (own, is) =
    some_line_text notation inside (tag_in fen_tag line.tags) line.elements sound in
    (before ++ own ++ 10 ∷ [], (own, is, refl))

module _ (layout : LineLayout) (game : GameText) (good : IsGameText game) where
  some_texts : (lines : List LineGame)
      → AllByRecursion (λ (line : LineGame). LineIsSound line.inside (tag_in fen_tag game.tags)
      (line_items line)) lines
      → (text : List ℕ) × AreTextsOf layout game lines text
  some_texts [] all = ([], refl)
  some_texts (line ∷ more) (sound, all) =
      let (rest, later) = some_texts more all in
      let (own, is) =
      some_text_of_line layout line.inside (as_game game line) (good_line game good line sound)
      (rw (start_of_line game good line) sound) in
      (own ++ rest, (own, rest, refl, is, later))

  pub some_line_texts : IsSoundGame All (tag_in fen_tag game.tags) game.elements
      → (text : List ℕ) × AreLineTexts layout game text
  some_line_texts sound =
      let (line, spells, all) = each_line_sound (tag_in fen_tag game.tags) game.elements sound in
      let (text, are) = some_texts (lines_of line) all in
      (text, (line, spells, are))

  -- and where the first of them are written, the others have one
  pub some_rest : IsSoundGame All (tag_in fen_tag game.tags) game.elements → (line : Line)
      → game.elements ≡ spelled line → (left : List LineGame) (text : List ℕ)
      → WritesFirst layout game (lines_of line) left text
      → (more : List ℕ) × AreLineTexts layout game (text ++ more)
  some_rest sound line spells left text (first, parted, put) =
      let fen = tag_in fen_tag game.tags in
      let (own, spelled_so, all) = each_line_sound fen game.elements sound in
      let same = one_tree own line (sym spelled_so ∙ spells) in
      let Sound : LineGame → Type 0 =
      λ one. LineIsSound one.inside fen (line_items one) in
      let parts = all_parted Sound first left
      (subst (AllByRecursion Sound) (ap lines_of same ∙ parted) all) in
      let (more, are) = some_texts left parts.1 in (
        more,
        (
          line,
          spells,
          subst (λ lines. AreTextsOf layout game lines (text ++ more)) (sym parted)
              (texts_joined layout game first left text more put are),
        ),
      )

-- ---- by itself

as_itself : (game : GameText) (line : LineGame)
    → by_itself (as_game game line) ≡ as_game (by_itself game) line
as_itself game line = by line.inside
  where
    by : (inside : Bool)
        → by_itself (record (ending_as inside game) { elements = line_items line })
        ≡ record (ending_as inside (by_itself game)) { elements = line_items line }
    by true = refl
    by false = refl

own_text_of_line : (layout : LineLayout) (inside : Bool) (line : GameText) (text : List ℕ)
    → IsTextOfLine layout inside line text → IsTextOfLine layout inside (by_itself line) text
own_text_of_line (AsExports edits style) inside line text is =
    own_edited_line inside edits style line text is
own_text_of_line (OnLines notation before) inside line text is = is

own_texts : (layout : LineLayout) (game : GameText) (lines : List LineGame) (text : List ℕ)
    → AreTextsOf layout game lines text → AreTextsOf layout (by_itself game) lines text
own_texts layout game [] text is = is
own_texts layout game (line ∷ more) text (own, rest, parted, is, later) = (
  own,
  rest,
  parted,
  subst (λ g. IsTextOfLine layout line.inside g own) (as_itself game line)
      (own_text_of_line layout line.inside (as_game game line) own is),
  own_texts layout game more rest later,
)

pub own_line_texts : (layout : LineLayout) (game : GameText) (text : List ℕ)
    → AreLineTexts layout game text → AreLineTexts layout (by_itself game) text
own_line_texts layout game text (line, spells, is) =
    (line, spells, own_texts layout game (lines_of line) text is)
