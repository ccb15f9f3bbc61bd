-- Each line of a sound game has an export as a game of its own.
use Rattle.std.specs.Prelude.{Option, Some, None, IsTrue, bytes_eq, codes, if◌then◌else◌}
use Rattle.std.specs.List.{list_all}
use Rattle.pgn_game.proofs.Common.{◌≡◌, ℕ, Bool, true, false, List, [], ◌∷◌, ◌++◌, refl, sym}
use Rattle.pgn_game.proofs.Common.{◌∙◌, inr, AllByRecursion, Item, Line, LineEnd}
use Rattle.pgn_game.proofs.Common.{ThenMove, ThenGlyph, ThenComment, ThenVariation, spelled}
use Rattle.pgn_game.proofs.Common.{GameText, HoldStrings, IsContents, IsSoundGame, All, Style}
use Rattle.pgn_game.proofs.Common.{fen_tag, tag_in, written_names}
use Rattle.pgn_text.specs.Public.Bytes.{is_name_byte}
use Rattle.pgn_text.specs.Public.GameTexts.{HaveNames, IsGameText}
use Rattle.pgn_game.specs.Public.Edits.{up_to}
use Rattle.pgn_game.specs.Public.Exports.{IsLineExport}
use Rattle.pgn_game.specs.Public.LineGames.{LineGame, as_game, ending_as, line_items, lines_of}
use Rattle.pgn_game.specs.Public.LineGames.{unfinished}
use Rattle.pgn_game.specs.Public.LineGames.{variations_in}
use Rattle.pgn_game.specs.Private.LinePaths.{IsSoundLine}
use Rattle.pgn_game.proofs.AnAnswer.{start_on_board}
use Rattle.pgn_game.proofs.LaidFacts.{some_text}
use Rattle.pgn_game.proofs.SomeExport.{some_lines}
use Rattle.pgn_game.proofs.LinesInRow.{all_joined, all_parted}
use Rattle.pgn_game.proofs.exports.LineSounds.{sound_cut, sound_lines, sound_paired}
use Rattle.pgn_game.proofs.exports.LineTags.{left_in, sorted_left, unfinished_start}
use Rattle.pgn_game.proofs.laws.SomeMovetext.{all_tokens}

-- a line that is played, of a variation or not
abbrev pub LineIsSound : Bool → Option (List ℕ) → List Item → Type 0
LineIsSound = IsSoundLine

pub some_line_export : (inside : Bool) (order : List (List ℕ)) (style : Style) (game : GameText)
    → IsGameText game → LineIsSound inside (tag_in fen_tag game.tags) game.elements
    → (text : List ℕ) × IsLineExport inside order style game text
some_line_export inside order style game good
    (start, is_start, line, alone, spells, turns, played) =
    let head =
    some_lines game.tags good.strings game.result (written_names order style game.tags) in
    let stands = start_on_board (tag_in fen_tag game.tags) start is_start in
    let own = all_tokens line style inside start start true turns stands stands played in
    let tokens = own.0 ++ game.result ∷ [] in
    let movetext = some_text style.width tokens in (
      head.0 ++ 10 ∷ (movetext.0 ++ 10 ∷ []),
      record {
        start = start;
        is_start = is_start;
        head = head.0;
        tags = head.1;
        tokens = tokens;
        are_tokens = (line, own.0, spells, own.1, refl);
        movetext = movetext.0;
        laid = movetext.1;
        spells = refl;
      },
    )

-- up to its last ply it is sound
pub sound_up_to : (inside : Bool) (last : Option ℕ) (game : GameText)
    → LineIsSound inside (tag_in fen_tag game.tags) game.elements
    → LineIsSound inside (tag_in fen_tag (up_to last game).tags) (up_to last game).elements
sound_up_to inside None game sound = sound
sound_up_to inside (Some plies) game sound =
    sound_cut inside (tag_in fen_tag game.tags) (Some plies) game.elements sound

-- ---- each line as a game

module _ (game : GameText) (good : IsGameText game) where
  strings_left : HoldStrings (unfinished game).tags
  strings_left name contents here =
      by (bytes_eq (codes "Result") name) (sym (left_in (codes "Result") name game.tags) ∙ here)
    where
      by : (same : Bool) → (if same then None else tag_in name game.tags) ≡ Some contents
          → IsContents contents
      by true none = cc
      by false there = good.strings name contents there

  names_left : HaveNames (unfinished game).tags
  names_left name contents here =
      by (bytes_eq (codes "Result") name) (sym (left_in (codes "Result") name game.tags) ∙ here)
    where
      by : (same : Bool) → (if same then None else tag_in name game.tags) ≡ Some contents
          → IsTrue (list_all is_name_byte name)
      by true none = cc
      by false there = good.names name contents there

  good_as : (inside : Bool) (items : List Item)
      → LineIsSound inside (tag_in fen_tag game.tags) items
      → IsGameText (record (ending_as inside game) { elements = items })
  good_as true items sound = record {
    ordered = sorted_left (codes "Result") game.tags good.ordered;
    strings = strings_left;
    names = names_left;
    paired = sound_paired true (tag_in fen_tag game.tags) items sound;
    ends = inr (inr (inr refl));
  }
  good_as false items sound = record {
    ordered = good.ordered;
    strings = good.strings;
    names = good.names;
    paired = sound_paired false (tag_in fen_tag game.tags) items sound;
    ends = good.ends;
  }

  pub good_line : (line : LineGame)
      → LineIsSound line.inside (tag_in fen_tag game.tags) (line_items line)
      → IsGameText (as_game game line)
  good_line line sound = good_as line.inside (line_items line) sound

  start_as : (inside : Bool)
      → tag_in fen_tag (ending_as inside game).tags ≡ tag_in fen_tag game.tags
  start_as true = unfinished_start game
  start_as false = refl

  pub start_of_line : (line : LineGame)
      → tag_in fen_tag (as_game game line).tags ≡ tag_in fen_tag game.tags
  start_of_line line = start_as line.inside

-- ---- all lines of a sound game

all_inside : (fen : Option (List ℕ)) (line : Line) (before now : List (List ℕ))
    → AllByRecursion (λ (one : LineGame). LineIsSound true fen (line_items one))
    (variations_in before now line)
    → AllByRecursion (λ (one : LineGame). LineIsSound one.inside fen (line_items one))
    (variations_in before now line)
all_inside fen LineEnd before now all = tt
all_inside fen (ThenMove word rest) before now all =
    all_inside fen rest now (now ++ word ∷ []) all
all_inside fen (ThenGlyph number rest) before now all = all_inside fen rest before now all
all_inside fen (ThenComment text rest) before now all = all_inside fen rest before now all
all_inside fen (ThenVariation inner rest) before now all =
    let within = variations_in before before inner in
    let later = variations_in before now rest in
    let parts =
    all_parted (λ (one : LineGame). LineIsSound true fen (line_items one)) within later all.1 in (
      all.0,
      all_joined (λ (one : LineGame). LineIsSound one.inside fen (line_items one)) within later
          (all_inside fen inner before before parts.0) (all_inside fen rest before now parts.1),
    )

pub each_line_sound : (fen : Option (List ℕ)) (items : List Item) → IsSoundGame All fen items
    → (line : Line) × (items ≡ spelled line)
    × AllByRecursion (λ (one : LineGame). LineIsSound one.inside fen (line_items one))
    (lines_of line)
each_line_sound fen items sound =
    let lines = sound_lines fen items sound in
    (lines.line, lines.spells, (lines.main, all_inside fen lines.line [] [] lines.variations))
