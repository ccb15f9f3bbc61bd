-- A line of a sound game up to its first pass is sound as a main line, and the main line of a game
-- is its own elements.
use Rattle.std.specs.Prelude.{Option}
use Rattle.pgn_game.proofs.Common.{◌≡◌, ℕ, Bool, true, false, List, [], ◌∷◌, refl, sym, ap, ◌∙◌}
use Rattle.pgn_game.proofs.Common.{AllByRecursion, ◌++◌, subst, zero, suc, take, if◌then◌else◌}
use Rattle.pgn_game.proofs.Common.{State, Move}
use Rattle.pgn_game.proofs.Common.{Item, MoveText, Line, LineEnd, ThenMove}
use Rattle.pgn_game.proofs.Common.{ThenGlyph, ThenComment, ThenVariation, spelled, is_pass}
use Rattle.pgn_game.proofs.Common.{SaysTurn, after_turn, after, IsPlayed, IsPaired, LineMove}
use Rattle.pgn_game.proofs.Common.{Played}
use Rattle.pgn_game.proofs.Common.{Passed, IsSoundGame, All, Main, main_words, IsMainLine}
use Rattle.pgn_game.proofs.Common.{own_words}
use Rattle.pgn_game.specs.Public.LineGames.{LineGame, line_items, lines_of, own_items}
use Rattle.pgn_game.specs.Public.LineGames.{variations_in}
use Rattle.pgn_game.proofs.LinesInRow.{all_joined, all_parted}
use Rattle.pgn_game.proofs.exports.LineSounds.{sound_lines}
use Rattle.pgn_game.specs.Public.Replays.{Replay, IsReplay}
use Rattle.pgn_game.specs.Public.SearchedLines.{passes, up_to_pass, up_to_pass_if}
use Rattle.pgn_game.specs.Private.LinePaths.{IsAlone, IsSoundLine}
use Rattle.pgn_game.specs.Private.PassPlaces.{pass_place}
use Rattle.pgn_game.proofs.OneLine.{main_words_of}

-- the elements before the first pass
pub before_pass : (items : List Item) → take (pass_place items) items ≡ up_to_pass items
before_pass [] = refl
before_pass (item ∷ items) = by (before_pass items) (passes item)
  where
    by : take (pass_place items) items ≡ up_to_pass items → (here : Bool)
        → take (if here then zero else suc (pass_place items)) (item ∷ items)
        ≡ (if here then [] else item ∷ up_to_pass items)
    by later true = refl
    by later false = ap (λ more. item ∷ more) later

-- ---- a variation

played_to_pass : (line : Line) (before now : State) (turns : List LineMove) → IsAlone line
    → IsPlayed true before now line turns
    → (positions : List State) × (played : List Move)
    × IsMainLine now (main_words (up_to_pass (spelled line)) 0) positions played
played_to_pass LineEnd before now turns alone is = (now ∷ [], [], (refl, refl))
played_to_pass (ThenMove word rest) before now turns alone (turn, more, is, says, later) =
    by (λ (m : Move) go. played_to_pass rest now (after now m) more alone go) (is_pass word) turn
    says later
  where
    by : ((m : Move) → IsPlayed true now (after now m) rest more
        → (positions : List State) × (played : List Move)
        × IsMainLine (after now m) (main_words (up_to_pass (spelled rest)) 0) positions played)
        → (here : Bool) (turn : LineMove) → SaysTurn here now word turn
        → IsPlayed true now (after_turn now turn) rest more
        → (positions : List State) × (played : List Move)
        × IsMainLine now (main_words (if here then []
        else MoveText word ∷ up_to_pass (spelled rest)) 0) positions played
    by goes true turn says later = (now ∷ [], [], (refl, refl))
    by goes false Passed says later = absurd says
    by goes false (Played m) says later =
        let (positions, moves, line) = goes m later in
        (now ∷ positions, m ∷ moves, (m, positions, moves, refl, refl, says, line))
played_to_pass (ThenGlyph number rest) before now turns alone is =
    played_to_pass rest before now turns alone is
played_to_pass (ThenComment text rest) before now turns alone is =
    played_to_pass rest before now turns alone is
played_to_pass (ThenVariation inner rest) before now turns alone is = absurd alone

pub searched_sound : (fen : Option (List ℕ)) (items : List Item) → IsSoundLine true fen items
    → IsSoundGame Main fen (up_to_pass items)
searched_sound fen items (start, is_start, line, alone, spells, turns, played) =
    let (positions, moves, is) = played_to_pass line start start turns alone played in
    subst (λ some. IsSoundGame Main fen (up_to_pass some)) (sym spells) (
      record { positions = positions; played = moves; turns = [] },
      record { start = start; is_start = is_start; line = is; turns = refl },
    )

paired_to_pass : (line : Line) → IsAlone line → IsPaired 0 (up_to_pass (spelled line))
paired_to_pass LineEnd alone = refl
paired_to_pass (ThenMove word rest) alone = by (paired_to_pass rest alone) (is_pass word)
  where
    by : IsPaired 0 (up_to_pass (spelled rest)) → (here : Bool)
        → IsPaired 0 (if here then [] else MoveText word ∷ up_to_pass (spelled rest))
    by later true = refl
    by later false = later
paired_to_pass (ThenGlyph number rest) alone = paired_to_pass rest alone
paired_to_pass (ThenComment text rest) alone = paired_to_pass rest alone
paired_to_pass (ThenVariation inner rest) alone = absurd alone

pub searched_paired : (fen : Option (List ℕ)) (items : List Item) → IsSoundLine true fen items
    → IsPaired 0 (up_to_pass items)
searched_paired fen items (start, is_start, line, alone, spells, turns, played) =
    subst (λ some. IsPaired 0 (up_to_pass some)) (sym spells) (paired_to_pass line alone)

-- ---- the main line

pub own_main : (line : Line) → main_words (own_items line) 0 ≡ own_words line
own_main LineEnd = refl
own_main (ThenMove word rest) = ap (λ words. word ∷ words) (own_main rest)
own_main (ThenGlyph number rest) = own_main rest
own_main (ThenComment text rest) = own_main rest
own_main (ThenVariation inner rest) = own_main rest

-- a replay of the main line is one of the game without its variations
pub own_replay : (fen : Option (List ℕ)) (items : List Item) (line : Line) (replay : Replay)
    → items ≡ spelled line → IsReplay Main fen items replay
    → IsReplay Main fen (own_items line) replay
own_replay fen items line replay spells is = record {
  start = is.start;
  is_start = is.is_start;
  line = subst (λ words. IsMainLine is.start words replay.positions replay.played)
      (ap (λ some. main_words some 0) spells ∙ main_words_of line ∙ sym (own_main line)) is.line;
  turns = is.turns;
}

-- ---- all lines

module _ (fen : Option (List ℕ)) where
  abbrev IsSearched : LineGame → Type 0
  IsSearched line = IsSoundGame Main fen (up_to_pass_if line.inside (line_items line))

  variations_searched : (line : Line) (before now : List (List ℕ))
      → AllByRecursion (λ (own : LineGame). IsSoundLine true fen (line_items own))
      (variations_in before now line)
      → AllByRecursion IsSearched (variations_in before now line)
  variations_searched LineEnd before now sound = tt
  variations_searched (ThenMove word rest) before now sound =
      variations_searched rest now (now ++ word ∷ []) sound
  variations_searched (ThenGlyph number rest) before now sound =
      variations_searched rest before now sound
  variations_searched (ThenComment text rest) before now sound =
      variations_searched rest before now sound
  variations_searched (ThenVariation inner rest) before now sound =
      let (within, later) = all_parted (λ (own : LineGame). IsSoundLine true fen (line_items own))
      (variations_in before before inner) (variations_in before now rest) sound.1 in (
        searched_sound fen _ sound.0,
        all_joined IsSearched (variations_in before before inner) (variations_in before now rest)
            (variations_searched inner before before within)
            (variations_searched rest before now later),
      )

  -- each line of a sound game is sound as a main line
  pub all_searched : (items : List Item) → IsSoundGame All fen items
      → (line : Line) × (items ≡ spelled line) × AllByRecursion IsSearched (lines_of line)
  all_searched items (replay, is) =
      let lines = sound_lines fen items (replay, is) in
      let main : IsReplay Main fen items (record replay { turns = [] }) =
      record { start = is.start; is_start = is.is_start; line = is.line; turns = refl } in (
        lines.line,
        lines.spells,
        (
          (
            record replay { turns = [] },
            own_replay fen items lines.line (record replay { turns = [] }) lines.spells main,
          ),
          variations_searched lines.line [] [] lines.variations,
        ),
      )
