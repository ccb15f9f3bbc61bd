-- A game without variations: all its lines are its main line.
use Rattle.pgn_game.proofs.Common.{◌≡◌, ◌∙◌, ℕ, false, List, [], ◌∷◌, Option, refl, ap, subst}
use Rattle.pgn_game.proofs.Common.{State, after, Move, Item, IsPaired, Line, LineEnd, ThenMove}
use Rattle.pgn_game.proofs.Common.{ThenGlyph, ThenComment, ThenVariation, IsPlayed, own_words}
use Rattle.pgn_game.proofs.Common.{spelled, IsFlat, main_words, IsMainLine, IsSoundGame, Main, All}
use Rattle.pgn_game.proofs.Common.{◌++◌, LineMove, Played}
use Rattle.pgn_game.specs.Public.LineGames.{variations_in}
use Rattle.pgn_game.proofs.AnAnswer.{played_sound}
use Rattle.pgn_game.proofs.OneLine.{main_words_of}
use Rattle.pgn_game.proofs.Spelling.{one_spelt}

-- the moves of its words are its turns
flat_played : (line : Line) (before now : State) (positions : List State) (played : List Move)
    → IsFlat (spelled line) → IsMainLine now (own_words line) positions played
    → (turns : List LineMove) × IsPlayed false before now line turns
flat_played LineEnd before now positions played flat is = ([], refl)
flat_played (ThenMove word rest) before now positions played flat (
  m,
  later,
  more,
  positions_is,
  played_is,
  named,
  line,
) =
    let there = flat_played rest now (after now m) later more flat line in
    (Played m ∷ there.0, (Played m, there.0, refl, named, there.1))
flat_played (ThenGlyph number rest) before now positions played flat is =
    flat_played rest before now positions played flat is
flat_played (ThenComment text rest) before now positions played flat is =
    flat_played rest before now positions played flat is
flat_played (ThenVariation inner rest) before now positions played flat is = absurd flat

pub flat_sound : (fen : Option (List ℕ)) (items : List Item) → IsPaired 0 items → IsFlat items
    → IsSoundGame Main fen items → IsSoundGame All fen items
flat_sound fen items paired flat (replay, is) =
    let tree = one_spelt items paired in
    let words : main_words items 0 ≡ own_words tree.0 =
    ap (λ xs. main_words xs 0) tree.1 ∙ main_words_of tree.0 in
    let line = subst (λ ws. IsMainLine is.start ws replay.positions replay.played) words is.line in
    let all =
    flat_played tree.0 is.start is.start replay.positions replay.played
    (subst IsFlat tree.1 flat) line in
    played_sound fen is.start items all.0 is.is_start (tree.0, tree.1, all.1)

-- and it has no variation
pub none_flat : (line : Line) (before now : List (List ℕ)) → IsFlat (spelled line)
    → variations_in before now line ≡ []
none_flat LineEnd before now flat = refl
none_flat (ThenMove word rest) before now flat = none_flat rest now (now ++ word ∷ []) flat
none_flat (ThenGlyph number rest) before now flat = none_flat rest before now flat
none_flat (ThenComment text rest) before now flat = none_flat rest before now flat
none_flat (ThenVariation inner rest) before now flat = absurd flat
