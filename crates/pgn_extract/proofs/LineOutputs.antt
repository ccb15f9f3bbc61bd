-- What is reported to the output of pieces in a row is the listings of the lines of their games,
-- where these are asked for.
use Rattle.pgn_extract.proofs.Common.{◌≡◌, ◌+◌, ◌∙◌, ◌∷◌, ℕ, Bool, List, [], Aim, All}
use Rattle.pgn_extract.proofs.Common.{AreVerdicts, FaultyGame, GameId, GameText, IsEntry}
use Rattle.pgn_extract.proofs.Common.{IsGameText, IsGameVerdict, IsPieceVerdict, IsReplayOf}
use Rattle.pgn_extract.proofs.Common.{IsReplayed, IsRuledOut, IsVerdictIn, Main, MarkedPiece}
use Rattle.pgn_extract.proofs.Common.{PieceKind, ReadableGame, Replay, SoundGame, TooLongBlock}
use Rattle.pgn_extract.proofs.Common.{UnreadableRest, Verdict, ap, faulty_text, fen_tag}
use Rattle.pgn_extract.proofs.Common.{heading_of, id_of, inl, inr, is_chosen, output_of}
use Rattle.pgn_extract.proofs.Common.{output_text, plies_of, refl, subst, sym, tag_in}
use Rattle.std.specs.List.{AllByRecursion}
use Rattle.pgn_game.specs.Public.LineGames.{LineGame, line_items, lines_of}
use Rattle.pgn_game.specs.Public.Replays.{IsSoundGame}
use Rattle.pgn_game.specs.Public.SearchedLines.{up_to_pass_if}
use Rattle.pgn_game.proofs.SearchedFacts.{all_searched}
use Rattle.pgn_extract.specs.Public.Laws.{RunListsLines}
use Rattle.pgn_extract.specs.Public.LineListing.{AreGameLineListings, AreLineListings, faulty}
use Rattle.pgn_extract.specs.Public.LineListing.{IsGameLineListing, IsPieceLineListing, sound}
use Rattle.pgn_extract.specs.Public.LineListing.{ListsEachLine, aim_in, listed_game}
use Rattle.pgn_extract.specs.Public.Listing.{IsShownOf}
use Rattle.pgn_extract.proofs.ChoiceFacts.{choice_of}
use Rattle.pgn_extract.proofs.Counting.{counted_good}
use Rattle.pgn_extract.proofs.SomeCounted.{answers}
use Rattle.pgn_extract.proofs.LaterGames.{main_sound}
use Rattle.pgn_extract.proofs.TagsFirst.{either_way, no_entry, none_chosen}
use Rattle.pgn_extract.proofs.entries.LineListings.{sound_in}
use Rattle.pgn_extract.specs.declared.settings.Mode.TheVariants as modes

-- a game that its heading rules out has no entry in any of its lines
module _ (aim : Aim) (id : GameId) (game : GameText) (out : IsRuledOut aim (heading_of game)) where
  none_of_lines : IsSoundGame Main (tag_in fen_tag game.tags) game.elements
      → (number : ℕ) (lines : List LineGame)
      → AllByRecursion (λ (line : LineGame). IsSoundGame Main (tag_in fen_tag game.tags)
      (up_to_pass_if line.inside (line_items line))) lines
      → AreLineListings aim id game number lines []
  none_of_lines main number [] all = refl
  none_of_lines main number (line ∷ more) (own, all) =
      let own_aim = aim_in aim number line in
      let own_out : IsRuledOut own_aim (heading_of game) =
      record { asked = out.asked; select = out.select; no_chance = out.no_chance } in
      let (replay, is) = sound_in game number line main own in (
        [],
        [],
        refl,
        (
          replay,
          is,
          [],
          none_chosen id (IsEntry own_aim (heading_of game) replay)
              (IsShownOf own_aim id (listed_game game number line) replay)
              (λ ply. no_entry own_aim (heading_of game) replay ply own_out)
              (plies_of 0 replay.positions),
          refl,
        ),
        none_of_lines main (number + 1) more all,
      )

  none_of_game : (replay : Replay) → IsReplayOf All game replay → ListsEachLine aim id game []
  none_of_game replay is =
      let (line, spells, all) =
      all_searched (tag_in fen_tag game.tags) game.elements (replay, is) in
      let main = main_sound All (tag_in fen_tag game.tags) game.elements (replay, is) in
      (line, spells, none_of_lines main 0 (lines_of line) all)

-- a game's listing
listing_of_game : (aim : Aim) (verdict : Verdict) (id : GameId) (game : GameText)
    → IsReplayed modes.EachLine aim id game verdict
    → IsGameLineListing aim id game (output_of verdict)
listing_of_game aim (SoundGame text) id game (replay, is, lists) = sound replay is lists
listing_of_game aim (FaultyGame text line note) id game (fault, is, here, noted, empty) =
    faulty fault is empty

listing_of_verdict : (tags_first : Bool) (aim : Aim) (verdict : Verdict) (id : GameId)
    (game : GameText) → IsGameText game
    → IsGameVerdict tags_first modes.EachLine aim id game verdict
    → IsGameLineListing aim id game (output_of verdict)
listing_of_verdict tags_first aim verdict id game text is =
    elim (either_way tags_first modes.EachLine aim id game verdict is) [
      | inr replayed ↦ listing_of_game aim verdict id game replayed
      | inl (out, none) ↦ subst (IsGameLineListing aim id game) (sym (ap output_of none))
          (elim (answers All game text) [
            | inl (replay, is) ↦ sound replay is (none_of_game aim id game out replay is)
            | inr (fault, is) ↦ faulty fault is refl
          ])
    ]

-- a piece's listing
listing_of_piece : (kind : PieceKind) (aim : Aim) → aim.mode ≡ modes.EachLine
    → (id : GameId) (verdict : Verdict) → IsPieceVerdict kind aim id verdict
    → IsPieceLineListing aim id kind (output_of verdict)
listing_of_piece (ReadableGame parts) aim lists id verdict is =
    let (game, made, by) = subst (λ m. IsVerdictIn m aim id parts verdict) lists is in (
      game,
      made,
      listing_of_verdict aim.tags_first aim verdict id game
          (counted_good aim.openings parts game made) by,
    )
listing_of_piece (UnreadableRest bytes) aim lists id verdict (note, noted, names, is) =
    ap output_of is ∙ ap (λ m. faulty_text m aim.select bytes) lists
listing_of_piece TooLongBlock aim lists id verdict (note, noted, is) = ap output_of is

-- the listings of pieces in a row
listings_of_pieces : (aim : Aim) → aim.mode ≡ modes.EachLine
    → (number : ℕ) (pieces : List MarkedPiece) (verdicts : List Verdict)
    → AreVerdicts aim number pieces verdicts
    → AreGameLineListings aim number pieces (output_text verdicts)
listings_of_pieces aim lists number [] verdicts none = ap output_text none
listings_of_pieces aim lists number (piece ∷ more) verdicts (verdict, rest, parted, is, others) = (
  output_of verdict,
  output_text rest,
  ap output_text parted,
  choice_of (is_chosen aim.chosen (id_of number piece))
      (listing_of_piece piece.kind aim lists (id_of number piece) verdict) (ap output_of) is,
  listings_of_pieces aim lists (number + 1) more rest others,
)

-- a complete run that lists all lines wrote these
pub run_lists_lines : RunListsLines
run_lists_lines job io whole summary done is = (
  output_text done.verdicts,
  listings_of_pieces job.aim is job.id.number done.pieces done.verdicts done.written.each,
  done.written.output,
)
