-- What is reported to the output of pieces in a row is their index, the listing of their entries,
-- or the exports of their games.
use Rattle.std.proofs.Common.{◌≡◌, ℕ, ◌+◌, Bool, true, false, if◌then◌else◌, List, [], ◌∷◌, ◌++◌}
use Rattle.std.proofs.Common.{refl, sym, ap, ◌∙◌, subst, append_assoc, Option}
use Rattle.pgn_extract.proofs.Common.{PieceKind, ReadableGame, UnreadableRest, TooLongBlock}
use Rattle.pgn_extract.proofs.Common.{MarkedPiece, GameText, id_of, IfChosen, is_chosen, index}
use Rattle.pgn_extract.proofs.Common.{index_line, Entry, entry_line, listing, AreGameEntries}
use Rattle.pgn_extract.proofs.Common.{ArePieceEntries, AreEntryRows, IsGameExport, IsPieceExport}
use Rattle.pgn_extract.proofs.Common.{AreExports, faulty_text, Adds, Verdict, SoundGame, FaultyGame}
use Rattle.pgn_extract.proofs.Common.{output_of, IsReplayed, IsGameVerdict, output_text}
use Rattle.pgn_extract.proofs.Common.{inl, inr, IsGameText, IsEntry, heading_of}
use Rattle.pgn_extract.proofs.Common.{plies_of, Main}
use Rattle.pgn_extract.proofs.Common.{written_lines, unselected, IsVerdictIn}
use Rattle.pgn_extract.proofs.Common.{IsPieceVerdict, AreVerdicts, Aim, GameId}
use Rattle.pgn_extract.specs.Private.EntryRows.{sound, faulty}
use Rattle.pgn_extract.specs.Public.Exports.{sound as exported, faulty as unexported}
use Rattle.pgn_extract.specs.Public.Listing.{IsShownOf}
use Rattle.pgn_extract.specs.Public.Laws.{RunIndexes, RunExports}
use Rattle.pgn_extract.proofs.ChoiceFacts.{choice_of}
use Rattle.pgn_extract.proofs.SomeCounted.{answers}
use Rattle.pgn_extract.proofs.Counting.{counted_good}
use Rattle.pgn_extract.proofs.TagsFirst.{either_way, no_entry, none_chosen, not_selected}
use Rattle.pgn_extract.specs.declared.settings.Mode.TheVariants as modes

-- the lines of entries, and then of others
pub listing-append : (name : Option (List ℕ)) (xs ys : List Entry)
    → listing name (xs ++ ys) ≡ listing name xs ++ listing name ys
listing-append name [] ys = refl
listing-append name (x ∷ xs) ys =
    ap (λ t. entry_line name x ++ t) (listing-append name xs ys)
    ∙ sym (append_assoc (entry_line name x) (listing name xs) (listing name ys))

-- a game's entries
of_game : (aim : Aim) (verdict : Verdict) (id : GameId) (game : GameText)
    → IsReplayed modes.List aim id game verdict
    → (own : List Entry) × AreGameEntries aim id game own
    × (output_of verdict ≡ listing aim.name own)
of_game aim (SoundGame text) id game (replay, is, (entries, these, here)) =
    (entries, sound replay is these, here)
of_game aim (FaultyGame text line note) id game (fault, is, here, noted, empty) =
    ([], faulty fault is refl, empty)

-- and where tags may come first
of_game_verdict : (tags_first : Bool) (aim : Aim) (verdict : Verdict) (id : GameId)
    (game : GameText) → IsGameText game → IsGameVerdict tags_first modes.List aim id game verdict
    → (own : List Entry) × AreGameEntries aim id game own
    × (output_of verdict ≡ listing aim.name own)
of_game_verdict tags_first aim verdict id game text is =
    elim (either_way tags_first modes.List aim id game verdict is) [
      | inr replayed ↦ of_game aim verdict id game replayed
      | inl (out, none) ↦ elim (answers Main game text) [
        | inl (replay, is) ↦ (
          [],
          sound replay is
              (none_chosen id (IsEntry aim (heading_of game) replay) (IsShownOf aim id game replay)
              (λ ply. no_entry aim (heading_of game) replay ply out)
              (plies_of 0 replay.positions)),
          ap output_of none,
        )
        | inr (fault, is) ↦ ([], faulty fault is refl, ap output_of none)
      ]
    ]

-- a piece's entries
of_piece : (kind : PieceKind) (aim : Aim) → aim.mode ≡ modes.List
    → (id : GameId) (verdict : Verdict) → IsPieceVerdict kind aim id verdict
    → (own : List Entry) × ArePieceEntries aim kind id own
    × (output_of verdict ≡ listing aim.name own)
of_piece (ReadableGame parts) aim lists id verdict is =
    let (game, made, by) = subst (λ m. IsVerdictIn m aim id parts verdict) lists is in
    let own = of_game_verdict aim.tags_first aim verdict id game
    (counted_good aim.openings parts game made) by in
    (own.0, (game, made, own.1), own.2)
of_piece (UnreadableRest bytes) aim lists id verdict (note, noted, names, is) =
    ([], refl, ap output_of is ∙ ap (λ m. faulty_text m aim.select bytes) lists)
of_piece TooLongBlock aim lists id verdict (note, noted, is) = ([], refl, ap output_of is)

-- those of one that is chosen or passed over
of_taken : (taken : Bool) (kind : PieceKind) (aim : Aim) → aim.mode ≡ modes.List
    → (id : GameId) (verdict : Verdict)
    → IfChosen taken (IsPieceVerdict kind aim id verdict) (verdict ≡ SoundGame [])
    → (own : List Entry) × IfChosen taken (ArePieceEntries aim kind id own) (own ≡ [])
    × (output_of verdict ≡ listing aim.name own)
of_taken true kind aim lists id verdict is = of_piece kind aim lists id verdict is
of_taken false kind aim lists id verdict none = ([], refl, ap output_of none)

-- the entries of pieces in a row
pub of_pieces : (aim : Aim) → aim.mode ≡ modes.List
    → (number : ℕ) (pieces : List MarkedPiece) (verdicts : List Verdict)
    → AreVerdicts aim number pieces verdicts
    → (entries : List Entry) × AreEntryRows aim number pieces entries
    × (output_text verdicts ≡ listing aim.name entries)
of_pieces aim lists number [] verdicts none = ([], refl, ap output_text none)
of_pieces aim lists number (piece ∷ more) verdicts (verdict, rest, parted, is, others) =
    let own = of_taken (is_chosen aim.chosen (id_of number piece)) piece.kind aim lists
    (id_of number piece) verdict is in
    let later = of_pieces aim lists (number + 1) more rest others in (
      own.0 ++ later.0,
      (own.0, later.0, refl, own.1, later.1),
      ap output_text parted ∙ ap (λ t. t ++ output_text rest) own.2
          ∙ ap (λ t. listing aim.name own.0 ++ t) later.2
          ∙ sym (listing-append aim.name own.0 later.0),
    )

-- a game's export
export_of_game : (aim : Aim) (verdict : Verdict) (id : GameId) (game : GameText)
    → IsReplayed modes.Export aim id game verdict → IsGameExport aim id game (output_of verdict)
export_of_game aim (SoundGame text) id game (replay, is, written) = exported replay is written
export_of_game aim (FaultyGame text line note) id game (fault, is, here, noted, written) =
    unexported fault is written

export_of_verdict : (tags_first : Bool) (aim : Aim) (verdict : Verdict) (id : GameId)
    (game : GameText) → IsGameText game
    → IsGameVerdict tags_first modes.Export aim id game verdict
    → IsGameExport aim id game (output_of verdict)
export_of_verdict tags_first aim verdict id game text is =
    elim (either_way tags_first modes.Export aim id game verdict is) [
      | inr replayed ↦ export_of_game aim verdict id game replayed
      | inl (out, none) ↦ elim (answers (written_lines aim) game text) [
        | inl (replay, is) ↦ exported replay is
            (unselected (not_selected aim (heading_of game) replay out) (ap output_of none))
        | inr (fault, is) ↦ unexported fault is
            (ap output_of none
            ∙ ap (λ s. faulty_text modes.Export s game.text) (sym out.select))
      ]
    ]

-- a piece's export
export_of_piece : (kind : PieceKind) (aim : Aim) → aim.mode ≡ modes.Export
    → (id : GameId) (verdict : Verdict) → IsPieceVerdict kind aim id verdict
    → IsPieceExport aim id kind (output_of verdict)
export_of_piece (ReadableGame parts) aim exports id verdict is =
    let (game, made, by) = subst (λ m. IsVerdictIn m aim id parts verdict) exports is in (
      game,
      made,
      export_of_verdict aim.tags_first aim verdict id game
          (counted_good aim.openings parts game made) by,
    )
export_of_piece (UnreadableRest bytes) aim exports id verdict (note, noted, names, is) =
    ap output_of is ∙ ap (λ m. faulty_text m aim.select bytes) exports
export_of_piece TooLongBlock aim exports id verdict (note, noted, is) = ap output_of is

-- the exports of pieces in a row
pub exports_of_pieces : (aim : Aim) → aim.mode ≡ modes.Export
    → (number : ℕ) (pieces : List MarkedPiece) (verdicts : List Verdict)
    → AreVerdicts aim number pieces verdicts → AreExports aim number pieces (output_text verdicts)
exports_of_pieces aim exports number [] verdicts none = ap output_text none
exports_of_pieces aim exports number (piece ∷ more) verdicts (verdict, rest, parted, is, others) = (
  output_of verdict,
  output_text rest,
  ap output_text parted,
  choice_of (is_chosen aim.chosen (id_of number piece))
      (export_of_piece piece.kind aim exports (id_of number piece) verdict) (ap output_of) is,
  exports_of_pieces aim exports (number + 1) more rest others,
)

-- a piece's line in the index
indexed_piece : (kind : PieceKind) (aim : Aim) → aim.mode ≡ modes.Index
    → (id : GameId) (verdict : Verdict) → IsPieceVerdict kind aim id verdict
    → output_of verdict ≡ index_line aim.name id.number (record { offset = id.offset; kind = kind })
indexed_piece (ReadableGame parts) aim indexes id verdict is =
    ap output_of (subst (λ m. IsVerdictIn m aim id parts verdict) indexes is)
indexed_piece (UnreadableRest bytes) aim indexes id verdict (note, noted, names, is) =
    ap output_of is ∙ ap (λ m. faulty_text m aim.select bytes) indexes
indexed_piece TooLongBlock aim indexes id verdict (note, noted, is) = ap output_of is

-- and where it is passed over
indexed_taken : (taken : Bool) (aim : Aim) → aim.mode ≡ modes.Index
    → (number : ℕ) (piece : MarkedPiece) (verdict : Verdict)
    → IfChosen taken (IsPieceVerdict piece.kind aim (id_of number piece) verdict) (verdict
    ≡ SoundGame []) → output_of verdict ≡ (if taken then index_line aim.name number piece else [])
indexed_taken true aim indexes number piece verdict is =
    indexed_piece piece.kind aim indexes (id_of number piece) verdict is
indexed_taken false aim indexes number piece verdict none = ap output_of none

-- the index of pieces in a row
indexed_pieces : (aim : Aim) → aim.mode ≡ modes.Index
    → (number : ℕ) (pieces : List MarkedPiece) (verdicts : List Verdict)
    → AreVerdicts aim number pieces verdicts
    → output_text verdicts ≡ index aim.chosen aim.name number pieces
indexed_pieces aim indexes number [] verdicts none = ap output_text none
indexed_pieces aim indexes number (piece ∷ more) verdicts (verdict, rest, parted, is, others) =
    let taken = is_chosen aim.chosen (id_of number piece) in
    ap output_text parted
    ∙ ap (λ t. t ++ output_text rest) (indexed_taken taken aim indexes number piece verdict is)
    ∙ ap (λ t. (if taken then index_line aim.name number piece else [])
    ++ t) (indexed_pieces aim indexes (number + 1) more rest others)

-- a complete run for the index wrote it
pub run_indexes : RunIndexes
run_indexes job io whole summary done is =
    subst (Adds io.out)
    (indexed_pieces job.aim is job.id.number done.pieces done.verdicts done.written.each)
    done.written.output

-- and one for the export that
pub run_exports : RunExports
run_exports job io whole summary done is = (
  output_text done.verdicts,
  exports_of_pieces job.aim is job.id.number done.pieces done.verdicts done.written.each,
  done.written.output,
)
