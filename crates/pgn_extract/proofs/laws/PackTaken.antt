-- Where each sound game is packed, what is exported of pieces is the records of these games.
use Rattle.pgn_extract.proofs.Common.{◌≡◌, ℕ, ◌+◌, ◌<◌, List, [], ◌∷◌, ◌++◌, length, Option, refl}
use Rattle.pgn_extract.proofs.Common.{sym, ap, ◌∙◌, subst, append-nil, arith, flat_map-append}
use Rattle.pgn_extract.proofs.Common.{GameText, PieceKind, ReadableGame, UnreadableRest}
use Rattle.pgn_extract.proofs.Common.{TooLongBlock, MarkedPiece, line_length, main_words}
use Rattle.pgn_extract.proofs.Common.{PackedGame, record_bytes, pack_bytes, Replay, Lines, Main}
use Rattle.pgn_extract.proofs.Common.{Heading, heading_of, Conditions, Aim, GameId, IsMet, HasEntry}
use Rattle.pgn_extract.proofs.Common.{IsSelected, IsWritten, selected, unselected, IsTextOf}
use Rattle.pgn_extract.proofs.Common.{IsPieceExport, AreExports, faulty_text, lines_in, id_of}
use Rattle.pgn_extract.proofs.Common.{is_chosen, IsReplayOf, IsFaultOf, AreGameRecords}
use Rattle.pgn_extract.proofs.Common.{ArePieceRecords, AreRecords, PacksAll, Form, Select}
use Rattle.pgn_extract.proofs.Common.{IsGameOf, Part}
use Rattle.pgn_game.specs.Public.Openings.{NamedLine}
use Rattle.pgn_extract.specs.Public.Listing.{IsCounted}
use Rattle.pgn_extract.specs.Public.Exports.{sound as exported, faulty as unexported}
use Rattle.pgn_extract.specs.Public.Searching.{sound, faulty}
use Rattle.pgn_extract.proofs.ChoiceFacts.{when_taken}
use Rattle.pgn_extract.specs.declared.settings.Mode.TheVariants as modes

-- the first position of a game is an entry
has_first : (packing : Aim) (tags : Heading) (replay : Replay) → PacksAll packing
    → 0 < length replay.positions → HasEntry packing tags replay
has_first packing tags replay all some =
    let met = subst (λ (criteria : Option (List Conditions)).
    IsMet criteria tags replay 0) (sym all.criteria) (record {}) in (
      0,
      some,
      (
        (omega (arith, all.from_start), omega arith, met),
        (λ only before less. absurd (omega (arith, less))),
      ),
    )

-- so a sound game is selected
is_selected : (packing : Aim) (game : GameText) (replay : Replay) → PacksAll packing
    → IsReplayOf Main game replay
    → IsSelected packing.select (HasEntry packing (heading_of game) replay)
is_selected packing game replay all is =
    let count : length replay.positions ≡ length replay.played + 1 =
    line_length is.start (main_words game.elements 0) replay.positions replay.played is.line
    in
    subst (λ (select : Select). IsSelected select (HasEntry packing (heading_of game) replay))
    (sym all.select) (has_first packing (heading_of game) replay all (omega (arith, count)))

-- the record of a sound game
sound_record : (packing : Aim) (id : GameId) (game : GameText) (replay : Replay) (text : List ℕ)
    → PacksAll packing → IsReplayOf Main game replay → IsWritten packing id game replay text
    → (records : List PackedGame) × AreGameRecords packing.name id game records
    × (text ≡ pack_bytes records)
sound_record packing id game replay text all is (selected entry of) =
    let kept = subst (λ (form : Form). IsTextOf form packing id game text) all.form of in (
      kept.packed ∷ [],
      sound kept.replay kept.packed kept.is_replay kept.is_packed refl,
      kept.spells ∙ sym (append-nil (record_bytes kept.packed)),
    )
sound_record packing id game replay text all is (unselected none empty) =
    absurd (none (is_selected packing game replay all is))

-- the lines that must be sound
main_alone : (packing : Aim) → PacksAll packing → lines_in packing.form packing.style ≡ Main
main_alone packing all = ap (λ (form : Form). lines_in form packing.style) all.form

-- nothing is exported of what is faulty
nothing : (packing : Aim) (bytes text : List ℕ) → PacksAll packing
    → text ≡ faulty_text modes.Export packing.select bytes → text ≡ []
nothing packing bytes text all is = is
    ∙ ap (λ (select : Select). faulty_text modes.Export select bytes) all.select

-- without lines of openings a game counts as it stands
as_made : (packing : Aim) (parts : List Part) (game : GameText) → PacksAll packing
    → IsCounted packing.openings parts game → IsGameOf parts game
as_made packing parts game all made =
    subst (λ (o : Option (List NamedLine)). IsCounted o parts game) all.openings made

piece_records : (packing : Aim) (id : GameId) (kind : PieceKind) (text : List ℕ) → PacksAll packing
    → IsPieceExport packing id kind text
    → (records : List PackedGame) × ArePieceRecords packing.name kind id records
    × (text ≡ pack_bytes records)
piece_records packing id (ReadableGame parts) text all (game, made, exported replay is written) =
    let own = sound_record packing id game replay text all
    (subst (λ (lines : Lines). IsReplayOf lines game replay) (main_alone packing all) is)
    written in
    (own.0, (game, as_made packing parts game all made, own.1), own.2)
piece_records packing id (ReadableGame parts) text all (game, made, unexported fault is written) = (
  [],
  (
    game,
    as_made packing parts game all made,
    faulty fault (subst (λ (lines : Lines).
        IsFaultOf lines game fault) (main_alone packing all) is) refl,
  ),
  nothing packing game.text text all written,
)
piece_records packing id (UnreadableRest bytes) text all written =
    ([], refl, nothing packing bytes text all written)
piece_records packing id TooLongBlock text all written = ([], refl, written)

pub pieces_records : (packing : Aim) (number : ℕ) (pieces : List MarkedPiece) (bytes : List ℕ)
    → PacksAll packing → AreExports packing number pieces bytes
    → (records : List PackedGame) × AreRecords packing.name number pieces records
    × (bytes ≡ pack_bytes records)
pieces_records packing number [] bytes all none = ([], refl, none)
pieces_records packing number (piece ∷ more) bytes all (own, rest, parted, here, others) =
    let taken =
    ap (λ (chosen : Option (List GameId)). is_chosen chosen (id_of number piece)) all.chosen in
    let first = piece_records packing (id_of number piece) piece.kind own all
    (when_taken (is_chosen packing.chosen (id_of number piece)) _ taken here) in
    let later = pieces_records packing (number + 1) more rest all others in (
      first.0 ++ later.0,
      (first.0, later.0, refl, first.1, later.1),
      parted ∙ ap (λ t. t ++ rest) first.2 ∙ ap (λ t. pack_bytes first.0 ++ t) later.2
          ∙ sym (flat_map-append record_bytes first.0 later.0),
    )
