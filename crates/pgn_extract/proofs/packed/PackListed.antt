-- The listing of a pack is that of the text that was packed, and its index is that of the sound
-- games.
use Rattle.pgn_extract.proofs.Common.{◌≡◌, ◌⊎◌, ℕ, ◌+◌, inl, inr, List, [], ◌∷◌, ◌++◌, Option, refl}
use Rattle.pgn_extract.proofs.Common.{sym, ap, ap₂, ◌∙◌, subst, append_assoc, append-nil, GameText}
use Rattle.pgn_extract.proofs.Common.{tag_in, PieceKind, ReadableGame, UnreadableRest}
use Rattle.pgn_extract.proofs.Common.{TooLongBlock, MarkedPiece, Part, no_fault, PackedGame}
use Rattle.pgn_extract.proofs.Common.{IsPacked, pack_bytes, fen_tag, Main, Aim, GameId}
use Rattle.pgn_extract.proofs.Common.{ArePieceEntries, AreEntryRows, AreListed}
use Rattle.pgn_extract.proofs.Common.{IsReplayOf, mark_line, Entry, AreEntries, IsGameOf, listing}
use Rattle.pgn_extract.proofs.Common.{AreGameRecords, AreRecordLines, IsSoundPiece, AreRecords}
use Rattle.pgn_extract.proofs.Common.{IsPackOf, of_all, ArePieceRecords, IsRecordListing}
use Rattle.pgn_extract.proofs.Common.{ArePackLines, BeginsWithRecords, IsIndexOfSoundGames, Mode}
use Rattle.pgn_extract.proofs.Common.{game_id, id_of}
use Rattle.pgn_game.proofs.PackOnce.{one_pack}
use Rattle.pgn_extract.specs.Private.EntryRows.{sound as sound_rows, faulty as faulty_rows}
use Rattle.pgn_extract.specs.Public.Searching.{named, faulty, sound, keep, leave, none as no_pieces}
use Rattle.pgn_extract.proofs.Common.{by_itself}
use Rattle.pgn_extract.proofs.Counting.{counted_replay, counts_there, faulty_counts}
use Rattle.pgn_extract.proofs.ExactEntries.{are_entries}
use Rattle.pgn_extract.proofs.GameExport.{one_game}
use Rattle.pgn_extract.proofs.ModeOutputs.{listing-append}
use Rattle.pgn_extract.proofs.OneListing.{one_listing}
use Rattle.pgn_extract.specs.declared.settings.Mode.TheVariants as modes

-- the lines of records, and then of others
lines_cut : (aim : Aim) (own rest : List PackedGame) (text : List ℕ)
    → ArePackLines aim (own ++ rest) text
    → (front : List ℕ) × (back : List ℕ) × (text ≡ front ++ back) × ArePackLines aim own front
    × ArePackLines aim rest back
lines_cut aim [] rest text listed = ([], text, refl, refl, listed)
lines_cut aim (packed ∷ more) rest text (lines, others, parted, of, listed) =
    let cut = lines_cut aim more rest others listed in (
      lines ++ cut.0,
      cut.1,
      parted ∙ ap (λ t. lines ++ t) cut.2 ∙ sym (append_assoc lines cut.0 cut.1),
      (lines, cut.0, refl, of, cut.3),
      cut.4,
    )

-- the lines of records, and of one more
pub one_more_record : (aim : Aim) (before : List PackedGame) (packed : PackedGame)
    (text own : List ℕ) → ArePackLines aim before text → AreRecordLines aim.mode aim packed own
    → ArePackLines aim (before ++ packed ∷ []) (text ++ own)
one_more_record aim [] packed text own none of =
    (own, [], ap (λ t. t ++ own) none ∙ sym (append-nil own), of, refl)
one_more_record aim (first ∷ before) packed text own (lines, others, parted, here, listed) of = (
  lines,
  others ++ own,
  ap (λ t. t ++ own) parted ∙ append_assoc lines others own,
  here,
  one_more_record aim before packed others own listed of,
)

-- what is listed of a record is listed of the game as it counts
game_rows : (aim : Aim) → aim.mode ≡ modes.List
    → (name : Option (List ℕ)) (id : GameId) (parts : List Part) (game : GameText)
    → IsGameOf parts game → (own : List PackedGame) (text : List ℕ)
    → AreGameRecords name id game own → ArePackLines aim own text
    → (rows : List Entry) × ArePieceEntries (named name (of_all aim)) (ReadableGame parts) id rows
    × (text ≡ listing name rows)
game_rows aim list name id parts game made own text (sound replay packed is packs one) listed =
    let (lines, others, parted, of, none) = subst (λ r. ArePackLines aim r text) one listed in
    let own_mark : IsPacked packed.name packed.number packed.offset game replay packed = record {
      name = refl;
      number = refl;
      offset = refl;
      tags = packs.tags;
      result = packs.result;
      start = packs.start;
      first = packs.first;
      marks = packs.marks;
      plies = packs.plies;
    } in
    let here : IsRecordListing aim packed lines =
    subst (λ (m : Mode). AreRecordLines m aim packed lines) list of in
    let (other, counts, entries, found, spelled) = here game replay made.0 is own_mark in
    let marked : AreListed (named name (of_all aim)) id other replay entries =
    subst (λ (i : GameId). AreListed (named name (of_all aim)) i other replay entries)
    (ap₂ game_id packs.number packs.offset)
    (subst (λ (title : Option (List ℕ)).
    AreListed (named title (of_all aim)) (game_id packed.number packed.offset) other replay entries)
    packs.name found) in (
      entries,
      (
        by_itself other,
        counts_there aim.openings parts game other made.0 made.1 counts,
        sound_rows replay (counted_replay aim.openings game other replay counts is) marked,
      ),
      parted ∙ ap (λ t. lines ++ t) none ∙ append-nil lines ∙ spelled
          ∙ ap (λ (title : Option (List ℕ)). listing title entries) packs.name,
    )
game_rows aim list name id parts game made own text (faulty fault is none) listed = (
  [],
  (
    by_itself game,
    counts_there aim.openings parts game game made.0 made.1
        (faulty_counts aim.openings game fault made.0 is),
    faulty_rows fault is refl,
  ),
  subst (λ r. ArePackLines aim r text) none listed,
)

piece_rows : (aim : Aim) → aim.mode ≡ modes.List
    → (name : Option (List ℕ)) (kind : PieceKind) (id : GameId) (own : List PackedGame)
    (text : List ℕ) → ArePieceRecords name kind id own → ArePackLines aim own text
    → (rows : List Entry) × ArePieceEntries (named name (of_all aim)) kind id rows
    × (text ≡ listing name rows)
piece_rows aim list name (ReadableGame parts) id own text (game, made, are) listed =
    game_rows aim list name id parts game made own text are listed
piece_rows aim list name (UnreadableRest bytes) id own text none listed =
    ([], refl, subst (λ r. ArePackLines aim r text) none listed)
piece_rows aim list name TooLongBlock id own text none listed =
    ([], refl, subst (λ r. ArePackLines aim r text) none listed)

all_rows : (aim : Aim) → aim.mode ≡ modes.List
    → (name : Option (List ℕ)) (number : ℕ) (pieces : List MarkedPiece) (records : List PackedGame)
    (text : List ℕ) → AreRecords name number pieces records → ArePackLines aim records text
    → (rows : List Entry) × AreEntryRows (named name (of_all aim)) number pieces rows
    × (text ≡ listing name rows)
all_rows aim list name number [] records text none listed =
    ([], refl, subst (λ r. ArePackLines aim r text) none listed)
all_rows aim list name number (piece ∷ more) records text (own, rest, parted, here, others) listed =
    let cut = lines_cut aim own rest text (subst (λ r. ArePackLines aim r text) parted listed) in
    let first = piece_rows aim list name piece.kind (id_of number piece) own cut.0 here cut.3 in
    let later = all_rows aim list name (number + 1) more rest cut.1 others cut.4 in (
      first.0 ++ later.0,
      (first.0, later.0, refl, first.1, later.1),
      cut.2 ∙ ap (λ t. t ++ cut.1) first.2 ∙ ap (λ t. listing name first.0 ++ t) later.2
          ∙ sym (listing-append name first.0 later.0),
    )

-- the records of a pack are those of the text
same_records : (aim : Aim) (whole : List ℕ) (records : List PackedGame) (text : List ℕ)
    → BeginsWithRecords aim whole records [] text
    → (name : Option (List ℕ)) (number : ℕ) (pieces : List MarkedPiece)
    (pack : IsPackOf name number pieces whole) → pack.records ≡ records
same_records aim whole records text read name number pieces pack =
    one_pack pack.records records pack.fit read.fit (sym pack.packed ∙ read.parted
    ∙ append-nil (pack_bytes records))

-- whatever text the bytes are the pack of, what is listed of their records is its listing
pub packed_listing : (aim : Aim) → aim.mode ≡ modes.List
    → (whole : List ℕ) (records : List PackedGame) (text : List ℕ)
    → BeginsWithRecords aim whole records [] text
    → (name : Option (List ℕ)) (number : ℕ) (pieces : List MarkedPiece)
    → IsPackOf name number pieces whole
    → (entries : List Entry) → AreEntries (named name (of_all aim)) number pieces entries
    → text ≡ listing name entries
packed_listing aim list whole records text read name number pieces pack entries are =
    let same = same_records aim whole records text read name number pieces pack in
    let rows = all_rows aim list name number pieces records text
    (subst (AreRecords name number pieces) same pack.are) read.lines in
    rows.2 ∙ ap (listing name)
    (one_listing (named name (of_all aim)) number pieces rows.0 entries
    (are_entries (named name (of_all aim)) number pieces rows.0 rows.1) are)

-- ---- the index

-- the line of a piece in the index: its mark where it is a sound game, and else nothing
abbrev IsPieceLine : Option (List ℕ) → GameId → PieceKind → List ℕ → Type 0
IsPieceLine name id kind line =
    (IsSoundPiece kind × (line ≡ mark_line name id)) ⊎ ((IsSoundPiece kind → ⊥) × (line ≡ []))

game_line : (aim : Aim) → aim.mode ≡ modes.Index
    → (name : Option (List ℕ)) (id : GameId) (parts : List Part) (game : GameText)
    → IsGameOf parts game → (own : List PackedGame) (text : List ℕ)
    → AreGameRecords name id game own → ArePackLines aim own text
    → IsPieceLine name id (ReadableGame parts) text
game_line aim index name id parts game made own text (sound replay packed is packs one) lines =
    let (line, others, parted, of, empty) = subst (λ r. ArePackLines aim r text) one lines in
    let marked : line ≡ mark_line packed.name (game_id packed.number packed.offset) =
    subst (λ (m : Mode). AreRecordLines m aim packed line) index of in
    inl (
      (game, made, replay, is),
      parted ∙ ap (λ t. line ++ t) empty ∙ append-nil line ∙ marked
          ∙ ap (λ (title : Option (List ℕ)).
          mark_line title (game_id packed.number packed.offset)) packs.name
          ∙ ap (mark_line name) (ap₂ game_id packs.number packs.offset),
    )
game_line aim index name id parts game made own text (faulty fault is empty) lines =
    inr (
      λ good. no_fault Main (tag_in fen_tag game.tags) game.elements fault (
        good.2,
        subst (λ g. IsReplayOf Main g good.2)
            (one_game parts good.0 game good.1 made) good.3,
      ) is,
      subst (λ r. ArePackLines aim r text) empty lines,
    )

piece_line : (aim : Aim) → aim.mode ≡ modes.Index
    → (name : Option (List ℕ)) (kind : PieceKind) (id : GameId) (own : List PackedGame)
    (text : List ℕ)
    → ArePieceRecords name kind id own → ArePackLines aim own text → IsPieceLine name id kind text
piece_line aim index name (ReadableGame parts) id own text (game, made, are) lines =
    game_line aim index name id parts game made own text are lines
piece_line aim index name (UnreadableRest bytes) id own text empty lines =
    inr (λ no. no, subst (λ r. ArePackLines aim r text) empty lines)
piece_line aim index name TooLongBlock id own text empty lines =
    inr (λ no. no, subst (λ r. ArePackLines aim r text) empty lines)

-- the index of pieces, and of one more before them
one_before : (name : Option (List ℕ)) (number : ℕ) (piece : MarkedPiece) (more : List MarkedPiece)
    (line text : List ℕ) → IsPieceLine name (id_of number piece) piece.kind line
    → IsIndexOfSoundGames name (number + 1) more text
    → IsIndexOfSoundGames name number (piece ∷ more) (line ++ text)
one_before name number piece more line text (inl (good, is)) rest =
    subst (λ t. IsIndexOfSoundGames name number (piece ∷ more) (t ++ text)) (sym is)
    (keep number piece more text good rest)
one_before name number piece more line text (inr (bad, is)) rest =
    subst (λ t. IsIndexOfSoundGames name number (piece ∷ more) (t ++ text)) (sym is)
    (leave number piece more text bad rest)

sound_index : (aim : Aim) → aim.mode ≡ modes.Index
    → (name : Option (List ℕ)) (number : ℕ) (pieces : List MarkedPiece) (records : List PackedGame)
    (text : List ℕ) → AreRecords name number pieces records → ArePackLines aim records text
    → IsIndexOfSoundGames name number pieces text
sound_index aim index name number [] records text empty lines =
    subst (IsIndexOfSoundGames name number [])
    (sym (subst (λ r. ArePackLines aim r text) empty lines)) (no_pieces number)
sound_index aim index name number (piece ∷ more) records text
    (own, rest, parted, here, others) lines =
    let cut = lines_cut aim own rest text (subst (λ r. ArePackLines aim r text) parted lines) in
    subst (IsIndexOfSoundGames name number (piece ∷ more)) (sym cut.2)
    (one_before name number piece more cut.0 cut.1
    (piece_line aim index name piece.kind (id_of number piece) own cut.0 here cut.3)
    (sound_index aim index name (number + 1) more rest cut.1 others cut.4))

-- whatever text the bytes are the pack of, the marks of their records are the index of its sound
-- games
pub packed_index : (aim : Aim) → aim.mode ≡ modes.Index
    → (whole : List ℕ) (records : List PackedGame) (text : List ℕ)
    → BeginsWithRecords aim whole records [] text
    → (name : Option (List ℕ)) (number : ℕ) (pieces : List MarkedPiece)
    → IsPackOf name number pieces whole → IsIndexOfSoundGames name number pieces text
packed_index aim index whole records text read name number pieces pack =
    sound_index aim index name number pieces records text
    (subst (AreRecords name number pieces)
    (same_records aim whole records text read name number pieces pack) pack.are) read.lines
