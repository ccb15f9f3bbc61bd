-- The pieces of a text are reported in some way: each of its games has a replay or a fault, since
-- its FEN tag has the contents of a string,
-- and each sound one has an export.
use Rattle.std.proofs.Common.{◌≡◌, ◌⊎◌, ℕ, zero, suc, arith, ◌+◌, ◌<◌, ◌≤◌, ◌==◌, Bool, true, false}
use Rattle.std.proofs.Common.{List, [], ◌∷◌, ◌++◌, map, length, refl}
use Rattle.std.proofs.Common.{sym, subst, inl, inr, codes}
use Rattle.pgn_extract.proofs.Common.{cases_lt, cases_Bool, both_ways, PieceKind, ReadableGame}
use Rattle.pgn_extract.proofs.Common.{UnreadableRest, TooLongBlock, MarkedPiece, marked, AreOfBlock}
use Rattle.pgn_extract.proofs.Common.{over, within, AreOfBlocks, AreMarkedPieces, GameText}
use Rattle.pgn_extract.proofs.Common.{IsGameText, ShowsGame, tag_in, Part, spelled, lines_with}
use Rattle.pgn_extract.proofs.Common.{Lines, Main, fen_tag, id_of, IfChosen, is_chosen}
use Rattle.pgn_extract.proofs.Common.{fault_text, mark_line, IsGameOf, listing, plies_of}
use Rattle.pgn_extract.proofs.Common.{cause_text, IsReplayOf, Form, Standard, AsItStands}
use Rattle.pgn_extract.proofs.Common.{EachLine, FromEntry, LineOfEach, None, Some}
use Rattle.pgn_extract.specs.Public.Exports.{line_begin}
use Rattle.pgn_game.specs.Public.LineGames.{AsExports, OnLines}
use Rattle.pgn_extract.proofs.FieldTexts.{some_position}
use Rattle.pgn_extract.proofs.LaterGames.{main_sound, some_later}
use Rattle.pgn_game.proofs.BegunGames.{later_sound}
use Rattle.pgn_extract.proofs.Common.{Line, Record, line_with, lines_in, written_lines, HasEntry}
use Rattle.pgn_extract.proofs.Common.{IsTextOf, IsWritten, selected, unselected, as_it_stands}
use Rattle.pgn_extract.proofs.Common.{faulty_text, Verdict, SoundGame, FaultyGame, IsOutput}
use Rattle.pgn_extract.proofs.Common.{IsReplayed, IsGameVerdict, AreEntryLines, IsVerdictIn}
use Rattle.pgn_extract.proofs.Common.{IsReportedBy}
use Rattle.pgn_extract.proofs.Common.{AreVerdicts, replayed_lines, IsPieceVerdict}
use Rattle.pgn_extract.proofs.Common.{IsUnreadableVerdict, Replay, Heading, heading_of, Aim, GameId}
use Rattle.pgn_extract.proofs.Common.{IsMet, IsWanted, IsEntry, Mode}
use Rattle.pgn_text.specs.Public.Pieces.{Piece, Game, Unreadable, ArePieces}
use Rattle.pgn_text.proofs.ShownGame.{some_game_text}
use Rattle.pgn_extract.proofs.LineExports.{some_line_texts}
use Rattle.pgn_extract.proofs.SomeEdited.{some_edited_export}
use Rattle.pgn_game.proofs.SomeRecord.{a_record}
use Rattle.pgn_game.proofs.GameLineFacts.{some_line}
use Rattle.pgn_extract.specs.Public.Laws.{TextHasAReport}
use Rattle.pgn_extract.proofs.Chosen.{some_chosen}
use Rattle.pgn_extract.proofs.Decided.{IsDecided, all_decided}
use Rattle.pgn_extract.proofs.ExactEntries.{within_plies}
use Rattle.pgn_extract.proofs.Exported.{selected_or_not}
use Rattle.pgn_extract.specs.Public.Listing.{IsShownOf}
use Rattle.pgn_extract.specs.Public.LineListing.{AreLineListings, IsLineListing, ListsEachLine}
use Rattle.pgn_extract.specs.Public.LineListing.{aim_in, listed_game}
use Rattle.pgn_extract.proofs.entries.LineListings.{sound_in}
use Rattle.pgn_game.specs.Public.LineGames.{LineGame, line_items, lines_of}
use Rattle.pgn_game.specs.Public.Replays.{IsSoundGame}
use Rattle.pgn_game.specs.Public.SearchedLines.{up_to_pass_if}
use Rattle.pgn_game.specs.declared.replays.replayer.Lines.TheVariants.{All}
use Rattle.pgn_game.proofs.SearchedFacts.{all_searched}
use Rattle.std.specs.List.{AllByRecursion}
use Rattle.pgn_extract.proofs.ShownTexts.{some_shown}
use Rattle.pgn_extract.proofs.SomeCounted.{answers, some_counted}
use Rattle.pgn_extract.proofs.Counting.{counted_good}
use Rattle.pgn_extract.proofs.NoteLines.{empty_note, some_stop_note}
use Rattle.pgn_extract.proofs.TagsFirst.{ruled_out_or_not}
use Rattle.pgn_extract.specs.Public.Verdicts.IsPlayedOrNot.{played, unplayed}
use Rattle.pgn_extract.specs.declared.settings.Mode.TheVariants as modes

-- the parts of a game make one that a reader can be handed
abbrev IsMade : PieceKind → Type 0
IsMade (ReadableGame parts) = (game : GameText) × IsGameOf parts game
IsMade (UnreadableRest bytes) = Unit {0}
IsMade TooLongBlock = Unit {0}

abbrev AreMade : List MarkedPiece → Type 0
AreMade [] = Unit {0}
AreMade (piece ∷ more) = IsMade piece.kind × AreMade more

made_of : {parts : List Part} → (game : GameText) × IsGameText game × ShowsGame game 0 parts
    → IsMade (ReadableGame parts)
made_of (game, is, shows) = (game, (is, shows))

pieces_made : (max_depth : ℕ) (file_start : Bool) (before : List ℕ) (pieces : List Piece)
    (text : List ℕ) (offset : ℕ)
    → ArePieces max_depth file_start before pieces text → AreMade (map (marked offset) pieces)
pieces_made max_depth file_start before [] text offset h = tt
pieces_made max_depth file_start before (Game at parts ∷ more) text offset h = (
  made_of (some_game_text max_depth file_start (before ++ spelled h.0) parts h.1 0 h.5),
  pieces_made max_depth file_start ((before ++ spelled h.0) ++ spelled parts) more h.1 offset h.6,
)
pieces_made max_depth file_start before (Unreadable at bytes ∷ more) text offset h =
    (tt, subst (λ l. AreMade (map (marked offset) l)) (sym h.6) tt)

made_append : (xs ys : List MarkedPiece) → AreMade xs → AreMade ys → AreMade (xs ++ ys)
made_append [] ys a b = b
made_append (x ∷ xs) ys a b = (a.0, made_append xs ys a.1 b)

block_made : (limit max_depth offset : ℕ) (block : List ℕ) (marks : List MarkedPiece)
    → AreOfBlock limit max_depth offset block marks → AreMade marks
block_made limit max_depth offset block marks (over l e) = subst AreMade (sym e) (tt, tt)
block_made limit max_depth offset block marks (within l pieces h e) =
    subst AreMade (sym e) (pieces_made max_depth (offset == 0) [] pieces block offset h)

blocks_made : (limit max_depth offset : ℕ) (blocks : List (List ℕ)) (marks : List MarkedPiece)
    → AreOfBlocks limit max_depth offset blocks marks → AreMade marks
blocks_made limit max_depth offset [] marks h = subst AreMade (sym h) tt
blocks_made limit max_depth offset (block ∷ more) marks h =
    let first = block_made limit max_depth offset block h.0 h.3 in
    let others = blocks_made limit max_depth (offset + length block) more h.1 h.4 in
    subst AreMade (sym h.2) (made_append h.0 h.1 first others)

-- a ply is wanted or not, where its position is decided
wanted_or_not : (aim : Aim) (tags : Heading) (replay : Replay) (ply : ℕ)
    → IsMet aim.criteria tags replay ply ⊎ (IsMet aim.criteria tags replay ply → ⊥)
    → IsWanted aim tags replay ply ⊎ (IsWanted aim tags replay ply → ⊥)
wanted_or_not aim tags replay ply met = elim (cases_lt ply aim.min_ply) [
  | inl under ↦ inr (λ wanted. let low = wanted.0 in omega arith)
  | inr low ↦ elim (cases_lt aim.max_ply ply) [
    | inl above ↦ inr (λ wanted. let high = wanted.1 in omega arith)
    | inr high ↦ elim met [
      | inl is ↦ inl (omega arith, omega arith, is)
      | inr fails ↦ inr (λ wanted. fails wanted.2)
    ]
  ]
]

-- none before a ply is wanted, or one is first
pub none_before : (aim : Aim) (tags : Heading) (replay : Replay) (ply : ℕ)
    → ((n : ℕ) → n < ply → IsMet aim.criteria tags replay n
    ⊎ (IsMet aim.criteria tags replay n → ⊥)) → ((n : ℕ) → n < ply → IsWanted aim tags replay n → ⊥)
    ⊎ ((n : ℕ) × (n < ply) × IsWanted aim tags replay n
    × ((m : ℕ) → m < n → IsWanted aim tags replay m → ⊥))
none_before aim tags replay zero met = inl (λ n less wanted. omega arith)
none_before aim tags replay (suc ply) met =
    elim (none_before aim tags replay ply (λ n less. met n (omega arith))) [
      | inr (n, less, wanted, least) ↦ inr (n, omega arith, wanted, least)
      | inl none ↦ elim (wanted_or_not aim tags replay ply (met ply (omega arith))) [
        | inl wanted ↦ inr (ply, omega arith, wanted, none)
        | inr fails ↦ inl (λ n less wanted. elim (cases_lt n ply) [
          | inl under ↦ none n under wanted
          | inr above ↦ let same : n ≡ ply = omega arith in
              fails (subst (IsWanted aim tags replay) same wanted)
        ])
      ]
    ]

-- so a ply is listed or not
entry_or_not : (aim : Aim) (tags : Heading) (replay : Replay) (ply : ℕ)
    → ((n : ℕ) → n < ply + 1 → IsMet aim.criteria tags replay n
    ⊎ (IsMet aim.criteria tags replay n → ⊥))
    → IsEntry aim tags replay ply ⊎ (IsEntry aim tags replay ply → ⊥)
entry_or_not aim tags replay ply met =
    elim (wanted_or_not aim tags replay ply (met ply (omega arith))) [
      | inr fails ↦ inr (λ entry. fails entry.0)
      | inl wanted ↦ elim (cases_Bool aim.first) [
        | inr every ↦ inl (wanted, λ first before less earlier. both_ways aim.first every first)
        | inl first ↦ elim (none_before aim tags replay ply (λ n less. met n (omega arith))) [
          | inl none ↦ inl (wanted, λ only. none)
          | inr (n, less, earlier, least) ↦ inr (λ entry. entry.1 first n less earlier)
        ]
      ]
    ]

-- a game has an entry or has none
entry_or_none : (aim : Aim) (tags : Heading) (replay : Replay) (count : ℕ)
    → count ≤ length replay.positions
    → ((n : ℕ) → n < count → IsEntry aim tags replay n ⊎ (IsEntry aim tags replay n → ⊥))
    → HasEntry aim tags replay ⊎ ((n : ℕ) → n < count → IsEntry aim tags replay n → ⊥)
entry_or_none aim tags replay zero fits each = inr (λ n less entry. omega arith)
entry_or_none aim tags replay (suc count) fits each =
    elim (entry_or_none aim tags replay count (omega arith) (λ n less. each n (omega arith))) [
      | inl has ↦ inl has
      | inr none ↦ elim (each count (omega arith)) [
        | inl entry ↦ inl (count, omega arith, entry)
        | inr fails ↦ inr (λ n less entry. elim (cases_lt n count) [
          | inl under ↦ none n under entry
          | inr above ↦ let same : n ≡ count = omega arith in
              fails (subst (IsEntry aim tags replay) same entry)
        ])
      ]
    ]

module _ (aim : Aim) (decided : IsDecided aim) (id : GameId) (game : GameText)
    (text : IsGameText game) where
  -- a ply of a sound game is listed or not
  listed_or_not : (lines : Lines) (replay : Replay) → IsReplayOf lines game replay → (ply : ℕ)
      → ply < length replay.positions
      → IsEntry aim (heading_of game) replay ply ⊎ (IsEntry aim (heading_of game) replay ply → ⊥)
  listed_or_not lines replay is ply short =
      entry_or_not aim (heading_of game) replay ply (λ n less.
      decided lines game replay is n (omega arith))

  -- so a sound game has an entry or none
  has_or_not : (replay : Replay) → IsReplayOf (written_lines aim) game replay
      → HasEntry aim (heading_of game) replay ⊎ (HasEntry aim (heading_of game) replay → ⊥)
  has_or_not replay is =
      elim (entry_or_none aim (heading_of game) replay (length replay.positions) (omega arith)
      (listed_or_not (written_lines aim) replay is)) [
        | inl has ↦ inl has
        | inr none ↦ inr (λ has. none has.0 has.1 has.2)
      ]

  some_text : (form : Form) (replay : Replay) → IsReplayOf (lines_in form aim.style) game replay
      → (own : List ℕ) × IsTextOf form aim id game own
  some_text Standard replay is =
      some_edited_export aim.edits aim.style game text (replay, is)
  some_text FromEntry replay is =
      let (main, own) =
      main_sound (lines_with aim.style.variations) (tag_in fen_tag game.tags) game.elements
      (replay, is) in
      elim (none_before aim (heading_of game) main (length main.positions) (λ n less.
      decided Main game main own n less)) [
        | inl none ↦
            let some = some_edited_export aim.edits aim.style game text (replay, is) in
            (some.0, (main, None, game, own, none, refl, some.1))
        | inr (ply, less, wanted, least) ↦
            let there = some_position main.positions ply less in
            let (later, good, begins) = some_later game ply text (there.0, (main, own, there.1)) in
            let some =
            some_edited_export aim.edits aim.style later good
            (later_sound (lines_with aim.style.variations) ply game later (replay, is) begins) in
            (some.0, (main, Some ply, later, own, (less, wanted, least), begins, some.1))
      ]
  some_text EachLine replay is =
      some_line_texts (AsExports aim.edits aim.style) game text (replay, is)
  some_text (LineOfEach notation) replay is =
      some_line_texts (OnLines notation (line_begin aim.name id)) game text (replay, is)
  some_text AsItStands replay is = (as_it_stands game.text, refl)
  some_text (Line notation) replay is =
      let own = some_line notation (tag_in fen_tag game.tags) game.elements (replay, is) in
      (line_with aim.name id own.0, (own.0, own.1, refl))
  some_text Record replay is = a_record aim.name id.number id.offset game (replay, is)

  written : (replay : Replay) → IsReplayOf (written_lines aim) game replay
      → (own : List ℕ) × IsWritten aim id game replay own
  written replay is =
      elim (selected_or_not aim.select (HasEntry aim (heading_of game) replay)
      (has_or_not replay is)) [
        | inl has ↦ let own = some_text aim.form replay is in (own.0, selected has own.1)
        | inr none ↦ ([], unselected none refl)
      ]

  entries : (replay : Replay) → IsReplayOf Main game replay
      → (own : List ℕ) × AreEntryLines aim id game replay own
  entries replay is =
      let some = some_chosen id (IsEntry aim (heading_of game) replay)
      (IsShownOf aim id game replay)
      (plies_of 0 replay.positions)
      (λ ply has. listed_or_not Main replay is ply (within_plies replay.positions ply has))
      (λ ply has.
      some_shown aim.line aim.name aim.openings id aim.of_line game text.strings Main replay is
      ply (within_plies replay.positions ply has)) in
      (listing aim.name some.0, (some.0, some.1, refl))

  -- and each of its lines
  own_entries : (number : ℕ) (line : LineGame)
      → IsSoundGame Main (tag_in fen_tag game.tags) (listed_game game number line).elements
      → (own : List ℕ) × IsLineListing aim id game number line own
  own_entries number line (replay, is) =
      let own_aim = aim_in aim number line in
      let listed = listed_game game number line in
      let some = some_chosen id (IsEntry own_aim (heading_of game) replay)
      (IsShownOf own_aim id listed replay) (plies_of 0 replay.positions)
      (λ ply has. entry_or_not own_aim (heading_of game) replay ply (λ n less.
      let short = within_plies replay.positions ply has in
      decided Main listed replay is n (omega arith)))
      (λ ply has. some_shown aim.line aim.name aim.openings id own_aim.of_line listed text.strings
      Main replay is ply (within_plies replay.positions ply has)) in
      (listing aim.name some.0, (replay, is, some.0, some.1, refl))

  lines_entries : IsSoundGame Main (tag_in fen_tag game.tags) game.elements
      → (number : ℕ) (lines : List LineGame)
      → AllByRecursion (λ line. IsSoundGame Main (tag_in fen_tag game.tags)
      (up_to_pass_if line.inside (line_items line))) lines
      → (own : List ℕ) × AreLineListings aim id game number lines own
  lines_entries main number [] sound = ([], refl)
  lines_entries main number (line ∷ more) (first, sound) =
      let (text, listed) = own_entries number line (sound_in game number line main first) in
      let (rest, later) = lines_entries main (number + 1) more sound in
      (text ++ rest, (text, rest, refl, listed, later))

  each_line : (replay : Replay) → IsReplayOf All game replay
      → (own : List ℕ) × ListsEachLine aim id game own
  each_line replay is =
      let (line, spells, sound) =
      all_searched (tag_in fen_tag game.tags) game.elements (replay, is) in
      let main = main_sound All (tag_in fen_tag game.tags) game.elements (replay, is) in
      let (text, listed) = lines_entries main 0 (lines_of line) sound in
      (text, (line, spells, listed))

  some_output : (mode : Mode) (replay : Replay) → IsReplayOf (replayed_lines mode aim) game replay
      → (own : List ℕ) × IsOutput mode aim id game replay own
  some_output modes.Index replay is = entries replay is
  some_output modes.List replay is = entries replay is
  some_output modes.EachLine replay is = each_line replay is
  some_output modes.Export replay is = written replay is

  game_replayed : (mode : Mode) → (verdict : Verdict) × IsReplayed mode aim id game verdict
  game_replayed mode = elim (answers (replayed_lines mode aim) game text) [
    | inl sound ↦ let own = some_output mode sound.0 sound.1 in
        (SoundGame own.0, (sound.0, sound.1, own.1))
    | inr faulty ↦ (
      FaultyGame (faulty_text mode aim.select game.text)
          (fault_text aim.name id (cause_text faulty.0)) [],
      (faulty.0, faulty.1, refl, empty_note aim.explain, refl),
    )
  ]

  -- and where tags may come first
  game_verdict : (tags_first : Bool) (mode : Mode)
      → (verdict : Verdict) × IsGameVerdict tags_first mode aim id game verdict
  game_verdict false mode = game_replayed mode
  game_verdict true mode = elim (ruled_out_or_not aim (heading_of game)) [
    | inl out ↦ (SoundGame [], unplayed out refl)
    | inr not_out ↦ let own = game_replayed mode in (own.0, played not_out own.1)
  ]

game_reported : (aim : Aim) → IsDecided aim → (id : GameId) (parts : List Part)
    → IsMade (ReadableGame parts)
    → (mode : Mode) → (verdict : Verdict) × IsVerdictIn mode aim id parts verdict
game_reported aim decided id parts made modes.Index = (SoundGame (mark_line aim.name id), refl)
game_reported aim decided id parts made modes.List =
    let (game, counts) = some_counted aim.openings parts made.0 made.1 in
    let own = game_verdict aim decided id game (counted_good aim.openings parts game counts)
    aim.tags_first modes.List in
    (own.0, (game, counts, own.1))
game_reported aim decided id parts made modes.EachLine =
    let (game, counts) = some_counted aim.openings parts made.0 made.1 in
    let own = game_verdict aim decided id game (counted_good aim.openings parts game counts)
    aim.tags_first modes.EachLine in
    (own.0, (game, counts, own.1))
game_reported aim decided id parts made modes.Export =
    let (game, counts) = some_counted aim.openings parts made.0 made.1 in
    let own = game_verdict aim decided id game (counted_good aim.openings parts game counts)
    aim.tags_first modes.Export in
    (own.0, (game, counts, own.1))

by_line : (aim : Aim) (line : List ℕ) → (verdict : Verdict) × IsReportedBy aim [] line verdict
by_line aim line = (FaultyGame [] line [], ([], empty_note aim.explain, refl))

unreadable_reported : (aim : Aim) (offset : ℕ) (bytes line : List ℕ)
    → (verdict : Verdict) × IsUnreadableVerdict aim offset bytes line verdict
unreadable_reported aim offset bytes line =
    let some = some_stop_note aim.explain offset bytes in
    (FaultyGame (faulty_text aim.mode aim.select bytes) line some.0, (some.0, some.1, some.2, refl))

piece_reported : (kind : PieceKind) (aim : Aim) → IsDecided aim → (id : GameId) → IsMade kind
    → (verdict : Verdict) × IsPieceVerdict kind aim id verdict
piece_reported (ReadableGame parts) aim decided id made =
    game_reported aim decided id parts made aim.mode
piece_reported (UnreadableRest bytes) aim decided id made =
    unreadable_reported aim id.offset bytes (fault_text aim.name id (codes "unreadable"))
piece_reported TooLongBlock aim decided id made =
    by_line aim (fault_text aim.name id (codes "too long"))

-- a piece, chosen or passed over
one_reported : (taken : Bool) (kind : PieceKind) (aim : Aim) → IsDecided aim → (id : GameId)
    → IsMade kind → (verdict : Verdict)
    × IfChosen taken (IsPieceVerdict kind aim id verdict) (verdict ≡ SoundGame [])
one_reported true kind aim decided id made = piece_reported kind aim decided id made
one_reported false kind aim decided id made = (SoundGame [], refl)

all_reported : (aim : Aim) → IsDecided aim → (number : ℕ) (pieces : List MarkedPiece)
    → AreMade pieces → (reported : List Verdict) × AreVerdicts aim number pieces reported
all_reported aim decided number [] made = ([], refl)
all_reported aim decided number (piece ∷ more) made =
    let own = one_reported (is_chosen aim.chosen (id_of number piece)) piece.kind aim decided
    (id_of number piece) made.0 in
    let rest = all_reported aim decided (number + 1) more made.1 in
    (own.0 ∷ rest.0, (own.0, rest.0, refl, own.1, rest.1))

pub some_report : TextHasAReport
some_report aim limit max_depth id text pieces h =
    all_reported aim (all_decided aim) id.number pieces
    (blocks_made limit max_depth id.offset h.blocks pieces h.each)

made_after : (xs ys : List MarkedPiece) → AreMade (xs ++ ys) → AreMade ys
made_after [] ys made = made
made_after (x ∷ xs) ys made = made_after xs ys made.1

-- the last of the pieces of a text are reported in some way too
pub rest_reported : (aim : Aim) (limit max_depth : ℕ) (id : GameId) (text : List ℕ)
    (before after : List MarkedPiece)
    → AreMarkedPieces limit max_depth id.offset text (before ++ after)
    → (reported : List Verdict) × AreVerdicts aim id.number after reported
rest_reported aim limit max_depth id text before after h =
    all_reported aim (all_decided aim) id.number after
    (made_after before after
    (blocks_made limit max_depth id.offset h.blocks (before ++ after) h.each))
