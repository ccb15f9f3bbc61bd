-- What the definitions of exports, of runs and of searches refuse.
use Rattle.std.proofs.Common.{IfSome}
use Rattle.std.specs.Borrow.{Bor}
use Rattle.pgn_extract.proofs.Common.{◌≡◌, ◌≢◌, ◌<◌, ◌+◌, ◌∙◌, ℕ, Bool, true, false, List, [], ◌∷◌}
use Rattle.pgn_extract.proofs.Common.{◌++◌, codes, length, Option, None, Some, ap, refl, sym, subst}
use Rattle.pgn_extract.proofs.Common.{arith, ◌≤◌, drop, InputTooLong, AreCompletePieces, GameText}
use Rattle.pgn_extract.proofs.Common.{IsGameText, Appends, Keeps, AllByRecursion, Fault}
use Rattle.pgn_extract.proofs.Common.{HasNoRecord, FitsRecord, PackedGame, IsPacked, record_bytes}
use Rattle.pgn_extract.proofs.Common.{Replay, Style, All, Main, largest_offset}
use Rattle.pgn_extract.proofs.Common.{MarkedPiece, ReadableGame, TooLongBlock, UnreadableRest}
use Rattle.pgn_extract.proofs.Common.{AreMarkedPieces, Part, Aim, GameId, IsGameExport}
use Rattle.pgn_extract.proofs.Common.{IsPieceExport, IsTextOf, written_lines, AreListed, IsFaultOf}
use Rattle.pgn_extract.proofs.Common.{IsReplayOf, game_id, mark_around, AreEntries, Entry}
use Rattle.pgn_extract.proofs.Common.{entries_at_least, IsCounted, listing, AppendsFront, BeginsAll}
use Rattle.pgn_extract.proofs.Common.{WritesComplete, Adds, ArePieces, Completes, Io, Job, Lists}
use Rattle.pgn_extract.proofs.Common.{Passage, Stream, IsBegun, Stops, AreGameRecords, ArePackLines}
use Rattle.pgn_extract.proofs.Common.{ArePieceRecords, AreRecordLines, AreRecords}
use Rattle.pgn_extract.proofs.Common.{BeginsWithRecords, HasNoGame, Searches, StopsAtBytes}
use Rattle.pgn_extract.proofs.Common.{StopsAtRead, StopsSearch, StopsWithin, IndexesWhatWasPacked}
use Rattle.pgn_extract.proofs.Common.{IsIndexOfSoundGames, IsPackOf, IsRecordListing, IsSoundPiece}
use Rattle.pgn_extract.proofs.Common.{ListsWhatWasPacked, of_all, AtPath, FileOf, IsOfPath}
use Rattle.pgn_extract.proofs.Common.{IsReport, NamesUnopened, NoFile, Order, Unknown, IsRead}
use Rattle.pgn_extract.proofs.Common.{WritesPaths, SearchesPath, SearchesPaths, AreVerdicts}
use Rattle.pgn_extract.proofs.Common.{IsGameReported, Verdict, fault_lines, output_text}
use Rattle.pgn_extract.proofs.Common.{StopsAmongPacks, StopsAtPack, Request, PackFailure, RunError}
use Rattle.pgn_extract.proofs.Common.{Summary, BadPack, Record, Standard}
use Rattle.pgn_text.specs.Public.Complete.{AreCompleteBlocks}
use Rattle.pgn_text.specs.Public.Tallies.{Tallied}
use Rattle.pgn_extract.specs.Public.Exports.IsGameExport.{sound as sound_export}
use Rattle.pgn_extract.specs.Public.Exports.IsGameExport.{faulty as faulty_export}
use Rattle.pgn_extract.specs.Public.Listing.{CountsAs, IsMainReplayOf}
use Rattle.pgn_extract.specs.Public.Requests.{option_refusals, refusals, text_refusals}
use Rattle.pgn_extract.specs.Public.Resuming.{WritesRest, IsMarkAmong}
use Rattle.pgn_extract.specs.Public.Runs.{AreWritten, Completed, OnInput, stream_of, IsCompleteOf}
use Rattle.pgn_extract.specs.Public.Runs.{Listed, Stopped}
use Rattle.pgn_extract.specs.Public.Searching.{named}
use Rattle.pgn_extract.specs.Public.Searching.AreGameRecords.{sound as sound_record}
use Rattle.pgn_extract.specs.Public.Searching.AreGameRecords.{faulty as faulty_record}
use Rattle.pgn_extract.specs.Public.Several.{StopsInFile, WritesRead}
use Rattle.pgn_extract.specs.Private.PackStops.{StopsInPack}
use Rattle.pgn_extract.specs.Private.SegmentSearching.{SearchesPack, StopsByCause}
use Rattle.pgn_extract.specs.declared.app.packs.PackFailure.TheVariants.{Report, Search}
use Rattle.pgn_extract.specs.declared.packed.pack_search.PackStop.{PackStop}
use Rattle.pgn_extract.specs.declared.packed.searching.Searched.{Searched}
use Rattle.pgn_extract.specs.declared.packed.searching.SearchError.TheVariants as errors
use Rattle.pgn_extract.specs.declared.settings.Mode.TheVariants as modes

-- Games and their exports.

no_turns_of_a_main_replay : (game : GameText) (replay : Replay) → replay.turns ≢ []
    → IsMainReplayOf game replay → ⊥
no_turns_of_a_main_replay game replay some is = some is.turns

no_turns_where_the_main_line_is_asked : (game : GameText) (replay : Replay) → replay.turns ≢ []
    → IsReplayOf Main game replay → ⊥
no_turns_where_the_main_line_is_asked game replay some is = some is.turns

no_entry_of_no_position : (aim : Aim) (id : GameId) (game : GameText) (entry : Entry)
    → AreListed aim id game (record { positions = []; played = []; turns = [] })
    (entry ∷ []) → ⊥
no_entry_of_no_position aim id game entry are = elim are [ ]

main_line_is_written : (aim : Aim) → written_lines (record aim { form = Record }) ≡ Main
main_line_is_written aim = refl

all_lines_are_written : (aim : Aim) (style : Style)
    → written_lines (record aim { form = Standard; style = record style { variations = true } })
    ≡ All
all_lines_are_written aim style = refl

no_empty_export : (aim : Aim) (id : GameId) (game : GameText) → IsTextOf Standard aim id game [] → ⊥
no_empty_export aim id game (own, edited, is) = none is.head is.movetext is.spells
  where
    none : (head movetext : List ℕ) → [] ≡ head ++ 10 ∷ (movetext ++ 10 ∷ []) → ⊥
    none [] movetext spells = cc
    none (byte ∷ more) movetext spells = cc

no_export_of_no_game : (aim : Aim) (id : GameId) (game : GameText) (text : List ℕ)
    → ((replay : Replay) → IsReplayOf (written_lines aim) game replay → ⊥)
    → ((fault : Fault) → IsFaultOf (written_lines aim) game fault → ⊥)
    → IsGameExport aim id game text → ⊥
no_export_of_no_game aim id game text unsound faultless is = elim is [
  | sound_export replay is_replay written ↦ unsound replay is_replay
  | faulty_export fault is_fault same ↦ faultless fault is_fault
]

-- of no other game is anything written or reported
no_export_of_another_game : (aim : Aim) (id : GameId) (parts : List Part) (text : List ℕ)
    → ((game : GameText) → IsCounted aim.openings parts game → ⊥)
    → IsPieceExport aim id (ReadableGame parts) text → ⊥
no_export_of_another_game aim id parts text none is = none is.0 is.1

no_verdict_on_another_game : (aim : Aim) (id : GameId) (parts : List Part) (verdict : Verdict)
    → ((game : GameText) → IsCounted aim.openings parts game → ⊥)
    → IsGameReported modes.List aim id parts verdict → ⊥
no_verdict_on_another_game aim id parts verdict none is = none is.0 is.1

-- Runs.

refusals_of_options_come_first : (noted : Bool) (request : Request)
    → refusals noted request ≡ option_refusals request ++ text_refusals noted request
refusals_of_options_come_first noted request = refl

no_mark_of_no_sign : (text : List ℕ) (mark : GameId) → mark_around text None ≡ Some mark → ⊥
no_mark_of_no_sign text mark is = cc

stream_of_a_tally : {T : Type 0} (bytes : T → Option (List ℕ)) (tally : Tallied T) (stream : Stream)
    → stream.moved ≡ tally.moved + 1 → stream ≡ stream_of bytes tally → ⊥
stream_of_a_tally bytes tally stream more is =
    let same : stream.moved
    ≡ tally.moved = ap (λ (s : Stream). s.moved) is in omega (arith, more, same)

no_fact_of_the_input_is_left : (io : Io) (whole : List ℕ) (P : List ℕ → Type 0)
    → io.input.old.bytes ≡ Some whole → (P whole → ⊥) → OnInput io P → ⊥
no_fact_of_the_input_is_left io whole P is none holds =
    none (subst (λ left. IfSome left P) is holds)

no_piece_unreported : (job : Job) (io : Io) (piece : MarkedPiece) → AreWritten job io (piece
    ∷ []) [] → ⊥
no_piece_unreported job io piece written = let none = written.each.2 in cc

no_input_too_long : (job : Job) (io : Io) (whole : List ℕ) (summary : Summary)
    → largest_offset < length whole → Completes job io whole summary → ⊥
no_input_too_long job io whole summary long done = omega (arith, long, done.size)

no_run_unflushed : (job : Job) (io : Io) (summary : Summary) → io.out.new.flushed ≡ false
    → Completed job io summary → ⊥
no_run_unflushed job io summary not_flushed done = let both = sym done.1 ∙ not_flushed in cc

no_listing_unwritten : (job : Job) (io : Io) (whole : List ℕ) → ((text : List ℕ)
    → Adds io.out text → ⊥) → Lists job io whole → ⊥
no_listing_unwritten job io whole unwritten lists = unwritten _ lists.listed

no_listing_of_no_pieces : (job : Job) (io : Io) (whole : List ℕ)
    → ((pieces : List MarkedPiece) → ArePieces job whole pieces → ⊥) → Lists job io whole → ⊥
no_listing_of_no_pieces job io whole none lists = none lists.pieces lists.each

no_entry_unlisted : (job : Job) (io : Io) (whole : List ℕ)
    → ((pieces : List MarkedPiece) (entries : List Entry)
    → AreEntries job.aim job.id.number pieces entries → ⊥) → Lists job io whole → ⊥
no_entry_unlisted job io whole none lists = none lists.pieces lists.entries lists.are

no_rest_unwritten : (aim : Aim) (number : ℕ) (pieces rest : List MarkedPiece)
    (out out' err err' : Option (List ℕ)) → ((verdicts : List Verdict)
    → AreVerdicts aim number rest verdicts → ⊥)
    → WritesRest aim number pieces rest out out' err err' → ⊥
no_rest_unwritten aim number pieces rest out out' err err' none writes =
    none writes.verdicts writes.written.each

no_report_of_no_pieces : (job : Job) (text output faults : List ℕ)
    → ((pieces : List MarkedPiece) → ArePieces job text pieces → ⊥)
    → IsReport job text output faults → ⊥
no_report_of_no_pieces job text output faults none is = none is.pieces is.each

no_file_where_none_is : (error : RunError) (order : Order) (out err : Passage)
    → StopsInFile error order NoFile out err → ⊥
no_file_where_none_is error order out err stops = stops

no_file_where_nothing_is_known : (error : RunError) (order : Order) (out err : Passage)
    → StopsInFile error order Unknown out err → ⊥
no_file_where_nothing_is_known error order out err stops = stops

nothing_of_an_unknown_path : (order : Order) (path output report : List ℕ)
    → IsOfPath order path Unknown output report → ⊥
nothing_of_an_unknown_path order path output report is = is

no_other_verdicts_of_a_report : (job : Job) (text output faults : List ℕ)
    → ((pieces : List MarkedPiece) (verdicts : List Verdict)
    → AreVerdicts job.aim job.id.number pieces verdicts → ⊥) → IsReport job text output faults → ⊥
no_other_verdicts_of_a_report job text output faults none is =
    none is.pieces is.verdicts is.reported

no_other_lines_of_a_report : (job : Job) (text output faults : List ℕ)
    → ((verdicts : List Verdict) → faults ≡ fault_lines verdicts → ⊥)
    → IsReport job text output faults → ⊥
no_other_lines_of_a_report job text output faults none is = none is.verdicts is.lines

no_report_unwritten : (order : Order) (text : List ℕ) (out err : Passage)
    → ((report : List ℕ) → Adds err report → ⊥) → WritesRead order text out err → ⊥
no_report_unwritten order text out err none writes = none writes.1 writes.4

no_report_of_paths_unwritten : (order : List ℕ → Order) (known : List ℕ → AtPath)
    (paths : List (List ℕ)) (out err : Passage)
    → ((report : List ℕ) → Adds err report → ⊥) → WritesPaths order known paths out err → ⊥
no_report_of_paths_unwritten order known paths out err none writes = none writes.1 writes.4

-- Packs.

no_record_of_no_game : (name : Option (List ℕ)) (id : GameId) (game : GameText)
    (records : List PackedGame) → ((replay : Replay) → IsReplayOf Main game replay → ⊥)
    → ((fault : Fault) → IsFaultOf Main game fault → ⊥) → AreGameRecords name id game records → ⊥
no_record_of_no_game name id game records unsound faultless are = elim are [
  | sound_record replay packed is_replay is_packed one ↦ unsound replay is_replay
  | faulty_record fault is_fault none ↦ faultless fault is_fault
]

no_record_of_a_long_block : (name : Option (List ℕ)) (id : GameId) (packed : PackedGame)
    → ArePieceRecords name TooLongBlock id (packed ∷ []) → ⊥
no_record_of_a_long_block name id packed are = cc

no_record_of_other_bytes : (name : Option (List ℕ)) (id : GameId) (bytes : List ℕ)
    (packed : PackedGame) → ArePieceRecords name (UnreadableRest bytes) id (packed ∷ []) → ⊥
no_record_of_other_bytes name id bytes packed are = cc

no_sound_piece_but_games : (bytes : List ℕ)
    → (IsSoundPiece TooLongBlock → ⊥) × (IsSoundPiece (UnreadableRest bytes) → ⊥)
no_sound_piece_but_games bytes = (λ sound. sound, λ sound. sound)

no_record_of_no_piece : (name : Option (List ℕ)) (number : ℕ) (packed : PackedGame)
    → AreRecords name number [] (packed ∷ []) → ⊥
no_record_of_no_piece name number packed are = cc

no_empty_line_of_a_record : (aim : Aim) (packed : PackedGame)
    → AreRecordLines modes.Index aim packed [] → ⊥
no_empty_line_of_a_record aim packed is = none _ is
  where
    none : (front : List ℕ) → [] ≡ front ++ 10 ∷ [] → ⊥
    none [] same = cc
    none (byte ∷ more) same = cc

no_line_of_no_record : (aim : Aim) → ArePackLines aim [] (codes "x") → ⊥
no_line_of_no_record aim are = cc

-- in each of its other modes a record has the lines of its game
no_other_lines_in_a_mode : (aim : Aim) (packed : PackedGame) (text : List ℕ)
    → (IsRecordListing aim packed text → ⊥) → (AreRecordLines modes.List aim packed text → ⊥)
    × (AreRecordLines modes.EachLine aim packed text → ⊥)
    × (AreRecordLines modes.Export aim packed text → ⊥)
no_other_lines_in_a_mode aim packed text none = (none, none, none)

no_lines_of_another_record : (aim : Aim) (packed : PackedGame) (more : List PackedGame)
    (text : List ℕ) → ((own : List ℕ) → AreRecordLines aim.mode aim packed own → ⊥)
    → ArePackLines aim (packed ∷ more) text → ⊥
no_lines_of_another_record aim packed more text none are = none are.0 are.3

no_record_passed_over : (aim : Aim) (packed : PackedGame) (more : List PackedGame) (text : List ℕ)
    → ((rest : List ℕ) → ArePackLines aim more rest → ⊥) → ArePackLines aim (packed ∷ more) text → ⊥
no_record_passed_over aim packed more text none are = none are.1 are.4

no_record_that_does_not_fit : (aim : Aim) (whole rest text : List ℕ) (before : List PackedGame)
    → (AllByRecursion FitsRecord before → ⊥) → BeginsWithRecords aim whole before rest text → ⊥
no_record_that_does_not_fit aim whole rest text before none begins = none begins.fit

no_byte_left_out : (aim : Aim) (whole rest text : List ℕ) → whole ≢ rest
    → BeginsWithRecords aim whole [] rest text → ⊥
no_byte_left_out aim whole rest text other begins = other begins.parted

no_line_before_records : (aim : Aim) (whole rest : List ℕ)
    → BeginsWithRecords aim whole [] rest (codes "x") → ⊥
no_line_before_records aim whole rest begins = no_line_of_no_record aim begins.lines

no_search_unwritten : (aim : Aim) (whole : List ℕ) (out out' : Option (List ℕ))
    (searched : Searched)
    → ((text : List ℕ) → Appends out out' text → ⊥) → Searches aim whole out out' searched → ⊥
no_search_unwritten aim whole out out' searched unwritten searches =
    unwritten searches.text searches.written

no_record_uncounted : (aim : Aim) (whole : List ℕ) (out out' : Option (List ℕ))
    (searched : Searched) (searches : Searches aim whole out out' searched)
    → searched.records ≢ length searches.records → ⊥
no_record_uncounted aim whole out out' searched searches other = other searches.counted

no_search_of_other_bytes : (aim : Aim) (whole : List ℕ) (out out' : Option (List ℕ))
    (searched : Searched)
    → ((records : List PackedGame) (text : List ℕ)
    → BeginsWithRecords aim whole records [] text → ⊥) → Searches aim whole out out' searched → ⊥
no_search_of_other_bytes aim whole out out' searched none searches =
    none searches.records searches.text searches.read

no_stop_at_the_end : (aim : Aim) (whole : List ℕ) (at : ℕ) (out out' : Option (List ℕ))
    → ((rest : List ℕ) → HasNoGame rest → ⊥) → StopsAtBytes aim whole at out out' → ⊥
no_stop_at_the_end aim whole at out out' none stops = none stops.rest stops.bad

no_stop_before_a_record : (aim : Aim) (whole : List ℕ) (left out out' : Option (List ℕ))
    → ((rest : List ℕ) → HasNoRecord rest → ⊥) → StopsAtRead aim whole left out out' → ⊥
no_stop_before_a_record aim whole left out out' none stops = none stops.rest stops.none

no_stop_unwritten : (aim : Aim) (whole : List ℕ) (out out' : Option (List ℕ))
    → ((text : List ℕ) → AppendsFront out out' text → ⊥) → StopsWithin aim whole out out' → ⊥
no_stop_unwritten aim whole out out' unwritten stops = unwritten stops.text stops.written

no_stop_of_other_bytes : (aim : Aim) (whole : List ℕ) (out out' : Option (List ℕ))
    → ((before : List PackedGame) (rest text : List ℕ)
    → BeginsWithRecords aim whole before rest text → ⊥) → StopsWithin aim whole out out' → ⊥
no_stop_of_other_bytes aim whole out out' none stops =
    none stops.before stops.rest stops.text stops.read

-- a beginning of the lines stands where a write fails, and where memory runs out
no_stop_but_a_beginning : (aim : Aim) (whole : List ℕ) (left out out' : Option (List ℕ))
    → (StopsWithin aim whole out out' → ⊥) → (StopsSearch errors.Write aim whole left out out' → ⊥)
    × (StopsSearch errors.OutOfMemory aim whole left out out' → ⊥)
no_stop_but_a_beginning aim whole left out out' none = (none, none)

no_bad_pack_unnamed : (aim : Aim) (whole : List ℕ) (at : ℕ) (left out out' : Option (List ℕ))
    → (StopsAtBytes aim whole at out out' → ⊥)
    → StopsSearch (BadPack at) aim whole left out out' → ⊥
no_bad_pack_unnamed aim whole at left out out' none stops = none stops

-- Several packs.

no_search_of_an_unknown_path : (aim : Aim) (path : List ℕ) (out err : Passage)
    → SearchesPath aim path Unknown out err → ⊥
no_search_of_an_unknown_path aim path out err searched = searched

no_line_of_no_pack : (aim : Aim) (path : List ℕ) (out err : Passage) → out.new ≢ out.old
    → SearchesPath aim path NoFile out err → ⊥
no_line_of_no_pack aim path out err other searched = other searched.0

no_report_of_a_pack : (aim : Aim) (path whole : List ℕ) (out err : Passage) → err.new ≢ err.old
    → SearchesPath aim path (FileOf whole) out err → ⊥
no_report_of_a_pack aim path whole out err other searched = other searched.1

-- the line that names a pack that is not there is written, and a pack that is there is searched
no_pack_unnamed : (aim : Aim) (path : List ℕ) (out err : Passage)
    → ((line : List ℕ) → NamesUnopened path line → Adds err line → ⊥)
    → SearchesPath aim path NoFile out err → ⊥
no_pack_unnamed aim path out err none searched = none searched.1.0 searched.1.1 searched.1.2

no_pack_unsearched : (aim : Aim) (path whole : List ℕ) (out err : Passage)
    → ((searched : Searched) → SearchesPack aim whole out.old.bytes out.new.bytes searched → ⊥)
    → SearchesPath aim path (FileOf whole) out err → ⊥
no_pack_unsearched aim path whole out err none searched = none searched.0.0 searched.0.1

nothing_after_the_last_pack : (aim : Aim) (known : List ℕ → AtPath) (out err : Passage)
    → out.new ≢ out.old → SearchesPaths aim known [] out err → ⊥
nothing_after_the_last_pack aim known out err other searched = other searched.0

no_report_after_the_last_pack : (aim : Aim) (known : List ℕ → AtPath) (out err : Passage)
    → err.new ≢ err.old → SearchesPaths aim known [] out err → ⊥
no_report_after_the_last_pack aim known out err other searched = other searched.1

no_later_pack_passed_over : (aim : Aim) (known : List ℕ → AtPath) (path : List ℕ)
    (more : List (List ℕ)) (out err : Passage)
    → ((out_there err_there : Stream) → SearchesPaths aim known more
    (record { old = out_there; new = out.new }) (record { old = err_there; new = err.new }) → ⊥)
    → SearchesPaths aim known (path ∷ more) out err → ⊥
no_later_pack_passed_over aim known path more out err unsearched searched =
    unsearched searched.0 searched.1 searched.3

no_pack_passed_over : (aim : Aim) (known : List ℕ → AtPath) (path : List ℕ) (more : List (List ℕ))
    (out err : Passage)
    → ((out_there err_there : Stream) → SearchesPath aim path (known path)
    (record { old = out.old; new = out_there }) (record { old = err.old; new = err_there }) → ⊥)
    → SearchesPaths aim known (path ∷ more) out err → ⊥
no_pack_passed_over aim known path more out err unsearched searched =
    unsearched searched.0 searched.1 searched.2

-- a search of packs ends early at one of them
no_stop_at_no_pack : (aim : Aim) (known : List ℕ
    → AtPath) (failure : PackFailure) (out err : Passage)
    → StopsAmongPacks aim known [] failure out err → ⊥
no_stop_at_no_pack aim known failure out err stops = none stops.before stops.parted
  where
    none : (before : List (List ℕ)) → [] ≡ before ++ stops.path ∷ stops.after → ⊥
    none [] parted = cc
    none (first ∷ more) parted = cc

-- those before it were searched to their ends
no_pack_before_unsearched : (aim : Aim) (known : List ℕ → AtPath) (paths : List (List ℕ))
    (failure : PackFailure) (out err : Passage)
    → ((before : List (List ℕ)) (out_there err_there : Stream) → SearchesPaths aim known before
    (record { old = out.old; new = out_there }) (record { old = err.old; new = err_there }) → ⊥)
    → StopsAmongPacks aim known paths failure out err → ⊥
no_pack_before_unsearched aim known paths failure out err none stops =
    none stops.before stops.out_there stops.err_there stops.whole

-- no search stops where no file is, or where nothing is known
no_search_without_files : (stop : PackStop) (name : Bor (List ℕ)) (aim : Aim)
    (paths : List (List ℕ)) (out err : Passage)
    → StopsAmongPacks aim (λ path. NoFile) paths (Search name stop) out err → ⊥
no_search_without_files stop name aim paths out err stops = stops.there

no_stop_at_an_unknown_path : (failure : PackFailure) (aim : Aim) (path : List ℕ)
    (out err : Passage) → StopsAtPack failure aim path Unknown out err → ⊥
no_stop_at_an_unknown_path failure aim path out err stops = stops

-- a pack that is not there leaves the output, and its line is begun
no_output_of_no_pack : (error : RunError) (aim : Aim) (path : List ℕ) (out err : Passage)
    → out.new ≢ out.old → StopsAtPack (Report error) aim path NoFile out err → ⊥
no_output_of_no_pack error aim path out err other stops = other stops.0

no_other_line_of_no_pack : (error : RunError) (aim : Aim) (path : List ℕ) (out err : Passage)
    → ((line : List ℕ) → NamesUnopened path line
    → AppendsFront err.old.bytes err.new.bytes line → ⊥)
    → StopsAtPack (Report error) aim path NoFile out err → ⊥
no_other_line_of_no_pack error aim path out err none stops = none stops.1.0 stops.1.1 stops.1.2

-- where memory runs out as a pack is opened, nothing is written
nothing_of_an_unopened_pack : (error : RunError) (aim : Aim) (path whole : List ℕ)
    (out err : Passage) → (Keeps err.old.bytes err.new.bytes → ⊥)
    → StopsAtPack (Report error) aim path (FileOf whole) out err → ⊥
nothing_of_an_unopened_pack error aim path whole out err other stops = other stops.1

no_output_of_an_unopened_pack : (error : RunError) (aim : Aim) (path whole : List ℕ)
    (out err : Passage) → out.new ≢ out.old
    → StopsAtPack (Report error) aim path (FileOf whole) out err → ⊥
no_output_of_an_unopened_pack error aim path whole out err other stops = other stops.0

-- in a pack a search stops alone, and leaves what it says
no_report_stops_in_a_pack : (error : RunError) (aim : Aim) (path whole : List ℕ) (out : Passage)
    → StopsInPack (Report error) aim path whole out → ⊥
no_report_stops_in_a_pack error aim path whole out stops = stops

no_other_stop_in_a_pack : (stop : PackStop) (name : Bor (List ℕ)) (aim : Aim)
    (path whole : List ℕ) (out : Passage)
    → (StopsByCause stop.cause aim whole stop out.old.bytes out.new.bytes → ⊥)
    → StopsInPack (Search name stop) aim path whole out → ⊥
no_other_stop_in_a_pack stop name aim path whole out none stops = none stops.1

-- and of a pack that failed nothing goes to standard error before its report
no_line_of_a_failed_pack : (stop : PackStop) (name : Bor (List ℕ)) (aim : Aim)
    (path whole : List ℕ) (out err : Passage) → err.new ≢ err.old
    → StopsAtPack (Search name stop) aim path (FileOf whole) out err → ⊥
no_line_of_a_failed_pack stop name aim path whole out err other stops = other stops.1

no_other_pack_is_named : (stop : PackStop) (name : Bor (List ℕ)) (aim : Aim)
    (path whole : List ℕ) (out : Passage) → name.now ≢ path
    → StopsInPack (Search name stop) aim path whole out → ⊥
no_other_pack_is_named stop name aim path whole out other stops = other stops.0

-- What a run leaves as a whole.

no_bytes_of_no_record : (aim : Aim) (id : GameId) (game : GameText)
    → IsTextOf Record aim id game [] → ⊥
no_bytes_of_no_record aim id game is = none is.packed is.spells
  where
    none : (packed : PackedGame) → [] ≡ record_bytes packed → ⊥
    none packed spells = cc

no_piece_of_no_complete_block : (limit depth offset : ℕ) (text : List ℕ) (marks : List MarkedPiece)
    → ((blocks : List (List ℕ)) → AreCompleteBlocks blocks text → ⊥)
    → AreCompletePieces limit depth offset text marks → ⊥
no_piece_of_no_complete_block limit depth offset text marks none are = none are.blocks are.complete

no_report_of_an_incomplete_block : (aim : Aim) (limit depth : ℕ) (id : GameId) (bytes : List ℕ)
    (out out' err err' : Option (List ℕ))
    → ((pieces : List MarkedPiece) → AreCompletePieces limit depth id.offset bytes pieces → ⊥)
    → WritesComplete aim limit depth id bytes out out' err err' → ⊥
no_report_of_an_incomplete_block aim limit depth id bytes out out' err err' none writes =
    none writes.pieces writes.each

no_other_beginning : (aim : Aim) (limit depth : ℕ) (id : GameId) (bytes : List ℕ)
    (out out' err err' : Option (List ℕ)) → ((text : List ℕ) → AppendsFront out out' text → ⊥)
    → BeginsAll aim limit depth id bytes out out' err err' → ⊥
no_other_beginning aim limit depth id bytes out out' err err' none begins =
    none (output_text begins.verdicts) begins.output

-- after an error it is of complete blocks, or a beginning of all
no_complete_report_of_no_block : (job : Job) (io : Io) (bytes : List ℕ)
    → ((pieces : List MarkedPiece)
    → AreCompletePieces job.limit job.max_depth job.id.offset (drop job.id.offset bytes) pieces → ⊥)
    → IsCompleteOf job io bytes → ⊥
no_complete_report_of_no_block job io bytes none is = none is.pieces is.each

no_beginning_of_another_report : (job : Job) (io : Io) (whole : List ℕ)
    → ((text : List ℕ) → AppendsFront io.out.old.bytes io.out.new.bytes text → ⊥)
    → IsBegun job io whole → ⊥
no_beginning_of_another_report job io whole none begun =
    none (output_text begun.verdicts) begun.output

no_small_input_is_too_long : (job : Job) (io : Io) (whole : List ℕ) → length whole ≤ largest_offset
    → Stops InputTooLong job io whole → ⊥
no_small_input_is_too_long job io whole small stops = omega (arith, small, stops.0)

no_small_input_stops_so : (job : Job) (io : Io) (whole : List ℕ) → io.input.old.bytes ≡ Some whole
    → length whole ≤ largest_offset → Stopped job io InputTooLong → ⊥
no_small_input_stops_so job io whole known small stopped =
    no_fact_of_the_input_is_left io whole (λ text. Stops InputTooLong job io text) known
    (no_small_input_is_too_long job io whole small) stopped

-- in the mode of the listing it is the listing
no_run_unlisted : (job : Job) (io : Io) (whole : List ℕ) → io.input.old.bytes ≡ Some whole
    → job.aim.mode ≡ modes.List → (Lists job io whole → ⊥) → Listed job io → ⊥
no_run_unlisted job io whole known list none listed =
    no_fact_of_the_input_is_left io whole (λ text. job.aim.mode ≡ modes.List → Lists job io text)
    known (λ says. none (says list)) listed

-- from a mark on it is the rest
no_other_rest_is_listed : (job : Job) (io : Io) (whole : List ℕ) (pieces : List MarkedPiece)
    (entries : List Entry) → AreMarkedPieces job.limit job.max_depth 0 whole pieces
    → IsMarkAmong job.id pieces → AreEntries job.aim 1 pieces entries
    → (Adds io.out (listing job.aim.name (entries_at_least job.id.number entries)) → ⊥)
    → Lists job io whole → ⊥
no_other_rest_is_listed job io whole pieces entries each mark are none lists =
    none (lists.rest pieces each mark entries are)

no_file_unread : (order : Order) (text : List ℕ) (out err : Passage)
    → ((output report : List ℕ) → IsRead order text output report → ⊥)
    → WritesRead order text out err → ⊥
no_file_unread order text out err none writes = none writes.0 writes.1 writes.2

-- What a search of a pack finds is what was packed.

no_other_lines_of_a_record : (aim : Aim) (packed : PackedGame) (text : List ℕ) (game : GameText)
    (replay : Replay) → IsGameText game → IsReplayOf Main game replay
    → IsPacked packed.name packed.number packed.offset game replay packed
    → ((entries : List Entry) → text ≡ listing packed.name entries → ⊥)
    → IsRecordListing aim packed text → ⊥
no_other_lines_of_a_record aim packed text game replay sound is_replay is_packed none is =
    let lines = is game replay sound is_replay is_packed in none lines.2 lines.4

no_other_entries_of_a_record : (aim : Aim) (packed : PackedGame) (text : List ℕ)
    (game : GameText) (replay : Replay) → IsGameText game → IsReplayOf Main game replay
    → IsPacked packed.name packed.number packed.offset game replay packed
    → ((own : GameText) → CountsAs aim.openings game own → (entries : List Entry)
    → AreListed (named packed.name (of_all aim)) (game_id packed.number packed.offset) own replay
    entries → ⊥) → IsRecordListing aim packed text → ⊥
no_other_entries_of_a_record aim packed text game replay sound is_replay is_packed none is =
    let lines = is game replay sound is_replay is_packed in none lines.0 lines.1 lines.2 lines.3

no_other_listing_is_found : (aim : Aim) (whole : List ℕ) (out out' : Option (List ℕ))
    (name : Option (List ℕ)) (number : ℕ) (pieces : List MarkedPiece) (entries : List Entry)
    → aim.mode ≡ modes.List → IsPackOf name number pieces whole
    → AreEntries (named name (of_all aim)) number pieces entries
    → (Appends out out' (listing name entries) → ⊥) → ListsWhatWasPacked aim whole out out' → ⊥
no_other_listing_is_found aim whole out out' name number pieces entries list is are none lists =
    none (lists list name number pieces is entries are)

no_other_index_is_found : (aim : Aim) (whole : List ℕ) (out out' : Option (List ℕ))
    (name : Option (List ℕ)) (number : ℕ) (pieces : List MarkedPiece) → aim.mode ≡ modes.Index
    → IsPackOf name number pieces whole
    → ((text : List ℕ) → IsIndexOfSoundGames name number pieces text → ⊥)
    → IndexesWhatWasPacked aim whole out out' → ⊥
no_other_index_is_found aim whole out out' name number pieces index is none indexes =
    let found = indexes index name number pieces is in none found.0 found.1
