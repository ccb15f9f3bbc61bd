-- The names that several proofs cite, passed on from one place. Declares nothing.
pub use Rattle.chess.specs.Public.Moves.{IsLegal, after}
pub use Rattle.chess.specs.Public.Positions.{State}
pub use Rattle.chess.specs.Public.San.{IsSan}
pub use Rattle.chess.specs.Public.Start.{initial}
pub use Rattle.chess.specs.declared.board.man.Side.{Side}
pub use Rattle.chess.specs.declared.moves.Move.{Move}
pub use Rattle.pgn_criteria.proofs.MeetFacts.{meets_at}
pub use Rattle.pgn_criteria.specs.Public.ByMarks.{IsNextMet, NoneMeets, has_marks}
pub use Rattle.pgn_criteria.specs.Public.Conditions.{Conditions}
pub use Rattle.pgn_criteria.specs.Public.Meeting.{Heading, Meets, SomeHold, heading_of}
pub use Rattle.pgn_criteria.specs.Public.Prefilters.{MeetsSeen, NowhereSeen, codes_in}
pub use Rattle.pgn_criteria.specs.Public.Walks.{IsSightOf, Sight}
pub use Rattle.pgn_extract.specs.Private.Blockwise.{AddsMark, AddsPiece, AddsVerdict, Begins}
pub use Rattle.pgn_extract.specs.Private.Blockwise.{BeginsBlock, BeginsFirst, BreaksOff, Drops}
pub use Rattle.pgn_extract.specs.Private.Blockwise.{DropsSome, EndsBlocks, Gathers, GathersBlock}
pub use Rattle.pgn_extract.specs.Private.Blockwise.{IsMarkReport, IsMarkVerdict, IsPieceOf}
pub use Rattle.pgn_extract.specs.Private.Blockwise.{NamesBlockStop, Passes, Reports, StandsOver}
pub use Rattle.pgn_extract.specs.Private.Blockwise.{StopsIn, WritesBlock, by_itself, id_at}
pub use Rattle.pgn_extract.specs.Private.Blockwise.{lines_from, too_long_piece}
pub use Rattle.pgn_extract.specs.Private.EntryRows.{AreEntryRows, AreGameEntries, ArePieceEntries}
pub use Rattle.pgn_extract.specs.Private.Finding.{AddsEntries, AsksFor, IsOfGame}
pub use Rattle.pgn_extract.specs.Private.Finding.{StopsAtFault, named_mark}
pub use Rattle.pgn_extract.specs.Private.Lines.{Fails, GoesTo, HandsOn, HasFault, IsNeverMet}
pub use Rattle.pgn_extract.specs.Private.Lines.{MeetsHere, NoneAfter, NoneBefore, ShowsFields}
pub use Rattle.pgn_extract.specs.Private.Lines.{Stands, Where, aim_with, marked_lines, or_some}
pub use Rattle.pgn_extract.specs.Private.MarkLines.{AreMarksOf, IsBeforeLine, IsLineOf, IsWithin}
pub use Rattle.pgn_extract.specs.Private.MarkLines.{line_mark, pairs_of, rest_after}
pub use Rattle.pgn_extract.specs.Private.MarkOrder.{given_of}
pub use Rattle.pgn_extract.specs.Private.NoteTexts.{column_after, line_feeds, too_long_text}
pub use Rattle.pgn_extract.specs.Private.PackStops.{StopsAmongPacks, StopsAtPack}
pub use Rattle.pgn_extract.specs.Private.Packed.{EachOfRecord, HasNoText, IsOfRecord, NoneInRecord}
pub use Rattle.pgn_extract.specs.Private.Packed.{raw_id, record_aim}
pub use Rattle.pgn_extract.specs.Private.SearchSteps.{HasSearched}
pub use Rattle.pgn_extract.specs.Private.SeveralPacks.{SearchesPath, SearchesPaths}
pub use Rattle.pgn_extract.specs.Private.WalkedLines.{IsWalkedWith}
pub use Rattle.pgn_extract.specs.Public.Aims.{Aim, GameId, HasNoChance, IsEntry, IsMet, IsRuledOut}
pub use Rattle.pgn_extract.specs.Public.Aims.{IsWanted, aim_of}
pub use Rattle.pgn_extract.specs.Public.Choices.{IfChosen, id_of, is_among, is_chosen, is_mark_of}
pub use Rattle.pgn_extract.specs.Public.Exports.{AreExports, HasEntry, IsGameExport, IsPieceExport}
pub use Rattle.pgn_extract.specs.Public.Exports.{IsSelected, IsTextOf, IsWritten, as_it_stands}
pub use Rattle.pgn_extract.specs.Public.Exports.{faulty, faulty_text, line_with, lines_in, selected}
pub use Rattle.pgn_extract.specs.Public.Exports.{sound, unselected, written_lines}
pub use Rattle.pgn_extract.specs.Public.GameReports.{AreChosen, AreListed, IsFaultOf, IsReplayOf}
pub use Rattle.pgn_extract.specs.Public.GameReports.{cause_text, plies_of}
pub use Rattle.pgn_extract.specs.Public.GameReports.AreChosen.{keep, leave, none}
pub use Rattle.pgn_extract.specs.Public.GivenMarks.{game_id, mark_around}
pub use Rattle.pgn_extract.specs.Public.Index.{fault_text, index, index_line, mark, mark_line}
pub use Rattle.pgn_extract.specs.Public.Index.{shown_char, shown_name}
pub use Rattle.pgn_extract.specs.Public.Laws.{IsInOneOf, in_first, in_second, in_third}
pub use Rattle.pgn_extract.specs.Public.Listing.{AreEntries, AreFields, Ascend, Entry, IsEarlier}
pub use Rattle.pgn_extract.specs.Public.Listing.{IsCounted, IsFenField, IsGameOf, IsNextField}
pub use Rattle.pgn_extract.specs.Public.Listing.{IsNextMove}
pub use Rattle.pgn_extract.specs.Public.Listing.{IsPlyOfGame, entries_at_least, entry_line}
pub use Rattle.pgn_extract.specs.Public.Listing.{is_plain, listing}
pub use Rattle.pgn_extract.specs.Public.Notes.{AreLines, IsNote, NamesByte, NamesStop, indented}
pub use Rattle.pgn_extract.specs.Public.Outcomes.{AppendsFront, BeginsAll, Writes, WritesComplete}
pub use Rattle.pgn_extract.specs.Public.Requests.{Refusal, bad_mark, begin_of, end_of, first_line}
pub use Rattle.pgn_extract.specs.Public.Requests.{is_one_line, option_refusals, refused}
pub use Rattle.pgn_extract.specs.Public.Requests.{text_refusals}
pub use Rattle.pgn_extract.specs.Public.Resuming.{verdicts_at_least}
pub use Rattle.pgn_extract.specs.Public.Runs.{Adds, ArePieces, Completes, Io, IsBegun, Job, Lists}
pub use Rattle.pgn_extract.specs.Public.Runs.{Passage, Stops, Stream, job_of, passage}
pub use Rattle.pgn_extract.specs.Public.Searching.{AreGameRecords, ArePackLines, ArePieceRecords}
pub use Rattle.pgn_extract.specs.Public.Searching.{AreRecordLines, AreRecords, BeginsWithRecords}
pub use Rattle.pgn_extract.specs.Public.Searching.{HasNoGame, IndexesWhatWasPacked}
pub use Rattle.pgn_extract.specs.Public.Searching.{IsIndexOfSoundGames, IsOfNoGame, IsPackOf}
pub use Rattle.pgn_extract.specs.Public.Searching.{IsRecordListing, IsSoundPiece}
pub use Rattle.pgn_extract.specs.Public.Searching.{ListsWhatWasPacked, PacksAll, Searches}
pub use Rattle.pgn_extract.specs.Public.Searching.{StopsAtBytes, StopsAtLimit, StopsAtRead}
pub use Rattle.pgn_extract.specs.Public.Searching.{StopsSearch, StopsWithin, of_all}
pub use Rattle.pgn_extract.specs.Public.Several.{AreKnown, AreOfPaths, AtPath, BeginsPath, FileOf}
pub use Rattle.pgn_extract.specs.Public.Several.{IsOfPath, IsRead, IsRefused, IsReport}
pub use Rattle.pgn_extract.specs.Public.Several.{NamesUnopened, NoFile, Order, StopsAmong}
pub use Rattle.pgn_extract.specs.Public.Several.{StopsAtPath, Unknown, WritesPaths, is_no_file}
pub use Rattle.pgn_extract.specs.Public.Several.{name_at, order_at, own_summary, summary_text}
pub use Rattle.pgn_extract.specs.Public.Verdicts.{AreEntryLines, AreVerdicts, FaultyGame}
pub use Rattle.pgn_extract.specs.Public.Verdicts.{IsGameReported, IsGameVerdict, IsOutput}
pub use Rattle.pgn_extract.specs.Public.Verdicts.{IsPieceVerdict, IsReplayed}
pub use Rattle.pgn_extract.specs.Public.Verdicts.{IsReportedBy, IsSameReport, IsUnreadableVerdict}
pub use Rattle.pgn_extract.specs.Public.Verdicts.{IsVerdict, IsVerdictIn, SoundGame, Verdict}
pub use Rattle.pgn_extract.specs.Public.Verdicts.{fault_line_of, fault_lines, is_faulty, output_of}
pub use Rattle.pgn_extract.specs.Public.Verdicts.{output_text, replayed_lines, without_note}
pub use Rattle.pgn_extract.specs.declared.app.command.Request.{Request}
pub use Rattle.pgn_extract.specs.declared.app.packs.PackFailure.{PackFailure}
pub use Rattle.pgn_extract.specs.declared.engine.report.Report.{Report}
pub use Rattle.pgn_extract.specs.declared.explain.notes.Origin.{Origin}
pub use Rattle.pgn_extract.specs.declared.output.outcome.RunError.{RunError}
pub use Rattle.pgn_extract.specs.declared.output.outcome.RunError.TheVariants.{InputTooLong}
pub use Rattle.pgn_extract.specs.declared.output.outcome.RunError.TheVariants.{OutOfMemory, Read}
pub use Rattle.pgn_extract.specs.declared.output.outcome.RunError.TheVariants.{Write}
pub use Rattle.pgn_extract.specs.declared.output.outcome.Summary.{Summary}
pub use Rattle.pgn_extract.specs.declared.packed.searching.SearchError.{SearchError}
pub use Rattle.pgn_extract.specs.declared.packed.searching.SearchError.TheVariants.{BadPack}
pub use Rattle.pgn_extract.specs.declared.settings.Fields.{Fields}
pub use Rattle.pgn_extract.specs.declared.settings.Form.{Form}
pub use Rattle.pgn_extract.specs.declared.settings.Form.TheVariants.{AsItStands, Line, Record}
pub use Rattle.pgn_extract.specs.declared.settings.Form.TheVariants.{EachLine, FromEntry, Standard}
pub use Rattle.pgn_extract.specs.declared.settings.Form.TheVariants.{LineOfEach}
pub use Rattle.pgn_extract.specs.declared.settings.Mode.{Mode}
pub use Rattle.pgn_extract.specs.declared.settings.Select.{Select}
pub use Rattle.pgn_extract.specs.declared.settings.Select.TheVariants.{Faulty, Matching, Others}
pub use Rattle.pgn_game.proofs.Cells.{same_first, same_rest}
pub use Rattle.pgn_game.proofs.CodeLineFacts.{line_legal, line_positions}
pub use Rattle.pgn_game.proofs.HeadFacts.{head_shows}
pub use Rattle.pgn_game.proofs.OneReplay.{line_length, no_fault, one_replay, one_start}
pub use Rattle.pgn_game.proofs.OneReplay.{start_or_bad}
pub use Rattle.pgn_game.proofs.PackStreamFacts.{record_size}
pub use Rattle.pgn_game.proofs.PlainTokens.{AreDigits, decimal_digits}
pub use Rattle.pgn_game.specs.Public.CodeLines.{IsCodedLine, IsCodedReplay, positions_from}
pub use Rattle.pgn_game.specs.Public.Exports.{lines_with}
pub use Rattle.pgn_game.specs.Public.Faults.{AmbiguousMove, Fault, IllegalMove, IsFault}
pub use Rattle.pgn_game.specs.Public.MainLines.{IsMainLine, main_words}
pub use Rattle.pgn_game.specs.Public.PackReading.{RawRecord, raw_of}
pub use Rattle.pgn_game.specs.Public.PackStreams.{HasNoRecord}
pub use Rattle.pgn_game.specs.Public.PackedGames.{FitsRecord, IsPacked, IsRecordOf, PackedGame}
pub use Rattle.pgn_game.specs.Public.PackedGames.{pack_bytes, record_bytes}
pub use Rattle.pgn_game.specs.Public.PlyCodes.{AreCodes, AreMarks, PlyCode}
pub use Rattle.pgn_game.specs.Public.Replays.{IsReplay, Replay, fault_of}
pub use Rattle.pgn_game.specs.Public.Starts.{IsBadStart, IsStart, fen_tag}
pub use Rattle.pgn_game.specs.declared.exports.notation.Notation.TheVariants.{San, Uci}
pub use Rattle.pgn_game.specs.declared.exports.style.Style.{Style}
pub use Rattle.pgn_game.specs.declared.replays.replayer.Lines.{Lines}
pub use Rattle.pgn_game.specs.declared.replays.replayer.Lines.TheVariants.{All, Main}
pub use Rattle.pgn_text.proofs.BlockSizes.{turns}
pub use Rattle.pgn_text.proofs.FrontText.{front_of_text}
pub use Rattle.pgn_text.proofs.Joined.{reads_join}
pub use Rattle.pgn_text.proofs.MarkBounds.{mark_bounds}
pub use Rattle.pgn_text.proofs.MarkedPieces.{one_marked_pieces}
pub use Rattle.pgn_text.proofs.OneList.{no_bytes}
pub use Rattle.pgn_text.proofs.ResumedText.{not_nil, resumed_pieces}
pub use Rattle.pgn_text.specs.Public.Complete.{AreCompletePieces}
pub use Rattle.pgn_text.specs.Public.GameTexts.{GameText, IsGameText, ShowsGame, tag_in}
pub use Rattle.pgn_text.specs.Public.Games.{Item}
pub use Rattle.pgn_text.specs.Public.Left.{ArePiecesLeft, Left, piece_place}
pub use Rattle.pgn_text.specs.Public.LeftMarks.{mark_place}
pub use Rattle.pgn_text.specs.Public.Limits.{block_limit, depth_limit, largest_offset}
pub use Rattle.pgn_text.specs.Public.Marks.{AreMarkedPieces, AreOfBlock, AreOfBlocks, MarkedPiece}
pub use Rattle.pgn_text.specs.Public.Marks.{PieceKind, ReadableGame, TooLongBlock, UnreadableRest}
pub use Rattle.pgn_text.specs.Public.Marks.{marked, over, within}
pub use Rattle.pgn_text.specs.Public.Parts.{Part, spelled}
pub use Rattle.pgn_text.specs.Public.Pieces.{Game, Piece, Unreadable}
pub use Rattle.pgn_text.specs.Public.Tallies.{Reads}
pub use Rattle.pgn_text.specs.Public.Windows.{IsCutOff, Window}
pub use Rattle.pgn_text.specs.declared.game.pieces.PieceStart.{PieceStart}
pub use Rattle.pgn_text.specs.declared.io.blocks.ReadError.{ReadError}
pub use Rattle.std.proofs.Common.{Bool, Bor, Err, Global, IsTrue, List, None, Ok, Option, Some, Vec}
pub use Rattle.std.proofs.Common.{[], ap, append-nil, append_assoc, ap₂, arith, codes, cond}
pub use Rattle.std.proofs.Common.{count_by, decimal, drop, encode_utf8_all, false, get_or, inl, inr}
pub use Rattle.std.proofs.Common.{length, length-append, length-drop, length-take, map, nat_lt, not}
pub use Rattle.std.proofs.Common.{refl, rules, set, subst, suc, sym, take, true, zero, ℕ, ◌%◌, ◌&&◌}
pub use Rattle.std.proofs.Common.{◌*◌, ◌++◌, ◌+◌, ◌-◌, ◌/◌, ◌<◌, ◌==◌, ◌^◌, ◌||◌, ◌↔◌, ◌∙◌, ◌∷◌}
pub use Rattle.std.proofs.Common.{◌≡◌, ◌≢◌, ◌≤◌, ◌⊎◌}
pub use Rattle.std.proofs.Math.Seq.{take-append-add, take-length}
pub use Rattle.std.proofs.lemmas.Bool.{both_ways, cases_Bool, cases_lt, eqb-true}
pub use Rattle.std.proofs.lemmas.Bool.{false_from_ne_true, false≢true, or_from}
pub use Rattle.std.proofs.lemmas.Bool.Decides.{nat_tests}
pub use Rattle.std.proofs.lemmas.Fmt.{decimal_digit, decimal_step}
pub use Rattle.std.proofs.lemmas.List.{append_cancel_left, length-map, map-append, map_push}
pub use Rattle.std.proofs.lemmas.List.{take_all}
pub use Rattle.std.proofs.lemmas.List.Concat.{flat_map-append}
pub use Rattle.std.proofs.lemmas.List.Elements.{Contains-append_right}
pub use Rattle.std.proofs.lemmas.List.Folds.{list_any-append}
pub use Rattle.std.proofs.lemmas.Option.{IfSome_then, same_Some, slice_get-get_or, slice_get_within}
pub use Rattle.std.proofs.lemmas.Result.{IfErr-weaker, IfOk-weaker, MatchResult-weaker}
pub use Rattle.std.proofs.lemmas.Result.{err_from_is_err_and, on_ok_weaker}
pub use Rattle.std.specs.Io.Buffered.{reader_remaining}
pub use Rattle.std.specs.Io.KnownBytes.{Appends, Consumes, IsAtEnd, Keeps}
pub use Rattle.std.specs.List.{AllByRecursion, Contains, list_all, list_any, slice_get}
pub use Rattle.std.specs.Option.{option_map}
pub use Rattle.std.specs.Prelude.{IfErr, IfOk, IfSome, MatchOption, MatchResult, OnErr, Result}
pub use Rattle.std.specs.Prelude.{if◌then◌else◌, nat_le}
pub use Rattle.std.specs.declared.io.ErrorKind.{ErrorKind}
