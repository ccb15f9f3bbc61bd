-- The names that several proofs cite, passed on from one place. Declares nothing.
pub use Rattle.chess.proofs.FenOnce.{one_spelling}
pub use Rattle.chess.proofs.LegalSettled.{settled_check}
pub use Rattle.chess.proofs.OnBoard.{men_stay_on_board}
pub use Rattle.chess.proofs.RestFacts.{first_and_rest}
pub use Rattle.chess.proofs.SanOnce.{one_san}
pub use Rattle.chess.proofs.SanSettled.{some_san}
pub use Rattle.chess.proofs.StartFacts.{initial_kept}
pub use Rattle.chess.proofs.examples.StartText.{initial_fen}
pub use Rattle.chess.specs.Public.Fen.{IsFen, IsRefused}
pub use Rattle.chess.specs.Public.Letters.{kind_letter, square_text}
pub use Rattle.chess.specs.Public.Moves.{Goes, HasMove, IsLegal, IsPseudoLegal, after, arriving}
pub use Rattle.chess.specs.Public.Placements.{AreOnBoard, Placement, man_at}
pub use Rattle.chess.specs.Public.Positions.{IsCheck, IsSound, State, king_of, pawn_of}
pub use Rattle.chess.specs.Public.San.{IsCastlingText, IsNamed, IsOnlyNamed, promotion_text}
pub use Rattle.chess.specs.Public.Squares.{IsOnBoard, Place, index_of, square_at}
pub use Rattle.chess.specs.Public.Start.{initial}
pub use Rattle.chess.specs.Shared.SetFacts.{index_of-below, square_at-index_of}
pub use Rattle.chess.specs.Shared.SquareFacts.{index_of-square_at}
pub use Rattle.chess.specs.declared.board.man.Kind.{Kind}
pub use Rattle.chess.specs.declared.board.man.Kind.TheVariants.{Bishop, King, Knight, Pawn, Queen}
pub use Rattle.chess.specs.declared.board.man.Kind.TheVariants.{Rook}
pub use Rattle.chess.specs.declared.board.man.Man.{Man}
pub use Rattle.chess.specs.declared.board.man.Side.{Side}
pub use Rattle.chess.specs.declared.board.man.Side.TheVariants.{Black, White}
pub use Rattle.chess.specs.declared.board.man.Wing.{Wing}
pub use Rattle.chess.specs.declared.board.man.Wing.TheVariants.{KingSide, QueenSide}
pub use Rattle.chess.specs.declared.moves.Move.{Move}
pub use Rattle.pgn_game.specs.Private.CodeWords.{HasReplayed}
pub use Rattle.pgn_game.specs.Private.CommentWords.{HasLeft, IsAfterBare, IsFoundBare, after_front}
pub use Rattle.pgn_game.specs.Private.CommentWords.{after_white, closing, found_size, found_words}
pub use Rattle.pgn_game.specs.Private.CommentWords.{tied_words, word_front}
pub use Rattle.pgn_game.specs.Private.LineTexts.{AreWritten, HasPutSome, PutsElement}
pub use Rattle.pgn_game.specs.Private.LineWalks.{IsFlat, Leads, Runs, Stops, begun, first_level}
pub use Rattle.pgn_game.specs.Private.LineWalks.{gone_on, is_inside}
pub use Rattle.pgn_game.specs.Private.LineWrappers.{HasPut, added, after_tokens, column_after}
pub use Rattle.pgn_game.specs.Private.LineWrappers.{parted}
pub use Rattle.pgn_game.specs.Private.PackSteps.{HasBody, ReadsOn}
pub use Rattle.pgn_game.specs.Private.PackWords.{HasPutPlies}
pub use Rattle.pgn_game.specs.Private.RefusalWalks.{IsCounted, IsSearched}
pub use Rattle.pgn_game.specs.Private.Steps.{AreWithin, Beside, IsWithin, Step, StopsAt, Turned}
pub use Rattle.pgn_game.specs.Private.Steps.{Visits, Walks, WalksOn, around, shown_items}
pub use Rattle.pgn_game.specs.Private.Walks.{HasStepped, HasWalked, IsStuck, KeepsLine}
pub use Rattle.pgn_game.specs.Public.AllLines.{ArePlayed, IsPlayed, IsTurn, Line, LineEnd, SaysTurn}
pub use Rattle.pgn_game.specs.Public.AllLines.{ThenComment, ThenGlyph, ThenMove, ThenVariation}
pub use Rattle.pgn_game.specs.Public.AllLines.{after_turn, is_pass, own_words, spelled}
pub use Rattle.pgn_game.specs.Public.CodeLines.{AreLegalMoves, positions_from}
pub use Rattle.pgn_game.specs.Public.Comments.{begins_command, braced, closed, closes}
pub use Rattle.pgn_game.specs.Public.Comments.{comment_tokens, cut_at_white, has_bracket}
pub use Rattle.pgn_game.specs.Public.Comments.{is_written, outside, shown_tokens, without_commands}
pub use Rattle.pgn_game.specs.Public.Comments.{in_command, in_first, in_front, later_word}
pub use Rattle.pgn_game.specs.Public.Comments.{leaves_open, tied, ties, unbraced, words_in}
pub use Rattle.pgn_game.specs.Public.Exports.{AreMovetextTokens, AreTokens, IsTurnText, kept}
pub use Rattle.pgn_game.specs.Public.Exports.{lines_with, number_tokens, shows}
pub use Rattle.pgn_game.specs.Public.Faults.{AmbiguousMove, BadStart, Fault, HasLineFault}
pub use Rattle.pgn_game.specs.Public.Faults.{HaveFault, IllegalMove, IsFault, IsLineFault}
pub use Rattle.pgn_game.specs.Public.Faults.{IsMoveFault, IsRefusedTurn, IsRefusedWord, NamesNone}
pub use Rattle.pgn_game.specs.Public.Faults.{NamesSeveral, RefusesTurn}
pub use Rattle.pgn_game.specs.Public.GameLines.{AreMoveTexts, IsGameLine, IsMoveText, IsStartText}
pub use Rattle.pgn_game.specs.Public.GameLines.{as_fen, as_initial, promotion_letter, uci_text}
pub use Rattle.pgn_game.specs.Public.GameLines.{unspaced}
pub use Rattle.pgn_game.specs.Public.Laws.{IsMisread, IsReadAsOne}
pub use Rattle.pgn_game.specs.Public.MainLines.{IsMainLine, main_words}
pub use Rattle.pgn_game.specs.Public.Beginnings.{IsBeginning}
pub use Rattle.pgn_game.specs.Public.PackReading.{RawRecord, after_tags, and_then, body_at, follows}
pub use Rattle.pgn_game.specs.Public.PackReading.{name_at, next_tag, number_at, raw_of, record_at}
pub use Rattle.pgn_game.specs.Public.PackReading.{tag_at, text_at}
pub use Rattle.pgn_game.specs.Public.PackStreams.{HasNoRecord, PassesOn, Window}
pub use Rattle.pgn_game.specs.Public.PackedGames.{FitsRecord, FitsTag, IsPacked, PackedGame, Tag}
pub use Rattle.pgn_game.specs.Public.PackedGames.{body_bytes, body_size, head_of, is_origin}
pub use Rattle.pgn_game.specs.Public.PackedGames.{is_shown, largest_body, name_bytes, name_of}
pub use Rattle.pgn_game.specs.Public.PackedGames.{name_size, named_number, numbered_result}
pub use Rattle.pgn_game.specs.Public.PackedGames.{pack_bytes, record_bytes, result_number}
pub use Rattle.pgn_game.specs.Public.PackedGames.{tag_bytes, tags_size, tail_bytes, with_length}
pub use Rattle.pgn_game.specs.Public.PlayedLines.{HasEnded, PlayedLine}
pub use Rattle.pgn_game.specs.Public.PlyCodes.{AreCodes, AreMarks, FitsCode, IsCode, PlyCode, bit}
pub use Rattle.pgn_game.specs.Public.PlyCodes.{code_bytes, code_of, man_number, marks_number}
pub use Rattle.pgn_game.specs.Public.PlyCodes.{numbered_kind}
pub use Rattle.pgn_game.specs.Public.Refusals.{AreNamed, IsPlayedThere, IsReached, IsRefusedFrom}
pub use Rattle.pgn_game.specs.Public.Refusals.{IsWhy, LeadTo, after_move, in_its_place}
pub use Rattle.pgn_game.specs.Public.Refusals.{is_variation, main_line, played_items}
pub use Rattle.pgn_game.specs.Public.Replays.{AreTurns, IsReplay, IsSoundGame, Replay, fault_of}
pub use Rattle.pgn_game.specs.Public.Starts.{IsBadStart, IsStart, IsValueOf, fen_tag}
pub use Rattle.pgn_game.specs.Public.TagLines.{AreLinesOf, IsLineOf, IsTagText, escaped, is_beside}
pub use Rattle.pgn_game.specs.Public.TagLines.{missing_text, roster, tag_line, written_names}
pub use Rattle.pgn_game.specs.Public.TextLines.{AreLines, IsFull, IsLaid, IsLine, joined, text_of}
pub use Rattle.pgn_game.specs.Public.TextLines.{tokens_of}
pub use Rattle.pgn_game.specs.declared.explain.Refused.{Refused}
pub use Rattle.pgn_game.specs.declared.exports.line_wrapper.LineWrapper.{LineWrapper}
pub use Rattle.pgn_game.specs.declared.exports.movetext.MovetextWriter.{MovetextWriter}
pub use Rattle.pgn_game.specs.declared.exports.notation.Notation.{Notation}
pub use Rattle.pgn_game.specs.declared.exports.notation.Notation.TheVariants.{Uci}
pub use Rattle.pgn_game.specs.declared.exports.style.Commands.{Commands}
pub use Rattle.pgn_game.specs.declared.exports.style.Commands.TheVariants.{InWords, Whole, LeftOut}
pub use Rattle.pgn_game.specs.declared.exports.style.Style.{Style}
pub use Rattle.pgn_game.specs.declared.pack.error.RecordError.{RecordError}
pub use Rattle.pgn_game.specs.declared.pack.error.RecordError.TheVariants.{CutShort, NoOrigin}
pub use Rattle.pgn_game.specs.declared.pack.error.RecordError.TheVariants.{PartOfPly, TagOrder}
pub use Rattle.pgn_game.specs.declared.pack.error.RecordError.TheVariants.{TooLarge}
pub use Rattle.pgn_game.specs.declared.replays.line_stack.LineStack.{LineStack}
pub use Rattle.pgn_game.specs.declared.replays.main_line.MainWalk.{MainWalk}
pub use Rattle.pgn_game.specs.declared.replays.replayer.Lines.{Lines}
pub use Rattle.pgn_game.specs.declared.replays.replayer.Lines.TheVariants.{All, Main}
pub use Rattle.pgn_game.specs.declared.replays.walk.Level.{Level}
pub use Rattle.pgn_game.specs.declared.turns.fault.GameFault.{GameFault}
pub use Rattle.pgn_game.specs.declared.turns.line_move.LineMove.{LineMove}
pub use Rattle.pgn_game.specs.declared.turns.line_move.LineMove.TheVariants.{Passed, Played}
pub use Rattle.pgn_text.specs.Public.Blocks.{event_line}
pub use Rattle.pgn_text.specs.Public.Bytes.{begins, is_empty, is_white}
pub use Rattle.pgn_text.specs.Public.Elements.{item_of, tag_of}
pub use Rattle.pgn_text.specs.Public.GameTexts.{GameText, HoldStrings, IsPaired, IsResult, tag_in}
pub use Rattle.pgn_text.specs.Public.GameTexts.{tag_names}
pub use Rattle.pgn_text.specs.Public.Games.{CommentText, GlyphNumber, Item, MoveText}
pub use Rattle.pgn_text.specs.Public.Games.{VariationClose, VariationOpen}
pub use Rattle.pgn_text.specs.Public.Limits.{largest_offset}
pub use Rattle.pgn_text.specs.Public.Strings.{Escaped, IsContents, Sign, Single, value_of_sign}
pub use Rattle.pgn_text.specs.declared.game.Element.{Element}
pub use Rattle.std.proofs.Common.{Bool, Bor, Err, List, None, Ok, Option, Result, Some, [], ap}
pub use Rattle.std.proofs.Common.{append-nil, append_assoc, arith, cond, drop, false, get_or, inl}
pub use Rattle.std.proofs.Common.{inr, length, length-append, ltb, map, refl, rules, subst, suc}
pub use Rattle.std.proofs.Common.{sym, take, true, zero, ℕ, ◌%◌, ◌&&◌, ◌*◌, ◌++◌, ◌+◌, ◌-◌, ◌/◌}
pub use Rattle.std.proofs.Common.{◌<◌, ◌^◌, ◌↔◌, ◌∙◌, ◌∷◌, ◌≡◌, ◌≢◌, ◌≤◌, ◌⊎◌}
pub use Rattle.std.proofs.Math.ListN.{drop_of_length-le}
pub use Rattle.std.proofs.Math.Seq.{take-append_seam}
pub use Rattle.std.proofs.lemmas.Bool.{and_parts, eqb-true, false≢true, le-ltb, ltb-false}
pub use Rattle.std.proofs.lemmas.Bool.Decides.{nat_tests}
pub use Rattle.std.proofs.lemmas.Grind.{common_steps}
pub use Rattle.std.proofs.lemmas.List.{drop_at, length-map, length-take, map-append}
pub use Rattle.std.proofs.lemmas.List.{take-append-drop, take_all, take_at, take_more}
pub use Rattle.std.proofs.lemmas.List.Concat.{flat_map-cons}
pub use Rattle.std.proofs.lemmas.Map.Iter.{iter_end}
pub use Rattle.std.proofs.lemmas.Option.{IfSome_then, none-some, same_Some, slice_get-map}
pub use Rattle.std.proofs.lemmas.Result.{IfErr-weaker, MatchResult-weaker, err_from_is_err_and}
pub use Rattle.std.proofs.lemmas.Result.{on_ok_weaker}
pub use Rattle.std.proofs.lemmas.Slice.Eq.{bytes_eq-Decides}
pub use Rattle.std.specs.Cmp.Lexicographic.{slice_cmp}
pub use Rattle.std.specs.Int.{from_be_bytes, to_be_bytes, w32, w64}
pub use Rattle.std.specs.List.{AllByRecursion, flat_map, list_all, slice_get}
pub use Rattle.std.specs.List.Sorted.{IsStrictlySortedBy}
pub use Rattle.std.specs.Map.Iter.{deref_pair}
pub use Rattle.std.specs.Ordering.{nat_cmp}
pub use Rattle.std.specs.Prelude.{IfSome, MatchResult, OnOk, bytes_eq, codes, decimal, filter}
pub use Rattle.std.specs.Prelude.{if◌then◌else◌, is_some, not, option_map, slice_index_or, ◌==◌}
pub use Rattle.std.specs.Prelude.{◌||◌}
pub use Rattle.std.specs.declared.cmp.Ordering.TheVariants.{Equal, Greater, Less}
