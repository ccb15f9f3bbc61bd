-- The names that several proofs cite, passed on from one place. Declares nothing.
pub use Rattle.memchr.specs.Find.{IsFirstByte}
pub use Rattle.pgn_text.specs.Private.Cuts.{NoCutBefore, is_cut}
pub use Rattle.pgn_text.specs.Private.ErrorPosition.{WalkedTo, Walks}
pub use Rattle.pgn_text.specs.Private.Masks.{Sweeps, is_gap, is_move_sign, word_begins}
pub use Rattle.pgn_text.specs.Private.Movetext.{ArePlain, PlainTo, is_plain_kept, none}
pub use Rattle.pgn_text.specs.Private.PartFronts.{Ends, Follows, IsFrontOf, IsMoveFront}
pub use Rattle.pgn_text.specs.Private.PartFronts.{IsPartFront, IsResultFront, IsTagFront}
pub use Rattle.pgn_text.specs.Private.PartFronts.{IsWordFront, Longest, NoneFollows, front_length}
pub use Rattle.pgn_text.specs.Private.PartFronts.{is_glyph_front, no_byte}
pub use Rattle.pgn_text.specs.Private.Reading.{Kept, KeptClose, KeptComment, KeptDot, KeptGap}
pub use Rattle.pgn_text.specs.Private.Reading.{KeptMarks, KeptMove, KeptNumber, KeptOpen}
pub use Rattle.pgn_text.specs.Private.Reading.{KeptResult, KeptStray, KeptTag, brace_front}
pub use Rattle.pgn_text.specs.Private.Reading.{game_front, gap_front, glyph_front, is_glyph}
pub use Rattle.pgn_text.specs.Private.Reading.{is_kept_result, is_single, items_of_kept, kept}
pub use Rattle.pgn_text.specs.Private.Reading.{kept_found, kept_word, named_kept, part_front}
pub use Rattle.pgn_text.specs.Private.Reading.{rest_after, step_kept, tag_end, tag_front, tag_name}
pub use Rattle.pgn_text.specs.Private.Reading.{tag_string}
pub use Rattle.pgn_text.specs.Private.Searches.{FindsEnd, IsNextCut}
pub use Rattle.pgn_text.specs.Private.Steps.{Leads, State, in_movetext, start, step}
pub use Rattle.pgn_text.specs.Private.Tokens.{ContentsTo, RunTo, standing_view, state_of, test_of}
pub use Rattle.pgn_text.specs.Private.Tokens.{token_of}
pub use Rattle.pgn_text.specs.Private.Walk.{GameRead, GameTo, GapPartAt, GapTo, KeptAt}
pub use Rattle.pgn_text.specs.Private.Walk.{LongestGapTo, NoGapPartAt, NothingAt, PartAt}
pub use Rattle.pgn_text.specs.Public.Blocks.{AreBlocks, IsFirstBlock, event_line, is_event_line}
pub use Rattle.pgn_text.specs.Public.Bytes.{after_run, begins, ends_in_line_feed, is_byte}
pub use Rattle.pgn_text.specs.Public.Bytes.{is_check_sign, is_digit, is_empty, is_letter, is_mark}
pub use Rattle.pgn_text.specs.Public.Bytes.{is_name_byte, is_not_brace, is_not_line_feed, is_plain}
pub use Rattle.pgn_text.specs.Public.Bytes.{is_white, is_word_byte, run_of, stops}
pub use Rattle.pgn_text.specs.Public.Elements.{item_of, tag_of, tags_of}
pub use Rattle.pgn_text.specs.Public.GameTexts.{GameText, IsGameText, IsPaired, IsResult, ShowsGame}
pub use Rattle.pgn_text.specs.Public.GameTexts.{tag_in, tag_names}
pub use Rattle.pgn_text.specs.Public.Games.{EachFrom, IsGame, Item, MoveInLine, MoveText}
pub use Rattle.pgn_text.specs.Public.Games.{begins_outside_gap, depth_after, first_tag}
pub use Rattle.pgn_text.specs.Public.Games.{glyphs_of_marks, is_close, is_gap_part, is_meant}
pub use Rattle.pgn_text.specs.Public.Games.{is_move, is_move_text, is_number, is_open, is_result}
pub use Rattle.pgn_text.specs.Public.Games.{is_result_word, is_tag, is_zero_castling, items_of}
pub use Rattle.pgn_text.specs.Public.Games.{items_of_part, result_of}
pub use Rattle.pgn_text.specs.Public.Gaps.{IsGap, IsLongestGap}
pub use Rattle.pgn_text.specs.Public.Left.{ArePiecesLeft, GivesPiece, IsPiece, Left}
pub use Rattle.pgn_text.specs.Public.LeftMarks.{GivesMark, IsMark}
pub use Rattle.pgn_text.specs.Public.Limits.{block_limit, depth_limit, largest_offset}
pub use Rattle.pgn_text.specs.Public.Marks.{AreMarkedPieces, AreOfBlock, AreOfBlocks, MarkedPiece}
pub use Rattle.pgn_text.specs.Public.Marks.{ReadableGame, TooLongBlock, UnreadableRest, marked}
pub use Rattle.pgn_text.specs.Public.Marks.{over, within}
pub use Rattle.pgn_text.specs.Public.PartPlaces.{GivesElement, IsFirstTag, IsPlaceOf}
pub use Rattle.pgn_text.specs.Public.Parts.{AllStand, Brace, ByteOrderMark, Close, Dot, EscapeLine}
pub use Rattle.pgn_text.specs.Public.Parts.{Glyph, Line, Marks, Open, Part, Standing, Stands, Star}
pub use Rattle.pgn_text.specs.Public.Parts.{Tag, White, Word, number_from, number_of, spelled}
pub use Rattle.pgn_text.specs.Public.Parts.{spelled_part, standing_of}
pub use Rattle.pgn_text.specs.Public.Pieces.{ArePieces, Game, NoGame, Piece, Unreadable}
pub use Rattle.pgn_text.specs.Public.StopPlaces.{PartsThen, StandsWithin, is_before_movetext}
pub use Rattle.pgn_text.specs.Public.StopPlaces.{is_open_brace, is_open_bracket, is_quote}
pub use Rattle.pgn_text.specs.Public.Stops.{IsGameFront, IsLongestViablePrefix}
pub use Rattle.pgn_text.specs.Public.Strings.{Escaped, IsContents, Sign, Single, is_sign}
pub use Rattle.pgn_text.specs.Public.Strings.{spelled_sign, value_of_sign}
pub use Rattle.pgn_text.specs.Public.Tallies.{Reads}
pub use Rattle.pgn_text.specs.Public.Windows.{FailsAfter, IsCutOff, IsCutShort, IsPastEnd, Window}
pub use Rattle.pgn_text.specs.Shared.Lanes.{has_bit}
pub use Rattle.pgn_text.specs.Shared.StringTexts.{contents_front, with_byte}
pub use Rattle.pgn_text.specs.declared.error.error_position.InTag.TheVariants.{BeforeName}
pub use Rattle.pgn_text.specs.declared.error.error_position.Within.{Within}
pub use Rattle.pgn_text.specs.declared.error.error_position.Within.TheVariants.{Comment, MainLine}
pub use Rattle.pgn_text.specs.declared.error.error_position.Within.TheVariants.{TagName, TagValue}
pub use Rattle.pgn_text.specs.declared.error.error_position.Within.TheVariants.{Tags, Variation}
pub use Rattle.pgn_text.specs.declared.game.pieces.PieceStart.{PieceStart}
pub use Rattle.std.proofs.Common.{Bool, Bor, Err, IsTrue, List, MatchBool, None, Ok, [], ap}
pub use Rattle.std.proofs.Common.{append-nil, append_assoc, ap₂, arith, codes, cond, count_by, drop}
pub use Rattle.std.proofs.Common.{drop-drop, drop_at, false, get_or, inl, inr, length}
pub use Rattle.std.proofs.Common.{length-append, length-drop, map, nat_lt, not, refl, subst, suc}
pub use Rattle.std.proofs.Common.{sym, take, take_at, true, zero, ℕ, ◌++◌, ◌+◌, ◌-◌, ◌/◌, ◌<◌, ◌^◌}
pub use Rattle.std.proofs.Common.{◌||◌, ◌↔◌, ◌∙◌, ◌∷◌, ◌≡◌, ◌≢◌, ◌≤◌, ◌⊎◌}
pub use Rattle.std.proofs.Math.ListN.{drop_of_length-le}
pub use Rattle.std.proofs.Math.Seq.{take-add, take-append-add}
pub use Rattle.std.proofs.lemmas.Bool.{MatchBool-at_false, MatchBool-at_true, and_from, and_parts}
pub use Rattle.std.proofs.lemmas.Bool.{and_right, both_ways, cases_Bool, cases_eq, cases_lt}
pub use Rattle.std.proofs.lemmas.Bool.{cond_both, eq-eqb, eqb-true, false_from_ne_true, false≢true}
pub use Rattle.std.proofs.lemmas.Bool.{lt-ltb, ltb-true, ne_eqb, not-true, not_from_false, or_cases}
pub use Rattle.std.proofs.lemmas.Bool.{or_left, or_parts, or_right}
pub use Rattle.std.proofs.lemmas.Bool.Decides.{nat_tests}
pub use Rattle.std.proofs.lemmas.Cmp.{nat_list_cmp_total}
pub use Rattle.std.proofs.lemmas.List.{drop-append-le, drop_all, drop_more, get_or-append-add}
pub use Rattle.std.proofs.lemmas.List.{get_or-drop, length-take-le, map-append, nil_from_length}
pub use Rattle.std.proofs.lemmas.List.{take-append-drop, take-append-le, take_all, take_rest}
pub use Rattle.std.proofs.lemmas.List.Concat.{flat_map-append}
pub use Rattle.std.proofs.lemmas.List.Folds.{list_all-append}
pub use Rattle.std.proofs.lemmas.Map.Text.{is_eq-slice_cmp}
pub use Rattle.std.proofs.lemmas.Option.{cond_some}
pub use Rattle.std.proofs.lemmas.Simd.{zip2_splat}
pub use Rattle.std.specs.Cmp.Lexicographic.{slice_cmp}
pub use Rattle.std.specs.FinMap.{find}
pub use Rattle.std.specs.List.{AllByRecursion, list_all, list_any, starts_with}
pub use Rattle.std.specs.List.Sorted.{IsStrictlySortedBy}
pub use Rattle.std.specs.Option.{option_or}
pub use Rattle.std.specs.Ordering.{is_eq, nat_cmp}
pub use Rattle.std.specs.Prelude.{Option, Some, bytes_eq, flat_map, if◌then◌else◌, is_some, nat_eq}
pub use Rattle.std.specs.Prelude.{nat_le, option_and_then, option_map, ◌&&◌, ◌==◌}
pub use Rattle.std.specs.declared.alloc.AllocError.{AllocError}
pub use Rattle.std.specs.declared.cmp.Ordering.TheVariants.{Less}
pub use lib.Bits.{bit_or}
