-- The names that several proofs cite, passed on from one place. Declares nothing.
pub use Rattle.chess.proofs.FieldFacts.{parted_after, parted_by_run, run_whole}
pub use Rattle.chess.proofs.PlaceFacts.{opposite-opposite, same_square-then}
pub use Rattle.chess.proofs.RestFacts.{first_and_rest, front_taken, no_bytes, no_length}
pub use Rattle.chess.proofs.RestFacts.{rest_within}
pub use Rattle.chess.proofs.Searches.{cases_side}
pub use Rattle.chess.proofs.Settled.{Settled, cases_bytes, settled_both, settled_either}
pub use Rattle.chess.proofs.Settled.{settled_held, settled_le, settled_like, settled_not}
pub use Rattle.chess.proofs.Settled.{settled_true}
pub use Rattle.chess.specs.Public.Fen.{IsSquares, before_first, has_byte, is_digit, letter}
pub use Rattle.chess.specs.Public.Fen.{number_from, parted_at, row, step}
pub use Rattle.chess.specs.Public.Letters.{file_letter, is_check_sign, kind_letter, man_letter}
pub use Rattle.chess.specs.Public.Letters.{rank_digit}
pub use Rattle.chess.specs.Public.Moves.{HasMove, IsLegal}
pub use Rattle.chess.specs.Public.Placements.{AreOnBoard, Placement, man_at, opposite, with_man}
pub use Rattle.chess.specs.Public.Positions.{IsCheck, State, king_of, rook_from, rook_to}
pub use Rattle.chess.specs.Public.San.{IsSan}
pub use Rattle.chess.specs.Public.Sets.{IsSquaresOf, Places, is_in}
pub use Rattle.chess.specs.Public.Squares.{IsOnBoard, Place, same_square, square_at}
pub use Rattle.chess.specs.Shared.CellFacts.{on_board_or_not}
pub use Rattle.chess.specs.Shared.SetFacts.{is_in-empty, square_at-index_of}
pub use Rattle.chess.specs.declared.board.man.Kind.{Kind}
pub use Rattle.chess.specs.declared.board.man.Kind.TheVariants.{Bishop, King, Knight, Pawn, Queen}
pub use Rattle.chess.specs.declared.board.man.Kind.TheVariants.{Rook}
pub use Rattle.chess.specs.declared.board.man.Man.{Man}
pub use Rattle.chess.specs.declared.board.man.Side.{Side}
pub use Rattle.chess.specs.declared.board.man.Side.TheVariants.{Black, White}
pub use Rattle.chess.specs.declared.board.man.Wing.{Wing}
pub use Rattle.chess.specs.declared.board.man.Wing.TheVariants.{KingSide}
pub use Rattle.pgn_criteria.specs.Private.DateEnds.{year_text}
pub use Rattle.pgn_criteria.specs.Private.Items.{AreItems, EachOf, Ends, Fits, Goes, HasNoItem}
pub use Rattle.pgn_criteria.specs.Private.Items.{IsAfter, IsItem, IsNextItem, IsOf, Reads, has_man}
pub use Rattle.pgn_criteria.specs.Private.Items.{is_letter, item_of, items_of, men_in}
pub use Rattle.pgn_criteria.specs.Private.Layouts.{AllStand, AreEmpty, EachFrom, Laid, Lays, NoneOf}
pub use Rattle.pgn_criteria.specs.Private.Marks.{AreMarksOf, FitsSeen, LacksMarks, Needs}
pub use Rattle.pgn_criteria.specs.Private.Marks.{SaysOfNumbers}
pub use Rattle.pgn_criteria.specs.Private.Numbers.{number_after}
pub use Rattle.pgn_criteria.specs.Private.Planning.{AllEither, AreSound, AreSoundWays, NoneLaid}
pub use Rattle.pgn_criteria.specs.Private.Planning.{Plans}
pub use Rattle.pgn_criteria.specs.Private.PrefilterTests.{AreTaken, FitsPlaced, FitsPrefilter}
pub use Rattle.pgn_criteria.specs.Private.PrefilterTests.{IsPrefilterOf, IsPut, Nowhere, StaysOn}
pub use Rattle.pgn_criteria.specs.Private.Reading.{AreEntries, ReadsWord, after_blanks, after_run}
pub use Rattle.pgn_criteria.specs.Private.Reading.{after_word, core_of, first_limit, joined}
pub use Rattle.pgn_criteria.specs.Private.Reading.{limit_after, run_of, with_open}
pub use Rattle.pgn_criteria.specs.Private.Records.{heading_of_raw}
pub use Rattle.pgn_criteria.specs.Private.Stages.{AllAskWithin, AllClaims, AllGood, AllOfHeading}
pub use Rattle.pgn_criteria.specs.Private.Stages.{AllOfPatterns, AllOfSeen, AllOfStage, AllSaid}
pub use Rattle.pgn_criteria.specs.Private.Stages.{AreFixed, AreFreeOfMoves, AreGood, AreLegal}
pub use Rattle.pgn_criteria.specs.Private.Stages.{AreMirrored, AreNoCounts, ArePatterns, AsksWithin}
pub use Rattle.pgn_criteria.specs.Private.Stages.{EachAsksWithin, EachOfSeen, FitsAbout, FitsAt}
pub use Rattle.pgn_criteria.specs.Private.Stages.{IsFirstBefore, IsFreeOfMoves, IsGood, IsRun}
pub use Rattle.pgn_criteria.specs.Private.Stages.{OfSeen, SaysOfSeen, SpansStand, condition_seen}
pub use Rattle.pgn_criteria.specs.Private.Stages.{game_seen, move_seen, on_plies, on_positions}
pub use Rattle.pgn_criteria.specs.Private.Stages.{position_seen}
pub use Rattle.pgn_criteria.specs.Private.Stages.{seen, stage_of, stated}
pub use Rattle.pgn_criteria.specs.Private.Turning.{men_from, other_letter, turned}
pub use Rattle.pgn_criteria.specs.Public.ByMarks.{IsNextMet, NoneMeets, first_place, has_marks}
pub use Rattle.pgn_criteria.specs.Public.ByMarks.{place_of_marks}
pub use Rattle.pgn_criteria.specs.Public.Comparing.{Allows, Compares, IsNumber, Stands, number_in}
pub use Rattle.pgn_criteria.specs.Public.Comparing.{order_of}
pub use Rattle.pgn_criteria.specs.Public.Conditions.{Conditions, no_conditions, with_condition}
pub use Rattle.pgn_criteria.specs.Public.Dates.{IsDate, IsWithin, MayBe, MayWrite, StandSurely}
pub use Rattle.pgn_criteria.specs.Public.Dates.{StandsFor, StandsTo, first_of, last_of, number_of}
pub use Rattle.pgn_criteria.specs.Public.Lines.{AreBlanks, AreLines, AreMoveWords, AreNames}
pub use Rattle.pgn_criteria.specs.Public.Lines.{CanBeCompared, IsFirstBad, IsLimitIn, IsLine}
pub use Rattle.pgn_criteria.specs.Public.Lines.{IsMoveLike, IsMoveWord, Spells, SpellsCondition}
pub use Rattle.pgn_criteria.specs.Public.Lines.{SpellsCount, SpellsCriteria, SpellsDays}
pub use Rattle.pgn_criteria.specs.Public.Lines.{SpellsDigits, SpellsGame, SpellsLimits, SpellsMove}
pub use Rattle.pgn_criteria.specs.Public.Lines.{SpellsNamed, SpellsPosition, SpellsSpan, SpellsTag}
pub use Rattle.pgn_criteria.specs.Public.Lines.{SpellsTaken, SpellsTurned, a_word, alternatives_of}
pub use Rattle.pgn_criteria.specs.Public.Lines.{and_words, comparison_text, is_move_byte}
pub use Rattle.pgn_criteria.specs.Public.Lines.{onto_first, relation_text, side_text}
pub use Rattle.pgn_criteria.specs.Public.Materials.{FitsMaterial, FitsSide, count_of, is_man}
pub use Rattle.pgn_criteria.specs.Public.Materials.{limit_of}
pub use Rattle.pgn_criteria.specs.Public.Meeting.{AllHold, AllTaken, AreAll, AreMet, Ascend}
pub use Rattle.pgn_criteria.specs.Public.Meeting.{EachHold, HasOneOf, Heading, Holds, HoldsThere}
pub use Rattle.pgn_criteria.specs.Public.Meeting.{IsAmong, IsFirst, IsMetBy, IsSoAt, IsSoOfGame}
pub use Rattle.pgn_criteria.specs.Public.Meeting.{IsSoOfMoves, Meets, PositionsHold, SomeHold}
pub use Rattle.pgn_criteria.specs.Public.Meeting.{SpanHolds, SpansHold, Taken, heading_of}
pub use Rattle.pgn_criteria.specs.Public.Meeting.{is_turned}
pub use Rattle.pgn_criteria.specs.Public.Mirrors.{FitsEitherWay, across, beside, can_be_mirrored}
pub use Rattle.pgn_criteria.specs.Public.Mirrors.{flipped_men, mirror, mirrored_men, other_man}
pub use Rattle.pgn_criteria.specs.Public.MoveTexts.{FitMoves, FitsMove, FitsWord, GoesOnBy, IsLike}
pub use Rattle.pgn_criteria.specs.Public.MoveTexts.{IsReachedBy, without_check_signs}
pub use Rattle.pgn_criteria.specs.Public.Patterns.{AreMen, AreRanks, CanBeSplit, FitRanks}
pub use Rattle.pgn_criteria.specs.Public.Patterns.{FitsPattern, IsPattern, IsStretch, items_where}
pub use Rattle.pgn_criteria.specs.Public.Patterns.IsStretch.{among, any, black, many, occupied}
pub use Rattle.pgn_criteria.specs.Public.Patterns.IsStretch.{other, spelled, white}
pub use Rattle.pgn_criteria.specs.Public.Prefilters.{MeetsSeen, NowhereSeen, codes_in}
pub use Rattle.pgn_criteria.specs.Public.Walks.{IsSeenOf}
pub use Rattle.pgn_criteria.specs.Public.Words.{is_blank, words_of}
pub use Rattle.pgn_criteria.specs.declared.compare.Comparison.{Comparison}
pub use Rattle.pgn_criteria.specs.declared.compare.Comparison.TheVariants.{Equal, Greater}
pub use Rattle.pgn_criteria.specs.declared.compare.Comparison.TheVariants.{GreaterOrEqual, Less}
pub use Rattle.pgn_criteria.specs.declared.compare.Comparison.TheVariants.{LessOrEqual, Unequal}
pub use Rattle.pgn_criteria.specs.declared.compare.Relation.{Relation}
pub use Rattle.pgn_criteria.specs.declared.compare.Relation.TheVariants.{Begins, Has}
pub use Rattle.pgn_criteria.specs.declared.condition.Condition.{Condition}
pub use Rattle.pgn_criteria.specs.declared.condition.Condition.TheVariants.{Game, Move, Position}
pub use Rattle.pgn_criteria.specs.declared.condition.Condition.TheVariants.{Span}
pub use Rattle.pgn_criteria.specs.declared.condition.GameClaim.{GameClaim}
pub use Rattle.pgn_criteria.specs.declared.condition.GameClaim.TheVariants.{Moves, Plies, Result}
pub use Rattle.pgn_criteria.specs.declared.condition.GameClaim.TheVariants.{Tag}
pub use Rattle.pgn_criteria.specs.declared.condition.MoveClaim.{MoveClaim}
pub use Rattle.pgn_criteria.specs.declared.condition.MoveClaim.TheVariants.{Next, Played, Setup}
pub use Rattle.pgn_criteria.specs.declared.condition.PositionClaim.{PositionClaim}
pub use Rattle.pgn_criteria.specs.declared.condition.PositionClaim.TheVariants.{Check, Fen, Flip}
pub use Rattle.pgn_criteria.specs.declared.condition.PositionClaim.TheVariants.{Mate, Material}
pub use Rattle.pgn_criteria.specs.declared.condition.PositionClaim.TheVariants.{Stalemate, Turn}
pub use Rattle.pgn_criteria.specs.declared.condition.PositionCondition.{PositionCondition}
pub use Rattle.pgn_criteria.specs.declared.condition.SpanClaim.{SpanClaim}
pub use Rattle.pgn_criteria.specs.declared.condition.SpanClaim.TheVariants.{Count, For}
pub use Rattle.pgn_criteria.specs.declared.condition.Stated.{Stated}
pub use Rattle.pgn_criteria.specs.declared.condition.ValueClaim.{ValueClaim}
pub use Rattle.pgn_criteria.specs.declared.condition.ValueClaim.TheVariants.{Date, Number, Text}
pub use Rattle.pgn_criteria.specs.declared.dates.Day.{Day}
pub use Rattle.pgn_criteria.specs.declared.dates.Days.{Days}
pub use Rattle.pgn_criteria.specs.declared.layout.Asked.{Asked}
pub use Rattle.pgn_criteria.specs.declared.layout.Layout.{Layout}
pub use Rattle.pgn_criteria.specs.declared.line.Meaning.{Meaning}
pub use Rattle.pgn_criteria.specs.declared.line.Meaning.TheVariants.{Asks, Nothing, Or}
pub use Rattle.pgn_criteria.specs.declared.material.Limit.{Limit}
pub use Rattle.pgn_criteria.specs.declared.material.Limit.TheVariants.{AnyNumber, AtLeast, AtMost}
pub use Rattle.pgn_criteria.specs.declared.material.Limit.TheVariants.{Exactly}
pub use Rattle.pgn_criteria.specs.declared.material.Limits.{Limits}
pub use Rattle.pgn_criteria.specs.declared.meets.Stage.TheVariants.{Squares}
pub use Rattle.pgn_criteria.specs.declared.plan.Plan.{Plan}
pub use Rattle.pgn_criteria.specs.declared.plan.Ways.{Ways}
pub use Rattle.pgn_criteria.specs.declared.prefilter.StandingSquares.{StandingSquares}
pub use Rattle.pgn_criteria.specs.declared.rank.Item.{Item}
pub use Rattle.pgn_criteria.specs.declared.rank.Item.TheVariants.{Many, Run}
pub use Rattle.pgn_criteria.specs.declared.rank.SquareTest.{SquareTest}
pub use Rattle.pgn_criteria.specs.declared.rank.SquareTest.TheVariants.{Among, Any, Empty, Not}
pub use Rattle.pgn_criteria.specs.declared.rank.SquareTest.TheVariants.{Occupied, Of, Other, This}
pub use Rattle.pgn_game.proofs.Cells.{same_first}
pub use Rattle.pgn_game.proofs.PlyCodeFacts.{code_fits}
pub use Rattle.pgn_game.specs.Public.PlyCodes.{AreMarks, PlyCode, code_of, moved, numbered_man}
pub use Rattle.pgn_game.specs.Public.Replays.{IsSomeReplay, Replay}
pub use Rattle.pgn_game.specs.Public.Starts.{fen_tag}
pub use Rattle.pgn_text.proofs.Values.{has_value, one_value}
pub use Rattle.pgn_text.specs.Public.GameTexts.{IsResult, tag_in}
pub use Rattle.pgn_text.specs.Public.Strings.{Escaped, IsContents, Sign, Single, spelled_sign}
pub use Rattle.pgn_text.specs.Shared.StringTexts.{value_of}
pub use Rattle.std.proofs.Common.{Bool, Global, IsTrue, List, None, Option, Some, Vec, [], ap}
pub use Rattle.std.proofs.Common.{append-nil, append_assoc, arith, bit_or, drop, false, get_or, inl}
pub use Rattle.std.proofs.Common.{inr, length, length-append, length-drop, map, max, not, refl}
pub use Rattle.std.proofs.Common.{reverse, rules, subst, suc, sym, take, true, zero, ℕ, ◌%◌, ◌*◌}
pub use Rattle.std.proofs.Common.{◌++◌, ◌+◌, ◌-◌, ◌/◌, ◌<◌, ◌^◌, ◌↔◌, ◌∙◌, ◌∷◌, ◌≡◌, ◌≢◌, ◌≤◌, ◌⊎◌}
pub use Rattle.std.proofs.Math.Seq.{drop-append_seam, drop-cons, drop-length, take-length}
pub use Rattle.std.proofs.lemmas.Bool.{and_from, and_parts, and_right, cases_eq, cases_lt, eq-eqb}
pub use Rattle.std.proofs.lemmas.Bool.{eqb-true, false≢true, not-true}
pub use Rattle.std.proofs.lemmas.Bool.Decides.{nat_tests}
pub use Rattle.std.proofs.lemmas.List.{append_cancel_right, drop-drop, get_or-drop, map-append}
pub use Rattle.std.proofs.lemmas.List.{nil_from_length, take-append-drop, take_all}
pub use Rattle.std.proofs.lemmas.List.Folds.{list_all-append}
pub use Rattle.std.proofs.lemmas.List.Sums.{sum_by-append}
pub use Rattle.std.proofs.lemmas.Nat.Bits.{bit_at-lt, bit_at-zero, bit_at_or}
pub use Rattle.std.proofs.lemmas.Option.{same_Some, slice_get_within}
pub use Rattle.std.proofs.lemmas.Result.{IfOk-weaker}
pub use Rattle.std.specs.Cmp.Lexicographic.{same_text}
pub use Rattle.std.specs.Int.{bit_at}
pub use Rattle.std.specs.List.{AllByRecursion, list_all, slice_get}
pub use Rattle.std.specs.Option.{unwrap_or}
pub use Rattle.std.specs.Prelude.{IfOk, IfSome, MatchOption, codes, count_by, flat_map}
pub use Rattle.std.specs.Prelude.{if◌then◌else◌, nat_le, option_map, replicate, slice_index_or}
pub use Rattle.std.specs.Prelude.{◌&&◌, ◌==◌, ◌||◌}
