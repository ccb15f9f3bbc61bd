-- The names that several proofs cite, passed on from one place. Declares nothing.
pub use Rattle.chess.specs.Private.Bitboards.{AreApart, AreLeft, IsAttackedBy, IsAttackedDiagonal}
pub use Rattle.chess.specs.Private.Bitboards.{IsAttackedStraight, IsBitSet, IsCleared}
pub use Rattle.chess.specs.Private.Bitboards.{IsMan, IsNextBitboard, IsRunner, IsSlid}
pub use Rattle.chess.specs.Private.Bitboards.{beside_bitboard, bitboard_at, man_in, man_of_row}
pub use Rattle.chess.specs.Private.Bitboards.{pseudo_attacks_row_of, square_bitboard}
pub use Rattle.chess.specs.Private.Bitboards.{step_bitboard, upright_bitboard, words_men}
pub use Rattle.chess.specs.Private.Cells.{cell_of, cells_men}
pub use Rattle.chess.specs.Private.FenTextWords.{AreLetters, each_after, letter_on, rank_texts}
pub use Rattle.chess.specs.Private.FenTextWords.{spelled_from}
pub use Rattle.chess.specs.Private.FenWords.{IsEdgePawn, IsPutUpTo, IsRow}
pub use Rattle.chess.specs.Private.MoveWords.{CanLeave, CanStepOver, HasEach, IsLeft, IsMover}
pub use Rattle.chess.specs.Private.MoveWords.{IsSifted, IsSquareAhead, IsStepper, IsTaker}
pub use Rattle.chess.specs.Private.PseudoAttacks.{IsInLine, IsPseudoAttack, IsUnblocked}
pub use Rattle.chess.specs.Private.PseudoAttacks.{StandsBetween}
pub use Rattle.chess.specs.Private.SanTextWords.{AreRivalsSifted}
pub use Rattle.chess.specs.Private.SanWords.{CanGoSaid, IsCandidate, IsCastlingOn, IsMoveSaid}
pub use Rattle.chess.specs.Private.SanWords.{IsReadSaid, after_file, after_letter, after_rank}
pub use Rattle.chess.specs.Private.SanWords.{after_sign, after_target_rank, before_equals}
pub use Rattle.chess.specs.Private.SanWords.{before_last, castling_on, is_of, kind_given, kind_of}
pub use Rattle.chess.specs.Private.SanWords.{last_of, man_said, move_from, number_given, said_by}
pub use Rattle.chess.specs.Private.SanWords.{stem, unmarked}
pub use Rattle.chess.specs.Public.Attacks.{IsAttacked, IsClearFor, IsForward, IsJump, IsNear}
pub use Rattle.chess.specs.Public.Attacks.{IsOnRay, IsPawnAttack, Reaches}
pub use Rattle.chess.specs.Public.Fen.{AreAtHome, GiveCounts, GivesEnPassant, GivesRights}
pub use Rattle.chess.specs.Public.Fen.{HasWrongCheck, HasWrongKings, HasWrongPawns, IsCount, IsFen}
pub use Rattle.chess.specs.Public.Fen.{IsSquares, ReadsFen, SpellRanks, SpellsMen, SpellsPosition}
pub use Rattle.chess.specs.Public.Fen.{SpellsRank, before_first, en_passant_text, fields_of}
pub use Rattle.chess.specs.Public.Fen.{has_byte, is_digit, is_distinct, is_right_letter}
pub use Rattle.chess.specs.Public.Fen.{is_shortest, is_step, joined, number_from, or_dash}
pub use Rattle.chess.specs.Public.Fen.{parted_at, right_letter, rights_letters, row, side_text}
pub use Rattle.chess.specs.Public.Fen.{without_empty}
pub use Rattle.chess.specs.Public.Fen.IsSquares.{letter, step}
pub use Rattle.chess.specs.Public.Letters.{file_letter, is_check_sign, is_sign, kind_letter}
pub use Rattle.chess.specs.Public.Letters.{man_letter, rank_digit, square_text}
pub use Rattle.chess.specs.Public.Moves.{CanGo, Castles, Goes, HasMove, IsBetween, IsDoubleStep}
pub use Rattle.chess.specs.Public.Moves.{IsKingMove, IsLegal, IsPawnCapture, IsPawnMove}
pub use Rattle.chess.specs.Public.Moves.{IsPromotion, IsPromotionKind, IsPseudoLegal, IsSingleStep}
pub use Rattle.chess.specs.Public.Moves.{IsStalemate, IsUnbarred, Promotes, after, arriving}
pub use Rattle.chess.specs.Public.Moves.{capture_square, is_en_passant, is_pawn, is_square}
pub use Rattle.chess.specs.Public.Moves.{keeps_right, men_after, rights_after, with_rook}
pub use Rattle.chess.specs.Public.Placements.{AreOnBoard, IsEmpty, IsOccupiedBy, Placement}
pub use Rattle.chess.specs.Public.Placements.{first_men, man_at, men_of, no_men, number_of_side}
pub use Rattle.chess.specs.Public.Placements.{opposite, row_of, with_man}
pub use Rattle.chess.specs.Public.Positions.{FitsEnPassant, IsCheck, IsOnlyKing, IsSound, State}
pub use Rattle.chess.specs.Public.Positions.{has_right, home_rank, king_from, king_of, king_to}
pub use Rattle.chess.specs.Public.Positions.{passed_rank, pawn_of, pawn_rank, rook_from, rook_of}
pub use Rattle.chess.specs.Public.Positions.{rook_to}
pub use Rattle.chess.specs.Public.Refusals.{CanGoAs, IsFrom, IsRefusal, IsSpokenOf, becoming}
pub use Rattle.chess.specs.Public.San.{Agrees, HasRival, IsBody, IsCastlingText, IsCheckSign}
pub use Rattle.chess.specs.Public.San.{IsDisambiguation, IsFileOrRank, IsNamed, IsOnlyNamed}
pub use Rattle.chess.specs.Public.San.{IsPieceText, IsRival, IsSan, Said, Spells, capture_text}
pub use Rattle.chess.specs.Public.San.{castling_text, castling_with_zeros, file_text, is_capture}
pub use Rattle.chess.specs.Public.San.{kind_said, letter_text, pawn_text, promotion_text, rank_text}
pub use Rattle.chess.specs.Public.San.IsCheckSign.{check, mate, quiet}
pub use Rattle.chess.specs.Public.San.IsDisambiguation.{alone, by_both, by_file, by_rank}
pub use Rattle.chess.specs.Public.Sets.{HoldsExactly, IsAttacker, IsBitboardOf, IsSquaresOf}
pub use Rattle.chess.specs.Public.Sets.{IsTakenFirst}
pub use Rattle.chess.specs.Public.Sets.{Places, has_bit, is_in, no_places, size_of}
pub use Rattle.chess.specs.Public.Squares.{IsAhead, IsOnBoard, IsStraight, Place, gap, index_of}
pub use Rattle.chess.specs.Public.Squares.{place_cmp, same_square, square_at}
pub use Rattle.chess.specs.Public.Start.{IsInitialMen, initial, initial_man, initial_men}
pub use Rattle.chess.specs.Public.Start.{initial_piece}
pub use Rattle.chess.specs.Shared.CellFacts.{man_at-men_of, man_at-other, man_at-same, men_of-none}
pub use Rattle.chess.specs.Shared.CellFacts.{men_of-put, no_cell, on_board-men_of, on_board_or_not}
pub use Rattle.chess.specs.Shared.CellFacts.{same_men}
pub use Rattle.chess.specs.Shared.Codes.{IsKept}
pub use Rattle.chess.specs.Shared.Runs.{after_all, after_run, run_of}
pub use Rattle.chess.specs.Shared.SetBitboards.{HasOnly, places_of}
pub use Rattle.chess.specs.Shared.SetFacts.{and_false, empty_bitboard, false_of, index_of-below}
pub use Rattle.chess.specs.Shared.SetFacts.{is_in-empty, is_in-places_of, on_board-places_of}
pub use Rattle.chess.specs.Shared.SetFacts.{on_board-square_at, square_at-index_of}
pub use Rattle.chess.specs.Shared.SquareFacts.{index_of-square_at}
pub use Rattle.chess.specs.Shared.Tens.{IsCounted}
pub use Rattle.chess.specs.declared.board.attack_tables.pseudo_attacks_table.TheConstants.{PSEUDO_ATTACKS}
pub use Rattle.chess.specs.declared.board.direction.Direction.{Direction}
pub use Rattle.chess.specs.declared.board.direction.Direction.TheVariants.{East, North, NorthEast}
pub use Rattle.chess.specs.declared.board.direction.Direction.TheVariants.{NorthWest, South}
pub use Rattle.chess.specs.declared.board.direction.Direction.TheVariants.{SouthEast, SouthWest}
pub use Rattle.chess.specs.declared.board.direction.Direction.TheVariants.{West}
pub use Rattle.chess.specs.declared.board.man.CastlingRights.{CastlingRights}
pub use Rattle.chess.specs.declared.board.man.Kind.{Kind}
pub use Rattle.chess.specs.declared.board.man.Kind.TheVariants.{Bishop, King, Knight, Pawn, Queen}
pub use Rattle.chess.specs.declared.board.man.Kind.TheVariants.{Rook}
pub use Rattle.chess.specs.declared.board.man.Man.{Man}
pub use Rattle.chess.specs.declared.board.man.Side.{Side}
pub use Rattle.chess.specs.declared.board.man.Side.TheVariants.{Black, White}
pub use Rattle.chess.specs.declared.board.man.Wing.{Wing}
pub use Rattle.chess.specs.declared.board.man.Wing.TheVariants.{KingSide, QueenSide}
pub use Rattle.chess.specs.declared.fen.FenError.TheVariants.{InCheck, Kings, Pawns, Syntax}
pub use Rattle.chess.specs.declared.move_text.read.parse.ByteClass.{ByteClass}
pub use Rattle.chess.specs.declared.move_text.read.parse.ByteClass.TheVariants.{Digit, Equals}
pub use Rattle.chess.specs.declared.move_text.read.parse.ByteClass.TheVariants.{FileLetter}
pub use Rattle.chess.specs.declared.move_text.read.parse.ByteClass.TheVariants.{KindLetter}
pub use Rattle.chess.specs.declared.move_text.read.parse.ByteClass.TheVariants.{PromotionLetter}
pub use Rattle.chess.specs.declared.move_text.read.parse.ByteClass.TheVariants.{Sign}
pub use Rattle.chess.specs.declared.move_text.read.parse.ParsedSan.{ParsedSan}
pub use Rattle.chess.specs.declared.move_text.refusal.Refusal.TheVariants.{CastlingAttacked}
pub use Rattle.chess.specs.declared.move_text.refusal.Refusal.TheVariants.{LeavesKingAttacked}
pub use Rattle.chess.specs.declared.move_text.refusal.Refusal.TheVariants.{NoCastling, NoMoveText}
pub use Rattle.chess.specs.declared.move_text.refusal.Refusal.TheVariants.{NoneCan, WrongPromotion}
pub use Rattle.chess.specs.declared.moves.Move.{Move}
pub use Rattle.std.proofs.Common.{Bool, Err, IfSome, IsTrue, List, MatchOption, None, Ok, Option}
pub use Rattle.std.proofs.Common.{Some, [], ap, ap₂, arith, bit_and, bit_or, bit_xor, codes, false}
pub use Rattle.std.proofs.Common.{get_or, if◌then◌else◌, inl, inr, is_some, length, length-append}
pub use Rattle.std.proofs.Common.{max, min, nat_eq, not, option_map, refl, reverse, rules}
pub use Rattle.std.proofs.Common.{slice_set, subst, suc, sym, true, w64, zero, ℕ, ◌%◌, ◌&&◌, ◌*◌}
pub use Rattle.std.proofs.Common.{◌++◌, ◌+◌, ◌-◌, ◌/◌, ◌<◌, ◌^◌, ◌||◌, ◌↔◌, ◌∙◌, ◌∷◌, ◌≡◌, ◌≢◌, ◌≤◌}
pub use Rattle.std.proofs.Common.{◌⊎◌}
pub use Rattle.std.proofs.lemmas.Bool.{agree_below, agree_below_at, and_from, and_parts, cases_Bool}
pub use Rattle.std.proofs.lemmas.Bool.{cases_eq, cases_lt, eq-eqb, eqb-true, false≢true, lt-ltb}
pub use Rattle.std.proofs.lemmas.Bool.{ltb-true, ne_eqb, not-true, or_cases, or_left, or_right}
pub use Rattle.std.proofs.lemmas.Bool.{true_from_ne_false, true≢false}
pub use Rattle.std.proofs.lemmas.Bool.Decides.{nat_tests}
pub use Rattle.std.proofs.lemmas.Fmt.{decimal_digit}
pub use Rattle.std.proofs.lemmas.List.{append-nil, append_assoc, get_or-replicate, get_or-set_other}
pub use Rattle.std.proofs.lemmas.List.{get_or-set_same, length-map, length-set, reverse-append}
pub use Rattle.std.proofs.lemmas.List.{reverse-reverse}
pub use Rattle.std.proofs.lemmas.Nat.{and_le_l, or_lt}
pub use Rattle.std.proofs.lemmas.Nat.Bits.{bit_at-lt, bit_at-pow_other, bit_at-pow_same}
pub use Rattle.std.proofs.lemmas.Nat.Bits.{bit_at-trailing_zeros, bit_at-zero, bit_at_and}
pub use Rattle.std.proofs.lemmas.Nat.Bits.{bit_at_or, same_from_bits_below, shr_and_one}
pub use Rattle.std.proofs.lemmas.Option.{same_Some}
pub use Rattle.std.specs.Int.{bit_at, bit_not, trailing_zeros}
pub use Rattle.std.specs.List.{list_all}
pub use Rattle.std.specs.Prelude.{decimal, ltb, replicate, ◌==◌}
