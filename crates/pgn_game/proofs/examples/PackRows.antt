-- Worked rows of the parts of codes and of records; and what these definitions refuse.
use Rattle.std.proofs.Common.{◌≡◌, ◌≤◌, ◌+◌, ◌^◌, ◌∙◌, ℕ, true, false, List, [], ◌∷◌, ◌++◌, length}
use Rattle.std.proofs.Common.{codes, Option, None, Some, Ok, Err, ap, refl, sym, arith}
use Rattle.std.proofs.lemmas.List.{append-nil, length-append}
use Rattle.std.specs.List.Sorted.{IsStrictlySortedBy}
use Rattle.pgn_game.proofs.Common.{slice_cmp, w32, nat_cmp, Less, IsLegal, after, State, king_of}
use Rattle.pgn_game.proofs.Common.{pawn_of, King, Queen, Rook, Bishop, Knight, Pawn, White, Black}
use Rattle.pgn_game.proofs.Common.{KingSide, QueenSide, Move, largest_offset}
use Rattle.pgn_game.proofs.Common.{AreLegalMoves, positions_from, and_then, number_at, name_at}
use Rattle.pgn_game.proofs.Common.{tag_at, follows, next_tag, Tag, PackedGame, FitsRecord, FitsTag}
use Rattle.pgn_game.proofs.Common.{record_bytes, with_length, tag_bytes, named_number, name_bytes}
use Rattle.pgn_game.proofs.Common.{tail_bytes, body_bytes, name_size, tags_size, is_origin}
use Rattle.pgn_game.proofs.Common.{is_shown, PlyCode, AreCodes, bit, marks_number, man_number}
use Rattle.pgn_game.proofs.Common.{numbered_kind, CutShort, TagOrder, PartOfPly, NoOrigin}
use Rattle.pgn_game.specs.Public.PackReading.{text_at, after_tags, body_at}
use Rattle.pgn_game.specs.Public.PackStreams.{Window, HasNoRecord, PassesOn, BreaksOff, IsPastEnd}
use Rattle.pgn_game.specs.Public.PackedGames.{begins_control, is_shown_name}
use Rattle.pgn_game.specs.Public.PlyCodes.{kind_number, side_number, castle_number}

-- Codes.

marks_as_bits : bit false ∷ bit true ∷ [] ≡ 0 ∷ 1 ∷ []
marks_as_bits = refl

marks_together : marks_number true false ∷ marks_number false true ∷ marks_number true true ∷ []
    ≡ 1 ∷ 2 ∷ 3 ∷ []
marks_together = refl

kinds_in_order :
    kind_number King ∷ kind_number Queen ∷ kind_number Rook ∷ kind_number Bishop
    ∷ kind_number Knight
    ∷ kind_number Pawn ∷ [] ≡ 0 ∷ 1 ∷ 2 ∷ 3 ∷ 4 ∷ 5 ∷ []
kinds_in_order = refl

numbers_of_kinds :
    numbered_kind 0 ∷ numbered_kind 1 ∷ numbered_kind 2 ∷ numbered_kind 3 ∷ numbered_kind 4
    ∷ numbered_kind 5 ∷ [] ≡ King ∷ Queen ∷ Rook ∷ Bishop ∷ Knight ∷ Pawn ∷ []
numbers_of_kinds = refl

sides_in_order : side_number White ∷ side_number Black ∷ [] ≡ 0 ∷ 6 ∷ []
sides_in_order = refl

kings_that_castle :
    castle_number White KingSide ∷ castle_number White QueenSide ∷ castle_number Black KingSide
    ∷ castle_number Black QueenSide ∷ [] ≡ 12 ∷ 13 ∷ 14 ∷ 15 ∷ []
kings_that_castle = refl

men_and_kings :
    man_number (pawn_of Black) None ∷ man_number (king_of Black) (Some QueenSide) ∷ [] ≡ 11 ∷ 15
    ∷ []
men_and_kings = refl

no_code_of_no_move : (P : State) (c : PlyCode) → AreCodes P [] (c ∷ []) → ⊥
no_code_of_no_move P c are = cc

no_illegal_move : (P : State) (m : Move) → (IsLegal P m → ⊥) → AreLegalMoves P (m ∷ []) → ⊥
no_illegal_move P m illegal legal = illegal legal.0

positions_of_a_move : (P : State) (m : Move) → positions_from P (m ∷ []) ≡ P ∷ after P m ∷ []
positions_of_a_move P m = refl

-- Records.

-- the tag `A` with the contents `bc`
abbrev one_tag : Tag
one_tag = (codes "A", codes "bc")

length_in_front : with_length (codes "ab") ≡ 0 ∷ 0 ∷ 0 ∷ 2 ∷ codes "ab"
length_in_front = refl

-- a tag that follows it
abbrev next_one : Tag
next_one = (codes "B", codes "d")

bytes_of_one_tag : tag_bytes one_tag ≡ 0 ∷ 0 ∷ 0 ∷ 1 ∷ 65 ∷ 0 ∷ 0 ∷ 0 ∷ 2 ∷ codes "bc"
bytes_of_one_tag = refl

names_as_numbers : named_number None ∷ named_number (Some (codes "a")) ∷ [] ≡ 0 ∷ 1 ∷ []
names_as_numbers = refl

bytes_of_a_name : name_bytes (Some (codes "a")) ≡ 0 ∷ 0 ∷ 0 ∷ 1 ∷ 97 ∷ []
bytes_of_a_name = refl

no_bytes_of_no_name : name_bytes None ≡ []
no_bytes_of_no_name = refl

sizes_of_names : name_size None ∷ name_size (Some (codes "abc")) ∷ [] ≡ 0 ∷ 7 ∷ []
sizes_of_names = refl

size_of_tags : tags_size (one_tag ∷ one_tag ∷ []) ≡ 22
size_of_tags = refl

-- the first game of the file `a`, at byte 5, with that tag and no ply
abbrev one_game : PackedGame
one_game =
    record {
      number = 1;
      offset = 5;
      name = Some (codes "a");
      tags = one_tag ∷ [];
      result = codes "*";
      check = false;
      stuck = false;
      plies = [];
    }

tags_and_plies : tail_bytes one_game ≡ tag_bytes one_tag
tags_and_plies = refl

-- the head has one tag, and 16 for the name
body_of_one_game :
    body_bytes one_game
    ≡ (0 ∷ 0 ∷ 0 ∷ 0 ∷ 0 ∷ 0 ∷ 0 ∷ 1 ∷ []) ++ (0 ∷ 0 ∷ 0 ∷ 0 ∷ 0 ∷ 0 ∷ 0 ∷ 5 ∷ [])
    ++ (0 ∷ 0 ∷ 0 ∷ 48 ∷ []) ++ (0 ∷ 0 ∷ 0 ∷ 1 ∷ 97 ∷ []) ++ tag_bytes one_tag
body_of_one_game = refl

no_long_name_of_a_tag : (tag : Tag) → 2 ^ 32 ≤ length tag.0 → FitsTag tag → ⊥
no_long_name_of_a_tag tag long fits = omega (arith, long, fits.name)

no_long_contents_of_a_tag : (tag : Tag) → 2 ^ 32 ≤ length tag.1 → FitsTag tag → ⊥
no_long_contents_of_a_tag tag long fits = omega (arith, long, fits.contents)

-- Reading: each part from the front, and the first fault.

next_step_is_taken : and_then (Ok 1) (λ n. Ok (n + 1)) ≡ Ok 2
next_step_is_taken = refl

fault_is_kept : and_then {A = ℕ} (Err CutShort) (λ n. Ok (n + 1)) ≡ Err CutShort
fault_is_kept = refl

number_in_front : number_at w32 (0 ∷ 0 ∷ 1 ∷ 2 ∷ 7 ∷ []) ≡ Ok (258, 7 ∷ [])
number_in_front = refl

no_number_cut_short : number_at w32 (0 ∷ 0 ∷ 1 ∷ []) ≡ Err CutShort
no_number_cut_short = refl

text_in_front : text_at (0 ∷ 0 ∷ 0 ∷ 1 ∷ codes "ab") ≡ Ok (codes "a", codes "b")
unfolding text_at
text_in_front = refl

no_text_cut_short : text_at (0 ∷ 0 ∷ 0 ∷ 2 ∷ codes "a") ≡ Err CutShort
unfolding text_at
no_text_cut_short = refl

name_in_front : name_at true (0 ∷ 0 ∷ 0 ∷ 1 ∷ codes "ab") ≡ Ok (Some (codes "a"), codes "b")
unfolding text_at
name_in_front = refl

no_name_in_front : name_at false (codes "ab") ≡ Ok (None, codes "ab")
no_name_in_front = refl

tag_in_front : tag_at (tag_bytes one_tag ++ codes "x") ≡ Ok (one_tag, codes "x")
unfolding text_at
tag_in_front = refl

first_tag_and_rest : next_tag None (tag_bytes one_tag ++ codes "x") ≡ Ok (codes "A", codes "x")
unfolding text_at
first_tag_and_rest = refl

rest_after_two_tags : after_tags 2 None (tag_bytes one_tag ++ tag_bytes next_one ++ codes "x")
    ≡ Ok (codes "x")
unfolding after_tags text_at
rest_after_two_tags = refl

no_tag_twice : after_tags 2 None (tag_bytes one_tag ++ tag_bytes one_tag) ≡ Err TagOrder
unfolding after_tags text_at
no_tag_twice = refl

no_smaller_tag : after_tags 2 None (tag_bytes next_one ++ tag_bytes one_tag) ≡ Err TagOrder
unfolding after_tags text_at
no_smaller_tag = refl

names_in_order :
    follows None (codes "B") ∷ follows (Some (codes "A")) (codes "A")
    ∷ follows (Some (codes "A")) (codes "AB") ∷ follows (Some (codes "B")) (codes "A")
    ∷ follows (Some (codes "A")) (codes "B") ∷ [] ≡ true ∷ false ∷ true ∷ false ∷ true ∷ []
names_in_order = refl

-- NUL, line feed, escape and delete; U+009B, U+00A0 and U+00DB in UTF-8
control_characters :
    begins_control (0 ∷ []) ∷ begins_control (codes "\n") ∷ begins_control (27 ∷ 91 ∷ [])
    ∷ begins_control (127 ∷ []) ∷ begins_control (194 ∷ 155 ∷ [])
    ∷ begins_control (194 ∷ 160 ∷ []) ∷ begins_control (195 ∷ 155 ∷ []) ∷ begins_control (codes " ")
    ∷ begins_control [] ∷ [] ≡ true ∷ true ∷ true ∷ true ∷ true ∷ false ∷ false ∷ false ∷ false ∷ []
control_characters = refl

names_that_are_shown :
    is_shown (codes "my games.pgn") ∷ is_shown (codes "a\nb") ∷ is_shown (97 ∷ 194 ∷ 133 ∷ [])
    ∷ is_shown_name None ∷ is_shown_name (Some (codes "\n")) ∷ []
    ≡ true ∷ false ∷ false ∷ true ∷ false ∷ []
names_that_are_shown = refl

origins :
    is_origin 1 0 None ∷ is_origin 0 0 None ∷ is_origin 7 largest_offset (Some (codes "a"))
    ∷ is_origin 7 (largest_offset + 1) None ∷ is_origin 1 0 (Some (codes "\n")) ∷ []
    ≡ true ∷ false ∷ true ∷ false ∷ false ∷ []
origins = refl

no_record_of_no_origin : (game : PackedGame) → is_origin game.number game.offset game.name ≡ false
    → FitsRecord game → ⊥
no_record_of_no_origin game none fits = let both : true ≡ false = sym fits.origin ∙ none in cc

no_record_with_a_tag_twice : (game : PackedGame) → game.tags ≡ one_tag ∷ one_tag ∷ []
    → FitsRecord game → ⊥
unfolding IsStrictlySortedBy
no_record_with_a_tag_twice game twice fits =
    let sorted = rw twice at fits.ordered in
    let below : slice_cmp nat_cmp (codes "A") (codes "A") ≡ Less = sorted.0.0 in
    cc

-- the same game with another number
abbrev game_zero : PackedGame
game_zero =
    record {
      number = 0;
      offset = 5;
      name = Some (codes "a");
      tags = one_tag ∷ [];
      result = codes "*";
      check = false;
      stuck = false;
      plies = [];
    }

no_body_of_game_zero : body_at (body_bytes game_zero) ≡ Err NoOrigin
unfolding body_at after_tags text_at
no_body_of_game_zero = refl

no_part_of_a_ply : body_at (body_bytes one_game ++ codes "x") ≡ Err PartOfPly
unfolding body_at after_tags text_at
no_part_of_a_ply = refl

-- Packs.

no_record_left_out : (game : PackedGame) → FitsRecord game → HasNoRecord (record_bytes game) → ⊥
no_record_left_out game fits none = none game [] fits (sym (append-nil (record_bytes game)))

no_byte_lost : (old new : Window) (left left' : Option (List ℕ)) → old.ahead ≡ codes "a"
    → new.current ≡ [] → new.ahead ≡ [] → PassesOn old new left left' → ⊥
no_byte_lost old new left left' some none_held none_ahead passes =
    let whole : codes "a" ++ passes.read ≡ [] =
    ap (λ (bytes : List ℕ). bytes ++ passes.read) (sym some) ∙ passes.parted
    ∙ ap (λ (bytes : List ℕ). bytes ++ new.ahead) none_held ∙ none_ahead in
    cc

no_break_before_a_record : (old : Window) (left left' : Option (List ℕ)) (game : PackedGame)
    → FitsRecord game → old.ahead ≡ record_bytes game → BreaksOff old left left' → ⊥
no_break_before_a_record old left left' game fits held breaks =
    breaks.none game breaks.read fits (ap (λ (bytes : List ℕ). bytes ++ breaks.read) held)

no_end_of_a_small_pack : (new : Window) → new.place + length new.ahead ≤ largest_offset
    → IsPastEnd new → ⊥
no_end_of_a_small_pack new small (front, rest, is, parted, far) =
    let size = ap length parted in omega (arith, small, size, length-append front rest, far)
