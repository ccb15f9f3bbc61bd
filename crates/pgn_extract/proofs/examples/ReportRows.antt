-- Worked rows of marks, requests, lines and reports; and what these definitions refuse.
use Rattle.pgn_extract.proofs.Common.{◌≡◌, ℕ, Bool, true, false, List, [], ◌∷◌, ◌++◌, codes}
use Rattle.pgn_extract.proofs.Common.{decimal, Option, None, Some, inl, inr, refl, arith, State}
use Rattle.pgn_extract.proofs.Common.{Replay, San, Uci, Heading, Meets, Conditions, ReadableGame}
use Rattle.pgn_extract.proofs.Common.{UnreadableRest, TooLongBlock, Part, Aim, GameId, IsMet}
use Rattle.pgn_extract.proofs.Common.{AreChosen, plies_of, index_line, mark, mark_line, Ascend}
use Rattle.pgn_extract.proofs.Common.{Entry, IsEarlier, IsPlyOfGame, entries_at_least, entry_line}
use Rattle.pgn_extract.proofs.Common.{AreLines, indented, Refusal, bad_mark, text_refusals}
use Rattle.pgn_extract.proofs.Common.{verdicts_at_least, FaultyGame, IsPieceVerdict, IsReportedBy}
use Rattle.pgn_extract.proofs.Common.{IsUnreadableVerdict, IsVerdictIn, SoundGame, Verdict}
use Rattle.pgn_extract.proofs.Common.{fault_line_of, output_of, without_note, Request, AsItStands}
use Rattle.pgn_extract.proofs.Common.{Line, Record, Standard, Faulty, Matching, Others}
use Rattle.pgn_game.specs.declared.exports.style.Commands.TheVariants.{Whole}
use Rattle.pgn_extract.specs.Public.GivenMarks.{game_id, is_number, mark_of, mark_around}
use Rattle.pgn_extract.specs.Public.Requests.{asked_form, asked_mode, asked_select, asked_style}
use Rattle.pgn_extract.specs.Public.Requests.{file_refusals, has_fields, has_mode, has_moves}
use Rattle.pgn_extract.specs.Public.Requests.{has_style}
use Rattle.pgn_extract.specs.Public.Several.{games_word}
use Rattle.pgn_extract.specs.Public.Listing.{Shown, AfterPly, AsRow}
use Rattle.pgn_extract.specs.declared.settings.Mode.TheVariants as modes

-- Marks.

digits_are_a_number : is_number (codes "0012") ≡ true
digits_are_a_number = refl

no_number_of_20_digits : is_number (codes "00000000000000000001") ∷ is_number []
    ∷ is_number (codes "1a") ∷ [] ≡ false ∷ false ∷ false ∷ []
no_number_of_20_digits = refl

mark_of_two_numbers : mark_of (Some 3) (Some 8) ≡ Some (game_id 3 8)
mark_of_two_numbers = refl

no_mark_of_game_0 : mark_of (Some 0) (Some 8) ∷ mark_of None (Some 8) ∷ mark_of (Some 3) None ∷ []
    ≡ None ∷ None ∷ None ∷ []
no_mark_of_game_0 = refl

numbers_around_the_sign : mark_around (codes "3@8") (Some 1) ≡ Some (game_id 3 8)
numbers_around_the_sign = refl

no_mark_without_a_sign : mark_around (codes "3@8") None ≡ None
no_mark_without_a_sign = refl

-- Requests.

list_is_asked : (request : Request)
    → asked_mode (record request { list = true; lines = false }) ≡ modes.List
list_is_asked request = refl

list_of_lines_is_asked : (request : Request)
    → asked_mode (record request { list = true; lines = true }) ≡ modes.EachLine
list_of_lines_is_asked request = refl

index_is_asked : (request : Request)
    → asked_mode (record request { list = false; rows = None; index = true }) ≡ modes.Index
index_is_asked request = refl

games_are_asked : (request : Request)
    → asked_mode (record request { list = false; rows = None; index = false }) ≡ modes.Export
games_are_asked request = refl

others_are_selected : (request : Request) → asked_select (record request { others = true }) ≡ Others
others_are_selected request = refl

faulty_are_selected : (request : Request)
    → asked_select (record request { others = false; faulty = true }) ≡ Faulty
faulty_are_selected request = refl

matching_are_selected : (request : Request)
    → asked_select (record request { others = false; faulty = false }) ≡ Matching
matching_are_selected request = refl

record_is_asked : (request : Request) → asked_form (record request { pack = true }) ≡ Record
record_is_asked request = refl

lines_are_asked : (request : Request)
    → asked_form (record request { pack = false; moves = true; lines = false })
    ∷ asked_form (record request { pack = false; moves = false; uci = true; lines = false })
    ∷ [] ≡ Line San ∷ Line Uci ∷ []
lines_are_asked request = refl

bytes_are_asked : (request : Request)
    → asked_form (record request { pack = false; moves = false; uci = false; as_is = true })
    ∷ asked_form (record request {
      pack = false;
      moves = false;
      uci = false;
      as_is = false;
      from_position = false;
      lines = false;
    }) ∷ []
    ≡ AsItStands ∷ Standard ∷ []
bytes_are_asked request = refl

width_is_79 : (request : Request)
    → asked_style (record request {
      no_comments = true;
      keep_commands = true;
      strip_commands = false;
      no_glyphs = false;
      no_variations = true;
      roster = true;
      width = None;
    })
    ≡ record {
      comments = false;
      commands = Whole;
      glyphs = true;
      variations = false;
      roster_only = true;
      width = 79;
    }
width_is_79 request = refl

list_is_a_mode : (request : Request) → has_mode (record request { list = true })
    ∷ has_mode (record request { list = false; index = false }) ∷ [] ≡ true ∷ false ∷ []
list_is_a_mode request = refl

next_is_a_field : (request : Request) → has_fields (record request { fen = false; next = true })
    ∷ has_fields (record request { fen = false; next = false }) ∷ [] ≡ true ∷ false ∷ []
next_is_a_field request = refl

uci_has_moves : (request : Request) → has_moves (record request { moves = false; uci = true })
    ∷ has_moves (record request { moves = false; uci = false }) ∷ [] ≡ true ∷ false ∷ []
uci_has_moves request = refl

width_is_style : (request : Request)
    → has_style (record request {
      no_comments = false;
      keep_commands = false;
      strip_commands = false;
      no_glyphs = false;
      no_variations = false;
      roster = false;
      width = Some 80;
    })
    ∷ has_style (record request {
      no_comments = false;
      keep_commands = false;
      strip_commands = false;
      no_glyphs = false;
      no_variations = false;
      roster = false;
      width = None;
    })
    ∷ [] ≡ true ∷ false ∷ []
width_is_style request = refl

line_of_a_bad_mark : bad_mark false ≡ codes "pgn-extract: bad mark\n"
line_of_a_bad_mark = refl

-- the first refusal of files is that of names
names_exclude_each_other : (request : Request)
    → (rest : List Refusal) × (file_refusals (record request { with_names = true; no_names = true })
    ≡ record {
      applies = true;
      line = codes "pgn-extract: --with-names and --no-names exclude each other\n";
    } ∷ rest)
names_exclude_each_other request = (_, refl)

-- and that of texts is that of a mark
mark_is_refused : (noted : Bool) (request : Request)
    → (rest : List Refusal) × (text_refusals noted (record request { from = None })
    ≡ record { applies = false; line = bad_mark noted } ∷ rest)
mark_is_refused noted request = (_, refl)

-- Lines.

line_of_a_game : (name : Option (List ℕ)) (parts : List Part)
    → index_line name 2 (record { offset = 5; kind = ReadableGame parts })
    ≡ mark_line name (game_id 2 5)
line_of_a_game name parts = refl

no_line_of_other_pieces : (name : Option (List ℕ)) (bytes : List ℕ)
    → index_line name 2 (record { offset = 5; kind = UnreadableRest bytes })
    ++ index_line name 2 (record { offset = 5; kind = TooLongBlock }) ≡ []
no_line_of_other_pieces name bytes = refl

line_of_an_entry :
    entry_line (Some (codes "a")) (record {
      id = game_id 2 5;
      ply = 3;
      shown = AfterPly (codes " e4");
    })
    ≡ (codes "a:" ++ mark (game_id 2 5)) ++ 32 ∷ decimal 3 ++ (codes " e4" ++ 10 ∷ [])
line_of_an_entry = refl

row_of_an_entry :
    entry_line (Some (codes "a")) (record {
      id = game_id 2 5;
      ply = 3;
      shown = AsRow (codes "3,e4\n");
    })
    ≡ codes "3,e4\n"
row_of_an_entry = refl

no_entry_is_earlier_than_itself : (entry : Entry) → IsEarlier entry entry → ⊥
no_entry_is_earlier_than_itself entry is = elim is [
  | inl number ↦ omega (arith, number)
  | inr ply ↦ omega (arith, ply.1)
]

no_entry_stands_twice : (entry : Entry) → Ascend (entry ∷ entry ∷ []) → ⊥
no_entry_stands_twice entry ascend =
    no_entry_is_earlier_than_itself entry (ascend.0 entry (0, omega arith, refl))

earlier_entries_are_left_out : (first second : Entry) → first.id.number ≡ 1 → second.id.number ≡ 2
    → entries_at_least 2 (first ∷ second ∷ []) ≡ second ∷ []
earlier_entries_are_left_out first second one two = rw one (rw two refl)

no_entry_of_no_piece : (aim : Aim) (number : ℕ) (entry : Entry)
    → IsPlyOfGame aim number [] entry → ⊥
no_entry_of_no_piece aim number entry is = let none = is.piece in cc

no_wanted_ply_is_left : (aim : Aim) (tags : Heading) (replay : Replay) (ply : ℕ)
    (criteria : List Conditions) → (Meets tags replay ply criteria → ⊥)
    → IsMet (Some criteria) tags replay ply → ⊥
no_wanted_ply_is_left aim tags replay ply criteria none met = none met

no_entry_of_no_ply : (id : GameId) (P : ℕ → Type 0) (S : ℕ → Shown → Type 0) (entry : Entry)
    → AreChosen id P S [] (entry ∷ []) → ⊥
no_entry_of_no_ply id P S entry are = elim are [ ]

lines_are_indented : indented (codes "a" ∷ codes "b" ∷ []) ≡ codes "  a" ++ 10 ∷ (codes "  b"
    ++ 10 ∷ [])
lines_are_indented = refl

no_line_feed_in_a_line : AreLines ((97 ∷ 10 ∷ []) ∷ []) → ⊥
no_line_feed_in_a_line are = let first = are.0 in cc

games_are_counted : games_word 1 ∷ games_word 0 ∷ games_word 2 ∷ [] ≡ codes " game, "
    ∷ codes " games, " ∷ codes " games, " ∷ []
games_are_counted = refl

-- Reports.

output_of_verdicts : output_of (SoundGame (codes "a"))
    ++ output_of (FaultyGame (codes "b") (codes "c") (codes "d")) ≡ codes "ab"
output_of_verdicts = refl

lines_of_verdicts :
    fault_line_of (SoundGame (codes "a"))
    ++ fault_line_of (FaultyGame (codes "b") (codes "c") (codes "d")) ≡ codes "cd"
lines_of_verdicts = refl

note_is_left_out : without_note (FaultyGame (codes "b") (codes "c") (codes "d"))
    ≡ FaultyGame (codes "b") (codes "c") []
note_is_left_out = refl

sound_game_stays : without_note (SoundGame (codes "a")) ≡ SoundGame (codes "a")
sound_game_stays = refl

verdicts_from_the_second : (first second : Verdict) → verdicts_at_least 4 3 (first ∷ second
    ∷ []) ≡ second ∷ []
verdicts_from_the_second first second = refl

no_sound_piece_is_reported : (aim : Aim) (text line : List ℕ)
    → IsReportedBy aim text line (SoundGame text) → ⊥
no_sound_piece_is_reported aim text line reported = let is = reported.2 in cc

no_other_line_is_reported : (aim : Aim) (note : List ℕ)
    → IsReportedBy aim [] (codes "x") (FaultyGame [] [] note) → ⊥
no_other_line_is_reported aim note reported = let is = reported.2 in cc

no_game_is_unreadable : (aim : Aim) (offset : ℕ) (bytes line text : List ℕ)
    → IsUnreadableVerdict aim offset bytes line (SoundGame text) → ⊥
no_game_is_unreadable aim offset bytes line text is = let verdict = is.3 in cc

no_fault_in_the_index : (aim : Aim) (id : GameId) (parts : List Part)
    (text line note : List ℕ) → IsVerdictIn modes.Index aim id parts (FaultyGame text line note) → ⊥
no_fault_in_the_index aim id parts text line note is = cc

no_long_block_is_sound : (aim : Aim) (id : GameId) (text : List ℕ)
    → IsPieceVerdict TooLongBlock aim id (SoundGame text) → ⊥
no_long_block_is_sound aim id text is = let verdict = is.2 in cc

positions_have_plies : (one two : State) → plies_of 4 (one ∷ two ∷ []) ≡ 4 ∷ 5 ∷ []
positions_have_plies one two = refl
