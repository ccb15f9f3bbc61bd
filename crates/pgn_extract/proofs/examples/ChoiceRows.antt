-- Worked rows of the pieces that are chosen and of the lines that have their marks; and what these
-- definitions refuse.
use Rattle.pgn_extract.proofs.Common.{◌≡◌, ◌≢◌, ℕ, true, false, List, [], ◌∷◌, ◌++◌, codes, Option}
use Rattle.pgn_extract.proofs.Common.{None, Some, refl, sym, ap, ◌∙◌, subst, MarkedPiece}
use Rattle.pgn_extract.proofs.Common.{ReadableGame, Part, Aim, GameId, id_of, IfChosen, is_among}
use Rattle.pgn_extract.proofs.Common.{is_chosen, is_mark_of, AreExports, index, mark_line, Entry}
use Rattle.pgn_extract.proofs.Common.{IsPlyOfGame, line_mark, rest_after, PacksAll, of_all}
use Rattle.pgn_extract.proofs.Common.{IsVerdict, SoundGame, output_of, game_id}
use Rattle.pgn_extract.specs.Private.MarkLines.{first_mark, front_mark, front_of, is_mark_byte}
use Rattle.pgn_extract.specs.Private.MarkLines.{mark_of_rest}
use Rattle.pgn_extract.proofs.ChoiceFacts.{when_passed}

-- ---- pieces

-- a mark has the number and the offset of its piece
number_and_offset : is_mark_of (game_id 2 22) (game_id 2 22)
    ∷ is_mark_of (game_id 2 23) (game_id 2 22)
    ∷ is_mark_of (game_id 3 22) (game_id 2 22) ∷ [] ≡ true ∷ false ∷ false ∷ []
number_and_offset = refl

-- its two numbers are all that there is of it
id_of_its_numbers : (id : GameId) → game_id id.number id.offset ≡ id
id_of_its_numbers id = refl

-- the marks of the first game and of the third
abbrev two_marks : List GameId
two_marks = game_id 3 44 ∷ game_id 1 0 ∷ []

chosen_by_a_mark : is_among two_marks (game_id 1 0) ∷ is_among two_marks (game_id 2 22)
    ∷ is_among two_marks (game_id 3 44) ∷ is_among two_marks (game_id 3 0) ∷ []
    ≡ true ∷ false ∷ true ∷ false ∷ []
chosen_by_a_mark = refl

each_is_chosen_without_marks : (id : GameId) → is_chosen None id ≡ true
each_is_chosen_without_marks id = refl

none_is_chosen_by_no_mark : (id : GameId) → is_chosen (Some []) id ≡ false
none_is_chosen_by_no_mark id = refl

-- of one that is passed over only the other fact holds
no_fact_of_the_other : IfChosen false (List ℕ) ⊥ → ⊥
no_fact_of_the_other is = is

-- nothing is reported of a game whose mark is not among those
no_verdict_without_a_mark : (aim : Aim) (parts : List Part) (text : List ℕ)
    → aim.chosen ≡ Some two_marks → text ≢ []
    → IsVerdict aim 2 (record { offset = 22; kind = ReadableGame parts }) (SoundGame text) → ⊥
no_verdict_without_a_mark aim parts text chosen some is =
    let passed = ap (λ (marks : Option (List GameId)). is_chosen marks (game_id 2 22)) chosen in
    let same = when_passed (is_chosen aim.chosen (game_id 2 22)) _ passed is in
    some (ap output_of same)

-- and it has no entry
no_entry_without_a_mark : (aim : Aim) (number : ℕ) (pieces : List MarkedPiece) (entry : Entry)
    → aim.chosen ≡ Some [] → IsPlyOfGame aim number pieces entry → ⊥
no_entry_without_a_mark aim number pieces entry none is =
    let chosen =
    subst (λ (marks : Option (List GameId)). is_chosen marks entry.id ≡ true) none is.chosen in
    cc

-- nor is it exported
no_export_without_a_mark : (aim : Aim) (piece : MarkedPiece) (text : List ℕ) → aim.chosen ≡ Some []
    → text ≢ [] → AreExports aim 1 (piece ∷ []) text → ⊥
no_export_without_a_mark aim piece text none some (own, rest, parted, is, empty) =
    let passed = ap (λ (marks : Option (List GameId)). is_chosen marks (id_of 1 piece)) none in
    let nothing = when_passed (is_chosen aim.chosen (id_of 1 piece)) _ passed is in
    some (parted ∙ ap (λ t. t ++ rest) nothing ∙ empty)

-- the index has the lines of those that are chosen
index_of_two : (name : Option (List ℕ)) (parts : List Part)
    → index (Some two_marks) name 1 (record { offset = 0; kind = ReadableGame parts }
    ∷ record { offset = 22; kind = ReadableGame parts }
    ∷ record { offset = 44; kind = ReadableGame parts } ∷ [])
    ≡ mark_line name (game_id 1 0) ++ (mark_line name (game_id 3 44) ++ [])
index_of_two name parts = refl

-- a run that reports only some games packs not all
no_pack_of_all : (packing : Aim) → packing.chosen ≡ Some [] → PacksAll packing → ⊥
no_pack_of_all packing some all = let none = sym all.chosen ∙ some in cc

a_search_passes_over_no_game : (aim : Aim) → (of_all aim).chosen ≡ None
a_search_passes_over_no_game aim = refl

-- ---- lines

bytes_of_marks : is_mark_byte 48 ∷ is_mark_byte 57 ∷ is_mark_byte 64 ∷ is_mark_byte 58
    ∷ is_mark_byte 32 ∷ [] ≡ true ∷ true ∷ true ∷ false ∷ false ∷ []
bytes_of_marks = refl

fronts : front_of (codes "12@34 5") (Some 5) ∷ front_of (codes "12") None ∷ []
    ≡ codes "12@34" ∷ codes "12" ∷ []
fronts = refl

marks_in_front : front_mark (codes "12@34 5") ∷ front_mark (codes "12@34: unreadable")
    ∷ front_mark (codes "12@34") ∷ front_mark (codes "12 34") ∷ front_mark []
    ∷ front_mark (codes "0@34 5") ∷ front_mark (codes "1@2@3") ∷ []
    ≡ Some (game_id 12 34) ∷ Some (game_id 12 34) ∷ Some (game_id 12 34) ∷ None ∷ None ∷ None
    ∷ None ∷ []
marks_in_front = refl

what_follows_a_prefix : rest_after (codes "ab") (codes "abc") ∷ rest_after (codes "ab") (codes "ab")
    ∷ rest_after (codes "ab") (codes "a")
    ∷ rest_after (codes "ab") (codes "cab") ∷ [] ≡ Some (codes "c") ∷ Some [] ∷ None ∷ None ∷ []
what_follows_a_prefix = refl

mark_of_what_follows : mark_of_rest (Some (codes "1@2")) ∷ mark_of_rest None ∷ []
    ≡ Some (game_id 1 2) ∷ None ∷ []
mark_of_what_follows = refl

first_of_marks : first_mark (None ∷ Some (game_id 1 2) ∷ Some (game_id 3 4) ∷ []) ∷ first_mark []
    ∷ [] ≡ Some (game_id 1 2) ∷ None ∷ []
first_of_marks = refl

-- each form of a line of a run over a.pgn
forms_of_lines : line_mark (codes "a.pgn") (codes "2@22 13")
    ∷ line_mark (codes "a.pgn") (codes "pgn-extract: game 2@22: unreadable")
    ∷ line_mark (codes "a.pgn") (codes "a.pgn:2@22 - e4")
    ∷ line_mark (codes "a.pgn") (codes "pgn-extract: a.pgn: game 2@22: unreadable") ∷ []
    ≡ Some (game_id 2 22) ∷ Some (game_id 2 22) ∷ Some (game_id 2 22)
    ∷ Some (game_id 2 22) ∷ []
forms_of_lines = refl

-- the name is that of the file, and a mark stands right after it
no_mark_of_another_file : line_mark (codes "a.pgn") (codes "b.pgn:2@22")
    ∷ line_mark (codes "a.pgn") (codes "x/a.pgn:2@22") ∷ line_mark (codes "a.pgn") (codes " 2@22")
    ∷ line_mark (codes "a.pgn") (codes "a.pgn: 2@22")
    ∷ line_mark (codes "a.pgn") (codes "  line 2, column 3, byte 4: 5@6") ∷ []
    ≡ None ∷ None ∷ None ∷ None ∷ None ∷ []
no_mark_of_another_file = refl
