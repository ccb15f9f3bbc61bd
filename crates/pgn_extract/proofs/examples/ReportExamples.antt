-- What the definitions of a report refuse, and what they make of small texts.
use Rattle.std.specs.declared.io.ErrorKind.TheVariants.{NotFound}
use Rattle.pgn_extract.proofs.Common.{◌≡◌, ◌++◌, ℕ, true, false, List, [], ◌∷◌, Option, Some, None}
use Rattle.pgn_extract.proofs.Common.{arith, codes, count_by, decimal, length, ap, subst, refl, ◌∙◌}
use Rattle.pgn_extract.proofs.Common.{decimal_digit, State, GameText, ReadableGame, TooLongBlock}
use Rattle.pgn_extract.proofs.Common.{UnreadableRest, Part, AmbiguousMove, IllegalMove, Replay}
use Rattle.pgn_extract.proofs.Common.{Style, All, Main, Aim, GameId, HasEntry, IsWritten, lines_in}
use Rattle.pgn_extract.proofs.Common.{selected, unselected, IsPieceExport, IsSelected, faulty_text}
use Rattle.pgn_extract.proofs.Common.{written_lines, is_chosen, AreListed, cause_text, fault_text}
use Rattle.pgn_extract.proofs.Common.{index, mark, mark_line, AreFields, Entry, IsFenField}
use Rattle.pgn_extract.proofs.Common.{IsNextField, IsNextMove, listing, Writes, AreOfPaths, AtPath}
use Rattle.pgn_extract.proofs.Common.{FileOf, IsOfPath, IsRead, IsRefused, NoFile, Order, name_at}
use Rattle.pgn_extract.proofs.Common.{own_summary, summary_text, FaultyGame, IsReplayed}
use Rattle.pgn_extract.proofs.Common.{output_text, replayed_lines, IsOutput, IsVerdict, SoundGame}
use Rattle.pgn_extract.proofs.Common.{Verdict, is_faulty, AsItStands, Record, Standard, Mode}
use Rattle.pgn_extract.proofs.Common.{heading_of, Faulty, Matching, game_id}
use Rattle.pgn_game.specs.Public.Faults.{BadStart}
use Rattle.pgn_extract.specs.Public.Several.{IsOpened}
use Rattle.pgn_extract.proofs.ChoiceFacts.{when_taken}
use Rattle.pgn_extract.proofs.TwoFiles.{plain}
use Rattle.pgn_extract.specs.declared.settings.Mode.TheVariants as modes

-- ---- lines

fault_line_is : fault_text None (game_id 2 5) (codes "unreadable")
    ≡ codes "pgn-extract: game 2@5: unreadable" ++ 10 ∷ []
fault_line_is =
    ap (λ d. codes "pgn-extract: game " ++ (d ++ 64 ∷ decimal 5) ++ codes ": " ++ codes "unreadable"
    ++ 10 ∷ [])
    (decimal_digit 2 (omega arith))
    ∙ ap (λ d. codes "pgn-extract: game 2@" ++ d ++ codes ": " ++ codes "unreadable" ++ 10 ∷ [])
    (decimal_digit 5 (omega arith))

-- in a run over several files it has the name of the file
named_fault_line : (id : GameId) (cause : List ℕ) → fault_text (Some (codes "a.pgn")) id cause
    ≡ codes "pgn-extract: a.pgn: game " ++ mark id ++ codes ": " ++ cause ++ 10 ∷ []
named_fault_line id cause = refl

causes_are : (cause_text BadStart ≡ codes "bad position")
    × (cause_text (IllegalMove (codes "Qxh8") 1) ≡ codes "illegal move Qxh8 at ply 1")
    × (cause_text (AmbiguousMove (codes "Nd2") 3) ≡ codes "ambiguous move Nd2 at ply 3")
causes_are = (
  refl,
  ap (λ d. codes "illegal move Qxh8 at ply " ++ d) (decimal_digit 1 (omega arith)),
  ap (λ d. codes "ambiguous move Nd2 at ply " ++ d) (decimal_digit 3 (omega arith)),
)

-- games that can be read are in the index, each under its own number and offset, and nothing else
index_is : (name : Option (List ℕ)) (parts : List Part) (bytes : List ℕ)
    → index None name 1 (record { offset = 0; kind = UnreadableRest bytes }
    ∷ record { offset = 9; kind = ReadableGame parts } ∷ record { offset = 20; kind = TooLongBlock }
    ∷ record { offset = 31; kind = ReadableGame parts } ∷ [])
    ≡ mark_line name (game_id 2 9) ++ (mark_line name (game_id 4 31) ++ [])
index_is name parts bytes = refl

-- ---- what a line of a list shows

-- the position and the move stand after a blank where they are asked for, and nowhere else
no_fen_unasked : (replay : Replay) (ply : ℕ) → IsFenField false replay ply (codes " x") → ⊥
no_fen_unasked replay ply is = cc

no_empty_fen : (replay : Replay) (ply : ℕ) → IsFenField true replay ply [] → ⊥
no_empty_fen replay ply (position, text, there, fen, is) = cc

no_next_unasked : (replay : Replay) (ply : ℕ) → IsNextField false replay ply (codes " -") → ⊥
no_next_unasked replay ply is = cc

no_empty_next : (replay : Replay) (ply : ℕ) → IsNextField true replay ply [] → ⊥
no_empty_next replay ply (text, next, is) = cc

-- no move is shown where none is played
no_move_at_the_end : (positions : List State) → IsNextMove positions [] 0 (codes "e4") → ⊥
no_move_at_the_end positions is = cc

no_fields_unasked : (replay : Replay) (ply : ℕ)
    → AreFields (record { fen = false; next = false }) replay ply (codes " x") → ⊥
no_fields_unasked replay ply (fen, next, no_fen, no_next, is) =
    let none : codes " x" ≡ [] = is ∙ ap (λ text. text ++ next) no_fen ∙ no_next in cc

-- ---- what is written

-- a line and a record are of the main line; a game in another form is sound in the lines that are
-- kept
lines_are : (style : Style) → (lines_in Record style ≡ Main)
    × (lines_in Standard (record style { variations = true }) ≡ All)
    × (lines_in AsItStands (record style { variations = false }) ≡ Main)
lines_are style = (refl, refl, refl)

-- no sound game is written among the faulty ones, and no faulty one among those that are sought
no_sound_game : (aim : Aim) (id : GameId) (game : GameText) (replay : Replay)
    → aim.select ≡ Faulty → IsWritten aim id game replay (codes "x") → ⊥
no_sound_game aim id game replay faulty (selected is text) =
    subst (λ select. IsSelected select (HasEntry aim (heading_of game) replay)) faulty is
no_sound_game aim id game replay faulty (unselected is none) = cc

no_faulty_bytes : (aim : Aim) (id : GameId) (bytes : List ℕ) → aim.select ≡ Matching
    → IsPieceExport aim id (UnreadableRest bytes) (codes "x") → ⊥
no_faulty_bytes aim id bytes matching is =
    let none : codes "x" ≡ [] = is
    ∙ ap (λ select. faulty_text modes.Export select bytes) matching in cc

-- ---- what is reported

-- nothing is listed of a faulty game, and its line is not empty
nothing_listed : (aim : Aim) (id : GameId) (game : GameText) (line note : List ℕ)
    → IsReplayed modes.List aim id game (FaultyGame (codes "x") line note) → ⊥
nothing_listed aim id game line note (fault, first, is, noted, none) = cc

no_fault_unsaid : (mode : Mode) (aim : Aim) (id : GameId) (game : GameText) (text note : List ℕ)
    → IsReplayed mode aim id game (FaultyGame text [] note) → ⊥
no_fault_unsaid mode aim id game text note (fault, first, is, noted, written) = cc

-- all lines that are listed or written must be sound
lines_that_are_replayed : (aim : Aim)
    → replayed_lines modes.Index aim ∷ replayed_lines modes.List aim
    ∷ replayed_lines modes.EachLine aim ∷ replayed_lines modes.Export aim ∷ []
    ≡ Main ∷ Main ∷ All ∷ written_lines aim ∷ []
lines_that_are_replayed aim = refl

-- where no entry is listed, nothing goes to the output
no_line_of_no_entry : (aim : Aim) (id : GameId) (game : GameText) (replay : Replay)
    → ((entries : List Entry) → AreListed aim id game replay entries
    → codes "x" ≡ listing aim.name entries → ⊥)
    → IsOutput modes.List aim id game replay (codes "x") → ⊥
no_line_of_no_entry aim id game replay none (entries, listed, is) = none entries listed is

-- bytes that are no game are not sound
not_sound : (aim : Aim) (id : GameId) (bytes text : List ℕ) → is_chosen aim.chosen id ≡ true
    → IsVerdict aim id.number (record { offset = id.offset; kind = UnreadableRest bytes })
    (SoundGame text) → ⊥
not_sound aim id bytes text taken is =
    let by = when_taken (is_chosen aim.chosen id) _ taken is in
    let same = by.3 in cc

-- nothing is written of no piece
nothing_of_none : (aim : Aim) (err err' : Option (List ℕ)) (number : ℕ) (verdicts : List Verdict)
    → Writes aim (Some []) (Some (codes "x")) err err' number [] verdicts → ⊥
nothing_of_none aim err err' number verdicts written =
    let none : codes "x" ≡ [] = written.output ∙ ap output_text written.each in cc

-- ---- files

-- a file is opened with all its bytes, and refused for want of memory alone
not_opened_in_part : (IsOpened (FileOf (codes "ab")) (Some (codes "b")) → ⊥)
    × (IsOpened NoFile (Some []) → ⊥)
not_opened_in_part = (λ is. cc, λ is. is)

not_refused : (text : List ℕ) → IsRefused (FileOf text) NotFound → ⊥
not_refused text is = cc

-- lines are named after the path where they have names
names_are : (own : Option (List ℕ)) → name_at false (codes "a") own ≡ own
names_are own = refl

-- nothing is written of no path, and nothing goes to the output where there is no file
not_of_no_path : (order : List ℕ → Order) (known : List ℕ → AtPath)
    → AreOfPaths order known [] (codes "x") [] → ⊥
not_of_no_path order known (output, report) = cc

no_output_without_a_file : (order : Order) (path report : List ℕ)
    → IsOfPath order path NoFile (codes "x") report → ⊥
no_output_without_a_file order path report (output, names) = cc

-- without a summary nothing stands after the report
just_the_report : (order : Order) (text output report : List ℕ) → order.summary ≡ false
    → (read : IsRead order text output report) → report ≡ read.faults
just_the_report = plain

-- with one and a name, the line after it counts the pieces of the report and the faulty ones
summary_counts : (order : Order) (name text output report : List ℕ) → order.summary ≡ true
    → order.job.aim.name ≡ Some name → (read : IsRead order text output report)
    → report ≡ read.faults ++ summary_text order.job.aim.tags_first (Some name) (record {
      games = length read.reported.pieces;
      faulty = count_by is_faulty read.reported.verdicts;
      unplayed = read.summary.unplayed;
      met = read.summary.met;
    })
summary_counts order name text output report asked named read =
    let tags_first = order.job.aim.tags_first in
    let unplayed = read.summary.unplayed in
    let met = read.summary.met in
    read.is
    ∙ ap (λ asked. read.faults ++ own_summary asked tags_first order.job.aim.name read.summary)
    asked
    ∙ ap (λ name. read.faults ++ own_summary true tags_first name read.summary) named
    ∙ ap (λ games. read.faults ++ summary_text tags_first (Some name)
    (record { games = games; faulty = read.summary.faulty; unplayed = unplayed; met = met }))
    read.games
    ∙ ap (λ faulty. read.faults ++ summary_text tags_first (Some name) (record {
      games = length read.reported.pieces;
      faulty = faulty;
      unplayed = unplayed;
      met = met;
    })) read.faulty
