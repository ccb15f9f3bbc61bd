-- Worked rows of exports: tags, comments, tokens in lines, and games on a line; and what these
-- definitions refuse.
use Rattle.std.proofs.Common.{decimal, flat_map, codes}
use Rattle.pgn_game.proofs.Common.{◌≡◌, ◌≢◌, ◌<◌, ◌+◌, ◌-◌, ◌∙◌, ℕ, Bool, true, false, List, []}
use Rattle.pgn_game.proofs.Common.{◌∷◌, ◌++◌, length, Option, None, Some, ap, refl, sym, arith}
use Rattle.pgn_game.proofs.Common.{State, IsCheck, initial, Knight, White, Black, Move, Item}
use Rattle.pgn_game.proofs.Common.{MoveText, CommentText, VariationOpen, VariationClose, Sign}
use Rattle.pgn_game.proofs.Common.{Single, Escaped, value_of_sign, LineEnd, ThenGlyph, SaysTurn}
use Rattle.pgn_game.proofs.Common.{in_first, cut_at_white, words_in, closed, braced, begins_command}
use Rattle.pgn_game.proofs.Common.{has_bracket, closes, leaves_open, in_command, ties, in_front}
use Rattle.pgn_game.proofs.Common.{tied, comment_tokens, number_tokens, IsTurnText, kept, AreTokens}
use Rattle.pgn_game.proofs.Common.{is_written, shown_tokens, without_commands, InWords, LeftOut}
use Rattle.pgn_game.proofs.Common.{Whole}
use Rattle.pgn_game.proofs.Common.{unspaced, IsStartText, promotion_letter, uci_text, IsMoveText}
use Rattle.pgn_game.proofs.Common.{AreMoveTexts, IsBeginning, played_items, after_move}
use Rattle.pgn_game.proofs.Common.{in_its_place, is_variation, LeadTo, IsPlayedThere, Replay}
use Rattle.pgn_game.proofs.Common.{roster, missing_text, escaped, IsTagText, tag_line, IsLineOf}
use Rattle.pgn_game.proofs.Common.{AreLinesOf, joined, tokens_of, text_of, IsLine, IsFull, AreLines}
use Rattle.pgn_game.proofs.Common.{Notation, Uci, Style, Main, All, LineMove, Played, Passed}
use Rattle.pgn_text.specs.Public.Strings.{spelled_sign}
use Rattle.pgn_game.specs.Public.GameLines.IsStartText.{as_initial, as_fen}
use Rattle.pgn_game.specs.Public.Refusals.{PlayedLine}
use Rattle.pgn_game.specs.Public.Replays.{IsMainReplay}
use Rattle.pgn_game.specs.Public.TagLines.{IsValueText}
use Rattle.pgn_game.specs.Public.PlayedLines as played

-- Lines that are played.

no_pass_in_check : (now : State) (word : List ℕ) → IsCheck now.men now.turn
    → SaysTurn true now word Passed → ⊥
no_pass_in_check now word check says = says check

no_pass_outside : (now : State) (word : List ℕ) → SaysTurn false now word Passed → ⊥
no_pass_outside now word says = says

no_move_of_a_pass : (now : State) (word : List ℕ) (m : Move) → SaysTurn true now word (Played m) → ⊥
no_move_of_a_pass now word m says = says

no_turns_of_main_lines : (fen : Option (List ℕ)) (items : List Item) (replay : Replay)
    → replay.turns ≢ [] → IsMainReplay fen items replay → ⊥
no_turns_of_main_lines fen items replay some is = some is.turns

no_word_where_none_is : (old new : played.PlayedLine) → old.words ≡ []
    → played.PlaysWord old new → ⊥
no_word_where_none_is old new none plays = let both = sym none ∙ plays.words in cc

no_ply_uncounted : (old new : played.PlayedLine) → new.plies ≡ old.plies
    → played.PlaysWord old new → ⊥
no_ply_uncounted old new same plays = omega (arith, same, plays.plies)

no_ply_past_the_most : (start : State) (words : List (List ℕ)) (most : ℕ) (beginning : Replay)
    → most < length beginning.played → IsBeginning start words most beginning → ⊥
no_ply_past_the_most start words most beginning more is = omega (arith, more, is.few)

-- Words that are refused: which are played before them.

-- e4 e5 (d5) with a comment
abbrev some_items : List Item
some_items =
    MoveText (codes "e4") ∷ MoveText (codes "e5") ∷ VariationOpen ∷ MoveText (codes "d5")
    ∷ VariationClose ∷ CommentText (codes "x") ∷ []

main_line_is_played : played_items Main some_items 0 ≡ MoveText (codes "e4")
    ∷ MoveText (codes "e5") ∷ []
main_line_is_played = refl

all_lines_are_played : played_items All some_items 0 ≡ some_items
all_lines_are_played = refl

line_goes_on : (line : PlayedLine) (turn : LineMove) → (after_move line turn).before ≡ line.now
line_goes_on line turn = refl

ply_is_counted : (line : PlayedLine) (turn : LineMove) → (after_move line turn).plies
    ≡ line.plies + 1
ply_is_counted line turn = refl

variation_goes_back : (line : PlayedLine)
    → in_its_place line ≡ record { before = line.before; now = line.before; plies = line.plies - 1 }
variation_goes_back line = refl

main_line_is_no_variation : is_variation [] ≡ false
main_line_is_no_variation = refl

line_in_another_is_one : (line : PlayedLine) → is_variation (line ∷ []) ≡ true
line_in_another_is_one line = refl

no_variation_of_none : (line last : PlayedLine) → LeadTo [] line [] true last → ⊥
no_variation_of_none line last lead = let inside = lead.0 in cc

no_other_line : (line last : PlayedLine) → last ≢ line → LeadTo [] line [] false last → ⊥
no_other_line line last other lead = other lead.1

no_word_of_a_variation : IsPlayedThere Main (VariationOpen ∷ []) 1 → ⊥
no_word_of_a_variation there = let played = there (codes "e4") in cc

-- Tags.

names_of_the_roster : roster ≡ codes "Event" ∷ codes "Site" ∷ codes "Date" ∷ codes "Round"
    ∷ codes "White"
    ∷ codes "Black" ∷ codes "Result" ∷ []
names_of_the_roster = refl

result_stands_for_itself : missing_text (codes "1-0") (codes "Result") ≡ codes "1-0"
result_stands_for_itself = refl

date_is_unknown : missing_text (codes "1-0") (codes "Date") ≡ codes "????.??.??"
date_is_unknown = refl

player_is_unknown : missing_text (codes "1-0") (codes "White") ≡ codes "?"
player_is_unknown = refl

line_of_a_tag : tag_line (codes "Round") (codes "3") ≡ codes "[Round " ++ 34 ∷ 51 ∷ 34 ∷ 93 ∷ 10
    ∷ []
line_of_a_tag = refl

no_text_for_a_missing_tag : IsTagText None (codes "?") (codes "x") → ⊥
no_text_for_a_missing_tag is = cc

no_value_of_no_contents : IsValueText [] (codes "x") → ⊥
no_value_of_no_contents (value, (signs, is), text) = none signs is.spells is.gives text
  where
    none : (signs : List Sign) → [] ≡ flat_map spelled_sign signs → value
        ≡ flat_map value_of_sign signs → codes "x" ≡ flat_map escaped value → ⊥
    none [] spells gives text = let same = ap (flat_map escaped) gives in cc
    none (Single b ∷ more) spells gives text = cc
    none (Escaped b ∷ more) spells gives text = cc

no_line_without_a_bracket : IsLineOf (codes "*") (codes "Event") None (codes "x") → ⊥
no_line_without_a_bracket (text, is, line) = cc

no_line_of_no_tag : AreLinesOf [] (codes "*") [] (codes "x") → ⊥
no_line_of_no_tag are = cc

-- Comments.

byte_before_a_word : in_first 97 (codes "b" ∷ codes "c" ∷ []) ≡ codes "ab" ∷ codes "c" ∷ []
byte_before_a_word = refl

text_is_cut : cut_at_white (codes "a  b") ≡ codes "a" ∷ [] ∷ codes "b" ∷ []
text_is_cut = refl

words_of_a_text : words_in (codes " ab  c ") ≡ codes "ab" ∷ codes "c" ∷ []
words_of_a_text = refl

brace_is_closed : closed (codes "a" ∷ codes "b" ∷ []) ≡ codes "a" ∷ codes "b}" ∷ []
brace_is_closed = refl

empty_comment : braced [] ≡ codes "{}" ∷ []
empty_comment = refl

words_in_braces : braced (codes "a}" ∷ codes "b" ∷ []) ≡ codes "{a)" ∷ codes "b}" ∷ []
words_in_braces = refl

-- no later word begins an event line or an escape
tokens_of_a_comment : comment_tokens false (codes "%a [Event %b [Events") ≡ codes "{%a"
    ∷ codes "(Event" ∷ codes "(%b"
    ∷ codes "[Events}" ∷ []
tokens_of_a_comment = refl

-- Commands of comments.

command_begins :
    begins_command (codes "[%clk") ∷ begins_command (codes "[ %clk") ∷ begins_command (codes "%clk")
    ∷ [] ≡ true ∷ false ∷ false ∷ []
command_begins = refl

bracket_stands_in_a_text : has_bracket (codes "a]b") ∷ has_bracket (codes "a[b") ∷ [] ≡ true
    ∷ false ∷ []
bracket_stands_in_a_text = refl

bracket_closes : closes (codes "0:01] [%b") ∷ closes (codes "a [%b c]") ∷ closes (codes "a b")
    ∷ [] ≡ true ∷ false ∷ false ∷ []
bracket_closes = refl

word_leaves_open :
    leaves_open (codes "[%a") ∷ leaves_open (codes "b][%c") ∷ leaves_open (codes "[%a]")
    ∷ leaves_open (codes "[a")
    ∷ [] ≡ true ∷ true ∷ false ∷ false ∷ []
word_leaves_open = refl

space_in_a_command :
    in_command false (codes "[%a") (codes "b]") ∷ in_command true (codes "b") (codes "c]")
    ∷ in_command true (codes "b]") (codes "c]")
    ∷ in_command false (codes "b") (codes "c]") ∷ [] ≡ true ∷ true ∷ false ∷ false ∷ []
space_in_a_command = refl

ties_of_words :
    ties false (codes "[%a" ∷ codes "b" ∷ codes "c]" ∷ codes "[%d" ∷ codes "e" ∷ []) ≡ true
    ∷ true ∷ false
    ∷ false ∷ false ∷ []
ties_of_words = refl

token_before_others : in_front true (codes "a") (codes "b" ∷ codes "c" ∷ [])
    ≡ codes "a b" ∷ codes "c"
    ∷ []
token_before_others = refl

tokens_are_tied :
    tied (true ∷ false ∷ true ∷ []) (codes "a" ∷ codes "b" ∷ codes "c" ∷ []) ≡ codes "a b"
    ∷ codes "c" ∷ []
tokens_are_tied = refl

commands_are_whole :
    comment_tokens true (codes "x [%clk  0:01:00] [%csl Ra1][%cal Gb1b4, Ga1a2] y") ≡ codes "{x"
    ∷ codes "[%clk 0:01:00]"
    ∷ codes "[%csl Ra1][%cal Gb1b4, Ga1a2]" ∷ codes "y}" ∷ []
commands_are_whole = refl

commands_are_broken : comment_tokens false (codes "[%clk 0:01:00]") ≡ codes "{[%clk"
    ∷ codes "0:01:00]}" ∷ []
commands_are_broken = refl

-- of two that begin before a closing bracket, the second is one
one_in_another : comment_tokens true (codes "[%a b [%c d] [%e f") ≡ codes "{[%a" ∷ codes "b"
    ∷ codes "[%c d]"
    ∷ codes "[%e" ∷ codes "f}" ∷ []
one_in_another = refl

no_command_without_its_end : comment_tokens true (codes "[%clk 0:01:00")
    ≡ codes "{[%clk 0:01:00}" ∷ [] → ⊥
no_command_without_its_end whole = cc

no_command_without_its_sign : comment_tokens true (codes "[clk 0:01:00]")
    ≡ codes "{[clk 0:01:00]}" ∷ [] → ⊥
no_command_without_its_sign whole = cc

-- in place of a command stands a space; of two that begin before a closing bracket, the first is
-- none, and loses its sign
commands_left_out : without_commands (codes "a[%b c]d [%e f [%g] h [%i")
    ≡ codes "a d (%e f   h (%i"
commands_left_out = refl

brackets_around : without_commands (codes "[[%a]") ∷ without_commands (codes "[%]")
    ∷ without_commands (codes "[%[%]x") ∷ []
    ≡ codes "[ " ∷ codes " " ∷ codes "(% x" ∷ []
brackets_around = refl

only_commands_left_out : without_commands (codes "[a] %b]c [ %d") ≡ codes "[a] %b]c [ %d"
only_commands_left_out = refl

-- a comment that has no word beside its commands is not written without them, and else it is
which_is_written : is_written LeftOut (codes " [%a b] ") ∷ is_written LeftOut (codes "[%a] b")
    ∷ is_written LeftOut [] ∷ is_written Whole (codes "[%a b]") ∷ is_written InWords [] ∷ []
    ≡ false ∷ true ∷ false ∷ true ∷ true ∷ []
which_is_written = refl

tokens_by_commands : shown_tokens LeftOut (codes "a [%b c]") ∷ shown_tokens Whole (codes "a [%b c]")
    ∷ shown_tokens InWords (codes "a [%b c]") ∷ []
    ≡ (codes "{a}" ∷ []) ∷ (codes "{a" ∷ codes "[%b c]}" ∷ [])
    ∷ (codes "{a" ∷ codes "[%b" ∷ codes "c]}" ∷ []) ∷ []
tokens_by_commands = refl

no_comment_without_commands : is_written LeftOut (codes "[%a b]") ≡ true → ⊥
no_comment_without_commands shown = cc

-- Tokens in lines.

tokens_with_spaces : joined (codes "1." ∷ codes "e4" ∷ codes "*" ∷ []) ≡ codes "1. e4 *"
tokens_with_spaces = refl

tokens_of_lines : tokens_of ((codes "1." ∷ codes "e4" ∷ []) ∷ (codes "*" ∷ []) ∷ [])
    ≡ codes "1." ∷ codes "e4"
    ∷ codes "*" ∷ []
tokens_of_lines = refl

lines_one_below_another :
    text_of ((codes "1." ∷ codes "e4" ∷ []) ∷ (codes "*" ∷ []) ∷ []) ≡ codes "1. e4" ++ 10 ∷ 42
    ∷ 10 ∷ []
lines_one_below_another = refl

no_empty_line : (width : ℕ) → IsLine width [] → ⊥
no_empty_line width line = line

no_line_past_the_width : IsLine 4 (codes "1." ∷ codes "e4" ∷ []) → ⊥
no_line_past_the_width line = omega (arith, line)

no_line_that_takes_more : IsFull 5 (codes "1." ∷ []) ((codes "e4" ∷ []) ∷ []) → ⊥
no_line_that_takes_more full = omega (arith, full)

no_lines_past_the_width : AreLines 4 ((codes "1." ∷ codes "e4" ∷ []) ∷ []) → ⊥
no_lines_past_the_width are = omega (arith, are.0)

no_lines_that_take_more : AreLines 5 ((codes "1." ∷ []) ∷ (codes "e4" ∷ []) ∷ []) → ⊥
no_lines_that_take_more are = omega (arith, are.1)

-- The movetext.

number_of_white : number_tokens White 12 false ≡ (decimal 12 ++ codes ".") ∷ []
number_of_white = refl

number_of_black_apart : number_tokens Black 12 true ≡ (decimal 12 ++ codes "...") ∷ []
number_of_black_apart = refl

no_number_of_black : number_tokens Black 12 false ≡ []
no_number_of_black = refl

no_text_of_a_pass : (now : State) → IsTurnText now Passed (codes "x") → ⊥
no_text_of_a_pass now is = cc

tokens_are_kept : kept true (codes "a" ∷ []) ≡ codes "a" ∷ []
tokens_are_kept = refl

tokens_are_left_out : kept false (codes "a" ∷ []) ≡ []
tokens_are_left_out = refl

no_token_of_no_line : (style : Style) (now : State)
    → AreTokens style false now now true LineEnd (codes "x" ∷ []) → ⊥
no_token_of_no_line style now are = cc

no_glyph_is_lost : (style : Style) (now : State) → style.glyphs ≡ true
    → AreTokens style false now now true (ThenGlyph 1 LineEnd) [] → ⊥
no_glyph_is_lost style now keeps (more, tokens, rest) = by style.glyphs keeps tokens
  where
    by : (glyphs : Bool) → glyphs ≡ true → [] ≡ kept glyphs ((36 ∷ decimal 1) ∷ []) ++ more → ⊥
    by true keeps tokens = cc
    by false keeps tokens = cc

-- Games on a line.

spaces_of_positions : unspaced 32 ∷ unspaced 47 ∷ [] ≡ codes "_/"
spaces_of_positions = refl

no_text_of_the_first_position : (start : State) → start ≡ initial
    → IsStartText start (codes "x") → ⊥
no_text_of_the_first_position start first of = none of
  where
    no_dash : codes "x" ≡ codes "-" → ⊥
    no_dash text = cc

    none : IsStartText start (codes "x") → ⊥
    none (as_initial is text) = no_dash text
    none (as_fen other fen is text) = other first

knight_in_lower_case : promotion_letter (Some Knight) ≡ codes "n"
knight_in_lower_case = refl

nothing_becomes_nothing : promotion_letter None ≡ []
nothing_becomes_nothing = refl

-- e7 to e8, where the pawn becomes a knight
abbrev some_promotion : Move
some_promotion =
    record {
      from = record { file = 5; rank = 7 };
      to = record { file = 5; rank = 8 };
      promote = Some Knight;
      castle = None;
    }

squares_and_letter : uci_text some_promotion ≡ codes "e7e8n"
squares_and_letter = refl

no_other_text_of_it : (now : State) → IsMoveText Uci now some_promotion (codes "e7e8") → ⊥
no_other_text_of_it now is = cc

no_text_of_no_move : (notation : Notation) (now : State)
    → AreMoveTexts notation now [] (codes "x") → ⊥
no_text_of_no_move notation now are = cc
