-- The values of the lexer's types, as the definitions of `Reading` see them.
use Rattle.std.specs.Prelude.{◌≡◌, ◌≤◌, ◌-◌, ℕ, Bool, false, List, length, take, drop, Option, Some}
use Rattle.std.specs.Prelude.{None, MatchOption, ◌==◌}
use Rattle.std.specs.Borrow.{Bor}
use Rattle.pgn_text.specs.Public.Bytes.{is_white, is_digit, is_letter, is_name_byte, is_word_byte}
use Rattle.pgn_text.specs.Public.Bytes.{is_mark, run_of, after_run}
use Rattle.pgn_text.specs.Public.Parts.{Standing as StandingOf}
use Rattle.pgn_text.specs.Private.Reading.{is_single, Kept, KeptGap, KeptComment, KeptTag, KeptMove}
use Rattle.pgn_text.specs.Private.Reading.{KeptNumber, KeptResult, KeptStray, KeptDot, KeptGlyph}
use Rattle.pgn_text.specs.Private.Reading.{KeptMarks, KeptOpen, KeptClose}
use Rattle.pgn_text.specs.Shared.StringTexts.{contents_front}
use Rattle.pgn_text.specs.Private.Steps.{State}
use Rattle.pgn_text.specs.declared.lex.class.ByteClass.{ByteClass}
use Rattle.pgn_text.specs.declared.lex.class.ByteClass.TheVariants.{White, Digit, Letter, Name}
use Rattle.pgn_text.specs.declared.lex.class.ByteClass.TheVariants.{Word, Mark, Single, Period}
use Rattle.pgn_text.specs.declared.game.progress.Progress.{Progress}
use Rattle.pgn_text.specs.declared.lex.scan.Standing.{Standing}
use Rattle.pgn_text.specs.declared.lex.token.Token.{Token}
use Rattle.pgn_text.specs.declared.lex.token.Token.TheVariants.{Gap, Comment, Tag, Move, Number}
use Rattle.pgn_text.specs.declared.lex.token.Token.TheVariants.{Result, Stray, Dot, Glyph, Marks}
use Rattle.pgn_text.specs.declared.lex.token.Token.TheVariants.{Open, Close}

-- the test of a class
abbrev pub test_of : ByteClass → ℕ → Bool
test_of White = is_white
test_of Digit = is_digit
test_of Letter = is_letter
test_of Name = is_name_byte
test_of Word = is_word_byte
test_of Mark = is_mark
test_of Single = is_single
test_of Period = λ b. b == 46

-- the flag of a class
abbrev pub flag_of : ByteClass → ℕ
flag_of White = 1
flag_of Digit = 8
flag_of Letter = 4
flag_of Name = 16
flag_of Word = 2
flag_of Mark = 32
flag_of Single = 64
flag_of Period = 128

-- the longest run from the place `from` of a block reaches to the place `end`
pub record RunTo (test : ℕ → Bool) (block : List ℕ) (from end : ℕ) : Type 0 where
  pub run : take (end - from) (drop from block) ≡ run_of test (drop from block)
  pub rest : drop end block ≡ after_run test (drop from block)
  pub forward : from ≤ end
  pub within : end ≤ length block

-- the longest contents of a string from the place `from` of a block reach to the place `end`
pub record ContentsTo (block : List ℕ) (from end : ℕ) : Type 0 where
  pub found : contents_front false (drop from block)
      ≡ Some (take (end - from) (drop from block), drop end block)
  pub forward : from ≤ end
  pub within : end ≤ length block

-- the place after the longest contents of a string from a place on, or none
abbrev pub EndsContents : List ℕ → ℕ → Option ℕ → Type 0
EndsContents block from found =
    MatchOption found (contents_front false (drop from block)
    ≡ None) (λ end. ContentsTo block from end)

-- what a token keeps of a part
abbrev pub token_of : Token → Kept
token_of Gap = KeptGap
token_of (Comment text) = KeptComment text.now
token_of (Tag name contents) = KeptTag name.now contents.now
token_of (Move word) = KeptMove word.now
token_of Number = KeptNumber
token_of Result = KeptResult
token_of Stray = KeptStray
token_of Dot = KeptDot
token_of (Glyph number) = KeptGlyph number
token_of (Marks marks) = KeptMarks marks.now
token_of Open = KeptOpen
token_of Close = KeptClose

-- what a token keeps of a part that was found, and the text after it
abbrev pub found_of : Token × Bor (List ℕ) → Kept × List ℕ
found_of found = (token_of found.0, found.1.now)

-- what a game keeps of a tag that was found in a block, by its name, its contents and the place
-- after it, and the text after it
abbrev pub tag_of : List ℕ → Bor (List ℕ) × Bor (List ℕ) × ℕ → Kept × List ℕ
tag_of block found = (KeptTag found.0.now found.1.now, drop found.2 block)

-- what a game keeps of a NAG that was found in a block, by its number and the place after it, and
-- the text after it
abbrev pub glyph_of : List ℕ → ℕ × ℕ → Kept × List ℕ
glyph_of block found = (KeptGlyph found.0, drop found.1 block)

-- how a part stands, as the definitions see it
abbrev pub standing_view : Standing → StandingOf
standing_view place = record { file_start = place.file_start; column_one = place.column_one }

-- the list after a slice
abbrev pub now_of : Bor (List ℕ) → List ℕ
now_of text = text.now

-- how far a game has been read, as the definitions see it
abbrev pub state_of : Progress → State
state_of progress =
    record { in_tags = progress.in_tags; depth = progress.depth; has_move = progress.has_move }
