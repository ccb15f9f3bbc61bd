-- A comment as tokens: its words, the first after an opening brace and the last before a closing
-- one; where its commands are kept whole, the words of each command as one token; and what is left
-- of it without its commands.
use Rattle.std.specs.Prelude.{◌≡◌, ℕ, Bool, true, false, not, ◌&&◌, ◌||◌, ◌==◌, if◌then◌else◌}
use Rattle.std.specs.Prelude.{List, [], ◌∷◌, ◌++◌, map, filter, bytes_eq, codes}
use Rattle.std.specs.List.{list_any}
use Rattle.pgn_text.specs.Public.Bytes.{is_white, is_empty, begins}
use Rattle.pgn_game.specs.Public.TextLines.{joined}
use Rattle.pgn_game.specs.declared.exports.style.Commands.{Commands}
use Rattle.pgn_game.specs.declared.exports.style.Commands.TheVariants.{InWords, Whole, LeftOut}

-- the text cut at each white byte
abbrev pub in_first : ℕ → List (List ℕ) → List (List ℕ)
in_first b [] = (b ∷ []) ∷ []
in_first b (piece ∷ more) = (b ∷ piece) ∷ more

abbrev pub cut_at_white : List ℕ → List (List ℕ)
cut_at_white [] = [] ∷ []
cut_at_white (b ∷ text) = if is_white b then [] ∷ cut_at_white text
    else in_first b (cut_at_white text)

-- its words: the longest runs of bytes that are no white space
abbrev pub words_in : List ℕ → List (List ℕ)
words_in text = filter (λ piece. not (is_empty piece)) (cut_at_white text)

-- a comment is written in braces, and no brace may stand in it (PGN 5): a closing one is written
-- `)`
abbrev pub unbraced : List ℕ → List ℕ
unbraced word = map (λ b. if b == 125 then 41 else b) word

-- a word that may stand at the beginning of a line, where it must be neither an event line nor an
-- escape (PGN 6)
abbrev pub later_word : List ℕ → List ℕ
later_word word =
    if bytes_eq word (codes "[Event") then codes "(Event"
    else (if begins (λ b. b == 37) word then 40 ∷ unbraced word else unbraced word)

-- the last token has the closing brace
abbrev pub closed : List (List ℕ) → List (List ℕ)
closed [] = []
closed (token ∷ []) = (token ++ codes "}") ∷ []
closed (token ∷ next ∷ more) = token ∷ closed (next ∷ more)

abbrev pub braced : List (List ℕ) → List (List ℕ)
braced [] = codes "{}" ∷ []
braced (word ∷ more) = closed ((123 ∷ unbraced word) ∷ map later_word more)

-- the text begins with that of a command, as `[%clk 0:01:00]`
abbrev pub begins_command : List ℕ → Bool
begins_command [] = false
begins_command (b ∷ text) = b == 91 && begins (λ c. c == 37) text

-- a closing bracket stands in the text
abbrev pub has_bracket : List ℕ → Bool
has_bracket text = list_any (λ b. b == 93) text

-- a closing bracket stands in the text before any `[%`
abbrev pub closes : List ℕ → Bool
closes [] = false
closes (b ∷ text) = b == 93 || (not (begins_command (b ∷ text)) && closes text)

-- a `[%` stands in the text with no closing bracket after it
abbrev pub leaves_open : List ℕ → Bool
leaves_open [] = false
leaves_open (b ∷ text) = (begins_command (b ∷ text) && not (has_bracket text)) || leaves_open text

-- white space between the word and what follows stands in a command, which the word begins, or in
-- which it begins; a `[%` whose closing bracket is missing, or stands after another `[%`, begins
-- none
abbrev pub in_command : Bool → List ℕ → List ℕ → Bool
in_command inside word rest = if leaves_open word then closes rest
    else inside && not (has_bracket word)

-- for each word, whether white space after it stands in a command; `inside` where the first one
-- begins in a command
abbrev pub ties : Bool → List (List ℕ) → List Bool
ties inside [] = []
ties inside (word ∷ more) = in_command inside word (joined more)
    ∷ ties (in_command inside word (joined more)) more

-- a token before others: where it is tied to the next one, it is one token with it, with a space
-- between them
abbrev pub in_front : Bool → List ℕ → List (List ℕ) → List (List ℕ)
in_front tie token [] = token ∷ []
in_front tie token (next ∷ more) = if tie then (token ++ 32 ∷ next) ∷ more else token ∷ next ∷ more

abbrev pub tied : List Bool → List (List ℕ) → List (List ℕ)
tied [] tokens = tokens
tied (tie ∷ more) [] = []
tied (tie ∷ more) (token ∷ tokens) = in_front tie token (tied more tokens)

-- the tokens of a comment, where commands are kept whole or not: it has the same words in the same
-- order either way
abbrev pub comment_tokens : Bool → List ℕ → List (List ℕ)
comment_tokens commands text =
    tied (if commands then ties false (words_in text) else []) (braced (words_in text))

-- the text outside its commands, with a space in the place of each; a `[%` that begins none is
-- written `(%`; `inside` where the text begins in one
abbrev pub outside : Bool → List ℕ → List ℕ
outside inside [] = []
outside true (b ∷ text) = outside (not (b == 93)) text
outside false (b ∷ text) = if begins_command (b ∷ text)
    then (if closes text then 32 ∷ outside true text else 40 ∷ outside false text)
    else b ∷ outside false text

-- the text without its commands
abbrev pub without_commands : List ℕ → List ℕ
without_commands text = outside false text

-- a comment is written, but for one that has no word beside its commands where these are left out
abbrev pub is_written : Commands → List ℕ → Bool
is_written InWords text = true
is_written Whole text = true
is_written LeftOut text = not (is_empty (words_in (without_commands text)))

-- the tokens of a comment that is written
abbrev pub shown_tokens : Commands → List ℕ → List (List ℕ)
shown_tokens InWords text = comment_tokens false text
shown_tokens Whole text = comment_tokens true text
shown_tokens LeftOut text = comment_tokens false (without_commands text)

-- a `[%` stands in the text
abbrev pub has_command_sign : List ℕ → Bool
has_command_sign [] = false
has_command_sign (b ∷ text) = begins_command (b ∷ text) || has_command_sign text

-- without its commands a text has no `[%`
abbrev pub NoCommandIsLeft : Type 0
NoCommandIsLeft = (text : List ℕ) → has_command_sign (without_commands text) ≡ false

-- and a text that has none is left as it is
abbrev pub OtherTextsAreLeft : Type 0
OtherTextsAreLeft =
    (text : List ℕ) → has_command_sign text ≡ false → without_commands text ≡ text

-- a command after a text without any becomes a space, and what follows is as by itself
abbrev pub CommandIsASpace : Type 0
CommandIsASpace =
    (front body rest : List ℕ) → has_command_sign front ≡ false → has_command_sign body ≡ false
    → has_bracket body ≡ false
    → without_commands (front ++ 91 ∷ 37 ∷ (body ++ 93 ∷ rest))
    ≡ front ++ 32 ∷ without_commands rest

-- a `[%` that begins no command, after a text without any, loses its bracket alone
abbrev pub LoneSignIsBroken : Type 0
LoneSignIsBroken =
    (front rest : List ℕ) → has_command_sign front ≡ false → closes rest ≡ false
    → without_commands (front ++ 91 ∷ 37 ∷ rest) ≡ front ++ 40 ∷ 37 ∷ without_commands rest
