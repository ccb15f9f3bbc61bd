-- How the words of a comment are found and written. Nothing but the proof of their writer cites
-- these.
use Rattle.std.specs.Prelude.{◌≡◌, ℕ, ◌+◌, Bool, true, false, if◌then◌else◌, Option, Some, None}
use Rattle.std.specs.Prelude.{codes, List, [], ◌∷◌, ◌++◌, length, map}
use Rattle.pgn_text.specs.Public.Bytes.{is_white, is_empty}
use Rattle.pgn_game.specs.Public.Comments.{words_in, unbraced, later_word, closed, ties, in_front}
use Rattle.pgn_game.specs.Public.Comments.{tied, comment_tokens}
use Rattle.pgn_game.specs.Public.TextLines.{joined}
use Rattle.pgn_game.specs.Private.LineWrappers.{after_tokens, HasPut}
use Rattle.pgn_game.specs.declared.exports.comment.Found.{Found}
use Rattle.pgn_game.specs.declared.exports.line_wrapper.LineWrapper.{LineWrapper}

-- the first run of bytes that are no white space, what follows it, and what follows the white space
-- that a text begins with
abbrev pub word_front : List ℕ → List ℕ
word_front [] = []
word_front (b ∷ text) = if is_white b then [] else b ∷ word_front text

abbrev pub after_front : List ℕ → List ℕ
after_front [] = []
after_front (b ∷ text) = if is_white b then b ∷ text else after_front text

abbrev pub after_white : List ℕ → List ℕ
after_white [] = []
after_white (b ∷ text) = if is_white b then after_white text else b ∷ text

-- the words of a text whose first one was found
abbrev pub found_words : Option Found → List (List ℕ)
found_words None = []
found_words (Some found) = found.word.now ∷ words_in found.rest.now

-- the brace that ends the last token
abbrev pub closing : Bool → List ℕ
closing true = codes "}"
closing false = []

-- no closing brace stands in the text, so it is written as it is
abbrev pub IsBare : List ℕ → Type 0
IsBare text = unbraced text ≡ text

-- a text after its first bytes, which have no closing brace and stand in one word
pub record IsAfterBare (text rest : List ℕ) : Type 0 where
  pub front : List ℕ
  pub whole : text ≡ front ++ rest
  pub bare : IsBare front
  pub same : after_front rest ≡ after_front text

-- a text is a word, which is written as it is wherever it stands, and this rest
pub record IsAfterKept (text rest : List ℕ) : Type 0 where
  pub word : List ℕ
  pub whole : text ≡ word ++ rest
  pub words : words_in text ≡ word ∷ words_in rest
  pub bare : IsBare word
  pub later : later_word word ≡ word

-- a comment with this text is written as the text in braces, where it stands in one line
abbrev pub IsSpaced : List ℕ → Type 0
IsSpaced text = joined (comment_tokens false text) ≡ 123 ∷ (text ++ 125 ∷ [])

-- the rest of a text after some word, with which it is written as it stands
abbrev pub IsSpacedAfter : List ℕ → Type 0
IsSpacedAfter rest = (word : List ℕ) → joined (closed (word ∷ map later_word (words_in rest)))
    ≡ word ++ (rest ++ 125 ∷ [])

-- the word that was found is written as it is, where that is known
abbrev pub IsFoundBare : Option Found → Type 0
IsFoundBare None = Unit {0}
IsFoundBare (Some found) = found.bare ≡ true → IsBare found.word.now

-- the bytes after the first word, which was found, and one more for it
abbrev pub found_size : Option Found → ℕ
found_size None = 0
found_size (Some found) = length found.rest.now + 1

-- the tokens of words after the first one, with each command as one token, where the first of them
-- begins in a command or not
abbrev pub tied_words : Bool → List (List ℕ) → List (List ℕ)
tied_words inside words = tied (ties inside words) (closed (map later_word words))

-- what was written after a text are the words tied to the end of the text: so all words are the
-- token with them, and those that are left
abbrev pub HasTied : List ℕ → List ℕ → Bool → List (List ℕ) → List (List ℕ) → Type 0
HasTied before_it after inside words left =
    (some : List ℕ) × (after ≡ before_it ++ some)
    × ((token : List ℕ) → in_front inside token (tied_words inside words)
    ≡ (token ++ some) ∷ tied_words false left)

-- a wrapper has put the token that a word begins, of these words after it all but those that are
-- left
abbrev pub PutsTied : LineWrapper → LineWrapper → List ℕ → List ℕ → Bool → List ℕ → List (List ℕ)
    → List (List ℕ)
    → Type 0
PutsTied old new before_it after inside word words left =
    (token : List ℕ) × HasPut old new before_it after (token ∷ [])
    × (in_front inside (word ++ closing (is_empty words)) (tied_words inside words)
    ≡ token ∷ tied_words false left)

-- a wrapper that has written all but these of the tokens after what stood there
abbrev pub HasLeft : LineWrapper → LineWrapper → List ℕ → List ℕ → List (List ℕ)
    → List (List ℕ) → Type 0
HasLeft old new before after tokens left =
    (more : List (List ℕ)) → after ++ after_tokens new.width new.begun new.column (left ++ more)
    ≡ before ++ after_tokens old.width old.begun old.column (tokens ++ more)
