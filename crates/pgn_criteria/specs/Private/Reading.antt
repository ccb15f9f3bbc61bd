-- How lines are read: the words that the code equals.
use Rattle.std.specs.Prelude.{◌≡◌, ◌≢◌, true, false, ℕ, ◌-◌, ◌++◌, ◌==◌, if◌then◌else◌, Bool, List}
use Rattle.std.specs.Prelude.{[], ◌∷◌, reverse, IsTrue, map}
use Rattle.chess.specs.Public.Fen.{is_digit, is_distinct, parted_at}
use Rattle.chess.specs.Public.Letters.{kind_letter}
use Rattle.chess.specs.declared.board.man.Kind.{Kind}
use Rattle.pgn_criteria.specs.Public.Words.{is_blank}
use Rattle.pgn_criteria.specs.declared.material.Limit.{Limit}
use Rattle.pgn_criteria.specs.declared.material.Limit.TheVariants.{Exactly, AtLeast, AtMost}
use Rattle.pgn_criteria.specs.declared.material.Limit.TheVariants.{AnyNumber}
use Rattle.pgn_criteria.specs.Public.Conditions.{Conditions}
use Rattle.pgn_criteria.specs.declared.line.Meaning.{Meaning}
use Rattle.pgn_criteria.specs.declared.line.Meaning.TheVariants.{Nothing, Or, Asks}
use Rattle.pgn_criteria.specs.Public.Lines.{SpellsEntries, AreNames}
use Rattle.pgn_criteria.specs.Private.Stages.{condition_seen}

-- the first run of bytes that are no blanks, what follows it, and what follows the blanks that a
-- text begins with
abbrev pub run_of : List ℕ → List ℕ
run_of [] = []
run_of (b ∷ x) = if is_blank b then [] else b ∷ run_of x

abbrev pub after_run : List ℕ → List ℕ
after_run [] = []
after_run (b ∷ x) = if is_blank b then b ∷ x else after_run x

abbrev pub after_blanks : List ℕ → List ℕ
after_blanks [] = []
after_blanks (b ∷ x) = if is_blank b then after_blanks x else b ∷ x

-- what follows the first word and the blanks after it
abbrev pub after_word : List ℕ → List ℕ
after_word text = after_blanks (after_run text)

-- a line that is read from its end: without the carriage return that ends it
abbrev pub drop_return : List ℕ → List ℕ
drop_return [] = []
drop_return (b ∷ x) = if b == 13 then x else b ∷ x

-- a line without the carriage return at its end and the blanks about it
abbrev pub core_of : List ℕ → List ℕ
core_of line = after_blanks (reverse (after_blanks (drop_return (reverse line))))

-- the limit that a text begins with, after the letter of a kind, and what follows it
abbrev pub digit_limit : ℕ → List ℕ → Limit × List ℕ
digit_limit n [] = (Exactly n, [])
digit_limit n (b ∷ x) = if b == 43 then (AtLeast n, x) else if b == 45 then (AtMost n, x)
    else (Exactly n, b ∷ x)

abbrev pub first_limit : List ℕ → Limit × List ℕ
first_limit [] = (Exactly 1, [])
first_limit (b ∷ x) = if b == 42 then (AnyNumber, x) else if is_digit b then digit_limit (b - 48) x
    else (Exactly 1, b ∷ x)

-- the limit after the first place of a letter; without one, none
abbrev pub limit_after : ℕ → List ℕ → Limit
limit_after letter [] = Exactly 0
limit_after letter (b ∷ x) = if b == letter then (first_limit x).0 else limit_after letter x

-- the meaning of a line by the bytes of its texts
abbrev pub meaning_seen : {T : Type 0} → (T → List ℕ) → Meaning T → Meaning (List ℕ)
meaning_seen bytes Nothing = Nothing
meaning_seen bytes Or = Or
meaning_seen bytes (Asks condition) = Asks (condition_seen bytes condition)

-- letters of kinds with their limits, no letter twice, or nothing
abbrev pub AreEntries : List ℕ → Type 0
AreEntries text = (entries : List (Kind × Limit)) × SpellsEntries text entries
    × IsTrue (is_distinct (map (λ entry. kind_letter entry.0) entries))

-- the conditions of both, those of the first before the others
abbrev pub joined : Conditions → Conditions → Conditions
joined c d =
    record {
      games = c.games ++ d.games;
      positions = c.positions ++ d.positions;
      moves =
          c.moves ++ d.moves;
      spans = c.spans ++ d.spans;
    }

-- alternatives after those that are done, where the first goes on with the one that is open
abbrev pub with_open : List Conditions → Conditions → List Conditions → List Conditions
with_open done begun [] = done ++ (begun ∷ [])
with_open done begun (first ∷ more) = done ++ (joined begun first ∷ more)

-- whether a text begins with the word, and what follows that word, or else the text itself
abbrev pub ReadsWord : List ℕ → List ℕ → Bool → List ℕ → Type 0
ReadsWord word text true own = (run_of text ≡ word) × (own ≡ after_word text)
ReadsWord word text false own = (run_of text ≢ word) × (own ≡ text)

-- the words of the text: a key word, names of tags with | between, and an operator; and what
-- follows them
pub record ReadsNamed (key text names operator own : List ℕ) : Type 0 where
  pub key_is : run_of text ≡ key
  pub name_is : run_of (after_word text) ≡ names
  pub are : AreNames (parted_at 124 names)
  pub operator_is : run_of (after_word (after_word text)) ≡ operator
  pub own_is : after_word (after_word (after_word text)) ≡ own

-- the byte *
abbrev pub is_star : ℕ → Bool
is_star b = b == 42
