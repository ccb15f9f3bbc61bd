-- What the lines of a criteria file spell. Lines are parted by line feeds, words by blanks.
use Rattle.std.specs.Prelude.{◌≡◌, ◌≢◌, ◌⊎◌, ◌++◌, ◌+◌, ◌≤◌, ◌<◌, ◌||◌, ◌==◌, ℕ, Bool, true, false}
use Rattle.std.specs.Prelude.{nat_le, List, [], ◌∷◌, codes, IsTrue, length, map}
use Rattle.std.specs.List.{list_all}
use Rattle.chess.specs.Public.Fen.{parted_at, is_distinct, is_digit, number_from}
use Rattle.chess.specs.Public.FirstFields.{GivesPosition}
use Rattle.chess.specs.Public.Letters.{kind_letter}
use Rattle.pgn_text.specs.Public.Bytes.{is_name_byte, is_letter}
use Rattle.pgn_text.specs.Public.Strings.{IsContents}
use Rattle.pgn_text.specs.Public.GameTexts.{IsResult}
use Rattle.chess.specs.declared.board.man.Kind.{Kind}
use Rattle.chess.specs.declared.board.man.Side.{Side}
use Rattle.chess.specs.declared.board.man.Side.TheVariants.{White, Black}
use Rattle.pgn_criteria.specs.Public.Words.{is_blank}
use Rattle.pgn_criteria.specs.Public.Patterns.{IsPattern}
use Rattle.pgn_criteria.specs.Public.Materials.{limit_of}
use Rattle.pgn_criteria.specs.Public.Mirrors.{can_be_mirrored}
use Rattle.pgn_criteria.specs.declared.compare.Comparison.{Comparison}
use Rattle.pgn_criteria.specs.declared.compare.Comparison.TheVariants as compared
use Rattle.pgn_criteria.specs.declared.compare.Relation.{Relation}
use Rattle.pgn_criteria.specs.declared.compare.Relation.TheVariants.{Equal, Unequal, Less}
use Rattle.pgn_criteria.specs.declared.compare.Relation.TheVariants.{LessOrEqual, Greater}
use Rattle.pgn_criteria.specs.declared.compare.Relation.TheVariants.{GreaterOrEqual, Has, Begins}
use Rattle.pgn_criteria.specs.declared.material.Limit.{Limit}
use Rattle.pgn_criteria.specs.declared.material.Limit.TheVariants.{Exactly, AtLeast, AtMost}
use Rattle.pgn_criteria.specs.declared.material.Limit.TheVariants.{AnyNumber}
use Rattle.pgn_criteria.specs.declared.material.Limits.{Limits}
use Rattle.pgn_criteria.specs.declared.line.Meaning.{Meaning}
use Rattle.pgn_criteria.specs.declared.line.Meaning.TheVariants.{Nothing, Or, Asks}
use Rattle.pgn_criteria.specs.declared.parse.CriteriaError.{CriteriaError}
use Rattle.pgn_criteria.specs.declared.parse.CriteriaError.TheVariants.{TooLong, Line, OutOfMemory}
use Rattle.pgn_criteria.specs.Public.Conditions.{Conditions, no_conditions, with_condition}
use Rattle.pgn_criteria.specs.declared.condition.Condition.{Condition}
use Rattle.pgn_criteria.specs.declared.condition.Condition.TheVariants.{Game, Position, Move, Span}
use Rattle.pgn_criteria.specs.declared.condition.ValueClaim.{ValueClaim}
use Rattle.pgn_criteria.specs.declared.condition.ValueClaim.TheVariants.{Text, Number, Date}
use Rattle.pgn_criteria.specs.declared.dates.Days.{Days}
use Rattle.pgn_criteria.specs.declared.condition.GameClaim.{GameClaim}
use Rattle.pgn_criteria.specs.declared.condition.GameClaim.TheVariants.{Tag, Moves, Plies, Result}
use Rattle.pgn_criteria.specs.declared.condition.PositionClaim.{PositionClaim}
use Rattle.pgn_criteria.specs.declared.condition.PositionClaim.TheVariants.{Fen, Flip, Material}
use Rattle.pgn_criteria.specs.declared.condition.PositionClaim.TheVariants.{Turn, Check, Mate}
use Rattle.pgn_criteria.specs.declared.condition.PositionClaim.TheVariants.{Stalemate}
use Rattle.pgn_criteria.specs.declared.condition.MoveClaim.{MoveClaim}
use Rattle.pgn_criteria.specs.declared.condition.MoveClaim.TheVariants.{Next, Played, Setup}
use Rattle.pgn_criteria.specs.declared.condition.SpanClaim.{SpanClaim}
use Rattle.pgn_criteria.specs.declared.condition.SpanClaim.TheVariants.{For, Count}

-- blanks, which are spaces and tabs; or none
abbrev pub AreBlanks : List ℕ → Type 0
AreBlanks text = IsTrue (list_all is_blank text)

-- one or more blanks
abbrev pub IsGap : List ℕ → Type 0
IsGap text = (text ≢ []) × AreBlanks text

-- the name of a side
abbrev pub side_text : Side → List ℕ
side_text White = codes "white"
side_text Black = codes "black"

-- the sign or the word of a relation
abbrev pub relation_text : Relation → List ℕ
relation_text Equal = codes "="
relation_text Unequal = codes "<>"
relation_text Less = codes "<"
relation_text LessOrEqual = codes "<="
relation_text Greater = codes ">"
relation_text GreaterOrEqual = codes ">="
relation_text Has = codes "has"
relation_text Begins = codes "begins"

-- the sign of a comparison
abbrev pub comparison_text : Comparison → List ℕ
comparison_text compared.Equal = codes "="
comparison_text compared.Unequal = codes "<>"
comparison_text compared.Less = codes "<"
comparison_text compared.LessOrEqual = codes "<="
comparison_text compared.Greater = codes ">"
comparison_text compared.GreaterOrEqual = codes ">="

-- the limit of a kind, after its letter
pub data SpellsLimit : List ℕ → Limit → Type 0 where
  -- nothing: exactly one
  one : SpellsLimit [] (Exactly 1)
  -- a digit: exactly that many; with + after it at least, with - at most
  exactly : (n : ℕ) → n ≤ 9 → SpellsLimit ((48 + n) ∷ []) (Exactly n)
  at_least : (n : ℕ) → n ≤ 9 → SpellsLimit ((48 + n) ∷ 43 ∷ []) (AtLeast n)
  at_most : (n : ℕ) → n ≤ 9 → SpellsLimit ((48 + n) ∷ 45 ∷ []) (AtMost n)
  -- *: any number
  any : SpellsLimit (42 ∷ []) AnyNumber

-- letters of kinds, each with its limit after it
abbrev pub SpellsEntries : List ℕ → List (Kind × Limit) → Type 0
SpellsEntries text [] = text ≡ []
SpellsEntries text (entry ∷ more) = (own rest : List ℕ)
    × (text ≡ kind_letter entry.0 ∷ (own ++ rest)) × SpellsLimit own entry.1
    × SpellsEntries rest more

-- the limit that is given to the kind: a kind that is not named has no men
abbrev pub IsLimitIn : List (Kind × Limit) → Kind → Limit → Type 0
IsLimitIn [] wanted limit = limit ≡ Exactly 0
IsLimitIn (entry ∷ more) wanted limit =
    ((entry.0 ≡ wanted) × (limit ≡ entry.1)) ⊎ ((entry.0 ≢ wanted) × IsLimitIn more wanted limit)

-- the limits of a side: one or more kinds, no letter twice
abbrev pub SpellsLimits : List ℕ → Limits → Type 0
SpellsLimits text limits = (entries : List (Kind × Limit)) × (entries ≢ [])
    × SpellsEntries text entries
    × IsTrue (is_distinct (map (λ entry. kind_letter entry.0) entries))
    × ((kind : Kind) → IsLimitIn entries kind (limit_of limits kind))

-- a byte of a move's word: a letter, a digit, = or -
abbrev pub is_move_byte : ℕ → Bool
is_move_byte b = is_letter b || is_digit b || b == 61 || b == 45

-- a word for a move: *, or 2 to 7 of these bytes
abbrev pub IsMoveWord : List ℕ → Type 0
IsMoveWord word = (word ≡ codes "*")
    ⊎ ((2 ≤ length word) × (length word ≤ 7) × IsTrue (list_all is_move_byte word))

-- a word for moves that are alike: 1 to 7 of these bytes and of *
abbrev pub IsMoveLike : List ℕ → Type 0
IsMoveLike word = (1 ≤ length word) × (length word ≤ 7)
    × IsTrue (list_all (λ b. is_move_byte b || b == 42) word)

-- the name of a tag: one or more of the bytes of names
abbrev pub IsName : List ℕ → Type 0
IsName name = (name ≢ []) × IsTrue (list_all is_name_byte name)

-- each is a name
abbrev pub AreNames : List (List ℕ) → Type 0
AreNames [] = Unit {0}
AreNames (name ∷ more) = IsName name × AreNames more

-- one or more such words with blanks between
pub data AreMoveWords : List ℕ → Type 0 where
  a_word : (word : List ℕ) → IsMoveWord word → AreMoveWords word
  and_words : (word gap words : List ℕ) → IsMoveWord word → IsGap gap → AreMoveWords words
      → AreMoveWords (word ++ (gap ++ words))

-- a number of one digit or more, but not of more than so many
pub record SpellsDigits (most : ℕ) (text : List ℕ) (count : ℕ) : Type 0 where
  pub digits : IsTrue (list_all is_digit text)
  pub short : (1 ≤ length text) × (length text ≤ most)
  pub value : count ≡ number_from 0 text

-- a number of exactly so many digits
abbrev pub SpellsField : ℕ → List ℕ → ℕ → Type 0
SpellsField size text number = SpellsDigits size text number × (length text ≡ size)

-- two digits of a number from 1 to this one, which is the first and the last
abbrev pub SpellsOne : ℕ → List ℕ → ℕ → ℕ → Type 0
SpellsOne most text first last = SpellsField 2 text first × (1 ≤ first) × (first ≤ most)
    × (last ≡ first)

-- the numbers from 1 to this one
abbrev pub AreAllTo : ℕ → ℕ → ℕ → Type 0
AreAllTo most first last = (first ≡ 1) × (last ≡ most)

-- the parts, with dots between, of a year YYYY, of a month YYYY.MM, or of a day YYYY.MM.DD
abbrev pub SpellsDays : List (List ℕ) → Days → Type 0
SpellsDays (year ∷ []) days = SpellsField 4 year days.year
    × AreAllTo 12 days.first_month days.last_month × AreAllTo 31 days.first_day days.last_day
SpellsDays (year ∷ month ∷ []) days = SpellsField 4 year days.year
    × SpellsOne 12 month days.first_month days.last_month
    × AreAllTo 31 days.first_day days.last_day
SpellsDays (year ∷ month ∷ day ∷ []) days = SpellsField 4 year days.year
    × SpellsOne 12 month days.first_month days.last_month
    × SpellsOne 31 day days.first_day days.last_day
SpellsDays parts days = ⊥

-- a number of plies: 1 to 4 digits
abbrev pub SpellsCount : List ℕ → ℕ → Type 0
SpellsCount text count = SpellsDigits 4 text count

-- a key word, a comparison and a number of plies, with one or more blanks between
abbrev pub SpellsCompared : List ℕ → List ℕ → Comparison → ℕ → Type 0
SpellsCompared key text comparison count = (first second digits : List ℕ)
    × (text ≡ key ++ (first ++ (comparison_text comparison ++ (second ++ digits)))) × IsGap first
    × IsGap second × SpellsCount digits count

-- a text that a value is to contain has at most 255 bytes, as a string of a game has (PGN 7)
abbrev pub CanBeCompared : Relation → List ℕ → Type 0
CanBeCompared relation contents = relation ≡ Has → length contents ≤ 255

-- a key word, and after one or more blanks what it is about
abbrev pub SpellsAfter : List ℕ → List ℕ → List ℕ → Type 0
SpellsAfter key text own = (gap : List ℕ) × (text ≡ key ++ (gap ++ own)) × IsGap gap

-- a key word, names of tags with | between, an operator, and what values are compared with, with
-- one or more blanks between
abbrev pub SpellsNamed : List ℕ → List ℕ → List ℕ → List ℕ → List ℕ → Type 0
SpellsNamed key text names operator own = (first second third : List ℕ)
    × (text ≡ key ++ (first ++ (names ++ (second ++ (operator ++ (third ++ own))))))
    × IsGap first × IsGap second × IsGap third × AreNames (parted_at 124 names)

-- the text of a claim on the value of one of the tags; the contents of a string have quotes about
abbrev pub SpellsTag : List ℕ → List ℕ → ValueClaim (List ℕ) → Type 0
SpellsTag text names (Text relation contents) =
    SpellsNamed (codes "tag") text names (relation_text relation) (34 ∷ (contents ++ 34 ∷ []))
    × IsContents contents × CanBeCompared relation contents
SpellsTag text names (Number comparison number) = (digits : List ℕ)
    × SpellsNamed (codes "number") text names (comparison_text comparison) digits
    × SpellsDigits 9 digits number
SpellsTag text names (Date comparison days) = (date : List ℕ)
    × SpellsNamed (codes "date") text names (comparison_text comparison) date
    × SpellsDays (parted_at 46 date) days

-- of one on the game: its words with one or more blanks between
abbrev pub SpellsGame : List ℕ → GameClaim (List ℕ) → Type 0
SpellsGame text (Tag names value) = SpellsTag text names value
SpellsGame text (Moves words) = SpellsAfter (codes "moves") text words × AreMoveWords words
SpellsGame text (Plies comparison count) = SpellsCompared (codes "plies") text comparison count
SpellsGame text (Result result) = SpellsAfter (codes "result") text result × IsResult result

-- of one on a position
abbrev pub SpellsPosition : List ℕ → PositionClaim (List ℕ) → Type 0
SpellsPosition text (Fen pattern) = SpellsAfter (codes "fen") text pattern × IsPattern pattern
SpellsPosition text (Flip pattern) = (own : List ℕ) × SpellsAfter (codes "flip") text own
    × SpellsAfter (codes "fen") own pattern × IsPattern pattern
SpellsPosition text (Material white black) = (first second third of_white of_black : List ℕ)
    × (text ≡ codes "material"
    ++ (first ++ (of_white ++ (second ++ (codes "v" ++ (third ++ of_black))))))
    × IsGap first × IsGap second × IsGap third × SpellsLimits of_white white
    × SpellsLimits of_black black
SpellsPosition text (Turn side) = SpellsAfter (codes "turn") text (side_text side)
SpellsPosition text Check = text ≡ codes "check"
SpellsPosition text Mate = text ≡ codes "mate"
SpellsPosition text Stalemate = text ≡ codes "stalemate"

-- the text begins and ends with bytes above the space, so with no blank
abbrev pub IsTrimmed : List ℕ → Type 0
IsTrimmed text =
    ((first : ℕ) × (rest : List ℕ) × (text ≡ first ∷ rest) × (nat_le 33 first ≡ true))
    × ((front : List ℕ) × (last : ℕ) × (text ≡ front ++ (last ∷ [])) × (nat_le 33 last ≡ true))

-- of one on the moves before and after a position, or on the position between them
abbrev pub SpellsMove : List ℕ → MoveClaim (List ℕ) → Type 0
SpellsMove text (Next word) = SpellsAfter (codes "next") text word × IsMoveLike word
SpellsMove text (Played word) = SpellsAfter (codes "played") text word × IsMoveLike word
SpellsMove text (Setup setup) = (own : List ℕ) × SpellsAfter (codes "position") text own
    × IsTrimmed own × GivesPosition own setup.given setup.position

-- of one on the plies at which the other conditions hold
abbrev pub SpellsSpan : List ℕ → SpanClaim → Type 0
SpellsSpan text (For count) = (digits : List ℕ) × SpellsAfter (codes "for") text digits
    × SpellsCount digits count × (1 ≤ count)
SpellsSpan text (Count comparison count) = SpellsCompared (codes "count") text comparison count

-- the text of a claim, or where it is denied, `not`, one or more blanks, and that text
abbrev pub SpellsTaken : {C : Type 0} → (List ℕ → C → Type 0) → List ℕ → Bool → C → Type 0
SpellsTaken IsText text false claim = IsText text claim
SpellsTaken IsText text true claim =
    (own : List ℕ) × SpellsAfter (codes "not") text own × IsText own claim

-- such a text, or `either`, one or more blanks, and one of a claim that can be made of the mirror
abbrev pub SpellsTurned : List ℕ → Bool → Bool → PositionClaim (List ℕ) → Type 0
SpellsTurned text false denied claim = SpellsTaken SpellsPosition text denied claim
SpellsTurned text true denied claim =
    (own : List ℕ) × SpellsAfter (codes "either") text own × IsTrue (can_be_mirrored claim)
    × SpellsTaken SpellsPosition own denied claim

-- the text of a condition: any but one of a span can be denied
abbrev pub SpellsCondition : List ℕ → Condition (List ℕ) → Type 0
SpellsCondition text (Game own) = SpellsTaken SpellsGame text own.is_denied own.claim
SpellsCondition text (Position own) = SpellsTurned text own.is_either own.is_denied own.claim
SpellsCondition text (Move own) = SpellsTaken SpellsMove text own.is_denied own.claim
SpellsCondition text (Span claim) = SpellsSpan text claim

-- the text of a line: nothing, or a comment, which begins with #; `or`; a condition
abbrev pub Spells : List ℕ → Meaning (List ℕ) → Type 0
Spells text Nothing = (text ≡ []) ⊎ ((rest : List ℕ) × (text ≡ 35 ∷ rest))
Spells text Or = text ≡ codes "or"
Spells text (Asks condition) = SpellsCondition text condition

-- the line means this: blanks may stand about its text, and one carriage return at its end
pub record IsLine (line : List ℕ) (means : Meaning (List ℕ)) : Type 0 where
  pub before : List ℕ
  pub text : List ℕ
  pub after : List ℕ
  pub last : List ℕ
  pub whole : line ≡ before ++ (text ++ (after ++ last))
  pub blank_before : AreBlanks before
  pub blank_after : AreBlanks after
  pub end : (last ≡ []) ⊎ (last ≡ 13 ∷ [])
  pub spells : Spells text means

-- what the lines mean, one after the other
abbrev pub AreLines : List (List ℕ) → List (Meaning (List ℕ)) → Type 0
AreLines [] means = means ≡ []
AreLines (line ∷ lines) means = (own : Meaning (List ℕ)) × (more : List (Meaning (List ℕ)))
    × (means ≡ own ∷ more) × IsLine line own × AreLines lines more

-- one more condition in the first alternative
abbrev pub onto_first : Condition (List ℕ) → List Conditions → List Conditions
onto_first condition [] = with_condition condition no_conditions ∷ []
onto_first condition (first ∷ more) = with_condition condition first ∷ more

-- the alternatives: each `or` begins another, so there is always one, which may have no conditions
abbrev pub alternatives_of : List (Meaning (List ℕ)) → List Conditions
alternatives_of [] = no_conditions ∷ []
alternatives_of (Nothing ∷ more) = alternatives_of more
alternatives_of (Or ∷ more) = no_conditions ∷ alternatives_of more
alternatives_of (Asks condition ∷ more) = onto_first condition (alternatives_of more)

-- the lines of the text spell the alternatives
abbrev pub SpellsCriteria : List ℕ → List Conditions → Type 0
SpellsCriteria text alternatives = (means : List (Meaning (List ℕ)))
    × AreLines (parted_at 10 text) means × (alternatives ≡ alternatives_of means)

-- the text is accepted: it has at most 65,536 bytes, and spells these alternatives
abbrev pub Accepts : List ℕ → List Conditions → Type 0
Accepts text alternatives = (length text ≤ 65536) × SpellsCriteria text alternatives

-- the line with this number, counted from 1, is the first that has no meaning
abbrev pub IsFirstBad : List (List ℕ) → ℕ → Type 0
IsFirstBad lines number = (before after : List (List ℕ)) × (bad : List ℕ)
    × (lines ≡ before ++ bad ∷ after) × (number ≡ length before + 1)
    × ((means : List (Meaning (List ℕ))) × AreLines before means)
    × ((means : Meaning (List ℕ)) → IsLine bad means → ⊥)

-- why a text is refused: it is too long; else a line has no meaning; memory runs out only where the
-- text is accepted
abbrev pub IsRefused : List ℕ → CriteriaError → Type 0
IsRefused text TooLong = 65536 < length text
IsRefused text (Line number) = (length text ≤ 65536) × IsFirstBad (parted_at 10 text) number
IsRefused text OutOfMemory = (alternatives : List Conditions) × Accepts text alternatives
