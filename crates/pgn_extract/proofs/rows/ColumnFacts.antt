-- The names that are read so far.
use Rattle.std.proofs.Common.{◌≡◌, ◌⊎◌, inl, inr, ◌<◌, ℕ, Bool, true, false, List, [], ◌∷◌, ◌++◌}
use Rattle.std.proofs.Common.{Bor, length, sym, ap, refl, subst, ◌∙◌, arith, append_assoc}
use Rattle.std.proofs.Common.{length-append}
use Rattle.std.specs.Prelude.{bytes_eq, ◌||◌, Option, Some, None, MatchOption, option_map}
use Rattle.std.specs.List.{Contains, find, list_any}
use Rattle.std.proofs.lemmas.List.Elements.{Contains-append_left, Contains-append_right}
use Rattle.std.proofs.lemmas.List.Elements.{Contains-append_cases, Contains-push}
use Rattle.std.proofs.lemmas.List.Elements.{Contains-push_cases}
use Rattle.std.proofs.lemmas.Slice.Eq.{bytes_eq-Decides}
use Rattle.pgn_extract.specs.declared.rows.column.Column.{Column}
use Rattle.pgn_extract.specs.declared.rows.column.Column.TheVariants as col
use Rattle.std.proofs.lemmas.Bool.{or_parts}
use Rattle.pgn_extract.specs.declared.rows.list.ColumnsError.{ColumnsError}
use Rattle.chess.proofs.FieldFacts.{parted_after, parted_by_run}
use Rattle.chess.specs.Public.Fen.{parted_at}
use Rattle.chess.specs.Shared.Runs.{run_of, after_run}
use Rattle.pgn_extract.specs.Private.ColumnLists.{HasRead}
use Rattle.pgn_extract.specs.Public.Columns.{IsColumnFault, IsRefusedList, IsWrongAfter}
use Rattle.pgn_extract.specs.declared.rows.list.ColumnsError.TheVariants as err
use Rattle.pgn_extract.specs.Public.Columns.{column_name, IsColumnOf, AreDistinct, HaveNames}
use Rattle.pgn_extract.specs.Public.Columns.{AreColumns, game_column_name, is_of_opening}
use Rattle.pgn_extract.specs.declared.rows.column.GameColumn.{GameColumn}
use Rattle.pgn_extract.specs.declared.rows.column.GameColumn.TheVariants.{File, Game, Offset, Id}
use Rattle.pgn_extract.specs.declared.rows.column.GameColumn.TheVariants.{Result, OpeningPly}
use Rattle.pgn_extract.specs.declared.rows.column.GameColumn.TheVariants.{Line, From}
use Rattle.pgn_extract.proofs.Common.{cases_Bool}

pub no_element : (name : List ℕ) → Contains [] name → ⊥
no_element name (k, lt, is) = omega arith

has_its_name : (name : List ℕ) (column : Column) → IsColumnOf name column
    → column_name column ≡ name
has_its_name name (col.Tag own) (is, named) = is
has_its_name name (col.OfGame own) is = sym is
has_its_name name (col.OfPly own) is = sym is
has_its_name name (col.OfAnnotations own) is = sym is

-- where none is found that shows this, none does
pub none_found : (shows : Column → Bool) (columns : List Column) → find shows columns ≡ None
    → list_any shows columns ≡ false
none_found shows [] none = refl
none_found shows (column ∷ columns) none = elim (cases_Bool (shows column)) [
  | inl is ↦ absurd (cc (rw is at none))
  | inr is ↦ rw is (none_found shows columns (rw is at none))
]

-- so it is where a column is looked for
pub left_out : (shows : Column → Bool) (found : Option (Bor Column)) (columns : List Column)
    (So : Type 0) → (list_any shows columns ≡ false → So)
    → option_map (λ (column : Bor Column). column.now) found ≡ find shows columns
    → MatchOption found So (λ column. Unit {0})
left_out shows None columns So gives is = gives (none_found shows columns (sym is))
left_out shows (Some column) columns So gives is = tt

-- a name that neither the column of an opening nor another one of the game has, none has
pub no_other : (found : Option GameColumn) (name : List ℕ)
    → (name ≡ game_column_name OpeningPly → ⊥)
    → MatchOption found
    ((own : GameColumn) → is_of_opening own ≡ false → name ≡ game_column_name own → ⊥)
    (λ own. name ≡ game_column_name own)
    → MatchOption found ((own : GameColumn) → name ≡ game_column_name own → ⊥)
    (λ own. name ≡ game_column_name own)
no_other (Some own) name other is = is
no_other None name other none = by
  where
    by : (own : GameColumn) → name ≡ game_column_name own → ⊥
    by File is = none File refl is
    by Game is = none Game refl is
    by Offset is = none Offset refl is
    by Id is = none Id refl is
    by Result is = none Result refl is
    by Line is = none Line refl is
    by From is = none From refl is
    by OpeningPly is = other is

-- one more name at the end
pub names_more : (names : List (List ℕ)) (columns : List Column) (name : List ℕ) (column : Column)
    → HaveNames names columns → IsColumnOf name column
    → HaveNames (names ++ name ∷ []) (columns ++ column ∷ [])
names_more [] columns name column have is = rw have (column, [], refl, is, refl)
names_more (own ∷ names) columns name column (first, more, parts, named, have) is =
    rw parts (first, more ++ column ∷ [], refl, named, names_more names more name column have is)

-- a name is the first one, or among the others
pub first_or_later : (first name : List ℕ) (names : List (List ℕ)) → Contains (first ∷ names) name
    → (first ≡ name) ⊎ Contains names name
first_or_later first name names has = elim (Contains-append_cases (first ∷ []) names name has) [
  | inl own ↦ elim (Contains-push_cases [] first name own) [
    | inl none ↦ absurd (no_element name none)
    | inr same ↦ inl same
  ]
  | inr later ↦ inr later
]

pub has_first : (name : List ℕ) (names : List (List ℕ)) → Contains (name ∷ names) name
has_first name names = Contains-append_left (name ∷ []) names name (Contains-push [] name)

pub has_later : (first name : List ℕ) (names : List (List ℕ)) → Contains names name
    → Contains (first ∷ names) name
has_later first name names has = Contains-append_right (first ∷ []) names name has

abbrev pub is_called : List ℕ → Column → Bool
is_called name column = bytes_eq (column_name column) name

called_first : (name : List ℕ) (columns : List Column) (column : Column) (first : Bool)
    → is_called name column ≡ first
    → (first || list_any (is_called name) columns) ≡ true → (column_name column ≡ name)
    ⊎ (list_any (is_called name) columns ≡ true)
called_first name columns column true is any =
    inl ((bytes_eq-Decides (column_name column) name).0 is)
called_first name columns column false is any = inr any

-- where a column is called so, the name stands among theirs
pub is_among : (names : List (List ℕ)) (columns : List Column) (name : List ℕ)
    → HaveNames names columns → list_any (is_called name) columns ≡ true → Contains names name
is_among [] columns name have any = let none : list_any (is_called name) [] ≡ true =
    rw have at any in absurd cc
is_among (own ∷ names) columns name (column, more, parts, named, have) any =
    let all : (is_called name column || list_any (is_called name) more) ≡ true = rw parts at any in
    elim (called_first name more column (is_called name column) refl all) [
      | inl same ↦ subst (λ x. Contains (own ∷ names) x)
          (sym (has_its_name own column named) ∙ same) (has_first own names)
      | inr later ↦ has_later own name names (is_among names more name have later)
    ]

-- else it does not
pub is_new : (names : List (List ℕ)) (columns : List Column) (name : List ℕ)
    → HaveNames names columns → list_any (is_called name) columns ≡ false
    → Contains names name → ⊥
is_new [] columns name have none has = no_element name has
is_new (own ∷ names) columns name (column, more, parts, named, have) none has =
    let all : (is_called name column || list_any (is_called name) more) ≡ false =
    rw parts at none in
    let both : (is_called name column ≡ false)
    × (list_any (is_called name) more ≡ false) = or_parts _ _ all in
    elim (first_or_later own name names has) [
      | inl same ↦ let yes : is_called name column ≡ true =
          (bytes_eq-Decides (column_name column) name).1 (has_its_name own column named ∙ same) in
          absurd cc
      | inr later ↦ is_new names more name have both.1 later
    ]

-- a new name at the end
pub distinct_more : (names : List (List ℕ)) (name : List ℕ) → AreDistinct names
    → (Contains names name → ⊥) → AreDistinct (names ++ name ∷ [])
distinct_more [] name distinct new = (no_element name, tt)
distinct_more (own ∷ names) name (alone, distinct) new = (
  (λ has. elim (Contains-push_cases names name own has) [
    | inl before ↦ alone before
    | inr same ↦ new (subst (λ x. Contains (own ∷ names) x) (sym same) (has_first own names))
  ]),
  distinct_more names name distinct (λ has. new (has_later own name names has)),
)

-- One step of the reading.

pub reads_on : (text rest after name : List ℕ) (columns : List Column) (column : Column)
    → HasRead text rest columns
    → parted_at 44 rest ≡ name ∷ parted_at 44 after → IsColumnOf name column
    → list_any (is_called name) columns ≡ false → length columns < 64
    → HasRead text after (columns ++ column ∷ [])
reads_on text rest after name columns column read parts is new few = record {
  before = read.before ++ name ∷ [];
  parts = read.parts ∙ ap (λ xs. read.before ++ xs) parts ∙ sym
      (append_assoc read.before (name ∷ []) (parted_at 44 after));
  named = names_more read.before columns name column read.named is;
  distinct = distinct_more read.before name read.distinct
      (is_new read.before columns name read.named new);
  few = let size = length-append columns (column ∷ []) in omega arith;
}

pub reads_last : (text rest name : List ℕ) (columns : List Column) (column : Column)
    → HasRead text rest columns
    → parted_at 44 rest ≡ name ∷ [] → IsColumnOf name column
    → list_any (is_called name) columns ≡ false → length columns < 64
    → AreColumns text (columns ++ column ∷ [])
reads_last text rest name columns column read parts is new few =
    let whole : parted_at 44 text ≡ read.before ++ name ∷ [] =
    read.parts ∙ ap (λ xs. read.before ++ xs) parts in
    record {
      named = rw whole (names_more read.before columns name column read.named is);
      distinct = rw whole (distinct_more read.before name read.distinct
          (is_new read.before columns name read.named new));
      few = let size = length-append columns (column ∷ []) in omega arith;
    }

-- what is wrong at the next name is wrong with the list
pub refused : (text rest name : List ℕ) (more : List (List ℕ)) (columns : List Column)
    (fault : ColumnsError) → (read : HasRead text rest columns)
    → parted_at 44 rest ≡ name ∷ more → IsWrongAfter read.before name fault
    → IsRefusedList text fault
refused text rest name more columns fault read parts wrong = (
  read.before,
  columns,
  name,
  more,
  record {
    parts = read.parts ∙ ap (λ xs. read.before ++ xs) parts;
    named = read.named;
    distinct =
        read.distinct;
  },
  wrong,
)

-- what no column is called is wrong after fewer names than 64
pub wrong_there : (before : List (List ℕ)) (name : List ℕ) (fault : ColumnsError)
    → length before < 64 → IsColumnFault name fault → IsWrongAfter before name fault
wrong_there before name err.Empty few is = (few, is)
wrong_there before name (err.Unknown word) few is = (few, is)
wrong_there before name (err.NoName word) few is = (few, is)
wrong_there before name (err.Twice word) few is = absurd is
wrong_there before name err.TooMany few is = absurd is
wrong_there before name err.OutOfMemory few is = tt

-- there is a next name
pub some_name : (rest : List ℕ) → (name : List ℕ) × (more : List (List ℕ))
    × (parted_at 44 rest ≡ name ∷ more)
some_name rest = (run_of 44 rest, parted_after 44 (after_run 44 rest), parted_by_run 44 rest)

pub as_many : (names : List (List ℕ)) (columns : List Column) → HaveNames names columns
    → length names ≡ length columns
as_many [] columns have = rw have refl
as_many (own ∷ names) columns (column, more, parts, named, have) = let size =
    as_many names more have in rw parts (omega arith)

-- the first name, whether others follow it or not
pub first_name : {X : Type 0} (next : Option X) (parts : List (List ℕ)) (name : List ℕ)
    (parts_of : X → List (List ℕ))
    → MatchOption next (parts ≡ name ∷ []) (λ rest. parts ≡ name ∷ parts_of rest)
    → (more : List (List ℕ)) × (parts ≡ name ∷ more)
first_name None parts name parts_of is = ([], is)
first_name (Some rest) parts name parts_of is = (parts_of rest, is)
