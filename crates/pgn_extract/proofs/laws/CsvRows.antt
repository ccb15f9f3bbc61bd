-- A row is read as it was written, and in no other way.
use Rattle.std.proofs.Common.{◌≡◌, inl, inr, ℕ, Bool, true, false, List, [], ◌∷◌, ◌++◌, refl, sym}
use Rattle.std.proofs.Common.{ap, subst, ◌∙◌, append_assoc, length, length-append, arith}
use Rattle.std.specs.Prelude.{flat_map, map, not, ◌==◌, if◌then◌else◌}
use Rattle.std.specs.List.{list_all, list_any}
use Rattle.std.proofs.lemmas.Bool.{and_parts, eqb-true, or_parts}
use Rattle.pgn_extract.specs.Public.Csv.{is_special, doubled, quoted, cell_text, later_cells}
use Rattle.pgn_extract.specs.Public.Csv.{row_text, Quotable, Other, TwoQuotes, spelled_quotable}
use Rattle.pgn_extract.specs.Public.Csv.{value_of_quotable, is_quotable, Field, Bare, Quoted}
use Rattle.pgn_extract.specs.Public.Csv.{spelled_field, value_of_field, is_field, EndsLine}
use Rattle.pgn_extract.specs.Public.Csv.{SpellsLater, Spells, ReadsRow, ReadsRows, rows_text}
use Rattle.pgn_extract.specs.Public.RowLaws.{CsvIsReadBack, CsvHasOneReading, CsvIsReadOnce}
use Rattle.pgn_extract.specs.Public.RowLaws.{TableIsReadBack, TableIsReadOnce}
use Rattle.pgn_extract.proofs.laws.Codes.{IsCode, one_spelling, LeavesRun, one_run}

-- No other way.

-- a field ends where a special byte other than the quote stands
record Stops (text : List ℕ) : Type 0 where
  byte : ℕ
  more : List ℕ
  begins : text ≡ byte ∷ more
  special : is_special byte ≡ true
  no_quote : byte ≡ 34 → ⊥

-- and a list of pieces where a quote stands in front of such a byte
abbrev Closes : List ℕ → Type 0
Closes text = (after : List ℕ) × (text ≡ 34 ∷ after) × Stops after

quotables_parted : (s r : Quotable) (t u : List ℕ) → is_quotable s ≡ true → is_quotable r ≡ true
    → spelled_quotable s ++ t ≡ spelled_quotable r ++ u → (s ≡ r) × (t ≡ u)
quotables_parted (Other b) (Other c) t u is is' e = (cc, cc)
quotables_parted (Other b) TwoQuotes t u is is' e = let same : b ≡ 34 = cc in
    let no : not (34 == 34) ≡ true = subst (λ x. not (x == 34) ≡ true) same is in absurd cc
quotables_parted TwoQuotes (Other b) t u is is' e = let same : b ≡ 34 = cc in
    let no : not (34 == 34) ≡ true = subst (λ x. not (x == 34) ≡ true) same is' in absurd cc
quotables_parted TwoQuotes TwoQuotes t u is is' e = (refl, cc)

quotables_stopped : (s : Quotable) (t : List ℕ) → is_quotable s ≡ true
    → Closes (spelled_quotable s ++ t) → ⊥
quotables_stopped (Other b) t is (after, begins, stops) = let same : b ≡ 34 = cc in
    let no : not (34 == 34) ≡ true = subst (λ x. not (x == 34) ≡ true) same is in absurd cc
quotables_stopped TwoQuotes t is (after, begins, stops) =
    let own : 34 ∷ t ≡ stops.byte ∷ stops.more = let inner : 34 ∷ t ≡ after = cc in
    inner ∙ stops.begins in stops.no_quote cc

quotables_code : IsCode spelled_quotable is_quotable Closes
quotables_code = record { parted = quotables_parted; stopped = quotables_stopped }

-- bytes that are not special go on to the first one that is
stops_run : (text : List ℕ) → Stops text → LeavesRun (λ b. not (is_special b)) text
stops_run text stops = (stops.byte, stops.more, stops.begins, ap not stops.special)

one_bare : (xs ys t u : List ℕ) → list_all (λ b. not (is_special b)) xs ≡ true
    → list_all (λ b. not (is_special b)) ys ≡ true → Stops t → Stops u
    → xs ++ t ≡ ys ++ u → (xs ≡ ys) × (t ≡ u)
one_bare xs ys t u each each' stops stops' e =
    one_run (λ b. not (is_special b)) xs ys t u each each' (stops_run t stops)
    (stops_run u stops') e

-- bytes that are not special begin with no quote
no_bare_quote : (xs t more : List ℕ) → list_all (λ b. not (is_special b)) xs ≡ true → Stops t
    → xs ++ t ≡ 34 ∷ more → ⊥
no_bare_quote [] t more each stops e = stops.no_quote
    (let own : stops.byte ∷ stops.more ≡ 34 ∷ more = sym stops.begins ∙ e in cc)
no_bare_quote (x ∷ xs) t more each stops e =
    let parts : (not (is_special x) ≡ true) × (list_all (λ b. not (is_special b)) xs ≡ true) =
    and_parts _ _ each in
    let same : x ≡ 34 = cc in
    let no : not true ≡ true = subst (λ b. not (is_special b) ≡ true) same parts.0 in absurd cc

quoted_parts : (pieces : List Quotable) (t : List ℕ)
    → spelled_field (Quoted pieces) ++ t ≡ 34 ∷ (flat_map spelled_quotable pieces ++ 34 ∷ t)
quoted_parts pieces t = ap (λ (xs : List ℕ). 34 ∷ xs)
    (append_assoc (flat_map spelled_quotable pieces) (34 ∷ []) t)

one_field : (f g : Field) (t u : List ℕ) → is_field f ≡ true → is_field g ≡ true → Stops t → Stops u
    → spelled_field f ++ t ≡ spelled_field g ++ u
    → (f ≡ g) × (t ≡ u)
one_field (Bare xs) (Bare ys) t u is is' stops stops' e = let both : (xs ≡ ys)
    × (t ≡ u) = one_bare xs ys t u is is' stops stops' e in (ap Bare both.0, both.1)
one_field (Bare xs) (Quoted pieces) t u is is' stops stops' e =
    absurd (no_bare_quote xs t _ is stops (e ∙ quoted_parts pieces u))
one_field (Quoted pieces) (Bare ys) t u is is' stops stops' e =
    absurd (no_bare_quote ys u _ is' stops' (sym e ∙ quoted_parts pieces t))
one_field (Quoted pieces) (Quoted others) t u is is' stops stops' e =
    let own : 34 ∷ (flat_map spelled_quotable pieces ++ 34 ∷ t) ≡ 34 ∷
    (flat_map spelled_quotable others ++ 34 ∷ u) =
    sym (quoted_parts pieces t) ∙ e ∙ quoted_parts others u in
    let both : (pieces ≡ others) × (34 ∷ t ≡ 34 ∷ u) =
    one_spelling spelled_quotable is_quotable Closes quotables_code pieces others (34 ∷ t) (34 ∷ u)
    is is' (t, refl, stops) (u, refl, stops') cc in
    (ap Quoted both.0, cc)

-- what stands after a field stops it
stops_line : (text rest : List ℕ) → EndsLine text rest → Stops text
stops_line text rest (inl e) = record {
  byte = 10;
  more = rest;
  begins = e;
  special =
      refl;
  no_quote = λ same. omega arith;
}
stops_line text rest (inr e) = record {
  byte = 13;
  more = 10 ∷ rest;
  begins = e;
  special =
      refl;
  no_quote = λ same. omega arith;
}

stops_later : (fields : List Field) (text rest : List ℕ) → SpellsLater fields text rest → Stops text
stops_later [] text rest ends = stops_line text rest ends
stops_later (field ∷ more) text rest (after, begins, later) =
    record {
      byte = 44;
      more = spelled_field field ++ after;
      begins = begins;
      special =
          refl;
      no_quote = λ same. omega arith;
    }

-- a text begins with one byte
one_head : {text : List ℕ} (a b : ℕ) {xs ys : List ℕ} → text ≡ a ∷ xs → text ≡ b ∷ ys → a ≡ b
one_head a b e e' = cc

-- a line has one end
one_end : (text rest more : List ℕ) → EndsLine text rest → EndsLine text more → rest ≡ more
one_end text rest more (inl e) (inl e') = cc
one_end text rest more (inl e) (inr e') = let same = one_head 10 13 e e' in absurd (omega arith)
one_end text rest more (inr e) (inl e') = let same = one_head 13 10 e e' in absurd (omega arith)
one_end text rest more (inr e) (inr e') = cc

no_comma : (text rest more : List ℕ) → EndsLine text rest → text ≡ 44 ∷ more → ⊥
no_comma text rest more (inl e) begins = let same = one_head 10 44 e begins in absurd (omega arith)
no_comma text rest more (inr e) begins = let same = one_head 13 44 e begins in absurd (omega arith)

one_later : (fields others : List Field) (text rest more : List ℕ) → list_all is_field fields ≡ true
    → list_all is_field others ≡ true
    → SpellsLater fields text rest → SpellsLater others text more → (fields ≡ others)
    × (rest ≡ more)
one_later [] [] text rest more each each' ends ends' = (refl, one_end text rest more ends ends')
one_later [] (g ∷ others) text rest more each each' ends (after, begins, later) =
    absurd (no_comma text rest _ ends begins)
one_later (f ∷ fields) [] text rest more each each' (after, begins, later) ends =
    absurd (no_comma text more _ ends begins)
one_later (f ∷ fields) (g ∷ others) text rest more each each' (after, begins, later)
    (after', begins', later') =
    let first : (is_field f ≡ true) × (list_all is_field fields ≡ true) = and_parts _ _ each in
    let second : (is_field g ≡ true) × (list_all is_field others ≡ true) = and_parts _ _ each' in
    let heads : (f ≡ g) × (after ≡ after') =
    one_field f g after after' first.0 second.0 (stops_later fields after rest later)
    (stops_later others after' more later') cc in
    let tails : (fields ≡ others) × (rest ≡ more) =
    one_later fields others after' rest more first.1 second.1
    (subst (λ xs. SpellsLater fields xs rest) heads.1 later) later' in
    (cc, tails.1)

one_spelled : (fields others : List Field) (text rest more : List ℕ)
    → list_all is_field fields ≡ true → list_all is_field others ≡ true
    → Spells fields text rest → Spells others text more → (fields ≡ others) × (rest ≡ more)
one_spelled [] others text rest more each each' none spells' = absurd none
one_spelled (f ∷ fields) [] text rest more each each' spells none = absurd none
one_spelled (f ∷ fields) (g ∷ others) text rest more each each' (after, begins, later)
    (after', begins', later') =
    let first : (is_field f ≡ true) × (list_all is_field fields ≡ true) = and_parts _ _ each in
    let second : (is_field g ≡ true) × (list_all is_field others ≡ true) = and_parts _ _ each' in
    let heads : (f ≡ g) × (after ≡ after') =
    one_field f g after after' first.0 second.0 (stops_later fields after rest later)
    (stops_later others after' more later') cc in
    let tails : (fields ≡ others) × (rest ≡ more) =
    one_later fields others after' rest more first.1 second.1
    (subst (λ xs. SpellsLater fields xs rest) heads.1 later) later' in
    (cc, tails.1)

pub one_reading : CsvHasOneReading
one_reading text cells others rest more reads reads' =
    let both : (reads.fields ≡ reads'.fields) × (rest ≡ more) =
    one_spelled reads.fields reads'.fields text rest more reads.each reads'.each reads.spells
    reads'.spells in
    (reads.gives ∙ ap (map value_of_field) both.0 ∙ sym reads'.gives, both.1)

-- As it was written.

abbrev quotable_of : ℕ → Quotable
quotable_of b = if b == 34 then TwoQuotes else Other b

quotable_facts : (b : ℕ) (is : Bool) → (b == 34) ≡ is
    → (spelled_quotable (quotable_of b) ≡ doubled b) × (value_of_quotable (quotable_of b) ≡ b)
    × (is_quotable (quotable_of b) ≡ true)
quotable_facts b true is = let same : b ≡ 34 = eqb-true b 34 is in rw is (refl, sym same, refl)
quotable_facts b false is = rw is (refl, refl, ap not is)

quotables_spell : (cell : List ℕ) → flat_map spelled_quotable (map quotable_of cell) ≡ flat_map
    doubled cell
quotables_spell [] = refl
quotables_spell (b ∷ cell) = let own = quotable_facts b (b == 34) refl in
    let more : flat_map spelled_quotable (map quotable_of cell) ≡ flat_map doubled cell =
    quotables_spell cell in cc (own.0, more)

quotables_give : (cell : List ℕ) → map value_of_quotable (map quotable_of cell) ≡ cell
quotables_give [] = refl
quotables_give (b ∷ cell) = let own = quotable_facts b (b == 34) refl in
    let more : map value_of_quotable (map quotable_of cell) ≡ cell = quotables_give cell in
    cc (own.1, more)

quotables_are : (cell : List ℕ) → list_all is_quotable (map quotable_of cell) ≡ true
quotables_are [] = refl
quotables_are (b ∷ cell) = let own = quotable_facts b (b == 34) refl in
    rw own.2 (quotables_are cell)

none_special : (cell : List ℕ) → list_any is_special cell ≡ false
    → list_all (λ b. not (is_special b)) cell ≡ true
none_special [] none = refl
none_special (b ∷ cell) none =
    let parts : (is_special b ≡ false) × (list_any is_special cell ≡ false) = or_parts _ _ none in
    rw parts.0 (none_special cell parts.1)

-- the field that is written for a cell
record IsWritten (cell : List ℕ) (field : Field) (text : List ℕ) : Type 0 where
  is : is_field field ≡ true
  spelled : spelled_field field ≡ text
  gives : value_of_field field ≡ cell

in_quotes : (cell : List ℕ) → IsWritten cell (Quoted (map quotable_of cell)) (quoted cell)
in_quotes cell = record {
  is = quotables_are cell;
  spelled =
      ap (λ (xs : List ℕ). 34 ∷ xs ++ 34 ∷ []) (quotables_spell cell);
  gives = quotables_give cell;
}

abbrev field_of : List ℕ → Field
field_of cell = if list_any is_special cell then Quoted (map quotable_of cell) else Bare cell

written : (cell : List ℕ) (is : Bool) → list_any is_special cell ≡ is
    → IsWritten cell (field_of cell) (cell_text cell)
written cell true is = rw is (in_quotes cell)
written cell false is = rw is (record { is = none_special cell is; spelled = refl; gives = refl })

is_written : (cell : List ℕ) → IsWritten cell (field_of cell) (cell_text cell)
is_written cell = written cell (list_any is_special cell) refl

later_spell : (cells : List (List ℕ)) (rest : List ℕ)
    → SpellsLater (map field_of cells) (later_cells cells ++ rest) rest
later_spell [] rest = inl refl
later_spell (cell ∷ more) rest =
    let own : IsWritten cell (field_of cell) (cell_text cell) = is_written cell in (
      later_cells more ++ rest,
      ap (λ (xs : List ℕ). 44 ∷ xs) (append_assoc (cell_text cell) (later_cells more) rest ∙ ap
          (λ xs. xs ++ (later_cells more ++ rest)) (sym own.spelled)),
      later_spell more rest,
    )

fields_are : (cells : List (List ℕ)) → list_all is_field (map field_of cells) ≡ true
fields_are [] = refl
fields_are (cell ∷ more) = let own : IsWritten cell (field_of cell) (cell_text cell) =
    is_written cell in rw own.is (fields_are more)

fields_give : (cells : List (List ℕ)) → cells ≡ map value_of_field (map field_of cells)
fields_give [] = refl
fields_give (cell ∷ more) =
    let own : IsWritten cell (field_of cell) (cell_text cell) = is_written cell in
    let rest : more ≡ map value_of_field (map field_of more) = fields_give more in
    let first : value_of_field (field_of cell) ≡ cell = own.gives in cc

-- a row whose first cell is written as a field
row_with : (cell : List ℕ) (field : Field) (text : List ℕ) (more : List (List ℕ)) (rest : List ℕ)
    → IsWritten cell field text
    → ReadsRow ((text ++ later_cells more) ++ rest) (cell ∷ more) rest
row_with cell field text more rest own = record {
  fields = field ∷ map field_of more;
  each = rw own.is (fields_are more);
  spells = (
    later_cells more ++ rest,
    append_assoc text (later_cells more) rest ∙ ap (λ xs. xs ++ (later_cells more ++ rest))
        (sym own.spelled),
    later_spell more rest,
  );
  gives = let first : value_of_field field ≡ cell = own.gives in
      let others : more ≡ map value_of_field (map field_of more) = fields_give more in cc;
}

pub row_is_read : CsvIsReadBack
row_is_read [] rest some = absurd (some refl)
row_is_read ([] ∷ []) rest some = row_with [] (Quoted []) (quoted []) [] rest (in_quotes [])
row_is_read ([] ∷ (next ∷ more)) rest some = row_with [] (field_of []) (cell_text []) (next ∷ more)
    rest (is_written [])
row_is_read ((b ∷ cell) ∷ more) rest some = row_with (b ∷ cell) (field_of (b ∷ cell))
    (cell_text (b ∷ cell)) more rest (is_written (b ∷ cell))

pub one_row : CsvIsReadOnce
one_row cells others rest more some reads = one_reading _ others cells more rest reads
    (row_is_read cells rest some)

-- Rows one below another.

no_empty_fields : (fields : List Field) (text rest : List ℕ) → Spells fields text rest → text ≡ []
    → ⊥
no_empty_fields [] text rest none e = none
no_empty_fields (field ∷ more) text rest (after, begins, later) e =
    let stops = stops_later more after rest later in
    let whole : [] ≡ spelled_field field ++ stops.byte ∷ stops.more =
    sym e ∙ begins ∙ ap (λ xs. spelled_field field ++ xs) stops.begins in
    let size = length-append (spelled_field field) (stops.byte ∷ stops.more) in
    let none : length (spelled_field field ++ stops.byte ∷ stops.more) ≡ 0 =
    ap length (sym whole) in
    omega arith

-- a record is no empty text
no_empty_row : (text : List ℕ) (cells : List (List ℕ)) (rest : List ℕ) → ReadsRow text cells rest
    → text ≡ [] → ⊥
no_empty_row text cells rest reads none = no_empty_fields reads.fields text rest reads.spells none

pub rows_are_read : TableIsReadBack
rows_are_read [] have = refl
rows_are_read (row ∷ more) (some, have) = (
  rows_text more,
  row_is_read row (rows_text more) some,
  rows_are_read more have,
)

pub one_table : TableIsReadOnce
one_table [] [] have reads = refl
one_table [] (other ∷ others) have (rest, reads, more) =
    absurd (no_empty_row [] other rest reads refl)
one_table (row ∷ rows) [] (some, have) none = absurd
    (no_empty_row (row_text row ++ rows_text rows) row (rows_text rows)
    (row_is_read row (rows_text rows) some) none)
one_table (row ∷ rows) (other ∷ others) (some, have) (rest, reads, more) =
    let first : (other ≡ row) × (rest ≡ rows_text rows) =
    one_row row other (rows_text rows) rest some reads in
    let later : others ≡ rows = one_table rows others have
    (subst (λ text. ReadsRows others text) first.1 more) in
    cc (first.0, later)
