-- A row of cells parted by tabs is read as it was written, and in no other way.
use Rattle.std.proofs.Common.{◌≡◌, ℕ, Bool, true, false, List, [], ◌∷◌, ◌++◌, refl, sym, ap, subst}
use Rattle.std.proofs.Common.{◌∙◌, append_assoc, arith}
use Rattle.std.specs.Prelude.{flat_map, map, not, ◌==◌, if◌then◌else◌}
use Rattle.std.specs.List.{list_all}
use Rattle.std.proofs.lemmas.Bool.{and_parts, eqb-true}
use Rattle.pgn_extract.specs.Public.Tsv.{is_special, escaped, cell_text, later_cells, Sign, Plain}
use Rattle.pgn_extract.specs.Public.Tsv.{Tab, LineFeed, Return, Backslash, spelled_sign}
use Rattle.pgn_extract.specs.Public.Tsv.{value_of_sign, is_sign, SpellsLater, Spells}
use Rattle.pgn_extract.specs.Public.RowLaws.{TsvIsReadBack, TsvHasOneReading, TsvIsReadOnce}
use Rattle.pgn_extract.proofs.laws.Codes.{IsCode, one_spelling, heads, tails}

-- No other way.

-- a tab or a line feed stands after a cell
record Stops (text : List ℕ) : Type 0 where
  byte : ℕ
  more : List ℕ
  begins : text ≡ byte ∷ more
  special : is_special byte ≡ true
  no_backslash : byte ≡ 92 → ⊥

-- a byte that stands for itself is no backslash
plain_is_other : (b : ℕ) → is_sign (Plain b) ≡ true → b ≡ 92 → ⊥
plain_is_other b is same = let no : not (is_special 92) ≡ true =
    subst (λ x. not (is_special x) ≡ true) same is in absurd cc

signs_parted : (s r : Sign) (t u : List ℕ) → is_sign s ≡ true → is_sign r ≡ true
    → spelled_sign s ++ t ≡ spelled_sign r ++ u → (s ≡ r) × (t ≡ u)
signs_parted (Plain b) (Plain c) t u is is' e = (cc, cc)
signs_parted (Plain b) Tab t u is is' e = absurd (plain_is_other b is (heads e))
signs_parted (Plain b) LineFeed t u is is' e = absurd (plain_is_other b is (heads e))
signs_parted (Plain b) Return t u is is' e = absurd (plain_is_other b is (heads e))
signs_parted (Plain b) Backslash t u is is' e = absurd (plain_is_other b is (heads e))
signs_parted Tab (Plain b) t u is is' e = absurd (plain_is_other b is' (sym (heads e)))
signs_parted Tab Tab t u is is' e = (refl, tails (tails e))
signs_parted Tab LineFeed t u is is' e = let same = heads (tails e) in absurd (omega arith)
signs_parted Tab Return t u is is' e = let same = heads (tails e) in absurd (omega arith)
signs_parted Tab Backslash t u is is' e = let same = heads (tails e) in absurd (omega arith)
signs_parted LineFeed (Plain b) t u is is' e = absurd (plain_is_other b is' (sym (heads e)))
signs_parted LineFeed Tab t u is is' e = let same = heads (tails e) in absurd (omega arith)
signs_parted LineFeed LineFeed t u is is' e = (refl, tails (tails e))
signs_parted LineFeed Return t u is is' e = let same = heads (tails e) in absurd (omega arith)
signs_parted LineFeed Backslash t u is is' e = let same = heads (tails e) in absurd (omega arith)
signs_parted Return (Plain b) t u is is' e = absurd (plain_is_other b is' (sym (heads e)))
signs_parted Return Tab t u is is' e = let same = heads (tails e) in absurd (omega arith)
signs_parted Return LineFeed t u is is' e = let same = heads (tails e) in absurd (omega arith)
signs_parted Return Return t u is is' e = (refl, tails (tails e))
signs_parted Return Backslash t u is is' e = let same = heads (tails e) in absurd (omega arith)
signs_parted Backslash (Plain b) t u is is' e = absurd (plain_is_other b is' (sym (heads e)))
signs_parted Backslash Tab t u is is' e = let same = heads (tails e) in absurd (omega arith)
signs_parted Backslash LineFeed t u is is' e = let same = heads (tails e) in absurd (omega arith)
signs_parted Backslash Return t u is is' e = let same = heads (tails e) in absurd (omega arith)
signs_parted Backslash Backslash t u is is' e = (refl, tails (tails e))

signs_stopped : (s : Sign) (t : List ℕ) → is_sign s ≡ true → Stops (spelled_sign s ++ t) → ⊥
signs_stopped (Plain b) t is stops =
    let same : stops.byte ≡ b = sym (heads stops.begins) in
    let no : not true ≡ true = ap not (sym stops.special ∙ ap is_special same) ∙ is in absurd cc
signs_stopped Tab t is stops = stops.no_backslash (sym (heads stops.begins))
signs_stopped LineFeed t is stops = stops.no_backslash (sym (heads stops.begins))
signs_stopped Return t is stops = stops.no_backslash (sym (heads stops.begins))
signs_stopped Backslash t is stops = stops.no_backslash (sym (heads stops.begins))

signs_code : IsCode spelled_sign is_sign Stops
signs_code = record { parted = signs_parted; stopped = signs_stopped }

stops_later : (cells : List (List Sign)) (text rest : List ℕ) → SpellsLater cells text rest
    → Stops text
stops_later [] text rest ends = record {
  byte = 10;
  more = rest;
  begins = ends;
  special =
      refl;
  no_backslash = λ same. omega arith;
}
stops_later (cell ∷ more) text rest (after, begins, later) =
    record {
      byte = 9;
      more = flat_map spelled_sign cell ++ after;
      begins = begins;
      special =
          refl;
      no_backslash = λ same. omega arith;
    }

one_cell : (cell other : List Sign) (t u : List ℕ) → list_all is_sign cell ≡ true
    → list_all is_sign other ≡ true → Stops t → Stops u
    → flat_map spelled_sign cell ++ t ≡ flat_map spelled_sign other ++ u → (cell ≡ other) × (t ≡ u)
one_cell cell other t u each each' stops stops' e =
    one_spelling spelled_sign is_sign Stops signs_code cell other t u each each' stops stops' e

one_later : (cells others : List (List Sign)) (text rest more : List ℕ)
    → list_all (list_all is_sign) cells ≡ true → list_all (list_all is_sign) others ≡ true
    → SpellsLater cells text rest → SpellsLater others text more → (cells ≡ others) × (rest ≡ more)
one_later [] [] text rest more each each' ends ends' = (refl, tails (sym ends ∙ ends'))
one_later [] (g ∷ others) text rest more each each' ends (after, begins, later) = let same =
    heads (sym ends ∙ begins) in absurd (omega arith)
one_later (f ∷ cells) [] text rest more each each' (after, begins, later) ends = let same =
    heads (sym ends ∙ begins) in absurd (omega arith)
one_later (f ∷ cells) (g ∷ others) text rest more each each' (after, begins, later)
    (after', begins', later') =
    let first : (list_all is_sign f ≡ true) × (list_all (list_all is_sign) cells ≡ true) =
    and_parts _ _ each in
    let second : (list_all is_sign g ≡ true) × (list_all (list_all is_sign) others ≡ true) =
    and_parts _ _ each' in
    let own : (f ≡ g) × (after ≡ after') =
    one_cell f g after after' first.0 second.0 (stops_later cells after rest later)
    (stops_later others after' more later') (tails (sym begins ∙ begins')) in
    let tail : (cells ≡ others) × (rest ≡ more) =
    one_later cells others after' rest more first.1 second.1
    (subst (λ xs. SpellsLater cells xs rest) own.1 later) later' in
    (cc, tail.1)

one_spelled : (cells others : List (List Sign)) (text rest more : List ℕ)
    → list_all (list_all is_sign) cells ≡ true → list_all (list_all is_sign) others ≡ true
    → Spells cells text rest → Spells others text more → (cells ≡ others) × (rest ≡ more)
one_spelled [] others text rest more each each' none spells' = absurd none
one_spelled (f ∷ cells) [] text rest more each each' spells none = absurd none
one_spelled (f ∷ cells) (g ∷ others) text rest more each each' (after, begins, later)
    (after', begins', later') =
    one_later (f ∷ cells) (g ∷ others) (9 ∷ text) rest more each each'
    (after, ap (λ (xs : List ℕ). 9 ∷ xs) begins, later)
    (after', ap (λ (xs : List ℕ). 9 ∷ xs) begins', later')

pub one_reading : TsvHasOneReading
one_reading text cells others rest more reads reads' =
    let both : (reads.signs ≡ reads'.signs) × (rest ≡ more) =
    one_spelled reads.signs reads'.signs text rest more reads.each reads'.each reads.spells
    reads'.spells in
    (reads.gives ∙ ap (map (map value_of_sign)) both.0 ∙ sym reads'.gives, both.1)

-- As it was written.

abbrev sign_of : ℕ → Sign
sign_of b = if b == 9 then Tab else (if b == 10 then LineFeed else
    (if b == 13 then Return else (if b == 92 then Backslash else Plain b)))

-- the sign that is written for a byte
record IsWritten (b : ℕ) : Type 0 where
  is : is_sign (sign_of b) ≡ true
  spelled : spelled_sign (sign_of b) ≡ escaped b
  gives : value_of_sign (sign_of b) ≡ b

written : (b : ℕ) (tab feed return backslash : Bool) → (b == 9) ≡ tab → (b == 10) ≡ feed
    → (b == 13) ≡ return → (b == 92) ≡ backslash → IsWritten b
written b true feed return backslash e f g h =
    record { is = rw e refl; spelled = rw e refl; gives = rw e (sym (eqb-true b 9 e)) }
written b false true return backslash e f g h =
    record {
      is = rw (e, f) refl;
      spelled = rw (e, f) refl;
      gives =
          rw (e, f) (sym (eqb-true b 10 f));
    }
written b false false true backslash e f g h =
    record {
      is = rw (e, f, g) refl;
      spelled = rw (e, f, g) refl;
      gives =
          rw (e, f, g) (sym (eqb-true b 13 g));
    }
written b false false false true e f g h =
    record {
      is = rw (e, f, g, h) refl;
      spelled = rw (e, f, g, h) refl;
      gives =
          rw (e, f, g, h) (sym (eqb-true b 92 h));
    }
written b false false false false e f g h =
    let own : is_special b ≡ false = rw (e, f, g, h) refl in
    record {
      is = rw (e, f, g, h) (ap not own);
      spelled = rw (e, f, g, h) refl;
      gives =
          rw (e, f, g, h) refl;
    }

is_written : (b : ℕ) → IsWritten b
is_written b = written b (b == 9) (b == 10) (b == 13) (b == 92) refl refl refl refl

signs_spell : (cell : List ℕ) → flat_map spelled_sign (map sign_of cell) ≡ cell_text cell
signs_spell [] = refl
signs_spell (b ∷ cell) = let own : spelled_sign (sign_of b) ≡ escaped b = (is_written b).spelled in
    let more : flat_map spelled_sign (map sign_of cell) ≡ cell_text cell = signs_spell cell in cc

signs_give : (cell : List ℕ) → cell ≡ map value_of_sign (map sign_of cell)
signs_give [] = refl
signs_give (b ∷ cell) = let own : value_of_sign (sign_of b) ≡ b = (is_written b).gives in
    let more : cell ≡ map value_of_sign (map sign_of cell) = signs_give cell in cc

signs_are : (cell : List ℕ) → list_all is_sign (map sign_of cell) ≡ true
signs_are [] = refl
signs_are (b ∷ cell) = rw (is_written b).is (signs_are cell)

later_spell : (cells : List (List ℕ)) (rest : List ℕ)
    → SpellsLater (map (map sign_of) cells) (later_cells cells ++ rest) rest
later_spell [] rest = refl
later_spell (cell ∷ more) rest = (
  later_cells more ++ rest,
  ap (λ (xs : List ℕ). 9 ∷ xs) (append_assoc (cell_text cell) (later_cells more) rest ∙ ap
      (λ xs. xs ++ (later_cells more ++ rest)) (sym (signs_spell cell))),
  later_spell more rest,
)

cells_are : (cells : List (List ℕ)) → list_all (list_all is_sign) (map (map sign_of) cells) ≡ true
cells_are [] = refl
cells_are (cell ∷ more) = rw (signs_are cell) (cells_are more)

cells_give : (cells : List (List ℕ)) → cells ≡ map (map value_of_sign) (map (map sign_of) cells)
cells_give [] = refl
cells_give (cell ∷ more) =
    let first : cell ≡ map value_of_sign (map sign_of cell) = signs_give cell in
    let rest : more ≡ map (map value_of_sign) (map (map sign_of) more) = cells_give more in cc

pub row_is_read : TsvIsReadBack
row_is_read [] rest some = absurd (some refl)
row_is_read (cell ∷ more) rest some = record {
  signs = map (map sign_of) (cell ∷ more);
  each = cells_are (cell ∷ more);
  spells = (
    later_cells more ++ rest,
    append_assoc (cell_text cell) (later_cells more) rest ∙ ap
        (λ xs. xs ++ (later_cells more ++ rest)) (sym (signs_spell cell)),
    later_spell more rest,
  );
  gives = cells_give (cell ∷ more);
}

pub one_row : TsvIsReadOnce
one_row cells others rest more some reads = one_reading _ others cells more rest reads
    (row_is_read cells rest some)
