-- Worked examples of objects: what is read as one, and what is none.
use Rattle.std.proofs.Common.{◌≡◌, ◌++◌, ◌^◌, ◌∙◌, ℕ, List, [], ◌∷◌, true, false, refl, sym}
use Rattle.std.proofs.Common.{arith, subst}
use Rattle.std.specs.Prelude.{codes, Bool}
use Rattle.std.specs.List.{list_all}
use Rattle.std.specs.Str.{chars, is_utf8}
use Rattle.std.proofs.Math.Utf8.{encode}
use Rattle.std.proofs.lemmas.Bool.{and_parts, false≢true}
use Rattle.pgn_text.specs.Public.Bytes.{is_digit}
use Rattle.pgn_extract.specs.Public.Json.{Member}
use Rattle.pgn_extract.specs.Public.Objects.{is_space, is_int, is_in_line, ReadsValue}
use Rattle.pgn_extract.specs.Public.Objects.{ReadsName, ReadsMember, ReadsLater, ReadsMembers}
use Rattle.pgn_extract.specs.Public.Objects.{ReadsObject, ReadsObjects}
use Rattle.pgn_extract.specs.Public.ObjectLaws.{HasNumbers, read_members}
use Rattle.pgn_extract.specs.Public.Rows.{RowPlace}
use Rattle.pgn_extract.specs.declared.rows.column.Column.TheVariants.{OfGame, OfPly}
use Rattle.pgn_extract.specs.declared.rows.column.GameColumn.TheVariants.{File}
use Rattle.pgn_extract.specs.declared.rows.column.PlyColumn.TheVariants.{Ply}
use Rattle.pgn_extract.proofs.laws.Codes.{LeavesRun, heads, one_run, tails}
use Rattle.pgn_extract.proofs.laws.JsonStrings.{string_is_read}
use Rattle.pgn_extract.proofs.laws.ObjectLines.{no_space}
use Rattle.pgn_extract.proofs.laws.OneObject.{one_byte, one_name, one_member, one_reading}
use Rattle.pgn_extract.proofs.laws.OneObject.{later_leaves, no_brace, value_begins}

-- ---- what is read

-- the name a and a number of one digit, and the name a and the text b
abbrev a_number : ℕ → Member
a_number d = record { name = codes "a"; is_number = true; value = d ∷ [] }

abbrev a_text : Member
a_text = record { name = codes "a"; is_number = false; value = codes "b" }

a_name : (value : List ℕ) → ReadsName (codes "\"a\":" ++ value) (codes "a") value
a_name value = record {
  string = codes "\"a\":" ++ value;
  after_string = codes ":" ++ value;
  after_colon = value;
  before_string = no_space (codes "\"a\":" ++ value);
  names = string_is_read (codes "a") (codes ":" ++ value);
  colon = no_space (codes ":" ++ value);
  before_value = no_space value;
}

one : (rest : List ℕ) → ReadsMember (codes "\"a\":1" ++ rest) (a_number 49) rest
one rest = record {
  value = codes "1" ++ rest;
  names = a_name (codes "1" ++ rest);
  gives = (refl, refl);
}

letter_b : (rest : List ℕ) → ReadsMember (codes "\"a\":\"b\"" ++ rest) a_text rest
letter_b rest = record {
  value = codes "\"b\"" ++ rest;
  names = a_name (codes "\"b\"" ++ rest);
  gives = string_is_read (codes "b") rest;
}

empty : (rest : List ℕ) → ReadsObject (codes "{}" ++ rest) [] rest
empty rest = record {
  inner = codes "}" ++ rest;
  opens = no_space (codes "{}" ++ rest);
  reads = no_space (codes "}" ++ rest);
}

-- white space stands around each sign
with_white_space : ReadsObject (codes " {\n\"a\":1\t,\"a\":\"b\" } ") (a_number 49 ∷ a_text ∷ [])
    (codes " ")
with_white_space = record {
  inner = codes "\n\"a\":1\t,\"a\":\"b\" } ";
  opens = record { space = codes " "; each = refl; spells = refl };
  reads = (
    codes "\t,\"a\":\"b\" } ",
    record {
      value = codes "1\t,\"a\":\"b\" } ";
      names = record {
        string = codes "\"a\":1\t,\"a\":\"b\" } ";
        after_string = codes ":1\t,\"a\":\"b\" } ";
        after_colon = codes "1\t,\"a\":\"b\" } ";
        before_string = record { space = codes "\n"; each = refl; spells = refl };
        names = string_is_read (codes "a") (codes ":1\t,\"a\":\"b\" } ");
        colon = no_space (codes ":1\t,\"a\":\"b\" } ");
        before_value = no_space (codes "1\t,\"a\":\"b\" } ");
      };
      gives = (refl, refl);
    },
    (
      codes "\"a\":\"b\" } ",
      codes " } ",
      record { space = codes "\t"; each = refl; spells = refl },
      letter_b (codes " } "),
      record { space = codes " "; each = refl; spells = refl },
    ),
  );
}

-- ---- what is none

-- after a member that is read, other members are not, and so the whole is no object
no_object : (text : List ℕ) (member : Member) (after : List ℕ) → ReadsMember text member after
    → LeavesRun is_digit after
    → ((more : List Member) (rest : List ℕ) → ReadsLater more after rest → ⊥)
    → (members : List Member) (rest : List ℕ) → ReadsObject (123 ∷ text) members rest → ⊥
no_object text member after own leaves none members rest reads =
    by members (subst (λ inner. ReadsMembers members inner rest)
    (one_byte 123 123 (123 ∷ text) reads.inner text refl refl reads.opens
    (no_space (123 ∷ text))).1 reads.reads)
  where
    by : (members : List Member) → ReadsMembers members text rest → ⊥
    by [] ends = no_brace text member rest after ends own
    by (other ∷ more) (after', reads, later) = none more rest (subst
        (λ bytes. ReadsLater more bytes rest)
        (one_member text other member after' after reads own
        (later_leaves more after' rest later) leaves).1 later)

-- no member follows where neither a comma nor a brace stands
no_other_sign : (b : ℕ) (text : List ℕ) → is_space b ≡ false → (44 ≡ b → ⊥) → (125 ≡ b → ⊥)
    → (more : List Member) (rest : List ℕ) → ReadsLater more (b ∷ text) rest → ⊥
no_other_sign b text other no_comma no_end [] rest ends =
    no_end (one_byte 125 b (b ∷ text) rest text refl other ends (no_space (b ∷ text))).0
no_other_sign b text other no_comma no_end (member ∷ more) rest (own, after, comma, reads, later) =
    no_comma (one_byte 44 b (b ∷ text) own text refl other comma (no_space (b ∷ text))).0

no_row_of_values : (members : List Member) (rest : List ℕ)
    → ReadsObject (codes "a,1\n") members rest → ⊥
no_row_of_values members rest reads =
    let same = (one_byte 123 97 (codes "a,1\n") reads.inner (codes ",1\n") refl refl reads.opens
    (no_space (codes "a,1\n"))).0 in
    absurd (omega arith)

no_comma_left_out : (members : List Member) (rest : List ℕ)
    → ReadsObject (codes "{\"a\":1\"b\":2}") members rest → ⊥
no_comma_left_out =
    no_object (codes "\"a\":1\"b\":2}") (a_number 49) (codes "\"b\":2}") (one (codes "\"b\":2}"))
    (34, codes "b\":2}", refl, refl)
    (no_other_sign 34 (codes "b\":2}") refl (λ same. omega arith) (λ same. omega arith))

no_quote_in_a_text : (members : List Member) (rest : List ℕ)
    → ReadsObject (codes "{\"a\":\"b\"c\"}") members rest → ⊥
no_quote_in_a_text =
    no_object (codes "\"a\":\"b\"c\"}") a_text (codes "c\"}") (letter_b (codes "c\"}"))
    (99, codes "\"}", refl, refl)
    (no_other_sign 99 (codes "\"}") refl (λ same. omega arith) (λ same. omega arith))

no_comma_at_the_end : (members : List Member) (rest : List ℕ)
    → ReadsObject (codes "{\"a\":1,}") members rest → ⊥
no_comma_at_the_end =
    no_object (codes "\"a\":1,}") (a_number 49) (codes ",}") (one (codes ",}"))
    (44, codes "}", refl, refl) none
  where
    none : (more : List Member) (rest : List ℕ) → ReadsLater more (codes ",}") rest → ⊥
    none [] rest ends =
        let same = (one_byte 125 44 (codes ",}") rest (codes "}") refl refl ends
        (no_space (codes ",}"))).0 in
        absurd (omega arith)
    none (member ∷ more) rest (own, after, comma, reads, later) =
        no_brace (codes "}") member [] after (no_space (codes "}"))
        (subst (λ text. ReadsMember text member after)
        (one_byte 44 44 (codes ",}") own (codes "}") refl refl comma (no_space (codes ",}"))).1
        reads)

-- a zero before other digits is no number
no_zero_before : (d : ℕ) (more : List ℕ) → is_int (48 ∷ d ∷ more) ≡ true → ⊥
no_zero_before d more is =
    false≢true (and_parts _ _ is).1

no_value : (is_number : Bool) (value after : List ℕ)
    → ReadsValue is_number (codes "01}") value after → LeavesRun is_digit after → ⊥
no_value false value after reads leaves = let same = heads (reads.spells) in absurd (omega arith)
no_value true [] after (is, e) leaves = absurd cc
no_value true (d ∷ []) after (is, e) (b, rest, begins, other) =
    let same : b ≡ 49 = heads (sym begins ∙ sym (tails e)) in
    let digit : is_digit 49 ≡ false = subst (λ x. is_digit x ≡ false) same other in
    absurd cc
no_value true (d ∷ f ∷ more) after (is, e) leaves =
    no_zero_before f more (subst (λ x. is_int (x ∷ f ∷ more) ≡ true) (sym (heads e)) is)

no_zero_in_front : (members : List Member) (rest : List ℕ)
    → ReadsObject (codes "{\"a\":01}") members rest → ⊥
no_zero_in_front members rest reads =
    by members (subst (λ inner. ReadsMembers members inner rest)
    (one_byte 123 123 (codes "{\"a\":01}") reads.inner (codes "\"a\":01}") refl refl reads.opens
    (no_space (codes "{\"a\":01}"))).1 reads.reads)
  where
    by : (members : List Member) → ReadsMembers members (codes "\"a\":01}") rest → ⊥
    by [] ends =
        let same = (one_byte 125 34 (codes "\"a\":01}") rest (codes "a\":01}") refl refl ends
        (no_space (codes "\"a\":01}"))).0 in
        absurd (omega arith)
    by (member ∷ more) (after, reads, later) = no_value member.is_number member.value after
        (subst (λ text. ReadsValue member.is_number text member.value after)
        (one_name (codes "\"a\":01}") member.name (codes "a") reads.value (codes "01}")
        reads.names (a_name (codes "01}")) (value_begins _ _ _ _ reads.gives)
        (48, codes "1}", refl, refl)).1 reads.gives) (later_leaves more after rest later)

-- ---- lines

-- two objects in a line are not read, nor a line without its end
no_two_in_a_line : (objects : List (List Member)) → ReadsObjects objects (codes "{}{}\n") → ⊥
no_two_in_a_line [] none = absurd cc
no_two_in_a_line (members ∷ more) (line, rest, e, in_line, reads, later) =
    let own : line ≡ codes "{}{}" = (one_run is_in_line line (codes "{}{}") (10 ∷ rest) (10 ∷ [])
    in_line refl (10, rest, refl, refl) (10, [], refl, refl) (sym e)).0 in
    let after : reads.after ≡ codes "{}" = (one_reading (codes "{}{}") members [] reads.after
    (codes "{}") (subst (λ text. ReadsObject text members reads.after) own reads.reads)
    (empty (codes "{}"))).1 in
    let space : list_all is_space (codes "{}") ≡ true =
    subst (λ text. list_all is_space text ≡ true) after reads.each in
    absurd cc

no_line_without_end : (objects : List (List Member)) → ReadsObjects objects (codes "{}") → ⊥
no_line_without_end [] none = absurd cc
no_line_without_end (members ∷ more) ([], rest, e, in_line, reads, later) =
    let same = heads e in absurd (omega arith)
no_line_without_end (members ∷ more) (a ∷ [], rest, e, in_line, reads, later) =
    let same = heads (tails e) in absurd (omega arith)
no_line_without_end (members ∷ more) (a ∷ b ∷ [], rest, e, in_line, reads, later) =
    let same : [] ≡ 10 ∷ rest = tails (tails e) in absurd cc
no_line_without_end (members ∷ more) (a ∷ b ∷ c ∷ line, rest, e, in_line, reads, later) =
    let same : [] ≡ c ∷ (line ++ 10 ∷ rest) = tails (tails e) in absurd cc

-- ---- rows

-- a number of 64 bits is the largest
no_larger_number : (place : RowPlace) → place.id.number ≡ 2 ^ 64 → HasNumbers place → ⊥
no_larger_number place is has = omega (arith, is, has.number)

-- the digits of a number, and a value that is no UTF-8 as Latin-1
what_is_read : read_members (OfPly Ply ∷ OfGame File ∷ []) (codes "7" ∷ (233 ∷ []) ∷ [])
    ≡ record { name = codes "@ply"; is_number = true; value = codes "7" }
    ∷ record { name = codes "@file"; is_number = false; value = 195 ∷ 169 ∷ [] } ∷ []
unfolding is_utf8 chars encode
what_is_read = refl
