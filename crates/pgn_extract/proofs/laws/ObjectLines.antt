-- An object is read as it was written, in a line of its own.
use Rattle.std.proofs.Common.{◌≡◌, ℕ, ◌+◌, ◌/◌, ◌%◌, Bool, true, false, List, []}
use Rattle.std.proofs.Common.{◌∷◌, ◌++◌, refl, sym, ap, subst, ◌∙◌, append_assoc, arith}
use Rattle.std.proofs.Common.{append-nil}
use Rattle.std.specs.Prelude.{flat_map, map, nat_lt, ◌==◌, ◌||◌, if◌then◌else◌}
use Rattle.std.specs.List.{list_all}
use Rattle.std.proofs.lemmas.Bool.{and_parts}
use Rattle.std.proofs.lemmas.Bool.Decides.{nat_tests}
use Rattle.std.proofs.lemmas.List.Folds.{list_all-append}
use Rattle.pgn_text.specs.Public.Bytes.{is_digit}
use Rattle.pgn_extract.specs.Public.Json.{hex_digit, escaped, string_text, text_of, Member}
use Rattle.pgn_extract.specs.Public.Json.{value_text, member_text, later_members, object_text}
use Rattle.pgn_extract.specs.Public.Json.{ReadsString}
use Rattle.pgn_extract.specs.Public.Objects.{SkipsSpace, is_int, ReadsValue, ReadsMember}
use Rattle.pgn_extract.specs.Public.Objects.{ReadsLater, ReadsObject, IsObjectText}
use Rattle.pgn_extract.specs.Public.Objects.{is_in_line, ReadsObjects}
use Rattle.pgn_extract.specs.Public.ObjectLaws.{as_read, read_value}
use Rattle.pgn_extract.proofs.laws.Codes.{one_run}
use Rattle.pgn_extract.proofs.laws.JsonStrings.{string_is_read}
use Rattle.pgn_extract.proofs.laws.OneObject.{int_digits, one_reading}

-- As it was written.

-- a value that is written as a number is one
abbrev pub is_sound_value : Bool → List ℕ → Bool
is_sound_value is_number value = if is_number then is_int value else true

abbrev pub is_sound : Member → Bool
is_sound member = is_sound_value member.is_number member.value

-- the members after the first one and the brace, and an object, without the end of the line
abbrev later_line : List Member → List ℕ
later_line [] = 125 ∷ []
later_line (member ∷ more) = 44 ∷ member_text member ++ later_line more

abbrev object_line : List Member → List ℕ
object_line [] = 123 ∷ later_line []
object_line (member ∷ more) = 123 ∷ member_text member ++ later_line more

pub no_space : (text : List ℕ) → SkipsSpace text text
no_space text = record { space = []; each = refl; spells = refl }

value_is_read : (is_number : Bool) (value rest : List ℕ) → is_sound_value is_number value ≡ true
    → ReadsValue is_number (value_text is_number value ++ rest) (read_value is_number value) rest
value_is_read true value rest sound = (sound, refl)
value_is_read false value rest sound = string_is_read (text_of value) rest

member_is_read : (member : Member) (rest : List ℕ) → is_sound member ≡ true
    → ReadsMember (member_text member ++ rest) (as_read member) rest
member_is_read member rest sound =
    let name : List ℕ = string_text (text_of member.name) in
    let value : List ℕ = value_text member.is_number member.value in
    record {
      value = value ++ rest;
      names = record {
        string = member_text member ++ rest;
        after_string = 58 ∷ (value ++ rest);
        after_colon = value ++ rest;
        before_string = no_space (member_text member ++ rest);
        names = subst (λ bytes. ReadsString bytes (text_of member.name) (58 ∷ (value ++ rest)))
            (sym (append_assoc name (58 ∷ value) rest))
            (string_is_read (text_of member.name) (58 ∷ (value ++ rest)));
        colon = no_space (58 ∷ (value ++ rest));
        before_value = no_space (value ++ rest);
      };
      gives = value_is_read member.is_number member.value rest sound;
    }

later_is_read : (members : List Member) (rest : List ℕ) → list_all is_sound members ≡ true
    → ReadsLater (map as_read members) (later_line members ++ rest) rest
later_is_read [] rest sound = no_space (125 ∷ rest)
later_is_read (member ∷ more) rest sound =
    let parts : (is_sound member ≡ true) × (list_all is_sound more ≡ true) =
    and_parts _ _ sound in
    let text : List ℕ = later_line more ++ rest in (
      member_text member ++ text,
      text,
      record {
        space = [];
        each = refl;
        spells = ap (λ (xs : List ℕ). 44 ∷ xs)
            (append_assoc (member_text member) (later_line more) rest);
      },
      member_is_read member text parts.0,
      later_is_read more rest parts.1,
    )

line_is_read : (members : List Member) (rest : List ℕ) → list_all is_sound members ≡ true
    → ReadsObject (object_line members ++ rest) (map as_read members) rest
line_is_read [] rest sound = record {
  inner = 125 ∷ rest;
  opens = no_space (123 ∷ 125 ∷ rest);
  reads = no_space (125 ∷ rest);
}
line_is_read (member ∷ more) rest sound =
    let parts : (is_sound member ≡ true) × (list_all is_sound more ≡ true) =
    and_parts _ _ sound in
    let text : List ℕ = later_line more ++ rest in
    record {
      inner = member_text member ++ text;
      opens = record {
        space = [];
        each = refl;
        spells = ap (λ (xs : List ℕ). 123 ∷ xs)
            (append_assoc (member_text member) (later_line more) rest);
      };
      reads = (text, member_is_read member text parts.0, later_is_read more rest parts.1);
    }

-- the end of the line

later_ends : (members : List Member) (rest : List ℕ)
    → later_members members ++ rest ≡ later_line members ++ 10 ∷ rest
later_ends [] rest = refl
later_ends (member ∷ more) rest = ap (λ (xs : List ℕ). 44 ∷ xs)
    (append_assoc (member_text member) (later_members more) rest
    ∙ ap (λ xs. member_text member ++ xs) (later_ends more rest)
    ∙ sym (append_assoc (member_text member) (later_line more) (10 ∷ rest)))

object_ends : (members : List Member) (rest : List ℕ)
    → object_text members ++ rest ≡ object_line members ++ 10 ∷ rest
object_ends [] rest = refl
object_ends (member ∷ more) rest = ap (λ (xs : List ℕ). 123 ∷ xs)
    (append_assoc (member_text member) (later_members more) rest
    ∙ ap (λ xs. member_text member ++ xs) (later_ends more rest)
    ∙ sym (append_assoc (member_text member) (later_line more) (10 ∷ rest)))

pub object_is_read : (members : List Member) (rest : List ℕ) → list_all is_sound members ≡ true
    → ReadsObject (object_text members ++ rest) (map as_read members) (10 ∷ rest)
object_is_read members rest sound =
    subst (λ text. ReadsObject text (map as_read members) (10 ∷ rest))
    (sym (object_ends members rest)) (line_is_read members (10 ∷ rest) sound)

-- No line ends in an object.

both_in_line : (front back : List ℕ) → list_all is_in_line front ≡ true
    → list_all is_in_line back ≡ true → list_all is_in_line (front ++ back) ≡ true
both_in_line front back e f = rw (list_all-append is_in_line front back, e, f) refl

digit_in_line : (d : ℕ) → is_digit d ≡ true → is_in_line d ≡ true
digit_in_line d is = grind (arith, nat_tests)

hex_in_line : (n : ℕ) → is_in_line (hex_digit n) ≡ true
hex_in_line n = by (nat_lt n 10)
  where
    by : (low : Bool) → is_in_line (if low then n + 48 else n + 87) ≡ true
    by true = grind (arith, nat_tests)
    by false = grind (arith, nat_tests)

escaped_in_line : (b : ℕ) → list_all is_in_line (escaped b) ≡ true
escaped_in_line b = by (nat_lt b 32) (b == 34 || b == 92) refl
  where
    by : (control marked : Bool) → nat_lt b 32 ≡ control → list_all is_in_line (if control
        then 92 ∷ 117 ∷ 48 ∷ 48 ∷ hex_digit (b / 16) ∷ hex_digit (b % 16) ∷ [] else
        (if marked then 92 ∷ b ∷ [] else b ∷ [])) ≡ true
    by true marked e = rw (hex_in_line (b / 16), hex_in_line (b % 16)) refl
    by false marked e =
        let own : is_in_line b ≡ true = grind (arith, nat_tests) in
        either marked own
      where
        either : (marked : Bool) → is_in_line b ≡ true
            → list_all is_in_line (if marked then 92 ∷ b ∷ [] else b ∷ []) ≡ true
        either true own = rw own refl
        either false own = rw own refl

contents_in_line : (text : List ℕ) → list_all is_in_line (flat_map escaped text) ≡ true
contents_in_line [] = refl
contents_in_line (b ∷ text) = both_in_line (escaped b) (flat_map escaped text) (escaped_in_line b)
    (contents_in_line text)

string_in_line : (text : List ℕ) → list_all is_in_line (string_text text) ≡ true
string_in_line text = both_in_line (flat_map escaped text) (34 ∷ []) (contents_in_line text) refl

digits_in_line : (digits : List ℕ) → list_all is_digit digits ≡ true
    → list_all is_in_line digits ≡ true
digits_in_line [] each = refl
digits_in_line (d ∷ more) each =
    let parts : (is_digit d ≡ true) × (list_all is_digit more ≡ true) = and_parts _ _ each in
    rw (digit_in_line d parts.0) (digits_in_line more parts.1)

value_in_line : (is_number : Bool) (value : List ℕ) → is_sound_value is_number value ≡ true
    → list_all is_in_line (value_text is_number value) ≡ true
value_in_line true value sound = digits_in_line value (int_digits value sound).each
value_in_line false value sound = string_in_line (text_of value)

member_in_line : (member : Member) → is_sound member ≡ true
    → list_all is_in_line (member_text member) ≡ true
member_in_line member sound =
    both_in_line (string_text (text_of member.name)) (58 ∷ value_text member.is_number member.value)
    (string_in_line (text_of member.name)) (value_in_line member.is_number member.value sound)

later_in_line : (members : List Member) → list_all is_sound members ≡ true
    → list_all is_in_line (later_line members) ≡ true
later_in_line [] sound = refl
later_in_line (member ∷ more) sound =
    let parts : (is_sound member ≡ true) × (list_all is_sound more ≡ true) =
    and_parts _ _ sound in
    both_in_line (member_text member) (later_line more) (member_in_line member parts.0)
    (later_in_line more parts.1)

object_in_line : (members : List Member) → list_all is_sound members ≡ true
    → list_all is_in_line (object_line members) ≡ true
object_in_line [] sound = refl
object_in_line (member ∷ more) sound =
    let parts : (is_sound member ≡ true) × (list_all is_sound more ≡ true) =
    and_parts _ _ sound in
    both_in_line (member_text member) (later_line more) (member_in_line member parts.0)
    (later_in_line more parts.1)

-- Lines.

object_is_text : (members : List Member) → list_all is_sound members ≡ true
    → IsObjectText (object_line members) (map as_read members)
object_is_text members sound = record {
  after = [];
  reads = subst (λ text. ReadsObject text (map as_read members) [])
      (append-nil (object_line members)) (line_is_read members [] sound);
  each = refl;
}

pub lines_are_read : (objects : List (List Member))
    → list_all (list_all is_sound) objects ≡ true
    → ReadsObjects (map (map as_read) objects) (flat_map object_text objects)
lines_are_read [] sound = refl
lines_are_read (members ∷ more) sound =
    let parts : (list_all is_sound members ≡ true) × (list_all (list_all is_sound) more ≡ true) =
    and_parts _ _ sound in (
      object_line members,
      flat_map object_text more,
      object_ends members (flat_map object_text more),
      object_in_line members parts.0,
      object_is_text members parts.0,
      lines_are_read more parts.1,
    )

no_empty_line : (line rest : List ℕ) → [] ≡ line ++ 10 ∷ rest → ⊥
no_empty_line [] rest e = absurd cc
no_empty_line (b ∷ line) rest e = absurd cc

-- a text is the lines of one list of objects at most
pub one_list : (objects others : List (List Member)) (text : List ℕ) → ReadsObjects objects text
    → ReadsObjects others text → objects ≡ others
one_list [] [] text ends ends' = refl
one_list [] (other ∷ others) text ends (line, rest, e, in_line, reads, more) =
    absurd (no_empty_line line rest (sym ends ∙ e))
one_list (members ∷ objects) [] text (line, rest, e, in_line, reads, more) ends =
    absurd (no_empty_line line rest (sym ends ∙ e))
one_list (members ∷ objects) (other ∷ others) text (line, rest, e, in_line, reads, more)
    (line', rest', e', in_line', reads', more') =
    let own : (line ≡ line') × (10 ∷ rest ≡ 10 ∷ rest') =
    one_run is_in_line line line' (10 ∷ rest) (10 ∷ rest') in_line in_line'
    (10, rest, refl, refl) (10, rest', refl, refl) (sym e ∙ e') in
    let rests : rest ≡ rest' = cc in
    let first : members ≡ other = (one_reading line' members other reads.after reads'.after
    (subst (λ bytes. ReadsObject bytes members reads.after) own.0 reads.reads) reads'.reads).0 in
    let tail : objects ≡ others = one_list objects others rest'
    (subst (λ text. ReadsObjects objects text) rests more) more' in
    cc
