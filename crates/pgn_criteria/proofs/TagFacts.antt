-- Conditions on a tag: what spells one is read as it, and the other way round.
use Rattle.std.proofs.lemmas.List.{length-append}
use Rattle.pgn_criteria.proofs.Common.{◌≡◌, ◌≢◌, ℕ, true, List, [], ◌∷◌, ◌++◌, refl, sym, IsTrue}
use Rattle.pgn_criteria.proofs.Common.{ap, ◌∙◌, length, drop, arith, codes, list_all, nat_tests}
use Rattle.pgn_criteria.proofs.Common.{parted_at, IsContents, after_word, SpellsNamed, SpellsTag}
use Rattle.pgn_criteria.proofs.Common.{SpellsDigits, SpellsDays, AreNames, CanBeCompared}
use Rattle.pgn_criteria.proofs.Common.{relation_text, comparison_text, Comparison, Relation, Has}
use Rattle.pgn_criteria.proofs.Common.{Text, Number, Date, Days}
use Rattle.pgn_text.specs.Public.Bytes.{is_name_byte}
use Rattle.pgn_criteria.specs.Private.Reading.{ReadsNamed}
use Rattle.pgn_criteria.specs.declared.compare.Relation.TheVariants.{Equal}
use Rattle.pgn_criteria.proofs.PliesFacts.{comparison_solid, comparison_begins, count_begins}
use Rattle.pgn_criteria.proofs.PliesFacts.{count_some}
use Rattle.pgn_criteria.proofs.DayTextFacts.{days_some, days_begin}
use Rattle.pgn_criteria.proofs.SolidFacts.{is_solid, AreSolid, EachSolid, BeginsSolid, all_solid}
use Rattle.pgn_criteria.proofs.SolidFacts.{parts_solid, solid_begins, begins_front, front_some}
use Rattle.pgn_criteria.proofs.SolidFacts.{word_read, word_spelled}

name_byte_solid : (b : ℕ) → is_name_byte b ≡ true → is_solid b ≡ true
name_byte_solid b is = grind (arith, nat_tests)

name_solid : (name : List ℕ) → IsTrue (list_all is_name_byte name) → AreSolid name
name_solid name each = all_solid is_name_byte name_byte_solid name each

each_solid : (names : List (List ℕ)) → AreNames names → EachSolid names
each_solid [] are = tt
each_solid (name ∷ more) are = (name_solid name are.0.1, each_solid more are.1)

-- names with | between them
names_solid : (names : List ℕ) → AreNames (parted_at 124 names) → AreSolid names
names_solid names are = parts_solid 124 refl names (each_solid (parted_at 124 names) are)

names_some : (names : List ℕ) → AreNames (parted_at 124 names) → names ≢ []
names_some [] are none = are.0.0 refl
names_some (b ∷ x) are none = cc

relation_solid : (relation : Relation) → AreSolid (relation_text relation)
relation_solid Equal = refl
relation_solid _ = refl

relation_some : (relation : Relation) → relation_text relation ≢ []
relation_some Equal none = cc
relation_some _ none = cc

-- a string with these contents
abbrev pub quoted : List ℕ → List ℕ
quoted contents = 34 ∷ (contents ++ 34 ∷ [])

pub relation_begins : (relation : Relation) → BeginsSolid (relation_text relation)
relation_begins relation =
    solid_begins (relation_text relation) (relation_some relation) (relation_solid relation)

names_begin : (names : List ℕ) → AreNames (parted_at 124 names) → BeginsSolid names
names_begin names are = solid_begins names (names_some names are) (names_solid names are)

-- what is spelled with names and an operator is read so
pub named_read : (key text names operator own : List ℕ) → AreSolid key → AreSolid operator
    → BeginsSolid operator → BeginsSolid own → SpellsNamed key text names operator own
    → ReadsNamed key text names operator own
named_read key text names operator own solid sign begins rest
    (first, second, third, is, g, h, k, are) =
    let compared = operator ++ (third ++ own) in
    let named = names ++ (second ++ compared) in
    let one = word_read text key first named is solid g
    (begins_front names (second ++ compared) (names_begin names are)) in
    let two = word_read (after_word text) names second compared one.1 (names_solid names are) h
    (begins_front operator (third ++ own) begins) in
    let three = word_read (after_word (after_word text)) operator third own two.1 sign k rest in
    record { key_is = one.0; name_is = two.0; are = are; operator_is = three.0; own_is = three.1 }

-- and the other way round
pub named_spelled : (key text names operator own : List ℕ) → BeginsSolid operator → own ≢ []
    → ReadsNamed key text names operator own → SpellsNamed key text names operator own
named_spelled key text names operator own begins some reads =
    let three =
    word_spelled (after_word (after_word text)) operator own reads.operator_is reads.own_is some in
    let compared = operator ++ (three.0 ++ own) in
    let two = word_spelled (after_word text) names compared reads.name_is three.1
    (front_some operator (three.0 ++ own) begins) in
    let one = word_spelled text key (names ++ (two.0 ++ compared)) reads.key_is two.1
    (front_some names (two.0 ++ compared) (names_begin names reads.are)) in
    (one.0, two.0, three.0, one.1, one.2, two.2, three.2, reads.are)

-- in one way
pub named_once : (key text names other operator sign own more : List ℕ)
    → ReadsNamed key text names operator own → ReadsNamed key text other sign more
    → (names ≡ other) × (operator ≡ sign) × (own ≡ more)
named_once key text names other operator sign own more is has =
    (sym is.name_is ∙ has.name_is, sym is.operator_is ∙ has.operator_is, sym is.own_is ∙ has.own_is)

-- the operator and what follows it are these
named_as : (key text names operator sign own more : List ℕ)
    → ReadsNamed key text names operator own → operator ≡ sign → own ≡ more
    → ReadsNamed key text names sign more
named_as key text names operator sign own more reads same too = record {
  key_is = reads.key_is;
  name_is = reads.name_is;
  are = reads.are;
  operator_is = reads.operator_is ∙ same;
  own_is = reads.own_is ∙ too;
}

pub tag_read : (text names : List ℕ) (relation : Relation) (contents : List ℕ)
    → SpellsTag text names (Text relation contents)
    → ReadsNamed (codes "tag") text names (relation_text relation) (quoted contents)
tag_read text names relation contents spells =
    named_read (codes "tag") text names (relation_text relation) (quoted contents) refl
    (relation_solid relation) (relation_begins relation)
    (34, contents ++ 34 ∷ [], refl, refl) spells.0

pub tag_spelled : (text names operator string : List ℕ) (relation : Relation)
    (contents : List ℕ) → ReadsNamed (codes "tag") text names operator string
    → operator ≡ relation_text relation → string ≡ quoted contents → IsContents contents
    → CanBeCompared relation contents → SpellsTag text names (Text relation contents)
tag_spelled text names operator string relation contents reads sign own good fits =
    let read = named_as (codes "tag") text names operator (relation_text relation) string
    (quoted contents) reads sign own in
    let named = named_spelled (codes "tag") text names (relation_text relation) (quoted contents)
    (relation_begins relation) (λ none. cc) read in
    (named, good, fits)

-- a number of which the digits end the text
pub number_read : (text names : List ℕ) (comparison : Comparison) (number : ℕ)
    → SpellsTag text names (Number comparison number) → (digits : List ℕ)
    × ReadsNamed (codes "number") text names (comparison_text comparison) digits
    × SpellsDigits 9 digits number
number_read text names comparison number (digits, named, counted) =
    let read = named_read (codes "number") text names (comparison_text comparison) digits refl
    (comparison_solid comparison) (comparison_begins comparison)
    (count_begins digits number counted) named in
    (digits, read, counted)

pub number_spelled : (text names operator digits : List ℕ) (comparison : Comparison) (number : ℕ)
    → ReadsNamed (codes "number") text names operator digits
    → operator ≡ comparison_text comparison → SpellsDigits 9 digits number
    → SpellsTag text names (Number comparison number)
number_spelled text names operator digits comparison number reads sign counted =
    let read = named_as (codes "number") text names operator (comparison_text comparison) digits
    digits reads sign refl in
    let named = named_spelled (codes "number") text names (comparison_text comparison) digits
    (comparison_begins comparison) (count_some digits number counted) read in
    (digits, named, counted)

-- a date of which the last digit ends the text
pub date_read : (text names : List ℕ) (comparison : Comparison) (days : Days)
    → SpellsTag text names (Date comparison days)
    → (date : List ℕ) × ReadsNamed (codes "date") text names (comparison_text comparison) date
    × SpellsDays (parted_at 46 date) days
date_read text names comparison days (date, named, spelled) =
    let read = named_read (codes "date") text names (comparison_text comparison) date refl
    (comparison_solid comparison) (comparison_begins comparison) (days_begin date days spelled)
    named in
    (date, read, spelled)

pub date_spelled : (text names operator date : List ℕ) (comparison : Comparison) (days : Days)
    → ReadsNamed (codes "date") text names operator date
    → operator ≡ comparison_text comparison → SpellsDays (parted_at 46 date) days
    → SpellsTag text names (Date comparison days)
date_spelled text names operator date comparison days reads sign spelled =
    let read = named_as (codes "date") text names operator (comparison_text comparison) date date
    reads sign refl in
    let named = named_spelled (codes "date") text names (comparison_text comparison) date
    (comparison_begins comparison) (days_some date days spelled) read in
    (date, named, spelled)

has_read : (relation : Relation) → relation_text relation ≡ codes "has" → relation ≡ Has
has_read Has is = refl
has_read _ is = cc

-- what is read can be compared where what is spelled can
pub read_fits : (relation other : Relation) (contents found : List ℕ)
    → relation_text relation ≡ relation_text other → quoted contents ≡ quoted found
    → CanBeCompared relation contents → CanBeCompared other found
read_fits relation other contents found operator string fits is_has =
    let short = fits (has_read relation (operator ∙ ap relation_text is_has)) in
    let long : length (contents ++ 34 ∷ []) ≡ length (found ++ 34 ∷ []) =
    ap (λ x. length (drop 1 x)) string in
    omega (arith, short, long, length-append contents (34 ∷ []), length-append found (34 ∷ []))
