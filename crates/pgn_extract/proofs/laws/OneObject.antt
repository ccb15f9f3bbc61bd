-- A text begins with one object at most.
use Rattle.std.proofs.Common.{◌≡◌, ℕ, Bool, true, false, List, [], ◌∷◌, ◌++◌, refl, sym, ap, subst}
use Rattle.std.proofs.Common.{◌∙◌, arith}
use Rattle.std.specs.List.{list_all}
use Rattle.std.proofs.lemmas.Bool.{and_parts}
use Rattle.std.proofs.lemmas.Bool.Decides.{nat_tests}
use Rattle.pgn_text.specs.Public.Bytes.{is_digit}
use Rattle.pgn_extract.specs.Public.Json.{Member, ReadsString}
use Rattle.pgn_extract.specs.Public.Objects.{is_space, SkipsSpace, ReadsByte, is_int, ReadsValue}
use Rattle.pgn_extract.specs.Public.Objects.{ReadsName, ReadsMember, ReadsLater}
use Rattle.pgn_extract.specs.Public.Objects.{ReadsMembers}
use Rattle.pgn_extract.specs.Public.ObjectLaws.{ObjectHasOneReading}
use Rattle.pgn_extract.proofs.laws.Codes.{LeavesRun, one_run, heads, tails}
use Rattle.pgn_extract.proofs.laws.JsonStrings as strings

-- White space and what stands after it.

digit_is_no_space : (d : ℕ) → is_digit d ≡ true → is_space d ≡ false
digit_is_no_space d is = grind (arith, nat_tests)

space_is_no_digit : (d : ℕ) → is_space d ≡ true → is_digit d ≡ false
space_is_no_digit d is = grind (arith, nat_tests)

-- the text begins with a byte that is no white space
abbrev pub Begins : List ℕ → Type 0
Begins text = LeavesRun is_space text

one_skip : (text t u : List ℕ) → SkipsSpace text t → SkipsSpace text u → Begins t → Begins u
    → t ≡ u
one_skip text t u skips skips' begins begins' =
    (one_run is_space skips.space skips'.space t u skips.each skips'.each begins begins'
    (sym skips.spells ∙ skips'.spells)).1

-- two bytes that are no white space are the same byte
pub one_byte : (b c : ℕ) (text rest more : List ℕ) → is_space b ≡ false → is_space c ≡ false
    → ReadsByte b text rest → ReadsByte c text more → (b ≡ c) × (rest ≡ more)
one_byte b c text rest more b_is c_is reads reads' =
    let same : b ∷ rest ≡ c ∷ more = one_skip text (b ∷ rest) (c ∷ more) reads reads'
    (b, rest, refl, b_is) (c, more, refl, c_is) in
    (heads same, tails same)

string_begins : (bytes text rest : List ℕ) → ReadsString bytes text rest → Begins bytes
string_begins bytes text rest reads = (34, _, reads.spells, refl)

-- after white space a byte that is no digit is none
byte_leaves : (b : ℕ) (text rest : List ℕ) → is_digit b ≡ false → ReadsByte b text rest
    → LeavesRun is_digit text
byte_leaves b text rest other reads = by reads.space reads.each reads.spells
  where
    by : (space : List ℕ) → list_all is_space space ≡ true → text ≡ space ++ b ∷ rest
        → LeavesRun is_digit text
    by [] each e = (b, rest, e, other)
    by (s ∷ space) each e = (
      s,
      space ++ b ∷ rest,
      e,
      space_is_no_digit s (and_parts _ _ each).0,
    )

-- Values.

pub record IsDigits (value : List ℕ) : Type 0 where
  pub first : ℕ
  pub more : List ℕ
  pub begins : value ≡ first ∷ more
  pub each : list_all is_digit value ≡ true
  pub digit : is_digit first ≡ true

pub int_digits : (value : List ℕ) → is_int value ≡ true → IsDigits value
int_digits [] is = absurd cc
int_digits (d ∷ more) is =
    let each : list_all is_digit (d ∷ more) ≡ true = (and_parts _ _ is).0 in
    record {
      first = d;
      more = more;
      begins = refl;
      each = each;
      digit = (and_parts _ _ each).0;
    }

-- a number is no string
no_string : (text value rest other more : List ℕ) → ReadsValue true text value rest
    → ReadsString text other more → ⊥
no_string text value rest other more (is, e) reads =
    let int : IsDigits value = int_digits value is in
    let whole : int.first ∷ (int.more ++ rest) ≡ 34 ∷ _ =
    ap (λ xs. xs ++ rest) (sym int.begins) ∙ sym e ∙ reads.spells in
    let quote : is_digit 34 ≡ true = subst (λ b. is_digit b ≡ true) (heads whole) int.digit in
    absurd cc

pub value_begins : (is_number : Bool) (text value rest : List ℕ)
    → ReadsValue is_number text value rest → Begins text
value_begins true text value rest (is, e) =
    let int : IsDigits value = int_digits value is in (
      int.first,
      int.more ++ rest,
      e ∙ ap (λ xs. xs ++ rest) int.begins,
      digit_is_no_space int.first int.digit,
    )
value_begins false text value rest reads = string_begins text value rest reads

-- two values are the same one, where no digit stands after them
record IsOneValue (is_number is_other : Bool) (value other rest more : List ℕ) : Type 0 where
  kind : is_number ≡ is_other
  same : value ≡ other
  after : rest ≡ more

one_value : (is_number is_other : Bool) (text value other rest more : List ℕ)
    → ReadsValue is_number text value rest → ReadsValue is_other text other more
    → LeavesRun is_digit rest → LeavesRun is_digit more
    → IsOneValue is_number is_other value other rest more
one_value true true text value other rest more (is, e) (is', e') leaves leaves' =
    let both : (value ≡ other) × (rest ≡ more) = one_run is_digit value other rest more
    (int_digits value is).each (int_digits other is').each leaves leaves' (sym e ∙ e') in
    record { kind = refl; same = both.0; after = both.1 }
one_value true false text value other rest more reads reads' leaves leaves' =
    absurd (no_string text value rest other more reads reads')
one_value false true text value other rest more reads reads' leaves leaves' =
    absurd (no_string text other more value rest reads' reads)
one_value false false text value other rest more reads reads' leaves leaves' =
    let both : (value ≡ other) × (rest ≡ more) =
    strings.one_reading text value other rest more reads reads' in
    record { kind = refl; same = both.0; after = both.1 }

-- Members.

same_member : (member other : Member) → member.name ≡ other.name
    → member.is_number ≡ other.is_number → member.value ≡ other.value → member ≡ other
same_member member other names kinds values =
    let parts : (member.name, (member.is_number, member.value))
    ≡ (other.name, (other.is_number, other.value)) = cc in
    ap (λ (p : List ℕ × (Bool × List ℕ)). record {
      name = p.0;
      is_number = p.1.0;
      value = p.1.1;
    }) parts

pub one_name : (text name other rest more : List ℕ) → ReadsName text name rest
    → ReadsName text other more → Begins rest → Begins more → (name ≡ other) × (rest ≡ more)
one_name text name other rest more reads reads' begins begins' =
    let texts : reads.string ≡ reads'.string =
    one_skip text reads.string reads'.string reads.before_string reads'.before_string
    (string_begins _ _ _ reads.names) (string_begins _ _ _ reads'.names) in
    let names : (name ≡ other) × (reads.after_string ≡ reads'.after_string) =
    strings.one_reading reads'.string name other reads.after_string reads'.after_string
    (subst (λ bytes. ReadsString bytes name reads.after_string) texts reads.names)
    reads'.names in
    let colons : (58 ≡ 58) × (reads.after_colon ≡ reads'.after_colon) =
    one_byte 58 58 reads'.after_string reads.after_colon reads'.after_colon refl refl
    (subst (λ bytes. ReadsByte 58 bytes reads.after_colon) names.1 reads.colon) reads'.colon in (
      names.0,
      one_skip reads'.after_colon rest more
          (subst (λ bytes. SkipsSpace bytes rest) colons.1 reads.before_value) reads'.before_value
          begins begins',
    )

pub one_member : (text : List ℕ) (member other : Member) (rest more : List ℕ)
    → ReadsMember text member rest → ReadsMember text other more
    → LeavesRun is_digit rest → LeavesRun is_digit more → (member ≡ other) × (rest ≡ more)
one_member text member other rest more reads reads' leaves leaves' =
    let names : (member.name ≡ other.name) × (reads.value ≡ reads'.value) =
    one_name text member.name other.name reads.value reads'.value reads.names reads'.names
    (value_begins _ _ _ _ reads.gives) (value_begins _ _ _ _ reads'.gives) in
    let own : IsOneValue member.is_number other.is_number member.value other.value rest more =
    one_value member.is_number other.is_number reads'.value member.value other.value rest more
    (subst (λ bytes. ReadsValue member.is_number bytes member.value rest) names.1 reads.gives)
    reads'.gives leaves leaves' in
    (same_member member other names.0 own.kind own.same, own.after)

-- no digit stands before a comma or a brace
pub later_leaves : (members : List Member) (text rest : List ℕ) → ReadsLater members text rest
    → LeavesRun is_digit text
later_leaves [] text rest reads = byte_leaves 125 text rest refl reads
later_leaves (member ∷ more) text rest (own, after, comma, reads, later) =
    byte_leaves 44 text own refl comma

one_later : (members others : List Member) (text rest more : List ℕ)
    → ReadsLater members text rest → ReadsLater others text more
    → (members ≡ others) × (rest ≡ more)
one_later [] [] text rest more ends ends' =
    (refl, (one_byte 125 125 text rest more refl refl ends ends').1)
one_later [] (other ∷ others) text rest more ends (own, after, comma, reads, later) =
    let same = (one_byte 125 44 text rest own refl refl ends comma).0 in
    absurd (omega arith)
one_later (member ∷ members) [] text rest more (own, after, comma, reads, later) ends =
    let same = (one_byte 44 125 text own more refl refl comma ends).0 in
    absurd (omega arith)
one_later (member ∷ members) (other ∷ others) text rest more (own, after, comma, reads, later)
    (own', after', comma', reads', later') =
    let texts : own ≡ own' = (one_byte 44 44 text own own' refl refl comma comma').1 in
    let first : (member ≡ other) × (after ≡ after') =
    one_member own' member other after after'
    (subst (λ bytes. ReadsMember bytes member after) texts reads) reads'
    (later_leaves members after rest later) (later_leaves others after' more later') in
    let tail : (members ≡ others) × (rest ≡ more) =
    one_later members others after' rest more
    (subst (λ bytes. ReadsLater members bytes rest) first.1 later) later' in
    (cc, tail.1)

-- a brace is no member
pub no_brace : (text : List ℕ) (member : Member) (rest more : List ℕ) → ReadsByte 125 text rest
    → ReadsMember text member more → ⊥
no_brace text member rest more ends reads =
    let own : 125 ∷ rest ≡ reads.names.string =
    one_skip text (125 ∷ rest) reads.names.string ends reads.names.before_string
    (125, rest, refl, refl) (string_begins _ _ _ reads.names.names) in
    let same = heads (own ∙ reads.names.names.spells) in
    absurd (omega arith)

one_members : (members others : List Member) (text rest more : List ℕ)
    → ReadsMembers members text rest → ReadsMembers others text more
    → (members ≡ others) × (rest ≡ more)
one_members [] [] text rest more ends ends' =
    (refl, (one_byte 125 125 text rest more refl refl ends ends').1)
one_members [] (other ∷ others) text rest more ends (after, reads, later) =
    absurd (no_brace text other rest after ends reads)
one_members (member ∷ members) [] text rest more (after, reads, later) ends =
    absurd (no_brace text member more after ends reads)
one_members (member ∷ members) (other ∷ others) text rest more (after, reads, later)
    (after', reads', later') =
    let first : (member ≡ other) × (after ≡ after') =
    one_member text member other after after' reads reads'
    (later_leaves members after rest later) (later_leaves others after' more later') in
    let tail : (members ≡ others) × (rest ≡ more) =
    one_later members others after' rest more
    (subst (λ bytes. ReadsLater members bytes rest) first.1 later) later' in
    (cc, tail.1)

pub one_reading : ObjectHasOneReading
one_reading text members others rest more reads reads' =
    let inner : reads.inner ≡ reads'.inner =
    (one_byte 123 123 text reads.inner reads'.inner refl refl reads.opens reads'.opens).1 in
    one_members members others reads'.inner rest more
    (subst (λ bytes. ReadsMembers members bytes rest) inner reads.reads) reads'.reads
