-- An object is UTF-8, where its names and its values are bytes.
use Rattle.std.proofs.Common.{◌≡◌, ◌≤◌, ◌<◌, ◌+◌, ◌/◌, ◌%◌, ℕ, suc, Bool, true, false, inl, inr}
use Rattle.std.proofs.Common.{List, [], ◌∷◌, refl, sym, ap, subst, arith, length, get_or}
use Rattle.std.proofs.Common.{append-nil}
use Rattle.std.specs.Prelude.{flat_map, nat_lt, ◌==◌, ◌||◌, ◌&&◌, if◌then◌else◌}
use Rattle.std.specs.List.{list_all}
use Rattle.std.specs.Str.{IsUtf8, is_utf8}
use Rattle.std.proofs.Math.Utf8.{encode, encodes, scalar, scalars, low_scalar}
use Rattle.std.proofs.lemmas.Bool.{and_parts, cases_lt, ltb-true, lt-ltb}
use Rattle.std.proofs.lemmas.Bool.Decides.{nat_tests}
use Rattle.std.proofs.lemmas.Grind.{flat_map-append}
use Rattle.std.proofs.lemmas.Str.{IsUtf8-append, IsUtf8-nil, IsUtf8-encode, IsUtf8-from_is_utf8}
use Rattle.std.proofs.lemmas.Str.{encode_ascii, inside_one, is_utf8-from_IsUtf8}
use Rattle.pgn_text.specs.Public.Bytes.{is_byte, is_digit}
use Rattle.pgn_extract.specs.Public.Json.{hex_digit, escaped, string_text, latin, text_of, Member}
use Rattle.pgn_extract.specs.Public.Json.{value_text, member_text, later_members, object_text}
use Rattle.pgn_extract.proofs.laws.ObjectLines.{is_sound_value, is_sound}
use Rattle.pgn_extract.proofs.laws.OneObject.{int_digits}

-- Bytes.

ascii_then : (b : ℕ) (rest : List ℕ) → b < 128 → IsUtf8 rest → IsUtf8 (b ∷ rest)
ascii_then b rest small is = IsUtf8-append (b ∷ []) rest
    (subst IsUtf8 (encode_ascii b small) (IsUtf8-encode b (low_scalar b (omega arith)))) is

hex_is_ascii : (n : ℕ) → n < 16 → hex_digit n < 128
hex_is_ascii n small = by (nat_lt n 10)
  where
    by : (low : Bool) → (if low then n + 48 else n + 87) < 128
    by true = omega arith
    by false = omega arith

escaped_is_utf8 : (b : ℕ) → b < 128 → IsUtf8 (escaped b)
escaped_is_utf8 b small = by (nat_lt b 32) (b == 34 || b == 92) refl
  where
    by : (control marked : Bool) → nat_lt b 32 ≡ control → IsUtf8 (if control
        then 92 ∷ 117 ∷ 48 ∷ 48 ∷ hex_digit (b / 16) ∷ hex_digit (b % 16) ∷ [] else
        (if marked then 92 ∷ b ∷ [] else b ∷ []))
    by true marked e =
        let lt : b < 32 = ltb-true b 32 e in
        ascii_then 92 _ (omega arith) (ascii_then 117 _ (omega arith)
        (ascii_then 48 _ (omega arith) (ascii_then 48 _ (omega arith)
        (ascii_then _ _ (hex_is_ascii (b / 16) (omega arith))
        (ascii_then _ _ (hex_is_ascii (b % 16) (omega arith)) IsUtf8-nil)))))
    by false true e = ascii_then 92 _ (omega arith) (ascii_then b [] small IsUtf8-nil)
    by false false e = ascii_then b [] small IsUtf8-nil

high_is_plain : (b : ℕ) → 128 ≤ b → escaped b ≡ b ∷ []
high_is_plain b high =
    let control : nat_lt b 32 ≡ false = grind (arith, nat_tests) in
    let quote : (b == 34) ≡ false = grind (arith, nat_tests) in
    let slash : (b == 92) ≡ false = grind (arith, nat_tests) in
    rw (control, quote, slash) refl

high_are_plain : (bytes : List ℕ) → ((k : ℕ) → k < length bytes → 128 ≤ get_or bytes k 0)
    → flat_map escaped bytes ≡ bytes
high_are_plain [] high = refl
high_are_plain (b ∷ bytes) high =
    rw (high_is_plain b (high 0 (omega arith)))
    (ap (λ (xs : List ℕ). b ∷ xs) (high_are_plain bytes (λ k below. high (suc k) (omega arith))))

-- Texts.

char_is_utf8 : (c : ℕ) → scalar c ≡ true → IsUtf8 (flat_map escaped (encode c))
char_is_utf8 c is = elim (cases_lt c 128) [
  | inl small ↦ rw (encode_ascii c small, append-nil) (escaped_is_utf8 c small)
  | inr large ↦
      let high : (k : ℕ) → k < length (encode c) → 128 ≤ get_or (encode c) k 0 =
      λ k below. elim (cases_lt (get_or (encode c) k 0) 128) [
        | inl low ↦ absurd (omega (
          arith,
          inside_one c [] (encode c) k (sym (append-nil _)) below low,
        ))
        | inr h ↦ h
      ] in
      subst IsUtf8 (sym (high_are_plain (encode c) high)) (IsUtf8-encode c is)
]

chars_are_utf8 : (cs : List ℕ) → scalars cs ≡ true → IsUtf8 (flat_map escaped (encodes cs))
chars_are_utf8 [] are = IsUtf8-nil
chars_are_utf8 (c ∷ cs) are =
    let parts : (scalar c ≡ true) × (scalars cs ≡ true) = and_parts _ _ are in
    subst IsUtf8 (sym (flat_map-append escaped (encode c) (encodes cs)))
    (IsUtf8-append _ _ (char_is_utf8 c parts.0) (chars_are_utf8 cs parts.1))

string_is_utf8 : (text : List ℕ) → IsUtf8 text → IsUtf8 (string_text text)
string_is_utf8 text is =
    ascii_then 34 _ (omega arith) (IsUtf8-append (flat_map escaped text) (34 ∷ [])
    (subst (λ xs. IsUtf8 (flat_map escaped xs)) is.1.1 (chars_are_utf8 is.0 is.1.0))
    (ascii_then 34 [] (omega arith) IsUtf8-nil))

latin_is_encoded : (b : ℕ) → nat_lt b 128 ≡ false → b < 2048
    → encode b ≡ (192 + b / 64) ∷ (128 + b % 64) ∷ []
unfolding encode
latin_is_encoded b high small = rw (high, lt-ltb b 2048 small) refl

latin_is_utf8 : (b : ℕ) → is_byte b ≡ true → IsUtf8 (latin b)
latin_is_utf8 b is =
    let small : b < 256 = grind (arith, nat_tests) in
    by (nat_lt b 128) refl small
  where
    by : (low : Bool) → nat_lt b 128 ≡ low → b < 256
        → IsUtf8 (if low then b ∷ [] else (192 + b / 64) ∷ (128 + b % 64) ∷ [])
    by true e small = ascii_then b [] (ltb-true b 128 e) IsUtf8-nil
    by false e small = subst IsUtf8 (latin_is_encoded b e (omega arith))
        (IsUtf8-encode b (low_scalar b (omega arith)))

latins_are_utf8 : (value : List ℕ) → list_all is_byte value ≡ true → IsUtf8 (flat_map latin value)
latins_are_utf8 [] are = IsUtf8-nil
latins_are_utf8 (b ∷ value) are =
    let parts : (is_byte b ≡ true) × (list_all is_byte value ≡ true) = and_parts _ _ are in
    IsUtf8-append (latin b) (flat_map latin value) (latin_is_utf8 b parts.0)
    (latins_are_utf8 value parts.1)

text_is_utf8 : (value : List ℕ) → list_all is_byte value ≡ true → IsUtf8 (text_of value)
text_is_utf8 value are = by (is_utf8 value) refl
  where
    by : (is : Bool) → is_utf8 value ≡ is → IsUtf8 (if is then value else flat_map latin value)
    by true e = IsUtf8-from_is_utf8 value e
    by false e = latins_are_utf8 value are

-- the byte is ASCII
abbrev pub is_low : ℕ → Bool
is_low b = nat_lt b 128

pub low_are_utf8 : (text : List ℕ) → list_all is_low text ≡ true → IsUtf8 text
low_are_utf8 [] are = IsUtf8-nil
low_are_utf8 (b ∷ text) are =
    let parts : (is_low b ≡ true) × (list_all is_low text ≡ true) = and_parts _ _ are in
    ascii_then b text (ltb-true b 128 parts.0) (low_are_utf8 text parts.1)

digits_are_low : (digits : List ℕ) → list_all is_digit digits ≡ true
    → list_all is_low digits ≡ true
digits_are_low [] are = refl
digits_are_low (d ∷ digits) are =
    let parts : (is_digit d ≡ true) × (list_all is_digit digits ≡ true) = and_parts _ _ are in
    rw (small parts.0) (digits_are_low digits parts.1)
  where
    small : is_digit d ≡ true → is_low d ≡ true
    small is = grind (arith, nat_tests)

-- Members.

-- the name and the value are bytes
abbrev pub has_bytes : Member → Bool
has_bytes member = list_all is_byte member.name && list_all is_byte member.value

value_is_utf8 : (is_number : Bool) (value : List ℕ) → is_sound_value is_number value ≡ true
    → list_all is_byte value ≡ true → IsUtf8 (value_text is_number value)
value_is_utf8 true value sound are =
    low_are_utf8 value (digits_are_low value (int_digits value sound).each)
value_is_utf8 false value sound are = string_is_utf8 (text_of value) (text_is_utf8 value are)

member_is_utf8 : (member : Member) → is_sound member ≡ true → has_bytes member ≡ true
    → IsUtf8 (member_text member)
member_is_utf8 member sound has =
    let parts : (list_all is_byte member.name ≡ true) × (list_all is_byte member.value ≡ true) =
    and_parts _ _ has in
    IsUtf8-append (string_text (text_of member.name))
    (58 ∷ value_text member.is_number member.value)
    (string_is_utf8 (text_of member.name) (text_is_utf8 member.name parts.0))
    (ascii_then 58 _ (omega arith)
    (value_is_utf8 member.is_number member.value sound parts.1))

later_are_utf8 : (members : List Member) → list_all is_sound members ≡ true
    → list_all has_bytes members ≡ true → IsUtf8 (later_members members)
later_are_utf8 [] sound has =
    ascii_then 125 _ (omega arith) (ascii_then 10 [] (omega arith) IsUtf8-nil)
later_are_utf8 (member ∷ more) sound has =
    let sounds : (is_sound member ≡ true) × (list_all is_sound more ≡ true) =
    and_parts _ _ sound in
    let bytes : (has_bytes member ≡ true) × (list_all has_bytes more ≡ true) = and_parts _ _ has in
    ascii_then 44 _ (omega arith) (IsUtf8-append (member_text member) (later_members more)
    (member_is_utf8 member sounds.0 bytes.0) (later_are_utf8 more sounds.1 bytes.1))

object_is_utf8 : (members : List Member) → list_all is_sound members ≡ true
    → list_all has_bytes members ≡ true → IsUtf8 (object_text members)
object_is_utf8 [] sound has = ascii_then 123 _ (omega arith) (later_are_utf8 [] sound has)
object_is_utf8 (member ∷ more) sound has =
    let sounds : (is_sound member ≡ true) × (list_all is_sound more ≡ true) =
    and_parts _ _ sound in
    let bytes : (has_bytes member ≡ true) × (list_all has_bytes more ≡ true) = and_parts _ _ has in
    ascii_then 123 _ (omega arith) (IsUtf8-append (member_text member) (later_members more)
    (member_is_utf8 member sounds.0 bytes.0) (later_are_utf8 more sounds.1 bytes.1))

pub object_passes : (members : List Member) → list_all is_sound members ≡ true
    → list_all has_bytes members ≡ true → is_utf8 (object_text members) ≡ true
object_passes members sound has =
    is_utf8-from_IsUtf8 (object_text members) (object_is_utf8 members sound has)
