-- How RFC 8259 reads an object whose values are strings and whole numbers, since no others are
-- written; and JSON Lines, with an object in each line.
use Rattle.std.specs.Prelude.{◌≡◌, ℕ, Bool, true, false, not, ◌==◌, ◌||◌, ◌&&◌, List, [], ◌∷◌}
use Rattle.std.specs.Prelude.{◌++◌, IsTrue}
use Rattle.std.specs.List.{list_all}
use Rattle.pgn_text.specs.Public.Bytes.{is_digit, is_empty}
use Rattle.pgn_extract.specs.Public.Json.{Member, ReadsString}

-- white space (section 2): a blank, a tab, a line feed or a carriage return
abbrev pub is_space : ℕ → Bool
is_space b = b == 32 || b == 9 || b == 10 || b == 13

-- the text begins with white space or with none, and the rest stands after it
pub record SkipsSpace (text rest : List ℕ) : Type 0 where
  pub space : List ℕ
  pub each : IsTrue (list_all is_space space)
  pub spells : text ≡ space ++ rest

-- the text begins with this byte after white space, and the rest stands after it
abbrev pub ReadsByte : ℕ → List ℕ → List ℕ → Type 0
ReadsByte b text rest = SkipsSpace text (b ∷ rest)

-- digits, and a zero before others is none of them (section 6, `int`)
abbrev pub is_int : List ℕ → Bool
is_int [] = false
is_int (d ∷ more) = list_all is_digit (d ∷ more) && (is_empty more || not (d == 48))

-- the text begins with this value, a number or a string, and the rest stands after it
abbrev pub ReadsValue : Bool → List ℕ → List ℕ → List ℕ → Type 0
ReadsValue true text value rest = IsTrue (is_int value) × (text ≡ value ++ rest)
ReadsValue false text value rest = ReadsString text value rest

-- the text begins with this name: a string, a colon, and the white space around them
pub record ReadsName (text name rest : List ℕ) : Type 0 where
  pub string : List ℕ
  pub after_string : List ℕ
  pub after_colon : List ℕ
  pub before_string : SkipsSpace text string
  pub names : ReadsString string name after_string
  pub colon : ReadsByte 58 after_string after_colon
  pub before_value : SkipsSpace after_colon rest

-- the text begins with this member, and the rest stands after it
pub record ReadsMember (text : List ℕ) (member : Member) (rest : List ℕ) : Type 0 where
  pub value : List ℕ
  pub names : ReadsName text member.name value
  pub gives : ReadsValue member.is_number value member.value rest

-- the text begins with these members, each after a comma, and a brace after them
abbrev pub ReadsLater : List Member → List ℕ → List ℕ → Type 0
ReadsLater [] text rest = ReadsByte 125 text rest
ReadsLater (member ∷ more) text rest =
    (own : List ℕ) × (after : List ℕ) × ReadsByte 44 text own × ReadsMember own member after
    × ReadsLater more after rest

-- the text begins with these members with commas between, and a brace after them
abbrev pub ReadsMembers : List Member → List ℕ → List ℕ → Type 0
ReadsMembers [] text rest = ReadsByte 125 text rest
ReadsMembers (member ∷ more) text rest =
    (after : List ℕ) × ReadsMember text member after × ReadsLater more after rest

-- the text begins with an object of these members, and the rest stands after it (section 4)
pub record ReadsObject (text : List ℕ) (members : List Member) (rest : List ℕ) : Type 0 where
  pub inner : List ℕ
  pub opens : ReadsByte 123 text inner
  pub reads : ReadsMembers members inner rest

-- the text is an object of these members, and white space (section 2)
pub record IsObjectText (text : List ℕ) (members : List Member) : Type 0 where
  pub after : List ℕ
  pub reads : ReadsObject text members after
  pub each : IsTrue (list_all is_space after)

-- the byte does not end a line
abbrev pub is_in_line : ℕ → Bool
is_in_line b = not (b == 10)

-- the text is lines from its first byte to its last, and each is one of these objects
abbrev pub ReadsObjects : List (List Member) → List ℕ → Type 0
ReadsObjects [] text = text ≡ []
ReadsObjects (members ∷ more) text =
    (line : List ℕ) × (rest : List ℕ) × (text ≡ line ++ 10 ∷ rest)
    × IsTrue (list_all is_in_line line) × IsObjectText line members × ReadsObjects more rest
