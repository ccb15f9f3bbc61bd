-- Names of tags that a text lists, one after another.
use Rattle.std.specs.List.{Contains, list_any}
use Rattle.std.specs.Prelude.{◌||◌, bytes_eq}
use Rattle.std.proofs.lemmas.List.{append_assoc}
use Rattle.std.proofs.lemmas.List.Elements.{Contains-append_right, Contains-push_cases}
use Rattle.std.proofs.lemmas.Slice.Eq.{bytes_eq-Decides}
use Rattle.pgn_extract.proofs.Common.{◌≡◌, ℕ, Bool, true, false, List, [], ◌∷◌, ◌++◌, refl, sym, ap}
use Rattle.pgn_extract.proofs.Common.{◌∙◌, subst, inl, inr}
use Rattle.chess.specs.Public.Fen.{parted_at}
use Rattle.pgn_extract.proofs.rows.ColumnFacts.{distinct_more, first_or_later, has_first, has_later}
use Rattle.pgn_extract.proofs.rows.ColumnFacts.{no_element}
use Rattle.pgn_extract.specs.Public.AskedEdits.{IsOrder}
use Rattle.pgn_extract.specs.Public.Columns.{AreDistinct, IsTagName}

-- so many names were read, and what is left lists the others
pub record HasListed (text rest : List ℕ) (names : List (List ℕ)) : Type 0 where
  pub parts : parted_at 44 text ≡ names ++ parted_at 44 rest
  pub named : (name : List ℕ) → Contains names name → IsTagName name
  pub distinct : AreDistinct names

-- ---- whether a name was read

abbrev pub is_there : List ℕ → List (List ℕ) → Bool
is_there name names = list_any (λ other. bytes_eq other name) names

found : (names : List (List ℕ)) (own name : List ℕ) (same : Bool) → bytes_eq own name ≡ same
    → (same || is_there name names) ≡ true → (is_there name names ≡ true → Contains names name)
    → Contains (own ∷ names) name
found names own name true is any later =
    subst (Contains (own ∷ names)) ((bytes_eq-Decides own name).0 is) (has_first own names)
found names own name false is any later = has_later own name names (later any)

pub read_before : (names : List (List ℕ)) (name : List ℕ) → is_there name names ≡ true
    → Contains names name
read_before [] name any = absurd (cc)
read_before (own ∷ names) name any =
    found names own name (bytes_eq own name) refl any (read_before names name)

missing : (names : List (List ℕ)) (own name : List ℕ) (same : Bool) → bytes_eq own name ≡ same
    → (same || is_there name names) ≡ false
    → (is_there name names ≡ false → Contains names name → ⊥)
    → Contains (own ∷ names) name → ⊥
missing names own name true is none later has = cc
missing names own name false is none later has = elim (first_or_later own name names has) [
  | inl same ↦ let yes = sym ((bytes_eq-Decides own name).1 same) ∙ is in cc
  | inr other ↦ later none other
]

pub not_read : (names : List (List ℕ)) (name : List ℕ) → is_there name names ≡ false
    → Contains names name → ⊥
not_read [] name none has = no_element name has
not_read (own ∷ names) name none has =
    missing names own name (bytes_eq own name) refl none (not_read names name) has

-- ---- the next name

named_more : (names : List (List ℕ)) (name : List ℕ)
    → ((own : List ℕ) → Contains names own → IsTagName own) → IsTagName name
    → (own : List ℕ) → Contains (names ++ name ∷ []) own → IsTagName own
named_more names name named is own has = elim (Contains-push_cases names name own has) [
  | inl before ↦ named own before
  | inr same ↦ subst IsTagName same is
]

pub lists_on : (text rest after name : List ℕ) (names more : List (List ℕ))
    → HasListed text rest names → parted_at 44 rest ≡ name ∷ parted_at 44 after → IsTagName name
    → is_there name names ≡ false → more ≡ names ++ name ∷ [] → HasListed text after more
lists_on text rest after name names more read next is new pushed = rw pushed record {
  parts = read.parts ∙ ap (λ xs. names ++ xs) next
      ∙ sym (append_assoc names (name ∷ []) (parted_at 44 after));
  named = named_more names name read.named is;
  distinct = distinct_more names name read.distinct (not_read names name new);
}

pub lists_last : (text rest name : List ℕ) (names more : List (List ℕ))
    → HasListed text rest names → parted_at 44 rest ≡ name ∷ [] → IsTagName name
    → is_there name names ≡ false → more ≡ names ++ name ∷ [] → IsOrder text more
lists_last text rest name names more read next is new pushed = rw pushed record {
  parts = sym (read.parts ∙ ap (λ xs. names ++ xs) next);
  named = named_more names name read.named is;
  distinct = distinct_more names name read.distinct (not_read names name new);
}

-- one that is read twice, and one that is no name
pub named_twice : (text rest name : List ℕ) (names more : List (List ℕ))
    → HasListed text rest names → parted_at 44 rest ≡ name ∷ more → is_there name names ≡ true
    → (before : List (List ℕ)) × (later : List (List ℕ))
    × (parted_at 44 text ≡ before ++ name ∷ later) × Contains before name
named_twice text rest name names more read next there =
    (names, more, read.parts ∙ ap (λ xs. names ++ xs) next, read_before names name there)

pub listed_there : (text rest name : List ℕ) (names more : List (List ℕ))
    → HasListed text rest names → parted_at 44 rest ≡ name ∷ more
    → Contains (parted_at 44 text) name
listed_there text rest name names more read next =
    subst (λ xs. Contains xs name) (sym (read.parts ∙ ap (λ xs. names ++ xs) next))
    (Contains-append_right names (name ∷ more) name (has_first name more))
