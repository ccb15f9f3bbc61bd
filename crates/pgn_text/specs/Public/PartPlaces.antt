-- Where a part of a game stands in its block: the part that gives an element, and the first tag of
-- a name.
use Rattle.std.specs.Prelude.{◌≡◌, ℕ, ◌+◌, ◌<◌, ◌≤◌, Bool, List, [], ◌∷◌, ◌++◌, length, take, drop}
use Rattle.std.specs.Prelude.{None, is_some, IsTrue}
use Rattle.pgn_text.specs.Public.Parts.{Part, AllStand, spelled}
use Rattle.pgn_text.specs.Public.Games.{items_of, items_of_part, first_tag}

-- one of the parts has the fact, given those before it, and the place is after all that stands
-- before it
pub record IsPlaceOf (fact : List Part → Part
    → Type 0) (parts : List Part) (begin place : ℕ) : Type 0 where
  pub before : List Part
  pub part : Part
  pub after : List Part
  pub parted : parts ≡ before ++ part ∷ after
  pub has_fact : fact before part
  pub place_is : place ≡ begin + length (spelled before)

-- the part gives the element of that index, where these parts stand before it
abbrev pub GivesElement : ℕ → List Part → Part → Type 0
GivesElement index before part = (length (items_of before) ≤ index)
    × (index < length (items_of before) + length (items_of_part part))

-- the part is the first tag of the name
abbrev pub IsFirstTag : List ℕ → List Part → Part → Type 0
IsFirstTag name before part = (first_tag name before ≡ None)
    × IsTrue (is_some (first_tag name (part ∷ [])))

-- whichever parts stand in the block from the place `begin` on: if they give so many elements, this
-- is the place of the one of that index
abbrev pub IsElementPlace : Bool → List ℕ → ℕ → ℕ → ℕ → Type 0
IsElementPlace f block begin index place =
    (parts : List Part) (rest : List ℕ) → drop begin block ≡ spelled parts ++ rest
    → AllStand f (take begin block) parts rest
    → index < length (items_of parts) → IsPlaceOf (GivesElement index) parts begin place

-- or if they have a tag of the name, this is the place of the first
abbrev pub IsTagPlace : Bool → List ℕ → ℕ → List ℕ → ℕ → Type 0
IsTagPlace f block begin name place =
    (parts : List Part) (rest : List ℕ) → drop begin block ≡ spelled parts ++ rest
    → AllStand f (take begin block) parts rest
    → IsTrue (is_some (first_tag name parts)) → IsPlaceOf (IsFirstTag name) parts begin place
