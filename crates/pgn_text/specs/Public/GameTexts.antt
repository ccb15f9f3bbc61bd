-- A game as its reader hands it out.
use Rattle.std.specs.Prelude.{◌≡◌, ◌⊎◌, ℕ, ◌+◌, ◌-◌, ◌<◌, List, [], ◌∷◌, map, bytes_eq, codes}
use Rattle.std.specs.Prelude.{if◌then◌else◌, Option, Some, None, IsTrue}
use Rattle.std.specs.List.{list_all}
use Rattle.std.specs.List.Sorted.{IsStrictlySortedBy}
use Rattle.std.specs.Ordering.{nat_cmp}
use Rattle.std.specs.Cmp.Lexicographic.{slice_cmp}
use Rattle.pgn_text.specs.Public.Bytes.{is_name_byte}
use Rattle.pgn_text.specs.Public.Parts.{Part, spelled}
use Rattle.pgn_text.specs.Public.Strings.{IsContents}
use Rattle.pgn_text.specs.Public.Games.{Item, MoveText, GlyphNumber, CommentText, VariationOpen}
use Rattle.pgn_text.specs.Public.Games.{VariationClose, items_of, first_tag, result_of}

-- a game: its place in the block, its bytes as they stand there, its tags by their names, its
-- elements and its result
pub record GameText : Type 0 where
  pub at : ℕ
  pub text : List ℕ
  pub tags : List (List ℕ × List ℕ)
  pub elements : List Item
  pub result : List ℕ

-- from this depth on the elements end each variation that is open or that they begin, and no other
abbrev pub IsPaired : ℕ → List Item → Type 0
IsPaired depth [] = depth ≡ 0
IsPaired depth (MoveText word ∷ more) = IsPaired depth more
IsPaired depth (GlyphNumber number ∷ more) = IsPaired depth more
IsPaired depth (CommentText text ∷ more) = IsPaired depth more
IsPaired depth (VariationOpen ∷ more) = IsPaired (depth + 1) more
IsPaired depth (VariationClose ∷ more) = (0 < depth) × IsPaired (depth - 1) more

-- the names of tags
abbrev pub tag_names : List (List ℕ × List ℕ) → List (List ℕ)
tag_names tags = map (λ tag. tag.0) tags

-- the contents of the string of the tag with the wanted name
abbrev pub tag_in : List ℕ → List (List ℕ × List ℕ) → Option (List ℕ)
tag_in wanted [] = None
tag_in wanted (tag ∷ tags) = if bytes_eq wanted tag.0 then Some tag.1 else tag_in wanted tags

-- what stands under each name is the contents of a string
abbrev pub HoldStrings : List (List ℕ × List ℕ) → Type 0
HoldStrings tags = (name contents : List ℕ) → tag_in name tags ≡ Some contents → IsContents contents

-- each name under which something stands is made of the bytes of names
abbrev pub HaveNames : List (List ℕ × List ℕ) → Type 0
HaveNames tags = (name contents : List ℕ) → tag_in name tags ≡ Some contents
    → IsTrue (list_all is_name_byte name)

-- a result (PGN 8.2.6)
abbrev pub IsResult : List ℕ → Type 0
IsResult result = (result ≡ codes "1-0") ⊎ (result ≡ codes "0-1") ⊎ (result ≡ codes "1/2-1/2")
    ⊎ (result ≡ codes "*")

-- what holds of each game that is handed out: the names of its tags ascend in the order of their
-- bytes, so none is there twice, and are made of the bytes of names, its tags hold contents of
-- strings, its variations are paired, and its result is one of the four
pub record IsGameText (game : GameText) : Type 0 where
  pub ordered : IsStrictlySortedBy (slice_cmp nat_cmp) (tag_names game.tags)
  pub strings : HoldStrings game.tags
  pub names : HaveNames game.tags
  pub paired : IsPaired 0 game.elements
  pub ends : IsResult game.result

-- the game is the one that these parts make at this place: its bytes are theirs, of each name it
-- has the first tag, and its elements and result are theirs
pub record ShowsGame (game : GameText) (at : ℕ) (parts : List Part) : Type 0 where
  pub place : game.at ≡ at
  pub text : game.text ≡ spelled parts
  pub tags : (wanted : List ℕ) → tag_in wanted game.tags ≡ first_tag wanted parts
  pub elements : game.elements ≡ items_of parts
  pub result : game.result ≡ result_of parts

-- the other game has these contents under the name, or no tag of that name, and all else as the
-- game has it
pub record IsRetagged (name : List ℕ) (contents : Option (List ℕ)) (game other : GameText) : Type 0
  where
    pub place : other.at ≡ game.at
    pub text : other.text ≡ game.text
    pub tags : (wanted : List ℕ)
        → tag_in wanted other.tags
        ≡ (if bytes_eq name wanted then contents else tag_in wanted game.tags)
    pub elements : other.elements ≡ game.elements
    pub result : other.result ≡ game.result
