-- Parts at places of a block: what the functions of `place` answer.
use Rattle.std.specs.Prelude.{◌≡◌, ℕ, Bool, false, ◌-◌, ◌<◌, ◌≤◌, List, ◌++◌, length, take}
use Rattle.std.specs.Prelude.{drop, Option, IsTrue}
use Rattle.pgn_text.specs.Public.Parts.{Part, Stands, standing_of, spelled_part, spelled}
use Rattle.pgn_text.specs.Public.Games.{is_gap_part, IsGame, Item, first_tag, items_of, result_of}
use Rattle.pgn_text.specs.Public.GameTexts.{IsPaired}
use Rattle.pgn_text.specs.Public.Gaps.{IsGap, IsLongestGap}
use Rattle.pgn_text.specs.Private.Reading.{Kept, kept}

-- the part stands at the place `at` of the block and reaches to the place `end`
pub record PartAt (file_start : Bool) (block : List ℕ) (at : ℕ) (part : Part) (end : ℕ) : Type 0
  where
    pub parted : drop at block ≡ spelled_part part ++ drop end block
    pub stands : Stands (standing_of file_start (take at block)) part (drop end block)
    pub passed : take end block ≡ take at block ++ spelled_part part
    pub forward : at < end
    pub within : end ≤ length block

-- a part stands at the place and reaches to the other, and this is what a game keeps of it
pub record KeptAt (file_start : Bool) (block : List ℕ) (at : ℕ) (token : Kept) (end : ℕ) : Type 0
  where
    pub part : Part
    pub found : PartAt file_start block at part end
    pub keeps : kept part ≡ token

-- no part stands at the place
abbrev pub NothingAt : Bool → List ℕ → ℕ → Type 0
NothingAt file_start block at = (part : Part) (rest : List ℕ)
    → drop at block ≡ spelled_part part ++ rest
    → Stands (standing_of file_start (take at block)) part rest → ⊥

-- a part of a gap stands at the place and reaches to the other
pub record GapPartAt (file_start : Bool) (block : List ℕ) (at end : ℕ) : Type 0 where
  pub part : Part
  pub found : PartAt file_start block at part end
  pub is_gap : IsTrue (is_gap_part part)

-- each part that stands at the place is none of a gap
abbrev pub NoGapPartAt : Bool → List ℕ → ℕ → Type 0
NoGapPartAt file_start block at = (part : Part) (rest : List ℕ)
    → drop at block ≡ spelled_part part ++ rest
    → Stands (standing_of file_start (take at block)) part rest → is_gap_part part ≡ false

-- a gap at the place `begin` of the block reaches to the place `end`
pub record GapTo (file_start : Bool) (block : List ℕ) (begin end : ℕ) : Type 0 where
  pub gap : List Part
  pub is_gap : IsGap file_start (take begin block) gap (drop end block)
  pub parted : drop begin block ≡ spelled gap ++ drop end block
  pub passed : take end block ≡ take begin block ++ spelled gap
  pub forward : begin ≤ end
  pub within : end ≤ length block

-- the longest gap at the place `begin` of the block reaches to the place `end`, where no part of a
-- gap stands
pub record LongestGapTo (file_start : Bool) (block : List ℕ) (begin end : ℕ) : Type 0 where
  pub to : GapTo file_start block begin end
  pub longest : IsLongestGap file_start (take begin block) to.gap (drop end block)
  pub outside : NoGapPartAt file_start block end

-- a game at the place `begin` of the block reaches to the place `end`
pub record GameTo (max_depth : ℕ) (file_start : Bool) (block : List ℕ) (begin : ℕ)
    (parts : List Part) (end : ℕ) : Type 0 where
  pub is_game : IsGame max_depth file_start (take begin block) parts (drop end block)
  pub parted : drop begin block ≡ spelled parts ++ drop end block
  pub passed : take end block ≡ take begin block ++ spelled parts
  pub forward : begin < end
  pub within : end ≤ length block

-- a game was read from the place `begin` to the place `end`, with the result at the place `at`, and
-- it has these tags and elements
pub record GameRead (max_depth : ℕ) (f : Bool) (block : List ℕ) (begin at end : ℕ) (tags : List ℕ
    → Option (List ℕ)) (elements : List Item) : Type 0 where
  pub parts : List Part
  pub game : GameTo max_depth f block begin parts end
  pub tags_kept : (wanted : List ℕ) → tags wanted ≡ first_tag wanted parts
  pub elements_kept : elements ≡ items_of parts
  pub paired : IsPaired 0 elements
  pub result : take (end - at) (drop at block) ≡ result_of parts
  pub result_at : at ≤ end
