-- The edits of games that the options ask for, and which of them are refused.
use Rattle.std.specs.Prelude.{◌≡◌, ◌≢◌, ◌⊎◌, ◌==◌, Bool, true, false, not, ◌||◌, ℕ, nat_lt, length}
use Rattle.std.specs.Prelude.{List, [], ◌∷◌, ◌++◌, Option, Some, None, IsTrue, codes, flat_map}
use Rattle.std.specs.Prelude.{is_some}
use Rattle.std.specs.Borrow.{Bor}
use Rattle.std.specs.List.{AllZip, Contains, list_all}
use Rattle.chess.specs.Public.Fen.{parted_at}
use Rattle.pgn_text.specs.Public.Strings.{IsContents}
use Rattle.pgn_game.specs.Public.Edits.{EditedTag, Edits}
use Rattle.pgn_game.specs.Public.Starts.{fen_tag}
use Rattle.pgn_game.specs.Public.TagLines.{escaped}
use Rattle.pgn_extract.specs.Public.Columns.{AreDistinct, IsTagName}
use Rattle.pgn_extract.specs.declared.app.command.Request.{Request}
use Rattle.pgn_extract.specs.declared.app.edits.EditFault.{EditFault}
use Rattle.pgn_extract.specs.declared.app.edits.EditFault.TheVariants as fault

-- edits are asked for
abbrev pub has_edits : Request → Bool
has_edits request = request.fix_results || request.plycount
    || (is_some request.to_ply || is_some request.order)
    || (nat_lt 0 (length request.sets.items) || nat_lt 0 (length request.drops.items))

-- the tag says where a game starts
abbrev pub IsOfStart : List ℕ → Type 0
IsOfStart name = (name ≡ fen_tag) ⊎ (name ≡ codes "SetUp")

-- a tag with the name may be left out: it does not say where a game starts
abbrev pub MayDrop : List ℕ → Type 0
MayDrop name = IsTagName name × (IsOfStart name → ⊥)

-- the text is parted at its first sign of equality
abbrev pub IsParted : List ℕ → List ℕ → List ℕ → Type 0
IsParted text name value = (text ≡ name ++ 61 ∷ value)
    × IsTrue (list_all (λ byte. not (byte == 61)) name)

-- the text asks that the tag with the name before the sign has the value after it; this may be
-- asked of each tag that says neither where a game starts nor how it ends
pub record IsSet (text : List ℕ) (edit : EditedTag) : Type 0 where
  pub name : List ℕ
  pub value : List ℕ
  pub parted : IsParted text name value
  pub named : IsTagName name
  pub start : IsOfStart name → ⊥
  pub result : name ≢ codes "Result"
  pub contents : IsContents (flat_map escaped value)
  pub gives : edit ≡ record { name = name; contents = Some (flat_map escaped value) }

-- the text is the name of a tag, which is to be left out
abbrev pub IsDropped : List ℕ → EditedTag → Type 0
IsDropped text edit = MayDrop text × (edit ≡ record { name = text; contents = None })

-- the result that ends a game stands for a Result tag that it has not
abbrev pub results_fixed : Bool → List EditedTag
results_fixed true = record { name = codes "Result"; contents = None } ∷ []
results_fixed false = []

-- the text lists these names of tags, with commas between them, and none of them twice
pub record IsOrder (text : List ℕ) (names : List (List ℕ)) : Type 0 where
  pub parts : names ≡ parted_at 44 text
  pub named : (name : List ℕ) → Contains names name → IsTagName name
  pub distinct : AreDistinct names

-- these are the names of the tags that are to stand first, where some are
abbrev pub IsOrderIn : Option (Bor (List ℕ)) → List (List ℕ) → Type 0
IsOrderIn None names = names ≡ []
IsOrderIn (Some text) names = IsOrder text.now names

abbrev pub IsAskedOrder : Request → List (List ℕ) → Type 0
IsAskedOrder request names = IsOrderIn request.order names

-- plies are counted, games end and tags stand first as it is asked for
pub record IsAskedBeside (request : Request) (edits : Edits) : Type 0 where
  pub plies : edits.counts_plies ≡ request.plycount
  pub last : edits.last_ply ≡ request.to_ply
  pub order : IsAskedOrder request edits.order

-- these are the edits that are asked for, where some are: first the tags that are left out, then
-- those that have a value, then results; and what is asked for beside
abbrev pub AreAskedEdits : Request → Option Edits → Type 0
AreAskedEdits request None = has_edits request ≡ false
AreAskedEdits request (Some edits) = (drops : List EditedTag) × (sets : List EditedTag)
    × AllZip (λ text edit. IsDropped text.now edit) request.drops.items drops
    × AllZip (λ text edit. IsSet text.now edit) request.sets.items sets
    × (edits.tags ≡ drops ++ sets ++ results_fixed request.fix_results)
    × IsAskedBeside request edits

-- for this reason no tag with the name is left out
abbrev pub IsDropFault : List ℕ → EditFault → Type 0
IsDropFault name (fault.NoName word) = (word.now ≡ name) × (IsTagName name → ⊥)
IsDropFault name (fault.Start word) = (word.now ≡ name) × IsOfStart name
IsDropFault name fault.OutOfMemory = Unit {0}
IsDropFault name _ = ⊥

-- for this reason the text asks for no value
abbrev pub IsSetFault : List ℕ → EditFault → Type 0
IsSetFault text (fault.NoValue word) = (word.now ≡ text)
    × ((name value : List ℕ) → IsParted text name value → ⊥)
IsSetFault text (fault.NoName word) = (value : List ℕ) × IsParted text word.now value
    × (IsTagName word.now → ⊥)
IsSetFault text (fault.Start word) = (value : List ℕ) × IsParted text word.now value
    × IsOfStart word.now
IsSetFault text fault.Result = (value : List ℕ) × IsParted text (codes "Result") value
IsSetFault text (fault.BadValue word) = (value : List ℕ) × IsParted text word.now value
    × (IsContents (flat_map escaped value) → ⊥)
IsSetFault text fault.OutOfMemory = Unit {0}
IsSetFault text _ = ⊥

-- for this reason the text lists no names of tags
abbrev pub IsOrderFault : List ℕ → EditFault → Type 0
IsOrderFault text (fault.NoOrder word) = Contains (parted_at 44 text) word.now
    × (IsTagName word.now → ⊥)
IsOrderFault text (fault.Twice word) = (before : List (List ℕ)) × (more : List (List ℕ))
    × (parted_at 44 text ≡ before ++ word.now ∷ more) × Contains before word.now
IsOrderFault text fault.OutOfMemory = Unit {0}
IsOrderFault text _ = ⊥

-- the edits are refused: one of the texts asks for none, or memory ran out
abbrev pub AreRefused : Request → EditFault → Type 0
AreRefused request why =
    ((text : Bor (List ℕ)) × Contains request.drops.items text × IsDropFault text.now why)
    ⊎ ((text : Bor (List ℕ)) × Contains request.sets.items text × IsSetFault text.now why)
    ⊎ ((text : Bor (List ℕ)) × (request.order ≡ Some text) × IsOrderFault text.now why)
    ⊎ (why ≡ fault.OutOfMemory)
