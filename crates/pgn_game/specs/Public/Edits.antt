-- Edits of the tags of a game that is written.
use Rattle.std.specs.Prelude.{◌≡◌, ℕ, Bool, false, List, [], ◌∷◌, ◌++◌, Option, Some, None, IfSome}
use Rattle.std.specs.Prelude.{IsTrue}
use Rattle.std.specs.Prelude.{if◌then◌else◌, bytes_eq, codes, decimal, length, option_map}
use Rattle.std.specs.Prelude.{◌+◌, ◌-◌, ◌==◌}
use Rattle.std.specs.List.{list_all, slice_get}
use Rattle.pgn_text.specs.Public.Bytes.{is_name_byte}
use Rattle.pgn_text.specs.Public.GameTexts.{GameText, IsGameText, tag_in}
use Rattle.pgn_text.specs.Public.Strings.{IsContents}
use Rattle.pgn_text.specs.Public.Games.{Item, MoveText, GlyphNumber, CommentText, VariationOpen}
use Rattle.pgn_text.specs.Public.Games.{VariationClose}
use Rattle.pgn_game.specs.Public.Exports.{IsLineExport}
use Rattle.pgn_game.specs.Public.MainLines.{main_words}
use Rattle.pgn_game.specs.Public.Starts.{fen_tag}
use Rattle.pgn_game.specs.declared.exports.edits.TagEdit.{TagEdit}
use Rattle.pgn_game.specs.declared.exports.style.Style.{Style}

-- an edit: the name of a tag, and what its string is to hold; nothing where the tag is left out
pub record EditedTag : Type 0 where
  pub name : List ℕ
  pub contents : Option (List ℕ)

-- what contracts see of such an edit
abbrev pub edit_of : TagEdit → EditedTag
edit_of edit = record {
  name = edit.name.items;
  contents = option_map (λ contents. contents.items) edit.contents;
}

-- an edit may be made: its name has a byte or more, all of them bytes of names, and is not FEN, by
-- which the start of the game is told; and a string can hold its contents
pub record IsEditable (edit : EditedTag) : Type 0 where
  pub some : edit.name ≡ [] → ⊥
  pub name : IsTrue (list_all is_name_byte edit.name)
  pub start : edit.name ≡ fen_tag → ⊥
  pub contents : IfSome edit.contents IsContents

-- each of the edits may be made
abbrev pub AreEditable : List EditedTag → Type 0
AreEditable edits = (place : ℕ) (edit : EditedTag) → slice_get edits place ≡ Some edit
    → IsEditable edit

-- what stands under the wanted name after the edits, where this stood there: of edits of one name
-- the last counts
abbrev pub edited_tag : List EditedTag → List ℕ → Option (List ℕ) → Option (List ℕ)
edited_tag [] wanted own = own
edited_tag (edit ∷ more) wanted own =
    edited_tag more wanted (if bytes_eq edit.name wanted then edit.contents else own)

-- the other game has what stands after the edits under each name, and all else as the game has it
pub record IsEditedBy (edits : List EditedTag) (game other : GameText) : Type 0 where
  pub place : other.at ≡ game.at
  pub text : other.text ≡ game.text
  pub tags : (wanted : List ℕ)
      → tag_in wanted other.tags ≡ edited_tag edits wanted (tag_in wanted game.tags)
  pub elements : other.elements ≡ game.elements
  pub result : other.result ≡ game.result

-- edits of games: those of their tags, whether PlyCount is to hold how many plies a game has, the
-- last ply that is written, and the names of the tags that stand first after the roster
pub record Edits : Type 0 where
  pub tags : List EditedTag
  pub counts_plies : Bool
  pub last_ply : Option ℕ
  pub order : List (List ℕ)

-- the elements in front of the move of the main line that has so many before it, where so many
-- variations are open before them
abbrev pub first_plies : ℕ → ℕ → List Item → List Item
first_plies plies depth [] = []
first_plies plies depth (MoveText word ∷ items) =
    if depth == 0 then
    (if plies == 0 then [] else MoveText word ∷ first_plies (plies - 1) depth items)
    else MoveText word ∷ first_plies plies depth items
first_plies plies depth (GlyphNumber number ∷ items) =
    GlyphNumber number ∷ first_plies plies depth items
first_plies plies depth (CommentText text ∷ items) =
    CommentText text ∷ first_plies plies depth items
first_plies plies depth (VariationOpen ∷ items) =
    VariationOpen ∷ first_plies plies (depth + 1) items
first_plies plies depth (VariationClose ∷ items) =
    VariationClose ∷ first_plies plies (depth - 1) items

-- the game up to this ply of its main line, or the whole
abbrev pub up_to : Option ℕ → GameText → GameText
up_to None game = game
up_to (Some plies) game = record game { elements = first_plies plies 0 game.elements }

-- PlyCount holds so many plies
abbrev pub ply_count : ℕ → EditedTag
ply_count plies = record { name = codes "PlyCount"; contents = Some (decimal plies) }

-- all edits of the game, that of PlyCount at last: a ply is a move of the main line
abbrev pub all_edits : Edits → GameText → List EditedTag
all_edits edits game = if edits.counts_plies
    then edits.tags ++ ply_count (length (main_words game.elements 0)) ∷ [] else edits.tags

-- the game is the other one once its tags are edited; it stays as it is where an edit may not be
-- made
abbrev pub IsTagged : Edits → GameText → GameText → Type 0
IsTagged edits game other =
    (AreEditable (all_edits edits game)
    → IsGameText other × IsEditedBy (all_edits edits game) game other)
    × ((AreEditable (all_edits edits game) → ⊥) → other ≡ game)

-- the game is the other one once it is edited: it ends after the last ply that is written
abbrev pub IsEdited : Option Edits → GameText → GameText → Type 0
IsEdited None game other = other ≡ game
IsEdited (Some edits) game other = IsTagged edits (up_to edits.last_ply game) other

-- the names of the tags that stand first after the roster
abbrev pub order_of : Option Edits → List (List ℕ)
order_of None = []
order_of (Some edits) = edits.order

-- the text is the export in the style of the game once it is edited; `inside` where its first line
-- is a variation
abbrev pub IsEditedLine : Bool → Option Edits → Style → GameText → List ℕ → Type 0
IsEditedLine inside edits style game text = (own : GameText) × IsEdited edits game own
    × IsLineExport inside (order_of edits) style own text

abbrev pub IsEditedExport : Option Edits → Style → GameText → List ℕ → Type 0
IsEditedExport = IsEditedLine false
