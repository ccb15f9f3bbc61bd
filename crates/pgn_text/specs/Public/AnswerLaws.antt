-- What holds of the answers that callers get of a block and of a text.
use Rattle.std.specs.Prelude.{◌≡◌, ◌⊎◌, ◌↔◌, ℕ, ◌-◌, ◌<◌, Bool, false, List, [], ◌++◌, length, take}
use Rattle.std.specs.Prelude.{drop, Option, Some, None, Result, Err, is_some, IsTrue}
use Rattle.std.specs.declared.alloc.AllocError.{AllocError}
use Rattle.std.specs.List.{list_all}
use Rattle.pgn_text.specs.Public.Bytes.{is_not_brace}
use Rattle.pgn_text.specs.Public.Parts.{Part, AllStand, spelled}
use Rattle.pgn_text.specs.Public.Games.{items_of, first_tag}
use Rattle.pgn_text.specs.Public.Pieces as spec
use Rattle.pgn_text.specs.Public.Blocks.{is_event_line}
use Rattle.pgn_text.specs.Public.Windows.{Window, IsCutOff, HoldsTheRest, FailsAfter}
use Rattle.pgn_text.specs.Public.Left.{Left, ArePiecesLeft, GivesPiece}
use Rattle.pgn_text.specs.Public.PartPlaces.{IsElementPlace, IsTagPlace}
use Rattle.pgn_text.specs.Public.StopPlaces.{StandsWithin}
use Rattle.pgn_text.specs.declared.error.error_position.Within.{Within}
use Rattle.pgn_text.specs.declared.error.error_position.Within.TheVariants.{Comment}
use Rattle.pgn_text.specs.declared.io.blocks.ReadError.{ReadError}
use Rattle.pgn_text.specs.declared.io.blocks.ReadError.TheVariants.{Read, InputTooLong}
use Rattle.pgn_text.specs.declared.game.pieces.Piece.{Piece}

-- where parts with so many elements stand, the element of an index has one place
abbrev pub OneElementPlace : Type 0
OneElementPlace =
    (f : Bool) (block : List ℕ) (begin index place other : ℕ) (parts : List Part) (rest : List ℕ)
    → drop begin block ≡ spelled parts ++ rest → AllStand f (take begin block) parts rest
    → index < length (items_of parts)
    → IsElementPlace f block begin index place → IsElementPlace f block begin index other
    → place ≡ other

-- where parts with a tag of the name stand, the first has one place
abbrev pub OneTagPlace : Type 0
OneTagPlace =
    (f : Bool) (block : List ℕ) (begin : ℕ) (name : List ℕ) (place other : ℕ) (parts : List Part)
    (rest : List ℕ)
    → drop begin block ≡ spelled parts ++ rest → AllStand f (take begin block) parts rest
    → IsTrue (is_some (first_tag name parts))
    → IsTagPlace f block begin name place → IsTagPlace f block begin name other → place ≡ other

-- a place up to which the text from another on was read stands in one thing
abbrev pub StandsInOneThing : Type 0
StandsInOneThing =
    (f : Bool) (block : List ℕ) (begin place : ℕ) (within other : Within)
    → StandsWithin f block begin place within → StandsWithin f block begin place other
    → within ≡ other

-- where that is a comment, no closing brace stands between its begin and the place
abbrev pub CommentIsOpen : Type 0
CommentIsOpen =
    (f : Bool) (block : List ℕ) (begin place at : ℕ)
    → StandsWithin f block begin place (Comment at)
    → IsTrue (list_all is_not_brace (take (place - at) (drop at block)))

-- as long as no error was answered, a call answers the end exactly where no piece is left
abbrev pub EndsWhereNothingIsLeft : Type 0
EndsWhereNothingIsLeft =
    (max_depth : ℕ) (old new : Left) (answer : Option (Result Piece AllocError))
    (pieces : List spec.Piece)
    → GivesPiece max_depth old answer new → old.failed ≡ false → ArePiecesLeft max_depth old pieces
    → (answer ≡ None) ↔ (pieces ≡ [])

-- after an error the next call answers the end, and changes nothing
abbrev pub EndsAfterAnError : Type 0
EndsAfterAnError =
    (max_depth : ℕ) (old new last : Left) (error : AllocError)
    (answer : Option (Result Piece AllocError))
    → GivesPiece max_depth old (Some (Err error)) new → GivesPiece max_depth new answer last
    → (answer ≡ None) × (last ≡ new)

-- where an event line is held, neither a failed read nor the largest offset ends the block before
-- it
abbrev pub FailsBeforeNoEventLine : Type 0
FailsBeforeNoEventLine =
    (place : ℕ) (block ahead read : List ℕ) (error : ReadError) → IsTrue (is_event_line block ahead)
    → (error ≡ Read) ⊎ (error ≡ InputTooLong) → FailsAfter place (block ++ ahead) read error → ⊥

-- after a block the bytes done with are those done with before and the block, but for the first of
-- them, which were given up
abbrev pub DoneWithTheBlock : Type 0
DoneWithTheBlock =
    (old new : Window) (left' : Option (List ℕ)) (read block : List ℕ)
    → IsCutOff old new left' read block → HoldsTheRest old new read
    → (given_up : List ℕ) × (old.done ++ block ≡ given_up ++ new.done)
