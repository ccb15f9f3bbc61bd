-- The line of a record is played by the codes of its plies, and its moves are kept.
use Rattle.pgn_extract.proofs.Common.{◌≡◌, ℕ, List, [], ◌∷◌, ◌++◌, length, Some, sym}
use Rattle.pgn_extract.proofs.Common.{ap, ◌∙◌, subst}
use Rattle.pgn_extract.proofs.Common.{slice_get, State, Move, Replay, positions_from}
use Rattle.pgn_extract.proofs.Common.{GameText, tag_in, fen_tag}
use Rattle.pgn_extract.proofs.Common.{IsStart, IsOfGame, IsOfRecord, RawRecord, PackedGame}
use Rattle.pgn_extract.proofs.Common.{Bool, Conditions, EachOfRecord, Option}
use Rattle.pgn_criteria.proofs.CodedPlays.{IsCodedTo}
use Rattle.pgn_extract.specs.Private.KeptPacked.{IsStartOf}
use Rattle.pgn_extract.specs.Private.PlayedLines.{TellsAt}
use Rattle.pgn_extract.proofs.Finds.{at_seam}
use Rattle.pgn_extract.proofs.entries.KeptMoves.{TellsFirst, tells_next}
use Rattle.pgn_extract.proofs.packed.KeptPackedFacts.{each_line}
use Rattle.pgn_extract.proofs.packed.TurnedLines.{begins_here, later_from}

-- each replay of the game has the position that is reached
pub coded_there : {raw : RawRecord} {game : GameText} {replay : Replay} {packed : PackedGame}
    (own : IsOfRecord raw game replay packed) (start : State)
    → IsStart (tag_in fen_tag game.tags) start
    → {passed : List State} {played : List Move} {here : State} {left : List ℕ}
    → IsCodedTo start raw.plies passed played here left → (other : Replay) → IsOfGame game other
    → slice_get other.positions (length passed) ≡ Some here
coded_there own start is {passed} {played} {here} to other of =
    let (line, coded) = each_line own start is other of in
    let (more, parts, rest) = to.coded other.played coded in
    ap (λ ps. slice_get ps (length passed))
    (line.positions ∙ ap (positions_from start) parts ∙ to.positions more
    ∙ ap (λ ps. passed ++ ps) (begins_here here more))
    ∙ at_seam passed here (later_from here more)

-- and it is told of one more position
pub coded_tells : (Asks : Option (List Conditions) → GameText → Type 0) (raw : RawRecord)
    (start : State) → IsStartOf raw start → {passed : List State} {played : List Move}
    {here : State} {left : List ℕ} → IsCodedTo start raw.plies passed played here left
    → (met new : List Bool) (r : Bool) (ply : ℕ) → ply ≡ length passed
    → length met ≡ length passed
    → EachOfRecord raw (λ game replay packed. TellsFirst Asks game met)
    → ((criteria : Option (List Conditions)) (game : GameText) → Asks criteria game
    → TellsAt r ply here criteria game) → new ≡ met ++ r ∷ []
    → EachOfRecord raw (λ game replay packed. TellsFirst Asks game new)
coded_tells Asks raw start starts {passed} {played} {here} to met new r ply at size told says is
    game replay packed own =
    subst (TellsFirst Asks game) (sym is)
    (tells_next Asks game (length passed) here
    (coded_there own start (starts game replay packed own) to) met r size
    (told game replay packed own)
    (λ criteria asks. subst (λ n. TellsAt r n here criteria game) at (says criteria game asks)))
