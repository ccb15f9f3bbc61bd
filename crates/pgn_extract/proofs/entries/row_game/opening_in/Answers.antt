-- The opening of a record is that of each replay of its game.
use Rattle.pgn_extract.proofs.OpeningCells.{opening_of_record}
use Rattle.pgn_extract.proofs.entries.row_game.opening_in.Goals as goal

pub returns-in-Ok : goal.returns-in-Ok
returns-in-Ok c = rw c.in-Some.is (λ game (own, packed, of) replay is.
    opening_of_record c.args.raw.now c.in-Some.lines.now c.in-Ok.opening c.in-Ok.ensures.ok game own
    packed of replay is)

pub returns-in-Err-NoGame : goal.returns-in-Err-NoGame
returns-in-Err-NoGame c = λ game (own, packed, of) replay is.
    absurd (c.in-Err-NoGame.ensures.err c.in-Err-NoGame.field-0-is game own packed of)
