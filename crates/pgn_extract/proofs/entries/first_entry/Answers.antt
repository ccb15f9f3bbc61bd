use Rattle.pgn_extract.proofs.Common.{None, false, GameId, aim_of, Aim}
use Rattle.pgn_extract.proofs.entries.KeptLines.{tells_first}
use Rattle.pgn_extract.proofs.Picks.{asks_given}
use Rattle.pgn_extract.proofs.OneMain.{first_within}
use Rattle.pgn_extract.specs.declared.settings.EntryLine.TheVariants.{Marked}
use Rattle.pgn_extract.proofs.entries.first_entry.Goals.{in-Some-question+in_ok-find_played-in-Some-question}
use Rattle.pgn_extract.proofs.entries.first_entry.Goals.{in-None+in_ok-find_told-in-None}
use Rattle.pgn_extract.proofs.entries.first_entry.Goals as goal

pub find_played-requires-clause-asks : goal.find_played-requires-clause-asks
find_played-requires-clause-asks c =
    asks_given (aim_of c.args.settings.now) c.args.game.now c.in-Some.criteria
    c.in_ok-question.question c.in-Some-question.question
    c.in-Some.is c.in-Some-question.is c.in_ok-question.ensures

pub returns-in_default : goal.returns-in_default
returns-in_default c =
    let plies = c.in_ok-count_plies.ensures in (
      (plies.0, plies.1),
      λ replay own. first_within (aim_of c.args.settings.now) c.args.game.now plies.0 replay _
          c.first_within.result c.in_default.is plies.1 plies.2 own c.first_within.ensures,
    )

any_id : GameId
any_id = record { number = 0; offset = 0 }

pub returns : goal.returns
returns c =
    let game = c.args.game.now in
    let aim : Aim =
    record (aim_of c.args.settings.now) {
      line = Marked (record { fen = false; next = false });
      name = None;
      openings = None;
    } in
    elim c.match-question.branch [
      | in-Some-question+in_ok-find_played-in-Some-question w ↦ rw w.first-is
          (tells_first aim any_id game w.find_played.new.sink
          (w.in_ok-find_played-in-Some-question.ensures.found None None any_id tt))
      | in-None+in_ok-find_told-in-None w ↦ rw w.first-is
          (tells_first aim any_id game w.find_told.new.sink
          (w.in_ok-find_told-in-None.ensures.found None None any_id tt))
    ]
