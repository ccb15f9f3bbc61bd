use Rattle.pgn_game.proofs.Common.{ap, ◌∙◌, arith, record_at}
use Rattle.pgn_game.proofs.RecordFacts.{is_found, record_again}
use Rattle.pgn_game.proofs.pack.reading.read.Goals as goal

pub returns-clause-found : goal.returns-clause-found
returns-clause-found c =
    is_found c.args.bytes.now c.read_record.result (λ x. (x.0, x.1.now)) (λ i.
    omega (arith, c.type_inv.bytes i)) c.read_record.ensures

pub returns-clause-only : goal.returns-clause-only
returns-clause-only c = λ e rest fits text. ap record_at text ∙ record_again e rest fits
