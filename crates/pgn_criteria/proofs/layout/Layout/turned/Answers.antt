use Rattle.pgn_criteria.proofs.layout.BesideFacts.{AreTurned, laid_turned}
use Rattle.pgn_criteria.proofs.layout.Layout.turned.Goals as goal

pub returns : goal.returns
returns c =
    let self = c.args.self.now in
    let asked : AreTurned c.in_ok-asked.asked.items self.asked.items =
    rw c.deref.ensures.value at c.in_ok-asked.ensures in
    let barred : AreTurned c.in_ok-barred.barred.items self.barred.items =
    rw c.deref-2.ensures.value at c.in_ok-barred.ensures in
    laid_turned (record {
      asked = c.in_ok-asked.asked;
      barred = c.in_ok-barred.barred;
      empty = c.squares_beside-empty.result;
    }) self asked barred c.squares_beside-empty.ensures
