use Rattle.chess.proofs.Common.{◌+◌, arith, number_of_side}
use Rattle.chess.proofs.MarkFacts.{below_same}
use Rattle.chess.proofs.position.Position.mark_side.Goals as goal

pub returns : goal.returns
returns g c before =
    let p = c.args.self.now.men in
    let n = number_of_side c.args.side in
    let kings = c.mark_kind.ensures (below_same p _ n (n + 0) (omega arith) before) in
    let queens = c.mark_kind-2.ensures (below_same p _ (n + 0 + 1) (n + 1) (omega arith) kings) in
    let rooks = c.mark_kind-3.ensures (below_same p _ (n + 1 + 1) (n + 2) (omega arith) queens) in
    let bishops = c.mark_kind-4.ensures (below_same p _ (n + 2 + 1) (n + 3) (omega arith) rooks) in
    let knights = c.mark_kind-5.ensures (below_same p _ (n + 3 + 1) (n + 4) (omega arith) bishops)
    in
    let pawns = c.mark_kind-6.ensures (below_same p _ (n + 4 + 1) (n + 5) (omega arith) knights) in
    below_same p _ (n + 5 + 1) (n + 6) (omega arith) pawns
