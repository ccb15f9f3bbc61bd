-- The mark is the place of the piece in the list.
use Rattle.pgn_extract.proofs.Common.{arith, refl, mark_bounds}
use Rattle.pgn_extract.proofs.laws.marks.Goals as goal

pub returns : goal.returns
returns c limit max_depth text before piece after each =
    let bounds = mark_bounds limit max_depth 0 text before piece after each in
    let few = bounds.0 in
    let less = bounds.1 in record {
      among = record {
        before = before;
        piece = piece;
        after = after;
        parted = refl;
        numbered = refl;
        placed = refl;
      };
      within = omega arith;
      few = omega arith;
      number = λ size. omega arith;
      offset = λ size. omega arith;
    }
