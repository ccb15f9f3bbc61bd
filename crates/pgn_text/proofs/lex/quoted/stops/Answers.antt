use Rattle.pgn_text.proofs.Common.{ℕ, not, arith, zip2_splat, is_single}
use Rattle.pgn_text.proofs.Lanes.{hit, below, less, then_splat, either, classified}
use Rattle.pgn_text.proofs.lex.quoted.stops.Goals as goal

pub returns : goal.returns
returns c =
    let v = c.args.bytes in
    let long = c.fits-bytes.0 in
    classified 32 (omega arith) _ (λ (b : ℕ). not (is_single b)) v _ c.fits-bytes
    (either _ _ v
    (either _ _ v
    (either _ _ v (either _ _ v (zip2_splat hit v 32 34 long) (zip2_splat hit v 32 92 long))
    (zip2_splat below v 32 9 long))
    (then_splat below _ 22 v long (zip2_splat less v 32 10 long)))
    (zip2_splat hit v 32 127 long)) tt
