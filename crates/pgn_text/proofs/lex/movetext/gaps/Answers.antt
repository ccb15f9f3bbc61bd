use Rattle.pgn_text.proofs.Common.{zip2_splat, arith, is_gap}
use Rattle.pgn_text.proofs.Lanes.{hit, below, less, then_splat, either, classified}
use Rattle.pgn_text.proofs.lex.movetext.gaps.Goals as goal

pub returns : goal.returns
returns c =
    let v = c.args.bytes in
    let long = c.fits-bytes.0 in
    classified 64 (omega arith) _ is_gap v _ c.fits-bytes
    (either _ _ v (either _ _ v (zip2_splat hit v 64 32 long) (zip2_splat hit v 64 46 long))
    (then_splat below _ 5 v long (zip2_splat less v 64 9 long))) tt
