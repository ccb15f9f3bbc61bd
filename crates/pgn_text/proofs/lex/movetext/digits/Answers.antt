use Rattle.pgn_text.proofs.Common.{zip2_splat, arith, is_digit}
use Rattle.pgn_text.proofs.Lanes.{below, less, then_splat, classified}
use Rattle.pgn_text.proofs.lex.movetext.digits.Goals as goal

pub returns : goal.returns
returns c =
    let v = c.args.bytes in
    let long = c.fits-bytes.0 in
    classified 64 (omega arith) _ is_digit v _ c.fits-bytes
    (then_splat below _ 10 v long (zip2_splat less v 64 48 long)) tt
