use Rattle.pgn_text.proofs.Common.{bit_or, zip2_splat, arith, is_letter}
use Rattle.pgn_text.proofs.Lanes.{below, less, then_splat, classified}
use Rattle.pgn_text.proofs.lex.movetext.letters.Goals as goal

pub returns : goal.returns
returns c =
    let v = c.args.bytes in
    let long = c.fits-bytes.0 in
    classified 64 (omega arith) _ is_letter v _ c.fits-bytes
    (then_splat below _ 26 v long
    (then_splat less _ 97 v long (zip2_splat bit_or v 64 32 long))) tt
