use Rattle.pgn_text.proofs.Common.{arith, zip2_splat, bit_or, is_move_sign}
use Rattle.pgn_text.proofs.Lanes.{hit, then_splat, either, classified}
use Rattle.pgn_text.proofs.lex.movetext.signs.Goals as goal

pub returns : goal.returns
returns c =
    let v = c.args.bytes in
    let long = c.fits-bytes.0 in
    let minus_or_equals = then_splat hit _ 61 v long (zip2_splat bit_or v 64 16 long) in
    let plus_or_hash = then_splat hit _ 43 v long (zip2_splat bit_or v 64 8 long) in
    classified 64 (omega arith) _ is_move_sign v _ c.fits-bytes
    (either _ _ v minus_or_equals plus_or_hash) tt
