use Rattle.memchr.specs.Find.{is_byte}
use Rattle.std.proofs.lemmas.Simd.{zip2_splat}
use Rattle.std.proofs.Common.{arith}
use Rattle.pgn_text.proofs.Lanes.{hit, classified}
use Rattle.pgn_text.proofs.lex.scan.closing_braces.Goals as goal

pub returns : goal.returns
returns c =
    classified 32 (omega arith) _ (is_byte 125) c.args.bytes _ c.fits-bytes
    (zip2_splat hit c.args.bytes 32 125 c.fits-bytes.0) tt
