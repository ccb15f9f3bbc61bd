use Rattle.std.proofs.lemmas.Simd.{get_or-chunk}
use Rattle.pgn_text.proofs.lex.movetext.bytes_at.Goals as goal

pub returns : goal.returns
returns c i below = get_or-chunk c.args.at 64 c.args.block.now i 0 below
