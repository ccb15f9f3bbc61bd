use Rattle.std.proofs.Common.{w8, arith, refl}
use Rattle.std.proofs.lemmas.Simd.{SwzOk-from_below}
use Rattle.chess.proofs.RankOrderFacts.{swizzled}
use Rattle.chess.proofs.fen.write.in_order.Goals as goal

pub swizzle : goal.swizzle
swizzle c =
    let long = c.fits-order.0 in
    SwzOk-from_below w8 16 1 16 0 c.args.order refl (omega arith) c.requires

pub returns : goal.returns
returns c = swizzled c.args.signs c.args.order c.fits-order.0 c.requires
