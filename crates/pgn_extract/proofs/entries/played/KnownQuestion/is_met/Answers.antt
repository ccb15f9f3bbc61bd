use Rattle.std.proofs.lemmas.List.{get_or_past}
use Rattle.pgn_extract.proofs.Common.{◌≡◌, false, get_or, arith, slice_get_within, false≢true}
use Rattle.pgn_extract.proofs.entries.played.KnownQuestion.is_met.Goals as goal

pub returns : goal.returns
returns c criteria game tells replay own here =
    let met = c.args.self.now.met.items in
    let plies = c.args.plies in
    let within = slice_get_within replay.positions plies c.args.arg3.now here in
    let past : get_or met plies false ≡ false =
    let size = c.len.ensures in let off = c.if-plies-len.false in
    get_or_past met plies false (omega (arith, size, off)) in (
      λ t. absurd (false≢true t),
      λ meets. let so = (tells replay own plies within).1 meets in absurd (cc (so, past)),
    )
