use Rattle.std.proofs.lemmas.List.Elements.{Contains-get_or}
use Rattle.pgn_extract.proofs.Common.{sym, subst, arith, IsLegal}
use Rattle.pgn_extract.proofs.explain.move_notes.push_names.Goals as goal

pub san-text-requires : goal.san-text-requires
san-text-requires c =
    let moves = c.in_ok-moves.moves.items in
    let named = (c.in_ok-moves.ensures.each _).1
    (Contains-get_or moves c.loop-index.index c.index.result.now (omega arith)) in
    subst (IsLegal c.args.position.now) (sym c.index.ensures) named.legal
