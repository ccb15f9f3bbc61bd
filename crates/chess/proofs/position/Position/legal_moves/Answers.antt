use Rattle.std.specs.List.{Contains}
use Rattle.std.proofs.Math.Seq.{drop-append_seam}
use Rattle.chess.proofs.Common.{List, ap, sym, subst, ◌∙◌, length, Move}
use Rattle.std.specs.Prelude.{drop}
use Rattle.chess.proofs.position.Position.legal_moves.Goals as goal

pub returns-clause-complete : goal.returns-clause-complete
returns-clause-complete g c m legal =
    let old = c.args.moves.now.items in
    let lists = c.in_default.ensures.ok in
    subst (λ (xs : List Move). Contains xs m)
    (sym (ap (drop (length old)) lists.is ∙ drop-append_seam old lists.added))
    (lists.each m legal)
