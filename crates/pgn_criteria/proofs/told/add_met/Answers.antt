use Rattle.pgn_criteria.proofs.Common.{sym, subst, FitsAt}
use Rattle.pgn_criteria.specs.Private.Told.{AreTold, EachColumn}
use Rattle.pgn_criteria.proofs.told.add_met.Goals as goal

pub returns : goal.returns
returns c =
    let (replay, is, size, told) = c.in_ok-fits.ensures in (
      replay,
      is,
      c.in_ok-add_columns.ensures replay
          (subst (EachColumn c.args.alternatives.now (λ a told. AreTold (FitsAt replay a.now) told))
          (sym c.deref.ensures.value) told),
    )
