use Rattle.pgn_criteria.proofs.Common.{sym, subst, FitsAt}
use Rattle.pgn_criteria.specs.Private.Told.{AreTold, EachColumn}
use Rattle.pgn_criteria.proofs.by_codes.add_coded.Goals as goal

pub returns : goal.returns
returns c line legal coded =
    c.in_ok-add_columns.ensures line
    (subst (EachColumn c.args.alternatives.now (λ a told. AreTold (FitsAt line a.now) told))
    (sym c.deref.ensures.value) (c.in_ok-fits.ensures line legal coded))
