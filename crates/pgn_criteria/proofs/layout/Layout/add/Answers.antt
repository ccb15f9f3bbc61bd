use Rattle.std.proofs.Common.{refl}
use Rattle.pgn_criteria.proofs.LayoutFacts.{lays_asked}
use Rattle.pgn_criteria.proofs.layout.Layout.add.Goals as goal

pub returns-in_ok-push-in_default : goal.returns-in_ok-push-in_default
returns-in_ok-push-in_default c =
    lays_asked _ _ c.args.class c.args.square _ refl refl c.in_ok-push-in_default.ensures.items refl
    refl

pub returns-in-Other : goal.returns-in-Other
returns-in-Other c = rw c.in-Other.is c.bar_men.ensures
