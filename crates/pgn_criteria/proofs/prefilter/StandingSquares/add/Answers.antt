use Rattle.pgn_criteria.proofs.Common.{◌≡◌, Some, refl, subst, Place, man_at, IsOf, StandingSquares}
use Rattle.pgn_criteria.proofs.prefilter.PrefilterFacts.{bars}
use Rattle.pgn_criteria.proofs.prefilter.StandingSquares.add.Goals as goal

pub returns-then-bars : goal.returns-then-bars
returns-then-bars c = λ men asked so.
    let own = c.args.self.now in
    let man = c.args.man in
    let square = c.place-then-bars.result in
    let less : StandingSquares = record { wanted = own.wanted; free = c.remove.new.self } in
    bars own less man men square c.remove.ensures refl
    (λ stands.
    let here : man_at men c.args.asked.now.square ≡ Some man =
    subst (λ (t : Place). man_at men t ≡ Some man) c.place-then-bars.ensures.square stands in
    c.bars.ensures c.if-bars.true (subst (IsOf c.args.asked.now.class) here asked)) so
