use Rattle.pgn_criteria.proofs.Common.{sym, ap, subst, ◌∙◌, is_in-empty, Places, is_in, AllStand}
use Rattle.pgn_criteria.proofs.Common.{StandingSquares}
use Rattle.pgn_criteria.proofs.prefilter.PrefilterFacts.{begins}
use Rattle.pgn_criteria.proofs.prefilter.StandingSquares.new.Goals as goal

pub returns : goal.returns
returns c = λ men laid.
    let first : StandingSquares = record { wanted = c.new.result; free = c.free.result } in
    let at_first = begins first c.args.man men c.args.layout.now.empty (λ s.
    ap (λ (set : Places). is_in set s) c.new.ensures ∙ is_in-empty s) c.free.ensures laid.2 in
    c.add_all-2.ensures men (subst (AllStand men) (sym c.barred.ensures) laid.1)
    (c.add_all.ensures men (subst (AllStand men) (sym c.asked.ensures) laid.0) at_first)
