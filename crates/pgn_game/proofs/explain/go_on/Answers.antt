use Rattle.pgn_game.proofs.Common.{◌∷◌, refl, sym, ap, subst, ◌∙◌, IfSome, false≢true, item_of}
use Rattle.pgn_game.proofs.Common.{StopsAt, fault_of}
use Rattle.pgn_game.proofs.explain.RefusalSearch.{refused_here}
use Rattle.pgn_game.proofs.explain.go_on.Goals as goal

pub why_refused-why-requires : goal.why_refused-why-requires
why_refused-why-requires c =
    let stack = c.args.stack.now in
    let word = c.in-Move.word.now in
    let fault = c.in-Err.fault in
    let reports = refused_here stack word (fault_of fault)
    (λ none. false≢true (sym c.if-not-is_out_of_memory.true ∙ c.is_out_of_memory.ensures.1 none))
    (λ items.
    subst (λ e. IfSome (fault_of fault) (StopsAt stack (item_of e ∷ items))) c.in-Move.is
    (c.in-Err.ensures.stuck items)) in (
      stack.line.plies,
      reports.0,
      rw c.is_inside-inside.ensures (rw c.copy-position.ensures reports.1),
    )

pub returns-in-Move : goal.returns-in-Move
returns-in-Move c =
    let word = c.in-Move.word.now in
    record {
      element = refl;
      word = ap item_of c.in-Move.is;
      position = c.copy-position.ensures;
      why = rw (← c.is_inside-inside.ensures) (rw (← c.copy-position.ensures)
          c.why_refused-why.ensures);
    }

pub returns-in_default : goal.returns-in_default
returns-in_default c =
    record {
      walks = λ items more on. let walked = c.in_default.ensures.walks in
          (walked.0 ∷ more, walked.2 items more on);
      leads = c.in_default.ensures.leads;
      within = c.in_default.ensures.within;
    }
