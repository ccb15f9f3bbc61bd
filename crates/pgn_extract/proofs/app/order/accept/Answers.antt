use Rattle.pgn_extract.proofs.Common.{Some, sym, ap, ◌∙◌, option_map}
use Rattle.pgn_extract.proofs.app.RequestFacts.{by_options, by_begin, by_end, by_stretch, by_lines}
use Rattle.pgn_extract.proofs.app.order.accept.Goals as goal

pub returns-in-Some-clause-refused : goal.returns-in-Some-clause-refused
returns-in-Some-clause-refused c = by_options _ c.args.request _ (sym c.in-Some.ensures)

pub returns-in_default-mark_of-clause-refused : goal.returns-in_default-mark_of-clause-refused
returns-in_default-mark_of-clause-refused c =
    let none = sym c.refused_line.ensures ∙ ap (option_map (λ line. line.now)) c.in_default.is in
    let begins = sym c.mark_of.ensures.mark ∙ c.in_default-mark_of.is in
    by_begin _ c.args.request none begins ∙ ap Some (sym c.bad_mark.ensures)

pub returns-in_default-end_of-clause-refused : goal.returns-in_default-end_of-clause-refused
returns-in_default-end_of-clause-refused c =
    let none = sym c.refused_line.ensures ∙ ap (option_map (λ line. line.now)) c.in_default.is in
    by_end _ c.args.request _ none (sym c.in-Some-mark_of.ensures.mark) (sym c.end_of.ensures
    ∙ c.in_default-end_of.is) ∙ ap Some (sym c.bad_mark-in_default-end_of.ensures)

pub returns-then-mark-end-clause-refused : goal.returns-then-mark-end-clause-refused
returns-then-mark-end-clause-refused c =
    let none = sym c.refused_line.ensures ∙ ap (option_map (λ line. line.now)) c.in_default.is in
    by_stretch _ c.args.request _ _ none (sym c.in-Some-mark_of.ensures.mark)
    (sym c.in-Some-end_of.ensures) c.if-mark-end.true

pub returns-then-not-are_lines-clause-refused : goal.returns-then-not-are_lines-clause-refused
returns-then-not-are_lines-clause-refused c =
    let none = sym c.refused_line.ensures ∙ ap (option_map (λ line. line.now)) c.in_default.is in
    by_lines _ c.args.request _ _ none (sym c.in-Some-mark_of.ensures.mark)
    (sym c.in-Some-end_of.ensures) c.if-mark-end.false
    (sym (rw c.deref.ensures.value at c.are_lines.ensures) ∙ c.if-not-are_lines.true)
