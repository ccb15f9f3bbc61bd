use Rattle.pgn_extract.proofs.Common.{sym, ap, ◌∙◌, option_map}
use Rattle.pgn_extract.proofs.app.RequestFacts.{by_rows, by_others}
use Rattle.pgn_extract.proofs.app.order.refused_line.Goals as goal

pub returns-in-Some : goal.returns-in-Some
returns-in-Some c = sym (by_rows c.args.request.now _ (sym c.in-Some.ensures))

pub returns : goal.returns
returns c =
    c.refused_others.ensures ∙ sym (by_others c.args.request.now
    (sym c.refused_rows.ensures ∙ ap (option_map (λ line. line.now)) c.in_default.is))
