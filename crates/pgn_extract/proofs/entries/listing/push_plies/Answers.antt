use Rattle.pgn_extract.proofs.Common.{◌≡◌, ◌++◌, ap, ◌∙◌, on_ok_weaker, named_mark}
use Rattle.pgn_extract.proofs.entries.listing.push_plies.Goals as goal

pub returns : goal.returns
returns c =
    let name = c.args.context.settings.now.name in
    let own = c.args.context.own in
    let marked : c.deref.result.now ≡ named_mark name own =
    c.deref.ensures.value ∙ c.in_ok-push_named_mark.ensures
    ∙ ap (λ t. t ++ named_mark name own) c.in_ok-mark.ensures.items in
    on_ok_weaker c.push_lines.result
    (λ adds. adds name c.args.context.settings.now.openings own marked) c.push_lines.ensures
