use Rattle.pgn_extract.proofs.Common.{◌++◌, ap, ◌∙◌, codes, on_ok_weaker}
use Rattle.pgn_extract.proofs.explain.notes.push_context.Goals as goal

pub returns-in-TagValue : goal.returns-in-TagValue
returns-in-TagValue c =
    rw c.in-TagValue.is
    (on_ok_weaker c.push_named.result
    (λ is. is
    ∙ ap (λ n. c.args.text.now.items
    ++ (codes " (in the value of tag " ++ n ++ codes ")")) c.tag_name_at.ensures)
    c.push_named.ensures)
