use Rattle.std.proofs.Common.{◌∷◌, ap, ◌∙◌}
use Rattle.chess.proofs.FieldFacts.{first_part, parted_after}
use Rattle.chess.proofs.RestFacts.{first_and_rest, no_bytes}
use Rattle.pgn_extract.proofs.rows.list.next_name.Goals as goal

pub returns-in-empty : goal.returns-in-empty
returns-in-empty c =
    let run = c.split_run.result.0.now in
    first_part 44 c.args.text.now run c.split_run.result.1.now c.split_run.ensures.run
    c.split_run.ensures.rest ∙ ap (λ rest. run ∷ parted_after 44 rest)
    (no_bytes c.split_run.result.1.now c.in-empty.len_below)

pub returns-in-len1-up : goal.returns-in-len1-up
returns-in-len1-up c =
    let run = c.split_run.result.0.now in
    first_part 44 c.args.text.now run c.split_run.result.1.now c.split_run.ensures.run
    c.split_run.ensures.rest ∙ ap (λ rest. run ∷ parted_after 44 rest)
    (first_and_rest c.split_run.result.1.now c.in-len1-up.len_at_least)
