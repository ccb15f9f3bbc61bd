use Rattle.pgn_extract.proofs.Common.{refl}
use Rattle.chess.proofs.RestFacts.{first_and_rest, no_bytes}
use Rattle.pgn_extract.proofs.app.EditTexts.{not_parted, parted_there}
use Rattle.pgn_extract.proofs.app.edits.set_of.Goals as goal

pub returns-in-empty : goal.returns-in-empty
returns-in-empty c =
    let rest = c.split_run.result.1.now in (
      refl,
      λ name value. not_parted c.args.text.now rest name value c.split_run.ensures.rest
          (no_bytes rest c.in-empty.len_below),
    )

pub returns-in-len1-up : goal.returns-in-len1-up
returns-in-len1-up c =
    let rest = c.split_run.result.1.now in
    c.valued.ensures c.args.text.now (parted_there c.args.text.now c.split_run.result.0.now rest _ _
    c.split_run.ensures.run c.split_run.ensures.rest
    (first_and_rest rest c.in-len1-up.len_at_least))
