use Rattle.std.proofs.lemmas.Bool.Decides.{Decides-eqb}
use Rattle.std.proofs.lemmas.Slice.Eq.{strip_prefix_is}
use Rattle.pgn_extract.proofs.app.MarkLineFacts.{stripped}
use Rattle.pgn_extract.proofs.app.mark_lines.rest_after.Goals as goal

pub returns : goal.returns
returns c =
    stripped c.args.prefix.now c.args.text.now c.strip_prefix.result
    (strip_prefix_is Decides-eqb c.args.text.now c.args.prefix.now c.strip_prefix.result
    c.strip_prefix.ensures.cases)
