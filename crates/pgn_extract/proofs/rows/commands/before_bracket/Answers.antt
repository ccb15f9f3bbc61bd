use Rattle.std.specs.Prelude.{◌==◌}
use Rattle.pgn_extract.proofs.Common.{length, sym, ap, ◌∙◌}
use Rattle.chess.proofs.RestFacts.{no_length}
use Rattle.pgn_extract.proofs.rows.CommandFacts.{before_none, before_some}
use Rattle.pgn_extract.proofs.rows.commands.before_bracket.Goals as goal

pub returns-then-is_empty : goal.returns-then-is_empty
returns-then-is_empty c =
    before_none c.args.text.now (sym c.split_run.ensures.rest
    ∙ no_length c.split_run.result.1.now (sym c.is_empty.ensures ∙ c.if-is_empty.true))

pub returns-else-is_empty : goal.returns-else-is_empty
returns-else-is_empty c =
    c.split_run.ensures.run ∙ before_some c.args.text.now (λ none.
    cc (sym c.if-is_empty.false ∙ c.is_empty.ensures
    ∙ ap (λ t. length t == 0) (c.split_run.ensures.rest ∙ none)))
