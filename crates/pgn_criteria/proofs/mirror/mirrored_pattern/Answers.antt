use Rattle.pgn_criteria.proofs.Common.{◌++◌, ap, ◌∙◌, parted_at, turned}
use Rattle.pgn_criteria.proofs.mirror.MirrorTextFacts.{pattern_mirrored, pattern_again}
use Rattle.pgn_criteria.proofs.mirror.mirrored_pattern.Goals as goal

pub returns-clause-fits : goal.returns-clause-fits
returns-clause-fits c men =
    pattern_mirrored men c.args.pattern.now c.add_ranks.new.text.items
    (c.in_ok-add_ranks.ensures
    ∙ ap (λ x. x ++ turned (parted_at 47 c.args.pattern.now)) c.new-text.ensures.items)

pub returns-clause-again : goal.returns-clause-again
returns-clause-again c good =
    pattern_again c.args.pattern.now c.add_ranks.new.text.items
    (c.in_ok-add_ranks.ensures
    ∙ ap (λ x. x ++ turned (parted_at 47 c.args.pattern.now)) c.new-text.ensures.items) good
