use Rattle.std.proofs.Common.{◌∙◌, ap, sym, is_some}
use Rattle.pgn_text.proofs.TagLemmas.{kept_new, kept_back}
use Rattle.pgn_text.proofs.game.game_builder.keep_first.Goals as goal

pub returns-in_ok-insert-clause-first : goal.returns-in_ok-insert-clause-first
returns-in_ok-insert-clause-first c = λ wanted.
    kept_back c.args.tags.now c.insert.new.self c.insert-in-Some.new.self c.args.name.now wanted
    c.args.contents c.in-Some.first
    c.in_ok-first.ensures.updates c.in_ok-insert.ensures.updates (sym c.in_ok-first.ensures.old
    ∙ c.in-Some.is)

pub returns-in_default-clause-first : goal.returns-in_default-clause-first
returns-in_default-clause-first c = λ wanted.
    kept_new c.args.tags.now c.insert.new.self c.args.name.now wanted c.args.contents
    c.in_ok-first.ensures.updates
    (ap is_some (sym c.in_ok-first.ensures.old ∙ c.in_default.is))
