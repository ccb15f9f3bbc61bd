use Rattle.std.specs.Prelude.{if◌then◌else◌, ◌&&◌, not}
use Rattle.pgn_game.proofs.Common.{sym, ap, ◌∙◌, words_in, has_bracket, closes, joined}
use Rattle.pgn_game.proofs.exports.CommandFacts.{closes_words}
use Rattle.pgn_game.proofs.exports.comment.is_in_command.Goals as goal

pub returns-then-leaves_open : goal.returns-then-leaves_open
returns-then-leaves_open c =
    let found = c.args.found.now in
    c.closes.ensures ∙ sym (closes_words found.rest.now)
    ∙ sym (ap (λ t. if t then closes (joined (words_in found.rest.now))
    else c.args.inside && not (has_bracket found.word.now)) (sym c.leaves_open.ensures
    ∙ c.if-leaves_open.true))
