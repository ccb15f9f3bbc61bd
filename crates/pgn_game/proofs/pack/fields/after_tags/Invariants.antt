use Rattle.pgn_game.proofs.Common.{◌≡◌, ◌-◌, None, option_map, after_tags}
use Rattle.pgn_game.proofs.pack.fields.after_tags.Given as goal

abbrev pub invariant-loop : goal.invariant-loop
invariant-loop l =
    after_tags (l.count - l.counter) (option_map (λ name. name.now) l.last) l.rest
    ≡ after_tags l.count None l.bytes
