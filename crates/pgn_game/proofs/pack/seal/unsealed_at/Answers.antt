use Rattle.std.proofs.Common.{◌∙◌, ap, drop, List, ℕ}
use Rattle.std.proofs.lemmas.List.{drop-drop}
use Rattle.pgn_game.proofs.pack.seal.unsealed_at.Goals as goal

pub returns-then-check-check_of-clause-rest : goal.returns-then-check-check_of-clause-rest
returns-then-check-check_of-clause-rest c =
    c.split_at-2.ensures.back ∙ ap (λ (rest : List ℕ). drop 8 rest) c.split_at.ensures.back
    ∙ drop-drop 8 c.args.size c.args.bytes.now
