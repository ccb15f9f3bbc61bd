use Rattle.std.proofs.Common.{◌≡◌, ◌++◌, ◌∷◌, [], map, take}
use Rattle.std.specs.Prelude.{flat_map}
use Rattle.pgn_extract.proofs.app.conditions.push_lines.Given as goal

abbrev pub invariant-loop-argument : goal.invariant-loop-argument
invariant-loop-argument l = l.text.items ≡ l.initial.text.items
    ++ flat_map (λ line. line ++ 10 ∷ []) (map (λ line. line.now)
    (take l.argument-index l.arguments))
