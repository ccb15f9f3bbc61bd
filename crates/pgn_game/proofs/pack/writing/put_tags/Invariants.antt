use Rattle.pgn_game.proofs.Common.{◌≡◌, ◌++◌, flat_map, tag_bytes}
use Rattle.pgn_game.proofs.RecordWriting.{shown_tags}
use Rattle.pgn_game.proofs.pack.writing.put_tags.Given as goal

abbrev pub invariant-loop-name : goal.invariant-loop-name
invariant-loop-name l = l.out.items ≡ l.initial.out.items
    ++ flat_map tag_bytes (shown_tags l.yielded)
