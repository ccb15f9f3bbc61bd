use Rattle.std.proofs.Common.{◌≡◌, min}
use Rattle.pgn_game.specs.Public.PackedGames.{tags_size}
use Rattle.pgn_game.proofs.RecordWriting.{shown_tags}
use Rattle.pgn_game.proofs.pack.writing.tags_size.Given as goal

abbrev pub invariant-loop-name : goal.invariant-loop-name
invariant-loop-name l = l.size ≡ min (tags_size (shown_tags l.yielded)) 18446744073709551615
