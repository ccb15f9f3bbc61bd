use Rattle.std.proofs.Common.{◌≡◌, ◌++◌, drop}
use Rattle.pgn_game.specs.Public.Comments.{words_in}
use Rattle.pgn_extract.specs.Private.AnnotationLists.{spaced, spaced_bytes}
use Rattle.pgn_extract.proofs.entries.annotations.push_words.Given as goal

abbrev pub invariant-loop-byte : goal.invariant-loop-byte
invariant-loop-byte l =
    l.own.items ++ spaced_bytes l.is_inside (drop l.byte-index l.text)
    ≡ l.fn.own.items ++ spaced (words_in l.text)
