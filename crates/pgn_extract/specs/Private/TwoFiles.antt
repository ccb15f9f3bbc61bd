-- Two files in memory, over which the loop over files is called. No public contract cites them.
use Rattle.std.specs.Prelude.{List, ℕ, codes, if◌then◌else◌}
use Rattle.std.specs.Str.{bytes_eq}
use Rattle.pgn_extract.specs.Public.Several.{AtPath, FileOf, NoFile}

-- a file at each of two paths, and none at any other
abbrev pub known_of_two : List ℕ → List ℕ → List ℕ → AtPath
known_of_two first second path =
    if bytes_eq path (codes "first.pgn") then FileOf first
    else (if bytes_eq path (codes "second.pgn") then FileOf second else NoFile)
