use Rattle.std.proofs.Common.{◌≡◌, ◌++◌, take, flat_map}
use Rattle.pgn_extract.specs.Public.Json.{escaped, latin}
use Rattle.pgn_extract.proofs.rows.json.push_all_latin.Given as goal

abbrev pub invariant-loop-byte : goal.invariant-loop-byte
invariant-loop-byte l = l.out.items ≡ l.fn.out.items ++ flat_map escaped
    (flat_map latin (take l.byte-index l.value))
