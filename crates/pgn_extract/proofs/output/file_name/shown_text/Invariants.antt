use Rattle.std.proofs.Common.{◌≡◌, ◌++◌, IsUtf8, string_bytes}
use Rattle.std.specs.Str.Iter.{chars_rest}
use Rattle.pgn_extract.specs.Public.Index.{shown_name}
use Rattle.pgn_extract.proofs.output.file_name.shown_text.Given as goal

abbrev pub invariant-loop-character : goal.invariant-loop-character
invariant-loop-character l =
    IsUtf8 (chars_rest l.character-iterator)
    × (string_bytes l.shown ++ shown_name (chars_rest l.character-iterator) ≡ shown_name l.text)
