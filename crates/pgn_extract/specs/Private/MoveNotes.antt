-- What is kept while a note is written. Nothing but the proof of the notes cites this.
use Rattle.std.specs.Prelude.{ℕ, List, IsTrue}
use Rattle.std.specs.List.{list_all}
use Rattle.pgn_text.specs.Public.Bytes.{is_not_line_feed}

-- bytes without a line feed are still without one
abbrev pub KeepsLine : List ℕ → List ℕ → Type 0
KeepsLine old new = IsTrue (list_all is_not_line_feed old) → IsTrue (list_all is_not_line_feed new)
