-- A failed read and the largest offset end no block that is held whole.
use Rattle.pgn_text.proofs.Common.{◌≢◌, ℕ, List, [], ◌++◌, subst, append_assoc, append-nil}
use Rattle.pgn_text.proofs.Common.{inl, inr, IsTrue, and_parts, false≢true, ends_in_line_feed}
use Rattle.pgn_text.proofs.Common.{is_event_line, IsFirstBlock, IsCutShort, IsPastEnd, FailsAfter}
use Rattle.pgn_text.specs.Public.AnswerLaws.{FailsBeforeNoEventLine}
use Rattle.pgn_text.proofs.laws.EventLines.{line_has_byte}
use Rattle.pgn_text.proofs.FrontText.{event_front}
use Rattle.pgn_text.proofs.laws.LineFronts.{begins_line}
use Rattle.pgn_text.proofs.OneList.{no_bytes}

-- before the place of an event line stand bytes
line_follows_byte : (before after : List ℕ) → IsTrue (is_event_line before after) → before ≢ []
line_follows_byte before after line none =
    false≢true
    (rw none at (and_parts (ends_in_line_feed before) (begins_line after) line).0)

-- bytes with an event line among them are no single block
line_cuts : (block ahead more : List ℕ) → IsTrue (is_event_line block ahead)
    → IsFirstBlock ((block ++ ahead) ++ more) [] → ⊥
line_cuts block ahead more line first =
    first.whole block (ahead ++ more) (append_assoc block ahead more)
    (line_follows_byte block ahead line)
    (λ none. line_has_byte block ahead line (no_bytes ahead more none))
    (rw (append-nil (ahead ++ more)) (event_front block ahead more line))

pub fails_before_no_event_line : FailsBeforeNoEventLine
fails_before_no_event_line place block ahead read error line (inl e) h =
    let short : IsCutShort place ((block ++ ahead) ++ read) =
    subst (FailsAfter place (block ++ ahead) read) e h in
    line_cuts block ahead read line short.uncut
fails_before_no_event_line place block ahead read error line (inr e) h =
    let past : IsPastEnd place (block ++ ahead) read =
    subst (FailsAfter place (block ++ ahead) read) e h in
    line_cuts block ahead past.kept line past.uncut
