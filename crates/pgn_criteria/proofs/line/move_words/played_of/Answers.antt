use Rattle.pgn_criteria.proofs.Common.{◌≡◌, ◌∙◌, sym, subst, IsMoveLike}
use Rattle.pgn_criteria.proofs.MoveWordFacts.{played_read, played_spelled}
use Rattle.pgn_criteria.proofs.line.move_words.played_of.Goals as goal

pub returns-in_err-word : goal.returns-in_err-word
returns-in_err-word c =
    rw c.from_residual.ensures (λ word spells.
    c.in_err-word.ensures (played_read c.args.text.now word spells).0)

pub returns-then-is_move_like : goal.returns-then-is_move_like
returns-then-is_move_like c =
    played_spelled c.args.text.now c.in_ok-word.word.now c.in_ok-word.ensures.0
    c.in_ok-word.ensures.1 (c.is_move_like.ensures.0 c.if-is_move_like.true)

pub returns-else-is_move_like : goal.returns-else-is_move_like
returns-else-is_move_like c word spells =
    let same : word ≡ c.in_ok-word.word.now =
    sym (played_read c.args.text.now word spells).1 ∙ sym c.in_ok-word.ensures.1 in
    let t = c.is_move_like.ensures.1 (subst IsMoveLike same spells.1) in
    absurd (cc (t, c.if-is_move_like.false))
