use Rattle.pgn_criteria.proofs.Common.{◌≡◌, ◌∙◌, sym, subst, AreMoveWords}
use Rattle.pgn_criteria.proofs.MoveWordFacts.{moves_read, moves_spelled}
use Rattle.pgn_criteria.proofs.line.move_words.moves_of.Goals as goal

pub returns-in_err-words : goal.returns-in_err-words
returns-in_err-words c =
    rw c.from_residual.ensures (λ words spells.
    c.in_err-words.ensures (moves_read c.args.text.now words spells).0)

pub returns-then-are_move_words : goal.returns-then-are_move_words
returns-then-are_move_words c =
    moves_spelled c.args.text.now c.in_ok-words.words.now c.in_ok-words.ensures.0
    c.in_ok-words.ensures.1 (c.are_move_words.ensures.0 c.if-are_move_words.true)

pub returns-else-are_move_words : goal.returns-else-are_move_words
returns-else-are_move_words c words spells =
    let same : words ≡ c.in_ok-words.words.now =
    sym (moves_read c.args.text.now words spells).1 ∙ sym c.in_ok-words.ensures.1 in
    let t = c.are_move_words.ensures.1 (subst AreMoveWords same spells.1) in
    absurd (cc (t, c.if-are_move_words.false))
