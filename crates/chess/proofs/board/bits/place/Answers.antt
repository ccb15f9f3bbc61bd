use Rattle.chess.proofs.board.bits.place.Goals as goal
use Rattle.chess.proofs.Common.{◌∙◌, ap, sym, Some, None, index_of, with_man, words_men}
use Rattle.chess.proofs.BitFacts.{put_none, put_some, put_apart, put_men}

pub returns-in_default-clause-apart : goal.returns-in_default-clause-apart
returns-in_default-clause-apart c =
    put_apart c.args.words.now c.clear.new.words (index_of c.args.square) None c.requires
    (put_none c.args.words.now c.clear.new.words (index_of c.args.square)
    (rw (← c.bitboard_of.ensures.bitboard) c.clear.ensures))

pub returns-in_default-clause-men : goal.returns-in_default-clause-men
returns-in_default-clause-men c =
    put_men c.args.words.now c.clear.new.words c.args.square None c.bitboard_of.ensures.on_board
    c.requires
    (put_none c.args.words.now c.clear.new.words (index_of c.args.square)
    (rw (← c.bitboard_of.ensures.bitboard) c.clear.ensures))
    ∙ ap (with_man (words_men c.args.words.now) c.args.square) (sym c.in_default.is)

pub returns-clause-apart : goal.returns-clause-apart
returns-clause-apart c =
    put_apart c.args.words.now c.set.new.words (index_of c.args.square) (Some c.in-Some.man)
    c.requires
    (put_some c.args.words.now c.clear.new.words c.set.new.words (index_of c.args.square)
    c.in-Some.man
    (rw (← c.bitboard_of.ensures.bitboard) c.clear.ensures) c.set.ensures)

pub returns-clause-men : goal.returns-clause-men
returns-clause-men c =
    put_men c.args.words.now c.set.new.words c.args.square (Some c.in-Some.man)
    c.bitboard_of.ensures.on_board c.requires
    (put_some c.args.words.now c.clear.new.words c.set.new.words (index_of c.args.square)
    c.in-Some.man
    (rw (← c.bitboard_of.ensures.bitboard) c.clear.ensures) c.set.ensures)
    ∙ ap (with_man (words_men c.args.words.now) c.args.square) (sym c.in-Some.is)
