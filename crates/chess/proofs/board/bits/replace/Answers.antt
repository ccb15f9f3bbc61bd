use Rattle.chess.proofs.Common.{◌∙◌, ap, sym, subst, bit_or, Some, None, index_of, with_man}
use Rattle.chess.proofs.Common.{words_men, IsCleared}
use Rattle.chess.proofs.BitFacts.{put_none, put_some}
use Rattle.chess.proofs.board.MovePieceFacts.{without, cleared_last, moved_apart, moved_men}
use Rattle.chess.proofs.board.bits.replace.Goals as goal

pub returns-in_default-clause-men : goal.returns-in_default-clause-men
returns-in_default-clause-men c =
    let old = c.args.words.now in
    let cleared =
    cleared_last old c.clear.new.words c.args.capture_square c.args.from c.args.to c.told-words
    c.bitboard_of.ensures.on_board c.bitboard_of-2.ensures.on_board
    (subst (IsCleared old c.clear.new.words)
    (λ i. bit_or (bit_or (c.bitboard_of.ensures.bitboard i) (c.bitboard_of-2.ensures.bitboard i))
    (c.bitboard_of-3.ensures.bitboard i)) c.clear.ensures) in
    moved_men old c.clear.new.words c.args.capture_square c.args.from c.args.to None c.told-words
    c.bitboard_of.ensures.on_board c.bitboard_of-2.ensures.on_board
    c.bitboard_of-3.ensures.on_board c.requires
    (put_none (without (without old c.args.capture_square) c.args.from) c.clear.new.words
    (index_of c.args.to) cleared)
    ∙ ap (with_man (with_man (with_man (words_men old) c.args.capture_square None) c.args.from None)
    c.args.to) (sym c.in_default.is)

pub returns-clause-apart : goal.returns-clause-apart
returns-clause-apart c =
    let old = c.args.words.now in
    let cleared =
    cleared_last old c.clear.new.words c.args.capture_square c.args.from c.args.to c.told-words
    c.bitboard_of.ensures.on_board c.bitboard_of-2.ensures.on_board
    (subst (IsCleared old c.clear.new.words)
    (λ i. bit_or (bit_or (c.bitboard_of.ensures.bitboard i) (c.bitboard_of-2.ensures.bitboard i))
    (c.bitboard_of-3.ensures.bitboard i)) c.clear.ensures) in
    moved_apart old c.set.new.words c.args.capture_square c.args.from c.args.to (Some c.in-Some.man)
    c.told-words c.bitboard_of.ensures.on_board
    c.bitboard_of-2.ensures.on_board c.requires
    (put_some (without (without old c.args.capture_square) c.args.from) c.clear.new.words
    c.set.new.words
    (index_of c.args.to) c.in-Some.man cleared c.set.ensures)

pub returns-clause-men : goal.returns-clause-men
returns-clause-men c =
    let old = c.args.words.now in
    let cleared =
    cleared_last old c.clear.new.words c.args.capture_square c.args.from c.args.to c.told-words
    c.bitboard_of.ensures.on_board c.bitboard_of-2.ensures.on_board
    (subst (IsCleared old c.clear.new.words)
    (λ i. bit_or (bit_or (c.bitboard_of.ensures.bitboard i) (c.bitboard_of-2.ensures.bitboard i))
    (c.bitboard_of-3.ensures.bitboard i)) c.clear.ensures) in
    moved_men old c.set.new.words c.args.capture_square c.args.from c.args.to (Some c.in-Some.man)
    c.told-words c.bitboard_of.ensures.on_board
    c.bitboard_of-2.ensures.on_board c.bitboard_of-3.ensures.on_board c.requires
    (put_some (without (without old c.args.capture_square) c.args.from) c.clear.new.words
    c.set.new.words
    (index_of c.args.to) c.in-Some.man cleared c.set.ensures)
    ∙ ap (with_man (with_man (with_man (words_men old) c.args.capture_square None) c.args.from None)
    c.args.to) (sym c.in-Some.is)
