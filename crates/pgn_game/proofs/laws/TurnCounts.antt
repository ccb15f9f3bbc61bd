-- Each move text has a turn, where all lines are replayed.
use Rattle.pgn_game.proofs.Common.{◌≡◌, ◌+◌, Bool, true, false, List, [], ◌∷◌, ◌++◌, length, sym}
use Rattle.pgn_game.proofs.Common.{ap, ◌∙◌, length-append, arith, State, Item, MoveText}
use Rattle.pgn_game.proofs.Common.{GlyphNumber, CommentText, VariationOpen, VariationClose, Line}
use Rattle.pgn_game.proofs.Common.{LineEnd, ThenMove, ThenGlyph, ThenComment, ThenVariation}
use Rattle.pgn_game.proofs.Common.{spelled, after_turn, IsPlayed, LineMove}
use Rattle.pgn_game.specs.Public.Laws.{move_count, EachMoveHasATurn}

count_append : (items more : List Item)
    → move_count (items ++ more) ≡ move_count items + move_count more
count_append [] more = omega arith
count_append (MoveText word ∷ items) more = let a = count_append items more in omega arith
count_append (GlyphNumber number ∷ items) more = count_append items more
count_append (CommentText text ∷ items) more = count_append items more
count_append (VariationOpen ∷ items) more = count_append items more
count_append (VariationClose ∷ items) more = count_append items more

line_turns : (line : Line) (inside : Bool) (before now : State) (turns : List LineMove)
    → IsPlayed inside before now line turns → length turns ≡ move_count (spelled line)
line_turns LineEnd inside before now turns none = ap length none
line_turns (ThenMove word line) inside before now turns (turn, more, is, says, rest) =
    let a : length turns ≡ length (turn ∷ more) = ap length is in
    let b : length more ≡ move_count (spelled line) =
    line_turns line inside now (after_turn now turn) more rest in
    omega arith
line_turns (ThenGlyph number line) inside before now turns played =
    line_turns line inside before now turns played
line_turns (ThenComment text line) inside before now turns played =
    line_turns line inside before now turns played
line_turns (ThenVariation inner line) inside before now turns (own, more, is, within, rest) =
    let a : length turns ≡ length own + length more = ap length is ∙ length-append own more in
    let b : length own ≡ move_count (spelled inner) =
    line_turns inner true before before own within in
    let c : length more ≡ move_count (spelled line) = line_turns line inside before now more rest in
    let d : move_count (spelled inner ++ VariationClose ∷ spelled line)
    ≡ move_count (spelled inner) + move_count (spelled line) =
    count_append (spelled inner) (VariationClose ∷ spelled line) in
    omega arith

pub turns_counted : EachMoveHasATurn
turns_counted fen items replay is =
    let all = is.turns in
    line_turns all.0 false is.start is.start replay.turns all.2 ∙ ap move_count (sym all.1)
