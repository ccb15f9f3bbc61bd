-- What the definitions of lines as games say: each variation has the moves that lead to it and its
-- own, and no result; and what they refuse.
use Rattle.std.specs.Prelude.{codes, map}
use Rattle.pgn_game.proofs.Common.{◌≡◌, ℕ, List, [], ◌∷◌, ◌++◌, Option, refl, ap, ◌∙◌, true}
use Rattle.pgn_game.proofs.Common.{false, MoveText, GlyphNumber, CommentText, Line, LineEnd}
use Rattle.pgn_game.proofs.Common.{ThenMove, ThenGlyph, ThenComment, ThenVariation, GameText, Style}
use Rattle.pgn_game.specs.Public.Edits.{Edits}
use Rattle.pgn_game.specs.Public.LineGames.{AreTextsOf, AsExports, LineGame, as_game}
use Rattle.pgn_game.specs.Public.LineGames.{line_items, lines_of}

-- 1. e4 {a} (1. d4 $1 d5 (1... Nf6) 2. c4) 1... e5 (1... c5)
abbrev played : Line
played = ThenMove (codes "e4") (ThenComment (codes "a") (ThenVariation (ThenMove (codes "d4")
    (ThenGlyph 1 (ThenMove (codes "d5") (ThenVariation (ThenMove (codes "Nf6") LineEnd)
    (ThenMove (codes "c4") LineEnd))))) (ThenMove (codes "e5")
    (ThenVariation (ThenMove (codes "c5") LineEnd) LineEnd))))

-- its lines, in the order of the text; what stands beside a shared move is not repeated
its_lines : map (λ (line : LineGame). line_items line) (lines_of played)
    ≡ (MoveText (codes "e4") ∷ CommentText (codes "a") ∷ MoveText (codes "e5") ∷ [])
    ∷ (MoveText (codes "d4") ∷ GlyphNumber 1 ∷ MoveText (codes "d5") ∷ MoveText (codes "c4") ∷ [])
    ∷ (MoveText (codes "d4") ∷ MoveText (codes "Nf6") ∷ [])
    ∷ (MoveText (codes "e4") ∷ MoveText (codes "c5") ∷ []) ∷ []
its_lines = refl

-- the tags of a game that was won
abbrev won : List (List ℕ × List ℕ)
won = (codes "Event", codes "x") ∷ (codes "Result", codes "1-0") ∷ (codes "White", codes "A") ∷ []

abbrev variation : LineGame
variation = record { inside = true; before = codes "e4" ∷ []; own = MoveText (codes "c5") ∷ [] }

-- a variation has no result, in its tags as at its end; the main line keeps both
no_result : (game : GameText)
    → ((as_game (record game { tags = won; result = codes "1-0" }) variation).tags
    ≡ (codes "Event", codes "x") ∷ (codes "White", codes "A") ∷ [])
    × ((as_game (record game { result = codes "1-0" }) variation).result ≡ codes "*")
    × ((as_game (record game { tags = won; result = codes "1-0" })
    (record variation { inside = false })).tags ≡ won)
    × ((as_game (record game { result = codes "1-0" })
    (record variation { inside = false })).result ≡ codes "1-0")
no_result game = (refl, refl, refl, refl)

no_played_result : (game : GameText) → (as_game game variation).result ≡ codes "1-0" → ⊥
no_played_result game is = cc

-- a text without the first line is none of the lines
nothing_in_front : (head rest more : List ℕ) → [] ≡ (head ++ 10 ∷ rest) ++ more → ⊥
nothing_in_front [] rest more none = cc
nothing_in_front (b ∷ head) rest more none = cc

no_empty_text : (edits : Option Edits) (style : Style) (game : GameText) (line : LineGame)
    (more : List LineGame) → AreTextsOf (AsExports edits style) game (line ∷ more) [] → ⊥
no_empty_text edits style game line more (own, rest, parted, (edited, is, exports), later) =
    nothing_in_front exports.head (exports.movetext ++ 10 ∷ []) rest
    (parted ∙ ap (λ bytes. bytes ++ rest) exports.spells)
