-- What the definitions refuse: of a main line that is played ply by ply, of the moves of a replay,
-- and of an export.
use Rattle.std.proofs.Common.{codes}
use Rattle.pgn_game.proofs.Common.{◌≡◌, ◌∙◌, ℕ, List, [], ◌∷◌, ◌++◌, Option, Some, ap, inr, refl}
use Rattle.pgn_game.proofs.Common.{sym, subst, arith, same_Some, slice_get, State, IsNamed, Move}
use Rattle.pgn_game.proofs.Common.{event_line, Item, IsReadAsOne, main_words, PlayedLine, HasEnded}
use Rattle.pgn_game.proofs.Common.{Replay, IsReplay, Lines}
use Rattle.pgn_game.specs.Public.Laws.{EachMoveIsNamed}

-- a line that is at its end goes on by no ply, and has no word left
no_ply_at_the_end : (now : State) → HasEnded (record { position = now; plies = 1; words = [] })
    (record { position = now; plies = 2; words = [] }) → ⊥
no_ply_at_the_end now ended = let same : 2 ≡ 1 = ap (λ line. line.plies) ended.same in
    absurd (omega (arith, same))

no_word_at_the_end : (now : State) (word : List ℕ) (line : PlayedLine)
    → HasEnded (record { position = now; plies = 1; words = word ∷ [] }) line → ⊥
no_word_at_the_end now word line ended = let none = ended.words in cc

-- the word of a move that was played names no other move
no_other_move : EachMoveIsNamed
    → (lines : Lines) (fen : Option (List ℕ)) (items : List Item) (replay : Replay)
    → IsReplay lines fen items replay
    → (i : ℕ) (m n : Move) (word : List ℕ) (now : State) → slice_get replay.played i ≡ Some m
    → slice_get (main_words items 0) i ≡ Some word
    → slice_get replay.positions i ≡ Some now → IsNamed now word n → (n ≡ m → ⊥) → ⊥
no_other_move law lines fen items replay is i m n word now played said here named apart =
    let (own, before, its_word, its_place, only, after) =
    law lines fen items replay is i m played in
    let same_word : word ≡ own = same_Some word own (sym said ∙ its_word) in
    let same_place : now ≡ before = same_Some now before (sym here ∙ its_place) in
    apart (only.only n (subst (λ (w : List ℕ).
    IsNamed before w n) same_word (subst (λ (s : State). IsNamed s word n) same_place named)))

-- an export begins with an event line, and has no other and no escape
not_without_event_line : IsReadAsOne (codes "x") → ⊥
not_without_event_line one = let (more, is) = one.first in cc

not_two_event_lines : IsReadAsOne (event_line ++ 10 ∷ event_line) → ⊥
not_two_event_lines one = one.only event_line event_line [] refl refl

not_an_escape : IsReadAsOne (event_line ++ 10 ∷ codes "%x") → ⊥
not_an_escape one = one.no_escape (codes "%x") (codes "x") (inr (event_line, refl)) refl
