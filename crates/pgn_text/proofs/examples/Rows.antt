-- Worked rows of the definitions.
use Rattle.pgn_text.proofs.Common.{◌≡◌, true, false, List, [], ◌∷◌, codes, refl, sym, ap, ◌∙◌, Part}
use Rattle.pgn_text.proofs.Common.{White, Word, Star, Dot, Open, Close, spelled, standing_of}
use Rattle.pgn_text.proofs.Common.{IsGame, NoGame, start, part_front}
use Rattle.pgn_text.proofs.laws.GameLeads.{game_from}
use Rattle.pgn_text.proofs.laws.Halfway.{halfway_start, halfway_stuck, game_reads, halfway_none}
use Rattle.pgn_text.proofs.laws.PartLemmas.{stands-read}

-- `1. e4 *` is a game
first_row : List Part
first_row = Word (codes "1") ∷ Dot ∷ White 32 ∷ Word (codes "e4") ∷ White 32 ∷ Star ∷ []

first_text : spelled first_row ≡ codes "1. e4 *"
unfolding first_row
first_text = refl

first_game : IsGame 64 true [] first_row []
unfolding first_row
first_game = game_from 64 true [] first_row []
    ((refl, refl, refl), (tt, (refl, ((refl, refl, refl), (refl, (tt, tt)))))) refl
    (_, refl, (_, refl, (_, refl, (_, refl, (_, refl, (refl, refl))))))

-- `e4 (e5) *` is one
second_row : List Part
second_row = Word (codes "e4") ∷ White 32 ∷ Open ∷ Word (codes "e5") ∷ Close ∷ White 32 ∷ Star ∷ []

second_game : IsGame 64 true [] second_row []
unfolding second_row
second_game = game_from 64 true [] second_row []
    ((refl, refl, refl), (refl, (tt, ((refl, refl, refl), (tt, (refl, (tt, tt))))))) refl
    (_, refl, (_, refl, (_, refl, (_, refl, (_, refl, (_, refl, (refl, refl)))))))

-- no front of `(1. e4) *` is one
third_none : NoGame 64 false [] (codes "(1. e4) *")
third_none parts after e g =
    halfway_stuck 64 false [] (codes "(1. e4) *") [] start Open (codes "(1. e4) *")
    (codes "1. e4) *")
    (halfway_start 64 false [] (codes "(1. e4) *")) refl tt (λ e. cc) (λ _.
    refl) parts after (game_reads 64 false []
    (codes "(1. e4) *") parts after e g)

-- after a space a percent sign begins nothing
fourth_none : NoGame 64 true (32 ∷ []) (codes "%x *")
fourth_none parts after e g = halfway_none 64 true (32 ∷ []) (codes "%x *") [] start (codes "%x *")
    (halfway_start 64 true (32 ∷ []) (codes "%x *"))
    (λ p rest f h. (let k = sym (stands-read (standing_of true (32 ∷ [])) p rest h)
    ∙ ap (part_front (standing_of true (32 ∷ []))) (sym f) in cc))
    parts after (game_reads 64 true (32 ∷ []) (codes "%x *") parts after e g)
