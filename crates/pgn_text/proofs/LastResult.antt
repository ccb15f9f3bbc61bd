-- The result of a game is one of the four.
use Rattle.std.specs.Prelude.{codes, IsTrue}
use Rattle.pgn_text.proofs.Common.{◌≡◌, ℕ, ◌↔◌, ◌||◌, Bool, true, false, List, [], ◌∷◌, ◌++◌, refl}
use Rattle.pgn_text.proofs.Common.{inl, inr, bytes_eq, or_cases, Part, Word, Star, spelled_part}
use Rattle.pgn_text.proofs.Common.{is_result, is_result_word, result_of, EachFrom, IsGame, IsResult}
use Rattle.pgn_text.proofs.TagLemmas.{bytes_eq-same}

word_result : (text : List ℕ) → is_result_word text ≡ true → IsResult text
word_result text is =
    elim (or_cases (bytes_eq text (codes "1-0")
    || bytes_eq text (codes "0-1")) (bytes_eq text (codes "1/2-1/2")) is) [
      | inl won ↦ elim (or_cases (bytes_eq text (codes "1-0")) (bytes_eq text (codes "0-1")) won) [
        | inl white ↦ inl (bytes_eq-same text (codes "1-0") white)
        | inr black ↦ inr (inl (bytes_eq-same text (codes "0-1") black))
      ]
      | inr drawn ↦ inr (inr (inl (bytes_eq-same text (codes "1/2-1/2") drawn)))
    ]

part_result : (part : Part) → is_result part ≡ true → IsResult (spelled_part part)
part_result (Word text) is = word_result text is
part_result Star is = inr (inr (inr refl))
part_result _ is = absurd (cc)

last_result : (front : List Part) (part : Part) (back : List Part)
    → EachFrom (λ front part back. IsTrue (is_result part) ↔ (back ≡ [])) front (part ∷ back)
    → IsResult (result_of (part ∷ back))
last_result front part [] each = part_result part (each.0.1 refl)
last_result front part (next ∷ back) each = last_result (front ++ part ∷ []) next back each.1

pub game_result : (max_depth : ℕ) (file_start : Bool) (before : List ℕ) (parts : List Part)
    (after : List ℕ) → IsGame max_depth file_start before parts after
    → IsResult (result_of parts)
game_result max_depth file_start before [] after is_game = let none : false ≡ true =
    is_game.begins in absurd (cc)
game_result max_depth file_start before (part ∷ parts) after is_game =
    last_result [] part parts is_game.result_last
