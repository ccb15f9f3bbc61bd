-- Worked rows of the place where a text stops agreeing with games, which the checker computes.
use Rattle.pgn_text.proofs.Common.{ℕ, ◌+◌, true, false, List, [], ◌∷◌, ◌++◌, codes, length, refl}
use Rattle.pgn_text.proofs.Common.{sym, ap, ◌∙◌, Walks, depth_limit, Longest, IsPartFront}
use Rattle.pgn_text.proofs.Common.{NoneFollows, Part, White, Word, Dot, AllStand, standing_of}
use Rattle.pgn_text.proofs.Common.{spelled, part_front, State, start, IsLongestViablePrefix}
use Rattle.pgn_text.proofs.Common.{BeforeName}
use Rattle.pgn_text.proofs.EachStops.{wrong_part}
use Rattle.pgn_text.proofs.GameFronts.{stops_in_part}
use Rattle.pgn_text.proofs.error.InPart.{stray_word, open_tag, open_brace}
use Rattle.pgn_text.proofs.error.InTag.{tag_far, tag_longest}
use Rattle.pgn_text.proofs.laws.PartLemmas.{stands-read}
use Rattle.pgn_text.proofs.error.Stuck.{word_longest}

row : (s : State) (done : List Part) (text : List ℕ) (n : ℕ) → Walks depth_limit start done s
    → AllStand true [] done text
    → NoneFollows depth_limit (standing_of true (spelled done)) s text
    → Longest (IsPartFront depth_limit (standing_of true (spelled done)) s) text n
    → IsLongestViablePrefix depth_limit true [] (spelled done ++ text) (length (spelled done) + n)
row s done text n w h nothing l =
    stops_in_part depth_limit true [] s done text n w h nothing l.within (λ _. l.here) (λ k _ low p.
    l.most k low p)

-- after `1. e4 `
front : List Part
front = Word (codes "1") ∷ Dot ∷ White 32 ∷ Word (codes "e4") ∷ White 32 ∷ []

after : State
after = record { in_tags = false; depth = 0; has_move = true }

walked : Walks depth_limit start front after
unfolding front after
walked = (
  refl,
  (
    _,
    refl,
    (refl, (_, refl, (refl, (_, refl, (refl, (_, refl, (refl, (_, refl, refl)))))))),
  ),
)

-- `1. e4 = *` stops at the equals sign
equals : IsLongestViablePrefix depth_limit true [] (codes "1. e4 = *") 6
unfolding front after
equals = row after front (codes "= *") 0 walked
    ((refl, refl, refl), (tt, (refl, ((refl, refl, refl), (refl, tt)))))
    (wrong_part depth_limit true (codes "1. e4 ") after (codes "= *") (Word (codes "="))
    (codes " *") refl (refl, refl, refl)
    (λ k. let next = k.goes_on refl in let e = next.1 in cc))
    (stray_word depth_limit (standing_of true (codes "1. e4 ")) after true 61 (codes " *") 0 refl
    refl (λ e. refl) (λ e. refl)
    (word_longest true (codes "= *")))

-- `1. e4 1/2 *` stops at the blank after the word
half : IsLongestViablePrefix depth_limit true [] (codes "1. e4 1/2 *") 9
unfolding front after
half = row after front (codes "1/2 *") 3 walked
    ((refl, refl, refl), (tt, (refl, ((refl, refl, refl), (refl, tt)))))
    (wrong_part depth_limit true (codes "1. e4 ") after (codes "1/2 *") (Word (codes "1/2"))
    (codes " *") refl (refl, refl, refl)
    (λ k. let next = k.goes_on refl in let e = next.1 in cc))
    (stray_word depth_limit (standing_of true (codes "1. e4 ")) after true 49 (codes "/2 *") 3 refl
    refl (λ e. refl) (λ e. refl)
    (word_longest true (codes "1/2 *")))

-- `[White "A "B""]` stops at the B
quotes : IsLongestViablePrefix depth_limit true [] (codes "[White \"A \"B\"\"]") 11
quotes = row start [] (codes "[White \"A \"B\"\"]") 11 refl tt
    (λ p rest e h _. let k = sym (stands-read (standing_of true []) p rest h)
    ∙ ap (part_front (standing_of true [])) (sym e) in cc)
    (open_tag depth_limit (standing_of true []) start (codes "White \"A \"B\"\"]")
    (tag_far BeforeName (codes "White \"A \"B\"\"]")) refl
    (tag_longest BeforeName (codes "White \"A \"B\"\"]")))

-- `1. e4 {oops` stops at its end
oops : IsLongestViablePrefix depth_limit true [] (codes "1. e4 {oops") 11
unfolding front after
oops = row after front (codes "{oops") 5 walked
    ((refl, refl, refl), (tt, (refl, ((refl, refl, refl), (refl, tt)))))
    (λ p rest e h _. let k = sym (stands-read (standing_of true (codes "1. e4 ")) p rest h)
    ∙ ap (part_front (standing_of true (codes "1. e4 "))) (sym e) in cc)
    (open_brace depth_limit (standing_of true (codes "1. e4 ")) after (codes "oops") refl)
