-- Conditions on the result: what spells one is read as it, and the other way round.
use Rattle.pgn_criteria.proofs.Common.{◌≡◌, ◌≢◌, ℕ, List, [], ap, sym, ◌∙◌, refl, inl, inr, codes}
use Rattle.pgn_criteria.proofs.Common.{list_all, IsResult, run_of, after_word, SpellsGame, Result}
use Rattle.pgn_criteria.proofs.SolidFacts.{is_solid, AreSolid, EndsSolid, solid_begins, solid_ends}
use Rattle.pgn_criteria.proofs.SolidFacts.{word_read, word_spelled}

result_solid : (result : List ℕ) → IsResult result → AreSolid result
result_solid result (inl white) = ap (list_all is_solid) white
result_solid result (inr (inl black)) = ap (list_all is_solid) black
result_solid result (inr (inr (inl draw))) = ap (list_all is_solid) draw
result_solid result (inr (inr (inr star))) = ap (list_all is_solid) star

result_some : (result : List ℕ) → IsResult result → result ≢ []
result_some result (inl white) none = let clash : codes "1-0" ≡ [] = sym white ∙ none in cc
result_some result (inr (inl black)) none = let clash : codes "0-1" ≡ [] = sym black ∙ none in cc
result_some result (inr (inr (inl draw))) none = let clash : codes "1/2-1/2" ≡ [] =
    sym draw ∙ none in cc
result_some result (inr (inr (inr star))) none = let clash : codes "*" ≡ [] = sym star ∙ none in cc

pub result_ends : (result : List ℕ) → IsResult result → EndsSolid result
result_ends result is = solid_ends result (result_some result is) (result_solid result is)

pub result_read : (text result : List ℕ) → SpellsGame text (Result result)
    → (run_of text ≡ codes "result") × (after_word text ≡ result)
result_read text result ((gap, is, g), good) =
    word_read text (codes "result") gap result is refl g
    (solid_begins result (result_some result good) (result_solid result good))

pub result_spelled : (text result : List ℕ) → run_of text ≡ codes "result"
    → result ≡ after_word text → IsResult result → SpellsGame text (Result result)
result_spelled text result run after good =
    let spelled =
    word_spelled text (codes "result") result run (sym after) (result_some result good) in
    (spelled, good)
