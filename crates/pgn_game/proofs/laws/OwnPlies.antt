-- A ply that a move leads to is one line's own.
use Rattle.std.specs.Prelude.{IsPermutation}
use Rattle.std.proofs.Math.Seq.{drop-append_seam}
use Rattle.std.proofs.lemmas.List.Sorted.{IsPermutation-append}
use Rattle.std.proofs.lemmas.List.Sorted.{IsPermutation-cons, IsPermutation-refl}
use Rattle.std.proofs.lemmas.List.Sorted.{IsPermutation-trans}
use Rattle.pgn_game.proofs.Common.{◌≡◌, ℕ, ◌+◌, ◌-◌, List, [], ◌∷◌, ◌++◌, refl, sym, ap, ◌∙◌}
use Rattle.pgn_game.proofs.Common.{subst, true, append_assoc, drop, length, map, main_words, arith}
use Rattle.pgn_game.proofs.Common.{Item, MoveText, GlyphNumber, CommentText, VariationOpen}
use Rattle.pgn_game.proofs.Common.{VariationClose, Line, LineEnd, ThenMove, ThenGlyph, ThenComment}
use Rattle.pgn_game.proofs.Common.{ThenVariation, spelled, own_words}
use Rattle.pgn_game.specs.Public.Laws.{EachPlyIsOfOneLine, moves_in, own_moves, own_moves_of}
use Rattle.pgn_game.specs.Public.LineGames.{LineGame, own_items, variations_in}
use Rattle.pgn_game.proofs.SearchedFacts.{own_main}
use Rattle.pgn_game.proofs.laws.LinesOnce.{turned}

moves_joined : (first second : List Item)
    → moves_in (first ++ second) ≡ moves_in first ++ moves_in second
moves_joined [] second = refl
moves_joined (MoveText word ∷ first) second =
    ap (λ words. word ∷ words) (moves_joined first second)
moves_joined (GlyphNumber number ∷ first) second = moves_joined first second
moves_joined (CommentText text ∷ first) second = moves_joined first second
moves_joined (VariationOpen ∷ first) second = moves_joined first second
moves_joined (VariationClose ∷ first) second = moves_joined first second

own_joined : (first second : List LineGame)
    → own_moves_of (first ++ second) ≡ own_moves_of first ++ own_moves_of second
own_joined [] second = refl
own_joined (line ∷ first) second = ap (λ words. own_moves line ++ words) (own_joined first second)
    ∙ sym (append_assoc (own_moves line) (own_moves_of first) (own_moves_of second))

-- the moves in front of a line
front_words : (before : List (List ℕ)) (items : List Item)
    → main_words (map (λ word. MoveText word) before ++ items) 0 ≡ before ++ main_words items 0
front_words [] items = refl
front_words (word ∷ before) items = ap (λ words. word ∷ words) (front_words before items)

-- those of a variation that lead to its own plies are its own
own_of_variation : (before : List (List ℕ)) (inner : Line)
    → own_moves (record { inside = true; before = before; own = own_items inner })
    ≡ own_words inner
own_of_variation before inner =
    let same : length before + 1 - 1 ≡ length before = omega arith in
    ap (λ n. drop n (main_words (map (λ word. MoveText word) before ++ own_items inner) 0)) same
    ∙ ap (drop (length before)) (front_words before (own_items inner))
    ∙ drop-append_seam before (main_words (own_items inner) 0) ∙ own_main inner

each_of_one : (line : Line) (before now : List (List ℕ))
    → IsPermutation (moves_in (spelled line))
    (own_words line ++ own_moves_of (variations_in before now line))
each_of_one LineEnd before now = IsPermutation-refl []
each_of_one (ThenMove word rest) before now =
    IsPermutation-cons word (moves_in (spelled rest))
    (own_words rest ++ own_moves_of (variations_in now (now ++ word ∷ []) rest))
    (each_of_one rest now (now ++ word ∷ []))
each_of_one (ThenGlyph number rest) before now = each_of_one rest before now
each_of_one (ThenComment text rest) before now = each_of_one rest before now
each_of_one (ThenVariation inner rest) before now =
    let within = variations_in before before inner in
    let later = variations_in before now rest in
    let own = own_words inner in
    let others = own_words rest in
    let first : LineGame =
    record { inside = true; before = before; own = own_items inner } in
    subst (λ words. IsPermutation words (others ++ (own_moves first
    ++ own_moves_of (within ++ later))))
    (sym (moves_joined (spelled inner) (VariationClose ∷ spelled rest)))
    (subst (λ words. IsPermutation (moves_in (spelled inner) ++ moves_in (spelled rest))
    (others ++ (words ++ own_moves_of (within ++ later)))) (sym (own_of_variation before inner))
    (subst (λ words. IsPermutation (moves_in (spelled inner) ++ moves_in (spelled rest))
    (others ++ (own ++ words))) (sym (own_joined within later))
    (IsPermutation-trans (moves_in (spelled inner) ++ moves_in (spelled rest))
    ((own ++ own_moves_of within) ++ (others ++ own_moves_of later))
    (others ++ (own ++ (own_moves_of within ++ own_moves_of later)))
    (IsPermutation-append (moves_in (spelled inner)) (own ++ own_moves_of within)
    (moves_in (spelled rest)) (others ++ own_moves_of later)
    (each_of_one inner before before) (each_of_one rest before now))
    (turned own (own_moves_of within) others (own_moves_of later)))))

pub each_ply : EachPlyIsOfOneLine
each_ply line =
    subst (λ words. IsPermutation (moves_in (spelled line))
    (words ++ own_moves_of (variations_in [] [] line))) (sym (own_main line))
    (each_of_one line [] [])
