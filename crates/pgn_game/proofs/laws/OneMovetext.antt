-- The lines of a game have one list of tokens at most.
use Rattle.std.proofs.Common.{◌||◌}
use Rattle.pgn_game.proofs.Common.{◌≡◌, ℕ, Bool, true, false, ◌&&◌, List, [], ◌∷◌, ◌++◌, refl, sym}
use Rattle.pgn_game.proofs.Common.{ap, ◌∙◌, subst, codes, decimal, State, one_san, Line, LineEnd}
use Rattle.pgn_game.proofs.Common.{ThenMove, ThenGlyph, ThenComment, ThenVariation, is_pass}
use Rattle.pgn_game.proofs.Common.{after_turn, shows, shown_tokens, number_tokens, IsTurnText, kept}
use Rattle.pgn_game.proofs.Common.{AreTokens, Item, Style, LineMove, Played, Passed}
use Rattle.pgn_game.specs.Public.Exports.{AreLineTokens, MovetextHasOneList}
use Rattle.pgn_game.proofs.OneLine.{one_turn}
use Rattle.pgn_game.proofs.Spelling.{one_tree}

one_turn_text : (now : State) (turn : LineMove) (text other : List ℕ) → IsTurnText now turn text
    → IsTurnText now turn other → text ≡ other
one_turn_text now (Played m) text other a b = one_san now m text other a b
one_turn_text now Passed text other a b = a ∙ sym b

-- what is left out may be anything
same_kept : (shown : Bool) (own others : List (List ℕ)) → (shown ≡ true → own ≡ others)
    → kept shown (codes "(" ∷ own ++ codes ")" ∷ [])
    ≡ kept shown (codes "(" ∷ others ++ codes ")" ∷ [])
same_kept true own others same = ap (λ ts. codes "(" ∷ ts ++ codes ")" ∷ []) (same refl)
same_kept false own others same = refl

one_list : (line : Line) (style : Style) (inside : Bool) (before now : State) (apart : Bool)
    (tokens others : List (List ℕ)) → AreTokens style inside before now apart line tokens
    → AreTokens style inside before now apart line others → tokens ≡ others
one_list LineEnd style inside before now apart tokens others a b = a ∙ sym b
one_list (ThenMove word line) style inside before now apart tokens others (
  turn,
  text,
  more,
  says,
  spells,
  is,
  rest,
) (turn2, text2, more2, says2, spells2, is2, rest2) =
    let same : turn2 ≡ turn = one_turn (inside && is_pass word) now word turn2 turn says2 says in
    let texts : text ≡ text2 =
    one_turn_text now turn text text2 spells (subst (λ t. IsTurnText now t text2) same spells2)
    in
    let ends : more ≡ more2 =
    one_list line style inside now (after_turn now turn) false more more2 rest
    (subst (λ t. AreTokens style inside now (after_turn now t) false line more2) same rest2) in
    is ∙ ap (λ t. number_tokens now.turn now.fullmove_number apart ++ t ∷ more) texts
    ∙ ap (λ ts. number_tokens now.turn now.fullmove_number apart ++ text2 ∷ ts) ends ∙ sym is2
one_list (ThenGlyph number line) style inside before now apart tokens others (
  more,
  is,
  rest,
) (more2, is2, rest2) =
    is ∙ ap (λ ts. kept style.glyphs ((36 ∷ decimal number) ∷ [])
    ++ ts) (one_list line style inside before now apart more more2 rest rest2) ∙ sym is2
one_list (ThenComment text line) style inside before now apart tokens others (
  more,
  is,
  rest,
) (more2, is2, rest2) =
    is ∙ ap (λ ts. kept (shows style text) (shown_tokens style.commands text)
    ++ ts) (one_list line style inside before now (apart
    || shows style text) more more2 rest rest2) ∙ sym is2
one_list (ThenVariation inner line) style inside before now apart tokens others (
  own,
  more,
  is,
  within,
  rest,
) (own2, more2, is2, within2, rest2) =
    is ∙ ap (λ ts. ts
    ++ more) (same_kept style.variations own own2 (λ shown.
    one_list inner style true before before true own own2 (within shown) (within2 shown)))
    ∙ ap (λ ts. kept style.variations (codes "(" ∷ own2 ++ codes ")" ∷ [])
    ++ ts) (one_list line style inside before now (apart
    || style.variations) more more2 rest rest2) ∙ sym is2

pub one_line_movetext : (inside : Bool) (style : Style) (start : State) (items : List Item)
    (result : List ℕ) (tokens others : List (List ℕ))
    → AreLineTokens inside style start items result tokens
    → AreLineTokens inside style start items result others → tokens ≡ others
one_line_movetext inside style start items result tokens others (line, own, is, are, all) (
  line2,
  own2,
  is2,
  are2,
  all2,
) =
    let same : line2 ≡ line = one_tree line2 line (sym is2 ∙ is) in
    all ∙ ap (λ ts. ts ++ result
    ∷ []) (one_list line style inside start start true own own2 are
    (subst (λ l. AreTokens style inside start start true l own2) same are2)) ∙ sym all2

pub one_movetext : MovetextHasOneList
one_movetext = one_line_movetext false
