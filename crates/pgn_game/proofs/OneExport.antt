-- In a style a game has one export at most.
use Rattle.std.specs.Prelude.{Option, Some, None, flat_map}
use Rattle.pgn_game.proofs.Common.{◌≡◌, ℕ, List, [], ◌∷◌, ◌++◌, sym, ap, ◌∙◌, subst, tag_in}
use Rattle.pgn_game.proofs.Common.{fen_tag, missing_text, escaped, IsTagText, tag_line, AreLinesOf}
use Rattle.pgn_game.proofs.Common.{written_names, IsLaid, GameText, Style, Bool, false}
use Rattle.pgn_game.specs.Public.Exports.{IsLineExport, IsOrderedExport}
use Rattle.pgn_game.specs.Public.Laws.{GameHasOneExport}
use Rattle.pgn_game.proofs.laws.LaidOnce.{one_text}
use Rattle.pgn_game.proofs.laws.OneMovetext.{one_line_movetext}
use Rattle.pgn_game.proofs.OneReplay.{same_value, one_start}

one_tag_text : (contents : Option (List ℕ)) (missing text other : List ℕ)
    → IsTagText contents missing text → IsTagText contents missing other → text ≡ other
one_tag_text None missing text other is is2 = is ∙ sym is2
one_tag_text (Some contents) missing text other (value, given, spells) (value2, given2, spells2) =
    spells ∙ ap (flat_map escaped) (same_value contents value value2 given given2) ∙ sym spells2

one_head : (tags : List (List ℕ × List ℕ)) (result : List ℕ) (names : List (List ℕ))
    (lines others : List ℕ)
    → AreLinesOf tags result names lines → AreLinesOf tags result names others → lines ≡ others
one_head tags result [] lines others is is2 = is ∙ sym is2
one_head tags result (name ∷ names) lines others (
  line,
  more,
  (text, is, line_is),
  lines_are,
  rest,
) (line2, more2, (text2, is2, line_is2), lines_are2, rest2) =
    let texts : text ≡ text2 =
    one_tag_text (tag_in name tags) (missing_text result name) text text2 is is2 in
    let same : line ≡ line2 = line_is ∙ ap (tag_line name) texts ∙ sym line_is2 in
    lines_are ∙ ap (λ xs. xs ++ more) same
    ∙ ap (λ xs. line2 ++ xs) (one_head tags result names more more2 rest rest2) ∙ sym lines_are2

pub one_line_export : (inside : Bool) (order : List (List ℕ)) (style : Style) (game : GameText)
    (text other : List ℕ) → IsLineExport inside order style game text
    → IsLineExport inside order style game other → text ≡ other
one_line_export inside order style game text other is is2 =
    let heads : is.head ≡ is2.head =
    one_head game.tags game.result (written_names order style game.tags) is.head is2.head is.tags
    is2.tags in
    let starts : is2.start ≡ is.start =
    one_start (tag_in fen_tag game.tags) is2.start is.start is2.is_start is.is_start in
    let tokens : is2.tokens ≡ is.tokens =
    one_line_movetext inside style is.start game.elements game.result is2.tokens is.tokens
    (rw (← starts) is2.are_tokens) is.are_tokens in
    let movetexts : is.movetext ≡ is2.movetext =
    one_text style.width is.tokens is.movetext is2.movetext is.laid
    (subst (λ ts. IsLaid style.width ts is2.movetext) tokens is2.laid) in
    is.spells ∙ ap (λ head. head ++ 10 ∷ (is.movetext ++ 10 ∷ [])) heads
    ∙ ap (λ movetext. is2.head ++ 10 ∷ (movetext ++ 10 ∷ [])) movetexts ∙ sym is2.spells

pub one_ordered : (order : List (List ℕ)) (style : Style) (game : GameText) (text other : List ℕ)
    → IsOrderedExport order style game text → IsOrderedExport order style game other → text ≡ other
one_ordered = one_line_export false

pub one_export : GameHasOneExport
one_export = one_ordered []
