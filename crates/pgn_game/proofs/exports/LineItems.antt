-- The lines of a game by its elements: those of each line, and the variations in their order.
use Rattle.pgn_game.proofs.Common.{◌≡◌, ℕ, ◌+◌, ◌-◌, ◌<◌, Bool, List, [], ◌∷◌, ◌++◌, refl, sym, ap}
use Rattle.pgn_game.proofs.Common.{◌∙◌, append_assoc, append-nil, arith, nat_tests, ◌==◌}
use Rattle.pgn_game.proofs.Common.{if◌then◌else◌, true, false, Some, None}
use Rattle.pgn_game.proofs.Common.{Item, MoveText, GlyphNumber, CommentText, VariationClose, Line}
use Rattle.pgn_game.proofs.Common.{LineEnd, ThenMove, ThenGlyph, ThenComment, ThenVariation}
use Rattle.pgn_game.proofs.Common.{spelled}
use Rattle.pgn_game.specs.Public.LineGames.{LineGame, own_items, variations_in}
use Rattle.pgn_game.specs.Private.LinePaths.{Track, first_track, own_front, variations_left}
use Rattle.pgn_game.specs.Private.LinePaths.{words_now}
use Rattle.pgn_game.specs.Private.Steps.{shown_if}

-- ---- the elements of one line

-- a line inside is passed over
skipped : (line : Line) (more : List Item) (depth : ℕ) → 0 < depth
    → own_front (spelled line ++ more) depth ≡ own_front more depth
skipped LineEnd more depth inside = refl
skipped (ThenMove word line) more depth inside =
    let deep : (depth == 0) ≡ false = grind (arith, nat_tests) in
    ap (λ b. shown_if b (MoveText word) (own_front (spelled line ++ more) depth)) deep
    ∙ skipped line more depth inside
skipped (ThenGlyph number line) more depth inside =
    let deep : (depth == 0) ≡ false = grind (arith, nat_tests) in
    ap (λ b. shown_if b (GlyphNumber number) (own_front (spelled line ++ more) depth)) deep
    ∙ skipped line more depth inside
skipped (ThenComment text line) more depth inside =
    let deep : (depth == 0) ≡ false = grind (arith, nat_tests) in
    ap (λ b. shown_if b (CommentText text) (own_front (spelled line ++ more) depth)) deep
    ∙ skipped line more depth inside
skipped (ThenVariation inner line) more depth inside =
    let back : depth + 1 - 1 ≡ depth = omega arith in
    let deep : (depth + 1 == 0) ≡ false = grind (arith, nat_tests) in
    ap (λ items. own_front items (depth + 1))
    (append_assoc (spelled inner) (VariationClose ∷ spelled line) more)
    ∙ skipped inner (VariationClose ∷ (spelled line ++ more)) (depth + 1) (omega arith)
    ∙ ap (λ (b : Bool). if b then [] else own_front (spelled line ++ more) (depth + 1 - 1)) deep
    ∙ ap (own_front (spelled line ++ more)) back ∙ skipped line more depth inside

own_first : (line : Line) (more : List Item)
    → own_front (spelled line ++ more) 0 ≡ own_items line ++ own_front more 0
own_first LineEnd more = refl
own_first (ThenMove word line) more = ap (λ items. MoveText word ∷ items) (own_first line more)
own_first (ThenGlyph number line) more =
    ap (λ items. GlyphNumber number ∷ items) (own_first line more)
own_first (ThenComment text line) more =
    ap (λ items. CommentText text ∷ items) (own_first line more)
own_first (ThenVariation inner line) more =
    ap (λ items. own_front items 1)
    (append_assoc (spelled inner) (VariationClose ∷ spelled line) more)
    ∙ skipped inner (VariationClose ∷ (spelled line ++ more)) 1 (omega arith) ∙ own_first line more

-- those of the main line
pub own_whole : (line : Line) → own_front (spelled line) 0 ≡ own_items line
own_whole line = ap (λ items. own_front items 0) (sym (append-nil (spelled line)))
    ∙ own_first line [] ∙ append-nil (own_items line)

-- ---- the variations

-- those of a line come first, and then those of what stands after it
left_line : (line : Line) (more : List Item) (track : Track) (outer : List Track)
    → (last : Track) × (variations_left (spelled line ++ more) track outer
    ≡ variations_in track.before (words_now track) line ++ variations_left more last outer)
left_line LineEnd more track outer = (track, refl)
left_line (ThenMove word line) more track outer =
    left_line line more (record { before = words_now track; last = Some word }) outer
left_line (ThenGlyph number line) more track outer = left_line line more track outer
left_line (ThenComment text line) more track outer = left_line line more track outer
left_line (ThenVariation inner line) more track outer =
    let before = track.before in
    let now = words_now track in
    let after = VariationClose ∷ (spelled line ++ more) in
    let parted = append_assoc (spelled inner) (VariationClose ∷ spelled line) more in
    let begun : Track = record { before = before; last = None } in
    let (end, inside) = left_line inner after begun (track ∷ outer) in
    let (last, later) = left_line line more track outer in
    let own : own_front ((spelled inner ++ VariationClose ∷ spelled line) ++ more) 0
    ≡ own_items inner =
    ap (λ items. own_front items 0) parted ∙ own_first inner after
    ∙ append-nil (own_items inner) in
    let first : LineGame = record { inside = true; before = before; own = own_items inner } in (
      last,
      ap (λ (items : List Item). record { inside = true; before = before; own = items }
          ∷ variations_left ((spelled inner ++ VariationClose ∷ spelled line) ++ more) begun
          (track ∷ outer)) own
          ∙ ap (λ lines. first ∷ lines)
          (ap (λ items. variations_left items begun (track ∷ outer)) parted ∙ inside
          ∙ ap (λ words. variations_in before words inner
          ++ variations_left (spelled line ++ more) track outer) (append-nil before)
          ∙ ap (λ lines. variations_in before before inner ++ lines) later
          ∙ sym (append_assoc (variations_in before before inner) (variations_in before now line)
          (variations_left more last outer))),
    )

-- all
pub left_whole : (line : Line)
    → variations_left (spelled line) first_track [] ≡ variations_in [] [] line
left_whole line =
    let (last, is) = left_line line [] first_track [] in
    ap (λ items. variations_left items first_track []) (sym (append-nil (spelled line)))
    ∙ is ∙ append-nil (variations_in [] [] line)
