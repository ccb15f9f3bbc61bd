-- A path along the lines of a game, from element to element.
use Rattle.std.specs.Borrow.{Bor}
use Rattle.std.proofs.lemmas.List.{reverse-append, take-append-le}
use Rattle.std.specs.Prelude.{option_map, reverse}
use Rattle.pgn_game.proofs.Common.{◌≡◌, ◌≤◌, ◌<◌, ◌-◌, ℕ, List, [], ◌∷◌, ◌++◌, refl, sym, ap, ◌∙◌}
use Rattle.pgn_game.proofs.Common.{subst}
use Rattle.pgn_game.proofs.Common.{arith, length, map, take, drop, slice_index_or, take_all}
use Rattle.pgn_game.proofs.Common.{Item, item_of, MoveText, GlyphNumber, CommentText, VariationOpen}
use Rattle.pgn_game.proofs.Common.{VariationClose, Element, true}
use Rattle.pgn_game.specs.Public.LineGames.{LineGame}
use Rattle.pgn_game.specs.Private.LinePaths.{AreNested, Track, begun_at, begun_by, first_track}
use Rattle.pgn_game.specs.Private.LinePaths.{gone_along, own_front, tracks_by, variations_left}
use Rattle.pgn_game.specs.Private.Steps.{IsBack}
use Rattle.pgn_game.specs.declared.exports.lines.Fork.{Fork}
use Rattle.pgn_text.specs.declared.game.Element.TheVariants.{Move, Glyph, Comment, Open, Close}

-- more words stand after those of the lines around
pub tracks_grown : (before more : List (Bor (List ℕ))) (forks : List Fork)
    → AreNested (length before) forks → tracks_by (before ++ more) forks ≡ tracks_by before forks
tracks_grown before more [] nested = refl
tracks_grown before more (fork ∷ outer) (within, nested) =
    ap (λ (words : List (Bor (List ℕ))). record {
      before = map (λ word. word.now) words;
      last = option_map (λ word. word.now) fork.last;
    } ∷ tracks_by words outer) (take-append-le fork.length before more within)

pub nested_more : (most least : ℕ) (forks : List Fork) → least ≤ most → AreNested least forks
    → AreNested most forks
nested_more most least [] below nested = tt
nested_more most least (fork ∷ outer) below (within, nested) = (omega arith, nested)

-- a variation ends
pub back_to : (before after : List (Bor (List ℕ))) (forks outer : List Fork) (fork : Fork)
    (track : Track) → forks ≡ fork ∷ outer → after ≡ take fork.length before
    → IsBack track (tracks_by before forks) (record {
      before = map (λ word. word.now) after;
      last = option_map (λ word. word.now) fork.last;
    }) (tracks_by after outer)
back_to before after forks outer fork track is cut =
    subst (λ fs. IsBack track (tracks_by before fs) (record {
      before = map (λ word. word.now) after;
      last = option_map (λ word. word.now) fork.last;
    }) (tracks_by after outer)) (sym is) (
      ap (λ (words : List (Bor (List ℕ))). record {
        before = map (λ word. word.now) words;
        last = option_map (λ word. word.now) fork.last;
      }) cut,
      ap (λ words. tracks_by words outer) cut,
    )

pub last_first : (forks rest : List Fork) (fork : Fork) → forks ≡ rest ++ fork ∷ []
    → reverse forks ≡ fork ∷ reverse rest
last_first forks rest fork is = ap reverse is ∙ reverse-append rest (fork ∷ [])

-- the words of moves are their elements
pub moves_of : (words : List (Bor (List ℕ)))
    → map (λ (word : Bor (List ℕ)). MoveText word.now) words
    ≡ map (λ (word : List ℕ). MoveText word) (map (λ (word : Bor (List ℕ)). word.now) words)
moves_of [] = refl
moves_of (word ∷ words) = ap (λ items. MoveText word.now ∷ items) (moves_of words)

-- the first of the elements, and those after it
pub first_item : (elements : List Element) (d : Element) → 1 ≤ length elements
    → map item_of elements ≡ item_of (slice_index_or elements 0 d)
    ∷ map item_of (take (length elements - 1) (drop 1 elements))
first_item [] d least = absurd (omega arith)
first_item (element ∷ elements) d least =
    ap (λ items. item_of element ∷ map item_of items)
    (sym (take_all (length (element ∷ elements) - 1) elements (omega arith)))

-- but for the begin of a variation no element begins one
pub none_begun : (element : Element) (items : List Item) (track : Track) → (element ≡ Open → ⊥)
    → begun_by (item_of element) items track ≡ []
none_begun (Move word) items track other = refl
none_begun (Glyph number) items track other = refl
none_begun (Comment text) items track other = refl
none_begun Open items track other = absurd (other refl)
none_begun Close items track other = refl

-- the begin of one does
pub begun_here : (elements : List Element) (after : List Item) (element : Element) (track : Track)
    → element ≡ Open → map item_of elements ≡ item_of element ∷ after
    → begun_at (map item_of elements) track
    ≡ record { inside = true; before = track.before; own = own_front after 0 } ∷ []
begun_here elements after element track opens is =
    ap (λ items. begun_at items track) is
    ∙ ap (λ (e : Element). begun_by (item_of e) after track) opens

-- it comes first of those that are left
pub begun_first : (items : List Item) (track : Track) (outer : List Track)
    → (more : List LineGame) × (variations_left items track outer ≡ begun_at items track ++ more)
begun_first [] track outer = ([], refl)
begun_first (MoveText word ∷ items) track outer =
    (variations_left items (gone_along (MoveText word) track) outer, refl)
begun_first (GlyphNumber number ∷ items) track outer = (variations_left items track outer, refl)
begun_first (CommentText text ∷ items) track outer = (variations_left items track outer, refl)
begun_first (VariationOpen ∷ items) track outer =
    (variations_left items (gone_along VariationOpen track) (track ∷ outer), refl)
begun_first (VariationClose ∷ items) track [] = (variations_left items track [], refl)
begun_first (VariationClose ∷ items) track (next ∷ outer) =
    (variations_left items next outer, refl)

pub same_left : (items elements : List Item) (track : Track) (outer : List Track)
    → items ≡ elements → track ≡ first_track → outer ≡ []
    → variations_left items track outer ≡ variations_left elements first_track []
same_left items elements track outer same starts none =
    ap (λ own. variations_left own track outer) same
    ∙ ap (λ first. variations_left elements first outer) starts
    ∙ ap (λ around. variations_left elements first_track around) none

pub no_items : (elements : List Element) → length elements < 1 → map item_of elements ≡ []
no_items [] none = refl
no_items (element ∷ elements) none = absurd (omega arith)
