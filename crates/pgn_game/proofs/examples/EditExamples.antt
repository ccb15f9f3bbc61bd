-- What the definitions of edits say: the last edit of a name counts, a tag that is left out is not
-- there, others stay; and what they refuse: an edit of the start, a text that no string has, a game
-- with its tags as they were.
use Rattle.std.specs.Fmt.{digits}
use Rattle.std.specs.Prelude.{codes}
use Rattle.pgn_game.proofs.Common.{◌≡◌, ◌≢◌, ℕ, List, [], ◌∷◌, Option, Some, None, refl, sym, true}
use Rattle.pgn_game.proofs.Common.{false, ◌∙◌, ap, Item, MoveText, VariationOpen, VariationClose}
use Rattle.pgn_game.proofs.Common.{CommentText, GlyphNumber, State, arith}
use Rattle.pgn_game.specs.Public.LaterPlies.{IsLaterFrom, MayBeStart, later_plies}
use Rattle.pgn_game.proofs.Common.{GameText, tag_in, fen_tag, IsContents}
use Rattle.pgn_game.specs.Public.Edits.{AreEditable, EditedTag, Edits, IsEditable, IsEdited}
use Rattle.pgn_game.specs.Public.Edits.{IsEditedBy, IsTagged, all_edits, edited_tag, first_plies}
use Rattle.pgn_game.specs.Public.Edits.{up_to}
use Rattle.pgn_game.specs.Public.TagLines.{in_order}

abbrev source : List ℕ → EditedTag
source text = record { name = codes "Source"; contents = Some text }

abbrev none_of : List ℕ → EditedTag
none_of name = record { name = name; contents = None }

the_last_counts : (own : Option (List ℕ))
    → (edited_tag (source (codes "a") ∷ source (codes "b") ∷ []) (codes "Source") own
    ≡ Some (codes "b"))
    × (edited_tag (source (codes "a") ∷ none_of (codes "Source") ∷ []) (codes "Source") own ≡ None)
    × (edited_tag (none_of (codes "Source") ∷ source (codes "a") ∷ []) (codes "Source") own
    ≡ Some (codes "a"))
the_last_counts own = (refl, refl, refl)

others_stay : (own : Option (List ℕ))
    → (edited_tag (source (codes "a") ∷ none_of (codes "Site") ∷ []) (codes "Event") own ≡ own)
    × (edited_tag [] (codes "Event") own ≡ own)
others_stay own = (refl, refl)

no_edit_of_the_start : (contents : Option (List ℕ))
    → IsEditable (record { name = fen_tag; contents = contents }) → ⊥
no_edit_of_the_start contents may = may.start refl

no_edit_of_an_empty_name : (contents : Option (List ℕ))
    → IsEditable (record { name = []; contents = contents }) → ⊥
no_edit_of_an_empty_name contents may = may.some refl

no_edit_of_no_name : (contents : Option (List ℕ))
    → IsEditable (record { name = codes "Wh te"; contents = contents }) → ⊥
no_edit_of_no_name contents may = let no = may.name in cc

no_text_that_is_no_string : (text : List ℕ) → (IsContents text → ⊥) → IsEditable (source text) → ⊥
no_text_that_is_no_string text none may = none may.contents

no_tag_as_it_was : (edits : List EditedTag) (game other : GameText) (wanted : List ℕ)
    → tag_in wanted other.tags ≢ edited_tag edits wanted (tag_in wanted game.tags)
    → IsEditedBy edits game other → ⊥
no_tag_as_it_was edits game other wanted differs is = differs (is.tags wanted)

no_other_moves : (edits : List EditedTag) (game other : GameText)
    → other.elements ≢ game.elements → IsEditedBy edits game other → ⊥
no_other_moves edits game other differ is = differ is.elements

no_other_result : (edits : List EditedTag) (game other : GameText)
    → other.result ≢ game.result → IsEditedBy edits game other → ⊥
no_other_result edits game other differ is = differ is.result

-- without edits the game stays, and with edits that may be made it does not where they change it
unedited : (game other : GameText) → other ≢ game → IsEdited None game other → ⊥
unedited game other differ is = differ is

edited : (edits : Edits) (game : GameText) (wanted : List ℕ) → AreEditable (all_edits edits game)
    → edited_tag (all_edits edits game) wanted (tag_in wanted game.tags) ≢ tag_in wanted game.tags
    → IsTagged edits game game → ⊥
edited edits game wanted may differ is = differ (sym ((is.0 may).1.tags wanted))

-- ---- plies that are counted

-- plies are counted, and nothing else is asked for
abbrev counting : Edits
counting = record { tags = []; counts_plies = true; last_ply = None; order = [] }

abbrev e4_e5 : List Item
e4_e5 = MoveText (codes "e4") ∷ VariationOpen ∷ MoveText (codes "d4") ∷ VariationClose
    ∷ CommentText (codes "a") ∷ MoveText (codes "e5") ∷ []

-- of a game with two moves and one in a variation two plies are counted, whatever is set beside
two_plies : (game : GameText)
    → all_edits counting (record game { elements = e4_e5 })
    ≡ record { name = codes "PlyCount"; contents = Some (codes "2") } ∷ []
unfolding digits
two_plies game = refl

counted_last : (game : GameText) (own : Option (List ℕ))
    → (edited_tag (all_edits (record counting {
      tags = record { name = codes "PlyCount"; contents = Some (codes "7") } ∷ [];
    }) (record game { elements = [] })) (codes "PlyCount") own ≡ Some (codes "0"))
    × (all_edits (record counting {
      tags = none_of (codes "PlyCount") ∷ [];
      counts_plies = false;
    }) game ≡ none_of (codes "PlyCount") ∷ [])
unfolding digits
counted_last game own = (refl, refl)

-- a game without the tag is none whose plies are counted
no_uncounted : (game other : GameText) → tag_in (codes "PlyCount") other.tags ≡ None
    → AreEditable (all_edits counting game) → IsEdited (Some counting) game other → ⊥
no_uncounted game other none able is =
    let there = sym none ∙ (is.0 able).1.tags (codes "PlyCount") in cc

-- ---- the last ply

-- what stands after the last ply stays in front of the next move, and what stands in variations
-- is no ply
up_to_a_ply : (first_plies 0 0 e4_e5 ≡ [])
    × (first_plies 1 0 e4_e5 ≡ MoveText (codes "e4") ∷ VariationOpen ∷ MoveText (codes "d4")
    ∷ VariationClose ∷ CommentText (codes "a") ∷ [])
    × (first_plies 2 0 e4_e5 ≡ e4_e5) × (first_plies 9 0 e4_e5 ≡ e4_e5)
up_to_a_ply = (refl, refl, refl, refl)

-- the plies that are written are counted
counted_to_a_ply : (game : GameText)
    → all_edits counting (up_to (Some 1) (record game { elements = e4_e5 }))
    ≡ record { name = codes "PlyCount"; contents = Some (codes "1") } ∷ []
unfolding digits
counted_to_a_ply game = refl

-- a game with the moves that it had is none that ends after its first
no_whole_game : (game other : GameText) → game.elements ≡ e4_e5 → other.elements ≡ game.elements
    → AreEditable [] → IsEdited (Some (record counting {
      counts_plies = false;
      last_ply = Some 1;
    })) game other → ⊥
no_whole_game game other are same able is =
    let cut = sym (same ∙ are) ∙ (is.0 able).1.elements ∙ ap (first_plies 1 0) are in cc

-- ---- from a ply on

-- a move with all that belongs to it, and the next one
abbrev annotated : List Item
annotated = MoveText (codes "e4") ∷ GlyphNumber 1 ∷ CommentText (codes "a") ∷ VariationOpen
    ∷ MoveText (codes "d4") ∷ CommentText (codes "b") ∷ VariationClose ∷ CommentText (codes "d")
    ∷ MoveText (codes "e5") ∷ GlyphNumber 2 ∷ []

-- comments on the position stay, and what belongs to the move before it goes
from_a_ply : (later_plies 1 0 annotated ≡ CommentText (codes "a") ∷ CommentText (codes "d")
    ∷ MoveText (codes "e5") ∷ GlyphNumber 2 ∷ [])
    × (later_plies 2 0 annotated ≡ []) × (later_plies 9 0 annotated ≡ [])
from_a_ply = (refl, refl, refl)

-- a game that does not give its start is none that begins there
no_start_given : (P : State) (game other : GameText) → MayBeStart P
    → tag_in fen_tag other.tags ≡ None → IsLaterFrom P 1 game other → ⊥
no_start_given P game other may none from =
    let (good, begun) = from.0 (omega arith, may) in
    let (fen, is_fen, edited) = begun in
    let there = sym none ∙ edited.tags fen_tag in cc

-- at its own start a game stays as it is, and so does one whose moves are counted beyond FEN
whole_at_start : (P : State) (game other : GameText) → IsLaterFrom P 0 game other → other ≡ game
whole_at_start P game other from = from.1 (λ may. omega (arith, may.0))

whole_beyond_fen : (P : State) (game other : GameText) → P.fullmove_number ≡ 10000000
    → IsLaterFrom P 1 game other → other ≡ game
whole_beyond_fen P game other late from =
    from.1 (λ may. let few = may.1.number in omega (arith, few, late))

-- ---- tags that stand first

some_first : (in_order (codes "ECO" ∷ codes "Source" ∷ codes "Annotator" ∷ [])
    (codes "Annotator" ∷ codes "ECO" ∷ codes "WhiteElo" ∷ [])
    ≡ codes "ECO" ∷ codes "Annotator" ∷ codes "WhiteElo" ∷ [])
    × (in_order [] (codes "Annotator" ∷ codes "ECO" ∷ []) ≡ codes "Annotator" ∷ codes "ECO" ∷ [])
some_first = (refl, refl)
