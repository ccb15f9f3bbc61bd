-- The head of a game without a result, and the export of a line with its tags.
use Rattle.std.specs.Prelude.{Option, Some, None, not, filter, bytes_eq, if◌then◌else◌, codes}
use Rattle.std.proofs.lemmas.List.Kept.{IsStrictlySortedBy-filter}
use Rattle.pgn_game.proofs.Common.{◌≡◌, ℕ, Bool, true, false, List, [], ◌∷◌, ◌++◌, refl, sym, ap}
use Rattle.pgn_game.proofs.Common.{◌∙◌}
use Rattle.pgn_game.proofs.Common.{subst, State, GameText, tag_in, tag_names, fen_tag, IsStart}
use Rattle.pgn_game.proofs.Common.{Style, Item, IsStrictlySortedBy, slice_cmp, nat_cmp}
use Rattle.pgn_text.proofs.ShownOnce.{same_tags}
use Rattle.pgn_text.proofs.TagLemmas.{bytes_eq-same}
use Rattle.pgn_text.specs.Public.GameTexts.{IsGameText, IsRetagged}
use Rattle.pgn_game.specs.Public.Edits.{Edits, IsEdited, IsTagged, order_of, up_to}
use Rattle.pgn_game.specs.Public.Exports.{IsLineExport, IsLineMovetext}
use Rattle.pgn_game.specs.Public.LineGames.{unfinished}
use Rattle.pgn_game.specs.Public.TagLines.{AreTagLines}
use Rattle.pgn_game.specs.Private.Editing.{plies_up_to}
use Rattle.pgn_game.specs.Private.LinePaths.{IsRetaggedLine, last_ply_of}
use Rattle.pgn_game.proofs.exports.ExportFacts.{line_export_of}

-- ---- without the tags of a name

module _ (name : List ℕ) where
  names_left : (tags : List (List ℕ × List ℕ))
      → tag_names (filter (λ tag. not (bytes_eq name tag.0)) tags)
      ≡ filter (λ other. not (bytes_eq name other)) (tag_names tags)
  names_left [] = refl
  names_left (tag ∷ tags) = by (not (bytes_eq name tag.0)) (names_left tags)
    where
      by : (kept : Bool)
          → tag_names (filter (λ t. not (bytes_eq name t.0)) tags)
          ≡ filter (λ other. not (bytes_eq name other)) (tag_names tags)
          → tag_names (if kept then tag ∷ filter (λ t. not (bytes_eq name t.0)) tags
          else filter (λ t. not (bytes_eq name t.0)) tags)
          ≡ (if kept then tag.0 ∷ filter (λ other. not (bytes_eq name other)) (tag_names tags)
          else filter (λ other. not (bytes_eq name other)) (tag_names tags))
      by true later = ap (λ names. tag.0 ∷ names) later
      by false later = later

  pub sorted_left : (tags : List (List ℕ × List ℕ))
      → IsStrictlySortedBy (slice_cmp nat_cmp) (tag_names tags)
      → IsStrictlySortedBy (slice_cmp nat_cmp)
      (tag_names (filter (λ tag. not (bytes_eq name tag.0)) tags))
  sorted_left tags sorted =
      subst (IsStrictlySortedBy (slice_cmp nat_cmp)) (sym (names_left tags))
      (IsStrictlySortedBy-filter (slice_cmp nat_cmp) (λ other. not (bytes_eq name other))
      (tag_names tags) sorted)

  pub left_in : (wanted : List ℕ) (tags : List (List ℕ × List ℕ))
      → tag_in wanted (filter (λ tag. not (bytes_eq name tag.0)) tags)
      ≡ (if bytes_eq name wanted then None else tag_in wanted tags)
  left_in wanted [] = by (bytes_eq name wanted)
    where
      by : (same : Bool) → tag_in wanted [] ≡ (if same then None else tag_in wanted [])
      by true = refl
      by false = refl
  left_in wanted (tag ∷ tags) =
      by (bytes_eq name tag.0) refl (bytes_eq wanted tag.0) refl (bytes_eq name wanted) refl
      (left_in wanted tags)
    where
      by : (left : Bool) → bytes_eq name tag.0 ≡ left → (here : Bool) → bytes_eq wanted tag.0 ≡ here
          → (same : Bool) → bytes_eq name wanted ≡ same
          → tag_in wanted (filter (λ t. not (bytes_eq name t.0)) tags)
          ≡ (if same then None else tag_in wanted tags)
          → tag_in wanted (if not left then tag ∷ filter (λ t. not (bytes_eq name t.0)) tags
          else filter (λ t. not (bytes_eq name t.0)) tags)
          ≡ (if same then None else (if here then Some tag.1 else tag_in wanted tags))
      by true out here is true also later = later
      by true out true is false also later =
          let one = bytes_eq-same name tag.0 out in
          let two = bytes_eq-same wanted tag.0 is in
          let no = subst (λ n. bytes_eq name n ≡ true) (sym two) out in
          absurd (cc)
      by true out false is false also later = later
      by false out true is true also later =
          let two = bytes_eq-same wanted tag.0 is in
          let no = subst (λ n. bytes_eq name n ≡ false) (sym two) out in
          absurd (cc)
      by false out true is false also later =
          ap (λ (b : Bool). if b then Some tag.1
          else tag_in wanted (filter (λ t. not (bytes_eq name t.0)) tags)) is
      by false out false is same also later =
          ap (λ (b : Bool). if b then Some tag.1
          else tag_in wanted (filter (λ t. not (bytes_eq name t.0)) tags)) is ∙ later

-- ---- a game without its result

pub unfinished_is : (game retagged other : GameText) → IsGameText game → IsGameText other
    → IsRetagged (codes "Result") None (record game { elements = [] }) retagged
    → other ≡ record retagged { result = codes "*" }
    → other ≡ record (unfinished game) { elements = [] }
unfinished_is game retagged other good fine is ends =
    let tags =
    same_tags retagged.tags (unfinished game).tags
    (subst (λ (g : GameText). IsStrictlySortedBy (slice_cmp nat_cmp) (tag_names g.tags)) ends
    fine.ordered)
    (sorted_left (codes "Result") game.tags good.ordered)
    (λ wanted. is.tags wanted ∙ sym (left_in (codes "Result") wanted game.tags)) in
    ends ∙ λ i. record {
      at = is.place i;
      text = is.text i;
      tags = tags i;
      elements = is.elements i;
      result = codes "*";
    }

-- it starts where the game does
pub unfinished_start : (game : GameText)
    → tag_in fen_tag (unfinished game).tags ≡ tag_in fen_tag game.tags
unfinished_start game = left_in (codes "Result") fen_tag game.tags

-- ---- the export of a line

-- without edits
pub plain_line : (inside : Bool) (edits : Option Edits) (style : Style) (line : GameText)
    (start : State) (lines movetext : List ℕ) → edits ≡ None
    → IsStart (tag_in fen_tag line.tags) start
    → AreTagLines [] style line.tags line.result lines
    → IsLineMovetext inside style start line movetext
    → IsRetaggedLine edits line line
    × IsLineExport inside (order_of edits) style line (lines ++ 10 ∷ (movetext ++ 10 ∷ []))
plain_line inside edits style line start lines movetext none is_start tags is_movetext =
    subst (λ all. IsRetaggedLine all line line
    × IsLineExport inside (order_of all) style line (lines ++ 10 ∷ (movetext ++ 10 ∷ [])))
    (sym none) (
      refl,
      line_export_of inside [] style line start lines movetext is_start tags is_movetext,
    )

-- the line up to its last ply
pub line_edited : (edits : Option Edits) (game line own : GameText) (items left : List Item)
    → left ≡ plies_up_to (last_ply_of edits) items → line ≡ record game { elements = left }
    → IsRetaggedLine edits line own → IsEdited edits (record game { elements = items }) own
line_edited None game line own items left cut is same =
    same ∙ is ∙ ap (λ some. record game { elements = some }) cut
line_edited (Some edits) game line own items left cut is tagged = by edits.last_ply refl
  where
    by : (last : Option ℕ) → edits.last_ply ≡ last
        → IsTagged edits (up_to edits.last_ply (record game { elements = items })) own
    by None none =
        let same : line ≡ up_to edits.last_ply (record game { elements = items }) =
        is ∙ ap (λ some. record game { elements = some }) cut
        ∙ ap (λ ply. record game { elements = plies_up_to ply items }) none
        ∙ ap (λ ply. up_to ply (record game { elements = items })) (sym none) in
        subst (λ g. IsTagged edits g own) same tagged
    by (Some plies) some =
        let same : line ≡ up_to edits.last_ply (record game { elements = items }) =
        is ∙ ap (λ few. record game { elements = few }) cut
        ∙ ap (λ ply. record game { elements = plies_up_to ply items }) some
        ∙ ap (λ ply. up_to ply (record game { elements = items })) (sym some) in
        subst (λ g. IsTagged edits g own) same tagged
