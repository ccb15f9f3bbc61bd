-- Some game is any game once its tags are edited, and it has an export in each style.
use Rattle.std.proofs.Common.{◌≡◌, ℕ, suc, List, [], ◌∷◌, Option, Some, None}
use Rattle.std.proofs.Common.{Bool, true, false, inl, inr, refl, sym, ap, subst, ◌∙◌, cond}
use Rattle.std.proofs.Common.{IfSome, IsTrue, bytes_eq, if◌then◌else◌}
use Rattle.std.specs.FinMap.{FinMap, entries, entries_sorted, from_entries, get, insert}
use Rattle.std.specs.FinMap.{get-entries, get-from_entries, get-insert, get-remove, remove}
use Rattle.std.specs.List.{list_all}
use Rattle.std.proofs.lemmas.Cmp.{nat_list_eq_equiv}
use Rattle.pgn_extract.proofs.Common.{GameText, IsGameText, Style, tag_in, fen_tag, by_itself}
use Rattle.pgn_text.proofs.Common.{is_eq, is_eq-slice_cmp, is_name_byte, nat_list_cmp_total}
use Rattle.pgn_text.proofs.Retagging.{good_retagged}
use Rattle.pgn_text.proofs.SortedTags.{name_cmp, names_of_sorted, find-tag_in}
use Rattle.pgn_text.specs.Public.GameTexts.{IsRetagged}
use Rattle.pgn_text.specs.Public.Strings.{IsContents}
use Rattle.pgn_game.proofs.EditedTags.{start_stays}
use Rattle.pgn_game.proofs.FirstPlies.{first_paired, sound_first}
pub use Rattle.pgn_game.proofs.OneEdited.{contents_or_not, edits_or_not, one_edited}
pub use Rattle.pgn_game.proofs.OneEdited.{one_edited_line}
use Rattle.pgn_game.proofs.SomeExport.{some_ordered}
use Rattle.pgn_game.specs.Public.Edits.{AreEditable, EditedTag, IsEditedBy}
use Rattle.pgn_game.specs.Public.Edits.{Edits, IsEditedExport, IsEditedLine, IsTagged, all_edits}
use Rattle.pgn_game.specs.Public.Edits.{edited_tag}
use Rattle.pgn_game.specs.Public.Edits.{up_to}
use Rattle.pgn_game.specs.Public.Exports.{IsLineExport, IsOrderedExport, lines_with}
use Rattle.pgn_game.specs.Public.Replays.{IsSoundGame}
use Rattle.pgn_game.specs.declared.replays.replayer.Lines.{Lines}
use Rattle.pgn_extract.proofs.GameExport.{own_line_export}

-- ---- a tag in place of another

-- tags with other contents under a name, or no tag of that name
abbrev changed : FinMap name_cmp (List ℕ) → List ℕ → Option (List ℕ) → FinMap name_cmp (List ℕ)
changed tags name None = remove tags name
changed tags name (Some text) = insert tags name text

same_name : (name wanted : List ℕ) → is_eq (name_cmp wanted name) ≡ bytes_eq name wanted
same_name name wanted = is_eq-slice_cmp wanted name ∙ nat_list_eq_equiv.symm wanted name

as_if : {A : Type 0} (test : Bool) (x y : A) → cond test x y ≡ (if test then x else y)
as_if true x y = refl
as_if false x y = refl

found : (tags : FinMap name_cmp (List ℕ)) (name : List ℕ) (contents : Option (List ℕ))
    (wanted : List ℕ) → get (changed tags name contents) wanted
    ≡ (if bytes_eq name wanted then contents else get tags wanted)
found tags name None wanted = get-remove nat_list_cmp_total tags name wanted
    ∙ ap (λ v. cond v None (get tags wanted)) (same_name name wanted)
    ∙ as_if (bytes_eq name wanted) None (get tags wanted)
found tags name (Some text) wanted = get-insert nat_list_cmp_total tags name text wanted
    ∙ ap (λ v. cond v (Some text) (get tags wanted)) (same_name name wanted)
    ∙ as_if (bytes_eq name wanted) (Some text) (get tags wanted)

pub some_retagged : (game : GameText) (name : List ℕ) (contents : Option (List ℕ)) → IsGameText game
    → IsTrue (list_all is_name_byte name) → IfSome contents IsContents
    → (other : GameText) × IsGameText other × IsRetagged name contents game other
some_retagged game name contents good named given =
    let tags = changed (from_entries {R = name_cmp} game.tags) name contents in
    let other = record game { tags = entries tags } in
    let is : IsRetagged name contents game other = record {
      place = refl;
      text = refl;
      tags = λ wanted. sym (find-tag_in wanted (entries tags)) ∙ sym (get-entries tags wanted)
          ∙ found (from_entries {R = name_cmp} game.tags) name contents wanted
          ∙ ap (λ own. if bytes_eq name wanted then contents else own)
          (get-from_entries nat_list_cmp_total game.tags wanted ∙ find-tag_in wanted game.tags);
      elements = refl;
      result = refl;
    } in (
      other,
      good_retagged game other name contents good named given is
          (names_of_sorted (entries tags) (entries_sorted tags)),
      is,
    )

-- ---- tags edited one after another

pub first_edited : (edit : EditedTag) (edits : List EditedTag) (game one two : GameText)
    → IsRetagged edit.name edit.contents game one → IsEditedBy edits one two
    → IsEditedBy (edit ∷ edits) game two
first_edited edit edits game one two first is = record {
  place = is.place ∙ first.place;
  text = is.text ∙ first.text;
  tags = λ wanted. is.tags wanted ∙ ap (λ own. edited_tag edits wanted own) (first.tags wanted);
  elements = is.elements ∙ first.elements;
  result = is.result ∙ first.result;
}

pub some_edited : (edits : List EditedTag) (game : GameText) → IsGameText game
    → AreEditable edits → (other : GameText) × IsGameText other × IsEditedBy edits game other
some_edited [] game good able = (
  game,
  good,
  record { place = refl; text = refl; tags = λ wanted. refl; elements = refl; result = refl },
)
some_edited (edit ∷ edits) game good able =
    let own = able 0 edit refl in
    let one = some_retagged game edit.name edit.contents good own.name own.contents in
    let two = some_edited edits one.0 one.1 (λ place. able (suc place)) in
    (two.0, two.1, first_edited edit edits game one.0 two.0 one.2 two.2)

-- ---- the export of an edited game

-- a sound game has one, with the tags that are asked for first
with_order : (order : List (List ℕ)) (style : Style) (game : GameText) → IsGameText game
    → IsSoundGame (lines_with style.variations) (tag_in fen_tag game.tags) game.elements
    → (text : List ℕ) × IsOrderedExport order style game text
with_order order style game good (replay, is) =
    some_ordered order style game replay good
    (lines_with style.variations, (λ kept. ap lines_with kept), is)

-- the game up to a ply is as sound as the whole
pub up_to_good : (last : Option ℕ) (game : GameText) → IsGameText game
    → IsGameText (up_to last game)
up_to_good None game good = good
up_to_good (Some plies) game good = record {
  ordered = good.ordered;
  strings = good.strings;
  names = good.names;
  paired = first_paired plies 0 game.elements good.paired;
  ends = good.ends;
}

up_to_sound : (last : Option ℕ) (game : GameText) (lines : Lines)
    → IsSoundGame lines (tag_in fen_tag game.tags) game.elements
    → IsSoundGame lines (tag_in fen_tag (up_to last game).tags) (up_to last game).elements
up_to_sound None game lines sound = sound
up_to_sound (Some plies) game lines sound =
    sound_first lines (tag_in fen_tag game.tags) plies game.elements sound

some_tagged : (edits : Edits) (style : Style) (game : GameText) → IsGameText game
    → IsSoundGame (lines_with style.variations) (tag_in fen_tag game.tags) game.elements
    → (own : GameText) × (text : List ℕ) × IsTagged edits game own
    × IsOrderedExport edits.order style own text
some_tagged edits style game good sound = elim (edits_or_not (all_edits edits game)) [
  | inr none ↦
      let own = with_order edits.order style game good sound in
      (game, own.0, ((λ able. absurd (none able)), (λ _. refl)), own.1)
  | inl able ↦
      let lines = lines_with style.variations in
      let (other, fine, is) = some_edited (all_edits edits game) game good able in
      let start =
      is.tags fen_tag ∙ start_stays (all_edits edits game) (tag_in fen_tag game.tags) able in
      let own =
      with_order edits.order style other fine (rw (start, is.elements) sound) in
      (other, own.0, ((λ _. (fine, is)), (λ none. absurd (none able))), own.1)
]

pub some_edited_export : (edits : Option Edits) (style : Style) (game : GameText)
    → IsGameText game
    → IsSoundGame (lines_with style.variations) (tag_in fen_tag game.tags) game.elements
    → (text : List ℕ) × IsEditedExport edits style game text
some_edited_export None style game good sound =
    let own = with_order [] style game good sound in (own.0, (game, refl, own.1))
some_edited_export (Some edits) style game good sound =
    let (own, text, is, exports) =
    some_tagged edits style (up_to edits.last_ply game) (up_to_good edits.last_ply game good)
    (up_to_sound edits.last_ply game (lines_with style.variations) sound) in
    (text, (own, is, exports))

-- the export of a game that is given is that of the game by itself
own_tagged : (edits : Edits) (game own : GameText) → IsTagged edits game own
    → IsTagged edits (by_itself game) (by_itself own)
own_tagged edits game own is = (
  (λ able.
      let (good, by) = is.0 able in (
        record {
          ordered = good.ordered;
          strings = good.strings;
          names = good.names;
          paired = good.paired;
          ends = good.ends;
        },
        record {
          place = refl;
          text = by.text;
          tags = by.tags;
          elements = by.elements;
          result = by.result;
        },
      )),
  (λ none. ap by_itself (is.1 none)),
)

up_to_itself : (last : Option ℕ) (game : GameText)
    → by_itself (up_to last game) ≡ up_to last (by_itself game)
up_to_itself None game = refl
up_to_itself (Some plies) game = refl

pub own_edited_line : (inside : Bool) (edits : Option Edits) (style : Style) (game : GameText)
    (text : List ℕ) → IsEditedLine inside edits style game text
    → IsEditedLine inside edits style (by_itself game) text
own_edited_line inside None style game text (own, is, exports) = (
  by_itself game,
  refl,
  own_line_export inside [] style game text
      (subst (λ g. IsLineExport inside [] style g text) is exports),
)
own_edited_line inside (Some edits) style game text (own, is, exports) = (
  by_itself own,
  subst (λ g. IsTagged edits g (by_itself own)) (up_to_itself edits.last_ply game)
      (own_tagged edits (up_to edits.last_ply game) own is),
  own_line_export inside edits.order style own text exports,
)

pub own_edited_export : (edits : Option Edits) (style : Style) (game : GameText)
    (text : List ℕ) → IsEditedExport edits style game text
    → IsEditedExport edits style (by_itself game) text
own_edited_export = own_edited_line false
