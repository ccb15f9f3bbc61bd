-- Once its tags are edited a game is one game, which has one export in each style at most.
use Rattle.std.specs.Prelude.{◌==◌, ◌↔◌, Option, Some, None, bytes_eq, IfSome, IsTrue}
use Rattle.pgn_game.proofs.Common.{◌≡◌, ◌⊎◌, ℕ, zero, suc, Bool, true, false, List, [], ◌∷◌, length}
use Rattle.pgn_game.proofs.Common.{inl, inr, refl, sym, subst, ◌∙◌, list_all, same_Some, GameText}
use Rattle.pgn_game.proofs.Common.{Style, fen_tag, IsContents}
use Rattle.pgn_text.proofs.Common.{is_name_byte}
use Rattle.pgn_text.proofs.ShownOnce.{same_tags}
use Rattle.pgn_text.proofs.TagLemmas.{bytes_eq-same}
use Rattle.pgn_text.proofs.Values.{is_contents-none, is_contents-some}
use Rattle.pgn_text.specs.Public.GameTexts.{IsGameText}
use Rattle.pgn_text.specs.Shared.StringTexts.{contents_front}
use Rattle.pgn_game.specs.Public.Edits.{AreEditable, EditedTag, Edits, IsEditable, IsEdited}
use Rattle.pgn_game.specs.Public.Edits.{IsEditedBy, IsEditedLine, IsTagged, all_edits, order_of}
use Rattle.pgn_game.specs.Public.Edits.{up_to}
use Rattle.pgn_game.specs.Public.Exports.{IsLineExport}
use Rattle.pgn_game.proofs.OneExport.{one_line_export}

pub one_edited : (edits : List EditedTag) (game one two : GameText) → IsGameText one
    → IsGameText two → IsEditedBy edits game one → IsEditedBy edits game two → one ≡ two
one_edited edits game one two good fine first second =
    let place = first.place ∙ sym second.place in
    let text = first.text ∙ sym second.text in
    let tags = same_tags one.tags two.tags good.ordered fine.ordered
    (λ wanted. first.tags wanted ∙ sym (second.tags wanted)) in
    let elements = first.elements ∙ sym second.elements in
    let result = first.result ∙ sym second.result in
    λ i. record {
      at = place i;
      text = text i;
      tags = tags i;
      elements = elements i;
      result = result i;
    }

-- ---- which edits may be made

pub contents_or_not : (text : List ℕ) → IsContents text ⊎ (IsContents text → ⊥)
contents_or_not text = by (contents_front false text) refl
  where
    either : (r : Bool) → IsTrue r ↔ IsContents text → IsContents text ⊎ (IsContents text → ⊥)
    either true is = inl (is.0 refl)
    either false is = inr (λ good. let no = is.1 good in cc)

    by : (read : Option (List ℕ × List ℕ)) → read ≡ contents_front false text
        → IsContents text ⊎ (IsContents text → ⊥)
    by None read = either false (is_contents-none text read)
    by (Some (front, rest)) read =
        either (length rest == 0) (is_contents-some text front rest (length rest == 0) read refl)

given_or_not : (contents : Option (List ℕ))
    → IfSome contents IsContents ⊎ (IfSome contents IsContents → ⊥)
given_or_not None = inl tt
given_or_not (Some text) = contents_or_not text

some_or_not : (name : List ℕ) → (name ≡ []) ⊎ (name ≡ [] → ⊥)
some_or_not [] = inl refl
some_or_not (b ∷ name) = inr (λ none. cc)

editable_or_not : (edit : EditedTag) → IsEditable edit ⊎ (IsEditable edit → ⊥)
editable_or_not edit = elim (some_or_not edit.name) [
  | inl none ↦ inr (λ able. able.some none)
  | inr some ↦
      by some (list_all is_name_byte edit.name) refl (bytes_eq edit.name fen_tag) refl
      (given_or_not edit.contents)
]
  where
    by : (edit.name ≡ [] → ⊥) → (named : Bool) → list_all is_name_byte edit.name ≡ named
        → (start : Bool) → bytes_eq edit.name fen_tag ≡ start
        → IfSome edit.contents IsContents ⊎ (IfSome edit.contents IsContents → ⊥)
        → IsEditable edit ⊎ (IsEditable edit → ⊥)
    by some false is start _ _ = inr (λ able. let no = able.name in cc)
    by some true is true start _ =
        inr (λ able. able.start (bytes_eq-same edit.name fen_tag start))
    by some true is false start (inr none) = inr (λ able. none able.contents)
    by some true is false start (inl given) = inl (record {
      some = some;
      name = is;
      start = λ same. let no = subst (λ n. bytes_eq n fen_tag ≡ false) same start in cc;
      contents = given;
    })

pub edits_or_not : (edits : List EditedTag) → AreEditable edits ⊎ (AreEditable edits → ⊥)
edits_or_not [] = inl (λ place edit none. cc)
edits_or_not (edit ∷ edits) = elim (editable_or_not edit) [
  | inr none ↦ inr (λ able. none (able 0 edit refl))
  | inl own ↦ elim (edits_or_not edits) [
    | inr none ↦ inr (λ able. none (λ place. able (suc place)))
    | inl able ↦ inl (both own able)
  ]
]
  where
    both : IsEditable edit → AreEditable edits → AreEditable (edit ∷ edits)
    both own able zero other here = subst IsEditable (same_Some edit other here) own
    both own able (suc place) other here = able place other here

-- ---- one export

one_tagged : (edits : Edits) (game one two : GameText) → IsTagged edits game one
    → IsTagged edits game two → one ≡ two
one_tagged edits game one two first second =
    elim (edits_or_not (all_edits edits game)) [
      | inr none ↦ first.1 none ∙ sym (second.1 none)
      | inl able ↦
          let (good, is) = first.0 able in
          let (fine, also) = second.0 able in
          one_edited (all_edits edits game) game one two good fine is also
    ]

pub one_game_edited : (edits : Option Edits) (game one two : GameText)
    → IsEdited edits game one → IsEdited edits game two → one ≡ two
one_game_edited None game one two first second = first ∙ sym second
one_game_edited (Some edits) game one two first second =
    one_tagged edits (up_to edits.last_ply game) one two first second

pub one_edited_line : (inside : Bool) (edits : Option Edits) (style : Style) (game : GameText)
    (x y : List ℕ) → IsEditedLine inside edits style game x → IsEditedLine inside edits style game y
    → x ≡ y
one_edited_line inside edits style game x y (one, is, first) (two, also, second) =
    one_line_export inside (order_of edits) style one x y first
    (subst (λ own. IsLineExport inside (order_of edits) style own y)
    (sym (one_game_edited edits game one two is also)) second)
