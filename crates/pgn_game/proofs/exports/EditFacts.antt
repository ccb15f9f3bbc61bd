-- Tags after edits, and the export of a game with them.
use Rattle.std.specs.Prelude.{bytes_eq, if◌then◌else◌, IfSome, option_map}
use Rattle.std.proofs.lemmas.Option.{slice_get-get_or, slice_get-map}
use Rattle.pgn_game.proofs.Common.{◌≡◌, ◌<◌, ℕ, List, [], ◌∷◌, ◌++◌, Option, Some}
use Rattle.pgn_game.proofs.Common.{Bool, true, false, codes, decimal, arith, nat_tests}
use Rattle.pgn_game.proofs.Common.{None, map, length, refl, sym, ap, ◌∙◌, subst, inl}
use Rattle.pgn_game.proofs.Common.{inr}
use Rattle.pgn_game.proofs.Common.{State, GameText, tag_in, fen_tag, IsStart, Style}
use Rattle.pgn_game.proofs.Common.{Bor, IsContents, get_or, take, ◌+◌, ◌≤◌, take_more, take_all}
use Rattle.pgn_game.proofs.EditedTags.{start_stays}
use Rattle.pgn_game.proofs.OneMore.{get_more}
use Rattle.pgn_game.proofs.exports.ExportFacts.{line_export_of}
use Rattle.pgn_text.specs.Public.GameTexts.{IsGameText, IsRetagged}
use Rattle.pgn_game.specs.Public.Edits.{AreEditable, EditedTag, Edits, IsEditable, IsEditedBy}
use Rattle.pgn_game.specs.Public.Edits.{all_edits, ply_count}
use Rattle.pgn_game.specs.Public.MainLines.{main_words}
use Rattle.pgn_text.specs.Public.Strings.{Single, is_sign}
use Rattle.pgn_game.proofs.PlainTokens.{AreDigits, decimal_digits}
use Rattle.pgn_game.specs.Public.Edits.{IsTagged}
use Rattle.pgn_game.specs.Public.Edits.{edit_of, edited_tag}
use Rattle.pgn_game.specs.Public.Exports.{IsLineExport, IsLineMovetext, IsMovetext}
use Rattle.pgn_game.specs.Public.Exports.{IsOrderedExport}
use Rattle.pgn_game.specs.Public.TagLines.{AreTagLines}
use Rattle.pgn_game.specs.declared.exports.edits.TagEdit.{TagEdit}

edits_push : (edits : List TagEdit) (edit : TagEdit)
    → map edit_of (edits ++ edit ∷ []) ≡ map edit_of edits ++ edit_of edit ∷ []
edits_push [] edit = refl
edits_push (first ∷ edits) edit = ap (λ es. edit_of first ∷ es) (edits_push edits edit)

able_more : (edits : List EditedTag) (edit : EditedTag) → IsEditable edit → AreEditable edits
    → AreEditable (edits ++ edit ∷ [])
able_more edits edit own are place named here = elim (get_more edits edit place named here) [
  | inl old ↦ are place named old
  | inr new ↦ subst IsEditable (sym new.1) own
]

pub edits_pushed : (edits more : List TagEdit) (edit : TagEdit) → more ≡ edits ++ edit ∷ []
    → map edit_of more ≡ map edit_of edits ++ edit_of edit ∷ []
edits_pushed edits more edit pushed = ap (map edit_of) pushed ∙ edits_push edits edit

pub edits_more : (edits more : List TagEdit) (edit : TagEdit) → more ≡ edits ++ edit ∷ []
    → IsEditable (edit_of edit) → AreEditable (map edit_of edits) → AreEditable (map edit_of more)
edits_more edits more edit pushed own are = subst AreEditable (sym (edits_pushed edits more edit
    pushed)) (able_more (map edit_of edits) (edit_of edit) own are)

-- ---- plies that are counted

-- digits are contents of a string
digits_contents : (digits : List ℕ) → AreDigits digits → IsContents digits
digits_contents [] are = ([], refl, refl)
digits_contents (b ∷ digits) are =
    let (signs, spelled, each) = digits_contents digits are.1 in
    let above = are.0.0 in
    let below = are.0.1 in
    let single : is_sign (Single b) ≡ true = grind (arith, nat_tests) in
    (Single b ∷ signs, ap (λ bytes. b ∷ bytes) spelled, rw single each)

pub plies_contents : (plies : ℕ) → IsContents (decimal plies)
plies_contents plies = digits_contents (decimal plies) (decimal_digits plies)

count_able : (plies : ℕ) → IsEditable (ply_count plies)
count_able plies = record {
  some = λ none. cc;
  name = refl;
  start = λ same. let differ = ap (λ name. bytes_eq name (codes "FEN")) same in cc;
  contents = plies_contents plies;
}

pub all_able : (edits : Edits) (game : GameText) → AreEditable edits.tags
    → AreEditable (all_edits edits game)
all_able edits game are = by edits.counts_plies
  where
    count : EditedTag
    count = ply_count (length (main_words game.elements 0))

    by : (counts : Bool) → AreEditable (if counts then edits.tags ++ count ∷ [] else edits.tags)
    by true = able_more edits.tags count (count_able (length (main_words game.elements 0))) are
    by false = are

pub counted : (edits : Edits) (game : GameText) → edits.counts_plies ≡ true → all_edits edits game
    ≡ edits.tags ++ ply_count (length (main_words game.elements 0)) ∷ []
counted edits game is = ap (λ (counts : Bool). if counts
    then edits.tags ++ ply_count (length (main_words game.elements 0)) ∷ [] else edits.tags) is

pub not_counted : (edits : Edits) (game : GameText) → edits.counts_plies ≡ false
    → all_edits edits game ≡ edits.tags
not_counted edits game is = ap (λ (counts : Bool). if counts
    then edits.tags ++ ply_count (length (main_words game.elements 0)) ∷ [] else edits.tags) is

-- the last edit of a name counts
last_counts : (edits : List EditedTag) (edit : EditedTag) (wanted : List ℕ)
    (own : Option (List ℕ)) → edited_tag (edits ++ edit ∷ []) wanted own
    ≡ (if bytes_eq edit.name wanted then edit.contents else edited_tag edits wanted own)
last_counts [] edit wanted own = refl
last_counts (first ∷ edits) edit wanted own = last_counts edits edit wanted
    (if bytes_eq first.name wanted then first.contents else own)

-- a game after no edit, and after one more
pub not_edited : (game : GameText) → IsEditedBy [] game game
not_edited game = record {
  place = refl;
  text = refl;
  tags = λ wanted. refl;
  elements = refl;
  result = refl;
}

pub edited_more : (edits more : List EditedTag) (edit : EditedTag) (game before after : GameText)
    → more ≡ edits ++ edit ∷ [] → IsEditedBy edits game before
    → IsRetagged edit.name edit.contents before after → IsEditedBy more game after
edited_more edits more edit game before after pushed is next = rw pushed record {
  place = next.place ∙ is.place;
  text = next.text ∙ is.text;
  tags = λ wanted. next.tags wanted
      ∙ ap (λ own. if bytes_eq edit.name wanted then edit.contents else own) (is.tags wanted)
      ∙ sym (last_counts edits edit wanted (tag_in wanted game.tags));
  elements = next.elements ∙ is.elements;
  result = next.result ∙ is.result;
}

-- the game starts where it did
pub edited_start : (edits : List EditedTag) (game head : GameText) → AreEditable edits
    → IsEditedBy edits (record game { elements = [] }) head
    → tag_in fen_tag head.tags ≡ tag_in fen_tag game.tags
edited_start edits game head able is =
    is.tags fen_tag ∙ start_stays edits (tag_in fen_tag game.tags) able

-- what is given of the contents of an edit is contents of a string
pub given_contents : (edit : EditedTag) (given : Option (Bor (List ℕ))) → IsEditable edit
    → option_map (λ t. t.now) given ≡ edit.contents → IfSome given (λ t. IsContents t.now)
given_contents edit None able is = tt
given_contents edit (Some own) able is = subst (λ c. IfSome c IsContents) (sym is) able.contents

-- the tags of the head that is edited, before the movetext of the game as it stands
pub line_export_with : (inside : Bool) (style : Style) (edits : Edits) (game head : GameText)
    (start : State) (lines movetext : List ℕ) → IsGameText game → IsGameText head
    → IsStart (tag_in fen_tag game.tags) start
    → AreEditable (all_edits edits game)
    → IsEditedBy (all_edits edits game) (record game { elements = [] }) head
    → tag_in fen_tag head.tags ≡ tag_in fen_tag game.tags
    → AreTagLines edits.order style head.tags head.result lines
    → IsLineMovetext inside style start game movetext
    → (own : GameText) × IsTagged edits game own
    × IsLineExport inside edits.order style own (lines ++ 10 ∷ (movetext ++ 10 ∷ []))
line_export_with inside style edits game head start lines movetext good fine is_start able is fen
    tags is_movetext = (
      record head { elements = game.elements },
      (
        λ _. (
          record {
            ordered = fine.ordered;
            strings = fine.strings;
            names = fine.names;
            paired = good.paired;
            ends = fine.ends;
          },
          record {
            place = is.place;
            text = is.text;
            tags = is.tags;
            elements = refl;
            result = is.result;
          },
        ),
        λ none. absurd (none able),
      ),
      line_export_of inside edits.order style (record head { elements = game.elements }) start
          lines movetext (rw fen is_start) tags (rw is.result is_movetext),
    )

pub export_with : (style : Style) (edits : Edits) (game head : GameText) (start : State)
    (lines movetext : List ℕ) → IsGameText game → IsGameText head
    → IsStart (tag_in fen_tag game.tags) start
    → AreEditable (all_edits edits game)
    → IsEditedBy (all_edits edits game) (record game { elements = [] }) head
    → tag_in fen_tag head.tags ≡ tag_in fen_tag game.tags
    → AreTagLines edits.order style head.tags head.result lines
    → IsMovetext style start game movetext
    → (own : GameText) × IsTagged edits game own
    × IsOrderedExport edits.order style own (lines ++ 10 ∷ (movetext ++ 10 ∷ []))
export_with = line_export_with false

-- the edit at a place may be made
pub editable_there : (items : List TagEdit) (place : ℕ) (d : TagEdit) → place < length items
    → AreEditable (map edit_of items) → IsEditable (edit_of (get_or items place d))
editable_there items place d within are =
    are place (edit_of (get_or items place d)) (slice_get-map edit_of items place
    ∙ ap (option_map edit_of) (slice_get-get_or items place d within))

-- the edits so far, with the next one
pub edits_step : (items : List TagEdit) (i : ℕ) (d : TagEdit) → i < length items
    → map edit_of (take (i + 1) items)
    ≡ map edit_of (take i items) ++ edit_of (get_or items i d) ∷ []
edits_step items i d within =
    edits_pushed (take i items) (take (i + 1) items) (get_or items i d) (take_more items i d within)

pub edits_end : (items : List TagEdit) (i : ℕ) → length items ≤ i → take i items ≡ items
edits_end items i past = take_all i items past
