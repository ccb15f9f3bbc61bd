-- A game that is named by a line of a file of openings.
use Rattle.std.specs.Prelude.{if◌then◌else◌, bytes_eq, codes, option_map, IfSome}
use Rattle.std.proofs.lemmas.Option.{slice_get-get_or, slice_get-map, same_Some}
use Rattle.pgn_game.proofs.Common.{◌≡◌, ℕ, ◌<◌, List, [], ◌∷◌, length, map, Option, Some, None, Bor}
use Rattle.pgn_game.proofs.Common.{refl, sym, ap, ◌∙◌, subst, get_or, slice_get, IsContents}
use Rattle.pgn_game.proofs.Common.{GameText}
use Rattle.pgn_game.proofs.Common.{length-map, ◌++◌, inl, inr}
use Rattle.pgn_game.proofs.OneMore.{get_more}
use Rattle.pgn_game.proofs.openings.FilingFacts.{named_push}
use Rattle.pgn_text.specs.Public.GameTexts.{IsRetagged, tag_in}
use Rattle.pgn_game.specs.Public.Openings.{NamedLine, HasContents, IsTaggedBy, named_of}
use Rattle.pgn_game.specs.Public.Openings.{unless_empty}
use Rattle.pgn_game.specs.Private.Filing.{HaveContents}
use Rattle.pgn_game.specs.declared.openings.OpeningLine.{OpeningLine}

-- what is given of contents is one of contents
pub given_contents : (text : List ℕ) (given : Option (Bor (List ℕ))) → IsContents text
    → option_map (λ t. t.now) given ≡ unless_empty text → IfSome given (λ t. IsContents t.now)
given_contents text None good is = tt
given_contents [] (Some own) good is = absurd (cc)
given_contents (byte ∷ more) (Some own) good is =
    subst IsContents (sym (same_Some own.now (byte ∷ more) is)) good

-- the line at a place
pub line_there : (items : List OpeningLine) (lines : List NamedLine) (place : ℕ)
    (line : OpeningLine) → map named_of items ≡ lines → place < length lines
    → line ≡ get_or items place line → slice_get lines place ≡ Some (named_of line)
line_there items lines place line view within here =
    let below : place < length items =
    subst (λ n. place < n) (ap length (sym view) ∙ length-map items named_of) within in
    ap (λ ls. slice_get ls place) (sym view) ∙ slice_get-map named_of items place
    ∙ ap (option_map named_of) (slice_get-get_or items place line below
    ∙ ap Some (sym here))

pub line_contents : (items : List OpeningLine) (lines : List NamedLine) (place : ℕ)
    (line : OpeningLine) → map named_of items ≡ lines → place < length lines
    → line ≡ get_or items place line → HaveContents (map named_of items)
    → HasContents (named_of line)
line_contents items lines place line view within here have =
    have place (named_of line)
    (line_there items (map named_of items) place line refl
    (subst (λ ls. place < length ls) (sym view) within) here)

-- of one more line too
pub contents_more : (lines more : List OpeningLine) (line : OpeningLine)
    → more ≡ lines ++ line ∷ [] → HasContents (named_of line)
    → HaveContents (map named_of lines) → HaveContents (map named_of more)
contents_more lines more line pushed own have place named here =
    elim (get_more (map named_of lines) (named_of line) place named
    (subst (λ ls. slice_get ls place ≡ Some named) (ap (map named_of) pushed
    ∙ named_push lines line) here)) [
      | inl old ↦ have place named old
      | inr new ↦ subst HasContents (sym new.1) own
    ]

-- three tags after one another
pub tagged_by : (line : NamedLine) (game one two three : GameText)
    (variation name code : Option (List ℕ)) → variation ≡ unless_empty line.variation
    → name ≡ unless_empty line.name → code ≡ unless_empty line.code
    → IsRetagged (codes "Variation") variation game one
    → IsRetagged (codes "Opening") name one two → IsRetagged (codes "ECO") code two three
    → IsTaggedBy (Some line) game three
tagged_by line game one two three variation name code is_variation is_name is_code first second
    third = record {
      place = third.place ∙ second.place ∙ first.place;
      text = third.text ∙ second.text ∙ first.text;
      tags = λ wanted. third.tags wanted
          ∙ ap (λ o. if bytes_eq (codes "ECO") wanted then o else tag_in wanted two.tags) is_code
          ∙ ap (λ o. if bytes_eq (codes "ECO") wanted then unless_empty line.code else o)
          (second.tags wanted
          ∙ ap (λ o. if bytes_eq (codes "Opening") wanted then o else tag_in wanted one.tags)
          is_name
          ∙ ap (λ o. if bytes_eq (codes "Opening") wanted then unless_empty line.name else o)
          (first.tags wanted
          ∙ ap (λ o. if bytes_eq (codes "Variation") wanted then o else tag_in wanted game.tags)
          is_variation));
      elements = third.elements ∙ second.elements ∙ first.elements;
      result = third.result ∙ second.result ∙ first.result;
    }
