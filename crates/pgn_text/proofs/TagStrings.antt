-- The contents of a tag that stands in a text are the contents of a string, and its name is made of
-- the bytes of names.
use Rattle.std.proofs.lemmas.Option.{same_Some}
use Rattle.std.specs.Prelude.{Some, bytes_eq, if◌then◌else◌, IsTrue}
use Rattle.pgn_text.proofs.Common.{◌≡◌, ℕ, Bool, true, false, List, [], ◌∷◌, ◌++◌, refl, subst}
use Rattle.pgn_text.proofs.Common.{list_all, is_name_byte, Part, ByteOrderMark, White, Brace, Line}
use Rattle.pgn_text.proofs.Common.{EscapeLine, Tag, Word, Star, Dot, Glyph, Marks, Open, Close}
use Rattle.pgn_text.proofs.Common.{AllStand, spelled_part, first_tag, IsContents}
use Rattle.pgn_text.proofs.TagLemmas.{bytes_eq-same}

-- the first tag of a name, among parts that stand in a text
pub first_string : (wanted contents : List ℕ) (f : Bool) (before : List ℕ) (parts : List Part)
    (after : List ℕ) → AllStand f before parts after → first_tag wanted parts ≡ Some contents
    → IsContents contents × IsTrue (list_all is_name_byte wanted)
first_string wanted contents f before [] after stand is = absurd (cc)
first_string wanted contents f before (ByteOrderMark ∷ back) after stand is =
    first_string wanted contents f (before ++ spelled_part ByteOrderMark) back after stand.1 is
first_string wanted contents f before (White b ∷ back) after stand is =
    first_string wanted contents f (before ++ spelled_part (White b)) back after stand.1 is
first_string wanted contents f before (Brace text ∷ back) after stand is =
    first_string wanted contents f (before ++ spelled_part (Brace text)) back after stand.1 is
first_string wanted contents f before (Line text ∷ back) after stand is =
    first_string wanted contents f (before ++ spelled_part (Line text)) back after stand.1 is
first_string wanted contents f before (EscapeLine text ∷ back) after stand is =
    first_string wanted contents f (before ++ spelled_part (EscapeLine text)) back after stand.1 is
first_string wanted contents f before (Tag first name second own third ∷ back) after stand is =
    by (bytes_eq name wanted) refl
    (first_string wanted contents f (before
    ++ spelled_part (Tag first name second own third)) back after stand.1) is
  where
    by : (same : Bool) → bytes_eq name wanted ≡ same
        → (first_tag wanted back ≡ Some contents
        → IsContents contents × IsTrue (list_all is_name_byte wanted))
        → (if same then Some own else first_tag wanted back) ≡ Some contents
        → IsContents contents × IsTrue (list_all is_name_byte wanted)
    by true same later here = (
      subst IsContents (same_Some own contents here) stand.0.4,
      rw (← (bytes_eq-same name wanted same)) stand.0.2,
    )
    by false same later here = later here
first_string wanted contents f before (Word text ∷ back) after stand is =
    first_string wanted contents f (before ++ spelled_part (Word text)) back after stand.1 is
first_string wanted contents f before (Star ∷ back) after stand is =
    first_string wanted contents f (before ++ spelled_part Star) back after stand.1 is
first_string wanted contents f before (Dot ∷ back) after stand is =
    first_string wanted contents f (before ++ spelled_part Dot) back after stand.1 is
first_string wanted contents f before (Glyph digits ∷ back) after stand is =
    first_string wanted contents f (before ++ spelled_part (Glyph digits)) back after stand.1 is
first_string wanted contents f before (Marks marks ∷ back) after stand is =
    first_string wanted contents f (before ++ spelled_part (Marks marks)) back after stand.1 is
first_string wanted contents f before (Open ∷ back) after stand is =
    first_string wanted contents f (before ++ spelled_part Open) back after stand.1 is
first_string wanted contents f before (Close ∷ back) after stand is =
    first_string wanted contents f (before ++ spelled_part Close) back after stand.1 is
