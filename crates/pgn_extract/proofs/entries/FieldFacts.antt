-- What is shown after a ply is what its columns show, after a blank each.
use Rattle.pgn_extract.proofs.Common.{◌≡◌, ◌++◌, ◌∷◌, ◌&&◌, ℕ, List, [], Bool, true, false, not}
use Rattle.pgn_extract.proofs.Common.{Option, Some, None, refl, sym, ap, ◌∙◌, subst, append_assoc}
use Rattle.pgn_extract.proofs.Common.{append-nil, length-append, arith}
use Rattle.pgn_extract.proofs.Common.{length, MatchOption, slice_get, State, Move, GameText, Aim}
use Rattle.pgn_extract.proofs.Common.{Replay, IsSan, Fields, Fault, ShowsFields}
use Rattle.pgn_extract.proofs.Common.{IsFenField, IsNextField, IsNextMove}
use Rattle.std.specs.Prelude.{codes}
use Rattle.pgn_extract.specs.Private.Lines.{is_bare}
use Rattle.pgn_game.specs.declared.exports.notation.Notation.TheVariants.{San}
use Rattle.pgn_extract.specs.Public.Rows.{IsMoveIn, IsAt}
use Rattle.pgn_extract.specs.Private.Lines.{ShowsFen, ShowsNext, ShowsValue}
use Rattle.pgn_extract.specs.declared.rows.column.PlyColumn.TheVariants.{OfPosition, Next}
use Rattle.pgn_extract.specs.declared.rows.column.PositionColumn.TheVariants.{Fen}
use Rattle.pgn_extract.proofs.FieldTexts.{IsTextAt}
use Rattle.pgn_extract.proofs.entries.PlainTexts.{san_some}

-- where nothing is asked for, nothing is shown
pub no_fen : (asked : Bool) (aim : Aim) (game : GameText) (before : List State) (P : State)
    → asked ≡ false → ShowsFen asked [] aim game before P
no_fen asked aim game before P off more replay own rest parts =
    subst (λ b. IsFenField b replay (length before) []) (sym off) refl

pub no_next : (asked : Bool) (aim : Aim) (game : GameText) (before : List State) (P : State)
    → asked ≡ false → ShowsNext asked [] aim game before P
no_next asked aim game before P off more replay own rest parts =
    subst (λ b. IsNextField b replay (length before) []) (sym off) refl

-- else the value of a column
pub fen_shown : (asked : Bool) (value : List ℕ) (aim : Aim) (game : GameText)
    (before : List State) (P : State) → asked ≡ true
    → ShowsValue (OfPosition Fen) value aim game before P
    → ShowsFen asked (32 ∷ value) aim game before P
fen_shown asked value aim game before P on shows more replay own rest parts =
    let (position, here, fen) = shows (more on) replay own rest parts in
    subst (λ b. IsFenField b replay (length before) (32 ∷ value)) (sym on)
    (position, value, here, fen, refl)

-- of the next move it is the dash where there is none
abbrev pub or_dash_there : List ℕ → List ℕ
or_dash_there [] = codes "-"
or_dash_there (b ∷ value) = b ∷ value

next_by : (move : Option Move) (replay : Replay) (ply : ℕ) (value : List ℕ)
    → MatchOption move (value ≡ []) (λ m. IsAt replay ply (λ P. IsSan P m value))
    → MatchOption move (or_dash_there value ≡ codes "-")
    (IsTextAt replay.positions ply (or_dash_there value))
next_by None replay ply value none = ap or_dash_there none
next_by (Some m) replay ply [] (P, here, san) = absurd (san_some P m [] san refl)
next_by (Some m) replay ply (b ∷ value) is = is

pub next_shown : (asked : Bool) (value : List ℕ) (aim : Aim) (game : GameText)
    (before : List State) (P : State) → asked ≡ true → ShowsValue Next value aim game before P
    → ShowsNext asked (32 ∷ or_dash_there value) aim game before P
next_shown asked value aim game before P on shows more replay own rest parts =
    let is : IsMoveIn San replay (length before) value = shows (more on) replay own rest parts in
    let text : IsNextMove replay.positions replay.played (length before) (or_dash_there value) =
    next_by (slice_get replay.played (length before)) replay (length before) value is in
    subst (λ b. IsNextField b replay (length before) (32 ∷ or_dash_there value)) (sym on)
    (or_dash_there value, text, refl)

-- whether there is one tells the text's length
pub some_text : (old new value : List ℕ) → new ≡ old ++ value → (length new ≡ length old → ⊥)
    → or_dash_there value ≡ value
some_text old new [] pushed other = absurd (other (ap length (pushed ∙ append-nil old)))
some_text old new (b ∷ value) pushed other = refl

pub no_text : (old new value : List ℕ) → new ≡ old ++ value → length new ≡ length old → value ≡ []
no_text old new [] pushed same = refl
no_text old new (b ∷ value) pushed same =
    let size = ap length pushed ∙ length-append old (b ∷ value) in
    absurd (omega (arith, size, same))

-- both after the ply
some_fen : (fen next : Bool) → fen ≡ true → not fen && not next ≡ false
some_fen true next on = refl
some_fen false next on = absurd (cc)

some_next : (fen next : Bool) → next ≡ true → not fen && not next ≡ false
some_next true next on = refl
some_next false true on = refl
some_next false false on = absurd (cc)

pub fields_shown : (fields : Fields) (fen next : List ℕ) (aim : Aim) (game : GameText)
    (before : List State) (P : State) → ShowsFen fields.fen fen aim game before P
    → ShowsNext fields.next next aim game before P
    → ShowsFields fields (fen ++ next) aim game before P
fields_shown fields fen next aim game before P of_fen of_next line replay own rest parts = (
  fen,
  next,
  of_fen (λ on. ap is_bare line ∙ some_fen fields.fen fields.next on) replay own rest parts,
  of_next (λ on. ap is_bare line ∙ some_next fields.fen fields.next on) replay own rest parts,
  refl,
)

-- a fault stands where something is added before it
pub fails_more : (So : Fault → Type 0) (old some mid new : List ℕ) → mid ≡ old ++ some
    → (own : Fault) → So own × (more : List ℕ) × (new ≡ mid ++ more)
    → So own × (more : List ℕ) × (new ≡ old ++ more)
fails_more So old some mid new added own (so, more, is) =
    (so, some ++ more, is ∙ ap (λ t. t ++ more) added ∙ append_assoc old some more)
