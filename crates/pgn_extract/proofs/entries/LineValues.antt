-- What rows show of a main line that is kept, and which lines show it.
use Rattle.std.specs.Prelude.{None, zero, suc, replicate, decimal, not}
use Rattle.std.proofs.lemmas.Bool.{and_parts, false≢true, or_parts}
use Rattle.std.proofs.lemmas.List.{length-replicate}
use Rattle.pgn_extract.proofs.Common.{◌≡◌, ◌+◌, ◌<◌, ℕ, Bool, true, false, List, [], ◌∷◌, ◌++◌}
use Rattle.pgn_extract.proofs.Common.{length, refl, sym, ap, ◌∙◌, subst, arith, get_or}
use Rattle.pgn_extract.proofs.Common.{length-append, IsTrue}
use Rattle.pgn_extract.proofs.Common.{MatchOption, slice_get, same_Some, State, Move, Some}
use Rattle.pgn_extract.proofs.Common.{Replay, Heading}
use Rattle.pgn_game.specs.Public.GameLines.{AreMoveTexts, IsMoveText}
use Rattle.pgn_game.specs.declared.exports.notation.Notation.{Notation}
use Rattle.pgn_extract.specs.Private.KeptLines.{AreReported}
use Rattle.pgn_extract.specs.Private.Lines.{IsEnoughFor, keeps_line, is_bare, made_line}
use Rattle.pgn_extract.specs.Private.RowTexts.{IsPlainValue, EachColumn, need_line, needs_line}
use Rattle.pgn_extract.specs.Private.RowTexts.{IsShownWith, part_needs_line}
use Rattle.pgn_extract.specs.Public.Rows.{IsMoveIn, IsLastCell, IsLineCell}
use Rattle.pgn_extract.specs.declared.entries.line_maker.LineMaker.{LineMaker}
use Rattle.pgn_extract.specs.declared.entries.line_maker.LineMaker.TheVariants as maker
use Rattle.pgn_extract.specs.declared.entries.row_maker.PartColumn.{PartColumn}
use Rattle.pgn_extract.specs.declared.entries.row_maker.PartColumn.TheVariants as kind
use Rattle.pgn_extract.specs.declared.entries.row_maker.RowPart.{RowPart}
use Rattle.pgn_extract.specs.declared.rows.column.LineColumn.{LineColumn}
use Rattle.pgn_extract.specs.declared.rows.column.LineColumn.TheVariants.{Plies, Last, Moves}
use Rattle.pgn_extract.specs.declared.rows.column.PlyColumn.{PlyColumn}
use Rattle.pgn_extract.proofs.entries.PlainTexts.{plain_append}

-- Which lines show the columns of a maker.

-- one of the columns
pub column_shown : (So : PlyColumn → Type 0) (parts : List RowPart) (i : ℕ) (part : RowPart)
    → EachColumn So parts → i < length parts → part ≡ get_or parts i part
    → IsShownWith So part.column
column_shown So [] i part each within is = absurd (omega (arith, within))
column_shown So (first ∷ parts) zero part each within is =
    subst (λ (p : RowPart). IsShownWith So p.column) (sym is) each.0
column_shown So (first ∷ parts) (suc i) part each within is =
    column_shown So parts i part each.1 (omega (arith, within)) is

each_shown : (column : PartColumn) → IsShownWith (λ own. Unit {0}) column
each_shown (kind.OfPly own) = tt
each_shown (kind.OfAnnotations own) = tt

all_columns : (parts : List RowPart) → EachColumn (λ column. Unit {0}) parts
all_columns [] = tt
all_columns (part ∷ parts) = (each_shown part.column, all_columns parts)

-- a line that is kept shows all
pub enough_kept : (lines : LineMaker) → IsEnoughFor (λ column. Unit {0}) lines
enough_kept (maker.Fields fields own) = (λ is. tt, λ is. tt)
enough_kept (maker.Rows rows) = all_columns rows.parts.items

not_needed : (column : PartColumn) → part_needs_line column ≡ false
    → IsShownWith (λ own. needs_line own ≡ false) column
not_needed (kind.OfPly own) none = none
not_needed (kind.OfAnnotations own) none = tt

no_columns : (parts : List RowPart) → need_line parts ≡ false
    → EachColumn (λ column. needs_line column ≡ false) parts
no_columns [] none = tt
no_columns (part ∷ parts) none =
    let both : (part_needs_line part.column ≡ false) × (need_line parts ≡ false) =
    or_parts _ _ none in
    (not_needed part.column both.0, no_columns parts both.1)

-- one that is played shows those for which none is kept
pub enough_played : (lines : LineMaker) → keeps_line lines ≡ false
    → IsEnoughFor (λ column. needs_line column ≡ false) lines
enough_played (maker.Fields fields own) none = (λ is. refl, λ is. refl)
enough_played (maker.Rows rows) none = no_columns rows.parts.items none

-- one of which nothing but plies is known is enough where no more is shown
pub enough_told : (Shows : PlyColumn → Type 0) (lines : LineMaker)
    → is_bare (made_line lines) ≡ true → IsEnoughFor Shows lines
enough_told Shows (maker.Fields fields own) bare =
    let both : (not fields.fen ≡ true) × (not fields.next ≡ true) = and_parts _ _ bare in (
      λ is. absurd (not_both fields.fen is both.0),
      λ is. absurd (not_both fields.next is both.1),
    )
  where
    not_both : (b : Bool) → b ≡ true → not b ≡ true → ⊥
    not_both true is off = false≢true off
    not_both false is off = false≢true is
enough_told Shows (maker.Rows rows) bare = absurd (false≢true bare)

-- Without criteria each position is met.

all_true : (n k : ℕ) (r : Bool) → slice_get (replicate n true ++ true ∷ []) k ≡ Some r → IsTrue r
all_true zero zero r is = sym (same_Some true r is)
all_true zero (suc k) r is = absurd (cc)
all_true (suc n) zero r is = sym (same_Some true r is)
all_true (suc n) (suc k) r is = all_true n k r is

pub all_reported : (replay : Replay) (plies : ℕ) (met : List Bool) (heading : Heading)
    → length replay.positions ≡ plies + 1 → met ≡ replicate plies true ++ true ∷ []
    → AreReported None heading replay met
all_reported replay plies met heading size is = record {
  size = ap length is ∙ length-append (replicate plies true) (true ∷ [])
      ∙ ap (λ n. n + 1) (length-replicate plies true) ∙ sym size;
  reports = λ n r here.
      (λ t. tt, λ t. all_true plies n r (ap (λ xs. slice_get xs n) (sym is) ∙ here));
}

-- Texts of moves.

-- the move before a ply led to it
pub led_to : (notation : Notation) (replay : Replay) (before ply : ℕ) (value : List ℕ)
    → ply ≡ before + 1 → IsMoveIn notation replay before value
    → IsLastCell notation replay ply value
led_to notation replay before zero value is of = absurd (omega (arith, is))
led_to notation replay before (suc n) value is of =
    let same : before ≡ n = omega (arith, is) in
    subst (λ k. IsMoveIn notation replay k value) same of

-- Replays with the same positions and moves show the same.

move_alike : (notation : Notation) (kept other : Replay) → kept.positions ≡ other.positions
    → kept.played ≡ other.played → (ply : ℕ) (value : List ℕ) → IsMoveIn notation kept ply value
    → IsMoveIn notation other ply value
move_alike notation kept other positions played ply value is =
    subst (λ ms. MatchOption (slice_get ms ply) (value ≡ [])
    (λ m. (P : State) × (slice_get other.positions ply ≡ Some P) × IsMoveText notation P m value))
    played
    (subst (λ ps. MatchOption (slice_get kept.played ply) (value ≡ [])
    (λ m. (P : State) × (slice_get ps ply ≡ Some P) × IsMoveText notation P m value)) positions is)

last_alike : (notation : Notation) (kept other : Replay) → kept.positions ≡ other.positions
    → kept.played ≡ other.played → (ply : ℕ) (value : List ℕ)
    → IsLastCell notation kept ply value → IsLastCell notation other ply value
last_alike notation kept other positions played zero value is = is
last_alike notation kept other positions played (suc before) value is =
    move_alike notation kept other positions played before value is

pub line_alike : (own : LineColumn) (kept other : Replay) → kept.positions ≡ other.positions
    → kept.played ≡ other.played → (ply : ℕ) (value : List ℕ) → IsLineCell own kept ply value
    → IsLineCell own other ply value
line_alike Plies kept other positions played ply value is =
    is ∙ ap (λ (ms : List Move). decimal (length ms)) played
line_alike (Last notation) kept other positions played ply value is =
    last_alike notation kept other positions played ply value is
line_alike (Moves notation) kept other positions played ply value (P, here, (text, are, is)) = (
  P,
  ap (λ ps. slice_get ps 0) (sym positions) ∙ here,
  (text, subst (λ ms. AreMoveTexts notation P ms text) played are, is),
)

-- plain values with a blank between
pub after_blank : (value own : List ℕ) → IsPlainValue value → IsPlainValue own
    → IsPlainValue (value ++ 32 ∷ own)
after_blank value own plain flat =
    plain_append value (32 ∷ own) plain
    ((omega arith, omega arith, λ is. omega arith, λ is. omega arith, λ is. omega arith), flat)
