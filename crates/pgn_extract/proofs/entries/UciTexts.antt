-- The next move as `--uci` writes it: on a line that is played, and on one that is kept.
use Rattle.std.proofs.Common.{◌+◌, ◌-◌, take, drop, Bool}
use Rattle.std.specs.Prelude.{◌≢◌, ◌↔◌, codes, Result, Err, IsErrOf}
use Rattle.std.proofs.Math.Seq.{drop-append_seam}
use Rattle.std.proofs.lemmas.List.{take_all, take_at, length-append}
use Rattle.pgn_extract.proofs.Common.{◌≡◌, ℕ, List, [], ◌∷◌, ◌++◌, length, Option, Some}
use Rattle.pgn_extract.proofs.Common.{None, refl, sym, ap, ◌∙◌, arith, slice_get}
use Rattle.pgn_extract.proofs.Common.{IsLegal, State, Move, IsMainLine}
use Rattle.chess.specs.Public.Letters.{square_text}
use Rattle.chess.specs.Public.Positions.{IsSound}
use Rattle.chess.specs.Public.San.{IsNamed, IsOnlyNamed}
use Rattle.chess.specs.declared.board.man.Kind.{Kind}
use Rattle.chess.specs.declared.move_text.SanError.{SanError}
use Rattle.chess.specs.declared.move_text.SanError.TheVariants as err
use Rattle.chess.proofs.SanNamesFacts.{san_names}
use Rattle.pgn_game.proofs.OneReplay.{one_move}
use Rattle.pgn_game.proofs.PlainTokens.{kind_high}
use Rattle.pgn_game.specs.Public.GameLines.{promotion_letter, uci_text}
use Rattle.pgn_game.specs.Public.PlayedLines.{PlayedLine, IsNextText}
use Rattle.pgn_text.specs.Public.GameTexts.{GameText}
use Rattle.pgn_criteria.specs.Public.Conditions.{Conditions}
use Rattle.pgn_extract.specs.Private.Finding.{IsNextUci}
use Rattle.pgn_extract.specs.Private.RowTexts.{IsPlainValue}
use Rattle.pgn_extract.specs.Public.Rows.{uci_cell}
use Rattle.pgn_extract.specs.declared.rows.column.PlyColumn.TheVariants.{NextUci}
use Rattle.pgn_extract.proofs.entries.PlainTexts.{square_plain, high_byte, plain_append, no_dash}
use Rattle.pgn_extract.proofs.entries.PlayedFacts.{ShowsThere, left_of, at_end}

-- The text of a legal move is plain.

letter_plain : (promote : Option Kind) → IsPlainValue (promotion_letter promote)
letter_plain None = tt
letter_plain (Some kind) =
    let high = kind_high kind in let low = high.0 in let most = high.1 in
    (high_byte _ (omega arith) (omega arith), tt)

pub uci_plain : (P : State) (m : Move) → IsLegal P m → IsPlainValue (uci_text m)
uci_plain P m legal =
    let rules = legal.pseudo_legal in
    plain_append (square_text m.from ++ square_text m.to) (promotion_letter m.promote)
    (plain_append (square_text m.from) (square_text m.to) (square_plain m.from rules.from)
    (square_plain m.to rules.to)) (letter_plain m.promote)

-- The move that a standard text names.

-- no move is written as a dash, so the dash tells that no word is left
pub none_is_next : (P : State) (words : List (List ℕ)) (text : List ℕ) → IsNextText P words text
    → text ≡ codes "-" → IsNextUci P words []
none_is_next P [] text is dash = refl
none_is_next P (word ∷ words) text (m, named, san) dash = absurd (no_dash P m text san dash)

pub text_names : (P : State) (words : List (List ℕ)) (text : List ℕ) → IsSound P
    → IsNextText P words text → text ≢ codes "-" → (m : Move) × IsOnlyNamed P text m
text_names P [] text sound is other = absurd (other is)
text_names P (word ∷ words) text sound (m, named, san) other =
    (m, san_names P m text sound named.named.legal san)

pub move_is_next : (P : State) (words : List (List ℕ)) (text : List ℕ) (k : Move) → IsSound P
    → IsNextText P words text → text ≢ codes "-" → IsOnlyNamed P text k
    → IsNextUci P words (uci_text k)
move_is_next P [] text k sound is other of = absurd (other is)
move_is_next P (word ∷ words) text k sound (m, named, san) other of = (
  m,
  named,
  ap uci_text (one_move P text k m of
      (san_names P m text sound named.named.legal san)),
)

-- so its reader never fails
pub always_named : (P : State) (text : List ℕ) (result : Result Move SanError) (e : SanError)
    → result ≡ Err e → (m : Move) × IsOnlyNamed P text m
    → (IsErrOf result err.None ↔ ((m : Move) → IsNamed P text m → ⊥))
    → (IsErrOf result err.Several
    ↔ ((m n : Move) × IsNamed P text m × IsNamed P text n × (m ≢ n))) → ⊥
always_named P text result err.None is (m, named) none several = none.0 is m named.named
always_named P text result err.Several is (m, named) none several =
    let (k, n, one, other, apart) = several.0 is in
    apart (named.only k one ∙ sym (named.only n other))

-- What is added to a text stands in it from where the text ended.

pub added_part : (text old own : List ℕ) (from : ℕ) → text ≡ old ++ own → length old ≡ from
    → take (length text - from) (drop from text) ≡ own
added_part text old own from is begin =
    let rest : drop from text ≡ own =
    ap (drop from) is ∙ ap (λ n. drop n (old ++ own)) (sym begin) ∙ drop-append_seam old own in
    let size : length text ≡ length old + length own = ap length is ∙ length-append old own in
    ap (take (length text - from)) rest
    ∙ take_all (length text - from) own (omega (arith, size, begin))

-- and is taken away there
pub cut_again : (text new old own : List ℕ) (from : ℕ) → text ≡ old ++ own → length old ≡ from
    → new ≡ take from text → new ≡ old
cut_again text new old own from is begin cut =
    cut ∙ ap (take from) is ∙ take_at old own from begin

-- What it is of the replay.

first_left : (P : State) (words : List (List ℕ)) (later : List State) (more : List Move)
    (value : List ℕ) → IsMainLine P words later more → IsNextUci P words value
    → value ≡ uci_cell (slice_get more 0)
first_left P [] later more value line is =
    is ∙ ap (λ (ms : List Move). uci_cell (slice_get ms 0)) (sym line.1)
first_left P (word ∷ words) later more value (m, rest, others, later_is, more_is, named, line)
    (own, also, is) =
    is ∙ ap uci_text (one_move P word own m also named)
    ∙ ap (λ (ms : List Move). uci_cell (slice_get ms 0)) (sym more_is)

pub shows_next_uci : {known : Bool} (line : PlayedLine)
    (Asks : Option (List Conditions) → GameText → Type 0) (value : List ℕ)
    → IsNextUci line.position line.words value → ShowsThere known line Asks NextUci value
shows_next_uci line Asks value is aim game before P at rows replay own rest parts =
    let left = left_of at.to replay own in
    let here : slice_get replay.played (length before) ≡ slice_get left.1 0 =
    ap (λ (ms : List Move). slice_get ms (length before)) left.4
    ∙ ap (λ n. slice_get (at.played ++ left.1) n) (at.to.count ∙ sym at.to.moves)
    ∙ at_end at.played left.1 in
    first_left line.position line.words left.0 left.1 value left.2 is ∙ ap uci_cell (sym here)
