-- The positions in which no line ends, by the pawns that the codes of a line move; and the opening
-- of a line that is replayed up to the first of them.
use Rattle.pgn_game.proofs.Common.{◌≡◌, ℕ, zero, suc, ◌+◌, ◌*◌, ◌/◌, ◌<◌, ◌≤◌, Bool, true, false}
use Rattle.pgn_game.proofs.Common.{List, [], ◌∷◌, ◌++◌, length, Option, Some, None, refl, sym, ap}
use Rattle.pgn_game.proofs.Common.{◌∙◌, subst, arith, inl, inr, length-append, append_assoc, get_or}
use Rattle.pgn_game.proofs.Common.{slice_get, State, Move, Placement, after, HasReplayed}
use Rattle.pgn_game.proofs.Common.{positions_from}
use Rattle.std.proofs.lemmas.Bool.{cases_lt}
use Rattle.std.proofs.lemmas.Option.{slice_get_within}
use Rattle.chess.specs.Public.Keys.{ArePawns}
use Rattle.pgn_game.specs.Public.CodeLines.{IsCodedLine}
use Rattle.pgn_game.specs.Public.Openings.{EndsIn, EndsAt, IsFirstIn, IsOpeningIn}
use Rattle.pgn_game.specs.Public.PlyCodes.{moved}
use Rattle.pgn_game.specs.Private.PawnWalks.{HavePawns, IsPair, EndNoneFrom}
use mir.Val.{bool_byte}
use Rattle.pgn_game.specs.declared.openings.Opening.{Opening}
use Rattle.pgn_game.proofs.CodeLineFacts.{code_at, replayed_none, replayed_on, replayed_all}
use Rattle.pgn_game.proofs.CodeLineFacts.{next_told}
use Rattle.pgn_game.proofs.OneMore.{get_more}
use Rattle.pgn_game.proofs.PlyCodeFacts.{moved_after}
use Rattle.pgn_game.proofs.RecordFacts.{plies_size}
use Rattle.pgn_game.proofs.openings.CodedOpenings.{HasFound}

-- ---- what the pawns of a line say

-- in positions with these pawns no line ends, if the answer is false
abbrev pub MayEndWith : List State → List ℕ → Bool → Type 0
MayEndWith ends pawns may = may ≡ false → (P : State) → ArePawns P pawns → IsFirstIn ends P None

-- the line is moved so far: its pawns are known, and no line ends in any but the first of so many
-- positions
pub record HasCome (ends : List State) (start : State) (bytes : List ℕ) (ply : ℕ)
    (pawns : List ℕ) (count : ℕ) : Type 0 where
  pub before : List State
  pub here : State
  pub played : List Move
  pub at : HasReplayed start bytes ply before here played
  pub have : HavePawns here.men pawns
  pub none : EndNoneFrom ends (before ++ here ∷ []) count

-- that is so of each line that these codes tell
abbrev pub AllCome : List State → State → List ℕ → ℕ → List ℕ → ℕ → Type 0
AllCome ends start bytes ply pawns count =
    (moves : List Move) → IsCodedLine start bytes moves → HasCome ends start bytes ply pawns count

have_pawns : (P : State) (pawns : List ℕ) → ArePawns P pawns → HavePawns P.men pawns
have_pawns P pawns are = record {
  white = rw are.pair are.white_men;
  black = rw are.pair are.black_men;
}

pair_of : (xs : List ℕ) → length xs ≡ 2 → xs ≡ get_or xs 0 0 ∷ get_or xs 1 0 ∷ []
pair_of [] e = absurd (omega (arith, e))
pair_of (x ∷ []) e = absurd (omega (arith, e))
pair_of (x ∷ y ∷ []) e = refl
pair_of (x ∷ y ∷ z ∷ xs) e = absurd (omega (arith, e))

are_pawns : (P : State) (pawns : List ℕ) → IsPair pawns → HavePawns P.men pawns
    → ArePawns P pawns
are_pawns P pawns pair have = record {
  white = get_or pawns 0 0;
  black = get_or pawns 1 0;
  pair = pair_of pawns pair.size;
  white_fit = pair.white_fit;
  black_fit = pair.black_fit;
  white_men = have.white;
  black_men = have.black;
}

pub is_pair : (P : State) (pawns : List ℕ) → ArePawns P pawns → IsPair pawns
is_pair P pawns are = record {
  size = rw are.pair refl;
  white_fit = rw are.pair are.white_fit;
  black_fit = rw are.pair are.black_fit;
}

pub at_most_one : (may : Bool) → bool_byte may ≤ 1
at_most_one true = omega arith
at_most_one false = omega arith

-- where one more position may be one in which a line ends, it is counted
counted : (ends seen : List State) (P : State) (count : ℕ)
    → EndNoneFrom ends (seen ++ P ∷ []) (length seen + 1)
counted ends seen P count = λ ply line past there.
    let within = slice_get_within (seen ++ P ∷ []) ply there.0 there.1 in
    let size = length-append seen (P ∷ []) in absurd (omega (arith, within, size))

-- and else no line ends there
passed : (ends seen : List State) (P : State) (count : ℕ) → IsFirstIn ends P None
    → EndNoneFrom ends seen count
    → EndNoneFrom ends (seen ++ P ∷ []) count
passed ends seen P count none before = λ ply line past there.
    elim (get_more seen P ply there.0 there.1) [
      | inl old ↦ before ply line past (there.0, old, there.2)
      | inr new ↦ none line (subst (EndsIn ends line) new.1 there.2)
    ]

one_more : (ends seen : List State) (P : State) (ply count next : ℕ) (pawns : List ℕ) (may : Bool)
    → length seen ≡ ply → IsPair pawns → HavePawns P.men pawns → MayEndWith ends pawns may
    → (may ≡ true → next ≡ ply + 1) → (may ≡ false → next ≡ count)
    → EndNoneFrom ends seen count → EndNoneFrom ends (seen ++ P ∷ []) next
one_more ends seen P ply count next pawns true size pair have tells is other before =
    let same : next ≡ length seen + 1 = is refl ∙ ap (λ n. n + 1) (sym size) in
    rw same (counted ends seen P count)
one_more ends seen P ply count next pawns false size pair have tells is other before =
    rw (other refl) (passed ends seen P count
    (tells refl P (are_pawns P pawns pair have)) before)

none_seen : (ends : List State) (count : ℕ) → EndNoneFrom ends [] count
none_seen ends count = λ ply line past there.
    let within = slice_get_within [] ply there.0 there.1 in absurd (omega (arith, within))

-- the first position
pub come_none : (ends : List State) (start : State) (bytes pawns : List ℕ) (may : Bool) (count : ℕ)
    → ArePawns start pawns → MayEndWith ends pawns may → (may ≡ true → count ≡ 1)
    → (may ≡ false → count ≡ 0) → IsPair pawns → AllCome ends start bytes 0 pawns count
come_none ends start bytes pawns may count are tells is other pair = λ moves line. record {
  before = [];
  here = start;
  played = [];
  at = replayed_none start bytes;
  have = have_pawns start pawns are;
  none = one_more ends [] start 0 0 count pawns may refl pair (have_pawns start pawns are) tells is
      other (none_seen ends 0);
}

-- one ply further
pub come_on : (ends : List State) (start : State) (bytes pawns next : List ℕ) (ply count more : ℕ)
    (may : Bool) → AllCome ends start bytes ply pawns count → 3 * ply + 2 < length bytes
    → IsPair next
    → ((men : Placement) → HavePawns men pawns → HavePawns (moved men (code_at bytes ply)) next)
    → MayEndWith ends next may → (may ≡ true → more ≡ ply + 2) → (may ≡ false → more ≡ count)
    → AllCome ends start bytes (ply + 1) next more
come_on ends start bytes pawns next ply count more may so_far within pair goes tells is other =
    λ moves line.
    let come = so_far moves line in
    let one = next_told come.at moves line within in
    let P = after come.here one.m in
    let seen = come.before ++ come.here ∷ [] in
    let have : HavePawns P.men next =
    subst (λ (men : Placement). HavePawns men next)
    (moved_after come.here one.m (code_at bytes ply) one.legal.pseudo_legal one.code)
    (goes come.here.men come.have) in
    let size : length seen ≡ ply + 1 =
    length-append come.before (come.here ∷ []) ∙ ap (λ n. n + 1) come.at.size in
    record {
      before = seen;
      here = P;
      played = come.played ++ one.m ∷ [];
      at = replayed_on come.at one.m one.is_told one.legal within;
      have = have;
      none = one_more ends seen P (ply + 1) count more next may size pair have tells
          (λ e. is e ∙ omega arith) other come.none;
    }

-- all plies
pub come_all : (ends : List State) (start : State) (bytes pawns : List ℕ) (ply count : ℕ)
    → AllCome ends start bytes ply pawns count → length bytes / 3 ≤ ply
    → (moves : List Move) → IsCodedLine start bytes moves
    → EndNoneFrom ends (positions_from start moves) count
come_all ends start bytes pawns ply count so_far past moves line =
    let come = so_far moves line in
    let size = ap length line.spell ∙ plies_size line.codes in
    let whole = replayed_all come.at (omega (arith, size, past)) in
    subst (λ positions. EndNoneFrom ends positions count)
    (whole.line.positions ∙ ap (positions_from start) (sym (whole.only moves line))) come.none

-- ---- the opening of the positions before those

get_front : (xs ys : List State) (k : ℕ) → k < length xs → slice_get (xs ++ ys) k ≡ slice_get xs k
get_front [] ys k less = absurd (omega arith)
get_front (x ∷ xs) ys zero less = refl
get_front (x ∷ xs) ys (suc k) less = get_front xs ys k (omega arith)

to_whole : (ends seen more : List State) (ply line : ℕ) → EndsAt ends seen ply line
    → EndsAt ends (seen ++ more) ply line
to_whole ends seen more ply line there =
    let within = slice_get_within seen ply there.0 there.1 in
    (there.0, get_front seen more ply within ∙ there.1, there.2)

to_front : (ends seen more : List State) (ply line : ℕ)
    → EndNoneFrom ends (seen ++ more) (length seen)
    → EndsAt ends (seen ++ more) ply line → EndsAt ends seen ply line
to_front ends seen more ply line none there = elim (cases_lt ply (length seen)) [
  | inl less ↦ (there.0, sym (get_front seen more ply less) ∙ there.1, there.2)
  | inr past ↦ absurd (none ply line past there)
]

opening_past : (ends seen more : List State) (found : Option Opening)
    → EndNoneFrom ends (seen ++ more) (length seen) → IsOpeningIn ends seen found
    → IsOpeningIn ends (seen ++ more) found
opening_past ends seen more None none is = λ ply line there.
    is ply line (to_front ends seen more ply line none there)
opening_past ends seen more (Some opening) none is = record {
  here = to_whole ends seen more opening.ply opening.line is.here;
  last = λ ply line later there.
      is.last ply line later (to_front ends seen more ply line none there);
  first = λ line less there.
      is.first line less (to_front ends seen more opening.ply line none there);
}

later_positions : (P : State) (moves : List Move) → (more : List State)
    × (positions_from P moves ≡ P ∷ more)
later_positions P [] = ([], refl)
later_positions P (m ∷ moves) = (positions_from (after P m) moves, refl)

-- the plies up to there
pub found_up_to : (ends : List State) {start : State} {bytes : List ℕ} {ply : ℕ} {here : State}
    (found : Option Opening) (count : ℕ) → HasFound ends start bytes ply here found
    → count ≤ ply + 1
    → ((moves : List Move) → IsCodedLine start bytes moves
    → EndNoneFrom ends (positions_from start moves) count) → (moves : List Move)
    → IsCodedLine start bytes moves → IsOpeningIn ends (positions_from start moves) found
found_up_to ends {start = start} {here = here} found count (before, played, at, is) up none moves
    line =
    let left = at.left moves line in
    let later = later_positions here left.rest in
    let seen = before ++ here ∷ [] in
    let whole : positions_from start moves ≡ seen ++ later.0 =
    ap (positions_from start) left.parts ∙ at.positions left.rest
    ∙ ap (λ (ps : List State). before ++ ps) later.1
    ∙ sym (append_assoc before (here ∷ []) later.0) in
    let size = length-append before (here ∷ []) ∙ ap (λ n. n + 1) at.size in
    subst (λ positions. IsOpeningIn ends positions found) (sym whole)
    (opening_past ends seen later.0 found (λ k line' past there.
    none moves line k line' (omega (arith, size))
    (subst (λ positions. EndsAt ends positions k line') (sym whole) there)) is)
