-- The opening of a line that is replayed from its codes.
use Rattle.std.proofs.lemmas.Option.{slice_get_within}
use Rattle.pgn_game.proofs.Common.{◌≡◌, ℕ, ◌+◌, ◌*◌, ◌/◌, ◌<◌, ◌≤◌, List, [], ◌∷◌, ◌++◌, length}
use Rattle.pgn_game.proofs.Common.{Option, refl}
use Rattle.pgn_game.proofs.Common.{IfSome, Some, None, length-map, sym, ap, ◌∙◌, subst, arith}
use Rattle.pgn_game.proofs.Common.{length-append, State, Move}
use Rattle.pgn_game.proofs.Common.{after, IsLegal, positions_from, HasReplayed}
use Rattle.pgn_game.specs.Public.CodeLines.{IsCodedLine}
use Rattle.pgn_game.specs.Public.Openings.{NamedLine, IsOpeningIn, ends_of}
use Rattle.pgn_game.specs.declared.openings.Opening.{Opening}
use Rattle.pgn_game.specs.Private.CodeWords.{told_move}
use Rattle.pgn_game.proofs.CodeLineFacts.{code_at, replayed_none, replayed_on, replayed_all}
use Rattle.pgn_game.proofs.RecordFacts.{plies_size}
use Rattle.pgn_game.proofs.openings.Following.{FindsMore, none_at_first}

-- so many plies are replayed, and the opening of their positions is found
abbrev pub HasFound : List State → State → List ℕ → ℕ → State → Option Opening → Type 0
HasFound ends start bytes ply here found = (before : List State) × (played : List Move)
    × HasReplayed start bytes ply before here played × IsOpeningIn ends (before ++ here ∷ []) found

pub found_none : (ends : List State) (start : State) (bytes : List ℕ) (found : Option Opening)
    → FindsMore ends None 0 start found → HasFound ends start bytes 0 start found
found_none ends start bytes found finds =
    ([], [], replayed_none start bytes, finds [] refl (none_at_first ends))

pub found_on : (ends : List State) {start : State} {bytes : List ℕ} {ply : ℕ} {here : State}
    (found next : Option Opening) (m : Move) → HasFound ends start bytes ply here found
    → m ≡ told_move here (code_at bytes ply) → IsLegal here m → 3 * ply + 2 < length bytes
    → FindsMore ends found (ply + 1) (after here m) next
    → HasFound ends start bytes (ply + 1) (after here m) next
found_on ends {here = here} found next m (before, played, at, is) told legal within finds = (
  before ++ here ∷ [],
  played ++ m ∷ [],
  replayed_on at m told legal within,
  finds (before ++ here ∷ []) (length-append before (here ∷ []) ∙ ap (λ n. n + 1) at.size) is,
)

-- all plies
pub found_all : (ends : List State) {start : State} {bytes : List ℕ} {ply : ℕ} {here : State}
    (found : Option Opening) → HasFound ends start bytes ply here found → length bytes / 3 ≤ ply
    → (moves : List Move) → IsCodedLine start bytes moves
    → IsOpeningIn ends (positions_from start moves) found
found_all ends {start = start} found (before, played, at, is) past moves line =
    let size = ap length line.spell ∙ plies_size line.codes in
    let whole = replayed_all at (omega (arith, size, past)) in
    subst (λ positions. IsOpeningIn ends positions found)
    (whole.line.positions ∙ ap (positions_from start) (sym (whole.only moves line))) is

-- what is found is one of the lines
pub found_within : (lines : List NamedLine) {start : State} {bytes : List ℕ} {ply : ℕ}
    {here : State} (found : Option Opening) → HasFound (ends_of lines) start bytes ply here found
    → IfSome found (λ opening. opening.line < length lines)
found_within lines None at = tt
found_within lines (Some opening) (before, played, at, is) =
    subst (λ n. opening.line < n) (length-map lines (λ (l : NamedLine). l.end))
    (slice_get_within (ends_of lines) opening.line is.here.2.0 is.here.2.1)
