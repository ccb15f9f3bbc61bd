-- The opening of a main line while it is played.
use Rattle.pgn_game.proofs.Common.{◌≡◌, ℕ, ◌+◌, List, [], ◌∷◌, ◌++◌, length, Option, Some, None}
use Rattle.std.specs.Prelude.{is_some, true, false}
use Rattle.pgn_game.proofs.Common.{refl, sym, ap, ◌∙◌, subst, length-append, State, Move, Item}
use Rattle.pgn_game.proofs.Common.{MainWalk, HasWalked, HasStepped, IsMainLine, arith}
use Rattle.pgn_game.proofs.OneReplay.{line_length}
use Rattle.pgn_game.specs.Public.Openings.{IsOpeningIn}
use Rattle.pgn_game.specs.declared.openings.Opening.{Opening}
use Rattle.pgn_game.specs.Private.Walks.{HasPlayed, HasPassed}
use Rattle.pgn_game.proofs.WalkFacts.{walked_by, walked_past}

-- the walk went through some positions, and the opening of these and of its own is found
abbrev pub HasFollowed : List State → State → List (List ℕ) → MainWalk → List Item
    → Option Opening → Type 0
HasFollowed ends start words walk items found = (positions : List State) × (played : List Move)
    × HasWalked start words walk positions played items × (length positions ≡ walk.plies)
    × IsOpeningIn ends (positions ++ walk.position ∷ []) found

-- what is found where one more position is reached
abbrev pub FindsMore : List State → Option Opening → ℕ → State → Option Opening → Type 0
FindsMore ends found ply P next = (seen : List State) → length seen ≡ ply
    → IsOpeningIn ends seen found → IsOpeningIn ends (seen ++ P ∷ []) next

-- a move of the main line
pub followed_by : (ends : List State) {start : State} {words : List (List ℕ)} {old new : MainWalk}
    {item : Item} {items : List Item} (found next : Option Opening) (m : Move)
    → HasFollowed ends start words old (item ∷ items) found → HasPlayed old new item m
    → FindsMore ends found new.plies new.position next
    → HasFollowed ends start words new items next
followed_by ends {old = old} {new = new} found next m (positions, played, walked, count, is) move
    finds =
    let more : length (positions ++ old.position ∷ []) ≡ new.plies =
    length-append positions (old.position ∷ []) ∙ ap (λ n. n + 1) count ∙ sym move.plies in (
      positions ++ old.position ∷ [],
      played ++ m ∷ [],
      walked_by m walked move,
      more,
      finds (positions ++ old.position ∷ []) more is,
    )

-- any other element
pub followed_past : (ends : List State) {start : State} {words : List (List ℕ)}
    {old new : MainWalk} {item : Item} {items : List Item} (found : Option Opening)
    → HasFollowed ends start words old (item ∷ items) found → HasPassed old new item
    → HasFollowed ends start words new items found
followed_past ends found (positions, played, walked, count, is) passed = (
  positions,
  played,
  walked_past walked passed,
  count ∙ sym passed.plies,
  subst (λ P. IsOpeningIn ends (positions ++ P ∷ []) found) (sym passed.position) is,
)

-- an element, of which the walk says whether it was a move
pub followed_step : (ends : List State) {start : State} {words : List (List ℕ)}
    {old new : MainWalk} {item : Item} {items : List Item} (found next : Option Opening)
    (answer : Option Move) → HasFollowed ends start words old (item ∷ items) found
    → HasStepped old new item answer
    → (is_some answer ≡ true → FindsMore ends found new.plies new.position next)
    → (is_some answer ≡ false → next ≡ found) → HasFollowed ends start words new items next
followed_step ends found next None there passed move other =
    subst (HasFollowed ends _ _ _ _) (sym (other refl)) (followed_past ends found there passed)
followed_step ends found next (Some m) there played move other =
    followed_by ends found next m there played (move refl)

-- no line ends before the first position
pub none_at_first : (ends : List State) → IsOpeningIn ends [] None
none_at_first ends = λ ply line there. cc

-- a line has as many moves as it has positions before the last
pub plies_walked : (start : State) (words : List (List ℕ)) (before : List State) (P : State)
    (played : List Move) (plies : ℕ) → length before ≡ plies
    → IsMainLine start words (before ++ P ∷ []) played → length played ≡ plies
plies_walked start words before P played plies count line =
    let size = line_length start words (before ++ P ∷ []) played line in
    let whole = length-append before (P ∷ []) in omega (arith, size, whole, count)
