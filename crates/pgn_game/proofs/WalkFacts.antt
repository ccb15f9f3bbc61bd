-- The main line while it is played: from its first element to its last.
use Rattle.std.specs.Prelude.{Option, Some, None}
use Rattle.std.proofs.lemmas.List.{drop_more, drop_all}
use Rattle.pgn_game.proofs.Common.{◌≡◌, ℕ, ◌+◌, ◌<◌, ◌≤◌, List, [], ◌∷◌, ◌++◌, length, get_or, drop}
use Rattle.pgn_game.proofs.Common.{map, refl, sym, ap, ◌∙◌, subst, append_assoc, append-nil, inr}
use Rattle.pgn_game.proofs.Common.{length-append, IfSome, IfSome_then, State, Move, item_of, Item}
use Rattle.pgn_game.proofs.Common.{MoveText, Element, main_words, IsMainLine, IsMoveFault, fault_of}
use Rattle.pgn_game.proofs.Common.{HasStepped, IsStuck, HasWalked, KeepsLine, GameFault, MainWalk}
use Rattle.pgn_game.specs.Private.Walks.{HasPlayed, HasPassed}
use Rattle.pgn_game.specs.declared.replays.main_line.LineKeeper.{LineKeeper}
use Rattle.pgn_game.proofs.Beginnings.{joined}

-- outside all variations a move's word is the first of the main line
pub main_word : (word : List ℕ) (items : List Item) (depth : ℕ) → depth ≡ 0
    → main_words (MoveText word ∷ items) depth ≡ word ∷ main_words items depth
main_word word items depth outside =
    subst (λ d. main_words (MoveText word ∷ items) d ≡ word ∷ main_words items d) (sym outside) refl

-- before the first element
pub walk_begins : (start : State) (walk : MainWalk) (items : List Item) → walk.position ≡ start
    → walk.plies ≡ 0 → walk.depth ≡ 0 → HasWalked start (main_words items 0) walk [] [] items
walk_begins start walk items position plies depth = record {
  count = sym plies;
  completes = λ later more line. subst (λ s. IsMainLine s (main_words items 0) later more) position
      (subst (λ d. IsMainLine walk.position (main_words items d) later more) depth line);
  faults = λ fault met. subst (λ s. IsMoveFault s 0 (main_words items 0) fault) position
      (subst (λ n. IsMoveFault walk.position n (main_words items 0) fault) plies
      (subst (λ d. IsMoveFault walk.position walk.plies (main_words items d) fault) depth met));
}

module _ {start : State} {words : List (List ℕ)} {old : MainWalk} {positions : List State}
    {played : List Move} where
  -- after a move of the main line
  pub walked_by : {new : MainWalk} {item : Item} {items : List Item} (m : Move)
      → HasWalked start words old positions played (item ∷ items) → HasPlayed old new item m
      → HasWalked start words new (positions ++ old.position ∷ []) (played ++ m ∷ []) items
  walked_by {new} {item} {items} m walked move = record {
    count = length-append played (m ∷ []) ∙ ap (λ n. n + 1) walked.count ∙ sym move.plies;
    completes = λ later more line.
        rw (append_assoc positions (old.position ∷ []) later) (rw (append_assoc played (m ∷ [])
        more) (walked.completes (old.position ∷ later) (m ∷ more) (rw (move.words items) (
          m,
          later,
          more,
          refl,
          refl,
          move.named,
          rw (← move.position) line,
        ))));
    faults = λ fault met. walked.faults fault
        (rw (move.words items) (inr (
          m,
          move.named,
          rw (← move.position) (rw (← move.plies) met),
        )));
  }

  -- after any other element
  pub walked_past : {new : MainWalk} {item : Item} {items : List Item}
      → HasWalked start words old positions played (item ∷ items) → HasPassed old new item
      → HasWalked start words new positions played items
  walked_past {new} {item} {items} walked passed = record {
    count = walked.count ∙ sym passed.plies;
    completes = λ later more line. walked.completes later more
        (subst (λ ws. IsMainLine old.position ws later more) (sym (passed.words items))
        (subst (λ s. IsMainLine s (main_words items new.depth) later more) passed.position line));
    faults = λ fault met. walked.faults fault
        (rw (passed.words items) (rw (← passed.position) (rw (← passed.plies) met)));
  }

  -- after the last
  pub walk_ends : HasWalked start words old positions played []
      → IsMainLine start words (positions ++ old.position ∷ []) played
  walk_ends walked =
      rw (← (append-nil played)) (walked.completes (old.position ∷ []) [] (refl, refl))

-- some positions and moves that the walk went through
abbrev pub HasGone : State → List (List ℕ) → MainWalk → List Item → Type 0
HasGone start words walk items = (positions : List State) × (played : List Move)
    × HasWalked start words walk positions played items

pub walked_on : {start : State} {words : List (List ℕ)} {old new : MainWalk} {item : Item}
    {items : List Item} (answer : Option Move)
    → HasGone start words old (item ∷ items) → HasStepped old new item answer
    → HasGone start words new items
walked_on None (positions, played, walked) passed = (positions, played, walked_past walked passed)
walked_on {old = old} (Some m) (positions, played, walked) move =
    (positions ++ old.position ∷ [], played ++ m ∷ [], walked_by m walked move)

-- the fault that a walk meets is the fault of the whole
pub stuck_at : {start : State} {words : List (List ℕ)} {walk : MainWalk} {positions : List State}
    {played : List Move} {item : Item} {items : List Item} (fault : GameFault)
    → HasWalked start words walk positions played (item ∷ items) → IsStuck walk item fault
    → IfSome (fault_of fault) (IsMoveFault start 0 words)
stuck_at {items = items} fault walked stuck =
    IfSome_then (fault_of fault) (stuck items) walked.faults

module _ {start : State} {words : List (List ℕ)} {old new : LineKeeper} {item : Item}
    {items : List Item} (keeps : KeepsLine start words old (item ∷ items)) where
  -- a move of the main line, kept with the position after it
  pub keeps_move : {walk : MainWalk} (m : Move) (answer : Option Move) → answer ≡ Some m
      → HasStepped old.walk walk item answer → new.walk ≡ walk
      → new.positions.items ≡ old.positions.items ++ walk.position ∷ []
      → new.played.items ≡ old.played.items ++ m ∷ [] → KeepsLine start words new items
  keeps_move m answer is stepped same positions played = record {
    before = keeps.before ++ old.walk.position ∷ [];
    positions = positions ∙ ap (λ (w : MainWalk). old.positions.items ++ w.position ∷ []) (sym same)
        ∙ ap (λ ps. ps ++ new.walk.position ∷ []) keeps.positions;
    walked = rw played (walked_by m keeps.walked move);
    first = keeps.first ++ move.word ∷ [];
    parted = keeps.parted ∙ ap (λ ws. keeps.first ++ ws) (move.words items)
        ∙ sym (append_assoc keeps.first (move.word ∷ []) (main_words items new.walk.depth));
    beginning =
        rw both (rw played (joined start old.walk.position keeps.first (move.word ∷ []) keeps.before
        (old.walk.position ∷ new.walk.position ∷ []) old.played.items (m ∷ []) (subst (λ ps.
        IsMainLine start keeps.first ps old.played.items) keeps.positions keeps.beginning) (
          m,
          new.walk.position ∷ [],
          [],
          refl,
          refl,
          move.named,
          (ap (λ s. s ∷ []) move.position, refl),
        )));
  }
    where
      move : HasPlayed old.walk new.walk item m
      move = rw same (subst (HasStepped old.walk _ item) is stepped)

      both : new.positions.items ≡ keeps.before ++ old.walk.position ∷ new.walk.position ∷ []
      both = positions ∙ ap (λ (w : MainWalk). old.positions.items ++ w.position ∷ []) (sym same)
          ∙ ap (λ ps. ps ++ new.walk.position ∷ []) keeps.positions
          ∙ append_assoc keeps.before (old.walk.position ∷ []) (new.walk.position ∷ [])

  -- any other element
  pub keeps_on : (answer : Option Move) → ((m : Move) → answer ≡ Some m → ⊥)
      → HasStepped old.walk new.walk item answer
      → new.positions.items ≡ old.positions.items → new.played.items ≡ old.played.items
      → KeepsLine start words new items
  keeps_on (Some m) none stepped positions played = absurd (none m refl)
  keeps_on None none stepped positions played = record {
    before = keeps.before;
    positions = positions ∙ keeps.positions
        ∙ ap (λ p. keeps.before ++ p ∷ []) (sym stepped.position);
    walked = rw played (walked_past keeps.walked stepped);
    first = keeps.first;
    parted = keeps.parted ∙ ap (λ ws. keeps.first ++ ws) (stepped.words items);
    beginning = rw positions (rw played keeps.beginning);
  }

-- the elements from a place on
pub items_step : (elements : List Element) (i : ℕ) (d : Element) → i < length elements
    → map item_of (drop i elements) ≡ item_of (get_or elements i d)
    ∷ map item_of (drop (i + 1) elements)
items_step elements i d below = ap (map item_of) (drop_more elements i d below)

pub items_end : (elements : List Element) (i : ℕ) → length elements ≤ i
    → map item_of (drop i elements) ≡ []
items_end elements i past = ap (map item_of) (drop_all i elements past)
