-- The first word that is refused: what its search keeps, and what is known where it ends.
use Rattle.std.specs.Prelude.{Option, Some, None, MatchOption}
use Rattle.std.proofs.lemmas.Option.{slice_get_within, get_or_from_slice_get, slice_get-get_or}
use Rattle.pgn_game.proofs.Common.{◌≡◌, ℕ, ◌+◌, ◌<◌, ◌≤◌, true, false, List, [], ◌∷◌, ◌++◌, length}
use Rattle.pgn_game.proofs.Common.{get_or, take, map, refl, sym, ap, ◌∙◌, subst, inl, inr}
use Rattle.pgn_game.proofs.Common.{append_assoc, append-nil, arith, IfSome, option_map, slice_get}
use Rattle.pgn_game.proofs.Common.{take_more, take_all, slice_get-map, State, Move, item_of, Item}
use Rattle.pgn_game.proofs.Common.{MoveText, IsPaired, Element, Fault, BadStart, IllegalMove}
use Rattle.pgn_game.proofs.Common.{AmbiguousMove, NamesNone, NamesSeveral, IsRefusedWord}
use Rattle.pgn_game.proofs.Common.{IsRefusedTurn, HasLineFault, IsFault, is_inside, gone_on}
use Rattle.pgn_game.proofs.Common.{first_level, Runs, Stops, Leads, main_words, IsMainLine}
use Rattle.pgn_game.proofs.Common.{played_items, IsReached, IsRefusedFrom, IsStart, AreWithin}
use Rattle.pgn_game.proofs.Common.{StopsAt, Walks, WalksOn, around, IsCounted, IsSearched, Level}
use Rattle.pgn_game.proofs.Common.{LineStack, Refused, Lines, Main, All, LineMove, Played, Passed}
use Rattle.pgn_game.specs.Public.Refusals.{IsRefusedAt}
use Rattle.pgn_game.specs.Private.RefusalWalks.{GoesOn, IsRefusedHere}
use Rattle.pgn_game.proofs.OneReplay.{all_or_fault, line_or_fault, one_start, start_or_bad}
use Rattle.pgn_game.proofs.ReachedLines.{line_of, leads_to}
use Rattle.pgn_game.proofs.RunFacts.{runs_played}
use Rattle.pgn_game.proofs.StepFacts.{turns_of, walks_run, within_more}

-- ---- a word that is refused

-- a word that is refused and does not name several moves names none
pub none_named : (now : State) (plies : ℕ) (word : List ℕ) (fault : Fault)
    → IsRefusedWord now plies word fault → (NamesSeveral now word → ⊥) → NamesNone now word
none_named now plies word BadStart refused other = absurd refused
none_named now plies word (IllegalMove reports ply) refused other = refused.2
none_named now plies word (AmbiguousMove reports ply) refused other = absurd (other refused.2)

-- a word at which a walk stops, with nothing after it, is refused
pub stops_here : (word : List ℕ) (level : Level) (outer : List Level) (fault : Fault)
    → Stops (MoveText word ∷ []) level outer fault
    → IsRefusedTurn (is_inside outer) level.now level.plies word fault
stops_here word level outer fault (inl refused) = refused
stops_here word level outer fault (inr on) = absurd on.2

some_fault : (met : Fault → Type 0) (reports : Option Fault) → (reports ≡ None → ⊥)
    → IfSome reports met → (fault : Fault) × met fault
some_fault met None some is = absurd (some refl)
some_fault met (Some fault) some is = (fault, is)

pub refused_here : (stack : LineStack Level) (word : List ℕ) (reports : Option Fault)
    → (reports ≡ None → ⊥)
    → ((items : List Item) → IfSome reports (StopsAt stack (MoveText word ∷ items)))
    → (fault : Fault)
    × IsRefusedTurn (is_inside (around stack)) stack.line.now stack.line.plies word fault
refused_here stack word reports some stuck =
    let stops = some_fault (StopsAt stack (MoveText word ∷ [])) reports some (stuck []) in
    (stops.0, stops_here word stack.line (around stack) stops.0 stops.1)

-- ---- the words of the main line, played

pub main_runs : (words : List (List ℕ)) (level : Level) (turns : List LineMove)
    → Runs (map (λ word. MoveText word) words) level [] turns
    → (positions : List State) × (played : List Move) × IsMainLine level.now words positions played
main_runs [] level turns runs = (level.now ∷ [], [], (refl, refl))
main_runs (word ∷ words) level turns (Played m, more, is, says, runs) =
    let there = main_runs words (gone_on level (Played m)) more runs in
    (level.now ∷ there.0, m ∷ there.1, (m, there.0, there.1, refl, refl, says, there.2))
main_runs (word ∷ words) level turns (Passed, more, is, says, runs) = absurd says

-- ---- from the start

pub runs_from : (lines : Lines) (start : State) (items : List Item) (turns : List LineMove)
    (fault : Fault) → IsPaired 0 items
    → Runs (played_items lines items 0) (first_level start) [] turns
    → HasLineFault lines start items fault → ⊥
runs_from Main start items turns fault paired runs met =
    let line = main_runs (main_words items 0) (first_level start) turns runs in
    line_or_fault start 0 (main_words items 0) line.0 line.1 fault line.2 met
runs_from All start items turns fault paired runs met =
    all_or_fault start items turns fault (runs_played start items turns paired runs) met

-- ---- the search

-- nothing is played of no elements
nothing_played : (lines : Lines) (depth : ℕ) → played_items lines [] depth ≡ []
nothing_played Main depth = refl
nothing_played All depth = refl

pub search_begins : (lines : Lines) (start : State) (items : List Item) (stack : LineStack Level)
    → around stack ≡ [] → stack.line ≡ first_level start → IsSearched lines start items 0 stack 0
search_begins lines start items stack outside line = record {
  walks = λ more steps on. (
    steps,
    subst (λ level. Walks (played_items lines more 0) level [] steps) line
        (subst (λ outer. Walks (played_items lines more 0) stack.line outer steps) outside on),
  );
  leads = λ more inside last on. rw (nothing_played lines 0) (rw (← line) (subst (λ outer. Leads
      more stack.line outer inside last) outside on));
  parted = λ more. ap (λ xs. xs ++ played_items lines more 0) (sym (nothing_played lines 0));
  within = (
    let plies : stack.line.plies ≡ 0 = ap (λ (level : Level). level.plies) line in
        omega arith,
    subst (AreWithin 0) (sym outside) tt,
  );
  depth_within = omega arith;
}

-- so many elements and one more
front_more : (items : List Item) (i : ℕ) (item : Item) (more : List Item)
    → slice_get items i ≡ Some item → take (i + 1) items ++ more ≡ take i items ++ item ∷ more
front_more items i item more here =
    ap (λ xs. xs ++ more) (take_more items i item (slice_get_within items i item here)
    ∙ ap (λ (x : Item). take i items ++ x ∷ []) (get_or_from_slice_get items i item item here))
    ∙ append_assoc (take i items) (item ∷ []) more

module _ (lines : Lines) (start : State) (items : List Item) (i : ℕ) (old : LineStack Level)
    (depth next : ℕ) (item : Item) (here : slice_get items i ≡ Some item)
    (so_far : IsSearched lines start items i old depth) (low : next ≤ depth + 1) where
  -- what is played of the elements in front, and of one more
  abbrev front : List Item
  front = played_items lines (take i items) 0

  one_more : (own : List Item) → played_items lines (item ∷ []) depth ≡ own
      → played_items lines (take (i + 1) items) 0 ≡ front ++ own
  one_more own is =
      ap (λ xs. played_items lines xs 0) (sym (append-nil (take (i + 1) items))
      ∙ front_more items i item [] here) ∙ so_far.parted (item ∷ []) ∙ ap (λ xs. front ++ xs) is

  pub search_on : (new : LineStack Level) → IsCounted lines item depth next true
      → GoesOn old item new → IsSearched lines start items (i + 1) new next
  search_on new counted on =
      let grown : played_items lines (take (i + 1) items) 0 ≡ front ++ item ∷ [] =
      one_more (item ∷ []) (counted.0 [] ∙ ap (λ xs. item ∷ xs) (nothing_played lines next)) in
      record {
        walks = λ more left walks.
            let there = on.walks (played_items lines more next) left walks in
            let all =
            so_far.walks (item ∷ more) there.0
            (subst (λ xs. WalksOn old xs there.0) (sym (counted.0 more)) there.1) in (
              all.0,
              rw (front_more items i item more here) all.1,
            );
        leads = λ more inside last leads. subst (λ xs. Leads xs (first_level start) [] inside last)
            (sym (append_assoc front (item ∷ []) more) ∙ ap (λ xs. xs ++ more) (sym grown))
            (so_far.leads (item ∷ more) inside last (on.leads more inside last leads));
        parted = λ more. ap (λ xs. played_items lines xs 0) (front_more items i item more here)
            ∙ so_far.parted (item ∷ more) ∙ ap (λ xs. front ++ xs) (counted.0 more)
            ∙ sym (append_assoc front (item ∷ []) (played_items lines more next))
            ∙ ap (λ xs. xs ++ played_items lines more next) (sym grown);
        within = on.within i so_far.within;
        depth_within = (let d : depth ≤ i = so_far.depth_within in omega arith);
      }

  pub search_past : IsCounted lines item depth next false
      → IsSearched lines start items (i + 1) old next
  search_past counted =
      let kept : played_items lines (take (i + 1) items) 0 ≡ front =
      one_more [] (counted [] ∙ nothing_played lines next) ∙ append-nil front in
      record {
        walks = λ more left walks.
            let all =
            so_far.walks (item ∷ more) left
            (subst (λ xs. WalksOn old xs left) (sym (counted more)) walks) in (
              all.0,
              rw (front_more items i item more here) all.1,
            );
        leads = λ more inside last leads. rw kept (so_far.leads more inside last leads);
        parted = λ more. ap (λ xs. played_items lines xs 0) (front_more items i item more here)
            ∙ so_far.parted (item ∷ more) ∙ ap (λ xs. front ++ xs) (counted more)
            ∙ ap (λ xs. xs ++ played_items lines more next) (sym kept);
        within = within_more i (old.line ∷ around old) so_far.within;
        depth_within = (let d : depth ≤ i = so_far.depth_within in omega arith);
      }

  -- what stands there is played in the line that is reached
  reached_there : IsCounted lines item depth next true
      → IsReached lines start items i (is_inside (around old)) (line_of old.line)
  reached_there counted = (
    leads_to front (first_level start) [] (is_inside (around old)) old.line
        (subst (λ xs. Leads xs (first_level start) [] (is_inside (around old)) old.line)
        (append-nil front) (so_far.leads [] (is_inside (around old)) old.line (refl, refl))),
    (λ word. so_far.parted (MoveText word ∷ [])
        ∙ ap (λ xs. front ++ xs) (counted.1 word []
        ∙ ap (λ xs. MoveText word ∷ xs) (nothing_played lines depth))),
  )

  pub search_ends : (refused : Refused) → IsCounted lines item depth next true
      → IsRefusedHere old item i refused → IsRefusedFrom lines start items refused
  search_ends refused counted reports = record {
    here = rw reports.element (here ∙ ap (λ (x : Item). Some x) reports.word);
    inside = is_inside (around old);
    line = line_of old.line;
    reached = rw reports.element (reached_there counted);
    position = reports.position;
    why = reports.why;
  }

pub search_finds_none : (lines : Lines) (start : State) (items : List Item)
    (stack : LineStack Level) (depth : ℕ) → IsPaired 0 items
    → IsSearched lines start items (length items) stack depth → (fault : Fault)
    → HasLineFault lines start items fault → ⊥
search_finds_none lines start items stack depth paired searched fault met =
    let whole : take (length items) items ++ [] ≡ items =
    append-nil (take (length items) items) ∙ take_all (length items) items (omega arith) in
    let walked =
    searched.walks [] []
    (subst (λ xs. WalksOn stack xs []) (sym (nothing_played lines depth)) refl) in
    runs_from lines start items (turns_of walked.0) fault paired
    (walks_run (played_items lines items 0) (first_level start) [] walked.0
    (subst (λ xs. Walks (played_items lines xs 0) (first_level start) [] walked.0) whole walked.1))
    met

-- ---- the whole

pub element_at : (elements : List Element) (i : ℕ) (d : Element) → i < length elements
    → slice_get (map item_of elements) i ≡ Some (item_of (get_or elements i d))
element_at elements i d low = slice_get-map item_of elements i
    ∙ ap (option_map item_of) (slice_get-get_or elements i d low)

-- what was found, played from the position
abbrev pub IsFoundFrom : Lines → State → List Item → Option Refused → Type 0
IsFoundFrom lines start items found =
    MatchOption found ((fault : Fault) → HasLineFault lines start items fault
    → ⊥) (IsRefusedFrom lines start items)

pub found_at : (lines : Lines) (fen : Option (List ℕ)) (items : List Item) (start : State)
    (found : Option Refused) → IsStart fen start → IsFoundFrom lines start items found
    → MatchOption found ((fault : Fault) → IsFault lines fen items fault
    → ⊥) (IsRefusedAt lines fen items)
found_at lines fen items start (Some refused) is from = (start, is, from)
found_at lines fen items start None is none = λ fault met. elim met [
  | inl bad ↦ start_or_bad fen start is bad.0
  | inr own ↦ none fault
      (subst (λ s. HasLineFault lines s items fault) (one_start fen own.0 start own.1 is) own.2)
]
