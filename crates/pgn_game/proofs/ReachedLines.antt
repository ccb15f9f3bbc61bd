-- The line that elements lead to: it is one, and a word that is refused there is the fault of the
-- game.
use Rattle.pgn_game.proofs.Common.{◌≡◌, ℕ, ◌+◌, ◌-◌, zero, suc, Bool, true, false, ◌&&◌, List, []}
use Rattle.pgn_game.proofs.Common.{◌∷◌, ◌++◌, length, take, map, refl, sym, ap, ◌∙◌, subst, inl}
use Rattle.pgn_game.proofs.Common.{inr, append-nil, length-append, arith, nat_tests, map-append}
use Rattle.pgn_game.proofs.Common.{◌==◌, if◌then◌else◌, State, Item, MoveText, GlyphNumber}
use Rattle.pgn_game.proofs.Common.{CommentText, VariationOpen, VariationClose, IsPaired, is_pass}
use Rattle.pgn_game.proofs.Common.{IsTurn, Fault, IsRefusedTurn, IsMoveFault, HasLineFault}
use Rattle.pgn_game.proofs.Common.{is_inside, gone_on, begun, first_level, Stops, Leads, main_words}
use Rattle.pgn_game.proofs.Common.{played_items, after_move, in_its_place, main_line, is_variation}
use Rattle.pgn_game.proofs.Common.{LeadTo, IsPlayedThere, Level, Lines, Main, All, Played, Passed}
use Rattle.pgn_game.specs.Public.Refusals.{PlayedLine, OneLineIsReached, RefusedWordIsTheFault}
use Rattle.pgn_game.proofs.OneLine.{one_turn}
use Rattle.pgn_game.proofs.RunFacts.{stops_faulty}

-- ---- the walk's own lines

abbrev pub line_of : Level → PlayedLine
line_of level = record { before = level.before; now = level.now; plies = level.plies }

around : (outer : List Level) → is_variation (map line_of outer) ≡ is_inside outer
around [] = refl
around (level ∷ outer) = refl

pub leads_to : (items : List Item) (level : Level) (outer : List Level) (inside : Bool)
    (last : Level) → Leads items level outer inside last
    → LeadTo items (line_of level) (map line_of outer) inside (line_of last)
leads_to [] level outer inside last (within, is) = (within ∙ sym (around outer), ap line_of is)
leads_to (MoveText word ∷ items) level outer inside last (turn, says, leads) = (
  turn,
  subst (λ b. IsTurn b level.now word turn) (sym (around outer)) says,
  leads_to items (gone_on level turn) outer inside last leads,
)
leads_to (GlyphNumber number ∷ items) level outer inside last leads =
    leads_to items level outer inside last leads
leads_to (CommentText text ∷ items) level outer inside last leads =
    leads_to items level outer inside last leads
leads_to (VariationOpen ∷ items) level outer inside last leads =
    leads_to items (begun level) (level ∷ outer) inside last leads
leads_to (VariationClose ∷ items) level [] inside last leads =
    leads_to items level [] inside last leads
leads_to (VariationClose ∷ items) level (next ∷ outer) inside last leads =
    leads_to items next outer inside last leads

-- ---- one line is reached

one_lead : (items : List Item) (line : PlayedLine) (outer : List PlayedLine) (inside within : Bool)
    (last other : PlayedLine)
    → LeadTo items line outer inside last → LeadTo items line outer within other
    → (inside ≡ within) × (last ≡ other)
one_lead [] line outer inside within last other a b = (a.0 ∙ sym b.0, a.1 ∙ sym b.1)
one_lead (MoveText word ∷ items) line outer inside within last other (turn, says, rest) (
  turn2,
  says2,
  rest2,
) =
    let same : turn2 ≡ turn =
    one_turn (is_variation outer && is_pass word) line.now word turn2 turn says2 says in
    one_lead items (after_move line turn) outer inside within last other rest
    (subst (λ t. LeadTo items (after_move line t) outer within other) same rest2)
one_lead (GlyphNumber number ∷ items) line outer inside within last other a b =
    one_lead items line outer inside within last other a b
one_lead (CommentText text ∷ items) line outer inside within last other a b =
    one_lead items line outer inside within last other a b
one_lead (VariationOpen ∷ items) line outer inside within last other a b =
    one_lead items (in_its_place line) (line ∷ outer) inside within last other a b
one_lead (VariationClose ∷ items) line [] inside within last other a b =
    one_lead items line [] inside within last other a b
one_lead (VariationClose ∷ items) line (next ∷ outer) inside within last other a b =
    one_lead items next outer inside within last other a b

pub one_line_reached : OneLineIsReached
one_line_reached lines start items index inside within line other a b =
    one_lead (played_items lines (take index items) 0) (main_line start) [] inside within line other
    a.0 b.0

-- ---- a word that is refused there is the fault

lead_stops : (items : List Item) (level : Level) (outer : List Level) (inside : Bool)
    (last : PlayedLine) (word : List ℕ) (more : List Item) (fault : Fault)
    → LeadTo items (line_of level) (map line_of outer) inside last
    → IsRefusedTurn inside last.now last.plies word fault
    → Stops (items ++ MoveText word ∷ more) level outer fault
lead_stops [] level outer inside last word more fault (within, is) refused =
    inl (subst (λ b. IsRefusedTurn b level.now level.plies word fault) (within ∙ around outer)
    (subst (λ (line : PlayedLine). IsRefusedTurn inside line.now line.plies word fault) is refused))
lead_stops (MoveText own ∷ items) level outer inside last word more fault (
  turn,
  says,
  leads,
) refused = inr (
  turn,
  subst (λ b. IsTurn b level.now own turn) (around outer) says,
  lead_stops items (gone_on level turn) outer inside last word more fault leads refused,
)
lead_stops (GlyphNumber number ∷ items) level outer inside last word more fault leads refused =
    lead_stops items level outer inside last word more fault leads refused
lead_stops (CommentText text ∷ items) level outer inside last word more fault leads refused =
    lead_stops items level outer inside last word more fault leads refused
lead_stops (VariationOpen ∷ items) level outer inside last word more fault leads refused =
    lead_stops items (begun level) (level ∷ outer) inside last word more fault leads refused
lead_stops (VariationClose ∷ items) level [] inside last word more fault leads refused =
    lead_stops items level [] inside last word more fault leads refused
lead_stops (VariationClose ∷ items) level (next ∷ outer) inside last word more fault leads refused =
    lead_stops items next outer inside last word more fault leads refused

pub main_stops : (words : List (List ℕ)) (level : Level) (fault : Fault)
    → Stops (map (λ word. MoveText word) words) level [] fault
    → IsMoveFault level.now level.plies words fault
main_stops [] level fault none = none
main_stops (word ∷ words) level fault (inl refused) = inl refused
main_stops (word ∷ words) level fault (inr (Played m, says, stops)) =
    inr (m, says, main_stops words (gone_on level (Played m)) fault stops)
main_stops (word ∷ words) level fault (inr (Passed, says, stops)) = absurd says

pub stops_from : (lines : Lines) (start : State) (items : List Item) (fault : Fault)
    → IsPaired 0 items → Stops (played_items lines items 0) (first_level start) [] fault
    → HasLineFault lines start items fault
stops_from Main start items fault paired stops =
    main_stops (main_words items 0) (first_level start) fault stops
stops_from All start items fault paired stops = stops_faulty start items fault paired stops

-- how many variations are open after the elements
open_after : List Item → ℕ → ℕ
open_after [] depth = depth
open_after (MoveText word ∷ items) depth = open_after items depth
open_after (GlyphNumber number ∷ items) depth = open_after items depth
open_after (CommentText text ∷ items) depth = open_after items depth
open_after (VariationOpen ∷ items) depth = open_after items (depth + 1)
open_after (VariationClose ∷ items) depth = open_after items (depth - 1)

words_parted : (items more : List Item) (depth : ℕ)
    → main_words (items ++ more) depth ≡ main_words items depth
    ++ main_words more (open_after items depth)
unfolding open_after
words_parted [] more depth = refl
words_parted (MoveText word ∷ items) more depth = by (depth == 0) (words_parted items more depth)
  where
    by : (main : Bool) → main_words (items ++ more) depth
        ≡ main_words items depth ++ main_words more (open_after items depth)
        → (if main then word ∷ main_words (items ++ more) depth
        else main_words (items ++ more) depth)
        ≡ (if main then word ∷ main_words items depth else main_words items depth)
        ++ main_words more (open_after items depth)
    by true is = ap (λ words. word ∷ words) is
    by false is = is
words_parted (GlyphNumber number ∷ items) more depth = words_parted items more depth
words_parted (CommentText text ∷ items) more depth = words_parted items more depth
words_parted (VariationOpen ∷ items) more depth = words_parted items more (depth + 1)
words_parted (VariationClose ∷ items) more depth = words_parted items more (depth - 1)

-- where a word would be played, it is, whatever stands after it
abbrev PlayedThen : Lines → List Item → List ℕ → List Item → Type 0
PlayedThen lines items word more =
    (rest : List Item)
    × (played_items lines (items ++ MoveText word ∷ more) 0
    ≡ played_items lines items 0 ++ MoveText word ∷ rest)

no_longer : (xs : List Item) (x : Item) → xs ≡ xs ++ x ∷ [] → ⊥
no_longer xs x is =
    let sizes : length xs ≡ length (xs ++ x ∷ []) = ap length is in
    let sum : length (xs ++ x ∷ []) ≡ length xs + 1 = length-append xs (x ∷ []) in
    absurd (omega arith)

-- the words of the main line, as elements
abbrev texts : List (List ℕ) → List Item
texts words = map (λ w. MoveText w) words

texts_parted : (front rest : List Item)
    → texts (main_words (front ++ rest) 0) ≡ texts (main_words front 0)
    ++ texts (main_words rest (open_after front 0))
texts_parted front rest = ap texts (words_parted front rest 0)
    ∙ map-append (λ w. MoveText w) (main_words front 0) (main_words rest (open_after front 0))

main_then : (front : List Item) (word : List ℕ) (more : List Item)
    → texts (main_words (front ++ MoveText word ∷ []) 0)
    ≡ texts (main_words front 0) ++ MoveText word ∷ [] → (depth : ℕ)
    → open_after front 0 ≡ depth → PlayedThen Main front word more
main_then front word more there zero is = (
  texts (main_words more 0),
  texts_parted front (MoveText word ∷ more)
      ∙ ap (λ d. texts (main_words front 0) ++ texts (main_words (MoveText word ∷ more) d)) is,
)
main_then front word more there (suc depth) is =
    let deep : (suc depth == 0) ≡ false = grind (arith, nat_tests) in
    let none : main_words (MoveText word ∷ []) (suc depth) ≡ [] =
    ap (λ (b : Bool). if b then word ∷ [] else []) deep in
    let after : texts (main_words (front ++ MoveText word ∷ []) 0) ≡ texts (main_words front 0) =
    texts_parted front (MoveText word ∷ [])
    ∙ ap (λ d. texts (main_words front 0) ++ texts (main_words (MoveText word ∷ []) d)) is
    ∙ ap (λ ws. texts (main_words front 0) ++ texts ws) none
    ∙ append-nil (texts (main_words front 0)) in
    absurd (no_longer (texts (main_words front 0)) (MoveText word) (sym after ∙ there))

played_then : (lines : Lines) (items : List Item) (index : ℕ) (word : List ℕ) (more : List Item)
    → IsPlayedThere lines items index → PlayedThen lines (take index items) word more
played_then All items index word more there = (more, refl)
played_then Main items index word more there =
    main_then (take index items) word more (there word) (open_after (take index items) 0) refl

pub refused_word_is_the_fault : RefusedWordIsTheFault
refused_word_is_the_fault lines start items index inside line (
  leads,
  there,
) word more fault paired refused =
    let after = played_then lines items index word more there in
    stops_from lines start (take index items ++ MoveText word ∷ more) fault paired
    (rw after.1 (lead_stops (played_items lines (take index items) 0) (first_level start) [] inside
    line word after.0 fault leads refused))
