-- All lines are played in one way at most, or have a fault.
use Rattle.pgn_game.proofs.Common.{◌≡◌, ℕ, ◌+◌, ◌-◌, ◌<◌, Bool, true, false, ◌&&◌, List, [], ◌∷◌}
use Rattle.pgn_game.proofs.Common.{◌++◌, refl, sym, ap, ◌∙◌, subst, inl, inr, append_assoc}
use Rattle.pgn_game.proofs.Common.{append-nil, arith, nat_tests, ◌==◌, if◌then◌else◌, State, after}
use Rattle.pgn_game.proofs.Common.{Move, Item, VariationClose, main_words, IsMainLine, Fault}
use Rattle.pgn_game.proofs.Common.{RefusesTurn, IsLineFault, Line, LineEnd, ThenMove, ThenGlyph}
use Rattle.pgn_game.proofs.Common.{ThenComment, ThenVariation, spelled, own_words, is_pass}
use Rattle.pgn_game.proofs.Common.{SaysTurn, after_turn, IsPlayed, LineMove, Played, Passed}
use Rattle.pgn_game.proofs.Common.{suc, length}
use Rattle.pgn_game.proofs.OneWord.{named_or_refused, one_refused}

pub one_turn : (passes : Bool) (now : State) (word : List ℕ) (turn other : LineMove)
    → SaysTurn passes now word turn → SaysTurn passes now word other → turn ≡ other
one_turn true now word (Played m) other a b = absurd a
one_turn true now word Passed (Played n) a b = absurd b
one_turn true now word Passed Passed a b = refl
one_turn false now word (Played m) (Played n) a b = ap (λ k. Played k) (b.only m a.named)
one_turn false now word (Played m) Passed a b = absurd b
one_turn false now word Passed other a b = absurd a

pub said_or_refused : (passes : Bool) (now : State) (plies : ℕ) (word : List ℕ) (turn : LineMove)
    (fault : Fault) → SaysTurn passes now word turn → RefusesTurn passes now plies word fault → ⊥
said_or_refused true now plies word (Played m) fault a refused = a
said_or_refused true now plies word Passed fault a refused = a refused.0
said_or_refused false now plies word (Played m) fault a refused =
    named_or_refused now plies word m fault a refused
said_or_refused false now plies word Passed fault a refused = a

pub one_playing : (line : Line) (inside : Bool) (before now : State) (turns others : List LineMove)
    → IsPlayed inside before now line turns → IsPlayed inside before now line others
    → turns ≡ others
one_playing LineEnd inside before now turns others a b = a ∙ sym b
one_playing (ThenMove word line) inside before now turns others (turn, more, is, says, rest) (
  other,
  more2,
  is2,
  says2,
  rest2,
) =
    let same : other ≡ turn = one_turn (inside && is_pass word) now word other turn says2 says in
    is ∙ ap (λ ts. turn
    ∷ ts) (one_playing line inside now (after_turn now turn) more more2 rest
    (subst (λ t. IsPlayed inside now (after_turn now t) line more2) same rest2))
    ∙ ap (λ t. t ∷ more2) (sym same) ∙ sym is2
one_playing (ThenGlyph number line) inside before now turns others a b =
    one_playing line inside before now turns others a b
one_playing (ThenComment text line) inside before now turns others a b =
    one_playing line inside before now turns others a b
one_playing (ThenVariation inner line) inside before now turns others (
  own,
  more,
  is,
  within,
  rest,
) (own2, more2, is2, within2, rest2) =
    is ∙ ap (λ ts. ts ++ more) (one_playing inner true before before own own2 within within2)
    ∙ ap (λ ts. own2 ++ ts) (one_playing line inside before now more more2 rest rest2) ∙ sym is2

one_refusal : (passes : Bool) (now : State) (plies : ℕ) (word : List ℕ) (fault other : Fault)
    → RefusesTurn passes now plies word fault → RefusesTurn passes now plies word other
    → fault ≡ other
one_refusal true now plies word fault other a b = a.1 ∙ sym b.1
one_refusal false now plies word fault other a b = one_refused now plies word fault other a b

pub played_or_faulty : (line : Line) (inside : Bool) (before now : State) (plies : ℕ)
    (turns : List LineMove) (fault : Fault)
    → IsPlayed inside before now line turns → IsLineFault inside before now plies line fault → ⊥
played_or_faulty LineEnd inside before now plies turns fault a met = met
played_or_faulty (ThenMove word line) inside before now plies turns fault (
  turn,
  more,
  is,
  says,
  rest,
) (inl refused) = said_or_refused (inside && is_pass word) now plies word turn fault says refused
played_or_faulty (ThenMove word line) inside before now plies turns fault (
  turn,
  more,
  is,
  says,
  rest,
) (inr (other, says2, met)) =
    played_or_faulty line inside now (after_turn now turn) (plies + 1) more fault rest
    (rw (← (one_turn (inside && is_pass word) now word other turn says2 says)) met)
played_or_faulty (ThenGlyph number line) inside before now plies turns fault a met =
    played_or_faulty line inside before now plies turns fault a met
played_or_faulty (ThenComment text line) inside before now plies turns fault a met =
    played_or_faulty line inside before now plies turns fault a met
played_or_faulty (ThenVariation inner line) inside before now plies turns fault (
  own,
  more,
  is,
  within,
  rest,
) (inl met) = played_or_faulty inner true before before (plies - 1) own fault within met
played_or_faulty (ThenVariation inner line) inside before now plies turns fault (
  own,
  more,
  is,
  within,
  rest,
) (inr (own2, within2, met)) = played_or_faulty line inside before now plies more fault rest met

pub one_fault_of : (line : Line) (inside : Bool) (before now : State) (plies : ℕ)
    (fault other : Fault) → IsLineFault inside before now plies line fault
    → IsLineFault inside before now plies line other → fault ≡ other
one_fault_of LineEnd inside before now plies fault other a b = absurd a
one_fault_of (ThenMove word line) inside before now plies fault other (inl a) (inl b) =
    one_refusal (inside && is_pass word) now plies word fault other a b
one_fault_of (ThenMove word line) inside before now plies fault other (inl a)
    (inr (turn, says, b)) =
    absurd (said_or_refused (inside && is_pass word) now plies word turn fault says a)
one_fault_of (ThenMove word line) inside before now plies fault other (inr (turn, says, a))
    (inl b) = absurd (said_or_refused (inside && is_pass word) now plies word turn other says b)
one_fault_of (ThenMove word line) inside before now plies fault other (inr (turn, says, a))
    (inr (turn2, says2, b)) =
    one_fault_of line inside now (after_turn now turn) (plies + 1) fault other a
    (rw (← (one_turn (inside && is_pass word) now word turn2 turn says2 says)) b)
one_fault_of (ThenGlyph number line) inside before now plies fault other a b =
    one_fault_of line inside before now plies fault other a b
one_fault_of (ThenComment text line) inside before now plies fault other a b =
    one_fault_of line inside before now plies fault other a b
one_fault_of (ThenVariation inner line) inside before now plies fault other (inl a) (inl b) =
    one_fault_of inner true before before (plies - 1) fault other a b
one_fault_of (ThenVariation inner line) inside before now plies fault other (inl a)
    (inr (own, played, b)) =
    absurd (played_or_faulty inner true before before (plies - 1) own fault played a)
one_fault_of (ThenVariation inner line) inside before now plies fault other (inr (own, played, a))
    (inl b) = absurd (played_or_faulty inner true before before (plies - 1) own other played b)
one_fault_of (ThenVariation inner line) inside before now plies fault other (inr (own, played, a))
    (inr (own2, played2, b)) = one_fault_of line inside before now plies fault other a b

pub main_of_all : (line : Line) (before now : State) (turns : List LineMove)
    → IsPlayed false before now line turns → (positions : List State) × (played : List Move)
    × IsMainLine now (own_words line) positions played
main_of_all LineEnd before now turns a = (now ∷ [], [], (refl, refl))
main_of_all (ThenMove word line) before now turns (Played m, more, is, says, rest) =
    let there = main_of_all line now (after now m) more rest in
    (now ∷ there.0, m ∷ there.1, (m, there.0, there.1, refl, refl, says, there.2))
main_of_all (ThenMove word line) before now turns (Passed, more, is, says, rest) = absurd says
main_of_all (ThenGlyph number line) before now turns a = main_of_all line before now turns a
main_of_all (ThenComment text line) before now turns a = main_of_all line before now turns a
main_of_all (ThenVariation inner line) before now turns (own, more, is, within, rest) =
    main_of_all line before now more rest

-- ---- its own moves are those of depth 0

-- inside a variation no move is one of the main line
skipped : (line : Line) (more : List Item) (depth : ℕ) → 0 < depth
    → main_words (spelled line ++ more) depth ≡ main_words more depth
skipped LineEnd more depth inside = refl
skipped (ThenMove word line) more depth inside =
    let deep : (depth == 0) ≡ false = grind (arith, nat_tests) in
    ap (λ (b : Bool). if b then word ∷ main_words (spelled line ++ more) depth
    else main_words (spelled line ++ more) depth) deep ∙ skipped line more depth inside
skipped (ThenGlyph number line) more depth inside = skipped line more depth inside
skipped (ThenComment text line) more depth inside = skipped line more depth inside
skipped (ThenVariation inner line) more depth inside =
    let back : depth + 1 - 1 ≡ depth = omega arith in
    ap (λ items. main_words items (depth + 1))
    (append_assoc (spelled inner) (VariationClose ∷ spelled line) more)
    ∙ skipped inner (VariationClose ∷ (spelled line ++ more)) (depth + 1) (omega arith)
    ∙ ap (main_words (spelled line ++ more)) back ∙ skipped line more depth inside

own_first : (line : Line) (more : List Item)
    → main_words (spelled line ++ more) 0 ≡ own_words line ++ main_words more 0
own_first LineEnd more = refl
own_first (ThenMove word line) more = ap (λ words. word ∷ words) (own_first line more)
own_first (ThenGlyph number line) more = own_first line more
own_first (ThenComment text line) more = own_first line more
own_first (ThenVariation inner line) more =
    ap (λ items. main_words items 1)
    (append_assoc (spelled inner) (VariationClose ∷ spelled line) more)
    ∙ skipped inner (VariationClose ∷ (spelled line ++ more)) 1 (omega arith) ∙ own_first line more

pub main_words_of : (line : Line) → main_words (spelled line) 0 ≡ own_words line
main_words_of line = ap (λ items. main_words items 0) (sym (append-nil (spelled line)))
    ∙ own_first line [] ∙ append-nil (own_words line)

-- a word that is played is a ply
pub plies_played : (now : State) (words : List (List ℕ)) (positions : List State)
    (played : List Move) → IsMainLine now words positions played → length words ≡ length played
plies_played now [] positions played (_, none) = sym (ap length none)
plies_played now (word ∷ words) positions played (m, later, more, _, is, _, rest) =
    ap suc (plies_played (after now m) words later more rest) ∙ sym (ap length is)
