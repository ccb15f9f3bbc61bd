-- Conditions on the first moves of a game, decided by its beginning.
use Rattle.pgn_criteria.proofs.Common.{◌↔◌, ◌⊎◌, ◌+◌, ◌<◌, ◌≤◌, ◌≡◌, ℕ, zero, suc, List, [], ◌∷◌}
use Rattle.pgn_criteria.proofs.Common.{length, map, Option, inl, inr, refl, sym, ap, subst, ◌∙◌}
use Rattle.pgn_criteria.proofs.Common.{arith, slice_get, State, Replay, IsSomeReplay, Conditions}
use Rattle.pgn_criteria.proofs.Common.{Heading, AllTaken, IsSoOfGame, IsSoOfMoves, AllHold}
use Rattle.pgn_criteria.proofs.Common.{HoldsThere, IsMetBy, SomeHold, Meets, FitMoves, GoesOnBy}
use Rattle.pgn_criteria.proofs.Common.{words_of, Compares, Comparison, AsksWithin, AllClaims}
use Rattle.pgn_criteria.proofs.Common.{AllAskWithin, EachAsksWithin, on_positions, Stated}
use Rattle.pgn_criteria.proofs.Common.{GameClaim, Moves, Plies, MoveClaim, Next, Played, Setup}
use Rattle.pgn_text.specs.Public.Games.{Item}
use Rattle.pgn_game.specs.Public.Beginnings.{IsGameBeginning}
use Rattle.pgn_game.proofs.Beginnings.{AgreeAt, beginning_agrees}
use Rattle.pgn_criteria.specs.Private.Stages.{EachIs, FitTheSame}
use Rattle.pgn_criteria.proofs.SpanFacts.{spans_same, no_spans_hold}
use Rattle.pgn_criteria.proofs.TakenFacts.{all_same_taken, any_claims}
use Rattle.pgn_criteria.specs.declared.compare.Comparison.TheVariants as compared

-- where two replays agree before so many plies, the same words fit
fit_on : (most plies : ℕ) (replay other : Replay)
    → ((i : ℕ) → i < most → AgreeAt replay.positions replay.played other.positions other.played i)
    → (words : List (List ℕ)) → plies + length words ≤ most → FitMoves replay plies words
    → FitMoves other plies words
fit_on most plies replay other agree [] within fit = tt
fit_on most plies replay other agree (word ∷ more) within fit =
    let here = agree plies (omega (arith, within)) in (
      record {
        position = fit.0.position;
        move = fit.0.move;
        here = sym here.0 ∙ fit.0.here;
        played = sym here.1 ∙ fit.0.played;
        fits = fit.0.fits;
      },
      fit_on most (plies + 1) replay other agree more (omega (arith, within)) fit.1,
    )

-- lists that agree up to a place are of one length, or reach beyond it
counted_alike : {A : Type 0} (a b : List A) (n : ℕ)
    → ((i : ℕ) → i ≤ n → slice_get a i ≡ slice_get b i)
    → (length a ≡ length b) ⊎ ((n < length a) × (n < length b))
counted_alike [] [] n same = inl refl
counted_alike [] (y ∷ b) n same = let none = same 0 (omega arith) in absurd (cc)
counted_alike (x ∷ a) [] n same = let none = same 0 (omega arith) in absurd (cc)
counted_alike (x ∷ a) (y ∷ b) zero same = inr (omega arith, omega arith)
counted_alike (x ∷ a) (y ∷ b) (suc n) same =
    elim (counted_alike a b n (λ i up. same (suc i) (omega (arith, up)))) [
      | inl alike ↦ inl (ap suc alike)
      | inr beyond ↦ inr (omega (arith, beyond.0), omega (arith, beyond.1))
    ]

-- such lengths are compared alike with the place
compared_alike : (comparison : Comparison) (a b n : ℕ) → (a ≡ b) ⊎ ((n < a) × (n < b))
    → Compares comparison a n ↔ Compares comparison b n
compared_alike comparison a b n (inl same) = (
  λ holds. subst (λ m. Compares comparison m n) same holds,
  λ holds. subst (λ m. Compares comparison m n) (sym same) holds,
)
compared_alike compared.Equal a b n (inr beyond) =
    (λ e. absurd (omega (arith, e, beyond.0)), λ e. absurd (omega (arith, e, beyond.1)))
compared_alike compared.Unequal a b n (inr beyond) =
    (λ h e. omega (arith, e, beyond.1), λ h e. omega (arith, e, beyond.0))
compared_alike compared.Less a b n (inr beyond) =
    (λ h. absurd (omega (arith, h, beyond.0)), λ h. absurd (omega (arith, h, beyond.1)))
compared_alike compared.LessOrEqual a b n (inr beyond) =
    (λ h. absurd (omega (arith, h, beyond.0)), λ h. absurd (omega (arith, h, beyond.1)))
compared_alike compared.Greater a b n (inr beyond) = (λ h. beyond.1, λ h. beyond.0)
compared_alike compared.GreaterOrEqual a b n (inr beyond) =
    (λ h. omega (arith, beyond.1), λ h. omega (arith, beyond.0))

-- where two replays agree before so many plies, so many first moves fit the same
pub agreed_fits : (most : ℕ) (replay other : Replay)
    → ((i : ℕ) → i < most → AgreeAt replay.positions replay.played other.positions other.played i)
    → FitTheSame most replay other
agreed_fits most replay other agree = record {
  words = λ words within. (
    fit_on most 0 replay other agree words (omega (arith, within)),
    fit_on most 0 other replay (λ i less.
        (sym (agree i less).0, sym (agree i less).1)) words (omega (arith, within)),
  );
  counts = λ comparison count within.
      compared_alike comparison (length replay.played) (length other.played) count
      (counted_alike replay.played other.played count (λ i up.
      (agree i (omega (arith, up, within))).1));
}

-- what a beginning fits each replay of the game fits
pub beginning_fits : (fen : Option (List ℕ)) (items : List Item) (most : ℕ)
    (beginning replay : Replay) → IsGameBeginning fen items most beginning
    → IsSomeReplay fen items replay → FitTheSame most beginning replay
beginning_fits fen items most beginning replay is whole =
    agreed_fits most beginning replay (beginning_agrees fen items most beginning replay is whole)

-- where alternatives are met with both replays or with neither, some of them is met with both or
-- with neither
some_hold_there : (heading : Heading) (replay other : Replay) (ply : ℕ) (P : State)
    (Such : Conditions → Type 0)
    → ((asked : Conditions) → Such asked → IsMetBy heading replay ply P asked
    ↔ IsMetBy heading other ply P asked)
    → (alternatives : List Conditions) → EachIs Such alternatives
    → SomeHold heading replay ply P alternatives ↔ SomeHold heading other ply P alternatives
some_hold_there heading replay other ply P Such same [] such = (λ hold. hold, λ hold. hold)
some_hold_there heading replay other ply P Such same (asked ∷ more) such =
    let here = same asked such.0 in
    let there = some_hold_there heading replay other ply P Such same more such.1 in (
      λ hold. elim hold [ inl met ↦ inl (here.0 met) | inr some ↦ inr (there.0 some) ],
      λ hold. elim hold [ inl met ↦ inl (here.1 met) | inr some ↦ inr (there.1 some) ],
    )

-- so what asks for no more first moves than a beginning has
so_within : (heading : Heading) (most : ℕ) (replay other : Replay) → FitTheSame most replay other
    → (claim : GameClaim (List ℕ)) → AsksWithin most claim
    → IsSoOfGame heading replay claim ↔ IsSoOfGame heading other claim
so_within heading most replay other same (Moves words) within = same.words (words_of words) within
so_within heading most replay other same (Plies comparison count) within =
    same.counts comparison count within
so_within heading most replay other same claim within = (λ holds. holds, λ holds. holds)

met_within : (heading : Heading) (most : ℕ) (replay other : Replay) → FitTheSame most replay other
    → (ply : ℕ) (P : State) (asked : Conditions) → AllAskWithin most asked
    → IsMetBy heading replay ply P asked → IsMetBy heading other ply P asked
met_within heading most replay other same ply P asked within met = (
  (
    (all_same_taken (AsksWithin most) (IsSoOfGame heading replay) (IsSoOfGame heading other)
        (so_within heading most replay other same) asked.games within.0).0 met.0.0,
    subst (AllTaken (IsSoOfMoves other ply)) (sym within.1) tt,
    met.0.2,
  ),
  no_spans_hold (HoldsThere heading other asked) ply asked.spans within.2,
)

same_back : (most : ℕ) (replay other : Replay) → FitTheSame most replay other
    → FitTheSame most other replay
same_back most replay other same = record {
  words = λ words within. let both = same.words words within in (both.1, both.0);
  counts = λ comparison count within. let both = same.counts comparison count within in
      (both.1, both.0);
}

pub within_hold_there : (heading : Heading) (most : ℕ) (replay other : Replay)
    → FitTheSame most replay other
    → (ply : ℕ) (P : State) (alternatives : List Conditions) → EachAsksWithin most alternatives
    → SomeHold heading replay ply P alternatives ↔ SomeHold heading other ply P alternatives
within_hold_there heading most replay other same ply P alternatives within =
    some_hold_there heading replay other ply P (AllAskWithin most)
    (λ asked asks. (
      met_within heading most replay other same ply P asked asks,
      met_within heading most other replay (same_back most replay other same) ply P asked asks,
    ))
    alternatives within

-- and all that is so of a replay is so of another with the same positions and moves
fits_there : (replay other : Replay) → replay.positions ≡ other.positions
    → replay.played ≡ other.played → (plies : ℕ) (words : List (List ℕ))
    → FitMoves replay plies words → FitMoves other plies words
fits_there replay other positions played plies [] fit = tt
fits_there replay other positions played plies (word ∷ more) fit = (
  record {
    position = fit.0.position;
    move = fit.0.move;
    here = ap (λ ps. slice_get ps plies) (sym positions) ∙ fit.0.here;
    played = ap (λ ms. slice_get ms plies) (sym played) ∙ fit.0.played;
    fits = fit.0.fits;
  },
  fits_there replay other positions played (plies + 1) more fit.1,
)

goes_there : (replay other : Replay) → replay.positions ≡ other.positions
    → replay.played ≡ other.played → (plies : ℕ) (word : List ℕ)
    → GoesOnBy replay plies word → GoesOnBy other plies word
goes_there replay other positions played plies word goes = record {
  position = goes.position;
  move = goes.move;
  text = goes.text;
  here = ap (λ ps. slice_get ps plies) (sym positions) ∙ goes.here;
  played = ap (λ ms. slice_get ms plies) (sym played) ∙ goes.played;
  is_text = goes.is_text;
  like = goes.like;
}

game_alike : (heading : Heading) (replay other : Replay) → replay.positions ≡ other.positions
    → replay.played ≡ other.played → (claim : GameClaim (List ℕ)) → IsSoOfGame heading replay claim
    → IsSoOfGame heading other claim
game_alike heading replay other positions played (Moves words) so =
    fits_there replay other positions played 0 (words_of words) so
game_alike heading replay other positions played (Plies comparison count) so =
    subst (λ ms. Compares comparison (length ms) count) played so
game_alike heading replay other positions played claim so = so

moves_alike : (replay other : Replay) → replay.positions ≡ other.positions
    → replay.played ≡ other.played → (ply : ℕ)
    → (claim : MoveClaim (List ℕ)) → IsSoOfMoves replay ply claim → IsSoOfMoves other ply claim
moves_alike replay other positions played ply (Next word) so =
    goes_there replay other positions played ply word so
moves_alike replay other positions played ply (Played word) so =
    (so.0, so.1, goes_there replay other positions played so.0 word so.2)
moves_alike replay other positions played ply (Setup setup) so =
    (so.0, ap (λ ps. slice_get ps ply) (sym positions) ∙ so.1, so.2)

hold_alike : (heading : Heading) (replay other : Replay) → replay.positions ≡ other.positions
    → replay.played ≡ other.played
    → (ply : ℕ) (P : State) (asked : Conditions) → AllHold heading replay ply P asked
    → AllHold heading other ply P asked
hold_alike heading replay other positions played ply P asked hold = (
  (all_same_taken (λ claim. Unit {0}) (IsSoOfGame heading replay) (IsSoOfGame heading other)
      (λ claim any. (
        game_alike heading replay other positions played claim,
        game_alike heading other replay (sym positions) (sym played) claim,
      ))
      asked.games (any_claims asked.games)).0 hold.0,
  (all_same_taken (λ claim. Unit {0}) (IsSoOfMoves replay ply) (IsSoOfMoves other ply)
      (λ claim any. (
        moves_alike replay other positions played ply claim,
        moves_alike other replay (sym positions) (sym played) ply claim,
      ))
      asked.moves (any_claims asked.moves)).0 hold.1,
  hold.2,
)

there_alike : (heading : Heading) (replay other : Replay) → replay.positions ≡ other.positions
    → replay.played ≡ other.played
    → (asked : Conditions) (ply : ℕ) → HoldsThere heading replay asked ply
    → HoldsThere heading other asked ply
there_alike heading replay other positions played asked ply holds = (
  holds.0,
  ap (λ ps. slice_get ps ply) (sym positions) ∙ holds.1,
  hold_alike heading replay other positions played ply holds.0 asked holds.2,
)

some_alike : (heading : Heading) (replay other : Replay) → replay.positions ≡ other.positions
    → replay.played ≡ other.played → (ply : ℕ) (P : State) (alternatives : List Conditions)
    → SomeHold heading replay ply P alternatives → SomeHold heading other ply P alternatives
some_alike heading replay other positions played ply P [] hold = hold
some_alike heading replay other positions played ply P (asked ∷ more) (inl met) = inl (
  hold_alike heading replay other positions played ply P asked met.0,
  spans_same (HoldsThere heading replay asked) (HoldsThere heading other asked)
      (λ n. (
        there_alike heading replay other positions played asked n,
        there_alike heading other replay (sym positions) (sym played) asked n,
      )) ply asked.spans met.1,
)
some_alike heading replay other positions played ply P (asked ∷ more) (inr some) =
    inr (some_alike heading replay other positions played ply P more some)

pub met_alike : (heading : Heading) (replay other : Replay) → replay.positions ≡ other.positions
    → replay.played ≡ other.played
    → (ply : ℕ) (alternatives : List Conditions) → Meets heading replay ply alternatives
    → Meets heading other ply alternatives
met_alike heading replay other positions played ply alternatives met = record {
  position = met.position;
  here = ap (λ ps. slice_get ps ply) (sym positions) ∙ met.here;
  hold = some_alike heading replay other positions played ply met.position alternatives met.hold;
}

-- conditions on positions ask for no moves
pub positions_ask_none : (asked : Conditions) → AllAskWithin 0 (on_positions asked)
positions_ask_none asked = (tt, refl, refl)

pub none_of_none : {V : Type 0} (value : V → Conditions) (left : List V)
    → EachAsksWithin 0 (map (λ a. on_positions (value a)) left)
none_of_none value [] = tt
none_of_none value (a ∷ left) = (positions_ask_none (value a), none_of_none value left)

-- what asks within so many asks within more
pub asks_more : (least most : ℕ) → least ≤ most → (claim : GameClaim (List ℕ))
    → AsksWithin least claim → AsksWithin most claim
asks_more least most up (Moves words) within = omega (arith, within, up)
asks_more least most up (Plies comparison count) within = omega (arith, within, up)
asks_more least most up claim within = tt

pub games_ask_more : (least most : ℕ) → least ≤ most → (games : List (Stated (GameClaim (List ℕ))))
    → AllClaims (AsksWithin least) games → AllClaims (AsksWithin most) games
games_ask_more least most up [] within = tt
games_ask_more least most up (one ∷ more) within =
    (asks_more least most up one.claim within.0, games_ask_more least most up more within.1)

pub all_ask_more : (least most : ℕ) → least ≤ most → (asked : Conditions) → AllAskWithin least asked
    → AllAskWithin most asked
all_ask_more least most up asked within =
    (games_ask_more least most up asked.games within.0, within.1, within.2)
