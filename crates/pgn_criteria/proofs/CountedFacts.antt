-- What conditions say of a game that is known by its heading and the number of its plies.
use Rattle.pgn_criteria.proofs.Common.{◌≡◌, ◌↔◌, ◌≤◌, ◌+◌, ℕ, suc, Bool, false, List, [], ◌∷◌}
use Rattle.pgn_criteria.proofs.Common.{length, IsTrue, sym, subst, arith, Replay, Conditions}
use Rattle.pgn_criteria.proofs.Common.{Heading, Taken, AllTaken, IsSoOfGame, Compares, AllClaims}
use Rattle.pgn_criteria.proofs.Common.{AsksWithin, AllAskWithin, Stated, GameClaim, Moves, Plies}
use Rattle.pgn_criteria.proofs.Common.{words_of}
use Rattle.pgn_criteria.specs.Private.Stages.{AllOfGame}
use Rattle.pgn_criteria.specs.Private.Counted.{SaysOfCounted, AllOfCounted, IsFreeOfWords}
use Rattle.pgn_criteria.specs.Private.Counted.{AllOfBegun, AreFreeOfWords, AsksWords, SaysOfBegun}
use Rattle.pgn_criteria.specs.Private.Stages.{FitTheSame}
use Rattle.pgn_criteria.proofs.TakenFacts.{same_taken}
use Rattle.pgn_criteria.proofs.BeginningFacts.{asks_more, games_ask_more}

module _ (heading : Heading) (replay : Replay) (plies : ℕ) (size : length replay.played ≡ plies)
  where
    -- what is said of a game is said of what is known of it
    counted_of_one : (denied : Bool) (claim : GameClaim (List ℕ))
        → Taken denied (IsSoOfGame heading replay claim)
        → SaysOfCounted heading plies denied claim
    counted_of_one denied (Moves words) says = tt
    counted_of_one denied (Plies comparison count) says =
        subst (λ n. Taken denied (Compares comparison n count)) size says
    counted_of_one denied claim says = says

    counted_of_all : (games : List (Stated (GameClaim (List ℕ))))
        → AllTaken (IsSoOfGame heading replay) games → AllOfCounted heading plies games
    counted_of_all [] says = tt
    counted_of_all (one ∷ more) says =
        (counted_of_one one.is_denied one.claim says.0, counted_of_all more says.1)

    pub not_counted : (conditions : Conditions) (r : Bool) → r ≡ false
        → (IsTrue r ↔ AllOfCounted heading plies conditions.games)
        → IsTrue r ↔ AllOfGame heading replay conditions
    not_counted conditions r fails reports =
        (λ t. absurd (cc), λ all. reports.1 (counted_of_all conditions.games all))

    -- and the other way where no text of a move is spoken of
    one_of_counted : (denied : Bool) (claim : GameClaim (List ℕ)) → IsFreeOfWords claim
        → SaysOfCounted heading plies denied claim → Taken denied (IsSoOfGame heading replay claim)
    one_of_counted denied (Moves words) free says = absurd free
    one_of_counted denied (Plies comparison count) free says =
        subst (λ n. Taken denied (Compares comparison n count)) (sym size) says
    one_of_counted denied claim free says = says

    pub games_of_counted : (games : List (Stated (GameClaim (List ℕ))))
        → AllClaims IsFreeOfWords games → AllOfCounted heading plies games
        → AllTaken (IsSoOfGame heading replay) games
    games_of_counted [] free says = tt
    games_of_counted (one ∷ more) free says = (
      one_of_counted one.is_denied one.claim free.0 says.0,
      games_of_counted more free.1 says.1,
    )

    -- and of a game whose first moves are those of a beginning
    begun_of_one : (most : ℕ) (beginning : Replay) → FitTheSame most beginning replay
        → (denied : Bool) (claim : GameClaim (List ℕ)) → AsksWords most claim
        → SaysOfBegun heading plies beginning denied claim
        ↔ Taken denied (IsSoOfGame heading replay claim)
    begun_of_one most beginning fits denied (Moves words) within =
        same_taken denied (fits.words (words_of words) within)
    begun_of_one most beginning fits denied (Plies comparison count) within = (
      λ says. subst (λ n. Taken denied (Compares comparison n count)) (sym size) says,
      λ says. subst (λ n. Taken denied (Compares comparison n count)) size says,
    )
    begun_of_one most beginning fits denied claim within = (λ says. says, λ says. says)

    pub begun_of_all : (most : ℕ) (beginning : Replay) → FitTheSame most beginning replay
        → (games : List (Stated (GameClaim (List ℕ)))) → AllClaims (AsksWords most) games
        → AllOfBegun heading plies beginning games ↔ AllTaken (IsSoOfGame heading replay) games
    begun_of_all most beginning fits [] within = (λ says. tt, λ says. tt)
    begun_of_all most beginning fits (one ∷ more) within =
        let here = begun_of_one most beginning fits one.is_denied one.claim within.0 in
        let there = begun_of_all most beginning fits more within.1 in (
          λ says. (here.0 says.0, there.0 says.1),
          λ says. (here.1 says.0, there.1 says.1),
        )

    pub all_of_counted : (conditions : Conditions) → AreFreeOfWords conditions
        → AllOfCounted heading plies conditions.games → AllOfGame heading replay conditions
    all_of_counted conditions free says = games_of_counted conditions.games free.0 says

-- what asks for so many words asks for no more than more of them
pub word_asks_more : (least most : ℕ) → least ≤ most → (claim : GameClaim (List ℕ))
    → AsksWords least claim → AsksWords most claim
word_asks_more least most up (Moves words) few = omega (arith, few, up)
word_asks_more least most up claim few = tt

pub words_ask_more : (least most : ℕ) → least ≤ most → (games : List (Stated (GameClaim (List ℕ))))
    → AllClaims (AsksWords least) games → AllClaims (AsksWords most) games
words_ask_more least most up [] within = tt
words_ask_more least most up (one ∷ more) within =
    (word_asks_more least most up one.claim within.0, words_ask_more least most up more within.1)

-- how many first moves are asked for, where no text of one is spoken of
claim_asks : (claim : GameClaim (List ℕ)) → IsFreeOfWords claim → (most : ℕ) × AsksWithin most claim
claim_asks (Moves words) free = absurd free
claim_asks (Plies comparison count) free = (suc count, omega arith)
claim_asks claim free = (0, tt)

games_ask : (games : List (Stated (GameClaim (List ℕ)))) → AllClaims IsFreeOfWords games
    → (most : ℕ) × AllClaims (AsksWithin most) games
games_ask [] free = (0, tt)
games_ask (one ∷ more) free =
    let own = claim_asks one.claim free.0 in
    let rest = games_ask more free.1 in (
      own.0 + rest.0,
      (
        asks_more own.0 (own.0 + rest.0) (omega arith) one.claim own.1,
        games_ask_more rest.0 (own.0 + rest.0) (omega arith) more rest.1,
      ),
    )

pub all_ask : (conditions : Conditions) → AreFreeOfWords conditions
    → (most : ℕ) × AllAskWithin most conditions
all_ask conditions free =
    let asks = games_ask conditions.games free.0 in (asks.0, (asks.1, free.1, free.2))
