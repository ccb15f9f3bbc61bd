-- Facts that are taken as they are, or denied.
use Rattle.pgn_criteria.proofs.Common.{◌↔◌, Bool, true, false, List, [], ◌∷◌, Taken, AllTaken}
use Rattle.pgn_criteria.proofs.Common.{AllClaims, Stated}

-- what is taken of facts that are the same is the same
pub same_taken : {A B : Type 0} (denied : Bool) → A ↔ B → Taken denied A ↔ Taken denied B
same_taken false same = same
same_taken true same = (λ none b. none (same.1 b), λ none a. none (same.0 a))

-- and so it is of all claims of a list
pub all_same_taken : {C : Type 0} (Such A B : C → Type 0)
    → ((claim : C) → Such claim → A claim ↔ B claim) → (stated : List (Stated C))
    → AllClaims Such stated → AllTaken A stated ↔ AllTaken B stated
all_same_taken Such A B same [] such = (λ all. tt, λ all. tt)
all_same_taken Such A B same (one ∷ more) such =
    let here = same_taken one.is_denied (same one.claim such.0) in
    let there = all_same_taken Such A B same more such.1 in
    (λ all. (here.0 all.0, there.0 all.1), λ all. (here.1 all.0, there.1 all.1))

pub any_claims : {C : Type 0} (stated : List (Stated C)) → AllClaims (λ claim. Unit {0}) stated
any_claims [] = tt
any_claims (one ∷ more) = (tt, any_claims more)
