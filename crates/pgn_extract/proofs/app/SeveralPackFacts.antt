-- Searches of packs, one after the other.
use Rattle.pgn_extract.proofs.Common.{◌≡◌, ◌++◌, ◌<◌, ◌+◌, ℕ, List, [], ◌∷◌, drop, get_or, length}
use Rattle.pgn_extract.proofs.Common.{map, take, refl, sym, subst, StopsAmongPacks, StopsAtPack}
use Rattle.pgn_extract.proofs.Common.{Aim, Passage, Stream, AtPath, SearchesPath, SearchesPaths}
use Rattle.pgn_extract.proofs.Common.{PackFailure}
use Rattle.pgn_extract.proofs.app.SeveralFacts.{parted_there, path_there}

-- one path more
paths_searched : (aim : Aim) (known : List ℕ → AtPath) (before : List (List ℕ)) (path : List ℕ)
    (first there last first_err there_err last_err : Stream)
    → SearchesPaths aim known before (record { old = first; new = there })
    (record { old = first_err; new = there_err })
    → SearchesPath aim path (known path) (record { old = there; new = last })
    (record { old = there_err; new = last_err })
    → SearchesPaths aim known (before ++ path ∷ []) (record { old = first; new = last })
    (record { old = first_err; new = last_err })
paths_searched aim known [] path first there last first_err there_err last_err are is = (
  last,
  last_err,
  subst (λ (s : Stream). SearchesPath aim path (known path) (record { old = s; new = last })
      (record { old = first_err; new = last_err })) are.0
      (subst (λ (s : Stream). SearchesPath aim path (known path) (record {
        old = there;
        new = last;
      })
      (record { old = s; new = last_err })) are.1 is),
  (refl, refl),
)
paths_searched aim known (next ∷ more) path first there last first_err there_err last_err are is = (
  are.0,
  are.1,
  are.2,
  paths_searched aim known more path are.0 there last are.1 there_err last_err are.3 is,
)

pub searched_there : {P : Type 0} (view : P → List ℕ) (all : List P) (i : ℕ) (d : P) (aim : Aim)
    (known known' : List ℕ → AtPath) → ((path : List ℕ) → known' path ≡ known path)
    → i < length all → (first there last first_err there_err last_err : Stream)
    → SearchesPaths aim known (take i (map view all)) (record { old = first; new = there })
    (record { old = first_err; new = there_err })
    → SearchesPath aim (view (get_or all i d)) (known' (view (get_or all i d)))
    (record { old = there; new = last }) (record { old = there_err; new = last_err })
    → SearchesPaths aim known (take (i + 1) (map view all)) (record { old = first; new = last })
    (record { old = first_err; new = last_err })
searched_there view all i d aim known known' same within first there last first_err there_err
    last_err are is =
    let path = view (get_or all i d) in
    subst (λ paths. SearchesPaths aim known paths (record { old = first; new = last })
    (record { old = first_err; new = last_err })) (sym (path_there view all i d within))
    (paths_searched aim known (take i (map view all)) path first there last first_err there_err
    last_err
    are
    (subst (λ (at : AtPath). SearchesPath aim path at (record { old = there; new = last })
    (record { old = there_err; new = last_err })) (same path) is))

-- where the searches end at one of the paths, those before it are whole
pub stops_at_pack : {P : Type 0} (view : P → List ℕ) (all : List P) (i : ℕ) (d : P) (aim : Aim)
    (known known' : List ℕ → AtPath) → ((path : List ℕ) → known' path ≡ known path)
    → i < length all → (failure : PackFailure) (out err : Passage) (out_there err_there : Stream)
    → SearchesPaths aim known (take i (map view all)) (record { old = out.old; new = out_there })
    (record { old = err.old; new = err_there })
    → StopsAtPack failure aim (view (get_or all i d)) (known' (view (get_or all i d)))
    (record { old = out_there; new = out.new }) (record { old = err_there; new = err.new })
    → StopsAmongPacks aim known (map view all) failure out err
stops_at_pack view all i d aim known known' same within failure out err out_there err_there whole
    stopped =
    let paths = map view all in
    let path = view (get_or all i d) in
    record {
      before = take i paths;
      path = path;
      after = drop (i + 1) paths;
      parted = parted_there view all i d within;
      out_there = out_there;
      err_there = err_there;
      whole = whole;
      there = subst (λ (at : AtPath). StopsAtPack failure aim path at
          (record { old = out_there; new = out.new }) (record { old = err_there; new = err.new }))
          (same path) stopped;
    }
