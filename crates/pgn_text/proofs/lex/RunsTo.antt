-- Longest runs between places of a block.
use Rattle.std.proofs.Common.{◌≡◌, Bool, true, false, length, get_or, arith, length-drop, drop-drop}
use Rattle.std.proofs.Common.{inl, inr, ℕ, ◌+◌, ◌-◌, ◌<◌, ◌≤◌, List, ◌++◌, take, drop, sym, ap, ◌∙◌}
use Rattle.pgn_text.proofs.Common.{cases_lt, get_or-drop, length-take-le, take-add, run_of}
use Rattle.pgn_text.proofs.Common.{after_run, RunTo}
use Rattle.pgn_text.proofs.Runs.{run_inside, run_length_is, run_on, take_run, drop_run}

-- a place up to which all bytes pass, and at which one fails or the block ends, is the run's end
pub run_to : (test : ℕ → Bool) (block : List ℕ) (from at : ℕ) → from ≤ at → at ≤ length block
    → ((k : ℕ) → k < at - from → test (get_or block (from + k) 0) ≡ true)
    → (at < length block → test (get_or block at 0) ≡ false) → RunTo test block from at
run_to test block from at forward within inside ends =
    let there : from + (at - from) ≡ at = omega arith in
    let len : at - from ≡ length (run_of test (drop from block)) =
    run_length_is test (drop from block) (at - from)
    (λ k below. ap test (get_or-drop from block k 0) ∙ inside k below)
    (omega (arith, length-drop from block))
    (λ below. ap test (get_or-drop from block (at - from) 0)
    ∙ ap (λ n. test (get_or block n 0)) there ∙ ends (omega (arith, length-drop from block))) in
    record {
      run = ap (λ n. take n (drop from block)) len ∙ take_run test (drop from block);
      rest = ap (λ n. drop n block) (sym there) ∙ sym (drop-drop (at - from) from block)
          ∙ ap (λ n. drop n (drop from block)) len ∙ drop_run test (drop from block);
      forward = forward;
      within = within;
    }

-- all bytes from one place up to another pass
pub record AllPass (test : ℕ → Bool) (block : List ℕ) (from at : ℕ) : Type 0 where
  pub forward : from ≤ at
  pub within : at ≤ length block
  pub inside : (k : ℕ) → k < at - from → test (get_or block (from + k) 0) ≡ true

-- all bytes of a run pass
pub run_passes : (test : ℕ → Bool) (block : List ℕ) (from end : ℕ) → RunTo test block from end
    → AllPass test block from end
run_passes test block from end to =
    let forward : from ≤ end = to.forward in
    let within : end ≤ length block = to.within in
    let long : length (run_of test (drop from block)) ≡ end - from =
    ap length (sym to.run)
    ∙ length-take-le (end - from) (drop from block) (omega (arith, length-drop from block)) in
    record {
      forward = forward;
      within = within;
      inside = λ k below. ap test (sym (get_or-drop from block k 0))
          ∙ run_inside test (drop from block) k (omega (arith, long));
    }

pub none_yet : (test : ℕ → Bool) (block : List ℕ) (from : ℕ) → from ≤ length block
    → AllPass test block from from
none_yet test block from within =
    record { forward = omega arith; within = within; inside = λ k below. absurd (omega arith) }

-- one more byte passes
pub one_more : (test : ℕ → Bool) (block : List ℕ) (from at next : ℕ) → next ≡ at + 1
    → AllPass test block from at → at < length block
    → test (get_or block at 0) ≡ true → AllPass test block from next
one_more test block from at next is_next pass below here = record {
  forward = let forward = pass.forward in omega arith;
  within = omega arith;
  inside = λ k before.
      elim (cases_lt k (at - from)) [
        | inl less ↦ pass.inside k less
        | inr more ↦
            let last : from + k ≡ at = let forward = pass.forward in omega arith in
            ap (λ n. test (get_or block n 0)) last ∙ here
      ];
}

-- a place up to which all bytes pass, and at which one fails or the block ends, is the run's end
pub passed_to : (test : ℕ → Bool) (block : List ℕ) (from at : ℕ) → AllPass test block from at
    → (at < length block → test (get_or block at 0) ≡ false) → RunTo test block from at
passed_to test block from at pass ends =
    run_to test block from at pass.forward pass.within pass.inside ends

-- where all bytes up to a place pass, the run from there ends the run from the first of them
pub runs_on : (test : ℕ → Bool) (block : List ℕ) (from mid end : ℕ) → AllPass test block from mid
    → RunTo test block mid end → RunTo test block from end
runs_on test block from mid end pass to =
    let xs : List ℕ = drop from block in
    let n : ℕ = mid - from in
    let begun : from ≤ mid = pass.forward in
    let further : mid ≤ end = to.forward in
    let there : from + n ≡ mid = omega arith in
    let rest : drop n xs ≡ drop mid block = drop-drop n from block ∙ ap (λ k. drop k block) there in
    let on = run_on test xs n (λ k below. ap test (get_or-drop from block k 0)
    ∙ pass.inside k below) (let within : mid ≤ length block = pass.within in
    omega (arith, length-drop from block)) in
    record {
      run = ap (λ k. take k xs) (omega arith) ∙ take-add n (end - mid) xs
          ∙ ap (λ ys. take n xs ++ take (end - mid) ys) rest
          ∙ ap (λ ys. take n xs ++ ys) to.run ∙ ap (λ ys. take n xs ++ run_of test ys) (sym rest)
          ∙ sym on.0;
      rest = to.rest ∙ ap (after_run test) (sym rest) ∙ sym on.1;
      forward = omega arith;
      within = to.within;
    }
