-- The contents of a string, read run by run.
use Rattle.std.specs.Prelude.{Option, Some, None, option_map, IsTrue, ◌==◌, ◌&&◌, not}
use Rattle.pgn_text.proofs.Common.{◌≡◌, ℕ, ◌+◌, ◌-◌, ◌<◌, ◌≤◌, true, false, List, [], ◌∷◌, ◌++◌}
use Rattle.pgn_text.proofs.Common.{take, drop, length, get_or, refl, sym, ap, ◌∙◌}
use Rattle.pgn_text.proofs.Common.{append_assoc, arith, drop-drop, list_all, and_parts, not-true}
use Rattle.pgn_text.proofs.Common.{drop_more, take-add, is_plain, stops, run_of, is_single}
use Rattle.pgn_text.proofs.Common.{contents_front, with_byte, RunTo}
use Rattle.pgn_text.proofs.LongestRuns.{run-append-after, list_all-run, stops-after_run}

-- contents that were found after a front
abbrev pub after_front : List ℕ → Option (List ℕ × List ℕ) → Option (List ℕ × List ℕ)
after_front front found = option_map (λ f. (front ++ f.0, f.1)) found

with_more : (b : ℕ) (front : List ℕ) (found : Option (List ℕ × List ℕ))
    → option_map (with_byte b) (after_front front found) ≡ after_front (b ∷ front) found
with_more b front None = refl
with_more b front (Some found) = refl

with_nothing : (b : ℕ) (found : Option (List ℕ × List ℕ))
    → option_map (with_byte b) found ≡ after_front (b ∷ []) found
with_nothing b None = refl
with_nothing b (Some found) = refl

after_both : (first second : List ℕ) (found : Option (List ℕ × List ℕ))
    → after_front first (after_front second found) ≡ after_front (first ++ second) found
after_both first second None = refl
after_both first second (Some found) =
    ap (λ xs. Some (xs, found.1)) (sym (append_assoc first second found.0))

-- bytes that stand for themselves are contents
singles : (xs rest : List ℕ) → IsTrue (list_all is_single xs)
    → contents_front false (xs ++ rest) ≡ after_front xs (contents_front false rest)
singles [] rest all =
    elim (contents_front false rest) as (λ o. o
    ≡ after_front [] o) [ None ↦ refl | Some found ↦ refl ]
singles (b ∷ xs) rest all =
    let parts : (is_single b ≡ true) × (list_all is_single xs ≡ true) = and_parts _ _ all in
    let plain : (is_plain b ≡ true) × ((not (b == 34) && not (b == 92)) ≡ true) =
    and_parts _ _ parts.0 in
    let others : (not (b == 34) ≡ true) × (not (b == 92) ≡ true) = and_parts _ _ plain.1 in
    rw (not-true _ others.0, not-true _ others.1, plain.0)
    (ap (option_map (with_byte b)) (singles xs rest parts.1)
    ∙ with_more b xs (contents_front false rest))

-- where the bytes from the place `from` up to the place `end` are contents so far
abbrev pub ReadsOn : List ℕ → ℕ → ℕ → Type 0
ReadsOn block from end = contents_front false (drop from block)
    ≡ after_front (take (end - from) (drop from block)) (contents_front false (drop end block))

reads_both : (block : List ℕ) (begin at end : ℕ) → begin ≤ at → at ≤ end → ReadsOn block begin at
    → ReadsOn block at end → ReadsOn block begin end
reads_both block begin at end low high first second =
    let there : drop (at - begin) (drop begin block) ≡ drop at block =
    drop-drop (at - begin) begin block ∙ ap (λ k. drop k block) (omega arith) in
    let front : take (at - begin) (drop begin block) ++ take (end - at) (drop at block)
    ≡ take (end - begin) (drop begin block) =
    ap (λ xs. take (at - begin) (drop begin block) ++ take (end - at) xs) (sym there)
    ∙ sym (take-add (at - begin) (end - at) (drop begin block))
    ∙ ap (λ k. take k (drop begin block)) (omega arith) in
    first ∙ ap (after_front (take (at - begin) (drop begin block))) second
    ∙ after_both (take (at - begin) (drop begin block)) (take (end - at) (drop at block))
    (contents_front false (drop end block))
    ∙ ap (λ xs. after_front xs (contents_front false (drop end block))) front

-- a run of bytes that stand for themselves
reads_run : (block : List ℕ) (from end : ℕ) → RunTo is_single block from end
    → ReadsOn block from end
reads_run block from end to =
    let parted : drop from block ≡ run_of is_single (drop from block) ++ drop end block =
    run-append-after is_single (drop from block)
    ∙ ap (λ xs. run_of is_single (drop from block) ++ xs) (sym to.rest) in
    ap (contents_front false) parted
    ∙ singles (run_of is_single (drop from block)) (drop end block)
    (list_all-run is_single (drop from block))
    ∙ ap (λ xs. after_front xs (contents_front false (drop end block))) (sym to.run)

-- a backslash with a plain byte after it
reads_pair : (block : List ℕ) (at : ℕ) → at + 1 < length block → get_or block at 0 ≡ 92
    → is_plain (get_or block (at + 1) 0) ≡ true → ReadsOn block at (at + 2)
reads_pair block at below backslash plain =
    let b : ℕ = get_or block (at + 1) 0 in
    let rest : List ℕ = drop (at + 2) block in
    let bytes : drop at block ≡ 92 ∷ b ∷ rest =
    drop_more block at 0 (omega arith) ∙ ap (λ x. x ∷ drop (at + 1) block) backslash
    ∙ ap (λ (xs : List ℕ). 92 ∷ xs) (drop_more block (at + 1) 0 below
    ∙ ap (λ k. b ∷ drop k block) (omega arith)) in
    let two : (at + 2) - at ≡ 2 = omega arith in
    let both : contents_front false (92 ∷ b ∷ rest)
    ≡ after_front (92 ∷ b ∷ []) (contents_front false rest) =
    rw plain (ap (option_map (with_byte 92)) (with_nothing b (contents_front false rest))
    ∙ with_more 92 (b ∷ []) (contents_front false rest)) in
    ap (contents_front false) bytes ∙ both
    ∙ ap (λ xs. after_front xs (contents_front false rest))
    (sym (ap (λ k. take k (drop at block)) two ∙ ap (take 2) bytes))

-- the bytes from one place up to another are contents so far, and no byte that stands for itself
-- follows
pub record ReadTo (block : List ℕ) (begin at : ℕ) : Type 0 where
  pub reads : ReadsOn block begin at
  pub forward : begin ≤ at
  pub within : at ≤ length block
  pub ends : IsTrue (stops is_single (drop at block))

pub read_run : {block : List ℕ} {begin at : ℕ} → RunTo is_single block begin at
    → ReadTo block begin at
read_run {block} {begin} {at} to = record {
  reads = reads_run block begin at to;
  forward = to.forward;
  within = to.within;
  ends = rw to.rest (stops-after_run is_single (drop begin block));
}

-- after a backslash with a plain byte, and the run after them
pub read_pair : {block : List ℕ} {begin at next : ℕ} → ReadTo block begin at → at + 1 < length block
    → get_or block at 0 ≡ 92 → is_plain (get_or block (at + 1) 0) ≡ true
    → RunTo is_single block (at + 2) next → ReadTo block begin next
read_pair {block} {begin} {at} {next} read below backslash plain to =
    let after : ReadTo block (at + 2) next = read_run to in
    let low : begin ≤ at = read.forward in
    let high : at + 2 ≤ next = after.forward in
    record {
      reads = reads_both block begin at next low (omega arith) read.reads
          (reads_both block at (at + 2) next (omega arith) high
          (reads_pair block at below backslash plain) after.reads);
      forward = omega arith;
      within = after.within;
      ends = after.ends;
    }
