-- Where a block stops, read off at places of the block: what the loop of `error_position_of` keeps.
use Rattle.std.proofs.Common.{◌≡◌, ◌≢◌, ℕ, ◌+◌, ◌<◌, ◌≤◌, Bool, true, false, List, [], ◌∷◌, ◌++◌}
use Rattle.std.proofs.Common.{Some, None, take, drop, length, sym, ap, subst, ◌∙◌, inl, inr, arith}
use Rattle.std.proofs.Common.{append_assoc, append-nil, length-append}
use Rattle.pgn_text.proofs.Common.{cases_Bool, length-take-le, Stands, AllStand, standing_of}
use Rattle.pgn_text.proofs.Common.{spelled_part, spelled, is_result, State, start, Kept}
use Rattle.pgn_text.proofs.Common.{is_kept_result, step_kept, PartAt, KeptAt}
use Rattle.pgn_text.proofs.Common.{WalkedTo, Longest, Follows, IsPartFront, NoneFollows}
use Rattle.pgn_text.specs.Public.Stops.{IsErrorPosition}
use Rattle.pgn_text.proofs.EachStops.{wrong_part}
use Rattle.pgn_text.proofs.GameFronts.{stops_in_part, stops_at_game}
use Rattle.pgn_text.proofs.laws.Halfway.{reads_end, stands_join, spelled-append, before_more}
use Rattle.pgn_text.proofs.KeptLemmas.{is_result-kept, step-kept}
use Rattle.pgn_text.proofs.Stopping.{walks_more, walk_reads}

module _ (max_depth : ℕ) (f : Bool) (block : List ℕ) (begin : ℕ) where
  pub kind : (at end : ℕ) (token : Kept) (here : KeptAt f block at token end)
      → is_result here.part ≡ is_kept_result token
  kind at end token here = is_result-kept here.part ∙ ap is_kept_result here.keeps

  pub stands_there : (at end : ℕ) (state : State) (w : WalkedTo max_depth f block begin at state)
      (token : Kept) (here : KeptAt f block at token end)
      → Stands (standing_of f (take begin block ++ spelled w.done)) here.part (drop end block)
  stands_there at end state w token here =
      subst (λ xs. Stands (standing_of f xs) here.part (drop end block)) w.passed here.found.stands

  pub walk_more : (at end : ℕ) (state next : State) (token : Kept)
      → WalkedTo max_depth f block begin at state → KeptAt f block at token end
      → is_kept_result token ≡ false → step_kept max_depth state token ≡ Some next
      → WalkedTo max_depth f block begin end next
  walk_more at end state next token w here result steps =
      let found : PartAt f block at here.part end = here.found in record {
        done = w.done ++ here.part ∷ [];
        walks = walks_more max_depth start state next w.done here.part w.walks
            (kind at end token here ∙ result)
            (step-kept max_depth state here.part ∙ ap (step_kept max_depth state) here.keeps
            ∙ steps);
        stand = stands_join f (take begin block) w.done (here.part ∷ []) (drop end block)
            (subst (λ l. AllStand f (take begin block) w.done l)
            (found.parted
            ∙ ap (λ l. l ++ drop end block) (sym (append-nil (spelled_part here.part))))
            w.stand)
            (stands_there at end state w token here, tt);
        parted = w.parted ∙ ap (λ l. spelled w.done ++ l) found.parted
            ∙ sym (append_assoc (spelled w.done) (spelled_part here.part) (drop end block))
            ∙ ap (λ l. l ++ drop end block)
            (sym (spelled-append w.done (here.part ∷ [])
            ∙ ap (λ l. spelled w.done ++ l) (append-nil (spelled_part here.part))));
        passed = found.passed ∙ ap (λ l. l ++ spelled_part here.part) w.passed
            ∙ sym (before_more (take begin block) w.done here.part);
        forward = (let a : begin ≤ at = w.forward in let b : at < end = found.forward in
            omega arith);
        within = found.within;
      }

  -- how many bytes were read
  pub size : (at : ℕ) (state : State) (w : WalkedTo max_depth f block begin at state)
      → at ≡ begin + length (spelled w.done)
  size at state w =
      let a : length (take at block) ≡ at = length-take-le at block w.within in
      let b : length (take begin block) ≡ begin =
      length-take-le begin block (let l = w.forward in let m = w.within in omega arith) in
      let c : length (take at block) ≡ length (take begin block) + length (spelled w.done) =
      ap length w.passed ∙ length-append (take begin block) (spelled w.done) in
      omega arith

  pub walk_stuck : (at end : ℕ) (state : State) (token : Kept) → KeptAt f block at token end
      → (is_kept_result token ≡ true → state.depth ≢ 0)
      → (is_kept_result token ≡ false → step_kept max_depth state token ≡ None)
      → NoneFollows max_depth (standing_of f (take at block)) state (drop at block)
  walk_stuck at end state token here deep stuck =
      wrong_part max_depth f (take at block) state (drop at block) here.part (drop end block)
      here.found.parted here.found.stands wrong
    where
      wrong : Follows max_depth state here.part → ⊥
      wrong follows = elim (cases_Bool (is_kept_result token)) [
        | inl r ↦ deep r (follows.ends (kind at end token here ∙ r))
        | inr r ↦
            let next = follows.goes_on (kind at end token here ∙ r) in
            let e = step-kept max_depth state here.part ∙ ap (step_kept max_depth state) here.keeps
            ∙ stuck r in
            let g = next.1 in cc
      ]

  pub walk_stops : (at n : ℕ) (state : State) → WalkedTo max_depth f block begin at state
      → NoneFollows max_depth (standing_of f (take at block)) state (drop at block)
      → Longest (IsPartFront max_depth (standing_of f (take at block)) state) (drop at block) n
      → IsErrorPosition max_depth f block begin (at + n)
  walk_stops at n state w nothing l =
      let here : standing_of f (take at block)
      ≡ standing_of f (take begin block ++ spelled w.done) = ap (standing_of f) w.passed in
      let longest =
      subst (λ p. Longest (IsPartFront max_depth p state) (drop at block) n) here l in (
        length (spelled w.done) + n,
        omega (arith, size at state w),
        rw w.parted (stops_in_part max_depth f (take begin block) state w.done (drop at block) n
            w.walks w.stand (subst (λ p. NoneFollows max_depth p state (drop at block)) here
            nothing) longest.within (λ _. longest.here) (λ k _ low p. longest.most k low p)),
      )

  pub walk_game : (at end : ℕ) (state : State) (token : Kept)
      → WalkedTo max_depth f block begin at state → KeptAt f block at token end
      → is_kept_result token ≡ true → state.depth ≡ 0 → IsErrorPosition max_depth f block begin end
  walk_game at end state token w here result closed =
      let found : PartAt f block at here.part end = here.found in
      let bytes : spelled (w.done ++ here.part ∷ []) ≡ spelled w.done ++ spelled_part here.part =
      spelled-append w.done (here.part ∷ [])
      ∙ ap (λ l. spelled w.done ++ l) (append-nil (spelled_part here.part)) in
      let sizes : end ≡ at + length (spelled_part here.part) =
      sym (length-take-le end block found.within) ∙ ap length found.passed
      ∙ length-append (take at block) (spelled_part here.part)
      ∙ ap (λ k. k + length (spelled_part here.part)) (length-take-le at block w.within) in (
        length (spelled (w.done ++ here.part ∷ [])),
        omega (
          arith,
          sizes,
          size at state w,
          ap length bytes,
          length-append (spelled w.done) (spelled_part here.part),
        ),
        stops_at_game max_depth f (take begin block) (drop begin block) (w.done ++ here.part
            ∷ []) (drop end block)
            (rw w.parted (walk_reads max_depth f (take begin block) start state w.done (drop at
            block) (here.part ∷ []) (drop end block) w.walks w.stand (reads_end max_depth f (take
            begin block ++ spelled w.done) (drop at block) state here.part (drop end block)
            found.parted (stands_there at end state w token here) (kind at end token here ∙ result)
            closed))),
      )
