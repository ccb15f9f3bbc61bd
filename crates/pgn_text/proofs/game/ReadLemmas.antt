-- A game read part by part at places of a block.
use Rattle.std.specs.Prelude.{None, IsTrue}
use Rattle.std.proofs.Common.{◌==◌, zero, suc}
use Rattle.std.proofs.lemmas.List.{take_at}
use Rattle.pgn_text.proofs.Common.{◌≡◌, ◌≢◌, ℕ, ◌+◌, ◌-◌, ◌<◌, ◌≤◌, Bool, true, false, List, []}
use Rattle.pgn_text.proofs.Common.{◌∷◌, ◌++◌, length, take, drop, refl, sym, ap, ◌∙◌, subst}
use Rattle.pgn_text.proofs.Common.{append_assoc, append-nil, arith, length-append, ◌⊎◌, inl, inr}
use Rattle.pgn_text.proofs.Common.{Option, Some, option_or, not_from_false, length-take-le, Part}
use Rattle.pgn_text.proofs.Common.{Stands, standing_of, spelled_part, spelled, Item, is_result}
use Rattle.pgn_text.proofs.Common.{begins_outside_gap, items_of, first_tag, result_of, IsPaired}
use Rattle.pgn_text.proofs.Common.{NoGame, State, start, step, Kept, KeptGap, KeptDot, KeptResult}
use Rattle.pgn_text.proofs.Common.{kept, is_kept_result, step_kept, items_of_kept, named_kept}
use Rattle.pgn_text.proofs.Common.{RunTo, is_white, eqb-true, get_or}
use Rattle.pgn_text.specs.Private.Readings.{GoesOn, StuckAt, EndsAt}
use Rattle.pgn_text.specs.Private.Walk.{PartAt, KeptAt, NothingAt, NoGapPartAt, GameRead}
use Rattle.pgn_text.proofs.PartsAt.{kept_white, kept_dot}
use Rattle.pgn_text.proofs.lex.RunsTo.{AllPass, run_passes}
use Rattle.pgn_text.proofs.laws.Halfway.{Reads, halfway_start, halfway_more, halfway_stuck}
use Rattle.pgn_text.proofs.laws.Halfway.{halfway_none}
use Rattle.pgn_text.proofs.laws.Halfway.{Halfway, halfway_end, game_reads, reads_game, before_more}
use Rattle.pgn_text.proofs.KeptLemmas.{is_result-kept, step-kept, items-push, kept_result}
use Rattle.pgn_text.proofs.game.Pairing.{leads_paired}
use Rattle.pgn_text.proofs.TagLemmas.{first_tag-push, option_or-none}

-- the game that begins at the place `begin` has been read up to the place `at`, and these tags and
-- elements were kept
pub record ReadTo (max_depth : ℕ) (f : Bool) (block : List ℕ) (begin at : ℕ) (state : State)
    (tags : List ℕ → Option (List ℕ)) (elements : List Item) : Type 0 where
  pub done : List Part
  pub halfway : Halfway max_depth f (take begin block) (drop begin block) done state (drop at block)
  pub passed : take at block ≡ take begin block ++ spelled done
  pub forward : begin ≤ at
  pub within : at ≤ length block
  pub tags_kept : (wanted : List ℕ) → tags wanted ≡ first_tag wanted done
  pub elements_kept : elements ≡ items_of done

-- before the first part
pub read_start : (max_depth : ℕ) (f : Bool) (block : List ℕ) (begin : ℕ) (state : State)
    (tags : List ℕ → Option (List ℕ)) (elements : List Item) → begin ≤ length block
    → state ≡ start → ((wanted : List ℕ) → tags wanted ≡ None) → elements ≡ []
    → ReadTo max_depth f block begin begin state tags elements
read_start max_depth f block begin state tags elements within is_start no_tags no_elements =
    record {
      done = [];
      halfway =
          rw is_start (halfway_start max_depth f (take begin block) (drop begin block));
      passed = sym (append-nil (take begin block));
      forward = omega arith;
      within = within;
      tags_kept = no_tags;
      elements_kept = no_elements;
    }

-- where a part stands, it stands after the parts that were read
stands_after : (f : Bool) (before there : List ℕ) (done : List Part) (part : Part) (rest : List ℕ)
    → there ≡ before ++ spelled done → Stands (standing_of f there) part rest
    → Stands (standing_of f (before ++ spelled done)) part rest
stands_after f before there done part rest passed stands =
    subst (λ xs. Stands (standing_of f xs) part rest) passed stands

-- after one more part
pub read_more : (max_depth : ℕ) (f : Bool) (block : List ℕ) (begin at end : ℕ) (state next : State)
    (tags more_tags : List ℕ → Option (List ℕ)) (elements more_elements : List Item) (token : Kept)
    → ReadTo max_depth f block begin at state tags elements → KeptAt f block at token end
    → is_kept_result token ≡ false → step_kept max_depth state token ≡ Some next
    → ((wanted : List ℕ) → more_tags wanted ≡ option_or (tags wanted) (named_kept wanted token))
    → more_elements ≡ elements ++ items_of_kept token
    → ReadTo max_depth f block begin end next more_tags more_elements
read_more max_depth f block begin at end state next tags more_tags elements more_elements token read
    here no_result steps tags_is elements_is =
    let found : PartAt f block at here.part end = here.found in
    let no_end : is_result here.part ≡ false =
    is_result-kept here.part ∙ ap is_kept_result here.keeps ∙ no_result in
    let goes : step max_depth state here.part ≡ Some next =
    step-kept max_depth state here.part ∙ ap (step_kept max_depth state) here.keeps ∙ steps in
    let stands : Stands (standing_of f (take begin block ++ spelled read.done)) here.part
    (drop end block) =
    stands_after f (take begin block) (take at block) read.done here.part (drop end block)
    read.passed found.stands in
    record {
      done = read.done ++ here.part ∷ [];
      halfway =
          halfway_more max_depth f (take begin block) (drop begin block) read.done state next
          here.part (drop at block) (drop end block) read.halfway found.parted stands no_end goes;
      passed = found.passed ∙ ap (λ xs. xs ++ spelled_part here.part) read.passed
          ∙ sym (before_more (take begin block) read.done here.part);
      forward = (let a : begin ≤ at = read.forward in let b : at < end = found.forward in
          omega arith);
      within = found.within;
      tags_kept = λ wanted. tags_is wanted
          ∙ ap (λ o. option_or o (named_kept wanted token)) (read.tags_kept wanted)
          ∙ ap (λ k. option_or (first_tag wanted read.done) (named_kept wanted k)) (sym here.keeps)
          ∙ sym (first_tag-push wanted read.done here.part);
      elements_kept = elements_is ∙ ap (λ xs. xs ++ items_of_kept token) read.elements_kept
          ∙ ap (λ k. items_of read.done ++ items_of_kept k) (sym here.keeps)
          ∙ sym (items-push read.done here.part);
    }

-- where no game is read there is none
no_game : (max_depth : ℕ) (f : Bool) (before text : List ℕ)
    → ((parts : List Part) (after : List ℕ) → Reads max_depth f before text start parts after → ⊥)
    → NoGame max_depth f before text
no_game max_depth f before text none parts after parted game =
    none parts after (game_reads max_depth f before text parts after parted game)

-- where no part stands there is no game
pub read_nothing : (max_depth : ℕ) (f : Bool) (block : List ℕ) (begin at : ℕ) (state : State)
    (tags : List ℕ → Option (List ℕ)) (elements : List Item)
    → ReadTo max_depth f block begin at state tags elements → NothingAt f block at
    → NoGame max_depth f (take begin block) (drop begin block)
read_nothing max_depth f block begin at state tags elements read nothing =
    no_game max_depth f (take begin block) (drop begin block)
    (halfway_none max_depth f (take begin block) (drop begin block) read.done state (drop at block)
    read.halfway
    (λ part rest parted stands.
    nothing part rest parted
    (subst (λ xs. Stands (standing_of f xs) part rest) (sym read.passed) stands)))

-- where a part stands that may not follow there is no game
pub read_stuck : (max_depth : ℕ) (f : Bool) (block : List ℕ) (begin at end : ℕ) (state : State)
    (tags : List ℕ → Option (List ℕ)) (elements : List Item) (token : Kept)
    → ReadTo max_depth f block begin at state tags elements → KeptAt f block at token end
    → (is_kept_result token ≡ true → state.depth ≢ 0)
    → (is_kept_result token ≡ false → step_kept max_depth state token ≡ None)
    → NoGame max_depth f (take begin block) (drop begin block)
read_stuck max_depth f block begin at end state tags elements token read here deep stuck =
    let found : PartAt f block at here.part end = here.found in
    let kind : is_result here.part ≡ is_kept_result token =
    is_result-kept here.part ∙ ap is_kept_result here.keeps in
    no_game max_depth f (take begin block) (drop begin block)
    (halfway_stuck max_depth f (take begin block) (drop begin block) read.done state here.part
    (drop at block) (drop end block) read.halfway found.parted
    (stands_after f (take begin block) (take at block) read.done here.part (drop end block)
    read.passed found.stands)
    (λ is. deep (sym kind ∙ is))
    (λ is. step-kept max_depth state here.part ∙ ap (step_kept max_depth state) here.keeps
    ∙ stuck (sym kind ∙ is)))

-- the result of parts is the last of them
result_of-push : (xs : List Part) (p : Part) → result_of (xs ++ p ∷ []) ≡ spelled_part p
result_of-push [] p = refl
result_of-push (x ∷ []) p = refl
result_of-push (x ∷ y ∷ xs) p = result_of-push (y ∷ xs) p

-- where no part of a gap stands, what is read begins outside a gap
outside_gap : (max_depth : ℕ) (f : Bool) (block : List ℕ) (begin : ℕ) (parts : List Part)
    (after : List ℕ) → NoGapPartAt f block begin
    → Reads max_depth f (take begin block) (drop begin block) start parts after
    → IsTrue (begins_outside_gap parts)
outside_gap max_depth f block begin [] after outside reads = absurd reads.leads
outside_gap max_depth f block begin (p ∷ back) after outside reads =
    not_from_false _ (outside p (spelled back ++ after) (reads.parted
    ∙ append_assoc (spelled_part p) (spelled back) after) reads.stand.0)

-- the bytes of a part are a stretch of the block
pub part_bytes : (f : Bool) (block : List ℕ) (at end : ℕ) (part : Part) → PartAt f block at part end
    → at ≤ length block → take (end - at) (drop at block) ≡ spelled_part part
part_bytes f block at end part found within =
    let ends : length (take end block) ≡ end = length-take-le end block found.within in
    let begins : length (take at block) ≡ at = length-take-le at block within in
    let lengths : length (take end block) ≡ length (take at block) + length (spelled_part part) =
    ap length found.passed ∙ length-append (take at block) (spelled_part part) in
    ap (take (end - at)) found.parted
    ∙ take_at (spelled_part part) (drop end block) (end - at) (omega arith)

-- a result outside all variations ends the game
pub read_end : (max_depth : ℕ) (f : Bool) (block : List ℕ) (begin at end : ℕ) (state : State)
    (tags : List ℕ → Option (List ℕ)) (elements : List Item) (token : Kept)
    → ReadTo max_depth f block begin at state tags elements → NoGapPartAt f block begin
    → KeptAt f block at token end → is_kept_result token ≡ true → state.depth ≡ 0
    → GameRead max_depth f block begin at end tags elements
read_end max_depth f block begin at end state tags elements token read outside here is closed =
    let found : PartAt f block at here.part end = here.found in
    let result : is_result here.part ≡ true =
    is_result-kept here.part ∙ ap is_kept_result here.keeps ∙ is in
    let kept_is : kept here.part ≡ KeptResult = here.keeps ∙ kept_result token is in
    let stands : Stands (standing_of f (take begin block ++ spelled read.done)) here.part
    (drop end block) =
    stands_after f (take begin block) (take at block) read.done here.part (drop end block)
    read.passed found.stands in
    let reads : Reads max_depth f (take begin block) (drop begin block) start (read.done
    ++ here.part ∷ []) (drop end block) =
    halfway_end max_depth f (take begin block) (drop begin block) read.done state here.part
    (drop at block) (drop end block) read.halfway found.parted stands result closed in
    let elements_is : elements ≡ items_of (read.done ++ here.part ∷ []) =
    read.elements_kept
    ∙ sym (items-push read.done here.part
    ∙ ap (λ k. items_of read.done ++ items_of_kept k) kept_is ∙ append-nil (items_of read.done))
    in
    record {
      parts = read.done ++ here.part ∷ [];
      game = record {
        is_game =
            reads_game max_depth f (take begin block) (drop begin block) (read.done ++ here.part
            ∷ []) (drop end block)
            (outside_gap max_depth f block begin (read.done ++ here.part
            ∷ []) (drop end block) outside reads) reads;
        parted = reads.parted;
        passed = found.passed ∙ ap (λ xs. xs ++ spelled_part here.part) read.passed
            ∙ sym (before_more (take begin block) read.done here.part);
        forward = (let a : begin ≤ at = read.forward in let b : at < end = found.forward in
            omega arith);
        within = found.within;
      };
      tags_kept = λ wanted. read.tags_kept wanted ∙ sym (first_tag-push wanted read.done here.part
          ∙ ap (λ k. option_or (first_tag wanted read.done) (named_kept wanted k)) kept_is
          ∙ option_or-none (first_tag wanted read.done));
      elements_kept = elements_is;
      paired =
          subst (IsPaired 0) (sym elements_is)
          (leads_paired max_depth start (read.done ++ here.part ∷ []) reads.leads);
      result = part_bytes f block at end here.part found read.within
          ∙ sym (result_of-push read.done here.part);
      result_at = (let b : at < end = found.forward in omega arith);
    }

-- the game has been read up to the place `at`; what was kept then is what is kept now
pub record KeptUpTo (kept_first kept_now : (List ℕ → Option (List ℕ)) → List Item
    → Type 0) (max_depth : ℕ) (f : Bool) (block : List ℕ) (begin at : ℕ) (state : State) : Type 0
  where
    pub tags : List ℕ → Option (List ℕ)
    pub elements : List Item
    pub read : ReadTo max_depth f block begin at state tags elements
    pub keeps : kept_first (λ wanted. None) [] → kept_now tags elements

pub kept_start : (kept : (List ℕ → Option (List ℕ)) → List Item
    → Type 0) (max_depth : ℕ) (f : Bool) (block : List ℕ) (begin : ℕ) (state : State)
    → begin ≤ length block → state ≡ start
    → KeptUpTo kept kept max_depth f block begin begin state
kept_start kept max_depth f block begin state within is_start = record {
  tags = λ wanted. None;
  elements = [];
  read = read_start max_depth f block begin state (λ wanted. None) [] within is_start (λ wanted.
      refl) refl;
  keeps = λ first. first;
}

-- one more part
pub kept_more : {kept_first kept_now kept_next : (List ℕ → Option (List ℕ)) → List Item
    → Type 0} {max_depth : ℕ} {f : Bool} {block : List ℕ} {begin at end : ℕ} {state next : State}
    → KeptUpTo kept_first kept_now max_depth f block begin at state
    → GoesOn kept_now kept_next max_depth f block at state next end
    → KeptUpTo kept_first kept_next max_depth f block begin end next
kept_more {max_depth = max_depth} {f = f} {block = block} {begin = begin} {at = at} {end =
    end} {state = state} {next = next} up more = record {
      tags = λ wanted. option_or (up.tags wanted) (named_kept wanted more.token);
      elements = up.elements ++ items_of_kept more.token;
      read = read_more max_depth f block begin at end state next up.tags (λ wanted.
          option_or (up.tags wanted) (named_kept wanted more.token))
          up.elements (up.elements ++ items_of_kept more.token) more.token up.read more.here
          more.no_result more.steps (λ wanted. refl) refl;
      keeps = λ first. more.keeps up.tags up.elements (up.keeps first);
    }

-- one more part, of which nothing is kept, and which leaves the state as it is
kept_idle : {kept_first kept_now : (List ℕ → Option (List ℕ)) → List Item
    → Type 0} {max_depth : ℕ} {f : Bool} {block : List ℕ} {begin at end : ℕ} {state : State}
    (token : Kept)
    → is_kept_result token ≡ false → ((wanted : List ℕ) → named_kept wanted token ≡ None)
    → items_of_kept token ≡ [] → step_kept max_depth state token ≡ Some state
    → KeptUpTo kept_first kept_now max_depth f block begin at state → KeptAt f block at token end
    → KeptUpTo kept_first kept_now max_depth f block begin end state
kept_idle {kept_first} {kept_now} {max_depth} {f} {block} {begin} {at} {end} {state} token no_result
    no_tag no_items steps up here = record {
      tags = up.tags;
      elements = up.elements;
      read = read_more max_depth f block begin at end state state up.tags up.tags up.elements
          up.elements token up.read here no_result steps
          (λ wanted.
          sym (ap (option_or (up.tags wanted)) (no_tag wanted) ∙ option_or-none (up.tags wanted)))
          (sym (ap (λ xs. up.elements ++ xs) no_items ∙ append-nil up.elements));
      keeps = up.keeps;
    }

-- a run of such parts, a byte each
kept_run : {kept_first kept_now : (List ℕ → Option (List ℕ)) → List Item
    → Type 0} {max_depth : ℕ} {f : Bool} {block : List ℕ} {begin at end : ℕ} {state : State}
    (test : ℕ → Bool) (token : Kept)
    → is_kept_result token ≡ false → ((wanted : List ℕ) → named_kept wanted token ≡ None)
    → items_of_kept token ≡ [] → step_kept max_depth state token ≡ Some state
    → ((k : ℕ) → k < length block → test (get_or block k 0) ≡ true → KeptAt f block k token (k + 1))
    → KeptUpTo kept_first kept_now max_depth f block begin at state → RunTo test block at end
    → KeptUpTo kept_first kept_now max_depth f block begin end state
kept_run {kept_first} {kept_now} {max_depth} {f} {block} {begin} {at} {end} {state} test token
    no_result no_tag no_items steps each up to =
    let pass : AllPass test block at end = run_passes test block at end to in
    let forward : at ≤ end = pass.forward in
    let within : end ≤ length block = pass.within in
    subst (λ k. KeptUpTo kept_first kept_now max_depth f block begin k state) (omega arith)
    (go pass (end - at) (omega arith))
  where
    go : AllPass test block at end → (n : ℕ) → n ≤ end - at
        → KeptUpTo kept_first kept_now max_depth f block begin (at + n) state
    go pass zero le =
        subst (λ k. KeptUpTo kept_first kept_now max_depth f block begin k state) (omega arith) up
    go pass (suc n) le =
        let within : end ≤ length block = pass.within in
        subst (λ k. KeptUpTo kept_first kept_now max_depth f block begin k state) (omega arith)
        (kept_idle token no_result no_tag no_items steps (go pass n (omega arith))
        (each (at + n) (omega arith) (pass.inside n (omega arith))))

-- white space, if it stands there
pub kept_whites : {kept_first kept_now : (List ℕ → Option (List ℕ)) → List Item
    → Type 0} {max_depth : ℕ} {f : Bool} {block : List ℕ} {begin at end : ℕ} {state : State}
    → KeptUpTo kept_first kept_now max_depth f block begin at state → RunTo is_white block at end
    → KeptUpTo kept_first kept_now max_depth f block begin end state
kept_whites {f = f} {block = block} up to =
    kept_run is_white KeptGap refl (λ wanted. refl) refl refl
    (λ k below white. kept_white f block k below white) up to

-- periods in the movetext, if they stand there
pub kept_dots : {kept_first kept_now : (List ℕ → Option (List ℕ)) → List Item
    → Type 0} {max_depth : ℕ} {f : Bool} {block : List ℕ} {begin at end : ℕ} {state : State}
    → state.in_tags ≡ false
    → KeptUpTo kept_first kept_now max_depth f block begin at state
    → RunTo (λ b. b == 46) block at end
    → KeptUpTo kept_first kept_now max_depth f block begin end state
kept_dots {f = f} {block = block} {state = state} movetext up to =
    kept_run (λ b. b == 46) KeptDot refl (λ wanted. refl) refl
    (ap (λ (b : Bool).
    Some (record { in_tags = b; depth = state.depth; has_move = state.has_move }))
    (sym movetext)) (λ k below dot. kept_dot f block k below (eqb-true _ _ dot)) up to

-- where nothing stands that may, there is no game
pub kept_stuck : {kept_first kept_now : (List ℕ → Option (List ℕ)) → List Item
    → Type 0} {max_depth : ℕ} {f : Bool} {block : List ℕ} {begin at : ℕ} {state : State}
    → KeptUpTo kept_first kept_now max_depth f block begin at state
    → NothingAt f block at ⊎ StuckAt max_depth f block at state
    → NoGame max_depth f (take begin block) (drop begin block)
kept_stuck {max_depth = max_depth} {f = f} {block = block} {begin = begin} {at = at} {state =
    state} up (inl nothing) =
    read_nothing max_depth f block begin at state up.tags up.elements up.read nothing
kept_stuck {max_depth = max_depth} {f = f} {block = block} {begin = begin} {at = at} {state =
    state} up (inr stuck) =
    read_stuck max_depth f block begin at stuck.end state up.tags up.elements stuck.token up.read
    stuck.here stuck.deep stuck.stuck

-- the result ends the game
pub kept_end : {kept_first kept_now kept_next : (List ℕ → Option (List ℕ)) → List Item
    → Type 0} {max_depth : ℕ} {f : Bool} {block : List ℕ} {begin at end : ℕ} {state : State}
    → KeptUpTo kept_first kept_now max_depth f block begin at state → NoGapPartAt f block begin
    → EndsAt kept_now kept_next f block at state end
    → (tags : List ℕ → Option (List ℕ)) × (elements : List Item)
    × GameRead max_depth f block begin at end tags elements
    × (kept_first (λ wanted. None) [] → kept_next tags elements)
kept_end {max_depth = max_depth} {f = f} {block = block} {begin = begin} {at = at} {end =
    end} {state = state} up outside ends = (
      up.tags,
      up.elements,
      read_end max_depth f block begin at end state up.tags up.elements ends.token up.read outside
          ends.here ends.is_result ends.closed,
      λ first. ends.same up.tags up.elements (up.keeps first),
    )
