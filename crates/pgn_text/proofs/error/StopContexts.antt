-- What the place where a block stops stands in.
use Rattle.pgn_text.proofs.Common.{◌≡◌, ℕ, zero, suc, ◌+◌, ◌-◌, ◌≤◌, Bool, true, List, [], ◌∷◌}
use Rattle.pgn_text.proofs.Common.{◌++◌, IsTrue, take, drop, length, refl, sym, ap, subst, ◌∙◌}
use Rattle.pgn_text.proofs.Common.{arith, append_assoc, append-nil, length-append, length-drop}
use Rattle.pgn_text.proofs.Common.{drop-drop, list_all, and_from, eqb-true, length-take-le}
use Rattle.pgn_text.proofs.Common.{take-append-drop, list_all-append, ◌&&◌, Walks, WalkedTo, begins}
use Rattle.pgn_text.proofs.Common.{is_not_brace, is_meant, IsPartFront, NoneFollows, Part, Standing}
use Rattle.pgn_text.proofs.Common.{standing_of, AllStand, spelled_part, spelled, Kept}
use Rattle.pgn_text.proofs.Common.{is_kept_result, State, start, PartsThen, StandsWithin}
use Rattle.pgn_text.proofs.Common.{is_open_brace, PartAt, KeptAt, Within, Comment, Tags, MainLine}
use Rattle.pgn_text.proofs.Common.{TagName, TagValue, Variation}
use Rattle.pgn_text.specs.Private.ErrorPosition.{AfterGame, FrontWithin}
use Rattle.pgn_text.specs.declared.error.error_position.Within.TheVariants.{Game}
use Rattle.pgn_text.proofs.laws.Halfway.{stands_join, spelled-append}
use Rattle.pgn_text.proofs.error.InPart.{all_take}
use Rattle.pgn_text.proofs.laws.Lines.{Shows, shows_start, shows_more, depth_is}
use Rattle.pgn_text.proofs.error.MeantFronts.{walks_meant, walks_unended, result_meant}
use Rattle.pgn_text.proofs.error.MeantFronts.{no_meant_front}
use Rattle.pgn_text.proofs.OneList.{no_bytes}
use Rattle.pgn_text.proofs.laws.PartLemmas.{part_has_byte}
use Rattle.pgn_text.proofs.error.Stuck.{brace_missing}
use Rattle.pgn_text.proofs.error.StopWalk.{size, kind, stands_there}

-- the state after parts is what they show
walks_show : (max_depth : ℕ) (front done : List Part) (s t : State) → Shows front s
    → Walks max_depth s done t → Shows (front ++ done) t
walks_show max_depth front [] s t h w = rw (append-nil front, ← w) h
walks_show max_depth front (p ∷ done) s t h w =
    rw (← (append_assoc front (p ∷ []) done)) (walks_show max_depth (front ++ p ∷ []) done w.1.0 t
    (shows_more max_depth front s w.1.0 p w.1.1 h) w.1.2)

module _ (max_depth : ℕ) (f : Bool) (block : List ℕ) (begin : ℕ) where
  -- the parts up to a place, and the bytes from there to another, which are the front of a part
  parts_then : (at place : ℕ) (state : State) (w : WalkedTo max_depth f block begin at state)
      → NoneFollows max_depth (standing_of f (take at block)) state (drop at block)
      → IsPartFront max_depth (standing_of f (take at block)) state
      (take (place - at) (drop at block)) → at ≤ place → place ≤ length block
      → PartsThen f block begin at place w.done (take (place - at) (drop at block))
  parts_then at place state w nothing here forward within =
      let there : at + (place - at) ≡ place = omega (arith, forward) in
      let back : drop at block ≡ take (place - at) (drop at block) ++ drop place block =
      sym (take-append-drop (place - at) (drop at block))
      ∙ ap (λ l. take (place - at) (drop at block) ++ l) (drop-drop (place - at) at block
      ∙ ap (λ k. drop k block) there) in
      record {
        parted = w.parted ∙ ap (λ l. spelled w.done ++ l) back;
        stand = subst (λ l. AllStand f (take begin block) w.done l) back w.stand;
        meant = walks_meant max_depth start w.done state w.walks;
        no_more = λ part rest e stands.
            no_meant_front max_depth (standing_of f (take at block)) state (drop at block) part rest
            (rest ++ drop place block) nothing
            (subst (IsPartFront max_depth (standing_of f (take at block)) state) e here)
            (back ∙ ap (λ l. l ++ drop place block) e
            ∙ append_assoc (spelled_part part) rest (drop place block))
            (rw w.passed stands);
        at_is = size max_depth f block begin at state w;
        place_is =
            omega (
              arith,
              there,
              length-take-le (place - at) (drop at block)
                  (omega (arith, forward, within, length-drop at block)),
            );
      }

  -- the parts up to the end of one more
  pub after_game : (at end : ℕ) (state : State) (token : Kept)
      → WalkedTo max_depth f block begin at state → KeptAt f block at token end
      → is_kept_result token ≡ true → AfterGame f block begin end
  after_game at end state token w here result =
      let found : PartAt f block at here.part end = here.found in
      let bytes : spelled (w.done ++ here.part ∷ []) ≡ spelled w.done ++ spelled_part here.part =
      spelled-append w.done (here.part ∷ [])
      ∙ ap (λ l. spelled w.done ++ l) (append-nil (spelled_part here.part)) in
      let sizes : end ≡ at + length (spelled_part here.part) =
      sym (length-take-le end block found.within) ∙ ap length found.passed
      ∙ length-append (take at block) (spelled_part here.part)
      ∙ ap (λ k. k + length (spelled_part here.part)) (length-take-le at block w.within) in (
        w.done,
        here.part,
        record {
          parted = w.parted ∙ ap (λ l. spelled w.done ++ l) found.parted
              ∙ sym (append_assoc (spelled w.done) (spelled_part here.part) (drop end block))
              ∙ ap (λ l. l ++ drop end block) (sym bytes);
          stand = stands_join f (take begin block) w.done (here.part ∷ []) (drop end block)
              (subst (λ l. AllStand f (take begin block) w.done l)
              (found.parted
              ∙ ap (λ l. l ++ drop end block) (sym (append-nil (spelled_part here.part))))
              w.stand)
              (stands_there max_depth f block begin at end state w token here, tt);
          meant = list_all-append is_meant w.done (here.part ∷ [])
              ∙ and_from (list_all is_meant w.done) (is_meant here.part
              && true) (walks_meant max_depth start w.done state w.walks)
              (and_from (is_meant here.part) true
              (result_meant here.part (kind max_depth f block begin at end token here ∙ result))
              refl);
          no_more = λ part rest e stands.
              absurd (part_has_byte
              (standing_of f (take begin block ++ spelled (w.done ++ here.part ∷ []))) part
              (rest ++ drop end block) stands
              (no_bytes (spelled_part part) rest (sym e)));
          at_is = omega (
            arith,
            sizes,
            size max_depth f block begin at state w,
            ap length bytes,
            length-append (spelled w.done) (spelled_part here.part),
          );
          place_is = omega arith;
        },
        kind max_depth f block begin at end token here ∙ result,
      )

  -- no brace closes a comment that no part is
  no_brace : (place : Standing) (s : State) (text : List ℕ) (k : ℕ)
      → NoneFollows max_depth place s text
      → IsTrue (begins is_open_brace (take k text)) → IsTrue (list_all is_not_brace (take k text))
  no_brace place s text zero nothing e = refl
  no_brace place s [] (suc k) nothing e = refl
  no_brace place s (c ∷ rest) (suc k) nothing e =
      let is : c ≡ 123 = eqb-true c 123 e in
      let first : is_not_brace c ≡ true = rw is refl in
      and_from (is_not_brace c) (list_all is_not_brace (take k rest)) first
      (all_take max_depth is_not_brace rest k
      (brace_missing max_depth place s rest
      (subst (λ d. NoneFollows max_depth place s (d ∷ rest)) is nothing)))

  pub stands_within : (at place : ℕ) (state : State) (within : Within)
      → WalkedTo max_depth f block begin at state
      → NoneFollows max_depth (standing_of f (take at block)) state (drop at block)
      → IsPartFront max_depth (standing_of f (take at block)) state
      (take (place - at) (drop at block)) → at ≤ place → place ≤ length block
      → FrontWithin state (take (place - at) (drop at block)) at within
      → StandsWithin f block begin place within
  stands_within at place state (Comment begun) w nothing here forward low h = (
    w.done,
    take (place - at) (drop at block),
    rw h.0 (parts_then at place state w nothing here forward low),
    h.1,
    no_brace (standing_of f (take at block)) state (drop at block) (place - at) nothing h.1,
  )
  stands_within at place state (TagName begun) w nothing here forward low h = (
    w.done,
    take (place - at) (drop at block),
    rw h.0 (parts_then at place state w nothing here forward low),
    h.1,
    h.2,
  )
  stands_within at place state (TagValue begun) w nothing here forward low h = (
    w.done,
    take (place - at) (drop at block),
    rw h.0 (parts_then at place state w nothing here forward low),
    h.1,
    h.2,
  )
  stands_within at place state Variation w nothing here forward low h =
      let shown = walks_show max_depth [] w.done start state shows_start w.walks in (
        w.done,
        record {
          at = at;
          front = take (place - at) (drop at block);
          parts_then =
              parts_then at place state w nothing here forward low;
          other = h.0;
          unended =
              walks_unended max_depth start w.done state w.walks;
        },
        omega (arith, h.1, depth_is w.done state shown),
      )
  stands_within at place state Tags w nothing here forward low h =
      let shown = walks_show max_depth [] w.done start state shows_start w.walks in (
        w.done,
        record {
          at = at;
          front = take (place - at) (drop at block);
          parts_then =
              parts_then at place state w nothing here forward low;
          other = h.0;
          unended =
              walks_unended max_depth start w.done state w.walks;
        },
        sym shown.tags ∙ h.1,
      )
  stands_within at place state MainLine w nothing here forward low h =
      let shown = walks_show max_depth [] w.done start state shows_start w.walks in (
        w.done,
        record {
          at = at;
          front = take (place - at) (drop at block);
          parts_then =
              parts_then at place state w nothing here forward low;
          other = h.0;
          unended =
              walks_unended max_depth start w.done state w.walks;
        },
        depth_is w.done state shown ∙ h.1,
        sym shown.tags ∙ h.2,
      )
  stands_within at place state Game w nothing here forward low h = absurd h
