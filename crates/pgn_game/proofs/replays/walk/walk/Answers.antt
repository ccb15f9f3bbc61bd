use Rattle.pgn_game.proofs.Common.{◌+◌, ◌≤◌, ◌∷◌, ◌++◌, [], drop, map, refl, sym, ap, ◌∙◌, subst}
use Rattle.pgn_game.proofs.Common.{append-nil, append_assoc, arith, IfSome_then}
use Rattle.pgn_game.proofs.Common.{err_from_is_err_and, item_of, StopsAt, WalksOn}
use Rattle.pgn_game.proofs.Common.{around, shown_items}
use Rattle.pgn_game.proofs.StepFacts.{none_shown, visits_one_more, within_more}
use Rattle.pgn_game.proofs.WalkFacts.{items_step, items_end}
use Rattle.pgn_game.proofs.replays.walk.walk.Goals as goal

pub loop-element-init : goal.loop-element-init
loop-element-init g c =
    record {
      done = ([], refl, λ more on. on);
      sticks = λ fault on. on;
      within = c.requires.begun;
      depth = omega arith;
      kept = ([], sym (append-nil (g.V.StepVisitor.text c.args.visitor.now)));
    }

pub step-requires : goal.step-requires
step-requires g c = let below : c.loop-element.stack.line.plies ≤ c.loop-element.element-index =
    c.loop-element.invariant.within.0 in omega arith

pub loop-element-preserved-then-not-shows : goal.loop-element-preserved-then-not-shows
loop-element-preserved-then-not-shows g c =
    let l = c.loop-element in
    let i = l.element-index in
    let elements = c.args.elements.now in
    let skipped =
    ap (shown_items l.shown.variations l.shown.depth) (items_step elements i _ (omega arith))
    ∙ c.if-not-shows.ensures.shown (map item_of (drop (i + 1) elements)) in
    record {
      done = (
        l.invariant.done.0,
        l.invariant.done.1,
        λ more on. l.invariant.done.2 more
            (subst (λ items. WalksOn l.stack items more) (sym skipped) on),
      );
      sticks =
          λ fault on. l.invariant.sticks fault
          (subst (λ items. StopsAt l.stack items fault) (sym skipped) on);
      within = within_more i (l.stack.line ∷ around l.stack) l.invariant.within;
      depth = omega (arith, c.if-not-shows.ensures.depth);
      kept = l.invariant.kept;
    }

pub returns-in_err-step-clause-walked : goal.returns-in_err-step-clause-walked
returns-in_err-step-clause-walked g c =
    let l = c.loop-element in
    let i = l.element-index in
    let elements = c.args.elements.now in
    let left =
    shown_items c.shows.new.self.variations c.shows.new.self.depth
    (map item_of (drop (i + 1) elements)) in
    let next =
    ap (shown_items l.shown.variations l.shown.depth) (items_step elements i _ (omega arith))
    ∙ c.if-not-shows.ensures.shown (map item_of (drop (i + 1) elements)) in
    let p = err_from_is_err_and c.from_residual.result c.from_residual.ensures.1 in
    rw (p.1, p.2) (IfSome_then _ (c.in_err-step.ensures.stuck left)
    (λ fault met.
    l.invariant.sticks fault (subst (λ items. StopsAt l.stack items fault) (sym next) met)))

pub loop-element-preserved : goal.loop-element-preserved
loop-element-preserved g c =
    let l = c.loop-element in
    let i = l.element-index in
    let elements = c.args.elements.now in
    let stepped = c.in_ok-step.ensures in
    let left =
    shown_items c.shows.new.self.variations c.shows.new.self.depth
    (map item_of (drop (i + 1) elements)) in
    let next =
    ap (shown_items l.shown.variations l.shown.depth) (items_step elements i _ (omega arith))
    ∙ c.if-not-shows.ensures.shown (map item_of (drop (i + 1) elements)) in
    let done = l.invariant.done in
    let first = stepped.walks in
    record {
      done = (
        done.0 ++ first.0 ∷ [],
        visits_one_more g.V.StepVisitor.does done.0 _ _ _ first.0 done.1 first.1,
        λ more on. subst
            (WalksOn c.args.stack.now (shown_items c.args.variations 0 (map item_of elements)))
            (sym (append_assoc done.0 (first.0 ∷ []) more))
            (done.2 (first.0
            ∷ more) (rw next (first.2 left more on))),
      );
      sticks =
          λ fault on. l.invariant.sticks fault
          (subst (λ xs. StopsAt l.stack xs fault) (sym next) (stepped.sticks left fault on));
      within = stepped.within i l.invariant.within;
      depth = omega (arith, c.if-not-shows.ensures.depth);
      kept = (
        l.invariant.kept.0 ++ stepped.kept.0,
        stepped.kept.1 ∙ ap (λ bytes. bytes ++ stepped.kept.0) l.invariant.kept.1
            ∙ append_assoc (g.V.StepVisitor.text c.args.visitor.now) l.invariant.kept.0
            stepped.kept.0,
      );
    }

pub returns-clause-walked : goal.returns-clause-walked
returns-clause-walked g c =
    let l = c.loop-element in
    let none =
    ap (shown_items l.shown.variations l.shown.depth)
    (items_end c.args.elements.now l.element-index (omega arith))
    ∙ none_shown l.shown.variations l.shown.depth in
    let done = l.invariant.done in (
      done.0,
      subst (WalksOn c.args.stack.now
          (shown_items c.args.variations 0 (map item_of c.args.elements.now))) (append-nil done.0)
          (done.2 [] (subst (λ xs. WalksOn l.stack xs []) (sym none) refl)),
      done.1,
    )
