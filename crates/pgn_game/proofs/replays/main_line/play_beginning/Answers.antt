use Rattle.std.proofs.Common.{◌+◌, ◌∷◌, [], drop, inl, inr, refl, map, sym, subst, ap, ◌∙◌, arith}
use Rattle.pgn_game.proofs.Common.{err_from_is_err_and, item_of, main_words, KeepsLine}
use Rattle.pgn_game.proofs.OneReplay.{line_length}
use Rattle.pgn_game.proofs.WalkFacts.{walk_begins, stuck_at, items_step, items_end}
use Rattle.pgn_game.proofs.replays.main_line.play_beginning.Goals as goal

pub loop-element-init : goal.loop-element-init
loop-element-init c =
    let line = c.in_ok-beginning.beginning in
    let items = map item_of c.args.elements.now in
    let begun = c.in_ok-beginning.ensures.walk in
    record {
      few = omega (arith, begun.1);
      plies = omega arith;
      depth = omega arith;
      keeps = record {
        before = [];
        positions = c.in_ok-beginning.ensures.positions ∙ ap (λ s. s ∷ []) (sym begun.0);
        walked =
            rw c.in_ok-beginning.ensures.played (walk_begins c.args.start line.walk items begun.0
            begun.1 begun.2);
        first = [];
        parted = ap (main_words items) (sym begun.2);
        beginning = (c.in_ok-beginning.ensures.positions, c.in_ok-beginning.ensures.played);
      };
    }

pub returns-in_err-step : goal.returns-in_err-step
returns-in_err-step c =
    let words = main_words (map item_of c.args.elements.now) 0 in
    let i = c.loop-element.element-index in
    let p = err_from_is_err_and c.from_residual-in_err-step.result
    c.from_residual-in_err-step.ensures.1 in
    let keeps =
    subst (KeepsLine c.args.start words c.loop-element.beginning)
    (items_step c.args.elements.now i _ (omega arith)) c.loop-element.invariant.keeps in
    rw (p.1, p.2) (stuck_at _ keeps.walked c.in_err-step.ensures.stuck)

pub loop-element-preserved : goal.loop-element-preserved
loop-element-preserved c =
    let words = main_words (map item_of c.args.elements.now) 0 in
    let i = c.loop-element.element-index in
    let count = c.loop-element.invariant.keeps.walked.count in
    record {
      few = omega (arith, count);
      plies = omega arith;
      depth = omega arith;
      keeps = c.in_ok-step.ensures.kept c.args.start words
          (map item_of (drop (i + 1) c.args.elements.now))
          (subst (KeepsLine c.args.start words c.loop-element.beginning)
          (items_step c.args.elements.now i _ (omega arith)) c.loop-element.invariant.keeps);
    }

pub replayed-requires : goal.replayed-requires
replayed-requires c =
    let keeps = c.loop-element.invariant.keeps in
    line_length c.args.start keeps.first c.loop-element.beginning.positions.items
    c.loop-element.beginning.played.items keeps.beginning

pub replayed-requires-2 : goal.replayed-requires-2
replayed-requires-2 c =
    let keeps = c.loop-element.invariant.keeps in
    line_length c.args.start keeps.first c.loop-element.beginning.positions.items
    c.loop-element.beginning.played.items keeps.beginning

pub returns-then-len-most : goal.returns-then-len-most
returns-then-len-most c =
    let keeps = c.loop-element.invariant.keeps in
    record {
      first = keeps.first;
      rest = main_words (map item_of (drop c.loop-element.element-index c.args.elements.now))
          c.loop-element.beginning.walk.depth;
      parted = keeps.parted;
      line = rw (c.replayed.ensures.positions, c.replayed.ensures.played) keeps.beginning;
      few = rw (c.replayed.ensures.played)
          (omega (arith, keeps.walked.count, c.loop-element.invariant.few));
      far = inr (rw (c.replayed.ensures.played) (omega arith));
      turns = c.replayed.ensures.turns;
    }

pub returns : goal.returns
returns c =
    let words = main_words (map item_of c.args.elements.now) 0 in
    let keeps =
    subst (KeepsLine c.args.start words c.loop-element.beginning)
    (items_end c.args.elements.now c.loop-element.element-index (omega arith))
    c.loop-element.invariant.keeps in
    record {
      first = keeps.first;
      rest = [];
      parted = keeps.parted;
      line = rw (c.replayed-2.ensures.positions, c.replayed-2.ensures.played) keeps.beginning;
      few = rw (c.replayed-2.ensures.played)
          (omega (
            arith,
            c.loop-element.invariant.keeps.walked.count,
            c.loop-element.invariant.few,
          ));
      far = inl refl;
      turns = c.replayed-2.ensures.turns;
    }
