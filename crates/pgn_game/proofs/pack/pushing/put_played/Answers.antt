use Rattle.pgn_game.proofs.Common.{◌∙◌, inr, map, refl, subst, arith, IfSome_then}
use Rattle.pgn_game.proofs.Common.{err_from_is_err_and, item_of, main_words, IsMoveFault}
use Rattle.pgn_game.proofs.Common.{Fault, IsFault, Main, tag_in, fen_tag}
use Rattle.pgn_game.proofs.RecordWriting.{played_begins, played_on, played_past, played_record}
use Rattle.pgn_game.proofs.RecordWriting.{put_kept}
use Rattle.pgn_game.proofs.WalkFacts.{items_end, items_step, stuck_at}
use Rattle.pgn_game.specs.Private.PackWords.{HasPutPlayed}
use Rattle.pgn_game.proofs.pack.pushing.put_played.Goals.{in-Some+in_ok-extend_from_slice}
use Rattle.pgn_game.proofs.pack.pushing.put_played.Goals.{in_default}
use Rattle.pgn_game.proofs.pack.pushing.put_played.Goals as goal

pub loop-element-init : goal.loop-element-init
loop-element-init c =
    let walk = c.new-walk.result in
    let begun = c.new-walk.ensures in
    record {
      plies = omega (arith, begun.1);
      depth = omega (arith, begun.2);
      put = played_begins walk.position walk (map item_of c.elements-elements.result.now)
          c.count_main_moves-count.result c.put_fields.new.out.items refl begun.1 begun.2
          c.count_main_moves-count.ensures;
    }

pub step-requires : goal.step-requires
step-requires c = record { room = (omega arith, omega arith) }

pub returns-in_err-m-clause-fault : goal.returns-in_err-m-clause-fault
returns-in_err-m-clause-fault c =
    let elements = c.elements-elements.result.now in
    let i = c.loop-element.element-index in
    let p = err_from_is_err_and c.from_residual-in_err-m.result c.from_residual-in_err-m.ensures.1
    in
    let is_start = rw c.tags.ensures.tags at c.in_ok-start.ensures in
    let so_far =
    subst (λ items. HasPutPlayed c.new-walk.result.position (main_words (map item_of elements) 0)
    c.count_main_moves-count.result c.loop-element.walk items c.put_fields.new.out.items
    c.loop-element.out.items) (items_step elements i _ (omega arith)) c.loop-element.invariant.put
    in
    let stuck = stuck_at _ so_far.walked c.in_err-m.ensures.stepped in
    let faulty : (f : Fault)
    → IsMoveFault c.new-walk.result.position 0 (main_words (map item_of elements) 0) f
    → IsFault Main (tag_in fen_tag c.args.game.now.tags) c.args.game.now.elements f =
    λ f met. inr (
      c.in_ok-start.start,
      is_start,
      subst (λ items. IsMoveFault c.in_ok-start.start 0 (main_words items 0) f)
          c.elements-elements.ensures.elements (rw c.new-walk.ensures.0 at met),
    ) in
    rw (p.1, p.2) (IfSome_then _ stuck faulty)

pub returns-in_err-m-clause-kept : goal.returns-in_err-m-clause-kept
returns-in_err-m-clause-kept c =
    put_kept c.args.out.now.items c.loop-element.invariant.put.put c.put_fields.ensures.kept

pub returns-in_err-extend_from_slice-clause-kept : goal.returns-in_err-extend_from_slice-clause-kept
returns-in_err-extend_from_slice-clause-kept c =
    let old = c.args.out.now.items in
    let kept = put_kept old c.loop-element.invariant.put.put c.put_fields.ensures.kept in
    (kept.0, c.in_err-extend_from_slice.ensures.items ∙ kept.1)

pub loop-element-preserved : goal.loop-element-preserved
loop-element-preserved c =
    let elements = c.elements-elements.result.now in
    let i = c.loop-element.element-index in
    let so_far =
    subst (λ items. HasPutPlayed c.new-walk.result.position (main_words (map item_of elements) 0)
    c.count_main_moves-count.result c.loop-element.walk items c.put_fields.new.out.items
    c.loop-element.out.items) (items_step elements i _ (omega arith)) c.loop-element.invariant.put
    in
    record {
      plies = omega arith;
      depth = omega arith;
      put = elim c.match-branch-4.branch [
        | in-Some+in_ok-extend_from_slice w ↦ rw w.out-is (played_on so_far c.copy-before.result
            w.in-Some.m c.in_ok-m.field-0 c.copy-before.ensures w.in-Some.is
            c.in_ok-m.ensures.stepped w.of-marks.ensures w.coded_move.ensures
            w.in_ok-extend_from_slice.ensures.items)
        | in_default w ↦ rw w.out-is (played_past so_far c.in_ok-m.field-0 w.in_default.not-Some
            c.in_ok-m.ensures.stepped)
      ];
    }

pub returns-clause-record : goal.returns-clause-record
returns-clause-record c =
    let elements = c.elements-elements.result.now in
    let is_start = rw c.tags.ensures.tags at c.in_ok-start.ensures in
    let marks = c.of.result in
    let so_far =
    subst (λ items. HasPutPlayed c.new-walk.result.position (main_words (map item_of elements) 0)
    c.count_main_moves-count.result c.loop-element.walk items c.put_fields.new.out.items
    c.loop-element.out.items) (items_end elements c.loop-element.element-index (omega arith))
    c.loop-element.invariant.put in
    played_record c.args.origin.now c.args.game.now c.in_ok-start.start (map item_of elements)
    c.loop-element.walk c.count_main_moves-count.result marks.check marks.stuck c.args.out.now.items
    c.put_fields.new.out.items c.loop-element.out.items is_start
    c.elements-elements.ensures.elements c.of.ensures c.in_ok-put_fields.ensures.fields
    (rw c.new-walk.ensures.0 at so_far)

pub returns-clause-kept : goal.returns-clause-kept
returns-clause-kept c =
    put_kept c.args.out.now.items c.loop-element.invariant.put.put c.put_fields.ensures.kept
