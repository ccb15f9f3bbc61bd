use Rattle.std.proofs.lemmas.Option.{get_or_from_slice_get, slice_get_within}
use Rattle.pgn_extract.proofs.Common.{◌≡◌, ◌++◌, ◌∷◌, [], Some, inl, inr, sym, ap, ◌∙◌, subst}
use Rattle.pgn_extract.proofs.Common.{arith, slice_get}
use Rattle.pgn_extract.proofs.entries.RowMaking.{part_taken}
use Rattle.pgn_extract.proofs.entries.kept.moves_of.Goals as goal

pub loop-ply-preserved : goal.loop-ply-preserved
loop-ply-preserved c =
    let replay = c.args.replayed.now in
    let ply = c.loop-ply.ply in
    let m = c.played.result in
    let inv = c.loop-ply.invariant in
    let within = slice_get_within replay.played ply m c.played.ensures in
    let next = part_taken replay.played ply m within
    (sym (get_or_from_slice_get replay.played ply m m c.played.ensures)) in
    record {
      within = omega (arith, within);
      moves = c.in_ok-push.ensures.items ∙ ap (λ ms. ms ++ m ∷ []) inv.moves ∙ sym next;
      first = λ n P here. elim (c.in_ok-keep_first.ensures n P here) [
        | inl old ↦ inv.first n P old
        | inr (at, same) ↦
            subst (λ k. slice_get replay.positions k ≡ Some P) (sym at)
            (c.position.ensures ∙ ap Some (sym same))
      ];
    }
