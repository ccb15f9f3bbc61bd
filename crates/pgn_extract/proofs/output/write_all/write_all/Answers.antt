use Rattle.std.proofs.Common.{ℕ, arith, ◌∙◌, length-take, length-drop}
use Rattle.std.proofs.lemmas.Bool.{ne_eqb}
use Rattle.pgn_extract.proofs.Writing.{writing_more, still_sound}
use Rattle.pgn_extract.proofs.output.write_all.write_all.Goals as goal

pub loop-at-preserved : goal.loop-at-preserved
loop-at-preserved g c = record {
  within = (let b = c.in-Ok.ensures.bound in let w = c.loop-at.invariant.within in
      omega (arith, length-take {A = ℕ}, length-drop {A = ℕ}));
  sound = c.in-Ok.ensures.faulted
      ∙ still_sound _ _ _ c.loop-at.invariant.sound (ne_eqb _ _ c.in-Ok.count-test.1);
  written = writing_more c.loop-at.invariant _ c.in-Ok.count c.in-Ok.ensures.bytes;
}
