use Rattle.pgn_criteria.proofs.EitherFacts.{flip_mirror, material_mirror}
use Rattle.pgn_criteria.proofs.mirror.mirrored_claim.Goals as goal

pub returns-in_ok-mirrored_pattern-in-Flip : goal.returns-in_ok-mirrored_pattern-in-Flip
returns-in_ok-mirrored_pattern-in-Flip c =
    let own = c.in_ok-mirrored_pattern-in-Flip.field-0.items in
    rw c.in-Flip.is (flip_mirror own c.in-Flip.pattern.items (rw (← c.deref-in-Flip.ensures.value)
    c.in_ok-mirrored_pattern-in-Flip.ensures.fits))

pub returns-in-Material : goal.returns-in-Material
returns-in-Material c =
    rw c.in-Material.is (material_mirror c.in-Material.white c.in-Material.black)
