use Rattle.pgn_criteria.proofs.Common.{IfSome, option_map, Placement, FitsPrefilter}
use Rattle.pgn_criteria.specs.Private.PrefilterTests.{LaidEither}
use Rattle.pgn_criteria.proofs.prefilter.prefilter_of.Given as goal

abbrev pub invariant-loop-number : goal.invariant-loop-number
invariant-loop-number l =
    IfSome l.best (λ prefilter. (men : Placement)
    → LaidEither men l.straight (option_map (λ layout. layout.now) l.turned)
    → FitsPrefilter prefilter men)
