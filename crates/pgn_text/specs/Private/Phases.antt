-- How far a `Blocks` has come, as tests.
use Rattle.std.specs.Prelude.{Bool, true, false}
use Rattle.pgn_text.specs.declared.io.blocks.Phase.{Phase}
use Rattle.pgn_text.specs.declared.io.blocks.Phase.TheVariants.{Reading, Ended, Over, Failed}

-- an error was answered
abbrev pub is_failed : Phase → Bool
is_failed Reading = false
is_failed Ended = false
is_failed Over = false
is_failed Failed = true

-- the last block was answered
abbrev pub is_ended : Phase → Bool
is_ended Reading = false
is_ended Ended = true
is_ended Over = true
is_ended Failed = false

-- the end was answered
abbrev pub is_over : Phase → Bool
is_over Reading = false
is_over Ended = false
is_over Over = true
is_over Failed = false
