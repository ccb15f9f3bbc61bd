use Rattle.cli.proofs.UnknownBytes.{passes_unknown}
use Rattle.cli.proofs.files.SourceSkip.skip.Goals as goal

pub returns-in-File-clause-bytes : goal.returns-in-File-clause-bytes
returns-in-File-clause-bytes c = passes_unknown c.move_on.result
