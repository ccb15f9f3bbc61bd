use Rattle.chess.proofs.FenOneText.{one_fen, some_fen}
use Rattle.chess.proofs.FenReadBack.{fen_reads}
use Rattle.chess.proofs.SoundRead.{sound_or_read}
use Rattle.chess.proofs.laws.fen_is_read_back.Goals as goal

pub returns-clause-one : goal.returns-clause-one
returns-clause-one c = one_fen

pub returns-clause-some : goal.returns-clause-some
returns-clause-some c = some_fen

pub returns-clause-sound : goal.returns-clause-sound
returns-clause-sound c = sound_or_read

pub returns-clause-back : goal.returns-clause-back
returns-clause-back c = fen_reads
