use Rattle.chess.proofs.StartFacts.{initial_kept}
use Rattle.chess.proofs.SoundFacts.{after_sound}
use Rattle.chess.proofs.laws.positions_are_sound.Goals as goal

pub returns-clause-initial : goal.returns-clause-initial
returns-clause-initial c = initial_kept.sound

pub returns-clause-after : goal.returns-clause-after
returns-clause-after c P m sound legal =
    after_sound P m (record { sound = sound; rules = legal.pseudo_legal }) legal.safe
