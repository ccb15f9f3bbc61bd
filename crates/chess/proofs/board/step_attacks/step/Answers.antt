use Rattle.chess.proofs.board.step_attacks.step.Goals as goal
use Rattle.chess.proofs.board.StepFacts.{step_by}

pub returns-in-North-clause-next : goal.returns-in-North-clause-next
returns-in-North-clause-next c s on_board at = step_by _ _ _ s c.in-North.is on_board at

pub returns-in-South-clause-next : goal.returns-in-South-clause-next
returns-in-South-clause-next c s on_board at = step_by _ _ _ s c.in-South.is on_board at

pub returns-in-East-clause-next : goal.returns-in-East-clause-next
returns-in-East-clause-next c s on_board at = step_by _ _ _ s c.in-East.is on_board at

pub returns-in-West-clause-next : goal.returns-in-West-clause-next
returns-in-West-clause-next c s on_board at = step_by _ _ _ s c.in-West.is on_board at

pub returns-in-NorthEast-clause-next : goal.returns-in-NorthEast-clause-next
returns-in-NorthEast-clause-next c s on_board at = step_by _ _ _ s c.in-NorthEast.is on_board at

pub returns-in-NorthWest-clause-next : goal.returns-in-NorthWest-clause-next
returns-in-NorthWest-clause-next c s on_board at = step_by _ _ _ s c.in-NorthWest.is on_board at

pub returns-in-SouthEast-clause-next : goal.returns-in-SouthEast-clause-next
returns-in-SouthEast-clause-next c s on_board at = step_by _ _ _ s c.in-SouthEast.is on_board at

pub returns-in-SouthWest-clause-next : goal.returns-in-SouthWest-clause-next
returns-in-SouthWest-clause-next c s on_board at = step_by _ _ _ s c.in-SouthWest.is on_board at
