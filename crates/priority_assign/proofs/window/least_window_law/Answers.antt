use Rattle.priority_assign.proofs.Room.{IsLeast-least_window}
use Rattle.priority_assign.proofs.window.least_window_law.Goals as goal

pub returns : goal.returns
returns c = IsLeast-least_window
