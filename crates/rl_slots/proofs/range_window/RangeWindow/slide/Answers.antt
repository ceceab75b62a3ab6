-- What the window stands for says what it visits at most.
use Rattle.rl_slots.proofs.Visiting.{visits-few}
use Rattle.rl_slots.proofs.range_window.RangeWindow.slide.Goals as goal

pub returns-clause-few : goal.returns-clause-few
returns-clause-few c = λ entries since early stands. visits-few c.args.self.now entries since c.args.t early c.slide.ensures.lines stands
