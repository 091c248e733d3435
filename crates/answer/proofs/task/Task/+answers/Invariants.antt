use Rattle.answer.proofs.task.Task.+answers.Given as goal

abbrev pub decreases-low : goal.decreases-low
decreases-low l = l.number

abbrev pub decreases-high : goal.decreases-high
decreases-high l = l.number
