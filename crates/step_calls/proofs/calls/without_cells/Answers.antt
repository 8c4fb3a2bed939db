use Rattle.step_calls.proofs.calls.without_cells.Goals as goal

pub returns-then-keeps_all : goal.returns-then-keeps_all
returns-then-keeps_all g c = λ m f k e l. c.if-keeps_all.ensures m f k e l

pub returns-else-keeps_all : goal.returns-else-keeps_all
returns-else-keeps_all g c = λ m f k e l. c.if-keeps_all.ensures m f k e l
