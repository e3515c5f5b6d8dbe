use Rattle.am_line_session.proofs.awaiting.read_on.Goals as goal

pub returns-in-Line-clause-line : goal.returns-in-Line-clause-line
returns-in-Line-clause-line g c = λ before first reading.
    rw c.in-Line.is at c.in_ok-found.ensures.came before first reading

pub returns-in-End-clause-end : goal.returns-in-End-clause-end
returns-in-End-clause-end g c = λ before first reading.
    rw c.in-End.is at c.in_ok-found.ensures.came before first reading
