use Rattle.am_line_session.proofs.awaiting.next_in_time.Goals as goal

pub returns-in-Line-clause-line : goal.returns-in-Line-clause-line
returns-in-Line-clause-line g c = λ before first reading.
    rw c.in-Line.is at c.in_ok-found.ensures.came before first reading

pub returns-in-End-clause-end : goal.returns-in-End-clause-end
returns-in-End-clause-end g c = λ before first reading.
    rw c.in-End.is at c.in_ok-found.ensures.came before first reading

pub returns-in-Late-clause-line : goal.returns-in-Late-clause-line
returns-in-Late-clause-line g c = λ before first reading.
    c.read_on.ensures.line before first (rw c.in-Late.is at c.in_ok-found.ensures.came before first reading)

pub returns-in-Late-clause-end : goal.returns-in-Late-clause-end
returns-in-Late-clause-end g c = λ before first reading.
    c.read_on.ensures.end before first (rw c.in-Late.is at c.in_ok-found.ensures.came before first reading)

pub returns-in-Late-clause-part : goal.returns-in-Late-clause-part
returns-in-Late-clause-part g c = λ before first reading.
    c.read_on.ensures.part before first (rw c.in-Late.is at c.in_ok-found.ensures.came before first reading)
