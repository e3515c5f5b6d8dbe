use Rattle.am_serve.proofs.listener.Listener.serve.Given as goal

abbrev pub ghosts-run : goal.ghosts-run
ghosts-run g a = record { table = a.blank.table; seats = a.blank.seats; most_runs = a.blank.most_runs }
