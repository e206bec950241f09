use Rattle.ntfe_run.proofs.tests.pool.a_worker_with_no_server.Given as goal

abbrev pub ghosts-works_alone : goal.ghosts-works_alone
ghosts-works_alone g a = record { name = a.settled.name; parts = a.settled.parts }
