use Rattle.ntfe_run.proofs.tests.pool.a_worker_beside_a_server_that_is_held.Given as goal

abbrev pub ghosts-works_beside : goal.ghosts-works_beside
ghosts-works_beside g a = record { name = a.settled.name; parts = a.settled.parts }
