use Rattle.steal_workers.proofs.together.list_together.Given as goal

abbrev pub ghosts-with_pool : goal.ghosts-with_pool
ghosts-with_pool g a = record { name = a.settled.name; parts = a.settled.parts }
