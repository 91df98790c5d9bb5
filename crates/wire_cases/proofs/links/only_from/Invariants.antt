use Rattle.wire_cases.proofs.links.only_from.Given as goal

abbrev pub ghosts-hear_one : goal.ghosts-hear_one
ghosts-hear_one a = record { source = a.source }
