use Rattle.gev_receive.proofs.receiving.receive_over.Given as goal

abbrev pub ghosts-receive_from : goal.ghosts-receive_from
ghosts-receive_from g a = record { source = a.ways.camera.address }
