use Rattle.camera_registers.proofs.registering.register.Given as goal

abbrev pub ghosts-access_from : goal.ghosts-access_from
ghosts-access_from g a = record { source = a.camera.address }
