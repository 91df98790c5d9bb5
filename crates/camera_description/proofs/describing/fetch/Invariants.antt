use Rattle.camera_description.proofs.describing.fetch.Given as goal

abbrev pub ghosts-describe_from : goal.ghosts-describe_from
ghosts-describe_from g a = record { source = a.camera.address }
