use Rattle.link_filters.specs.Reads.{told_count}
use Rattle.camera_description.proofs.locating.read_url.Given as goal

abbrev pub ghosts-read_memory : goal.ghosts-read_memory
ghosts-read_memory g a = record { address = a.address; count = a.count; before = told_count (g.L.Link.received a.link) }
