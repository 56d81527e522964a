use Rattle.h5_file.proofs.file.File.links.Goals as goal

pub returns : goal.returns
returns c = rw (← c.self.view_is) c.links_of.ensures
