-- Which trees the plain layout can hold: those of opened images (File Format Specification 3.0, sections III and IV.A).
use Rattle.std.specs.Prelude.{ℕ, ◌<◌, List, slice_index}
use Rattle.h5_query.specs.Opened.Sound.{IsSound}
use Rattle.h5_query.specs.Opened.State.{FileState}
use Rattle.h5_repack.specs.Image.Plain.{ArePlain}

-- ---- opened images

-- each byte is a number below 256
abbrev pub AreBytes : List ℕ → Type 0
AreBytes bytes = (i : ℕ) → slice_index bytes i < 256

abbrev pub OpenedPlain : Type 0
OpenedPlain = (f : FileState) → AreBytes f.image → IsSound f → ArePlain f.tree
