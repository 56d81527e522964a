-- What a file is once it was repacked (File Format Specification 3.0, sections II.A, III and IV.A).
use Rattle.std.specs.Prelude.{◌≡◌, ◌≤◌, [], length}
use Rattle.h5_model.specs.Format.Limits.{most_bytes}
use Rattle.h5_model.specs.Format.Superblock.{k_values}
use Rattle.h5_edit.specs.Opened.Sound.{IsSound, IsWholeFile}
use Rattle.h5_edit.specs.Opened.State.{FileState, state_of}
use Rattle.h5_edit.specs.Repacked.{HasLengthAnew}

-- Its tree, its numbers, the version of its superblock and all K values are those from before. Its blocks cover each byte of the image once,
-- and none is free. The image has the length of the plain one, with each chunk that was stored and holds a cell.
pub record IsRepacked (before after : FileState) : Type 0 where
  pub state : state_of after ≡ state_of before
  pub sound : IsSound after
  pub whole : IsWholeFile after
  pub free : after.free ≡ []
  pub k : k_values after.image ≡ k_values before.image
  pub long : HasLengthAnew before (length after.image)
  pub few : length after.image ≤ most_bytes
