use Rattle.std.proofs.Common.{rules, subst}
use Rattle.h5_model.specs.Format.Fixed.{IsFixed}
use Rattle.h5_layout.specs.Data.{IsSoundDataset}
use Rattle.h5_layout.proofs.DataLaws.{sound_dataset}
use Rattle.h5_layout.proofs.stored.StoredArray.array.Goals as goal

pub returns-clause-sound : goal.returns-clause-sound
returns-clause-sound c =
    let a = c.self.inside.array in
    let is : IsFixed c.fixed-fixed.result = search rules in
    subst IsSoundDataset c.self.view_is
    (sound_dataset c.self.inside.image.now.bytes a (subst IsFixed c.fixed-fixed.ensures is) c.fill-fill.ensures.of_type c.dims-dims.ensures.sound)
