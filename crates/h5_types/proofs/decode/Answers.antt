use Rattle.std.proofs.Common.{◌≡◌, rules, to_z, of_z}
use Rattle.std.specs.Int.{w128}
use Rattle.h5_model.specs.Format.Fixed.{value_of}
use Rattle.h5_types.proofs.Values.{fits_value_of}
use Rattle.h5_types.proofs.decode.Goals as goal

pub returns-clause-of_type : goal.returns-clause-of_type
returns-clause-of_type c =
    let value : to_z w128 (of_z w128 c.read.result) ≡ value_of c.args.fixed.now c.args.bytes.now = search rules in
    rw value (fits_value_of c.args.fixed.now c.args.bytes.now c.read.ensures.sound (λ k. search rules))
