use Rattle.std.proofs.Common.{Bor, ℕ, List, map, refl}
use Rattle.h5_c.proofs.ListedNames.{attributes_listed, attributes_refused, attributes_short}
use Rattle.h5_c.proofs.held.Held.attributes.Goals as goal

pub returns-in-Ok-ended_names : goal.returns-in-Ok-ended_names
returns-in-Ok-ended_names c =
    attributes_listed c.args.self.now _ c.args.path.now refl c.file.result.now c.file.ensures.file _ _ c.in-Ok.ensures
    (λ i. map (λ (name : Bor (List ℕ)). name.now) (c.deref.ensures.value i)) c.in-Ok-ended_names.ensures

pub returns-in-Ok : goal.returns-in-Ok
returns-in-Ok c = attributes_short c.args.self.now _ c.args.path.now refl c.file.result.now c.file.ensures.file _ c.in-Ok.ensures refl

pub returns : goal.returns
returns c = attributes_refused c.args.self.now _ c.args.path.now refl c.file.result.now c.file.ensures.file c.in-Err.fault c.number.result c.in-Err.ensures c.number.ensures refl
