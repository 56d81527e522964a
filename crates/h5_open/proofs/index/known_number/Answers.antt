use Rattle.std.proofs.Common.{◌≡◌, ℕ, Some, sym, subst}
use Rattle.std.specs.Prelude.{Option, MatchOption, slice_get}
use Rattle.std.specs.List.{Contains}
use Rattle.h5_open.specs.declared.opened.object.OpenedObject.{OpenedObject}
use Rattle.h5_open.specs.Opened.Objects.{headers, objects_of}
use Rattle.h5_open.proofs.IndexLaws.{object_here}
use Rattle.h5_open.proofs.index.known_number.Goals as goal

pub returns : goal.returns
returns c =
    let slots = c.args.index.now.objects.items in
    subst (λ (found : Option ℕ). MatchOption found (Contains (headers (objects_of slots)) c.args.header → ⊥)
    (λ n. (o : OpenedObject) × (slice_get slots n ≡ Some (Some o)) × (o.messages.header ≡ c.args.header)))
    (sym c.get.ensures)
    (object_here slots c.args.index.now.numbers c.requires c.args.header)
