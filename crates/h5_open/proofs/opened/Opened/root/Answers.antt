use Rattle.std.proofs.Common.{◌∙◌, Some, subst, arith}
use Rattle.std.proofs.lemmas.Option.{slice_get_within}
use Rattle.h5_open.specs.Opened.Sound.{IsSound, IsObjectOf}
use Rattle.h5_open.specs.Opened.State.{FileState}
use Rattle.h5_open.proofs.OpenedLaws.LentSlots.{lent_some, slot_lent, slot_read}
use Rattle.h5_open.proofs.OpenedLaws.Sounds.{object_of, root_slot, sound}
use Rattle.h5_open.proofs.opened.Opened.root.Goals as goal

pub index-requires : goal.index-requires
index-requires c =
    let root = root_slot c.self.inside.image c.self.inside.index.objects.items c.self.inside.index.numbers c.self.invariant in
    omega (arith, slice_get_within c.self.inside.index.objects.items 0 (Some root.0) root.1)

pub unwrap-requires : goal.unwrap-requires
unwrap-requires c =
    let slots = c.self.inside.index.objects.items in
    let root = root_slot c.self.inside.image slots c.self.inside.index.numbers c.self.invariant in
    lent_some c.as_ref.result root.0 (c.as_ref.ensures.value ∙ slot_read slots 0 root.0 root.1 c.index.result.now c.index.ensures)

pub returns-clause-root : goal.returns-clause-root
returns-clause-root c =
    let slots = c.self.inside.index.objects.items in
    let root = root_slot c.self.inside.image slots c.self.inside.index.numbers c.self.invariant in
    let at = slot_lent slots 0 root.0 root.1 c.index.result.now c.index.ensures c.as_ref.result c.as_ref.ensures.value c.unwrap.result c.unwrap.ensures in
    subst (λ (f : FileState). IsObjectOf f 0 c.unwrap.result.now) c.self.view_is
    (object_of c.self.inside.image slots c.self.inside.index.numbers c.self.invariant 0 c.unwrap.result.now at)

pub returns-clause-sound : goal.returns-clause-sound
returns-clause-sound c = subst IsSound c.self.view_is (sound c.self.inside.image c.self.inside.index.objects.items c.self.inside.index.numbers c.self.invariant)
