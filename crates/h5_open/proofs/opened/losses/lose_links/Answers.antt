use Rattle.std.proofs.Common.{◌≡◌, ◌∙◌, ℕ, List, [], ◌∷◌, ◌++◌, IsSome, Option, Some, append_assoc, refl, ap, sym, subst}
use Rattle.std.specs.BTreeMap.{get as lookup}
use Rattle.std.specs.Ordering.{nat_cmp}
use Rattle.h5_model.specs.Format.Symbols.{Target}
use Rattle.h5_open.proofs.FollowLaws.{leads_to, leads_to_none}
use Rattle.h5_open.proofs.LostLaws.{more_none}
use Rattle.h5_open.proofs.LostObject.{all_lost, target_few, target_known, target_lost, text_passed}
use Rattle.h5_open.proofs.LostSlots.{there_slot}
use Rattle.h5_open.proofs.OpenedLaws.Sounds.{object_of}
use Rattle.h5_open.proofs.opened.losses.lose_links.Goals as goal

pub object_numbered-object-requires : goal.object_numbered-object-requires
object_numbered-object-requires c = there_slot c.args.image.now.bytes c.args.index.now.objects.items c.args.number c.requires.there

pub links_in-requires : goal.links_in-requires
links_in-requires c =
    (object_of c.args.image.now c.args.index.now.objects.items c.args.index.now.numbers c.requires.opened c.args.number c.object_numbered-object.result.now c.object_numbered-object.ensures).kept

pub loop-link-init : goal.loop-link-init
loop-link-init c = record { first = []; all = refl; lost = more_none c.args.lost.now c.requires.lost }

pub unwrap-target-requires : goal.unwrap-target-requires
unwrap-target-requires c =
    let object = c.object_numbered-object.result.now in
    let so = c.loop-link.invariant in
    let are = sym (c.into_iter-link-iterator.ensures.into_iter_gives ∙ c.in-Ok.ensures.links) ∙ so.all ∙ ap (λ (ls : List (List ℕ × Target)). so.first ++ ls) c.in-Some.ensures.steps in
    let known = target_known c.args.image.now c.args.index.now.objects.items c.args.index.now.numbers c.requires.opened c.args.number object c.object_numbered-object.ensures
    so.first _ c.in-Some.link are c.in-Object.header (leads_to c.in-Some.link.1 c.to.result c.in-Object.header c.to.ensures c.in-Object.is) in
    subst (λ (o : Option ℕ). IsSome o) (sym c.get.ensures) known

pub lose-requires-clause-few : goal.lose-requires-clause-few
lose-requires-clause-few c =
    let object = c.object_numbered-object.result.now in
    let so = c.loop-link.invariant in
    let are = sym (c.into_iter-link-iterator.ensures.into_iter_gives ∙ c.in-Ok.ensures.links) ∙ so.all ∙ ap (λ (ls : List (List ℕ × Target)). so.first ++ ls) c.in-Some.ensures.steps in
    let found : lookup nat_cmp c.args.index.now.numbers c.in-Object.header ≡ Some c.unwrap-target.result
    = sym c.get.ensures ∙ c.unwrap-target.ensures in
    target_few c.args.image.now c.args.index.now.objects.items c.args.index.now.numbers c.requires.opened c.args.number object c.object_numbered-object.ensures
    so.first _ c.in-Some.link are c.in-Object.header (leads_to c.in-Some.link.1 c.to.result c.in-Object.header c.to.ensures c.in-Object.is) c.unwrap-target.result found
    c.args.lost.now c.loop-link.lost so.lost c.requires.few

pub loop-link-preserved : goal.loop-link-preserved
loop-link-preserved c =
    let object = c.object_numbered-object.result.now in
    let so = c.loop-link.invariant in
    let split = so.all ∙ ap (λ (ls : List (List ℕ × Target)). so.first ++ ls) c.in-Some.ensures.steps in
    let are = sym (c.into_iter-link-iterator.ensures.into_iter_gives ∙ c.in-Ok.ensures.links) ∙ split in
    let found : lookup nat_cmp c.args.index.now.numbers c.in-Object.header ≡ Some c.unwrap-target.result
    = sym c.get.ensures ∙ c.unwrap-target.ensures in
    record {
      first = so.first ++ c.in-Some.link ∷ [];
      all = split ∙ sym (append_assoc so.first (c.in-Some.link ∷ []) c.next.new.self);
      lost = target_lost c.args.image.now c.args.index.now.objects.items c.args.index.now.numbers c.requires.opened c.args.number object c.object_numbered-object.ensures
          so.first c.next.new.self c.in-Some.link are c.in-Object.header (leads_to c.in-Some.link.1 c.to.result c.in-Object.header c.to.ensures c.in-Object.is) c.unwrap-target.result found
          c.args.lost.now c.loop-link.lost c.lose.new.lost so.lost c.in_ok-lose.ensures;
    }

pub loop-link-preserved-in_default-to : goal.loop-link-preserved-in_default-to
loop-link-preserved-in_default-to c =
    let object = c.object_numbered-object.result.now in
    let so = c.loop-link.invariant in
    let split = so.all ∙ ap (λ (ls : List (List ℕ × Target)). so.first ++ ls) c.in-Some.ensures.steps in
    let are = sym (c.into_iter-link-iterator.ensures.into_iter_gives ∙ c.in-Ok.ensures.links) ∙ split in
    record {
      first = so.first ++ c.in-Some.link ∷ [];
      all = split ∙ sym (append_assoc so.first (c.in-Some.link ∷ []) c.next.new.self);
      lost = text_passed c.args.image.now c.args.index.now.objects.items c.args.index.now.numbers c.requires.opened c.args.number object c.object_numbered-object.ensures
          so.first c.next.new.self c.in-Some.link are (leads_to_none c.in-Some.link.1 c.to.result c.to.ensures c.in_default-to.not-Object) c.args.lost.now c.loop-link.lost so.lost;
    }

pub returns : goal.returns
returns c =
    let object = c.object_numbered-object.result.now in
    let so = c.loop-link.invariant in
    all_lost c.args.image.now c.args.index.now.objects.items c.args.index.now.numbers c.requires.opened c.args.number object c.object_numbered-object.ensures
    so.first (sym (c.into_iter-link-iterator.ensures.into_iter_gives ∙ c.in-Ok.ensures.links) ∙ so.all ∙ ap (λ (ls : List (List ℕ × Target)). so.first ++ ls) c.in-None.ensures.steps.0) c.args.lost.now c.loop-link.lost so.lost
