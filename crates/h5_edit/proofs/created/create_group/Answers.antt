use Rattle.std.proofs.Common.{◌≡◌, ◌+◌, ◌∙◌, ap, arith, inl, length, refl, subst, sym}
use Rattle.std.proofs.lemmas.Result.{err_from_is_err_and}
use Rattle.std.specs.FinMap.{empty}
use Rattle.h5_model.specs.Edits.Applied.{new_object}
use Rattle.h5_model.specs.Format.Sizes.{group_node}
use Rattle.h5_model.specs.Format.Superblock.{AreKValues, leaf_k, internal_k, k_values}
use Rattle.h5_model.specs.Tree.Objects.{Group}
use Rattle.h5_model.specs.declared.k_values.KValues.{KValues}
use Rattle.h5_model.specs.declared.edits.Edit.TheVariants.{CreateGroup}
use Rattle.h5_edit.proofs.Answered.{k_there}
use Rattle.h5_edit.proofs.GroupsMade.{group_added, group_good}
use Rattle.h5_edit.proofs.LinkFacts.{free_asked, group_asked, group_edit}
use Rattle.h5_edit.proofs.NewObjects.{group_few}
use Rattle.h5_edit.proofs.ObjectsMade.{object_too_long}
use Rattle.h5_edit.proofs.RuleLaws.Exits.{passed_on}
use Rattle.h5_edit.proofs.Refusals.{by_rule, short_of_memory}
use Rattle.h5_edit.proofs.created.create_group.Goals as goal

pub returns-in_err-place : goal.returns-in_err-place
returns-in_err-place c =
    passed_on _ _ c.from_residual.result _ c.from_residual.ensures.1
    (by_rule c.args.opened.now (CreateGroup c.args.path.now) _ c.in_err-place.ensures, refl)

pub k_values-k-requires : goal.k_values-k-requires
k_values-k-requires c =
    let whole = c.image.ensures.sound.reads.holds.superblock.whole in
    omega (arith, whole, ap length (c.bytes.ensures ∙ c.image.ensures.bytes))

pub push_bare_group-requires-clause-k : goal.push_bare_group-requires-clause-k
push_bare_group-requires-clause-k c =
    let same : c.k_values-k.result ≡ k_values c.args.opened.now.image = c.k_values-k.ensures.exact ∙ ap k_values (c.bytes.ensures ∙ c.image.ensures.bytes) in
    subst AreKValues (sym same) (k_there c.image.ensures.sound)

pub no_room-requires : goal.no_room-requires
no_room-requires c = record { group = group_asked c.args.opened.now c.next-number.ensures.sound c.in_ok-place.ensures (inl refl) }

pub returns-in_default : goal.returns-in_default
returns-in_default c =
    let f = c.args.opened.now in
    let placed = c.in_ok-place.ensures in
    let internal = ap (λ (k : KValues). k.internal) c.k_values-k.ensures.exact ∙ ap internal_k (c.bytes.ensures ∙ c.image.ensures.bytes) in (
      rw c.insertion_fault.ensures
          (object_too_long f c.next-number.ensures.sound placed (inl refl) (new_object (Group empty)) (group_node (internal_k f.image) + 160) refl
          (λ table bytes. group_edit f table bytes placed) c.bare_group_length.result (c.bare_group_length.ensures ∙ ap (λ k. group_node k + 160) internal)
          c.in_default.ensures.place c.no_room.result c.no_room.ensures.deep c.no_room.ensures.full),
      refl,
    )

pub returns-in_err-push_bare_group : goal.returns-in_err-push_bare_group
returns-in_err-push_bare_group c =
    let p = err_from_is_err_and c.from_residual-in_err-push_bare_group.result c.from_residual-in_err-push_bare_group.ensures.1 in
    rw (p.1, p.2) (short_of_memory c.args.opened.now (CreateGroup c.args.path.now) c.in_ok-place.ensures.allowed, refl)

pub add_object-added-requires-clause-group : goal.add_object-added-requires-clause-group
add_object-added-requires-clause-group c = group_asked c.args.opened.now c.next-number.ensures.sound c.in_ok-place.ensures (inl refl)

pub add_object-added-requires-clause-free : goal.add_object-added-requires-clause-free
add_object-added-requires-clause-free c = free_asked c.args.opened.now c.next-number.ensures.sound c.in_ok-place.ensures (inl refl)

pub add_object-added-requires-clause-few : goal.add_object-added-requires-clause-few
add_object-added-requires-clause-few c = group_few c.args.opened.now.tree c.args.opened.now.next c.args.path.now c.in_ok-place.ensures.allowed

pub add_object-added-requires-clause-good : goal.add_object-added-requires-clause-good
add_object-added-requires-clause-good c =
    group_good c.next-number.ensures.sound (record {
      leaf_is = ap (λ (k : KValues). k.leaf) c.k_values-k.ensures.exact ∙ ap leaf_k (c.bytes.ensures ∙ c.image.ensures.bytes);
      internal_is = ap (λ (k : KValues). k.internal) c.k_values-k.ensures.exact ∙ ap internal_k (c.bytes.ensures ∙ c.image.ensures.bytes);
      counted = c.bare_group_length.ensures;
      place = c.in-Some.ensures.place;
      none = c.new-bytes.ensures.items;
      bytes = c.in_ok-push_bare_group.ensures.bytes;
      long = c.in_ok-push_bare_group.ensures.long;
      table_is = c.bare_group_table.ensures;
      head_is = c.deref.ensures.value;
      rest_is = c.deref-2.ensures.value;
      header = refl;
      content = refl;
      behind = refl;
    }) c.in_ok-place.ensures

pub returns : goal.returns
returns c =
    let says = c.add_object-added.ensures in
    rw c.answered.ensures
    (group_added c.next-number.ensures.sound (record {
      leaf_is = ap (λ (k : KValues). k.leaf) c.k_values-k.ensures.exact ∙ ap leaf_k (c.bytes.ensures ∙ c.image.ensures.bytes);
      internal_is = ap (λ (k : KValues). k.internal) c.k_values-k.ensures.exact ∙ ap internal_k (c.bytes.ensures ∙ c.image.ensures.bytes);
      counted = c.bare_group_length.ensures;
      place = c.in-Some.ensures.place;
      none = c.new-bytes.ensures.items;
      bytes = c.in_ok-push_bare_group.ensures.bytes;
      long = c.in_ok-push_bare_group.ensures.long;
      table_is = c.bare_group_table.ensures;
      head_is = c.deref.ensures.value;
      rest_is = c.deref-2.ensures.value;
      header = refl;
      content = refl;
      behind = refl;
    }) c.in_ok-place.ensures c.next-number.result c.next-number.ensures.next _ _
    (record { changed = says.changed; deep = says.deep; full = says.full; refused = says.refused }))
