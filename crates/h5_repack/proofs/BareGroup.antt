-- A group without links and without attributes, as it is appended: how its parts lie, how long they are, and which object they are.
use Rattle.std.proofs.Common.{◌≡◌, ℕ, ◌+◌, ◌*◌, List, [], ◌∷◌, ◌++◌, length, map, refl, sym, ap, ◌∙◌, subst, arith, Option}
use Rattle.std.proofs.lemmas.List.{length-append}
use Rattle.std.specs.FinMap.{entries, empty}
use Rattle.std.specs.Cmp.Lexicographic.{slice_cmp}
use Rattle.std.specs.Ordering.{nat_cmp}
use Rattle.std.specs.List.{AllByRecursion, AllZip}
use Rattle.h5_model.specs.Format.Empty.{root_object}
use Rattle.h5_model.specs.Format.Sizes.{group_node}
use Rattle.h5_model.specs.Format.Superblock.{AreK}
use Rattle.h5_model.specs.Tree.Objects.{Attribute, Link}
use Rattle.h5_model.proofs.MapSteps.{entries-empty}
use Rattle.h5_group.specs.Heap.Links.{Leads}
use Rattle.h5_group.specs.Writing.Laws.{IsLinkWritten}
use Rattle.h5_group.specs.Writing.Places.{ArePlaces}
use Rattle.h5_group.specs.Writing.Written.{links_bytes}
use Rattle.h5_group.specs.declared.write.places.GroupPlaces.{GroupPlaces}
use Rattle.h5_group.proofs.WriteLaws.BareGroup.{bare_length, one_node, plain_none}
use Rattle.h5_group.proofs.WriteLaws.Lengths.{links_length_is}
use Rattle.h5_repack.specs.Blocks.Others.{OthersBytes}
use Rattle.h5_repack.specs.Blocks.Written.{AreOthers}
use Rattle.h5_repack.specs.Bodies.Bodies.{attribute_message, others_of}
use Rattle.h5_repack.specs.Bodies.Headers.{group_header}
use Rattle.h5_repack.specs.Bodies.Sound.{IsPlainAttribute, IsPlainObject}
use Rattle.h5_repack.specs.Image.Plain.{IsPlain}
use Rattle.h5_repack.specs.Layout.{IsExtent, IsGroupObject, StoredObject}
use Rattle.h5_repack.specs.declared.size.Extent.TheVariants as extent
use Rattle.h5_repack.proofs.BodyLaws.HeaderGroup.{length-group_header}

-- ---- the object

pub no_attributes : entries root_object.attributes ≡ []
no_attributes = entries-empty {X = Attribute} (slice_cmp nat_cmp)

pub no_others : others_of root_object ≡ []
no_others = ap (map attribute_message) no_attributes

pub bare_plain : IsPlain root_object
bare_plain = record { others = own; content = rw no_others (omega arith) } where
  own : IsPlainObject root_object
  own = record { kept = tt; attributes = subst (AllByRecursion IsPlainAttribute) (sym no_attributes) tt }

no_links : (ls : List (List ℕ × Leads)) → AllZip IsLinkWritten [] ls → [] ≡ ls
no_links [] all = refl
no_links (l ∷ ls) all = absurd all

-- ---- its parts: one node, and a heap

module _ (leaf internal : ℕ) (k : AreK leaf internal) where
  pub bare_places_are : (p : GroupPlaces) → p.tree ≡ group_node internal → p.segment ≡ 88 → p.length ≡ group_node internal + 120 → ArePlaces leaf internal [] p
  bare_places_are p tree segment all =
      let node : group_node internal ≡ 1 * group_node internal = omega arith in
      record {
        tree = tree ∙ node ∙ ap (λ (n : ℕ). n * group_node internal) (sym (one_node leaf internal k));
        segment = segment;
        length_is = all ∙ sym (bare_length leaf internal k);
        few = omega (arith, all, k.internal_high);
        low = (plain_none leaf internal k).low;
      }

  -- how many bytes they have, wherever they stand
  pub length-bare_group : (tree heap : ℕ) → length (group_header tree heap [] ++ links_bytes leaf internal tree []) ≡ group_node internal + 160
  length-bare_group tree heap =
      omega (
        arith,
        length-append (group_header tree heap []) (links_bytes leaf internal tree []),
        length-group_header tree heap [],
        links_length_is leaf internal tree [] (plain_none leaf internal k),
        bare_length leaf internal k,
      )

  -- what the writer takes for such a group
  pub bare_held : (chunk : Option ℕ) (others : OthersBytes) (p : GroupPlaces) → AreOthers [] others → ArePlaces leaf internal [] p
      → (o : StoredObject) × IsGroupObject [] others o × IsExtent (record { leaf = leaf; internal = internal; chunk = chunk }) (length o.chunks) (o.object).content (extent.Links p)
  bare_held chunk others p are places = (
    record { object = root_object; chunks = [] },
    record {
      group = empty;
      content = refl;
      linked = sym (entries-empty {X = Link} (slice_cmp nat_cmp));
      others_are = subst (λ ms. AreOthers ms others) (sym no_others) are;
      plain = bare_plain;
    },
    λ ls all. subst (λ (found : List (List ℕ × Leads)). ArePlaces leaf internal found p)
        (no_links ls (subst (λ (es : List (List ℕ × Link)). AllZip IsLinkWritten es ls) (entries-empty {X = Link} (slice_cmp nat_cmp)) all)) places,
  )
