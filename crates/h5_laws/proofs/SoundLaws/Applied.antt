-- Accepted edits keep a sound tree sound.
use Rattle.std.proofs.Common.{◌≡◌, ◌<◌, ℕ, true, false, List, [], ◌∷◌, length, refl, sym, ap, ◌∙◌, subst, Option, Some, None, inl, arith, nat_le}
use Rattle.std.proofs.lemmas.Bool.Decides.{nat_tests}
use Rattle.std.specs.Prelude.{IsSome, is_some, ◌==◌}
use Rattle.std.specs.Option.{option_and_then, option_map_or}
use Rattle.std.specs.FinMap.{get, insert, remove, empty, get-empty}
use Rattle.std.proofs.lemmas.Bool.{or_parts}
use Rattle.h5_model.specs.Format.Limits.{most_hard_links}
use Rattle.h5_model.specs.Edits.Applied.{with_edit, with_link_at, with_hard_link, with_links, with_attributes, new_object, new_dataset, attribute_from, with_selection, with_sizes}
use Rattle.h5_model.specs.Tree.Paths.{names_of, locate, object_at, object_there, links_at, Located, Here, Missing, NoParent, NoGroup, NoPath}
use Rattle.h5_model.specs.Edits.Refusal.{refusal_of, rules_of, has_zero, is_no_text}
use Rattle.h5_model.specs.Views.Selection.{axes_of}
use Rattle.h5_model.specs.Tree.Objects.{Tree, Object, Group, Array, Dataset, Link, ToObject, Soft, links_of, link_in, follow, hard_links}
use Rattle.h5_model.specs.declared.edits.Edit.TheVariants.{CreateGroup, CreateDataset, HardLink, SoftLink, Unlink, SetAttr, RemoveAttr, Write, Resize}
use Rattle.h5_model.proofs.PathLaws.{found-locate, found}
use Rattle.h5_model.proofs.RefusalLaws.{none_holds}
use Rattle.h5_laws.specs.Trees.Laws.{SoundApplied}
use Rattle.h5_laws.specs.Trees.Sound.{IsSoundTree}
use Rattle.h5_laws.proofs.SoundLaws.Alike.{sound_changed}
use Rattle.h5_laws.proofs.SoundLaws.Counts.{none_named, no_links}
use Rattle.h5_laws.proofs.SoundLaws.DatasetChanges.{sound_dataset}
use Rattle.h5_laws.proofs.SoundLaws.Grown.{IsFit, sound_grown}
use Rattle.h5_laws.proofs.SoundLaws.Linked.{IsBare, one_more, linked_one_more, grown_linked, grown_new, new_stands, none_some}
use Rattle.h5_laws.proofs.SoundLaws.LinksThere.{group_stands}
use Rattle.h5_laws.proofs.SoundLaws.NewPaths.{IsFree, new_is_free}
use Rattle.h5_laws.proofs.SoundLaws.Unlinked.{sound_unlinked}

-- a link at a free path is a link more of the group there
pub linked_is : (tree : Tree) (path : List ℕ) (link : Link) (f : IsFree tree path) → with_link_at tree path link ≡ one_more tree f.parent f.name link f.group f.free
linked_is tree path link f =
    ap (λ (o : Option (ℕ × List ℕ)). option_map_or (λ p. option_map_or (λ x. insert tree p.0 (with_links (λ links. insert links p.1 link) x)) (get tree p.0) tree) o tree) f.found
    ∙ ap (λ (o : Option Object). option_map_or (λ x. insert tree f.parent (with_links (λ links. insert links f.name link) x)) o tree) (f.group).stands

-- ---- an object more

module _ (tree : Tree) (path : List ℕ) (number : ℕ) (o : Object) (sound : IsSoundTree tree) (f : IsFree tree path) (fresh : get tree number ≡ None) (bare : IsBare o) where
  unnamed : (n : ℕ) → ToObject number ≡ ToObject n → hard_links tree n < most_hard_links
  unnamed n e =
      let same : number ≡ n = cc in
      let none : hard_links tree n ≡ 0
      = none_named tree n (λ a x is. none_some (get tree n) (ap (get tree) (sym same) ∙ fresh) (sound.linked a n x is)) in
      omega (arith, none)

  pub sound_made : IsSoundTree (insert (with_link_at tree path (ToObject number)) number o)
  sound_made =
      let is = linked_one_more tree f.parent f.name (ToObject number) f.group f.free in
      let more = one_more tree f.parent f.name (ToObject number) f.group f.free in
      let grows = grown_new tree more f.parent f.name number o is fresh bare in
      let fit : IsFit tree (insert more number o) f.parent f.name (ToObject number) = record {
        named = f.named;
        depth = f.depth;
        above = f.above;
        low = f.low;
        spelled = λ text e. absurd (let never : ToObject number ≡ Soft text = e in cc);
        there = λ n e. let same : number ≡ n = cc in
            subst (λ (k : ℕ). IsSome (get (insert more number o) k)) same (new_stands tree more f.parent f.name number o is fresh bare);
        bare = λ n e group. let same : number ≡ n = cc in none_some (get tree n) (ap (get tree) (sym same) ∙ fresh) (group_stands tree n group);
        room = unnamed;
      } in
      subst (λ (t : Tree). IsSoundTree (insert t number o)) (sym (linked_is tree path (ToObject number) f))
      (sound_grown tree (insert more number o) f.parent f.name (ToObject number) sound grows fit)

bare_group : IsBare (new_object (Group empty))
bare_group = record { links = λ name. get-empty _ name; none = no_links }

bare_array : (d : Dataset) → IsBare (new_object (Array d))
bare_array d = record { links = λ name. refl; none = λ n. refl }

-- ---- a link more, and no object

module _ (tree : Tree) (path : List ℕ) (sound : IsSoundTree tree) (f : IsFree tree path) where
  pub sound_soft : (text : List ℕ) → has_zero text ≡ false → IsSoundTree (with_link_at tree path (Soft text))
  sound_soft text no_zero =
      let more = one_more tree f.parent f.name (Soft text) f.group f.free in
      let grows = grown_linked tree more f.parent f.name (Soft text) (linked_one_more tree f.parent f.name (Soft text) f.group f.free) in
      let fit : IsFit tree more f.parent f.name (Soft text) = record {
        named = f.named;
        depth = f.depth;
        above = f.above;
        low = f.low;
        spelled = λ t e. let same : text ≡ t = cc in ap has_zero (sym same) ∙ no_zero;
        there = λ n e. absurd (let never : Soft text ≡ ToObject n = e in cc);
        bare = λ n e group. let never : Soft text ≡ ToObject n = e in cc;
        room = λ n e. absurd (let never : Soft text ≡ ToObject n = e in cc);
      } in
      subst IsSoundTree (sym (linked_is tree path (Soft text) f)) (sound_grown tree more f.parent f.name (Soft text) sound grows fit)

  pub sound_hard : (n : ℕ) → IsSome (get tree n) → (IsSome (links_of tree n) → ⊥) → hard_links tree n < most_hard_links → IsSoundTree (with_link_at tree path (ToObject n))
  sound_hard n stands no_group room =
      let more = one_more tree f.parent f.name (ToObject n) f.group f.free in
      let grows = grown_linked tree more f.parent f.name (ToObject n) (linked_one_more tree f.parent f.name (ToObject n) f.group f.free) in
      let fit : IsFit tree more f.parent f.name (ToObject n) = record {
        named = f.named;
        depth = f.depth;
        above = f.above;
        low = f.low;
        spelled = λ text e. absurd (let never : ToObject n ≡ Soft text = e in cc);
        there = λ m e. let same : n ≡ m = cc in grows.kept m (subst (λ (k : ℕ). IsSome (get tree k)) same stands);
        bare = λ m e group. let same : n ≡ m = cc in no_group (subst (λ (k : ℕ). IsSome (links_of tree k)) (sym same) group);
        room = λ m e. let same : n ≡ m = cc in subst (λ (k : ℕ). hard_links tree k < most_hard_links) same room;
      } in
      subst IsSoundTree (sym (linked_is tree path (ToObject n) f)) (sound_grown tree more f.parent f.name (ToObject n) sound grows fit)

-- ---- the object at a path

-- a path of a sound tree that leads to an object leads to one of its own
pub follow_stands : (tree : Tree) → IsSoundTree tree → (path : List (List ℕ)) (from : Link) (m : ℕ) → ((n : ℕ) → from ≡ ToObject n → IsSome (get tree n))
    → follow tree from path ≡ Some (ToObject m) → IsSome (get tree m)
follow_stands tree sound [] from m start is = start m (let same : from ≡ ToObject m = cc in same)
follow_stands tree sound (x ∷ path) (Soft text) m start is = absurd (let never : None ≡ Some (ToObject m) = is in cc)
follow_stands tree sound (x ∷ path) (ToObject n) m start is = elim (link_in tree n x) as (λ o. link_in tree n x ≡ o → option_and_then (λ l. follow tree l path) o ≡ Some (ToObject m)
    → IsSome (get tree m)) [
      | None ↦ λ there no. absurd (let never : None ≡ Some (ToObject m) = no in cc)
      | Some l ↦ λ there rest. follow_stands tree sound path l m (λ k e. sound.linked n k x (there ∙ ap (λ (y : Link). Some y) e)) rest
    ] refl is

found_object : (at : Located) (n : ℕ) → object_there at ≡ Some n → found at ≡ Some (ToObject n)
found_object (Here (ToObject m)) n is = let same : m ≡ n = cc in ap (λ (k : ℕ). Some (ToObject k)) same
found_object (Here (Soft text)) n is = absurd (let never : None ≡ Some n = is in cc)
found_object Missing n is = absurd (let never : None ≡ Some n = is in cc)
found_object NoParent n is = absurd (let never : None ≡ Some n = is in cc)
found_object NoGroup n is = absurd (let never : None ≡ Some n = is in cc)
found_object NoPath n is = absurd (let never : None ≡ Some n = is in cc)

-- what stands at a path of a sound tree is one of its objects
pub object_stands : (tree : Tree) (path : List ℕ) (m : ℕ) → IsSoundTree tree → object_at tree path ≡ Some m → IsSome (get tree m)
object_stands tree path m sound is = go (names_of path) is where
  go : (o : Option (List (List ℕ))) → object_there (option_map_or (λ names. locate tree (ToObject 0) names) o NoPath) ≡ Some m → IsSome (get tree m)
  go None here = absurd (let never : None ≡ Some m = here in cc)
  go (Some names) here =
      follow_stands tree sound names (ToObject 0) m
      (λ n e. let same : 0 ≡ n = cc in subst (λ (k : ℕ). IsSome (get tree k)) same (group_stands tree 0 sound.rooted))
      (sym (found-locate tree (ToObject 0) names) ∙ found_object (locate tree (ToObject 0) names) m here)

-- ---- a hard link

sound_linked_to : (tree : Tree) (target path : List ℕ) → IsSoundTree tree → IsFree tree path → is_some (links_at tree target) ≡ false
    → option_map_or (λ number. nat_le most_hard_links (hard_links tree number)) (object_at tree target) false ≡ false → IsSoundTree (with_hard_link tree target path)
sound_linked_to tree target path sound f group many = go (object_at tree target) refl group many where
  go : (o : Option ℕ) → object_at tree target ≡ o → is_some (option_and_then (links_of tree) o) ≡ false
      → option_map_or (λ number. nat_le most_hard_links (hard_links tree number)) o false ≡ false → IsSoundTree (option_map_or (λ number. with_link_at tree path (ToObject number)) o tree)
  go None is no_group few = sound
  go (Some n) is no_group few =
      let room : hard_links tree n < most_hard_links = grind (arith, nat_tests, few) in
      sound_hard tree path sound f n (object_stands tree target n sound is) (λ some. let never : true ≡ false = sym some ∙ no_group in absurd (cc)) room

text_rule : (tree : Tree) (next : ℕ) (text path : List ℕ) → refusal_of tree next (SoftLink text path) ≡ None → has_zero text ≡ false
unfolding refusal_of
text_rule tree next text path accepted =
    let rules = none_holds (rules_of tree next (SoftLink text path)) accepted in
    (or_parts (length text == 0) (has_zero text) (or_parts _ (is_no_text text) rules.0).1).1

group_rule : (tree : Tree) (next : ℕ) (target path : List ℕ) → refusal_of tree next (HardLink target path) ≡ None → is_some (links_at tree target) ≡ false
unfolding refusal_of
group_rule tree next target path accepted =
    let rules = none_holds (rules_of tree next (HardLink target path)) accepted in rules.1.1.1.1.1.1.1.1.1.0

many_rule : (tree : Tree) (next : ℕ) (target path : List ℕ) → refusal_of tree next (HardLink target path) ≡ None
    → option_map_or (λ number. nat_le most_hard_links (hard_links tree number)) (object_at tree target) false ≡ false
unfolding refusal_of
many_rule tree next target path accepted =
    let rules = none_holds (rules_of tree next (HardLink target path)) accepted in
    rules.1.1.1.1.1.1.1.1.1.1.1.1.1.1.1.1.1.1.1.1.1.1.1.1.0

-- ---- every edit

pub sound_applied : SoundApplied
unfolding with_edit
sound_applied tree number next (CreateGroup path) sound fresh accepted =
    sound_made tree path number (new_object (Group empty)) sound (new_is_free tree next (CreateGroup path) path (inl refl) accepted) fresh bare_group
sound_applied tree number next (CreateDataset path spec) sound fresh accepted =
    sound_made tree path number (new_object (Array (new_dataset spec))) sound (new_is_free tree next (CreateDataset path spec) path (inl refl) accepted) fresh (bare_array (new_dataset spec))
sound_applied tree number next (HardLink target path) sound fresh accepted =
    sound_linked_to tree target path sound (new_is_free tree next (HardLink target path) path (inl refl) accepted) (group_rule tree next target path accepted)
    (many_rule tree next target path accepted)
sound_applied tree number next (SoftLink text path) sound fresh accepted =
    sound_soft tree path sound (new_is_free tree next (SoftLink text path) path (inl refl) accepted) text (text_rule tree next text path accepted)
sound_applied tree number next (Unlink path) sound fresh accepted = sound_unlinked tree path sound
sound_applied tree number next (SetAttr path attr) sound fresh accepted =
    sound_changed tree path (with_attributes (λ m. insert m attr.name (attribute_from attr))) (λ o. refl) sound
sound_applied tree number next (RemoveAttr path name) sound fresh accepted = sound_changed tree path (with_attributes (λ m. remove m name)) (λ o. refl) sound
sound_applied tree number next (Write path hyper values) sound fresh accepted = sound_dataset tree path (with_selection (axes_of hyper) values) sound
sound_applied tree number next (Resize path dims) sound fresh accepted = sound_dataset tree path (with_sizes dims) sound
