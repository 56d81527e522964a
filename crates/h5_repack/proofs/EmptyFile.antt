-- The empty file is what the writer makes of a root without links, and it reads as that root.
use Rattle.std.proofs.Common.{◌≡◌, ℕ, Vec, zero, suc, ◌+◌, ◌≤◌, inl, inr, List, [], ◌∷◌, ◌++◌, length, refl, sym, ap, ◌∙◌, subst, arith, Option, Some, None, IsSome, cond, false, true}
use Rattle.std.proofs.lemmas.Option.{same_Some}
use Rattle.std.proofs.Math.Dec.{eqb-suc-zero}
use Rattle.std.specs.Prelude.{◌==◌, if◌then◌else◌, map, slice_get}
use Rattle.std.specs.Option.{option_flatten, option_map_or}
use Rattle.std.specs.Ordering.{nat_cmp}
use Rattle.std.specs.Cmp.{nat_cmp_total, unsigned_tied}
use Rattle.std.specs.Cmp.Lexicographic.{slice_cmp}
use Rattle.std.specs.declared.alloc.Global.{Global}
use Rattle.std.specs.FinMap.{FinMap, get, entries, empty, len-empty, entries-insert, get-insert, get-empty, put}
use Rattle.h5_model.specs.Format.Limits.{most_names}
use Rattle.h5_model.specs.Format.MessageTypes.{symbol_table_kind}
use Rattle.h5_model.specs.Format.Empty.{empty_file, new_k, root_table, root_tree, root_object}
use Rattle.h5_model.specs.Format.Bodies.{pair_bytes}
use Rattle.h5_model.specs.Format.Plain.{superblock_bytes, header_bytes}
use Rattle.h5_model.specs.Format.Superblock.{AreKValues}
use Rattle.h5_model.specs.Tree.Objects.{Object, Group, Array, Link, ToObject, Soft, follow, hard_links, links_of, link_in}
use Rattle.h5_model.proofs.MapSteps.{entries-empty}
use Rattle.h5_laws.specs.Trees.Sound.{IsSoundTree}
use Rattle.h5_laws.proofs.Lists.{In, in_contains, contains_in}
use Rattle.h5_laws.proofs.Pigeonhole.{distinct_of_apart}
use Rattle.h5_btree.specs.Writing.Written.{root_level, tree_bytes}
use Rattle.h5_group.specs.Heap.Written.{heap_bytes}
use Rattle.h5_group.specs.Writing.Written.{links_bytes}
use Rattle.h5_repack.specs.Bodies.Laws.{IsPlainReading}
use Rattle.h5_repack.specs.Image.Plain.{ArePlain, AreLow, AreStoredIn, IsLow, IsLowContent, IsPlain, IsPlainTree}
use Rattle.h5_repack.specs.Image.Written.{IsOrder, StoredIn, counts_of, content_place, header_in, group_heap_place, image_end, plain_image, table_of, written_link, written_links}
use Rattle.h5_repack.specs.Blocks.Written.{AreOthers}
use Rattle.h5_repack.specs.Bodies.Bodies.{others_of}
use Rattle.h5_model.specs.Tree.Links.{tree_link}
use Rattle.h5_repack.specs.Objects.Objects.{IsNewContent}
use Rattle.h5_repack.specs.declared.objects.object.NewContent.{NewContent}
use Rattle.h5_repack.specs.declared.objects.object.NewContent.TheVariants as new
use Rattle.h5_repack.specs.declared.objects.object.NewObject.{NewObject}
use Rattle.h5_model.specs.declared.object_no.ObjectNo.{ObjectNo}
use Rattle.h5_model.specs.declared.link.Link.{Link as LinkOf}
use Rattle.h5_repack.specs.Written.{IsTreeToWrite, IsUnwritten, IsWritten}
use Rattle.h5_repack.specs.declared.write.Written.{Written}
use Rattle.h5_repack.specs.declared.write.WriteFault.TheVariants.{TooLong, TooDeep}
use Rattle.h5_repack.proofs.BareGroup.{bare_plain, no_attributes, no_others}
use Rattle.h5_repack.proofs.ImageLaws.ImageLength.{image_length}
use Rattle.h5_repack.proofs.ImageLaws.Orders.{got_in_order, order-total}
use Rattle.h5_repack.proofs.ImageLaws.PlainImages.{plain_reads}
use Rattle.h5_repack.proofs.ImageLaws.Totals.{total}

-- ---- the tree

get-root_tree : get root_tree 0 ≡ Some root_object
unfolding root_tree
get-root_tree = get-insert nat_cmp_total empty 0 root_object 0

get-root_tree_other : (n : ℕ) → get root_tree (suc n) ≡ None
unfolding root_tree
get-root_tree_other n = get-insert nat_cmp_total empty 0 root_object (suc n)
    ∙ ap (λ b. cond b (Some root_object) (get (empty {R = nat_cmp}) (suc n))) (unsigned_tied (suc n) 0 ∙ eqb-suc-zero n)
    ∙ get-empty nat_cmp (suc n)

tree-entries : entries root_tree ≡ (0, root_object) ∷ []
unfolding root_tree
tree-entries = entries-insert nat_cmp_total empty 0 root_object ∙ ap (put nat_cmp 0 root_object) (entries-empty nat_cmp)

root_is : (o : Object) → get root_tree 0 ≡ Some o → root_object ≡ o
root_is o is = same_Some root_object o (sym get-root_tree ∙ is)

no_link : (n : ℕ) (name : List ℕ) → link_in root_tree n name ≡ None
no_link zero name = rw (get-root_tree, get-empty (slice_cmp nat_cmp) name) refl
no_link (suc n) name = rw (get-root_tree_other n) refl

no_links : (n : ℕ) → hard_links root_tree n ≡ 0
no_links n = rw (tree-entries, entries-empty {X = Link} (slice_cmp nat_cmp)) refl

reached : (n : ℕ) → IsSome (get root_tree n) → (path : List (List ℕ)) × (follow root_tree (ToObject 0) path ≡ Some (ToObject n))
reached zero there = ([], refl)
reached (suc n) there = absurd (let none : false ≡ true = rw (get-root_tree_other n) at there in cc)

shallow : (path : List (List ℕ)) → IsSome (follow root_tree (ToObject 0) path) → length path ≤ most_names
shallow [] there = omega arith
shallow (name ∷ names) there = absurd (let none : false ≡ true = rw (no_link 0 name) at there in cc)

once : (n : ℕ) → IsSome (links_of root_tree n) → hard_links root_tree n + (if n == 0 then 1 else 0) ≡ 1
once zero there = rw (no_links 0) refl
once (suc n) there = absurd (let none : false ≡ true = rw (get-root_tree_other n) at there in cc)

root_sound : IsSoundTree root_tree
root_sound = record {
  rooted = rw get-root_tree refl;
  named = λ n name there. absurd (let none : false ≡ true = rw (no_link n name) at there in cc);
  linked = λ n other name is. absurd (let none : None ≡ Some (ToObject other) = sym (no_link n name) ∙ is in cc);
  spelled = λ n name text is. absurd (let none : None ≡ Some (Soft text) = sym (no_link n name) ∙ is in cc);
  reached = reached;
  shallow = shallow;
  once = once;
  few = λ n there. rw (no_links n) (omega arith);
}

-- ---- it can be written

root_plain : ArePlain root_tree
root_plain zero o is = subst IsPlain (root_is o is) bare_plain
root_plain (suc n) o is = absurd (let none : None ≡ Some o = sym (get-root_tree_other n) ∙ is in cc)

no_depth : IsLow 4 16 empty
unfolding root_level
no_depth = rw (len-empty (slice_cmp nat_cmp) Link) (omega arith)

root_low : (stored : StoredIn) → AreLow new_k stored root_tree
root_low stored zero o is = subst (λ (x : Object). IsLowContent new_k (length (stored 0)) x.content) (root_is o is) no_depth
root_low stored (suc n) o is = absurd (let none : None ≡ Some o = sym (get-root_tree_other n) ∙ is in cc)

in_range : AreKValues new_k
in_range = record {
  groups = record { leaf_low = omega arith; leaf_high = omega arith; internal_low = omega arith; internal_high = omega arith };
  chunk_low = omega arith;
  chunk_high = omega arith;
}

-- ---- it is written so

abbrev root_order : List (ℕ × Object)
root_order = (0, root_object) ∷ []

is_order : IsOrder root_tree root_order
is_order = record {
  root = root_object;
  others = [];
  first = refl;
  each = λ n o there. each n o (in_contains (n, o) root_order there);
  all = λ n o is. contains_in (n, o) root_order (all n o is);
  distinct = distinct_of_apart (0 ∷ []) ((λ none. none), tt);
} where
  each : (n : ℕ) (o : Object) → In (n, o) root_order → get root_tree n ≡ Some o
  each n o (inl same) = subst (λ (e : ℕ × Object). get root_tree e.0 ≡ Some e.1) same get-root_tree
  each n o (inr none) = absurd none

  all : (n : ℕ) (o : Object) → get root_tree n ≡ Some o → In (n, o) root_order
  all zero o is = inl (ap (λ (x : Object). (0, x)) (root_is o is))
  all (suc n) o is = absurd (let none : None ≡ Some o = sym (get-root_tree_other n) ∙ is in cc)

-- no object stands behind the root
one_order : (order : List (ℕ × Object)) → IsOrder root_tree order → order ≡ root_order
one_order order is =
    let counted : total (λ (e : ℕ × Object). 1) ((0, is.root) ∷ is.others) ≡ 1 =
    ap (total (λ (e : ℕ × Object). 1)) (sym is.first) ∙ order-total root_tree order is (λ e. 1) ∙ ap (total (λ (e : ℕ × Object). 1)) tree-entries in
    let root : root_object ≡ is.root = root_is is.root (got_in_order root_tree order is 0 is.root (subst (In (0, is.root)) (sym is.first) (inl refl))) in
    is.first ∙ ap (λ (es : List (ℕ × Object)). (0, is.root) ∷ es) (alone is.others counted) ∙ ap (λ (o : Object). (0, o) ∷ []) (sym root) where
      alone : (es : List (ℕ × Object)) → 1 + total (λ (e : ℕ × Object). 1) es ≡ 1 → es ≡ []
      alone [] one = refl
      alone (e ∷ es) one = absurd (omega (arith, one))

-- its bytes are counted as 800, whatever chunks are counted for a group
ends : (counts : ℕ → ℕ) → image_end new_k counts root_order ≡ 800
ends counts = rw (no_attributes, entries-empty {X = Link} (slice_cmp nat_cmp), len-empty (slice_cmp nat_cmp) Link) refl

header_at : (counts : ℕ → ℕ) → header_in (table_of new_k counts root_order) 0 ≡ 96
header_at counts = ap (λ (x : Option ℕ). option_map_or (λ (h : ℕ). h) x 0) (get-insert {X = ℕ} nat_cmp_total empty 0 96 0)

tree_at : content_place root_object 96 ≡ 136
tree_at = rw no_attributes refl

heap_at : group_heap_place new_k root_object empty 96 ≡ 680
heap_at = rw (no_attributes, len-empty (slice_cmp nat_cmp) Link) refl

tree_behind : (counts : ℕ → ℕ) → content_place root_object (header_in (table_of new_k counts root_order) 0) ≡ 136
tree_behind counts = ap (content_place root_object) (header_at counts) ∙ tree_at

heap_behind : (counts : ℕ → ℕ) → group_heap_place new_k root_object empty (header_in (table_of new_k counts root_order) 0) ≡ 680
heap_behind counts = ap (group_heap_place new_k root_object empty) (header_at counts) ∙ heap_at

none_written : (counts : ℕ → ℕ) → written_links new_k root_tree (table_of new_k counts root_order) empty ≡ []
none_written counts = ap (map (written_link new_k root_tree (table_of new_k counts root_order))) (entries-empty {X = Link} (slice_cmp nat_cmp))

parts : (stored : StoredIn) → plain_image new_k stored root_tree root_order
    ≡ superblock_bytes new_k 800 96 136 680 ++ ((header_bytes 1 ((symbol_table_kind, pair_bytes 136 680) ∷ []) ++ links_bytes 4 16 136 []) ++ [])
unfolding plain_image
parts stored = λ i. superblock_bytes new_k (ends (counts_of stored) i) 96 (tree_at i) (heap_at i)
    ++ ((header_bytes 1 ((symbol_table_kind, pair_bytes (tree_behind (counts_of stored) i) (heap_behind (counts_of stored) i)) ∷ no_others i)
    ++ links_bytes 4 16 (tree_behind (counts_of stored) i) (none_written (counts_of stored) i)) ++ [])

same_bytes : superblock_bytes new_k 800 96 136 680 ++ ((header_bytes 1 ((symbol_table_kind, pair_bytes 136 680) ∷ []) ++ links_bytes 4 16 136 []) ++ []) ≡ empty_file
unfolding links_bytes tree_bytes heap_bytes empty_file
same_bytes = refl

same_image : (stored : StoredIn) → plain_image new_k stored root_tree root_order ≡ empty_file
same_image stored = parts stored ∙ same_bytes

-- what is written of it is the empty file
pub written_empty : (stored : StoredIn) (w : Written) → IsWritten new_k stored root_tree w → w.image.items ≡ empty_file
written_empty stored w is = is.image_is ∙ ap (plain_image new_k stored root_tree) (one_order is.order is.ordered) ∙ same_image stored

pub never_long : (stored : StoredIn) → IsUnwritten new_k stored root_tree TooLong → ⊥
never_long stored long =
    let same = image_length new_k (counts_of stored) root_tree root_order is_order in absurd (omega (arith, long, same, ends (counts_of stored)))

pub never_deep : (stored : StoredIn) → IsUnwritten new_k stored root_tree TooDeep → ⊥
never_deep stored (n, o, is, high) = high (root_low stored n o is)

-- ---- it reads so

-- no chunk is stored
abbrev none_stored : StoredIn
none_stored number = []

no_array : AreStoredIn none_stored root_tree
no_array zero o d is array = absurd (let group : Group empty ≡ Array d = ap (λ (x : Object). x.content) (root_is o is) ∙ array in cc)
no_array (suc n) o d is array = absurd (let none : None ≡ Some o = sym (get-root_tree_other n) ∙ is in cc)

same_table : table_of new_k (counts_of none_stored) root_order ≡ root_table
unfolding root_table
same_table = refl

pub empty_reading : IsPlainReading empty_file new_k root_table root_tree
empty_reading =
    let can : IsPlainTree new_k none_stored root_tree = record { in_range = in_range; sound = root_sound; each = root_plain; low = root_low none_stored; chunks = no_array } in
    subst (λ (image : List ℕ). IsPlainReading image new_k root_table root_tree) (same_image none_stored)
    (subst (λ (table : FinMap nat_cmp ℕ). IsPlainReading (plain_image new_k none_stored root_tree root_order) new_k table root_tree) same_table
    (plain_reads new_k none_stored root_tree root_order can is_order (omega (arith, ends (counts_of none_stored)))))

-- ---- it is what is handed to the writer

-- a group without links and without other messages is the root
pub root_held : (x : NewObject) (links : Vec (LinkOf ObjectNo) Global) → x.content ≡ new.Group links → links.items ≡ [] → AreOthers [] x.others → IsTreeToWrite (Some x ∷ []) root_tree
root_held x links is none others = record {
  objects_are = record { listed = Some root_object ∷ []; numbered = numbered; each = (record { content = content; others = own }, tt) };
  sound = root_sound;
  plain = root_plain;
} where
  numbered : (n : ℕ) → get root_tree n ≡ option_flatten (slice_get (Some root_object ∷ []) n)
  numbered zero = get-root_tree
  numbered (suc n) = get-root_tree_other n

  content : IsNewContent x.content (Group empty)
  content = subst (λ (c : NewContent). IsNewContent c (Group empty)) (sym is) (ap (map tree_link) none ∙ sym (entries-empty {X = Link} (slice_cmp nat_cmp)))

  own : AreOthers (others_of root_object) x.others
  own = subst (λ ms. AreOthers ms x.others) (sym no_others) others
