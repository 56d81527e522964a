-- A new group made in place, by the bytes that were written of it (File Format Specification 3.0, sections III.A.1, III.D and IV.A).
use Rattle.std.proofs.Common.{◌≡◌, inl, ℕ, ◌+◌, ◌-◌, ◌≤◌, List, [], ◌++◌, length, take, drop, refl, sym, ap, ◌∙◌, arith, subst}
use Rattle.std.proofs.Math.Seq.{take-length}
use Rattle.std.proofs.lemmas.List.{length-drop}
use Rattle.std.specs.FinMap.{empty}
use Rattle.std.specs.Prelude.{MatchResult, Result}
use Rattle.h5_btree.specs.declared.insertion.InsertFault.{InsertFault}
use Rattle.h5_laws.specs.Trees.Sound.{IsSoundTree}
use Rattle.h5_model.specs.Edits.Applied.{new_object}
use Rattle.h5_model.specs.Format.Addresses.{SymbolTable}
use Rattle.h5_model.specs.Format.Limits.{most_bytes}
use Rattle.h5_model.specs.Format.Sizes.{group_node}
use Rattle.h5_model.specs.Format.Superblock.{leaf_k, internal_k}
use Rattle.h5_model.specs.Tree.Objects.{Object, Group}
use Rattle.h5_model.specs.declared.edits.Edit.TheVariants.{CreateGroup}
use Rattle.h5_query.specs.ObjectAdded.{IsToBeMade, stored_content, content_of, object_bytes, place_in, tree_with}
use Rattle.h5_query.specs.ObjectBytesType.{ObjectBytes}
use Rattle.h5_query.specs.Opened.Sound.{IsSound}
use Rattle.h5_query.specs.Opened.State.{FileState}
use Rattle.h5_query.specs.OpenedContentType.TheVariants as content
use Rattle.h5_repack.specs.Bodies.Headers.{group_header}
use Rattle.h5_repack.specs.GroupLinks.{links_bytes}
use Rattle.h5_edit.specs.Answers.{added_answer}
use Rattle.h5_edit.specs.Carried.{IsRefused}
use Rattle.h5_edit.specs.Edited.{IsEdited}
use Rattle.h5_edit.specs.Refusals.Allowed.{IsPlaceAllowed}
use Rattle.h5_edit.specs.declared.rules.place.NewPlace.{NewPlace}
use Rattle.h5_edit.proofs.Answered.{k_there}
use Rattle.h5_edit.proofs.GroupToMake.{group_to_make}
use Rattle.h5_edit.proofs.LinkFacts.{group_edit}
use Rattle.h5_edit.proofs.NewObjects.{group_length}
use Rattle.h5_edit.proofs.ObjectsMade.{IsObjectAdded, object_asked, object_made}

-- its bytes were appended to an empty list, and cut behind the header
pub record IsGroupWritten (f : FileState) (b : ObjectBytes) (table : SymbolTable) (leaf internal at len : ℕ) (before out head rest : List ℕ) : Type 0 where
  pub leaf_is : leaf ≡ leaf_k f.image
  pub internal_is : internal ≡ internal_k f.image
  pub counted : len ≡ group_node internal + 160
  pub place : (at ≡ place_in f len) × (at + len ≤ most_bytes)
  pub none : before ≡ []
  pub bytes : out ≡ before ++ (group_header (at + 40) (at + 40 + group_node internal) [] ++ links_bytes leaf internal (at + 40) [])
  pub long : length out ≡ length before + (group_node internal + 160)
  pub table_is : table ≡ record { tree = at + 40; heap = at + 40 + group_node internal }
  pub head_is : head ≡ out
  pub rest_is : rest ≡ out
  pub header : b.header.now ≡ take 40 head
  pub content : content_of b.content ≡ content.Group table
  pub behind : stored_content b.content ≡ take (length rest - 40) (drop 40 rest)

module _ {f : FileState} (sound : IsSound f) {b : ObjectBytes} {table : SymbolTable} {leaf internal at len : ℕ} {before out head rest : List ℕ}
    (is : IsGroupWritten f b table leaf internal at len before out head rest) where
  header_is : b.header.now ≡ take 40 out
  header_is = is.header ∙ ap (take 40) is.head_is

  behind_is : stored_content b.content ≡ drop 40 out
  behind_is = is.behind ∙ ap (λ n. take n (drop 40 rest)) (sym (length-drop 40 rest)) ∙ take-length (drop 40 rest) ∙ ap (drop 40) is.rest_is

  group_counted : length (object_bytes b) ≡ group_node (internal_k f.image) + 160
  group_counted =
      let whole = group_length b out header_is behind_is in
      let long = is.long in
      omega (arith, whole, long, ap length is.none, ap group_node is.internal_is)

  group_written : IsToBeMade f b (new_object (Group empty))
  group_written =
      group_to_make f b table leaf internal at out (rw (is.leaf_is, is.internal_is) ((k_there sound).groups)) (sym is.leaf_is) (sym is.internal_is)
      (is.place.0 ∙ ap (place_in f) is.counted) (subst (λ n. at + n ≤ most_bytes) is.counted is.place.1)
      (is.bytes ∙ ap (λ (xs : List ℕ). xs ++ (group_header (at + 40) (at + 40 + group_node internal) [] ++ links_bytes leaf internal (at + 40) [])) is.none) is.table_is header_is is.content
      behind_is

  -- what the call that adds it asks for, and what it then makes
  module _ {path : List ℕ} {place : NewPlace} (placed : IsPlaceAllowed f.tree f.next path (CreateGroup path) place) where
    pub group_good : (o : Object) × IsToBeMade f b o × IsSoundTree (tree_with f.tree place.parent place.name.now f.next o)
    group_good = object_asked f sound placed (inl refl) (new_object (Group empty)) (group_node (internal_k f.image) + 160) refl (λ table bytes. group_edit f table bytes placed) b
        group_counted group_written

    pub group_added : (number : ℕ) → number ≡ f.next → (now : FileState) (r : Result (Unit {0}) InsertFault) → IsObjectAdded f place b now r
        → MatchResult (added_answer r number) (IsEdited f (CreateGroup path) now) (λ e. IsRefused f (CreateGroup path) e × (now ≡ f))
    group_added number next now r added = object_made f sound placed (inl refl) (new_object (Group empty)) (group_node (internal_k f.image) + 160) refl
        (λ table bytes. group_edit f table bytes placed) b group_counted group_written number next now r added
