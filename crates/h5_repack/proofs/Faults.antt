-- A fault at one object, or of all objects together, is a fault of the tree.
use Rattle.std.proofs.Common.{◌≡◌, ℕ, ◌+◌, ◌<◌, ◌≤◌, inl, inr, List, [], ◌∷◌, sym, ap, ◌∙◌, subst, arith, length, Option, Some}
use Rattle.std.proofs.lemmas.Option.{same_Some}
use Rattle.std.specs.Prelude.{slice_get, is_some, IsSome}
use Rattle.std.specs.List.{AllZip}
use Rattle.std.specs.FinMap.{get}
use Rattle.std.specs.Option.{option_flatten}
use Rattle.h5_model.specs.Format.Limits.{most_bytes}
use Rattle.h5_model.specs.Format.PlainLength.{plain_length}
use Rattle.h5_model.specs.Tree.Objects.{Tree, Object}
use Rattle.h5_repack.specs.Image.Written.{counts_of, end_from, image_end, object_length}
use Rattle.h5_repack.specs.Objects.Objects.{stored_in}
use Rattle.h5_repack.proofs.ImageLaws.ImageLength.{image_length}
use Rattle.h5_repack.proofs.ImageLaws.Places.{end_rises}
use Rattle.h5_repack.specs.Objects.Order.{AreMet}
use Rattle.h5_repack.specs.declared.objects.object.NewObject.{NewObject}
use Rattle.h5_laws.proofs.Lists.{In}
use Rattle.h5_repack.specs.declared.size.Size.{Size}
use Rattle.h5_repack.specs.declared.write.WriteFault.{WriteFault}
use Rattle.h5_repack.specs.declared.write.WriteFault.TheVariants.{TooLong, TooDeep, NoMemory}
use Rattle.h5_repack.specs.Layout.{AreUnmeasured, IsSlotSize, IsUnplaced, StoredObject, stored_length}
use Rattle.h5_repack.specs.Image.Plain.{IsLowContent}
use Rattle.h5_repack.specs.Written.{IsTreeToWrite, IsUnwritten}
use Rattle.h5_repack.proofs.Orders.{end_is, found_back, in_order, in_pairs, is_order, listed, numbers, object, pairs, stored_listed, there_is}
use Rattle.h5_model.specs.declared.k_values.KValues.{KValues}
use Rattle.h5_model.specs.Format.Plain.{plain_superblock_length}

-- an object is no longer than all of them
member_within : (k : KValues) (counts : ℕ → ℕ) (at : ℕ) (es : List (ℕ × Object)) (n : ℕ) (o : Object) → In (n, o) es
    → object_length k (counts n) o ≤ end_from k counts at es
member_within k counts at [] n o there = absurd there
member_within k counts at (e ∷ es) n o (inl is) =
    let own : object_length k (counts e.0) e.1 ≡ object_length k (counts n) o
    = ap (λ (x : ℕ × Object). object_length k (counts x.0) x.1) is in
    omega (arith, own, end_rises k counts (at + object_length k (counts e.0) e.1) es)
member_within k counts at (e ∷ es) n o (inr there) = member_within k counts (at + object_length k (counts e.0) e.1) es n o there

module _ (k : KValues) (objects : List (Option NewObject)) (tree : Tree) (held : IsTreeToWrite objects tree) (order : List ℕ) (met : AreMet tree order) where
  abbrev counts : ℕ → ℕ
  counts = counts_of (stored_in objects)

  whole_length : image_end k counts (pairs objects tree held order met) ≡ plain_length k counts tree
  whole_length = image_length k counts tree (pairs objects tree held order met) (is_order objects tree held order met)

  object_long : (n : ℕ) (o : Object) → slice_get (listed objects tree held) n ≡ Some (Some o) → most_bytes < object_length k (counts n) o
      → most_bytes < plain_length k counts tree
  object_long n o is long =
      let found : get tree n ≡ Some o = numbers objects tree held n ∙ ap option_flatten is in
      let some : IsSome (get tree n) = ap is_some found in
      let own : object objects tree held n ≡ o = same_Some (object objects tree held n) o (ap option_flatten (sym (there_is objects tree held n some) ∙ is)) in
      let there : In (n, o) (pairs objects tree held order met)
      = subst (λ (x : Object). In (n, x) (pairs objects tree held order met)) own (in_pairs (object objects tree held) order n (in_order objects tree held order met n some)) in
      omega (arith, member_within k counts (plain_superblock_length k) (pairs objects tree held order met) n o there, long, whole_length)

  stored_long : (n : ℕ) (w : StoredObject) → slice_get (stored_listed objects tree held) n ≡ Some (Some w) → most_bytes < stored_length k w
      → most_bytes < plain_length k counts tree
  stored_long n w is long =
      let back = found_back objects tree held n w is in
      object_long n w.object back.0 (subst (λ (chunks : List (List ℕ)). most_bytes < object_length k (length chunks) w.object) (sym back.1) long)

  pub unwritten_measured : (fault : WriteFault) → AreUnmeasured k (stored_listed objects tree held) fault → IsUnwritten k (stored_in objects) tree fault
  unwritten_measured TooLong un = stored_long un.0 un.1 un.2 un.3
  unwritten_measured TooDeep un =
      let back = found_back objects tree held un.0 un.1 un.2 in (
        un.0,
        (un.1).object,
        numbers objects tree held un.0 ∙ ap option_flatten back.0,
        λ low. un.3 (subst (λ (chunks : List (List ℕ)). IsLowContent k (length chunks) ((un.1).object).content) back.1 low),
      )
  unwritten_measured NoMemory un = tt

  pub unwritten_placed : (sizes : List Size) → AllZip (IsSlotSize k) (stored_listed objects tree held) sizes → (fault : WriteFault) → IsUnplaced k sizes order fault
      → IsUnwritten k (stored_in objects) tree fault
  unwritten_placed sizes sized TooLong un = omega (arith, un, end_is objects tree held order met k sizes sized, whole_length)
  unwritten_placed sizes sized TooDeep un = absurd un
  unwritten_placed sizes sized NoMemory un = tt
