-- Each object of a tree stands in the plain image where the table says.
use Rattle.std.proofs.Common.{◌≡◌, ℕ, ◌+◌, ◌≤◌, List, [], ◌∷◌, ◌++◌, length, length-append, append_assoc, refl, sym, ap, ap₂, ◌∙◌, arith, inl, inr, Some}
use Rattle.std.specs.FinMap.{get}
use Rattle.std.specs.List.{flat_map}
use Rattle.h5_bytes.specs.Bytes.{part}
use Rattle.h5_model.specs.Format.Limits.{most_bytes}
use Rattle.h5_model.specs.Format.Superblock.{chunk_k_of, k_values}
use Rattle.h5_model.specs.Tree.Objects.{Tree, Object, Content, Group, Array}
use Rattle.h5_model.proofs.PlainMessages.{part-between}
use Rattle.h5_laws.proofs.Lists.{In}
use Rattle.h5_group.specs.Writing.Laws.{LinksRead, LinksLength, GroupLength}
use Rattle.h5_repack.specs.Bodies.Laws.{ArrayReads, ArrayLength}
use Rattle.h5_repack.specs.Image.Plain.{IsPlainTree}
use Rattle.h5_repack.specs.Image.Written.{IsOrder, StoredIn, counts_of, object_length, object_bytes, table_of, image_end, end_from}
use Rattle.h5_repack.proofs.ImageLaws.Arrays.{length-array, array_stands}
use Rattle.h5_repack.proofs.ImageLaws.GroupLinks.{ArePlaced}
use Rattle.h5_repack.proofs.ImageLaws.Objects.{Stands, length-group, group_stands}
use Rattle.h5_repack.proofs.ImageLaws.Orders.{order_apart, got_in_order, in_order_got}
use Rattle.h5_repack.proofs.ImageLaws.Places.{Objects, Along, IsBelow, IsFound, along_in, along_both, along_below, along_found, table_find}
use Rattle.h5_model.specs.declared.k_values.KValues.{KValues}
use Rattle.h5_model.specs.Format.Plain.{plain_superblock_length}

-- ---- bytes one behind the other

module _ (k : KValues) (counts : ℕ → ℕ) (bytes : ℕ × Object → List ℕ) where
  abbrev AreLong : Objects → Type 0
  AreLong es = (e : ℕ × Object) → In e es → length (bytes e) ≡ object_length k (counts e.0) e.1

  -- they end where the places do
  pub length-objects : (at : ℕ) (es : Objects) → AreLong es → at + length (flat_map bytes es) ≡ end_from k counts at es
  length-objects at [] long = omega arith
  length-objects at (e ∷ es) long =
      let own = long e (inl refl) in
      let both = length-append (bytes e) (flat_map bytes es) in
      let moved : at + length (bytes e ++ flat_map bytes es) ≡ at + object_length k (counts e.0) e.1 + length (flat_map bytes es) = omega (arith, own, both) in
      moved ∙ length-objects (at + object_length k (counts e.0) e.1) es (λ x there. long x (inr there))

  abbrev pub IsThere : List ℕ → ℕ → ℕ × Object → Type 0
  IsThere image place e = part place (length (bytes e)) image ≡ bytes e

  -- and each stands at its place
  pub along_there : (image front : List ℕ) (at : ℕ) (es : Objects) → AreLong es → length front ≡ at → image ≡ front ++ flat_map bytes es
      → Along k counts (IsThere image) at es
  along_there image front at [] long behind laid = tt
  along_there image front at (e ∷ es) long behind laid = (
    (λ i. part (sym behind i) (length (bytes e)) (laid i)) ∙ part-between front (bytes e) (flat_map bytes es),
    along_there image (front ++ bytes e) (at + object_length k (counts e.0) e.1) es (λ x there. long x (inr there))
        (length-append front (bytes e) ∙ ap₂ (λ (a b : ℕ). a + b) behind (long e (inl refl)))
        (laid ∙ sym (append_assoc front (bytes e) (flat_map bytes es))),
  )

-- ---- the objects of a tree

-- where an object stands
pub record Located (image : List ℕ) (k : KValues) (counts : ℕ → ℕ) (tree : Tree) (order : Objects) (e : ℕ × Object) : Type 0 where
  pub place : ℕ
  pub found : get (table_of k counts order) e.0 ≡ Some place
  pub low : place + object_length k (counts e.0) e.1 ≤ image_end k counts order
  pub stands : Stands image k counts tree (table_of k counts order) place e

module _ (links_length_is : LinksLength) (group_length : GroupLength) (array_length : ArrayLength)
    (k : KValues) (stored : StoredIn) (tree : Tree) (order : Objects) (plain : IsPlainTree k stored tree) (is : IsOrder tree order) where
  abbrev counts : ℕ → ℕ
  counts = counts_of stored

  abbrev end : ℕ
  end = image_end k counts order

  abbrev bytes : ℕ × Object → List ℕ
  bytes e = object_bytes k stored tree (table_of k counts order) e

  length-each : (e : ℕ × Object) → In e order → length (bytes e) ≡ object_length k (counts e.0) e.1
  length-each (n, o) there = by_content o.content refl where
    by_content : (c : Content) → o.content ≡ c → length (bytes (n, o)) ≡ object_length k (counts n) o
    by_content (Group links) e = length-group links_length_is group_length k stored tree (table_of k counts order) plain n o links (got_in_order tree order is n o there) e
    by_content (Array d) e = length-array array_length k stored tree (table_of k counts order) plain n o d (got_in_order tree order is n o there) e

  -- behind a superblock of that length
  module _ (image front : List ℕ) (long : length front ≡ (plain_superblock_length k)) (laid : image ≡ front ++ flat_map bytes order) where
    pub length-image : length image ≡ end
    length-image = ap length laid ∙ length-append front (flat_map bytes order) ∙ ap (λ n. n + length (flat_map bytes order)) long ∙ length-objects k counts bytes (plain_superblock_length k) order length-each

    abbrev IsPlace : ℕ → ℕ × Object → Type 0
    IsPlace place e = IsFound k counts (λ n. get (table_of k counts order) n) place e × IsBelow k counts end place e

    along_found_here : Along k counts (IsFound k counts (λ n. get (table_of k counts order) n)) (plain_superblock_length k) order
    along_found_here = along_found k counts (λ n. get (table_of k counts order) n) (plain_superblock_length k) order (order_apart tree order is) (λ n there. table_find k counts order n)

    along_places : Along k counts IsPlace (plain_superblock_length k) order
    along_places = along_both k counts (IsFound k counts (λ n. get (table_of k counts order) n)) (IsBelow k counts end) (plain_superblock_length k) order along_found_here
        (along_below k counts (plain_superblock_length k) order (omega arith))

    are_placed : ArePlaced k counts tree (table_of k counts order) end
    are_placed n o got =
        let at = along_in k counts IsPlace (plain_superblock_length k) order (n, o) along_places (in_order_got tree order is n o got) in
        (at.0, at.1.0, at.1.1.1)

    along_all : Along k counts (λ place e. IsPlace place e × IsThere k counts bytes image place e) (plain_superblock_length k) order
    along_all = along_both k counts IsPlace (IsThere k counts bytes image) (plain_superblock_length k) order along_places (along_there k counts bytes image front (plain_superblock_length k) order length-each long laid)

    pub located : LinksRead → ArrayReads → end ≤ most_bytes → k_values image ≡ k → (e : ℕ × Object) → In e order → Located image k counts tree order e
    located links_read array_reads fits_in k_is (n, o) there =
        let at = along_in k counts (λ place e. IsPlace place e × IsThere k counts bytes image place e) (plain_superblock_length k) order (n, o) along_all there in
        record {
          place = at.0;
          found = at.1.0.0;
          low = at.1.0.1.1;
          stands = by_content at.0 at.1.0.0 at.1.0.1.0 at.1.0.1.1 at.1.1 o.content refl;
        } where
          by_content : (place : ℕ) → get (table_of k counts order) n ≡ Some place → plain_superblock_length k ≤ place → place + object_length k (counts n) o ≤ end
              → IsThere k counts bytes image place (n, o) → (c : Content) → o.content ≡ c → Stands image k counts tree (table_of k counts order) place (n, o)
          by_content place found high low here (Group links) e = group_stands links_length_is group_length k stored tree (table_of k counts order) plain
              n o links (got_in_order tree order is n o there) e links_read end are_placed fits_in image place found low k_is here
          by_content place found high low here (Array d) e = array_stands array_length k stored tree (table_of k counts order) plain n o d
              (got_in_order tree order is n o there) e array_reads end fits_in image (ap chunk_k_of k_is) place found (omega (arith, high)) low here
