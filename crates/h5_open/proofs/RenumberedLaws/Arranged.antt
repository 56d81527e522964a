-- The objects of an opened image while they are put into the order of given headers.
use Rattle.std.proofs.Common.{◌≡◌, inl, inr, ℕ, ◌+◌, ◌<◌, ◌≤◌, List, length, refl, sym, ap, ◌∙◌, subst, arith, Option, Some, None}
use Rattle.std.proofs.lemmas.Bool.{cases_eq}
use Rattle.std.proofs.lemmas.Bool.Decides.{nat_tests}
use Rattle.std.proofs.lemmas.Option.{same_Some, slice_get_within}
use Rattle.std.specs.Prelude.{slice_get, option_map}
use Rattle.std.specs.Option.{option_flatten}
use Rattle.std.specs.List.{AllByRecursion}
use Rattle.std.specs.Cmp.{nat_cmp_total}
use Rattle.std.specs.BTreeMap.{BTreeMap}
use Rattle.std.specs.FinMap.{get, nat_cmp-IsAntisymmetric, same_map}
use Rattle.h5_bytes.specs.Blocks.{Separate}
use Rattle.h5_bytes.specs.declared.Block.{Block}
use Rattle.h5_model.specs.Format.Reads.{Reads}
use Rattle.h5_space.specs.Space.{Space}
use Rattle.h5_laws.proofs.Lists.{In, in_all, all_in, in_at, stands_at}
use Rattle.h5_open.specs.declared.opened.object.OpenedObject.{OpenedObject}
use Rattle.h5_open.specs.Opened.Kept.{IsOpened, IsObjectKept, IsIndex}
use Rattle.h5_open.specs.Opened.Objects.{header_of, objects_of, table_of, tree_of}
use Rattle.h5_open.specs.Opened.Sound.{IsHeaderIn}
use Rattle.h5_open.specs.Renumbered.Headers.{table_with, IsReadAt}
use Rattle.h5_open.specs.Renumbered.Exchanged.{IsExchanged, IsGivenNumber}
use Rattle.h5_open.proofs.OpenedLaws.Entries.{get_table, slot_of}
use Rattle.h5_open.proofs.OpenedLaws.Made.{get_standing}
use Rattle.h5_open.proofs.OpenedLaws.ReadBlocks.{opened_all}
use Rattle.h5_open.proofs.OpenedLaws.ReadHeaders.{header_shared}
use Rattle.h5_open.proofs.OpenedLaws.Sounds.{in_objects, from_objects}
use Rattle.h5_open.proofs.RenumberedLaws.Exchanges.{moved, still, was, own_exchanged, exchanged_headers}
use Rattle.h5_open.proofs.RenumberedLaws.SameBlocks.{still_apart}
use Rattle.h5_open.proofs.RenumberedLaws.SameHeaders.{Own, given_header, header_given}
use Rattle.h5_open.proofs.RenumberedLaws.SameTree.{same_tree}

-- the first objects in other slots, with their numbers: those at these headers, of which the first i have their slots
pub record IsArranged (hs : List (Option ℕ)) (first slots : List (Option OpenedObject)) (numbers : BTreeMap ℕ ℕ) (i : ℕ) : Type 0 where
  pub same : (o : OpenedObject) → In o (objects_of slots) → In o (objects_of first)
  pub own : (a b h : ℕ) → get (table_of slots) a ≡ Some h → get (table_of slots) b ≡ Some h → a ≡ b
  pub index : IsIndex (table_of slots) numbers
  pub many : length slots ≡ length first
  pub all : (h : ℕ) → In (Some h) hs → IsHeaderIn (table_of slots) h
  pub done : (k h : ℕ) → k < i → slice_get hs k ≡ Some (Some h) → get (table_of slots) k ≡ Some h

module _ (image : Space) (hs : List (Option ℕ)) (first : List (Option OpenedObject)) (numbers : BTreeMap ℕ ℕ) (opened : IsOpened image first numbers)
    (read : IsReadAt image.bytes hs) where
  -- none is put in order yet
  pub arranged_none : IsArranged hs first first numbers 0
  arranged_none = record {
    same = λ o there. there;
    own = (opened.reads.1).holds.own;
    index = opened.index;
    many = refl;
    all = λ h there.
        let k = stands_at (Some h) hs there in
        header_shared image.bytes (table_with hs) (table_of first) read.0 (tree_of image.bytes first) read.1 opened.reads k.0 h (header_given hs k.0 h k.1);
    done = λ k h low at. absurd (omega (arith, low));
  }

  -- all are
  module _ (slots : List (Option OpenedObject)) (numbers' : BTreeMap ℕ ℕ) (i : ℕ) (arranged : IsArranged hs first slots numbers' i) (last : length hs ≤ i) where
    -- an object's header is one of these
    listed : (n h : ℕ) → get (table_of slots) n ≡ Some h → (m : ℕ) × (slice_get hs m ≡ Some (Some h))
    listed n h at =
        let slot = slot_of slots n h at in
        let here = arranged.same slot.0 (in_objects slots slot.0 (in_at slots n (Some slot.0) slot.1)) in
        let k = stands_at (Some slot.0) first (from_objects first slot.0 here) in
        let there : get (table_of first) k.0 ≡ Some h =
        get_table first k.0 ∙ ap (λ (s : Option (Option OpenedObject)). option_map header_of (option_flatten s)) k.1 ∙ ap (λ (g : ℕ). Some g) slot.2 in
        let m = header_shared image.bytes (table_of first) (table_with hs) (tree_of image.bytes first) read.0 opened.reads read.1 k.0 h there in
        (m.0, given_header hs m.0 h m.1)

    stands : (n : ℕ) → get (table_of slots) n ≡ option_flatten (slice_get hs n)
    stands n = go (slice_get hs n) refl (get (table_of slots) n) refl where
      -- no object stands where there is no header: each stands where its own is
      none_stands : option_flatten (slice_get hs n) ≡ None → (found : Option ℕ) → get (table_of slots) n ≡ found → found ≡ None
      none_stands at None is = refl
      none_stands at (Some h) is =
          let m = listed n h is in
          let there = arranged.done m.0 h (omega (arith, last, slice_get_within hs m.0 (Some h) m.1)) m.1 in
          let same : n ≡ m.0 = arranged.own n m.0 h is there in
          absurd (let never : None ≡ Some h = sym at ∙ ap (λ (k : ℕ). option_flatten (slice_get hs k)) same ∙ ap option_flatten m.1 in cc)

      go : (want : Option (Option ℕ)) → slice_get hs n ≡ want → (found : Option ℕ) → get (table_of slots) n ≡ found → found ≡ option_flatten want
      go (Some (Some h)) at found is = sym is ∙ arranged.done n h (omega (arith, last, slice_get_within hs n (Some h) at)) at
      go (Some None) at found is = none_stands (ap option_flatten at) found is
      go None at found is = none_stands (ap option_flatten at) found is

    pub arranged_table : table_of slots ≡ table_with hs
    arranged_table = same_map nat_cmp_total nat_cmp-IsAntisymmetric (table_of slots) (table_with hs) (λ n. stands n ∙ sym (get_standing hs n))

    each : AllByRecursion (IsObjectKept image.bytes) (objects_of slots)
    each = all_in (IsObjectKept image.bytes) (objects_of slots) (λ o there. in_all (IsObjectKept image.bytes) o (objects_of first) opened.each (arranged.same o there))

    reads : Reads image.bytes (table_of slots) read.0
    reads = subst (λ table. Reads image.bytes table read.0) (sym arranged_table) read.1

    pub arranged_opened : IsOpened image slots numbers'
    arranged_opened = record {
      reads = subst (Reads image.bytes (table_of slots)) (sym (same_tree image.bytes slots read.0 each reads)) reads;
      each = each;
      index = arranged.index;
      low = omega (arith, arranged.many, opened.low);
      apart = still_apart image.bytes (objects_of first) (objects_of slots) image.free arranged.same
          (subst (λ (bs : List Block). Separate bs) (sym (opened_all image.bytes slots read.0 reads.0 each reads.1)) reads.1.holds.apart) opened.apart;
    }

not_last : (k i : ℕ) → k < i + 1 → (k ≡ i → ⊥) → k < i
not_last k i low other = let less : k ≡ i → ⊥ = other in grind (arith, nat_tests, low, less)

-- one more number has no header
pub arranged_empty : (hs : List (Option ℕ)) (first slots : List (Option OpenedObject)) (numbers : BTreeMap ℕ ℕ) (i : ℕ) → IsArranged hs first slots numbers i
    → slice_get hs i ≡ Some None → IsArranged hs first slots numbers (i + 1)
arranged_empty hs first slots numbers i arranged at = record {
  same = arranged.same;
  own = arranged.own;
  index = arranged.index;
  many = arranged.many;
  all = arranged.all;
  done = λ k h low here. elim (cases_eq k i) [
    | inl same ↦ absurd (let never : Some None ≡ Some (Some h) = sym at ∙ ap (slice_get hs) (sym same) ∙ here in cc)
    | inr other ↦ arranged.done k h (not_last k i low other) here
  ];
}

-- one more gets its number
module _ (hs : List (Option ℕ)) (first before after : List (Option OpenedObject)) (numbers numbers' : BTreeMap ℕ ℕ) (i header : ℕ) (arranged : IsArranged hs first before numbers i)
    (own : Own hs) (at : slice_get hs i ≡ Some (Some header)) (given : IsGivenNumber before after header i) (long : length after ≡ length before) (index : IsIndex (table_of after) numbers') where
  exchange : IsExchanged (get (table_of before)) (get (table_of after)) i given.0
  exchange = exchanged_headers before after i given.0 given.2

  -- an object's slot was another's, or its own
  same_objects : (o : OpenedObject) → In o (objects_of after) → In o (objects_of before)
  same_objects o there =
      let k = stands_at (Some o) after (from_objects after o there) in
      in_objects before o (in_at before (moved i given.0 k.0) (Some o) (sym (was (slice_get before) (slice_get after) i given.0 given.2 k.0) ∙ k.1))

  still_there : (h : ℕ) → IsHeaderIn (table_of before) h → IsHeaderIn (table_of after) h
  still_there h (n, there) = (moved i given.0 n, still (get (table_of before)) (get (table_of after)) i given.0 exchange n ∙ there)

  -- those that have their slots keep them
  not_given : (k h : ℕ) → k < i → slice_get hs k ≡ Some (Some h) → k ≡ given.0 → ⊥
  not_given k h low here same =
      let there : get (table_of before) given.0 ≡ Some h = ap (get (table_of before)) (sym same) ∙ arranged.done k h low here in
      let one : h ≡ header = same_Some h header (sym there ∙ given.1) in
      let place : k ≡ i = own k i header (here ∙ ap (λ (g : ℕ). Some (Some g)) one) at in
      omega (arith, low, place)

  done_now : (k h : ℕ) → k < i + 1 → slice_get hs k ≡ Some (Some h) → get (table_of after) k ≡ Some h
  done_now k h low here = elim (cases_eq k i) [
    | inl same ↦
        let own_header : Some header ≡ Some h = ap option_flatten (sym at ∙ ap (slice_get hs) (sym same) ∙ here) in
        ap (get (table_of after)) same ∙ exchange.first ∙ given.1 ∙ own_header
    | inr other ↦
        let less : k < i = not_last k i low other in
        exchange.others k other (not_given k h less here) ∙ arranged.done k h less here
  ]

  pub arranged_more : IsArranged hs first after numbers' (i + 1)
  arranged_more = record {
    same = λ o there. arranged.same o (same_objects o there);
    own = own_exchanged (get (table_of before)) (get (table_of after)) i given.0 exchange arranged.own;
    index = index;
    many = long ∙ arranged.many;
    all = λ h there. still_there h (arranged.all h there);
    done = done_now;
  }
