-- What stands at a place of a list, and the numbers of headers that stand once.
use Rattle.std.proofs.Common.{◌≡◌, ℕ, zero, suc, List, [], ◌∷◌, ◌++◌, length, refl, sym, ap, ◌∙◌, Some}
use Rattle.std.specs.Prelude.{slice_get}
use Rattle.std.specs.List.{IsDistinct, Contains}
use Rattle.std.specs.Ordering.{nat_cmp, eq_by_cmp}
use Rattle.std.specs.FinMap.{get}
use Rattle.std.proofs.lemmas.Option.{slice_get_read}
use Rattle.h5_laws.proofs.Lists.{In, stands_at}
use Rattle.h5_laws.proofs.Pigeonhole.{apart_of_distinct, one_place}
use Rattle.h5_open.specs.declared.opened.object.OpenedObject.{OpenedObject}
use Rattle.h5_open.specs.Opened.Objects.{headers, number_in, table_of, slots_of}
use Rattle.h5_open.proofs.OpenedLaws.Entries.{get_table_dense, header_at_dense}
use Rattle.h5_open.proofs.OpenedLaws.HeaderNumbers.{number_is}

-- ---- places

pub place_before : {X : Type 0} (xs ys : List X) (k : ℕ) (x : X) → slice_get xs k ≡ Some x → slice_get (xs ++ ys) k ≡ Some x
place_before [] ys k x h = absurd (cc)
place_before (y ∷ xs) ys zero x h = h
place_before (y ∷ xs) ys (suc k) x h = place_before xs ys k x h

pub place_next : {X : Type 0} (xs : List X) (y : X) (ys : List X) → slice_get (xs ++ y ∷ ys) (length xs) ≡ Some y
place_next [] y ys = refl
place_next (x ∷ xs) y ys = place_next xs y ys

pub place_of : {X : Type 0} (xs : List X) (x : X) (c : Contains xs x) → slice_get xs c.0 ≡ Some x
place_of xs x (k, low, is) = slice_get_read xs (length xs) k x refl low (sym is)

-- ---- numbers

module _ (objects : List OpenedObject) (distinct : IsDistinct (eq_by_cmp nat_cmp) (headers objects)) where
  pub own_header : (a b header : ℕ) → get (table_of (slots_of objects)) a ≡ Some header → get (table_of (slots_of objects)) b ≡ Some header → a ≡ b
  own_header a b header p q =
      one_place (headers objects) (apart_of_distinct (headers objects) distinct) a b header (sym (get_table_dense objects a) ∙ p) (sym (get_table_dense objects b) ∙ q)

  -- the number of an object's header is where the object stands
  pub number_at_place : (k : ℕ) (o : OpenedObject) → slice_get objects k ≡ Some o → number_in (table_of (slots_of objects)) o.messages.header ≡ k
  number_at_place k o at = number_is (table_of (slots_of objects)) own_header k o.messages.header (get_table_dense objects k ∙ header_at_dense objects k o at)

  -- and what stands there is the object
  pub at_number : (o : OpenedObject) → In o objects → slice_get objects (number_in (table_of (slots_of objects)) o.messages.header) ≡ Some o
  at_number o there =
      let k = stands_at o objects there in
      ap (slice_get objects) (number_at_place k.0 o k.1) ∙ k.1
