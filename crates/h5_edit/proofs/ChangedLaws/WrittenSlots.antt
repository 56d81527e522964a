-- The objects of a tree as they are handed to the writer, one by one in the slots of their numbers.
use Rattle.std.proofs.Common.{◌≡◌, ℕ, ◌+◌, ◌<◌, ◌≤◌, inl, inr, length-append, List, [], ◌∷◌, ◌++◌, length, Bool, true, false, cond, Option, Some, None, refl, sym, ap, ◌∙◌, subst, arith}
use Rattle.std.specs.Prelude.{◌==◌, IsSome, slice_get}
use Rattle.std.specs.Option.{option_flatten}
use Rattle.std.specs.List.{AllZip}
use Rattle.std.specs.FinMap.{get}
use Rattle.std.proofs.lemmas.Bool.{cases_lt}
use Rattle.std.proofs.lemmas.Bool.Decides.{nat_tests}
use Rattle.std.proofs.lemmas.Option.{slice_get_past}
use Rattle.std.proofs.lemmas.Slice.Zip.{AllZip-long}
use Rattle.h5_model.specs.Tree.Objects.{Tree, Object}
use Rattle.h5_repack.specs.Objects.Objects.{AreObjects, IsNewObject, SlotsHold}
use Rattle.h5_repack.specs.declared.objects.object.NewObject.{NewObject}
use Rattle.h5_edit.proofs.ChangedLaws.NumberedLaws.{found_one_more, zip_append}

-- the first so many slots of a tree were written
pub record AreWritten (tree : Tree) (written : List (Option NewObject)) (n : ℕ) : Type 0 where
  pub listed : List (Option Object)
  pub counted : length listed ≡ n
  pub numbered : (k : ℕ) → k < n → get tree k ≡ option_flatten (slice_get listed k)
  pub each : AllZip (SlotsHold IsNewObject) written listed

pub none_written : (tree : Tree) → AreWritten tree [] 0
none_written tree = record { listed = []; counted = refl; numbered = λ k low. absurd (omega (arith, low)); each = tt }

pub written_more : (tree : Tree) (written more : List (Option NewObject)) (n : ℕ) (slot : Option NewObject) → AreWritten tree written n
    → SlotsHold IsNewObject slot (get tree n) → more ≡ written ++ slot ∷ [] → AreWritten tree more (n + 1)
written_more tree written more n slot so here longer =
    let os : List (Option Object) = so.listed in
    let found : Option Object = get tree n in
    subst (λ list. AreWritten tree list (n + 1)) (sym longer) (record {
      listed = os ++ found ∷ [];
      counted = length-append os (found ∷ []) ∙ ap (λ m. m + 1) so.counted;
      numbered = one_more;
      each = zip_append (SlotsHold IsNewObject) written (slot ∷ []) os (found ∷ []) so.each (here, tt);
    }) where
      one_more : (k : ℕ) → k < n + 1 → get tree k ≡ option_flatten (slice_get (so.listed ++ get tree n ∷ []) k)
      one_more k low = by_test (k == length so.listed) refl ∙ sym (found_one_more so.listed (get tree n) k) where
        by_test : (b : Bool) → (k == length so.listed) ≡ b → get tree k ≡ cond b (get tree n) (option_flatten (slice_get so.listed k))
        by_test true last =
            let long = so.counted in
            let here : k ≡ n = grind (arith, nat_tests, last, long) in
            ap (get tree) here
        by_test false other = let long = so.counted in so.numbered k (grind (arith, nat_tests, other, low, long))

-- ---- all of them

module _ (tree : Tree) (next : ℕ) (written : List (Option NewObject)) (so : AreWritten tree written next) where
  -- they are so many
  pub opened_counted : length written ≡ next
  opened_counted =
      let first = AllZip-long (SlotsHold IsNewObject) written so.listed so.each in
      omega (arith, first, so.counted)

  -- they are those of the tree
  pub opened_written : ((k : ℕ) → IsSome (get tree k) → k < next) → AreObjects written tree
  opened_written given = record { listed = so.listed; numbered = numbered; each = so.each } where
    none_past : (k : ℕ) → next ≤ k → (found : Option Object) → get tree k ≡ found → found ≡ None
    none_past k past None is = refl
    none_past k past (Some o) is = absurd (omega (arith, past, given k (rw is refl)))

    numbered : (k : ℕ) → get tree k ≡ option_flatten (slice_get so.listed k)
    numbered k = elim (cases_lt k next) [
      | inl low ↦ so.numbered k low
      | inr past ↦ none_past k past (get tree k) refl ∙ sym (ap option_flatten (slice_get_past so.listed k (omega (arith, past, so.counted))))
    ]
