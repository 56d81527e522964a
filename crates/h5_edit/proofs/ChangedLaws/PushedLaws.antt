-- Messages that are appended one by one.
use Rattle.std.proofs.Common.{◌≡◌, ℕ, ◌+◌, ◌<◌, List, [], ◌∷◌, ◌++◌, length, drop, get_or, sym, ap, ◌∙◌, subst, append_assoc}
use Rattle.std.proofs.lemmas.List.{drop_more}
use Rattle.std.specs.List.{AllByRecursion}
use Rattle.h5_repack.specs.Blocks.Others.{OthersBytes}
use Rattle.h5_repack.specs.Blocks.Written.{AreOthers}
use Rattle.h5_edit.specs.Changed.Appended.{Appends, IsPushing}

-- ---- lists

-- what holds of each holds of the first, and of those behind it
pub all_more : {X : Type 0} (P : X → Type 0) (xs : List X) (i : ℕ) (d : X) → i < length xs → AllByRecursion P (drop i xs)
    → P (get_or xs i d) × AllByRecursion P (drop (i + 1) xs)
all_more P xs i d low all = subst (AllByRecursion P) (drop_more xs i d low) all

-- ---- what is appended

pub appends_both : (old now new : OthersBytes) (ms ns : List (ℕ × List ℕ)) → Appends old now ms → Appends now new ns → Appends old new (ms ++ ns)
appends_both old now new ms ns first second =
    λ before are. subst (λ all. AreOthers all new) (append_assoc before ms ns) (second (before ++ ms) (first before are))

-- one more, or none
pub pushing_step : (old now new : OthersBytes) (m : ℕ × List ℕ) (rest later all : List (ℕ × List ℕ)) → IsPushing old now rest all → rest ≡ m ∷ later
    → Appends now new (m ∷ []) → IsPushing old new later all
pushing_step old now new m rest later all so is one = record {
  pushed = so.pushed ++ m ∷ [];
  split = so.split ∙ ap (λ ms. so.pushed ++ ms) is ∙ sym (append_assoc so.pushed (m ∷ []) later);
  appended = appends_both old now new so.pushed (m ∷ []) so.appended one;
}

pub pushing_same : (old now : OthersBytes) (rest later all : List (ℕ × List ℕ)) → IsPushing old now rest all → rest ≡ later → IsPushing old now later all
pushing_same old now rest later all so is = subst (λ ms. IsPushing old now ms all) is so
