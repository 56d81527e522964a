-- What edits do with the slots and the numbers: they stay, one comes behind them, or some are cleared.
use Rattle.std.proofs.Common.{◌≡◌, ◌⊎◌, inl, inr, ℕ, zero, suc, ◌<◌, ◌≤◌, Bool, true, false, cond, List, [], ◌∷◌, ◌++◌, length, refl, sym, ap, ◌∙◌, subst, arith, Option, Some, None, IsSome}
use Rattle.std.specs.Prelude.{MatchOption, option_map, slice_get, ◌==◌, ◌||◌}
use Rattle.std.specs.Option.{option_flatten}
use Rattle.std.specs.Ordering.{nat_cmp}
use Rattle.std.specs.BTreeMap.{BTreeMap, is_at, get as lookup}
use Rattle.std.specs.FinMap.{FinMap, get}
use Rattle.std.proofs.lemmas.Bool.Decides.{nat_tests}
use Rattle.std.proofs.lemmas.List.{length-append}
use Rattle.std.proofs.lemmas.Option.{same_Some}
use Rattle.h5_bytes.specs.Bytes.{byte_at}
use Rattle.h5_bytes.specs.Blocks.{cover}
use Rattle.h5_bytes.specs.declared.Block.{Block}
use Rattle.h5_model.specs.Format.Limits.{most_numbers}
use Rattle.h5_model.specs.Format.Reads.{Placed, ReadsAs, all_blocks}
use Rattle.h5_model.specs.Format.Superblock.{end_field}
use Rattle.h5_model.specs.Tree.Objects.{Tree, Object}
use Rattle.h5_laws.proofs.Lists.{In}
use Rattle.h5_laws.proofs.Objects.{in_tree}
use Rattle.h5_open.specs.declared.opened.object.OpenedObject.{OpenedObject}
use Rattle.h5_open.specs.ChangedInPlace.{AreSlotsMoved, IsChangedInPlace, is_among}
use Rattle.h5_open.specs.InPlace.{touched_blocks}
use Rattle.h5_open.specs.Opened.Kept.{IsIndex}
use Rattle.h5_open.specs.Opened.Objects.{header_of, table_of}
use Rattle.h5_open.proofs.OpenedLaws.Entries.{get_table}
use Rattle.h5_open.specs.Opened.Sound.{IsSound}
use Rattle.h5_open.specs.Opened.State.{FileState}
use Rattle.h5_open.proofs.RenumberedLaws.ExchangedIndex.{other_of, same_of}

-- ---- slots

-- a slot that stays has its header where it was
pub table_same : (slots slots' : List (Option OpenedObject)) (n : ℕ) → option_flatten (slice_get slots' n) ≡ option_flatten (slice_get slots n)
    → get (table_of slots') n ≡ get (table_of slots) n
table_same slots slots' n same = get_table slots' n ∙ ap (option_map header_of) same ∙ sym (get_table slots n)

-- a link that is put or taken
pub slots_stay : (slots : List (Option OpenedObject)) (touched : ℕ → Bool) → length slots ≤ most_numbers → AreSlotsMoved slots slots touched
slots_stay slots touched few = record {
  same = λ n out. refl;
  remains = λ n o mine low at. (o, at, refl);
  more = omega arith;
  few = few;
}

pushed_before : (slots : List (Option OpenedObject)) (s : Option OpenedObject) (n : ℕ) → n < length slots → slice_get (slots ++ s ∷ []) n ≡ slice_get slots n
pushed_before [] s n low = absurd (omega (arith, low))
pushed_before (x ∷ slots) s zero low = refl
pushed_before (x ∷ slots) s (suc n) low = pushed_before slots s n (omega (arith, low))

-- where one comes behind, each other is as it was
pub pushed_past : (slots : List (Option OpenedObject)) (s : Option OpenedObject) (n : ℕ) → (n ≡ length slots → ⊥) → slice_get (slots ++ s ∷ []) n ≡ slice_get slots n
pushed_past [] s zero other = absurd (other refl)
pushed_past [] s (suc n) other = refl
pushed_past (x ∷ slots) s zero other = refl
pushed_past (x ∷ slots) s (suc n) other = pushed_past slots s n (λ e. other (ap suc e))

-- an object that is made has the next number
pub slots_pushed : (slots : List (Option OpenedObject)) (o : OpenedObject) (touched : ℕ → Bool) → touched (length slots) ≡ true → length slots < most_numbers
    → AreSlotsMoved slots (slots ++ Some o ∷ []) touched
slots_pushed slots o touched mine few = record {
  same = λ n out. ap option_flatten (pushed_past slots (Some o) n (λ e. let never : false ≡ true = sym out ∙ ap touched e ∙ mine in cc));
  remains = λ n o' is low at. (o', sym (pushed_before slots (Some o) n low) ∙ at, refl);
  more = omega (arith, length-append slots (Some o ∷ []));
  few = omega (arith, length-append slots (Some o ∷ []), few);
}

-- objects that are no more have their slots cleared
pub slots_cleared : (slots slots' : List (Option OpenedObject)) (touched : ℕ → Bool) → length slots' ≡ length slots → length slots ≤ most_numbers
    → ((n : ℕ) → (slice_get slots' n ≡ slice_get slots n) ⊎ ((touched n ≡ true) × (slice_get slots' n ≡ Some None))) → AreSlotsMoved slots slots' touched
slots_cleared slots slots' touched long few each = record {
  same = λ n out. elim (each n) [
    | inl same ↦ ap option_flatten same
    | inr gone ↦ absurd (let never : false ≡ true = sym out ∙ gone.0 in cc)
  ];
  remains = λ n o mine low at. elim (each n) [
    | inl same ↦ (o, sym same ∙ at, refl)
    | inr gone ↦ absurd (let never : None ≡ Some o = same_Some None (Some o) (sym gone.1 ∙ at) in cc)
  ];
  more = omega (arith, long);
  few = omega (arith, long, few);
}

-- ---- numbers

-- the number of an object that is no more is taken out
module _ (table table' : FinMap nat_cmp ℕ) (numbers numbers' : BTreeMap ℕ ℕ) (number header : ℕ) (own : (a b h : ℕ) → get table a ≡ Some h → get table b ≡ Some h → a ≡ b)
    (at : get table number ≡ Some header) (gone : get table' number ≡ None) (others : (n : ℕ) → (number ≡ n → ⊥) → get table' n ≡ get table n)
    (updates : (q : ℕ) → lookup nat_cmp numbers' q ≡ cond (is_at (nat_cmp header) q) None (lookup nat_cmp numbers q)) (index : IsIndex table numbers) where
  not_it : (n h : ℕ) → get table' n ≡ Some h → number ≡ n → ⊥
  not_it n h there e = let never : None ≡ Some h = sym gone ∙ ap (get table') e ∙ there in cc

  abbrev IsAt : ℕ → Option ℕ → Type 0
  IsAt q found = MatchOption found ((n : ℕ) → get table' n ≡ Some q → ⊥) (λ n. get table' n ≡ Some q)

  at_other : (q : ℕ) → (header ≡ q → ⊥) → (found : Option ℕ) → MatchOption found ((n : ℕ) → get table n ≡ Some q → ⊥) (λ n. get table n ≡ Some q) → IsAt q found
  at_other q other None none = λ n there. none n (sym (others n (not_it n q there)) ∙ there)
  at_other q other (Some k) is = others k (λ e. other (same_Some header q (sym at ∙ ap (get table) e ∙ is))) ∙ is

  each : (q : ℕ) (b : Bool) → is_at (nat_cmp header) q ≡ b → IsAt q (cond b None (lookup nat_cmp numbers q))
  each q true same = λ n there.
      let was = sym (others n (not_it n q there)) ∙ there in
      not_it n q there (own number n q (at ∙ ap (λ (h : ℕ). Some h) (same_of header q same)) was)
  each q false differs = at_other q (other_of header q differs) (lookup nat_cmp numbers q) (index q)

  pub index_cleared : IsIndex table' numbers'
  index_cleared q = subst (IsAt q) (sym (updates q)) (each q (is_at (nat_cmp header) q) refl)

  -- so the next one can be
  pub own_cleared : (a b h : ℕ) → get table' a ≡ Some h → get table' b ≡ Some h → a ≡ b
  own_cleared a b h here there = own a b h (sym (others a (not_it a h here)) ∙ here) (sym (others b (not_it b h there)) ∙ there)

-- ---- a number that was not given out is that of no object

module _ (a b : ℕ → Bool) where
  blocks_agree : (placed : List Placed) → ((x : Placed) → In x placed → a x.number ≡ b x.number) → touched_blocks a placed ≡ touched_blocks b placed
  blocks_agree [] agree = refl
  blocks_agree (x ∷ placed) agree = go (b x.number) refl (blocks_agree placed (λ y at. agree y (inr at))) where
    go : (c : Bool) → b x.number ≡ c → touched_blocks a placed ≡ touched_blocks b placed → touched_blocks a (x ∷ placed) ≡ touched_blocks b (x ∷ placed)
    go true is more = let mine : a x.number ≡ true = agree x (inl refl) ∙ is in rw (is, mine) (ap (λ (bs : List Block). x.blocks ++ bs) more)
    go false is more = let mine : a x.number ≡ false = agree x (inl refl) ∙ is in rw (is, mine) more

-- so a number that is new need not be among those whose bytes may have changed
pub local_given : (f g : FileState) (t : Tree) (n m : ℕ) (touched : List ℕ) (k : ℕ) → IsSound f → f.next ≤ m → IsChangedInPlace f g t n (m ∷ touched) k
    → (placed : List Placed) → ReadsAs f.image f.table f.tree placed → (p : ℕ) → p < length f.image → cover p (end_field f.image ∷ touched_blocks (is_among touched) placed) ≡ 0
    → 1 ≤ cover p (all_blocks f.image placed) → byte_at g.image p ≡ byte_at f.image p
local_given f g t n m touched k sound new is placed reads p low untouched used =
    let same : touched_blocks (is_among (m ∷ touched)) placed ≡ touched_blocks (is_among touched) placed
    = blocks_agree (is_among (m ∷ touched)) (is_among touched) placed (λ x at.
    let there = in_tree f.image f.table f.tree placed reads.holds x at in
    let given = sound.numbers.given x.number (subst (λ (o : Option Object). IsSome o) (sym there) refl) in
    let other : (m == x.number) ≡ false = grind (arith, nat_tests, given, new) in
    ap (λ (b : Bool). b || is_among touched x.number) other) in
    is.local placed reads p low (ap (λ (bs : List Block). cover p (end_field f.image ∷ bs)) same ∙ untouched) used
