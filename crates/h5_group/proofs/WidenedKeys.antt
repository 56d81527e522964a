-- The keys around a child to which the way to a name goes, where the first key of its node falls to the empty name and the last one rises to
-- the name, if these do not let it in: then the name lies between them.
use Rattle.std.proofs.Common.{◌≡◌, ◌⊎◌, inl, inr, ℕ, suc, ◌+◌, Bool, true, false, List, [], ◌∷◌, ◌++◌, length, take, drop, get_or, refl, sym, ap, ◌∙◌, subst, arith, Ordering, Less, Equal, Greater}
use Rattle.std.specs.Prelude.{IsTrue, if◌then◌else◌}
use Rattle.std.specs.Ordering.{nat_cmp, is_lt, is_le, ordering_reverse}
use Rattle.std.specs.Cmp.Lexicographic.{slice_cmp, nat_list_cmp_total}
use Rattle.h5_model.specs.Format.Links.{Before, NotAfter, IsBetween}
use Rattle.h5_model.specs.Format.Rows.{Node}
use Rattle.h5_model.specs.Tree.Paths.{is_name}
use Rattle.h5_model.proofs.TextOrder.{not_after_itself, before_le}
use Rattle.h5_laws.specs.NameLadders.{key_text, name_sides}
use Rattle.h5_laws.proofs.NameLadders.{name_order}
use Rattle.h5_laws.proofs.KeyInstances.{none_before}
use Rattle.h5_btree.specs.Descent.{IsChildFor}
use Rattle.h5_btree.specs.Widened.{widened_node}
use Rattle.h5_btree.proofs.KeyedEases.{GivesWay}
use Rattle.h5_btree.proofs.EndKeys.{end_keys, first_gives, first_off, first_place, high_kept, high_key, high_stands, last_gives, last_on, last_place, low_kept, low_key, low_stands}
use Rattle.h5_btree.proofs.KeyedEnds.{ends_give}
use Rattle.h5_btree.proofs.NameFound.{name_behind}
use Rattle.h5_group.proofs.EntryOrder.{above_empty}

-- ---- the order of names

not_before : (a b : List ℕ) → is_lt (slice_cmp nat_cmp a b) ≡ false → NotAfter b a
not_before a b off = by_order (slice_cmp nat_cmp b a) refl where
  by_order : (r : Ordering) → slice_cmp nat_cmp b a ≡ r → NotAfter b a
  by_order Less is = ap is_le is
  by_order Equal is = ap is_le is
  by_order Greater is =
      let less : is_lt (slice_cmp nat_cmp a b) ≡ true = ap is_lt (nat_list_cmp_total.antisymm a b ∙ ap ordering_reverse is) in
      let never : false ≡ true = sym off ∙ less in
      cc

-- ---- one node

module _ (segment name : List ℕ) (node : Node) (i : ℕ) (chosen : IsChildFor (name_behind segment name) node i) (long : length node.keys ≡ length node.children + 1)
    (low high : List ℕ) (empty : key_text segment low ≡ []) (own : key_text segment high ≡ name) (named : IsTrue (is_name name)) where
  abbrev behind : List ℕ → Bool
  behind = name_behind segment name

  abbrev first : Bool
  first = first_gives behind node i true low high

  abbrev last : Bool
  last = last_gives behind node i true low high

  abbrev kk : List ℕ
  kk = get_or node.keys i []

  abbrev jj : List ℕ
  jj = get_or node.keys (suc i) []

  abbrev pub low_now : List ℕ
  low_now = low_key (name_behind segment name) node i true low high

  abbrev pub high_now : List ℕ
  high_now = high_key (name_behind segment name) node i true low high

  -- the keys are these then
  pub keys_now : (widened_node (record { first = first; last = last }) low high node).keys ≡ take i node.keys ++ low_now ∷ high_now ∷ drop (suc (suc i)) node.keys
  keys_now = end_keys behind node i true low high chosen long

  pub gives_way : {B : Type 0} (items : B → List (List ℕ)) (Base : B → Type 0)
      → GivesWay (name_sides (key_text segment)) (name_order (key_text segment)) items Base node.keys node.children i low_now high_now
  gives_way items Base =
      ends_give node.keys node.children i long chosen.child low high (name_sides (key_text segment)) (name_order (key_text segment)) items Base first last
      (λ is. (first_place behind node i true low high is, subst (λ (t : List ℕ). NotAfter t (key_text segment kk)) (sym empty) (none_before (key_text segment kk))))
      (λ is. (last_place behind node i true low high is, rises is))
    where
      rises : last ≡ true → NotAfter (key_text segment jj) (key_text segment high)
      rises is =
          subst (NotAfter (key_text segment jj)) (sym own) (before_le (key_text segment jj) name (last_on behind node i true low high is))

  -- and the name lies between those around the child
  right : Before (key_text segment low_now) name
  right = by_test first refl where
    by_test : (b : Bool) → first ≡ b → Before (key_text segment (if b then low else kk)) name
    by_test true is = subst (λ (t : List ℕ). Before t name) (sym empty) (above_empty name named)
    by_test false is = low_kept behind node i true low high chosen long refl is

  left : NotAfter name (key_text segment high_now)
  left = by_test last refl where
    by_test : (b : Bool) → last ≡ b → NotAfter name (key_text segment (if b then high else jj))
    by_test true is = subst (NotAfter name) (sym own) (not_after_itself name)
    by_test false is = not_before (key_text segment jj) name (high_kept behind node i true low high chosen long is)

  pub between_now : (new : Node) → new.keys ≡ take i node.keys ++ low_now ∷ high_now ∷ drop (suc (suc i)) node.keys → IsBetween segment new i name
  between_now new is =
      let same : i + 1 ≡ suc i = omega arith in
      let next : get_or new.keys (i + 1) [] ≡ high_now
      = ap (λ (n : ℕ). get_or new.keys n []) same ∙ high_stands behind node i true low high chosen long new is in (
        subst (λ (k : List ℕ). Before (key_text segment k) name) (sym (low_stands behind node i true low high chosen long new is)) right,
        subst (λ (k : List ℕ). NotAfter name (key_text segment k)) (sym next) left,
      )

  -- an end key gives way only where it does not let the name in
  pub lets_now : ((low_now ≡ get_or node.keys i []) ⊎ ((i ≡ 0) × (low_now ≡ low) × (Before (key_text segment (get_or node.keys i [])) (key_text segment high) → ⊥)))
      × ((high_now ≡ get_or node.keys (suc i) []) ⊎ ((suc i ≡ length node.children) × (high_now ≡ high)))
      × Before (key_text segment low_now) (key_text segment high) × NotAfter (key_text segment high) (key_text segment high_now)
  lets_now = (
    at_first first refl,
    at_last last refl,
    subst (Before (key_text segment low_now)) (sym own) right,
    subst (λ (t : List ℕ). NotAfter t (key_text segment high_now)) (sym own) left,
  ) where
    at_first : (b : Bool) → first ≡ b
        → ((if b then low else kk) ≡ kk) ⊎ ((i ≡ 0) × ((if b then low else kk) ≡ low) × (Before (key_text segment kk) (key_text segment high) → ⊥))
    at_first true is = inr (
      first_place behind node i true low high is,
      refl,
      λ before. let on : behind kk ≡ true = subst (Before (key_text segment kk)) own before in let never : true ≡ false = sym on ∙ first_off behind node i true low high is in cc,
    )
    at_first false is = inl refl

    at_last : (b : Bool) → last ≡ b → ((if b then high else jj) ≡ jj) ⊎ ((suc i ≡ length node.children) × ((if b then high else jj) ≡ high))
    at_last true is = inr (last_place behind node i true low high is, refl)
    at_last false is = inl refl
