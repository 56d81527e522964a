-- Lists of links and of entries with one more, or with one less, and what holds of them still.
use Rattle.std.proofs.Common.{◌≡◌, ℕ, zero, suc, ◌==◌, Bool, true, false, List, [], ◌∷◌, ◌++◌, map, take, inl, inr, refl, ap, if◌then◌else◌}
use Rattle.std.proofs.lemmas.List.{map-append}
use Rattle.std.specs.List.{AllByRecursion, flat_map, list_any}
use Rattle.h5_bytes.specs.Texts.{text_at}
use Rattle.h5_bytes.proofs.BlockLaws.{all_append, all_left, all_right, all_so}
use Rattle.h5_model.specs.Format.Links.{Ascend, Before, IsBetween, IsOrdered, Symbols, symbol_nodes_below}
use Rattle.h5_model.specs.Format.Rows.{Node, Reading, only}
use Rattle.h5_model.specs.Format.Symbols.{Entry, Target, link_of}
use Rattle.h5_model.proofs.RowLaws.{at_listed}
use Rattle.h5_laws.proofs.Ascending.{before_trans}
use Rattle.h5_laws.proofs.Lists.{In}
use Rattle.h5_btree.proofs.KeyedNames.{AreAscending, ascending_taken}
use Rattle.h5_btree.proofs.KeyedKeys.{all_mapped, all_unmapped}

-- ---- one more in a list, and one less

-- what is in the first of a list is in the list
pub in_take : {X : Type 0} (x : X) (xs : List X) (n : ℕ) → In x (take n xs) → In x xs
in_take x [] zero at = at
in_take x [] (suc n) at = at
in_take x (y ∷ ys) zero at = absurd at
in_take x (y ∷ ys) (suc n) (inl is) = inl is
in_take x (y ∷ ys) (suc n) (inr at) = inr (in_take x ys n at)

pub all_put : {X : Type 0} (P : X → Type 0) (xs : List X) (y : X) (ys : List X) → AllByRecursion P (xs ++ ys) → P y → AllByRecursion P (xs ++ y ∷ ys)
all_put P xs y ys all here = all_append P xs (y ∷ ys) (all_left P xs ys all) (here, all_right P xs ys all)

pub all_taken : {X : Type 0} (P : X → Type 0) (xs : List X) (y : X) (ys : List X) → AllByRecursion P (xs ++ y ∷ ys) → AllByRecursion P (xs ++ ys)
all_taken P xs y ys all = all_append P xs ys (all_left P xs (y ∷ ys) all) (all_right P xs (y ∷ ys) all).1

-- ---- links that ascend, and names that do

abbrev pub link_names : List (List ℕ × Target) → List (List ℕ)
link_names links = map (λ (l : List ℕ × Target). l.0) links

all_after : (a : List ℕ × Target) (links : List (List ℕ × Target)) → Ascend (a ∷ links) → AllByRecursion (Before a.0) (link_names links)
all_after a [] rises = tt
all_after a (b ∷ more) rises = (rises.0, all_so (Before b.0) (Before a.0) (link_names more) (λ x behind. before_trans a.0 b.0 x rises.0 behind) (all_after b more rises.1))

pub ascend_names : (links : List (List ℕ × Target)) → Ascend links → AreAscending (link_names links)
ascend_names [] rises = tt
ascend_names (a ∷ []) rises = (tt, tt)
ascend_names (a ∷ b ∷ more) rises = (all_after a (b ∷ more) rises, ascend_names (b ∷ more) rises.1)

pub names_ascend : (links : List (List ℕ × Target)) → AreAscending (link_names links) → Ascend links
names_ascend [] rises = tt
names_ascend (a ∷ []) rises = tt
names_ascend (a ∷ b ∷ more) rises = (rises.0.0, names_ascend (b ∷ more) rises.1)

pub names_of_links : (segment : List ℕ) (entries : List Entry) → link_names (map (link_of segment) entries) ≡ map (λ (e : Entry). text_at segment e.name) entries
names_of_links segment [] = refl
names_of_links segment (e ∷ entries) = ap (λ (names : List (List ℕ)). text_at segment e.name ∷ names) (names_of_links segment entries)

pub links_less : (xs : List (List ℕ × Target)) (l : List ℕ × Target) (ys : List (List ℕ × Target)) → Ascend (xs ++ l ∷ ys) → Ascend (xs ++ ys)
links_less xs l ys rises =
    let f : List ℕ × Target → List ℕ = λ (k : List ℕ × Target). k.0 in
    names_ascend (xs ++ ys) (ascending_taken l.0 (link_names (xs ++ l ∷ ys)) (link_names (xs ++ ys)) (ascend_names (xs ++ l ∷ ys) rises)
    (record { front = link_names xs; back = link_names ys; before = map-append f xs (l ∷ ys); after = map-append f xs ys }))

-- ---- readings of symbol nodes alone

-- where entries of each of these are such that a fact on all of the old ones is one on all of the new ones, so are those of any symbol nodes
module _ (Q : Entry → Type 0) (f g : Symbols) (listed : List ℕ) (each : AllByRecursion (λ n. AllByRecursion Q (f n) → AllByRecursion Q (g n)) listed) where
  only_all : (n : ℕ) → AllByRecursion Q (only [] f listed n) → AllByRecursion Q (only [] g listed n)
  only_all n = go (list_any (λ m. m == n) listed) (at_listed (λ m. AllByRecursion Q (f m) → AllByRecursion Q (g m)) listed n each) where
    go : (b : Bool) → (b ≡ true → AllByRecursion Q (f n) → AllByRecursion Q (g n)) → AllByRecursion Q (if b then f n else []) → AllByRecursion Q (if b then g n else [])
    go true so all = so refl all
    go false so all = tt

  flat_all : (ns : List ℕ) → AllByRecursion Q (flat_map (only [] f listed) ns) → AllByRecursion Q (flat_map (only [] g listed) ns)
  flat_all [] all = tt
  flat_all (n ∷ ns) all = all_append Q (only [] g listed n) (flat_map (only [] g listed) ns)
      (only_all n (all_left Q (only [] f listed n) (flat_map (only [] f listed) ns) all))
      (flat_all ns (all_right Q (only [] f listed n) (flat_map (only [] f listed) ns) all))

-- nodes are ordered still where symbol nodes have no other names than before
pub fewer_ordered : (V : Reading) (f g : Symbols) (listed segment : List ℕ)
    → ((Q : Entry → Type 0) → AllByRecursion (λ n. AllByRecursion Q (f n) → AllByRecursion Q (g n)) listed)
    → (node : Node) → IsOrdered V (only [] f listed) segment node → IsOrdered V (only [] g listed) segment node
fewer_ordered V f g listed segment each node ordered = record {
  between = λ i low.
      let name : Entry → List ℕ = λ (e : Entry). text_at segment e.name in
      let P : List ℕ → Type 0 = IsBetween segment node i in
      let ns = symbol_nodes_below V node i in
      all_mapped P name (flat_map (only [] g listed) ns)
      (flat_all (λ e. P (name e)) f g listed (each (λ e. P (name e))) ns (all_unmapped P name (flat_map (only [] f listed) ns) (ordered.between i low)));
  rising = ordered.rising;
}
