-- Links whose names rise from the first on ascend; and where the names of a row of symbol nodes ascend, those of each part do.
use Rattle.std.proofs.Common.{◌≡◌, ℕ, zero, suc, ◌<◌, List, [], ◌∷◌, ◌++◌, length, take, get_or, refl, sym, ap, ◌∙◌, subst, append-nil}
use Rattle.std.specs.Prelude.{Option, Some, None, map, option_map}
use Rattle.std.specs.List.{AllByRecursion, flat_map}
use Rattle.std.proofs.lemmas.List.{map-append}
use Rattle.std.proofs.lemmas.Grind.{flat_map-append}
use Rattle.h5_bytes.specs.Texts.{text_at}
use Rattle.h5_model.specs.Format.Superblock.{leaf_k}
use Rattle.h5_model.specs.Format.Symbols.{Entry, Target, link_of, symbols_at}
use Rattle.h5_model.specs.Format.Rows.{Node, Reading, leaves}
use Rattle.h5_model.specs.Format.Links.{Ascend, Before}
use Rattle.h5_laws.proofs.Ascending.{ascend_tail}
use Rattle.h5_btree.specs.Order.{IsKnownFrom}
use Rattle.h5_btree.specs.Rising.{FallFrom, IsAbove, RiseFrom, last_value}
use Rattle.h5_btree.proofs.LeafLaws.{leaves-append}
use Rattle.h5_group.specs.Order.Between.{NamesAscend, name_of_entry}

module _ (segment : List ℕ) where
  rise_on : (e : Entry) (es : List Entry) → RiseFrom (name_of_entry segment) Before (Some (name_of_entry segment e)) es → Ascend (map (link_of segment) (e ∷ es))
  rise_on e [] rise = tt
  rise_on e (f ∷ es) rise = (rise.0, rise_on f es rise.1)

  pub rise_ascend : (es : List Entry) → RiseFrom (name_of_entry segment) Before None es → Ascend (map (link_of segment) es)
  rise_ascend [] rise = tt
  rise_ascend (e ∷ es) rise = rise_on e es rise.1

-- where an entry's name is not above the last one before it, they fall
pub fall_here : (segment : List ℕ) (before : Option (List ℕ)) (es : List Entry) (k : ℕ) (e : Entry) → k < length es → get_or es k e ≡ e → (last : Option ℕ)
    → option_map (text_at segment) last ≡ last_value (name_of_entry segment) before (take k es)
    → (IsAbove Before (option_map (text_at segment) last) (name_of_entry segment e) → ⊥) → FallFrom (name_of_entry segment) Before before es
fall_here segment before es k e low there None is below = absurd (below tt)
fall_here segment before es k e low there (Some last) is below = (k, e, text_at segment last, low, there, sym is, below)

-- ---- parts

two_parts : (xs ys : List (List ℕ × Target)) → Ascend (xs ++ ys) → Ascend xs × Ascend ys
two_parts [] ys rise = (tt, rise)
two_parts (x ∷ []) ys rise = (tt, ascend_tail x ys rise)
two_parts (x ∷ y ∷ xs) ys rise = let rest = two_parts (y ∷ xs) ys rise.1 in ((rise.0, rest.0), rest.1)

module _ (image segment : List ℕ) where
  abbrev Rise : List ℕ → Type 0
  Rise symbol_nodes = NamesAscend image segment symbol_nodes

  rows_apart : (xs ys : List ℕ) → Rise (xs ++ ys) → Rise xs × Rise ys
  rows_apart xs ys rise =
      let S = symbols_at image (leaf_k image) in
      let links = map (link_of segment) in
      two_parts (links (flat_map S xs)) (links (flat_map S ys))
      (subst Ascend (ap links (flat_map-append S xs ys) ∙ map-append (link_of segment) (flat_map S xs) (flat_map S ys)) rise)

  each_apart : (below : List ℕ → List ℕ) (P : ℕ → Type 0) → ((n : ℕ) (row : List ℕ) → below (n ∷ row) ≡ below (n ∷ []) ++ below row)
      → ((n : ℕ) → Rise (below (n ∷ [])) → P n) → (row : List ℕ) → Rise (below row) → AllByRecursion P row
  each_apart below P parts so [] rise = tt
  each_apart below P parts so (n ∷ row) rise =
      let both = rows_apart (below (n ∷ [])) (below row) (subst Rise (parts n row) rise) in
      (so n both.0, each_apart below P parts so row both.1)

  -- so do those of each symbol node
  pub each_ascends : (row : List ℕ) → Rise row → AllByRecursion (λ n. Rise (n ∷ [])) row
  each_ascends row rise = each_apart (λ ns. ns) (λ n. Rise (n ∷ [])) (λ n ns. refl) (λ n here. here) row rise

  -- and those below each node of level 0 of a tree
  pub known_from : (V : Reading) (level at : ℕ) → Rise (leaves V level (at ∷ [])) → IsKnownFrom (λ (node : Node). Rise node.children) V level (V at)
  known_from V zero at rise = subst Rise (append-nil (V at).children) rise
  known_from V (suc level) at rise =
      each_apart (leaves V level) (λ n. IsKnownFrom (λ (node : Node). Rise node.children) V level (V n)) (λ n row. leaves-append V level (n ∷ []) row)
      (λ n here. known_from V level n here) (V at).children (subst (λ (row : List ℕ). Rise (leaves V level row)) (append-nil (V at).children) rise)
