-- The child at the end of a way that ends in a tree is one of those at the bottom, by its number.
use Rattle.std.proofs.Common.{◌≡◌, ℕ, ◌+◌, ◌<◌, List, [], ◌∷◌, ◌++◌, length, get_or, sym, ap, ◌∙◌, subst, arith}
use Rattle.std.proofs.lemmas.List.{places}
use Rattle.h5_model.specs.Format.Nodes.{Kind, node_at, reading_of}
use Rattle.h5_model.specs.Format.Rows.{Node, Reading, leaves, next_row}
use Rattle.h5_model.proofs.RowLaws.{root_level}
use Rattle.h5_space.specs.Space.{Space}
use Rattle.h5_btree.specs.Removal.{EndsInTree}
use Rattle.h5_btree.specs.declared.way.Step.{Step}
use Rattle.h5_btree.proofs.LeafLaws.{next_row-append}
use Rattle.h5_btree.proofs.TreeReadings.{owned_at}
use Rattle.h5_btree.proofs.WayRows.{leaves_here}
use Rattle.h5_btree.proofs.WaySteps.{first_owned}

amid : (xs ys zs : List ℕ) (i k : ℕ) → i < length ys → k ≡ length xs + i → (k < length (xs ++ (ys ++ zs))) × (get_or (xs ++ (ys ++ zs)) k 0 ≡ get_or ys i 0)
amid xs ys zs i k low at = (grind (arith, places, low, at), grind (arith, places, low, at))

module _ (s : Space) (kind : Kind) (root level : ℕ) (way : List Step) (owned list : List ℕ) (k : ℕ) (e : EndsInTree s kind root level way owned list k) where
  abbrev Y : Reading
  Y = reading_of s.bytes kind owned

  abbrev p : ℕ
  p = e.step.node

  list_is : list ≡ next_row Y e.front ++ ((Y p).children ++ next_row Y e.back)
  list_is =
      let bottom = leaves_here Y root p e.above e.front e.back e.leads e.row in
      let high : level ≡ length e.above = sym (root_level Y level root e.tree.rows) ∙ root_level Y (length e.above) root bottom.0 in
      e.tree.all ∙ ap (λ (l : ℕ). leaves Y l (root ∷ [])) high ∙ bottom.1 ∙ next_row-append Y e.front (p ∷ e.back)

  pub end_here : Y p ≡ node_at s.bytes kind p
  end_here = owned_at (node_at s.bytes kind) owned p (first_owned s kind root level way owned list k e)

  pub end_listed : (k < length list) × (get_or list k 0 ≡ get_or (node_at s.bytes kind p).children e.step.place 0)
  end_listed =
      let all = amid (next_row Y e.front) (Y p).children (next_row Y e.back) e.step.place k e.place e.number in
      subst (λ (xs : List ℕ). (k < length xs) × (get_or xs k 0 ≡ get_or (node_at s.bytes kind p).children e.step.place 0)) (sym list_is)
      (all.0, all.1 ∙ ap (λ (o : Node). get_or o.children e.step.place 0) end_here)
