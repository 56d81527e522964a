-- The links of a group with the numbers of objects.
use Rattle.std.proofs.Common.{Vec, ◌≡◌, ℕ, List, map, sym, ◌∙◌}
use Rattle.std.specs.Prelude.{IfOk, Result, Ok, Err}
use Rattle.std.specs.declared.alloc.AllocError.{AllocError}
use Rattle.std.specs.declared.alloc.Global.{Global}
use Rattle.std.specs.Ordering.{nat_cmp}
use Rattle.std.specs.FinMap.{FinMap, entries}
use Rattle.h5_query.specs.GroupTold.{links_told}
use Rattle.h5_query.specs.Links.{IsGroupRead}
use Rattle.h5_model.specs.Format.Addresses.{SymbolTable}
use Rattle.h5_model.specs.declared.object_no.ObjectNo.{ObjectNo}
use Rattle.h5_model.specs.declared.link.Link.{Link as LinkOf}
use Rattle.h5_query.specs.Opened.Objects.{links_by}
use Rattle.h5_query.proofs.OpenedLaws.Entries.{group_entries}
use Rattle.h5_query.specs.Listed.{in_tree}
use Rattle.h5_model.specs.Tree.Links.{tree_link}

-- the links of a group that was read are its entries
module _ (image : List ℕ) (table : FinMap nat_cmp ℕ) (g : SymbolTable) (read : IsGroupRead image g) where
  pub links_given : (r : Result (Vec (LinkOf ObjectNo) Global) AllocError) → IfOk r (λ links. map tree_link links.items ≡ map (in_tree table) (links_told image g))
      → IfOk r (λ links. map tree_link links.items ≡ entries (links_by table (links_told image g)))
  links_given (Ok links) same = same ∙ sym (group_entries image table g read)
  links_given (Err e) same = tt
