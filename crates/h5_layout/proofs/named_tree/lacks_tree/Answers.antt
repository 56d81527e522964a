use Rattle.std.proofs.Common.{◌≡◌, ℕ, List, Option, Some, sym, ap, ◌∙◌, arith}
use Rattle.std.specs.Prelude.{option_and_then}
use Rattle.h5_model.specs.Format.Layout.{InChunks, address_from, layout_of}
use Rattle.h5_model.specs.Format.Described.{Described}
use Rattle.h5_layout.specs.ArrayChunks.{IsChunked}
use Rattle.h5_layout.specs.Told.{array_told}
use Rattle.h5_layout.proofs.LayoutBodies.{tree_address, tree_room}
use Rattle.h5_layout.proofs.NoTree.{none_where, treeless_there}
use Rattle.h5_layout.proofs.OutsideChunks.{chunked_is}
use Rattle.h5_layout.proofs.named_tree.lacks_tree.Goals as goal
use Rattle.h5_layout.proofs.named_tree.lacks_tree.Goals.{After-one_body}

module _ (c : After-one_body) where
  abbrev a : Described
  a = array_told c.args.header.now.messages

  laid : (chunk : List ℕ) (root : Option ℕ) → a.layout ≡ InChunks chunk root → layout_of a.sizes a.fixed.size c.one_body.result.now ≡ Some (InChunks chunk root)
  laid chunk root is = sym (ap (option_and_then (layout_of a.sizes a.fixed.size)) c.one_body.ensures) ∙ c.requires.array.laid_out ∙ ap Some is

pub u64_at-requires : goal.u64_at-requires
u64_at-requires c =
    let b = (goal.at.u64_at-requires c).After-one_body in
    let is : IsChunked (a b).layout = chunked_is (a b).sizes (a b).layout c.requires.chunked in
    omega (arith, tree_room (a b).sizes (a b).fixed.size c.one_body.result.now is.0 is.1 (laid b is.0 is.1 is.2))

pub returns-clause-exact : goal.returns-clause-exact
returns-clause-exact c chunk root is =
    let b = (goal.at.returns-clause-exact c).After-one_body in
    none_where c.u64_at.result root (ap address_from c.u64_at.ensures ∙ tree_address (a b).sizes (a b).fixed.size c.one_body.result.now chunk root (laid b chunk root is))

pub returns-clause-trimmed : goal.returns-clause-trimmed
returns-clause-trimmed c none sizes =
    let b = (goal.at.returns-clause-trimmed c).After-one_body in
    treeless_there c.args.header.now.image (a b) _ c.requires.chunked
    (λ chunk root is. none_where c.u64_at.result root (ap address_from c.u64_at.ensures ∙ tree_address (a b).sizes (a b).fixed.size c.one_body.result.now chunk root (laid b chunk root is)))
    none sizes
