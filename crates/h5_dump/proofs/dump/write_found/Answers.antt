use Rattle.std.proofs.Common.{List, ℕ, ◌∙◌, subst}
use Rattle.h5_model.specs.Tree.Paths.{location_of}
use Rattle.h5_dump.specs.Dumped.{Dumps}
use Rattle.h5_dump.proofs.Dumps.{dumped-array}
use Rattle.h5_dump.proofs.dump.write_found.Goals as goal

pub returns-in-Array : goal.returns-in-Array
returns-in-Array g c tree has =
    let path = c.args.path.now in
    let there = rw c.in-Array.is at has.there in
    let o = dumped-array tree path (location_of tree path) _ _ _ there in
    subst (λ (text : List ℕ). Dumps c.write_array.result (g.W.Write.contents c.args.output.now) (g.W.Write.contents c.write_array.new.output) text) o.3
    (c.write_array.ensures o.0 o.1 (c.deref-in-Array.ensures.value ∙ o.2))
