use Rattle.std.proofs.Common.{length, sym, ap, ◌∙◌, subst, arith}
use Rattle.std.specs.List.{Contains}
use Rattle.h5_model.specs.Format.Superblock.{k_values}
use Rattle.h5_model.specs.Format.Symbols.{Target}
use Rattle.h5_space.specs.Moves.{Moves}
use Rattle.h5_space.specs.Space.{Space}
use Rattle.h5_group.specs.Edited.{IsLinkPut}
use Rattle.h5_group.specs.Exact.{HasExactKeys}
use Rattle.h5_group.specs.Told.{blocks_told, links_told}
use Rattle.h5_open.proofs.opened.unlinked.take_link.Goals as goal

pub remove_link-requires-clause-exact : goal.remove_link-requires-clause-exact
remove_link-requires-clause-exact c known = subst (λ (s : Space). HasExactKeys s.bytes c.args.table) (sym c.in-Ok.ensures.ok) (c.requires.exact known)

pub returns-clause-taken : goal.returns-clause-taken
returns-clause-taken c =
    let e = c.in-Ok-remove_link.ensures in
    let same = c.in-Ok.ensures.ok in
    let t = c.args.table in
    let name = c.args.name.now in
    let new = c.remove_link.new.image in
    let moved = subst (λ (s : Space). Moves s new (blocks_told s.bytes t) (blocks_told new.bytes t)) same e.moves in
    let long = ap (λ (s : Space). length s.bytes) same in
    record {
      links = subst (λ (s : Space). (target : Target) → Contains (links_told s.bytes t) (name, target) → IsLinkPut (name, target) (links_told new.bytes t) (links_told s.bytes t)) same e.taken;
      group = e.group;
      exact = subst (λ (s : Space). HasExactKeys s.bytes t → HasExactKeys new.bytes t) same e.exact;
      moves = record { grown = moved.grown; kept = moved.kept; moved = moved.moved };
      k = e.k ∙ ap (λ (s : Space). k_values s.bytes) same;
      as_long = omega (arith, moved.grown, e.spends.grown, long);
    }
