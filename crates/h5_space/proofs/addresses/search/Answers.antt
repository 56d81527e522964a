use Rattle.std.proofs.Common.{ℕ, ap, sym, ◌∙◌}
use Rattle.std.proofs.lemmas.List.{get_or_read}
use Rattle.h5_space.specs.Addresses.{run_at}
use Rattle.h5_space.proofs.RunLaws.{gap_first, gap_behind}
use Rattle.h5_space.proofs.addresses.search.Goals as goal

pub returns-in_default-clause-absent : goal.returns-in_default-clause-absent
returns-in_default-clause-absent g c = gap_first c.args.runs.now c.args.address c.in_default.ensures.none

pub returns-then-entry_at-address-clause-found : goal.returns-then-entry_at-address-clause-found
returns-then-entry_at-address-clause-found g c = record {
  there = c.in-Some.ensures.found.there;
  inside = c.in-Some.ensures.found.inside;
  same = λ d. ap (λ (e : ℕ × g.row.V.Denot). e.0) (sym (get_or_read (run_at c.args.runs.now c.in-Some.run') c.in-Some.index c.entry_at.result c.in-Some.ensures.found.inside c.entry_at.ensures d)) ∙ c.if-entry_at-address.true;
}

pub returns-else-entry_at-address-clause-absent : goal.returns-else-entry_at-address-clause-absent
returns-else-entry_at-address-clause-absent g c =
    gap_behind c.args.runs.now c.args.address c.in-Some.run' c.in-Some.index c.entry_at.result c.requires c.in-Some.ensures.found c.entry_at.ensures c.if-entry_at-address.false
