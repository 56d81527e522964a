use Rattle.std.proofs.Common.{◌+◌, ap}
use Rattle.h5_group.proofs.WriteLaws.Steps.{entries_more, spans_less}
use Rattle.h5_group.proofs.write.symbols.push_entries.Goals as goal

pub loop-link-preserved : goal.loop-link-preserved
loop-link-preserved c =
    let at = c.loop-link.at in
    record {
      entries = entries_more c.args.links.now c.loop-link.link-index at (at + c.link_span.result) _ c.loop-link-test.true (ap (λ n. at + n) c.link_span.ensures)
          c.loop-link.out.items c.push_entry.new.out.items _ c.in_ok-push_entry.ensures c.loop-link.invariant.entries;
      spans = spans_less c.args.links.now c.loop-link.link-index at (at + c.link_span.result) _ c.loop-link-test.true (ap (λ n. at + n) c.link_span.ensures)
          _ c.loop-link.invariant.spans;
    }
