use Rattle.std.proofs.Common.{List, ◌++◌, map, append-nil, sym, ap, subst, ◌∙◌, ℕ}
use Rattle.std.specs.List.{AllByRecursion}
use Rattle.h5_model.specs.Format.Symbols.{Target}
use Rattle.h5_model.specs.Tree.Objects.{Link as LinkIn}
use Rattle.h5_model.specs.Tree.Links.{tree_link}
use Rattle.h5_model.specs.declared.link.Link.{Link}
use Rattle.h5_model.specs.declared.object_no.ObjectNo.{ObjectNo}
use Rattle.h5_open.specs.Opened.Objects.{link_to}
use Rattle.h5_query.specs.Listed.{IsLinkLed, IsTargetLed, in_tree}
use Rattle.h5_query.proofs.ListedLaws.{one_moved}
use Rattle.h5_query.proofs.group.tree_links.Goals as goal

pub link_to-requires : goal.link_to-requires
link_to-requires c =
    let table = c.args.opened.now.table in
    let led = (subst (AllByRecursion (IsLinkLed table)) c.in-Some.ensures.steps c.loop-link.invariant.led).0 in
    subst (IsTargetLed table) (sym c.to.ensures) led

pub loop-link-preserved : goal.loop-link-preserved
loop-link-preserved c =
    let table = c.args.opened.now.table in
    let links = c.loop-link.links.items in
    let later = c.next.new.self in
    record {
      all = ap (λ (ls : List (Link ObjectNo)). map tree_link ls ++ map (in_tree table) later) c.in_ok-push.ensures.items
          ∙ one_moved tree_link (in_tree table) links _ c.in-Some.link later _ (ap (λ (to : LinkIn). (c.name.result.now, to)) (c.link_to.ensures ∙ ap (link_to table) c.to.ensures)
          ∙ ap (λ (name : List ℕ). (name, link_to table c.in-Some.link.1)) c.name.ensures)
          (ap (λ (ls : List (List ℕ × Target)). map tree_link links ++ map (in_tree table) ls) (sym c.in-Some.ensures.steps) ∙ c.loop-link.invariant.all);
      led = (subst (AllByRecursion (IsLinkLed table)) c.in-Some.ensures.steps c.loop-link.invariant.led).1;
    }

pub returns : goal.returns
returns c =
    let table = c.args.opened.now.table in
    let links = c.loop-link.links.items in
    sym (append-nil (map tree_link links))
    ∙ ap (λ (ls : List (List ℕ × Target)). map tree_link links ++ map (in_tree table) ls) (sym c.in-None.ensures.steps.0)
    ∙ c.loop-link.invariant.all ∙ ap (map (in_tree table)) c.into_iter-link-iterator.ensures.into_iter_gives
