use Rattle.std.proofs.Common.{List, ℕ, ◌++◌, ◌-◌, codes, map, refl, ap, ◌∙◌, subst}
use Rattle.std.specs.Prelude.{MatchOption}
use Rattle.std.specs.List.{flat_map}
use Rattle.h5_text.specs.Appends.{Appends}
use Rattle.h5_text.proofs.Appending.{appends_more}
use Rattle.h5_model.specs.Format.Limits.{most_names}
use Rattle.h5_model.specs.Tree.Links.{tree_link}
use Rattle.h5_file.specs.Listed.{AreGroupLinks, IsNoGroup}
use Rattle.h5_dump.specs.Listing.{lines_of_link}
use Rattle.h5_dump.proofs.Listings.{list_of_links, list_of_none}
use Rattle.h5_dump.proofs.list.push_list.Goals as goal

pub returns-in_default : goal.returns-in_default
returns-in_default c =
    let tree = c.args.file.now.tree in
    let none = subst (λ found. MatchOption found (IsNoGroup tree 0) (λ links. AreGroupLinks tree 0 links.items)) c.in_default.is c.in_ok-links.ensures.found in
    c.in_ok-push_group_line.ensures ∙ ap (λ (text : List ℕ). c.args.text.now.items ++ text) (list_of_none tree none)

pub returns : goal.returns
returns c =
    let tree = c.args.file.now.tree in
    let old = c.args.text.now.items in
    let path = c.new-path.result.items in
    let listed = c.deref.result.now in
    let are = subst (λ found. MatchOption found (IsNoGroup tree 0) (λ links. AreGroupLinks tree 0 links.items)) c.in-Some.is c.in_ok-links.ensures.found in
    subst (λ (text : List ℕ). Appends c.push_links.result old c.push_links.new.text.items text)
    (list_of_links tree (most_names - 1) path c.in-Some.links.items listed are refl c.new-path.ensures.items c.deref.ensures.value)
    (appends_more c.push_links.result old (codes "/ group\n") c.push_group_line.new.out.items c.push_links.new.text.items
    (flat_map (lines_of_link tree (most_names - 1) path) (map tree_link listed)) c.in_ok-push_group_line.ensures c.push_links.ensures.lines)
