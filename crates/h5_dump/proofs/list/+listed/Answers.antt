use Rattle.std.proofs.Common.{◌≡◌, ℕ, suc, ◌-◌, ◌++◌, List, codes, map, take, sym, ap, ◌∙◌, subst, append_assoc, append-nil, arith}
use Rattle.std.specs.Prelude.{MatchOption}
use Rattle.std.specs.List.{flat_map}
use Rattle.h5_model.specs.Scripts.Text.{content_text, escaped_text, joined_path, line_of}
use Rattle.h5_model.specs.Tree.Objects.{Array}
use Rattle.h5_text.specs.Appends.{Appends}
use Rattle.h5_text.proofs.Appending.{appends_err}
use Rattle.h5_text.proofs.LineTexts.{in_two_pieces}
use Rattle.h5_model.specs.Tree.Links.{tree_link}
use Rattle.h5_file.specs.Listed.{AreGroupLinks, IsNoGroup}
use Rattle.h5_dump.specs.Listing.{lines_of_link}
use Rattle.h5_dump.proofs.Listings.{lines_of_array, lines_of_last, lines_of_next, lines_of_nothing}
use Rattle.h5_dump.proofs.list.+listed.Goals as goal

pub push_links-returns-in_err-push_soft_line-in-Soft-clause-lines : goal.push_links-returns-in_err-push_soft_line-in-Soft-clause-lines
push_links-returns-in_err-push_soft_line-in-Soft-clause-lines t c =
    let lines = lines_of_link c.args.file.now.tree c.args.depth c.args.path.now.items in
    appends_err c.from_residual.result c.args.text.now.items (flat_map lines (map tree_link (take c.loop-link.link-index c.args.links.now))) c.loop-link.text.items
    c.push_soft_line.new.out.items (flat_map lines (map tree_link c.args.links.now)) c.from_residual.ensures.0 c.loop-link.invariant.lines c.in_err-push_soft_line-in-Soft.ensures

pub push_links-returns-in_err-push_object-in-Object-clause-lines : goal.push_links-returns-in_err-push_object-in-Object-clause-lines
push_links-returns-in_err-push_object-in-Object-clause-lines t c =
    let lines = lines_of_link c.args.file.now.tree c.args.depth c.args.path.now.items in
    appends_err c.from_residual-in_err-push_object-in-Object.result c.args.text.now.items (flat_map lines (map tree_link (take c.loop-link.link-index c.args.links.now))) c.loop-link.text.items
    c.push_object.new.text.items (flat_map lines (map tree_link c.args.links.now)) c.from_residual-in_err-push_object-in-Object.ensures.0 c.loop-link.invariant.lines
    c.in_err-push_object-in-Object.ensures.lines

pub push_object-returns-in-Some-clause-lines : goal.push_object-returns-in-Some-clause-lines
push_object-returns-in-Some-clause-lines t c =
    let tree = c.args.file.now.tree in
    let path = c.args.path.now.items in
    let name = c.args.name.now in
    let d = c.in-Some.array in
    subst (λ (text : List ℕ). Appends c.push_listed_array.result c.args.text.now.items c.push_listed_array.new.text.items text)
    (ap (λ (p : List ℕ). line_of (joined_path p name) (content_text (Array d))) c.as_slice.ensures.value
    ∙ lines_of_array tree c.args.depth path name c.args.number.0 d c.in-Some.ensures)
    c.push_listed_array.ensures

pub push_object-returns-in_default-2-clause-lines : goal.push_object-returns-in_default-2-clause-lines
push_object-returns-in_default-2-clause-lines t c =
    let tree = c.args.file.now.tree in
    let number = c.args.number.0 in
    let old = c.args.text.now.items in
    let none = subst (λ found. MatchOption found (IsNoGroup tree number) (λ links. AreGroupLinks tree number links.items)) c.in_default-2.is c.in_ok-links.ensures.found in
    sym (ap (λ (text : List ℕ). old ++ text) (lines_of_nothing tree c.args.depth c.args.path.now.items c.args.name.now number c.in_default.ensures none) ∙ append-nil old)

pub push_object-returns-then-depth-eq0-clause-lines : goal.push_object-returns-then-depth-eq0-clause-lines
push_object-returns-then-depth-eq0-clause-lines t c =
    let tree = c.args.file.now.tree in
    let number = c.args.number.0 in
    let old = c.args.text.now.items in
    let name = c.args.name.now in
    let are = subst (λ found. MatchOption found (IsNoGroup tree number) (λ links. AreGroupLinks tree number links.items)) c.in-Some-2.is c.in_ok-links.ensures.found in
    c.in_ok-push_group_line.ensures
    ∙ ap (λ (p : List ℕ). old ++ line_of (joined_path p name) (codes "group")) c.as_slice.ensures.value
    ∙ ap (λ (text : List ℕ). old ++ text) (lines_of_last tree c.args.depth c.args.path.now.items name number c.in-Some-2.links.items are c.if-depth-eq0.true)

pub push_object-returns-clause-lines : goal.push_object-returns-clause-lines
push_object-returns-clause-lines t c =
    let tree = c.args.file.now.tree in
    let number = c.args.number.0 in
    let old = c.args.text.now.items in
    let path = c.args.path.now.items in
    let name = c.args.name.now in
    let line = line_of (joined_path path name) (codes "group") in
    let below = c.push_name.new.path.items in
    let are = subst (λ found. MatchOption found (IsNoGroup tree number) (λ links. AreGroupLinks tree number links.items)) c.in-Some-2.is c.in_ok-links.ensures.found in
    let deeper : suc (c.args.depth - 1) ≡ c.args.depth = omega (arith, c.if-depth-eq0.false) in
    let joined : below ≡ joined_path path name = c.in_ok-push_name.ensures ∙ sym (append_assoc path (codes "/") (escaped_text name)) in
    let first : c.push_group_line.new.out.items ≡ old ++ line =
    c.in_ok-push_group_line.ensures ∙ ap (λ (p : List ℕ). old ++ line_of (joined_path p name) (codes "group")) c.as_slice.ensures.value in
    in_two_pieces old line (flat_map (lines_of_link tree (c.args.depth - 1) below) (map tree_link c.deref.result.now)) c.push_group_line.new.out.items c.push_links.new.text.items
    first c.in_ok-push_links.ensures.lines
    ∙ ap (λ (text : List ℕ). old ++ text)
    (lines_of_next tree c.args.depth (c.args.depth - 1) path name below number c.in-Some-2.links.items c.deref.result.now are deeper joined c.deref.ensures.value)
