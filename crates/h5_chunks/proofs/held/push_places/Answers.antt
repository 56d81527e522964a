use Rattle.std.proofs.Common.{◌≡◌, Bool, ◌+◌, ◌<◌, ◌≤◌, ◌++◌, ◌∷◌, [], ℕ, List, length, map, take, get_or, sym, ap, ◌∙◌, append_assoc, subst, arith}
use Rattle.std.proofs.lemmas.List.{take_all, take_more}
use Rattle.std.proofs.lemmas.List.Elements.{filter-append}
use Rattle.std.proofs.lemmas.Option.{get_or_from_slice_get}
use Rattle.std.specs.Prelude.{slice_index_or}
use Rattle.std.specs.List.{AllByRecursion, filter}
use Rattle.h5_model.specs.Format.Chunks.{IsChunkKey, chunks_in, offsets_in}
use Rattle.h5_model.specs.Format.Reached.{Shape}
use Rattle.h5_model.specs.Format.Rows.{Node}
use Rattle.h5_model.specs.Tree.Places.{is_inside}
use Rattle.h5_btree.specs.Walk.Forms.{IsKeyed, OfChunks}
use Rattle.h5_btree.proofs.OrderLaws.Elements.{all_at}
use Rattle.h5_chunks.specs.Held.{IsChunkPlace, held_in, place_entry}
use Rattle.h5_chunks.specs.declared.held.ChunkPlace.{ChunkPlace}
use Rattle.h5_chunks.proofs.ChunkNodes.{chunk_is, length-chunks}
use Rattle.h5_chunks.proofs.HeldLaws.{entries_more, places_more}
use Rattle.h5_chunks.proofs.NodeKeys.{key_long, one_more_key}
use Rattle.h5_chunks.proofs.held.push_places.Goals as goal

pub push_place-requires-clause-long : goal.push_place-requires-clause-long
push_place-requires-clause-long c =
    let node : Node = c.tree_node-node.result in
    let i : ℕ = c.loop-i.i in
    let low : i < length node.keys = omega (arith, c.len-i-end.ensures.keys) in
    let long = key_long c.args.image.now.bytes c.args.shape.now c.args.at node c.tree_node-node.ensures (c.requires.node).there i c.key.result.now low c.key.ensures in
    omega (arith, long, c.requires.rank)

pub push_place-requires-clause-few : goal.push_place-requires-clause-few
push_place-requires-clause-few c =
    let ranks : length c.shape.inside.sizes.now ≡ length c.args.shape.now.sizes = ap (λ (s : Shape). length s.sizes) c.shape.view_is in
    omega (arith, ranks, c.requires.rank, c.shape.invariant.few)

pub loop-i-preserved : goal.loop-i-preserved
loop-i-preserved c =
    let image : List ℕ = c.args.image.now.bytes in
    let shape : Shape = c.args.shape.now in
    let rank : ℕ = length shape.sizes in
    let sizes : List ℕ = c.args.sizes.now in
    let node : Node = c.tree_node-node.result in
    let i : ℕ = c.loop-i.i in
    let key : List ℕ = c.key.result.now in
    let child : ℕ = c.child.result in
    let place : ChunkPlace = record { key = c.key.result; at = child } in
    let old : List ChunkPlace = c.loop-i.places.items in
    let first : List (List ℕ × ℕ) = map (place_entry rank) c.args.places.now.items in
    let chunks : List (List ℕ × ℕ) = chunks_in rank node in
    let test : List ℕ × ℕ → Bool = λ e. is_inside sizes e.0 in
    let long : length node.keys ≡ length node.children + 1 = one_more_key image shape c.args.at node c.tree_node-node.ensures in
    let low : i < length node.children = omega (arith, c.len-i-end.ensures.children) in
    let low_key : i < length node.keys = omega (arith, low, long) in
    let key_is : slice_index_or node.keys i [] ≡ key = get_or_from_slice_get node.keys i key [] c.key.ensures in
    let child_is : slice_index_or node.children i 0 ≡ child = get_or_from_slice_get node.children i child 0 c.child.ensures in
    let here : get_or chunks i ([], 0) ≡ place_entry rank place = chunk_is rank node long i low ([], 0) ∙ (λ j. (offsets_in rank (key_is j), child_is j)) in
    let under : i < length chunks = omega (arith, low, length-chunks rank node long) in
    let more : take (i + 1) chunks ≡ take i chunks ++ place_entry rank place ∷ []
    = take_more chunks i ([], 0) under ∙ ap (λ (e : List ℕ × ℕ). take i chunks ++ e ∷ []) here in
    let keyed : IsKeyed (OfChunks shape) node = subst (IsKeyed (OfChunks shape)) (sym c.tree_node-node.ensures) (c.requires.node).keyed in
    let inside : AllByRecursion (λ (n : ℕ). n + shape.bytes ≤ length image) node.children
    = subst (λ (n : Node). AllByRecursion (λ (m : ℕ). m + shape.bytes ≤ length image) n.children) (sym c.tree_node-node.ensures) (c.requires.node).inside in
    let one : IsChunkPlace image shape place = record {
      long = key_long image shape c.args.at node c.tree_node-node.ensures (c.requires.node).there i key low_key c.key.ensures;
      keyed = subst (IsChunkKey shape.sizes shape.bytes) key_is (keyed i low);
      inside = all_at (λ (n : ℕ). n + shape.bytes ≤ length image) node.children i child low (get_or_from_slice_get node.children i child child c.child.ensures) inside;
    } in (
      ap (map (place_entry rank)) c.in_ok-push_place.ensures ∙ entries_more sizes rank c.requires.rank place old
          ∙ ap (λ (es : List (List ℕ × ℕ)). es ++ filter test (place_entry rank place ∷ [])) c.loop-i.invariant.0
          ∙ append_assoc first (filter test (take i chunks)) (filter test (place_entry rank place ∷ []))
          ∙ ap (λ (es : List (List ℕ × ℕ)). first ++ es) (sym (ap (filter test) more ∙ filter-append test (take i chunks) (place_entry rank place ∷ []))),
      λ all. subst (AllByRecursion (IsChunkPlace image shape)) (sym c.in_ok-push_place.ensures)
          (places_more sizes (IsChunkPlace image shape) old place (c.loop-i.invariant.1 all) one),
    )

pub returns-clause-held : goal.returns-clause-held
returns-clause-held c =
    let rank : ℕ = length c.args.shape.now.sizes in
    let sizes : List ℕ = c.args.sizes.now in
    let node : Node = c.tree_node-node.result in
    let i : ℕ = c.loop-i.i in
    let first : List (List ℕ × ℕ) = map (place_entry rank) c.args.places.now.items in
    let test : List ℕ × ℕ → Bool = λ e. is_inside sizes e.0 in
    let long : length node.keys ≡ length node.children + 1 = one_more_key c.args.image.now.bytes c.args.shape.now c.args.at node c.tree_node-node.ensures in
    let end : length (chunks_in rank node) ≤ i = omega (arith, c.len-i-end.ensures.children, length-chunks rank node long) in
    c.loop-i.invariant.0 ∙ ap (λ (es : List (List ℕ × ℕ)). first ++ filter test es) (take_all i (chunks_in rank node) end)
    ∙ ap (λ (n : Node). first ++ held_in sizes rank n) c.tree_node-node.ensures
