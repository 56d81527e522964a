use Rattle.std.proofs.Common.{◌≡◌, Bool, ◌++◌, ℕ, List, length, take, get_or, refl, sym, ap, ◌∙◌, subst}
use Rattle.std.proofs.lemmas.List.{take_all}
use Rattle.std.proofs.lemmas.List.Elements.{filter-append}
use Rattle.std.specs.List.{AllByRecursion, filter}
use Rattle.h5_model.specs.Format.Chunks.{chunks_at, chunks_in}
use Rattle.h5_model.specs.Format.Reached.{Shape}
use Rattle.h5_model.specs.Format.Rows.{Reading}
use Rattle.h5_model.specs.Tree.Places.{is_inside}
use Rattle.h5_btree.specs.Walk.Below.{IsStanding, reading_in}
use Rattle.h5_btree.specs.Walk.Forms.{OfChunks}
use Rattle.h5_btree.specs.Walk.Stands.{bottom_at}
use Rattle.h5_chunks.proofs.ChunkRows.{chunks_more}
use Rattle.h5_chunks.proofs.HeldLaws.{held_entries, image_long, row_node, tree_there}
use Rattle.h5_chunks.proofs.held.held_places.Goals as goal

pub bottom_nodes-requires-clause-long : goal.bottom_nodes-requires-clause-long
bottom_nodes-requires-clause-long c = image_long c.args.image.now.bytes c.args.shape.now c.args.root c.requires.chunks

pub bottom_nodes-requires-clause-there : goal.bottom_nodes-requires-clause-there
bottom_nodes-requires-clause-there c = tree_there c.args.image.now.bytes c.args.shape.now c.args.root c.requires.chunks

pub loop-at-init : goal.loop-at-init
loop-at-init c = rw c.new-places.ensures.items (refl, tt)

pub push_places-requires-clause-node : goal.push_places-requires-clause-node
push_places-requires-clause-node c =
    row_node c.args.image.now.bytes c.args.shape.now c.args.root c.requires.chunks c.deref-at-items.result.now c.loop-at.at-index c.loop-at-test.true
    (c.deref-at-items.ensures.value ∙ c.in_ok-row.ensures.bottom)
    (subst (AllByRecursion (IsStanding c.args.image.now.bytes (OfChunks c.args.shape.now) 0)) (sym c.deref-at-items.ensures.value) c.in_ok-row.ensures.stand)

pub push_places-requires-clause-long : goal.push_places-requires-clause-long
push_places-requires-clause-long c = image_long c.args.image.now.bytes c.args.shape.now c.args.root c.requires.chunks

pub loop-at-preserved : goal.loop-at-preserved
loop-at-preserved c =
    let image : List ℕ = c.args.image.now.bytes in
    let shape : Shape = c.args.shape.now in
    let rank : ℕ = length shape.sizes in
    let V : Reading = reading_in image (OfChunks shape) in
    let row : List ℕ = c.deref-at-items.result.now in
    let k : ℕ = c.loop-at.at-index in
    let test : List ℕ × ℕ → Bool = λ e. is_inside c.args.sizes.now e.0 in
    let here : List (List ℕ × ℕ) = chunks_in rank (V (get_or row k 0)) in (
      c.in_ok-push_places.ensures.held ∙ ap (λ (es : List (List ℕ × ℕ)). es ++ filter test here) c.loop-at.invariant.0
          ∙ sym (ap (filter test) (chunks_more V rank row k c.loop-at-test.true) ∙ filter-append test (chunks_at V rank (take k row)) here),
      c.in_ok-push_places.ensures.each c.loop-at.invariant.1,
    )

pub returns-clause-held : goal.returns-clause-held
returns-clause-held c =
    let image : List ℕ = c.args.image.now.bytes in
    let shape : Shape = c.args.shape.now in
    let rank : ℕ = length shape.sizes in
    let V : Reading = reading_in image (OfChunks shape) in
    let row : List ℕ = c.deref-at-items.result.now in
    let k : ℕ = c.loop-at.at-index in
    let test : List ℕ → Bool = is_inside c.args.sizes.now in
    let rows : row ≡ bottom_at image (OfChunks shape) c.args.root = c.deref-at-items.ensures.value ∙ c.in_ok-row.ensures.bottom in
    c.loop-at.invariant.0
    ∙ ap (λ (ns : List ℕ). filter (λ (e : List ℕ × ℕ). test e.0) (chunks_at V rank ns)) (take_all k row c.loop-at-test.false ∙ rows)
    ∙ sym (held_entries image shape c.args.root c.requires.chunks test)

pub returns-clause-each : goal.returns-clause-each
returns-clause-each c = c.loop-at.invariant.1
