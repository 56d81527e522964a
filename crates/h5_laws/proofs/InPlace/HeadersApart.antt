-- Objects whose blocks share no byte have headers at different places.
use Rattle.std.proofs.Common.{◌≡◌, ℕ, ◌+◌, ◌≤◌, List, [], ◌∷◌, ◌++◌, sym, ap, ◌∙◌, subst, inl, inr, arith}
use Rattle.std.specs.Ordering.{nat_cmp}
use Rattle.std.specs.FinMap.{FinMap}
use Rattle.std.specs.List.{flat_map}
use Rattle.h5_bytes.specs.Blocks.{block, cover, holds}
use Rattle.h5_bytes.specs.declared.Block.{Block}
use Rattle.h5_bytes.proofs.BlockLaws.{cover-append, holds_in}
use Rattle.h5_model.specs.Format.Messages.{prefix_at, first_size, continuations}
use Rattle.h5_model.specs.Format.Reads.{Placed, IsPlaced}
use Rattle.h5_laws.proofs.Lists.{In}

-- an object's header begins in its blocks
pub header_covered : (image : List ℕ) (table : FinMap nat_cmp ℕ) (x : Placed) → IsPlaced image table x → 1 ≤ cover x.header x.blocks
header_covered image table x has =
    let own = block x.header (16 + first_size (prefix_at image x.header)) in
    let laid : x.blocks ≡ (own ∷ continuations has.messages) ++ has.content_blocks = has.laid ∙ ap (λ bs. bs ++ has.content_blocks) has.listed.laid in
    let here : holds x.header x.header (16 + first_size (prefix_at image x.header)) ≡ 1 = holds_in x.header x.header (16 + first_size (prefix_at image x.header)) (omega arith) (omega arith) in
    subst (λ bs. 1 ≤ cover x.header bs) (sym laid)
    (omega (arith, here, cover-append x.header (own ∷ continuations has.messages) has.content_blocks))

abbrev pub blocks_all : List Placed → List Block
blocks_all placed = flat_map (λ x. x.blocks) placed

some_covered : (p : ℕ) (x : Placed) (placed : List Placed) → In x placed → 1 ≤ cover p x.blocks → 1 ≤ cover p (blocks_all placed)
some_covered p x [] at some = absurd at
some_covered p x (y ∷ placed) (inl e) some =
    let here : 1 ≤ cover p y.blocks = subst (λ (z : Placed). 1 ≤ cover p z.blocks) (sym e) some in
    omega (arith, here, cover-append p y.blocks (blocks_all placed))
some_covered p x (y ∷ placed) (inr at) some = omega (arith, some_covered p x placed at some, cover-append p y.blocks (blocks_all placed))

-- a byte that two objects have, where no byte is shared, is that of one object
pub one_covers : (p : ℕ) (placed : List Placed) (x y : Placed) → cover p (blocks_all placed) ≤ 1 → In x placed → In y placed → 1 ≤ cover p x.blocks → 1 ≤ cover p y.blocks → x ≡ y
one_covers p [] x y once at there some more = absurd at
one_covers p (z ∷ placed) x y once (inl e) (inl f) some more = sym e ∙ f
one_covers p (z ∷ placed) x y once (inl e) (inr there) some more =
    let here : 1 ≤ cover p z.blocks = subst (λ (w : Placed). 1 ≤ cover p w.blocks) (sym e) some in
    absurd (omega (arith, once, here, some_covered p y placed there more, cover-append p z.blocks (blocks_all placed)))
one_covers p (z ∷ placed) x y once (inr at) (inl f) some more =
    let here : 1 ≤ cover p z.blocks = subst (λ (w : Placed). 1 ≤ cover p w.blocks) (sym f) more in
    absurd (omega (arith, once, here, some_covered p x placed at some, cover-append p z.blocks (blocks_all placed)))
one_covers p (z ∷ placed) x y once (inr at) (inr there) some more =
    one_covers p placed x y (omega (arith, once, cover-append p z.blocks (blocks_all placed))) at there some more
