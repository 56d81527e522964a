use Rattle.std.proofs.Common.{◌≡◌, ◌≢◌, ◌<◌, ◌∙◌, ◌-◌, List, ℕ, [], ◌∷◌, length, drop, get_or, sym, ap, subst, arith, below_more}
use Rattle.std.proofs.lemmas.List.{drop_all, length-drop, take_all}
use Rattle.h5_model.specs.Format.Rows.{Node, Reading}
use Rattle.h5_btree.specs.Walk.Below.{reading_in}
use Rattle.h5_btree.specs.Walk.Forms.{OfChunks}
use Rattle.h5_chunks.proofs.BottomRow.{BeginsAt, bottom_begins}
use Rattle.h5_chunks.proofs.order.ascending.bottom_row.Goals as goal

pub returns-then-level-eq0 : goal.returns-then-level-eq0
returns-then-level-eq0 c level root rows is =
    let V : Reading = reading_in c.args.image.now.bytes (OfChunks c.args.shape.now) in
    let all : List ℕ = c.args.all.now in
    let k : ℕ = c.loop-k.k in
    let low : k < length all = omega arith in
    let read : c.level.result ≡ (V (get_or all k 0)).level = c.level.ensures ∙ ap (λ (n : Node). n.level) c.tree_node.ensures in
    let down : (V (get_or all k 0)).level ≡ 0 = omega (arith, read, c.if-level-eq0.true) in
    let begins : BeginsAt V all k = record { few = omega (arith, low); above = c.loop-k.invariant; here = λ _. down } in
    take_all (length all - k) (drop k all) (omega (arith, length-drop k all)) ∙ ap (drop k) is ∙ bottom_begins V level (root ∷ []) k rows (subst (λ (xs : List ℕ). BeginsAt V xs k) is begins)

pub loop-k-preserved : goal.loop-k-preserved
loop-k-preserved c =
    let V : Reading = reading_in c.args.image.now.bytes (OfChunks c.args.shape.now) in
    let all : List ℕ = c.args.all.now in
    let k : ℕ = c.loop-k.k in
    let read : c.level.result ≡ (V (get_or all k 0)).level = c.level.ensures ∙ ap (λ (n : Node). n.level) c.tree_node.ensures in
    below_more (λ (j : ℕ). (V (get_or all j 0)).level ≢ 0) k c.loop-k.invariant (λ none. absurd (omega (arith, read, none, c.if-level-eq0.false)))

pub returns : goal.returns
returns c level root rows is =
    let V : Reading = reading_in c.args.image.now.bytes (OfChunks c.args.shape.now) in
    let all : List ℕ = c.args.all.now in
    let k : ℕ = length all in
    let begins : BeginsAt V all k = record { few = omega arith; above = λ j low. c.loop-k.invariant j (omega (arith, low)); here = λ low. absurd (omega (arith, low)) } in
    sym (drop_all k all (omega arith)) ∙ ap (drop k) is ∙ bottom_begins V level (root ∷ []) k rows (subst (λ (xs : List ℕ). BeginsAt V xs k) is begins)
