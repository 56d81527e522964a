use Rattle.std.proofs.Common.{rules, ◌≡◌, ℕ, ◌+◌, ◌<◌, List, [], ◌∷◌, ◌++◌, true, false, length, length-append, get_or, replicate, set, refl, sym, ap, ◌∙◌, subst, arith, Some}
use Rattle.std.proofs.lemmas.List.{nil_from_length}
use Rattle.std.proofs.lemmas.Option.{slice_get_read}
use Rattle.std.specs.Prelude.{slice_get}
use Rattle.h5_repack.specs.Objects.Targets.{waiting_objects}
use Rattle.h5_repack.proofs.ObjectLaws.Trees.{waiting_filled}
use Rattle.h5_repack.proofs.ObjectLaws.Walks.{IsWalk, walk_begun, walk_left, walk_met, walk_done, left_over, left_met, last_below, mark_read}
use Rattle.h5_repack.proofs.objects.order.met_order.Goals as goal

pub loop-number-init : goal.loop-number-init
loop-number-init c =
    let objects = c.args.objects.now in
    let marks = c.in_ok-is_met.is_met.items in
    let none : marks ≡ replicate (length objects) false = search rules in
    let order : c.new-order.result.items ≡ [] = search rules in
    let stack : c.in_ok-stack.stack.items ≡ 0 ∷ [] = search rules in
    subst (λ (ns : List ℕ). IsWalk objects ns c.in_ok-stack.stack.items marks) (sym order)
    (subst (λ (ns : List ℕ). IsWalk objects [] ns marks) (sym stack) (walk_begun objects c.requires.tree.0 c.requires.tree.1 c.requires.tree.2 marks none))

pub index-requires : goal.index-requires
index-requires c =
    let low = last_below c.args.objects.now _ _ _ _ c.in-Some.number c.loop-number.invariant c.in-Some.ensures.items in
    omega (arith, low, c.loop-number.invariant.same, c.loop-number.is_met.ok.0)

pub index_mut-requires : goal.index_mut-requires
index_mut-requires c =
    let low = last_below c.args.objects.now _ _ _ _ c.in-Some.number c.loop-number.invariant c.in-Some.ensures.items in
    omega (arith, low, c.loop-number.invariant.same, c.loop-number.is_met.ok.0)

pub bounds-objects-number : goal.bounds-objects-number
bounds-objects-number c =
    let low = last_below c.args.objects.now _ _ _ _ c.in-Some.number c.loop-number.invariant c.in-Some.ensures.items in
    omega (arith, low)

pub loop-number-smaller-in-Continue-branch-4 : goal.loop-number-smaller-in-Continue-branch-4
loop-number-smaller-in-Continue-branch-4 c =
    let objects = c.args.objects.now in
    let marks = c.loop-number.is_met.items in
    let number = c.in-Some.number in
    let x = c.index-objects-number.result in
    let low : number < length objects = last_below objects _ _ _ _ number c.loop-number.invariant c.in-Some.ensures.items in
    let within : number < length marks = omega (arith, low, c.loop-number.invariant.same) in
    let held : slice_get objects number ≡ Some x = slice_get_read objects (length objects) number x refl low c.index-objects-number.is in
    let unmarked : get_or marks number false ≡ false = mark_read marks number c.index.result.now false within c.index.ensures c.if-not-index.true in
    let less : left_over objects (set marks number true) + (1 + length (waiting_objects x)) ≡ left_over objects marks = left_met objects marks number x within held unmarked in
    let new : length c.push_waiting.new.stack.items ≡ length c.pop.new.self.items + length (waiting_objects x)
    = ap length c.in_ok-push_waiting.ensures ∙ length-append c.pop.new.self.items (waiting_objects x) in
    let old : length c.loop-number.stack.items ≡ length c.pop.new.self.items + 1
    = ap length c.in-Some.ensures.items ∙ length-append c.pop.new.self.items (number ∷ []) in
    omega (arith, less, new, old)

pub loop-number-preserved-in-Continue-branch-4 : goal.loop-number-preserved-in-Continue-branch-4
loop-number-preserved-in-Continue-branch-4 c =
    let objects = c.args.objects.now in
    let order = c.loop-number.order.items in
    let rest = c.pop.new.self.items in
    let marks = c.loop-number.is_met.items in
    let number = c.in-Some.number in
    let x = c.index-objects-number.result in
    let low : number < length objects = last_below objects _ _ _ _ number c.loop-number.invariant c.in-Some.ensures.items in
    let within : number < length marks = omega (arith, low, c.loop-number.invariant.same) in
    let held : slice_get objects number ≡ Some x = slice_get_read objects (length objects) number x refl low c.index-objects-number.is in
    let unmarked : get_or marks number false ≡ false = mark_read marks number c.index.result.now false within c.index.ensures c.if-not-index.true in
    let walk : IsWalk objects order (rest ++ number ∷ []) marks = subst (λ (ns : List ℕ). IsWalk objects order ns marks) c.in-Some.ensures.items c.loop-number.invariant in
    let met = walk_met objects order rest marks number x walk unmarked held
    (λ other at. waiting_filled objects c.requires.tree.0 c.requires.tree.1 c.requires.tree.2 number other x held at) in
    subst (λ (ns : List ℕ). IsWalk objects ns c.push_waiting.new.stack.items (set marks number true)) (sym c.in_ok-push.ensures.items)
    (subst (λ (ns : List ℕ). IsWalk objects (order ++ number ∷ []) ns (set marks number true)) (sym c.in_ok-push_waiting.ensures) met)

pub loop-number-preserved : goal.loop-number-preserved
loop-number-preserved c =
    let objects = c.args.objects.now in
    let order = c.loop-number.order.items in
    let rest = c.pop.new.self.items in
    let marks = c.loop-number.is_met.items in
    let number = c.in-Some.number in
    let low : number < length objects = last_below objects _ _ _ _ number c.loop-number.invariant c.in-Some.ensures.items in
    let within : number < length marks = omega (arith, low, c.loop-number.invariant.same) in
    let marked : get_or marks number false ≡ true = mark_read marks number c.index.result.now true within c.index.ensures c.if-not-index.false in
    walk_left objects order rest marks number (subst (λ (ns : List ℕ). IsWalk objects order ns marks) c.in-Some.ensures.items c.loop-number.invariant) marked

pub returns : goal.returns
returns c tree are sound =
    let objects = c.args.objects.now in
    let order = c.loop-number.order.items in
    let marks = c.loop-number.is_met.items in
    let none : c.loop-number.stack.items ≡ [] = nil_from_length c.loop-number.stack.items (omega (arith, c.in_default.ensures.cases.0, c.loop-number.stack.ok.0)) in
    walk_done objects order marks tree (subst (λ (ns : List ℕ). IsWalk objects order ns marks) none c.loop-number.invariant) are
