-- `put_parts` puts the pointer into a closed slot, which then owns what lies there.
use Rattle.h5_c.proofs.Steps.{◌≡◌, List, [], ◌∷◌, refl, sym, true, false, full_share, id⊢, ftrue, flft, named, Val, vbool, vunit, vptr, fact, tables, ‵, raw, ◌⊛◌, ◌$◌, ◌∵◌, !, qed, done, move, keep, drop, use1, split, join, fsplit3, fjoin, fpack, feq_i, rewrite, suffices, frame, group, enter, of_opd, true_lit, unit_lit, stop, fld, assigns, returns, alloc_all, pass_all, free_all, look_at, get, get_in, through, sets, whole, sub, store_in, shows, cell_at, Valss, block_ptr, MutRef, plain, nothing, opens, closes, heard, peeks, within, shape, Stays, walk_of, says, stay_dropped, Goes-dropped, stay_ref, Goes-ref, ends_at}
use mathlib.Core.Path.{subst}
use mathlib.Core.List.{◌++◌}
use base.Logic.{SProp, ent}
use prog.Wp.{WpFn}
use types.Kit.{feq_l}
use denote.Builtin.{bool, RawPtr}
use denote.Exit.{yes}
use denote.Signature as signs
use Rattle.std.proofs.raw_atomic.Walks.{proved_at}
use Rattle.std_alloc.proofs.BoxSteps.Form.{D, B, word as boxed, box_typed}
use Rattle.std_alloc.proofs.BoxSteps.Steps.{box_out}
use Rattle.std_heap.specs.contracts.Global as Heap
use Rattle.std_heap.specs.contracts.GlobalAllocator.TheImpl.{ghosts}
use Rattle.h5_c.specs.contracts.held.Held.{the_row as T}
use Rattle.h5_c.specs.Slot.{slot_owns}
use Rattle.h5_c.specs.contracts.parts.Parts as Parts
use Rattle.h5_c.proofs.AsBox.{E}
use Rattle.h5_c.specs.contracts.slot.Slot.put_parts as f
use Rattle.h5_c.proofs.slot.Slot.put_parts.Statement.{statement}
use Rattle.h5_c.proofs.slot.Slot.put_parts.Code as code
use Rattle.h5_c.specs.contracts.slot.Slot.{the_row as R, the_type}
use Rattle.h5_c.proofs.slot.Slot.TheLaws.{lowers}

abbrev From : signs.Slot 1
From = plain (λ _. Parts.the_row T Heap.the_row ghosts)

abbrev stayed : Stays f.ended.signature.params f.ended.kept
stayed = (stay_ref (0 ∷ []) tt (plain (λ _. R)), (stay_dropped From yes, tt))

pub put_parts_spec : {M : Type 1} → statement M
put_parts_spec 𝓤 𝓛 𝓜 𝓡 wired =
    let c = f.clauses 𝓛 𝓜.mem 𝓡.returns in let W = walk_of 𝓛 f.ended stayed c in let 𝓣 = tables 𝓤 𝓛.H 𝓜 𝓡 𝓡.env in
    proved_at 𝓛 f.ended stayed c 𝓜 𝓡 (Goes-ref 𝓛 1 0 tt (plain (λ _. R)), (Goes-dropped 𝓛 1 From yes (λ κs x w. refl), tt))
    f.Key.name code.function (code.unfolded 𝓤 𝓛.H 𝓜 𝓡 wired) (λ z are.
    let κs = z.0.0 in let qs = z.0.1 in let a = z.0.3 in let b = a.0.ref_ptr.0 in let o = a.0.ref_ptr.1 in let h = a.0.now in
    let v : D E = record { ptr = a.1.0.ptr; alloc = a.1.0.alloc; value = a.1.0.value } in
    let Run : List Val → SProp 𝓤 = λ ws. WpFn 𝓤 𝓛.H 𝓣.C 𝓣.Λ code.function ws (W.post z) in
    qed 𝓛 (((‵ (flft κs.0 qs.0) ⊛ ‵ ftrue) ⊛ ‵ ((MutRef (named 0) κs.0 R).own_val a.0 z.0.4.0) ⊛ ‵ ((B E).own_val v z.0.4.1.0) ⊛ ‵ ftrue) ∷ raw (fact 𝓤 (h.is_open ≡ false)) ∷ []) ∵
    move ! (1 ∷ []) $ heard ! _ (λ closed. split ! $ split ! $ move ! (2 ∷ []) $ split ! $ move ! (1 ∷ []) $ split ! $ keep ! (2 ∷ 3 ∷ 0 ∷ []) $
    fsplit3 ! $ feq_l ! (λ at_slot. move ! (3 ∷ []) $ box_out E ! v z.0.4.1.0 (λ b' o' hv e ws fa. fjoin ! $
    use1 𝓛 (‵ (slot_owns true (block_ptr b' o') v.value)) (id⊢ 𝓤 _) $ move ! (1 ∷ []) $ drop ! $
    -- [what lies at the pointer; two parts of self; the token]
    suffices ! (Run (vptr b o ∷ boxed E hv b' o' ∷ [])) (subst (λ (us : List Val). ent 𝓤 (Run (vptr b o ∷ boxed E hv b' o' ∷ [])) (Run us)) (sym (λ i. at_slot i ++ (ws i ++ []))) (id⊢ 𝓤 _)) $
    enter ! _ _ _ _ _ $ alloc_all ! (λ l. pass_all ! refl ((tt, tt), (box_typed E hv b' o' fa, tt)) $
    move ! (1 ∷ 2 ∷ 3 ∷ []) $ opens ! tt R b o (λ us.
    move ! (1 ∷ []) $ peeks ! R _ (shows 𝓛 R) h us (λ is. drop ! $
    let Cell = λ (xs : List Val). ‵ (cell_at full_share R.mir xs b o) in
    rewrite ! 0 Cell (lowers.val_is h us is) refl $
    -- [the slot's cell; the open borrow, in three entries; what lies at the pointer]
    sets ! (of_opd ! (get_in ! (fld ! refl (stop !)) (sub ! 0 refl (whole !)))) refl (tt, tt) $
    sets ! (of_opd ! (get ! refl)) refl (tt, tt) $
    assigns ! (of_opd ! (get ! refl)) (through ! refl (fld ! refl (stop !))) (store_in ! 0 (sub ! 1 refl (whole !)) (tt, tt)) $
    assigns ! (of_opd ! (true_lit !)) (through ! refl (fld ! refl (stop !))) (store_in ! 0 (sub ! 0 refl (whole !)) (tt, tt)) $
    sets ! (of_opd ! (unit_lit !)) refl (tt, tt) $
    let h' : R.Denot = record { is_open = true; at = block_ptr b' o'; held = v.value } in let w : Val = lowers.lowered h' in
    nothing ! $ feq_i ! (List Val) (vptr b' o' ∷ []) (vptr b' o' ∷ []) refl $ fjoin ! $ feq_i ! (List Val) (vbool true ∷ []) (vbool true ∷ []) refl $ fjoin ! $
    feq_i ! (List Val) (w ∷ []) (w ∷ []) refl $ fjoin ! $ fpack ! (Valss (bool ∷ RawPtr ∷ [])) (within (shape the_type) (true, (block_ptr b' o', tt)) (w ∷ [])) (vbool true ∷ [], (vptr b' o' ∷ [], tt)) $
    move ! (0 ∷ 5 ∷ []) $ fjoin ! $ move ! (1 ∷ 0 ∷ []) $ closes ! tt R h' (w ∷ []) b o $
    -- [two parts of self; the token]
    returns ! (look_at ! 0 refl) $ free_all ! refl $ feq_i ! (List Val) z.0.4.0 (vptr b o ∷ []) at_slot $
    suffices ! _ (ends_at 𝓛 f.ended stayed c z vunit tt (h', (tt, tt)) (tt, (tt, tt))) $ says ! (refl, refl) $
    group ! 3 $ nothing ! $ nothing ! $ join ! $ move ! (1 ∷ 0 ∷ []) $ join ! $ nothing ! $ move ! (2 ∷ 0 ∷ []) $ join ! $ frame ! $ frame ! $
    feq_i ! _ (vunit ∷ []) _ refl $ done !)))))))
