-- `take_parts` takes the pointer out of an open slot, with what lies there, and closes the slot.
use Rattle.h5_c.proofs.Steps.{◌≡◌, List, [], ◌∷◌, refl, ap, ◌∙◌, Bool, true, false, proved, full_share, id⊢, never, fst∗, ftrue, flft, named, Val, vbool, vptr, fact, tables, sem, ‵, raw, ◌⊛◌, ◌$◌, ◌∵◌, !, qed, done, move, keep, drop, use1, split, join, fsplit, fsplit3, fjoin, fpack, feq_i, rewrite, suffices, frame, group, enter, of_opd, false_lit, load, stop, fld, no_more, and_then, assigns, returns, alloc_all, pass_all, free_all, look_at, get, through, sets, whole, sub, agg, look_in, store_in, shows, cell_at, Valss, Ptr, block_ptr, null_ptr, in_a_block, MutRef, mut_vals, mut_Tells, plain, type_at, nothing, opens, closes, heard, peeks, within, shape, Stays, walk_of, says, stay_dropped, Goes-dropped, stay_ref, Goes-ref, ends_at}
use mir.Raw.{raw as bare}
use denote.Builtin.{bool, RawPtr}
use denote.Exit.{yes}
use denote.Memory.{lone}
use Rattle.core.proofs.alloc.Calls.{token}
use Rattle.std_alloc.specs.Box.Ownership.{box_owns}
use Rattle.std_alloc.proofs.BoxSteps.Form.{D, R as El, word as boxed, box_typed}
use Rattle.std_alloc.proofs.BoxSteps.Steps.{box_in}
use Rattle.std_heap.specs.contracts.Global as Heap
use Rattle.std_heap.proofs.Handle.{heap_val, heap_Tells}
use Rattle.h5_c.specs.contracts.held.Held.{the_row as T}
use Rattle.h5_c.specs.Slot.{free_right, slot_owns}
use Rattle.h5_c.proofs.AsBox.{E}
use Rattle.h5_c.specs.contracts.slot.Slot.take_parts as f
use Rattle.h5_c.proofs.slot.Slot.take_parts.Statement.{statement}
use Rattle.h5_c.proofs.slot.Slot.take_parts.Code as code
use Rattle.h5_c.specs.contracts.slot.Slot.{the_row as R, the_type}
use Rattle.h5_c.proofs.slot.Slot.TheLaws.{lowers}

abbrev stayed : Stays f.ended.signature.params f.ended.kept
stayed = (stay_ref (0 ∷ []) tt (plain (λ _. R)), (stay_dropped (plain (λ _. Heap.the_row)) yes, tt))

pub take_parts_spec : {M : Type 1} → statement M
take_parts_spec 𝓤 𝓛 𝓜 𝓡 wired =
    let c = f.clauses 𝓛 𝓜.mem 𝓡.returns in let W = walk_of 𝓛 f.ended stayed c in let 𝓣 = tables 𝓤 𝓛.H 𝓜 𝓡 𝓡.env in
    proved 𝓛 f.ended stayed c 𝓜 𝓡 (Goes-ref 𝓛 1 0 tt (plain (λ _. R)), (Goes-dropped 𝓛 1 (plain (λ _. Heap.the_row)) yes (λ κs x w. refl), tt))
    f.Key.name code.function (code.unfolded 𝓤 𝓛.H 𝓜 𝓡 wired)
    (λ κs. (mut_vals, ((λ _. heap_val ∷ []), tt))) (λ κs. (mut_Tells (named 0) κs.0 R, (heap_Tells, tt))) (λ κs qs bounds a _ are.
    let b = a.0.ref_ptr.0 in let o = a.0.ref_ptr.1 in let h = a.0.now in let vs = mut_vals a.0 in let al = a.1.0 in
    let y : W.Ghost = ((κs, qs, bounds, a, (vs, (heap_val ∷ [], tt))), tt) in
    qed 𝓛 (((‵ (flft κs.0 qs.0) ⊛ ‵ ftrue) ⊛ ‵ ((MutRef (named 0) κs.0 R).own_val a.0 vs) ⊛ ‵ (Heap.the_row.own_val al (heap_val ∷ [])) ⊛ ‵ ftrue) ∷ raw (fact 𝓤 (h.is_open ≡ true)) ∷ []) ∵
    move ! (1 ∷ []) $ heard ! _ (λ opened. split ! $ split ! $ move ! (2 ∷ []) $ split ! $ move ! (1 ∷ []) $ split ! $ keep ! (2 ∷ 3 ∷ 0 ∷ []) $
    enter ! _ _ _ _ _ $ alloc_all ! (λ l. pass_all ! refl ((tt, tt), ((tt, ((tt, tt), tt)), tt)) $
    fsplit3 ! $ move ! (1 ∷ 2 ∷ 3 ∷ []) $ opens ! tt R b o (λ us.
    move ! (1 ∷ []) $ peeks ! R _ (shows 𝓛 R) h us (λ is. fsplit ! $ move ! (1 ∷ []) $
    rewrite ! 0 (λ (t : Bool). ‵ (slot_owns t h.at h.held)) opened refl $
    in_a_block ! h.at (λ p. slot_owns true p h.held) (fst∗ 𝓤 (never 𝓤) (sem 𝓛 (free_right (bare (lone T.mir)) null_ptr))) (λ b' o' e.
    let Cell = λ (ws : List Val). ‵ (cell_at full_share R.mir ws b o) in
    rewrite ! 2 Cell (lowers.val_is h us is ∙ ap (λ (p : Ptr). lowers.lowered (record h { at = p }) ∷ []) e) refl $
    -- [what lies at the pointer; what the fields own; the slot's cell; the open borrow, in three entries; self's first part; the heap's handle]
    sets ! (of_opd ! (load ! (through ! refl (fld ! refl (stop !))) (look_in ! 2 (sub ! 1 refl (whole !))))) refl (tt, tt) $
    sets ! (of_opd ! (get ! refl)) refl (tt, tt) $
    assigns ! (of_opd ! (false_lit !)) (through ! refl (fld ! refl (stop !))) (store_in ! 2 (sub ! 0 refl (whole !)) (tt, tt)) $
    let h' : R.Denot = record { is_open = false; at = block_ptr b' o'; held = h.held } in let w : Val = lowers.lowered h' in
    move ! (1 ∷ []) $ drop ! $ nothing ! $
    nothing ! $ feq_i ! (List Val) (vptr b' o' ∷ []) (vptr b' o' ∷ []) refl $ fjoin ! $ feq_i ! (List Val) (vbool false ∷ []) (vbool false ∷ []) refl $ fjoin ! $
    feq_i ! (List Val) (w ∷ []) (w ∷ []) refl $ fjoin ! $ fpack ! (Valss (bool ∷ RawPtr ∷ [])) (within (shape the_type) (false, (block_ptr b' o', tt)) (w ∷ [])) (vbool false ∷ [], (vptr b' o' ∷ [], tt)) $ fjoin ! $
    move ! (2 ∷ 0 ∷ 3 ∷ 4 ∷ 5 ∷ []) $ closes ! tt R h' (w ∷ []) b o $
    -- [two parts of self; the token; what lies at the pointer; self's first part; the heap's handle]
    sets ! (agg ! (and_then ! (get ! refl) (and_then ! (get ! refl) (no_more !)))) refl (box_typed E heap_val b' o' (tt, ((tt, tt), tt))) $
    returns ! (look_at ! 0 refl) $ free_all ! refl $
    let v : D E = record { ptr = block_ptr b' o'; alloc = al; value = h.held } in
    let To = type_at (f.signature).result κs in let made : To.Denot = record { ptr = v.ptr; alloc = al; value = v.value } in
    move ! (3 ∷ []) $ use1 𝓛 (‵ (box_owns (token E.al al) (El E) (block_ptr b' o') h.held)) (id⊢ 𝓤 _) $ fsplit ! $
    move ! (0 ∷ 1 ∷ 6 ∷ []) $ box_in E ! v b' o' h.held refl refl $ use1 𝓛 (‵ (To.own_val made (boxed E heap_val b' o' ∷ []))) (id⊢ 𝓤 _) $
    -- [the result; two parts of self; the token; self's first part]
    move ! (4 ∷ 1 ∷ 2 ∷ 3 ∷ 0 ∷ []) $
    suffices ! _ (ends_at 𝓛 f.ended stayed c y (boxed E heap_val b' o') made (h', (tt, tt)) (tt, (tt, tt))) $ says ! (refl, refl) $
    group ! 3 $ nothing ! $ nothing ! $ join ! $ move ! (1 ∷ 0 ∷ []) $ join ! $ nothing ! $ move ! (2 ∷ 0 ∷ []) $ join ! $ frame ! $ frame ! $ done !))))))
