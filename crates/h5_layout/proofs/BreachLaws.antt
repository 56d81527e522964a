-- The first rule that a dataset's messages break is one that they break, and messages that describe an array break none.
use Rattle.std.proofs.Common.{◌≡◌, ℕ, ◌*◌, ◌<◌, ◌≤◌, List, Option, Some, None, ℤ, Bool, true, false, cond, ◌||◌, ◌⊎◌, inl, inr, refl, sym, ap, ◌∙◌, subst, arith}
use Rattle.std.specs.Prelude.{option_and_then, nat_lt, is_none}
use Rattle.std.specs.Option.{option_or}
use Rattle.std.proofs.lemmas.Bool.Decides.{nat_tests}
use Rattle.std.proofs.lemmas.Option.{same_Some}
use Rattle.h5_model.specs.Format.Limits.{most_cells, most_chunk_bytes}
use Rattle.h5_model.specs.Format.MessageTypes.{data_layout_kind, fill_value_kind, old_fill_value_kind}
use Rattle.h5_model.specs.Format.Messages.{Message, first_body}
use Rattle.h5_model.specs.Format.Fixed.{Fixed}
use Rattle.h5_model.specs.Tree.Places.{cells, extent_cells}
use Rattle.h5_model.specs.Format.Extent.{Extent, extent_of}
use Rattle.h5_model.specs.Format.Datatype.{fixed_of}
use Rattle.h5_model.specs.Format.Fill.{fill_value, old_fill_value}
use Rattle.h5_model.specs.Format.Layout.{Layout, InMessage, InBlock, InChunks, layout_of}
use Rattle.h5_model.specs.Format.Reached.{extent_among, type_among, layout_among}
use Rattle.h5_model.specs.Format.Described.{IsFill, IsChunkSmall, Described, HasArray, HasFill}
use Rattle.h5_model.specs.Faults.HeaderFaults.{SomeBody, IsBadFill, IsLarge, ListBreach}
use Rattle.h5_model.specs.declared.open_fault.Cause.{Cause}
use Rattle.h5_model.specs.declared.open_fault.Cause.TheVariants.{DataspaceForm, DatatypeForm, FillForm, LayoutForm, TooLarge}
use Rattle.h5_header.specs.Kinds.{IsOfDataset}
use Rattle.h5_layout.specs.Judged.{space_breach, type_breach, is_bad, fill_breach, is_chunk_large, layout_breach, breach_in}
use Rattle.h5_header.proofs.FoundLaws.{found, among_some, among_none}

-- ---- no rule is broken

sound_fill : (value : List ℕ → Option ℤ) (body : Option (List ℕ)) (fill : Option ℤ) → IsFill value body fill → is_bad value body ≡ false
sound_fill value None fill h = refl
sound_fill value (Some body) None h = absurd (cc)
sound_fill value (Some body) (Some v) h = rw h.0 refl

pub small_chunk : (t : Fixed) (layout : Layout) → IsChunkSmall t layout → is_chunk_large t layout ≡ false
small_chunk t (InMessage bytes) h = refl
small_chunk t (InBlock b) h = refl
small_chunk t (InChunks sizes root) h = grind (arith, nat_tests)

pub no_breach : (ms : List Message) (a : Described) → HasArray ms a → breach_in ms ≡ None
no_breach ms a h =
    let small : nat_lt most_cells (extent_cells a.sizes) ≡ false = let few = h.small in grind (arith, nat_tests) in
    let old = sound_fill (old_fill_value a.fixed) (first_body old_fill_value_kind ms) (h.filled).old_fill (h.filled).old_filled in
    let new = sound_fill (fill_value a.fixed) (first_body fill_value_kind ms) (h.filled).new_fill (h.filled).new_filled in
    let chunk = small_chunk a.fixed a.layout h.chunk_small in
    rw (h.space, small, h.type, old, new, h.laid_out, chunk) refl

-- ---- a rule is broken

either : {A : Type 0} (o p : Option A) (x : A) → option_or o p ≡ Some x → (o ≡ Some x) ⊎ ((o ≡ None) × (p ≡ Some x))
either None p x h = inr (refl, h)
either (Some y) p x h = inl h

module _ (image : List ℕ) (header : ℕ) (ms : List Message) (of : IsOfDataset ms) (cause : Cause) where
  is_cause : (other : Cause) → ListBreach image header ms other → Some other ≡ Some cause → ListBreach image header ms cause
  is_cause other h same = subst (λ (c : Cause). ListBreach image header ms c) (same_Some other cause same) h

  of_space : space_breach (extent_among ms) ≡ Some cause → ListBreach image header ms cause
  of_space h = elim (extent_among ms) as (λ o. extent_among ms ≡ o → space_breach o ≡ Some cause → ListBreach image header ms cause) [
    | None ↦ λ e is. is_cause DataspaceForm (among_none extent_of 1 ms of.once.0 e) is
    | Some x ↦ λ e is. elim (nat_lt most_cells (extent_cells x.sizes)) as (λ b. nat_lt most_cells (extent_cells x.sizes) ≡ b → cond b (Some TooLarge) None ≡ Some cause → ListBreach image header ms cause) [
      | true ↦ λ large same.
          let above : most_cells < extent_cells x.sizes = grind (arith, nat_tests) in
          let s = among_some extent_of 1 ms x e in
          is_cause TooLarge (inl (s.0, s.1, s.2, (x, s.3, above))) same
      | false ↦ λ large same. absurd (cc)
    ] refl is
  ] refl h

  of_type : type_breach (type_among ms) ≡ Some cause → ListBreach image header ms cause
  of_type h = elim (type_among ms) as (λ o. type_among ms ≡ o → type_breach o ≡ Some cause → ListBreach image header ms cause) [
    | None ↦ λ e is. is_cause DatatypeForm (among_none fixed_of 3 ms of.once.1.0 e) is
    | Some t ↦ λ e is. absurd (cc)
  ] refl h

  bad_body : (kind : ℕ) (value : List ℕ → Option ℤ) (body : Option (List ℕ)) → first_body kind ms ≡ body → is_bad value body ≡ true → SomeBody kind ms (λ bytes. value bytes ≡ None)
  bad_body kind value None e bad = absurd (cc)
  bad_body kind value (Some bytes) e bad = elim (value bytes) as (λ o. value bytes ≡ o → is_none o ≡ true → SomeBody kind ms (λ bs. value bs ≡ None)) [
    | None ↦ λ none is. let s = found kind ms bytes e in (s.0, s.1, s.2, ap value s.3 ∙ none)
    | Some v ↦ λ some is. absurd (cc)
  ] refl bad

  bad_fill : (t : Fixed) (old new : Bool) → is_bad (old_fill_value t) (first_body old_fill_value_kind ms) ≡ old → is_bad (fill_value t) (first_body fill_value_kind ms) ≡ new → (old || new) ≡ true → IsBadFill ms t
  bad_fill t true new p q h = inl (bad_body 4 (old_fill_value t) (first_body old_fill_value_kind ms) refl p)
  bad_fill t false true p q h = inr (bad_body 5 (fill_value t) (first_body fill_value_kind ms) refl q)
  bad_fill t false false p q h = absurd (cc)

  of_fill : fill_breach ms (type_among ms) ≡ Some cause → ListBreach image header ms cause
  of_fill h = elim (type_among ms) as (λ o. type_among ms ≡ o → fill_breach ms o ≡ Some cause → ListBreach image header ms cause) [
    | None ↦ λ e is. absurd (cc)
    | Some t ↦ λ e is.
        let old : Bool = is_bad (old_fill_value t) (first_body old_fill_value_kind ms) in
        let new : Bool = is_bad (fill_value t) (first_body fill_value_kind ms) in
        elim (old || new) as (λ b. (old || new) ≡ b → cond b (Some FillForm) None ≡ Some cause → ListBreach image header ms cause) [
          | true ↦ λ bad same. is_cause FillForm (t, e, bad_fill t old new refl refl bad) same
          | false ↦ λ bad same. absurd (cc)
        ] refl is
  ] refl h

  large_chunk : (t : Fixed) (layout : Layout) → is_chunk_large t layout ≡ true → type_among ms ≡ Some t → layout_among ms ≡ Some layout → IsLarge ms
  large_chunk t (InMessage bytes) large e l = absurd (cc)
  large_chunk t (InBlock b) large e l = absurd (cc)
  large_chunk t (InChunks sizes root) large e l =
      let above : most_chunk_bytes < cells sizes * t.size = grind (arith, nat_tests) in
      inr (inr (t, sizes, root, e, l, above))

  among_layout : (e : Extent) (t : Fixed) → extent_among ms ≡ Some e → type_among ms ≡ Some t → layout_among ms ≡ option_and_then (layout_of e.sizes t.size) (first_body data_layout_kind ms)
  among_layout e t p q = rw (p, q) refl

  of_layout : (e : Extent) → extent_among ms ≡ Some e → layout_breach (type_among ms) (layout_among ms) ≡ Some cause → ListBreach image header ms cause
  of_layout x there h = elim (type_among ms) as (λ o. type_among ms ≡ o → layout_breach o (layout_among ms) ≡ Some cause → ListBreach image header ms cause) [
    | None ↦ λ e is. absurd (cc)
    | Some t ↦ λ e is. elim (layout_among ms) as (λ o. layout_among ms ≡ o → layout_breach (Some t) o ≡ Some cause → ListBreach image header ms cause) [
      | None ↦ λ l same.
          is_cause LayoutForm (x, t, there, e, among_none (layout_of x.sizes t.size) 8 ms of.once.1.1.0 (sym (among_layout x t there e) ∙ l)) same
      | Some layout ↦ λ l same. elim (is_chunk_large t layout) as (λ b. is_chunk_large t layout ≡ b → cond b (Some TooLarge) None ≡ Some cause → ListBreach image header ms cause) [
        | true ↦ λ large is'. is_cause TooLarge (large_chunk t layout large e l) is'
        | false ↦ λ large is'. absurd (cc)
      ] refl same
    ] refl is
  ] refl h

  -- where the sizes break no rule they are told
  told : (o : Option Extent) → space_breach o ≡ None → (e : Extent) × (o ≡ Some e)
  told None h = absurd (cc)
  told (Some e) h = (e, refl)

  pub breach_rule : breach_in ms ≡ Some cause → ListBreach image header ms cause
  breach_rule h = elim (either (space_breach (extent_among ms)) _ cause h) [
    | inl space ↦ of_space space
    | inr behind ↦
        let there = told (extent_among ms) behind.0 in
        elim (either (type_breach (type_among ms)) _ cause behind.1) [
          | inl type ↦ of_type type
          | inr rest ↦ elim (either (fill_breach ms (type_among ms)) _ cause rest.1) [
            | inl fill ↦ of_fill fill
            | inr last ↦ of_layout there.0 there.1 last.1
          ]
        ]
  ]

-- ---- the layout is judged last

-- the layout breaks the first rule where sizes, type and fill values break none
pub late_breach : (ms : List Message) (e : Extent) (t : Fixed) (fill : ℤ) (cause : Cause) → extent_among ms ≡ Some e → extent_cells e.sizes ≤ most_cells → type_among ms ≡ Some t → HasFill ms t fill
    → layout_breach (Some t) (option_and_then (layout_of e.sizes t.size) (first_body data_layout_kind ms)) ≡ Some cause → breach_in ms ≡ Some cause
late_breach ms e t fill cause space small type filled h =
    let few : nat_lt most_cells (extent_cells e.sizes) ≡ false = grind (arith, nat_tests) in
    let old = sound_fill (old_fill_value t) (first_body old_fill_value_kind ms) filled.old_fill filled.old_filled in
    let new = sound_fill (fill_value t) (first_body fill_value_kind ms) filled.new_fill filled.new_filled in
    rw (space, few, type, old, new) h
