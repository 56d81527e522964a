-- A message that breaks a rule where it is met excludes that its header is read.
use Rattle.std.proofs.Common.{◌≡◌, ◌≢◌, ◌⊎◌, inl, inr, ℕ, ◌+◌, ◌<◌, List, [], ◌∷◌, length, refl, sym, ap, ◌∙◌, subst, arith, None, true, false, Bool}
use Rattle.std.proofs.lemmas.Bool.Decides.{nat_tests}
use Rattle.std.specs.Prelude.{◌==◌, ◌||◌, not, IsSome, is_some, nat_le, bit_and}
use Rattle.std.specs.List.{AllByRecursion}
use Rattle.std.proofs.lemmas.Bool.{or_cases}
use Rattle.h5_bytes.specs.Bytes.{byte_at}
use Rattle.h5_bytes.specs.Blocks.{Inside}
use Rattle.h5_bytes.specs.declared.Block.{Block}
use Rattle.h5_bytes.proofs.PartLaws.{length-part}
use Rattle.h5_model.specs.Format.Addresses.{continuation_of}
use Rattle.h5_model.specs.Format.MessageTypes.{nil_kind, dataspace_kind, datatype_kind, old_fill_value_kind, fill_value_kind, external_files_kind, data_layout_kind, filter_pipeline_kind, attribute_kind, comment_kind, old_modification_time_kind, continuation_kind, symbol_table_kind, modification_time_kind}
use Rattle.h5_model.specs.Format.Messages.{Message, HasMessages, IsContinued}
use Rattle.h5_model.specs.Format.Reached.{Met, MessageAt, kind_at, size_at}
use Rattle.h5_model.specs.Faults.HeaderFaults.{IsMisfit, SomeMessage, is_known, is_new_style}
use Rattle.h5_laws.proofs.Lists.{In, in_all}
use Rattle.h5_laws.proofs.Heads.{Headed, headed, standing}
use Rattle.h5_laws.proofs.Objects.{of_group, of_dataset}

-- ---- types that headers may have

abbrev pub allowed : List ℕ
allowed = symbol_table_kind ∷ nil_kind ∷ continuation_kind ∷ attribute_kind ∷ comment_kind ∷ old_modification_time_kind ∷ modification_time_kind ∷ dataspace_kind ∷ datatype_kind ∷ old_fill_value_kind ∷ fill_value_kind ∷ data_layout_kind ∷ []

is_listed : (k n : ℕ) → (k == n) ≡ true → In n allowed → In k allowed
is_listed k n same at = let e : n ≡ k = grind (arith, nat_tests) in subst (λ (x : ℕ). In x allowed) e at

common_allowed : (k : ℕ) → ((k == nil_kind || k == continuation_kind) || (k == attribute_kind || ((k == comment_kind || k == old_modification_time_kind) || k == modification_time_kind))) ≡ true → In k allowed
common_allowed k h = elim (or_cases (k == nil_kind || k == continuation_kind) (k == attribute_kind || ((k == comment_kind || k == old_modification_time_kind) || k == modification_time_kind)) h) [
  | inl a ↦ elim (or_cases (k == nil_kind) (k == continuation_kind) a) [
    | inl e ↦ is_listed k nil_kind e (inr (inl refl))
    | inr e ↦ is_listed k continuation_kind e (inr (inr (inl refl)))
  ]
  | inr b ↦ elim (or_cases (k == attribute_kind) ((k == comment_kind || k == old_modification_time_kind) || k == modification_time_kind) b) [
    | inl e ↦ is_listed k attribute_kind e (inr (inr (inr (inl refl))))
    | inr c ↦ elim (or_cases (k == comment_kind || k == old_modification_time_kind) (k == modification_time_kind) c) [
      | inl d ↦ elim (or_cases (k == comment_kind) (k == old_modification_time_kind) d) [
        | inl e ↦ is_listed k comment_kind e (inr (inr (inr (inr (inl refl)))))
        | inr e ↦ is_listed k old_modification_time_kind e (inr (inr (inr (inr (inr (inl refl))))))
      ]
      | inr e ↦ is_listed k modification_time_kind e (inr (inr (inr (inr (inr (inr (inl refl)))))))
    ]
  ]
]

group_allowed : (k : ℕ) → of_group k ≡ true → In k allowed
group_allowed k h = elim (or_cases (k == symbol_table_kind) ((k == nil_kind || k == continuation_kind) || (k == attribute_kind || ((k == comment_kind || k == old_modification_time_kind) || k == modification_time_kind))) h) [
  | inl e ↦ is_listed k symbol_table_kind e (inl refl)
  | inr c ↦ common_allowed k c
]

dataset_allowed : (k : ℕ) → of_dataset k ≡ true → In k allowed
dataset_allowed k h = elim (or_cases ((k == dataspace_kind || k == datatype_kind) || (k == old_fill_value_kind || k == fill_value_kind)) (k == data_layout_kind || ((k == nil_kind || k == continuation_kind) || (k == attribute_kind || ((k == comment_kind || k == old_modification_time_kind) || k == modification_time_kind)))) h) [
  | inl a ↦ elim (or_cases (k == dataspace_kind || k == datatype_kind) (k == old_fill_value_kind || k == fill_value_kind) a) [
    | inl b ↦ elim (or_cases (k == dataspace_kind) (k == datatype_kind) b) [
      | inl e ↦ is_listed k dataspace_kind e (inr (inr (inr (inr (inr (inr (inr (inl refl))))))))
      | inr e ↦ is_listed k datatype_kind e (inr (inr (inr (inr (inr (inr (inr (inr (inl refl)))))))))
    ]
    | inr b ↦ elim (or_cases (k == old_fill_value_kind) (k == fill_value_kind) b) [
      | inl e ↦ is_listed k old_fill_value_kind e (inr (inr (inr (inr (inr (inr (inr (inr (inr (inl refl))))))))))
      | inr e ↦ is_listed k fill_value_kind e (inr (inr (inr (inr (inr (inr (inr (inr (inr (inr (inl refl)))))))))))
    ]
  ]
  | inr a ↦ elim (or_cases (k == data_layout_kind) ((k == nil_kind || k == continuation_kind) || (k == attribute_kind || ((k == comment_kind || k == old_modification_time_kind) || k == modification_time_kind))) a) [
    | inl e ↦ is_listed k data_layout_kind e (inr (inr (inr (inr (inr (inr (inr (inr (inr (inr (inr (inl refl))))))))))))
    | inr c ↦ common_allowed k c
  ]
]

-- a test that refuses each of them
abbrev pub Refuses : (ℕ → Bool) → Type 0
Refuses test = AllByRecursion (λ k. test k ≡ false) allowed

pub unknown_refused : Refuses (λ kind. not (is_known kind))
unknown_refused = (refl, (refl, (refl, (refl, (refl, (refl, (refl, (refl, (refl, (refl, (refl, (refl, tt))))))))))))

pub filtered_refused : Refuses (λ kind. kind == filter_pipeline_kind)
filtered_refused = (refl, (refl, (refl, (refl, (refl, (refl, (refl, (refl, (refl, (refl, (refl, (refl, tt))))))))))))

pub external_refused : Refuses (λ kind. kind == external_files_kind)
external_refused = (refl, (refl, (refl, (refl, (refl, (refl, (refl, (refl, (refl, (refl, (refl, (refl, tt))))))))))))

pub new_refused : Refuses is_new_style
new_refused = (refl, (refl, (refl, (refl, (refl, (refl, (refl, (refl, (refl, (refl, (refl, (refl, tt))))))))))))

-- ---- a body of a Continuation that is too short

short_names_none : (body : List ℕ) → length body < 16 → continuation_of body ≡ None
unfolding continuation_of
short_names_none body short = let no_room : nat_le 16 (length body) ≡ false = grind (arith, nat_tests) in rw no_room refl

module _ (image : List ℕ) (header : ℕ) (messages : List Message) (blocks : List Block) (has : HasMessages image header messages blocks)
    (inside : Inside (length image) blocks) where
  pub met_head : (at : ℕ) (m : MessageAt image header at) → Headed image messages at m.end
  met_head at m = headed image messages at m.end (standing image header messages blocks has inside m.met) (λ e. omega (arith, e, m.inside))

  continued : (at end : ℕ) → Headed image messages at end → kind_at image at ≡ continuation_kind → size_at image at < 16 → ⊥
  continued at end h kind short =
      let names : IsSome (continuation_of h.m.body) = in_all IsContinued h.m messages has.continued h.member (h.kind ∙ kind) in
      let len : length h.m.body ≡ size_at image at = ap length h.body ∙ length-part (at + 8) (size_at image at) image (omega (arith, h.fits, h.inside)) in
      let none : continuation_of h.m.body ≡ None = short_names_none h.m.body (omega arith) in
      let never : false ≡ true = sym (ap is_some none) ∙ names in
      absurd (cc)

  pub misfit_excluded : (at end : ℕ) → Met image header at end → IsMisfit image at end → ⊥
  misfit_excluded at end met misfit =
      let h = headed image messages at end (standing image header messages blocks has inside met) misfit.0 in
      elim misfit.1 [
        | inl head ↦ absurd (omega (arith, head, h.fits))
        | inr (inl size) ↦ size h.padded
        | inr (inr (inl body)) ↦ absurd (omega (arith, body, h.fits))
        | inr (inr (inr short)) ↦ continued at end h short.0 short.1
      ]

  pub shared_excluded : (at : ℕ) → MessageAt image header at → bit_and (byte_at image (at + 4)) 2 ≢ 0 → ⊥
  shared_excluded at m shared = shared (met_head at m).own

  -- a type that neither groups nor datasets have
  pub kind_excluded : (test : ℕ → Bool) → Refuses test → ((m : Message) → In m messages → (of_group m.kind ≡ true) ⊎ (of_dataset m.kind ≡ true))
      → SomeMessage image header test → ⊥
  kind_excluded test refuses each some =
      let h = met_head some.0 some.1 in
      let listed : In h.m.kind allowed = elim (each h.m h.member) [ inl g ↦ group_allowed h.m.kind g | inr d ↦ dataset_allowed h.m.kind d ] in
      let refused : test h.m.kind ≡ false = in_all (λ k. test k ≡ false) h.m.kind allowed refuses listed in
      let passed : test h.m.kind ≡ true = subst (λ (k : ℕ). test k ≡ true) (sym h.kind) some.2 in
      let never : false ≡ true = sym refused ∙ passed in
      absurd (cc)
