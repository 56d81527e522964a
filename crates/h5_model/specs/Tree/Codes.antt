-- Codes of the tree and of views, by which a model's value may hold them.
use Rattle.std.specs.Prelude.{◌≡◌, ℕ, Bool, ℤ, Option, Some, None, List, ◌⊎◌, refl}
use Rattle.std.proofs.Common.{inl, inr}
use Rattle.std.specs.Coded.{Coded, code_by, coded×, coded⊎, coded_ℕ, coded_ℤ, coded_bool, coded_list, coded_option}
use Rattle.std.specs.FinMap as map
use Rattle.h5_model.specs.Format.Fixed.{Fixed}
use Rattle.h5_model.specs.Tree.Objects.{Link, ToObject, Soft, Links, Storage, Compact, Contiguous, Chunked, Dataset, Content, Group, Array, Attribute, Attributes, Kept, Object, Tree}
use Rattle.h5_model.specs.Views.Shown.{View, Views}
use Rattle.h5_model.specs.declared.hyperslab.Axis.{Axis}

abbrev pub coded_bytes : Coded (List ℕ)
coded_bytes = coded_list coded_ℕ

abbrev pub coded_fixed : Coded Fixed
coded_fixed = code_by (ℕ × (Bool × Bool)) (coded× coded_ℕ (coded× coded_bool coded_bool))
    (λ t. (t.size, (t.signed, t.big))) (λ p. record { size = p.0; signed = p.1.0; big = p.1.1 }) (λ _. refl)

abbrev link_parts : Link → ℕ ⊎ List ℕ
link_parts (ToObject number) = inl number
link_parts (Soft text) = inr text

abbrev link_from : ℕ ⊎ List ℕ → Link
link_from (inl number) = ToObject number
link_from (inr text) = Soft text

pub link_back : (l : Link) → link_from (link_parts l) ≡ l
link_back (ToObject number) = refl
link_back (Soft text) = refl

abbrev pub coded_link : Coded Link
coded_link = code_by (ℕ ⊎ List ℕ) (coded⊎ coded_ℕ coded_bytes) link_parts link_from link_back

abbrev pub coded_links : Coded Links
coded_links = map.code coded_bytes coded_link

abbrev storage_parts : Storage → Option Bool ⊎ List ℕ
storage_parts Compact = inl None
storage_parts (Contiguous stored) = inl (Some stored)
storage_parts (Chunked sizes) = inr sizes

abbrev storage_from : Option Bool ⊎ List ℕ → Storage
storage_from (inl None) = Compact
storage_from (inl (Some stored)) = Contiguous stored
storage_from (inr sizes) = Chunked sizes

pub storage_back : (s : Storage) → storage_from (storage_parts s) ≡ s
storage_back Compact = refl
storage_back (Contiguous stored) = refl
storage_back (Chunked sizes) = refl

abbrev pub coded_storage : Coded Storage
coded_storage = code_by (Option Bool ⊎ List ℕ) (coded⊎ (coded_option coded_bool) coded_bytes) storage_parts storage_from storage_back

abbrev pub coded_dataset : Coded Dataset
coded_dataset = code_by (Fixed × (List ℕ × (List (Option ℕ) × (Storage × (ℤ × List ℤ)))))
    (coded× coded_fixed (coded× coded_bytes (coded× (coded_list (coded_option coded_ℕ)) (coded× coded_storage (coded× coded_ℤ (coded_list coded_ℤ))))))
    (λ d. (d.fixed, (d.sizes, (d.maxima, (d.storage, (d.fill, d.cells))))))
    (λ p. record { fixed = p.0; sizes = p.1.0; maxima = p.1.1.0; storage = p.1.1.1.0; fill = p.1.1.1.1.0; cells = p.1.1.1.1.1 }) (λ _. refl)

abbrev content_parts : Content → Links ⊎ Dataset
content_parts (Group links) = inl links
content_parts (Array d) = inr d

abbrev content_from : Links ⊎ Dataset → Content
content_from (inl links) = Group links
content_from (inr d) = Array d

pub content_back : (c : Content) → content_from (content_parts c) ≡ c
content_back (Group links) = refl
content_back (Array d) = refl

abbrev pub coded_content : Coded Content
coded_content = code_by (Links ⊎ Dataset) (coded⊎ coded_links coded_dataset) content_parts content_from content_back

abbrev pub coded_attribute : Coded Attribute
coded_attribute = code_by (Fixed × (List ℕ × (List ℤ × Option (List ℕ)))) (coded× coded_fixed (coded× coded_bytes (coded× (coded_list coded_ℤ) (coded_option coded_bytes))))
    (λ a. (a.fixed, (a.sizes, (a.values, a.body)))) (λ p. record { fixed = p.0; sizes = p.1.0; values = p.1.1.0; body = p.1.1.1 }) (λ _. refl)

abbrev pub coded_kept : Coded Kept
coded_kept = code_by (ℕ × List ℕ) (coded× coded_ℕ coded_bytes) (λ k. (k.kind, k.body)) (λ p. record { kind = p.0; body = p.1 }) (λ _. refl)

abbrev pub coded_object : Coded Object
coded_object = code_by (Content × (Attributes × List Kept)) (coded× coded_content (coded× (map.code coded_bytes coded_attribute) (coded_list coded_kept)))
    (λ o. (o.content, (o.attributes, o.kept))) (λ p. record { content = p.0; attributes = p.1.0; kept = p.1.1 }) (λ _. refl)

abbrev pub coded_tree : Coded Tree
coded_tree = map.code coded_ℕ coded_object

abbrev pub coded_axis : Coded Axis
coded_axis = code_by (ℕ × (ℕ × (ℕ × ℕ))) (coded× coded_ℕ (coded× coded_ℕ (coded× coded_ℕ coded_ℕ)))
    (λ a. (a.start, (a.stride, (a.count, a.block)))) (λ p. record { start = p.0; stride = p.1.0; count = p.1.1.0; block = p.1.1.1 }) (λ _. refl)

abbrev pub coded_view : Coded View
coded_view = code_by (ℕ × List Axis) (coded× coded_ℕ (coded_list coded_axis)) (λ v. (v.object, v.slab)) (λ p. record { object = p.0; slab = p.1 }) (λ _. refl)

abbrev pub coded_views : Coded Views
coded_views = map.code coded_ℕ coded_view
