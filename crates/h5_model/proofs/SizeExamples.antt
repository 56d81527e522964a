-- Lengths of images and bounds of edits, by computation.
use Rattle.std.proofs.Common.{◌≡◌, ℕ, [], ◌∷◌, refl, true, false, Some, None, pos, negsuc, codes}
use Rattle.std.specs.FinMap.{from_sorted}
use Rattle.h5_model.specs.Tree.Objects.{ToObject, Group, Array, Contiguous}
use Rattle.h5_model.specs.Tree.Paths.{names_of}
use Rattle.h5_model.specs.Format.Sizes.{attribute_size, header_size}
use Rattle.h5_model.specs.Format.Empty.{new_k}
use Rattle.h5_model.specs.Format.PlainLength.{plain_length, nodes_over}
use Rattle.h5_model.specs.Edits.Bounds.{bound_of, new_header}
use Rattle.h5_model.specs.Edits.Facts.{Facts}
use Rattle.h5_model.specs.Edits.ImageAnswers.{is_image_full, is_header_full}
use Rattle.h5_model.specs.Edits.Applied.{new_object, new_dataset}
use Rattle.h5_model.specs.Scripts.Sessions.{Session}
use Rattle.h5_model.specs.declared.dataset.Spec.{Spec}
use Rattle.h5_model.specs.declared.k_values.KValues.{KValues}
use Rattle.h5_model.specs.declared.dataset.Store.TheVariants as store
use Rattle.h5_model.specs.declared.edits.Edit.TheVariants.{CreateGroup, CreateDataset, SetAttr, Resize}
use Rattle.h5_model.proofs.MapSteps.{known}
use Rattle.h5_model.proofs.Sessions.{session_of, group_at, array_at, row_of, u8, i32le, new_file}

-- how long the session's tree is written anew, with the K values of `create` and one chunk stored at most
length_of : Session → ℕ
length_of s = plain_length new_k (λ number. 1) (s.state).tree

empty_file : length_of new_file ≡ 800
unfolding plain_length length_of
empty_file = simp known

-- a superblock of version 1 has four bytes more, and says how large the nodes of chunk trees are: of three chunks of a byte
-- under K 1 there are three nodes of 112 bytes, behind a header of 128 and a symbol node
chunk_k_1 : KValues
chunk_k_1 = record new_k { chunk = Some 1 }

with_chunk_k : plain_length chunk_k_1 (λ number. 1) (new_file.state).tree ≡ 804
unfolding plain_length chunk_k_1
with_chunk_k = simp known

-- three cells of four bytes
one_array : length_of (session_of (group_at 0 ((codes "d", ToObject 1) ∷ []) ∷ array_at 1 (row_of i32le (Contiguous true) (pos 1 ∷ negsuc 0 ∷ pos 2147483647 ∷ []) 3) ∷ []) 2 [] 0) ≡ 1260
unfolding plain_length length_of
one_array = simp known

-- nine links to it, in two symbol nodes
nine_links : length_of (session_of (group_at 0 ((codes "d", ToObject 1) ∷ (codes "e", ToObject 1) ∷ (codes "f", ToObject 1) ∷ (codes "g", ToObject 1) ∷ (codes "h", ToObject 1)
    ∷ (codes "i", ToObject 1) ∷ (codes "j", ToObject 1) ∷ (codes "k", ToObject 1) ∷ (codes "l", ToObject 1) ∷ [])
    ∷ array_at 1 (row_of i32le (Contiguous true) (pos 1 ∷ negsuc 0 ∷ pos 2147483647 ∷ []) 3) ∷ []) 2 [] 0) ≡ 1580
unfolding plain_length length_of
nine_links = simp known

-- the root alone, with an attribute `note` of two bytes
one_attribute : length_of (session_of ((0, record { content = Group (from_sorted []); attributes = from_sorted ((codes "note", record { fixed = u8; sizes = 2 ∷ []; values = pos 7 ∷ pos 8 ∷ []; body = None }) ∷ []); kept = [] }) ∷ []) 1 [] 0) ≡ 864
unfolding plain_length length_of
one_attribute = simp known

-- 65 children under nodes of at most 64: two and a root
two_levels : nodes_over 64 64 65 ≡ 3
two_levels = refl

-- ---- bounds, in the empty file

empty_facts : Facts
empty_facts = record { length = 800; k = new_k; total = 1; has_maxima = false; heap = 88; is_stored = λ at. false; splits_top = λ _. false }

one_spec : ℕ → Spec
one_spec size = record { fixed = u8; dims = size ∷ []; maxima = Some size ∷ []; store = store.Contiguous; fill = pos 0 }

new_dataset_header : new_header (one_spec 1) ≡ 120
unfolding one_spec
new_dataset_header = refl

-- the header of what is created is this long
written_header : header_size (new_object (Array (new_dataset (one_spec 1)))) ≡ new_header (one_spec 1)
unfolding one_spec
written_header = simp known

-- the image would have 2147483649 bytes
one_too_long : is_image_full empty_facts ((new_file.state).tree) (CreateDataset (codes "/q") (one_spec 2147472953)) ≡ true
unfolding empty_facts one_spec bound_of names_of
one_too_long = refl

-- and 2147483648
just_fits : is_image_full empty_facts ((new_file.state).tree) (CreateDataset (codes "/q") (one_spec 2147472952)) ≡ false
unfolding empty_facts one_spec bound_of names_of
just_fits = refl

link_of_a_group : bound_of empty_facts ((new_file.state).tree) (CreateGroup (codes "/g")) ≡ 10480
unfolding empty_facts bound_of names_of
link_of_a_group = refl

maxima_added : bound_of empty_facts ((new_file.state).tree) (Resize (codes "/g") (1 ∷ 2 ∷ [])) ≡ 72
unfolding empty_facts bound_of
maxima_added = refl

-- the total is a number of two bytes
last_message : is_header_full (record empty_facts { total = 65533 }) (SetAttr (codes "/") (record { name = codes "n"; fixed = u8; dims = []; values = pos 0 ∷ [] })) ≡ false
unfolding empty_facts
last_message = refl

no_message_more : is_header_full (record empty_facts { total = 65534 }) (SetAttr (codes "/") (record { name = codes "n"; fixed = u8; dims = []; values = pos 0 ∷ [] })) ≡ true
unfolding empty_facts
no_message_more = refl

-- `big`, one dimension of u8: 65480 values are accepted
largest_attribute : attribute_size 3 (65480 ∷ []) 1 ≡ 65528
largest_attribute = refl
