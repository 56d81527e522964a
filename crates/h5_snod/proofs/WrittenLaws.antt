-- Entries that were written one after another, and what they are read as.
use Rattle.std.proofs.Common.{◌≡◌, ℕ, zero, suc, ◌+◌, ◌-◌, ◌*◌, ◌^◌, ◌<◌, ◌≤◌, List, [], ◌∷◌, ◌++◌, length, length-append, append_assoc, append-nil, take, drop, map, get_or, refl, sym, ap, ◌∙◌, arith, lit<}
use Rattle.std.specs.List.{flat_map, AllByRecursion}
use Rattle.std.proofs.lemmas.List.{get_or-map, length-map, take_more, take_all, drop_all, drop-drop, length-take, length-drop}
use Rattle.std.proofs.lemmas.List.FromFn.{fill_by_all}
use Rattle.std.proofs.lemmas.List.Elements.{All-from_recursion, All-get_or, recursion_from_All, All-from_get_or}
use Rattle.std.proofs.lemmas.Grind.{flat_map-append}
use Rattle.std.proofs.Math.Seq.{take-append_seam, drop-append-add}
use borrow.Rule.Slice.PartMut.{put_mid}
use Rattle.byteorder.specs.Numbers.{little_number-reads_back}
use Rattle.h5_bytes.specs.Bytes.{number_at, byte_at, part}
use Rattle.h5_bytes.proofs.PartLaws.{put_mid_is, with_part_is, part-behind, part-front}
use Rattle.h5_bytes.specs.Numbers.{word, middle, short, zeros}
use Rattle.h5_model.specs.Format.Symbols.{Entry, IsEntry, IsSymbolNode, entry_of, entries_of, symbol_signature, symbols_in}
use Rattle.h5_snod.specs.declared.write.NewSymbol.{NewSymbol}
use Rattle.h5_snod.specs.declared.write.NewTarget.{NewTarget}
use Rattle.h5_snod.specs.declared.write.NewTarget.TheVariants.{Dataset, Group, Text}
use Rattle.h5_snod.specs.Written.{header_to, cache_to, scratch_to, IsSmall, new_bytes, entry_from, symbol_node_bytes}
use Rattle.h5_snod.proofs.EntryLaws.{entry_in, all_known}

pub long_entry : (s : NewSymbol) → length (new_bytes s) ≡ 40
long_entry s = by_target s.target where
  by_target : (t : NewTarget) → length (new_bytes (record { name = s.name; target = t })) ≡ 40
  by_target (Dataset header) = refl
  by_target (Group header tree heap) = refl
  by_target (Text offset) = refl

pub long_entries : (ss : List NewSymbol) → length (flat_map new_bytes ss) ≡ 40 * length ss
long_entries [] = refl
long_entries (s ∷ ss) = length-append (new_bytes s) (flat_map new_bytes ss) ∙ omega (arith, long_entry s, long_entries ss)

-- one more entry is written behind those that are
pub one_more : (ss : List NewSymbol) (k : ℕ) (d : NewSymbol) (old now : List ℕ) → k < length ss → length old ≡ 40 * length ss
    → now ≡ flat_map new_bytes (take k ss) ++ drop (40 * k) old
    → put_mid (40 * k) 40 now (new_bytes (get_or ss k d)) ≡ flat_map new_bytes (take (k + 1) ss) ++ drop (40 * (k + 1)) old
one_more ss k d old now low long same =
    let s : NewSymbol = get_or ss k d in
    let front : List ℕ = flat_map new_bytes (take k ss) in
    let taken : length (take k ss) ≡ k = omega (arith, length-take k ss) in
    let ahead : length front ≡ 40 * k = omega (arith, long_entries (take k ss)) in
    let behind : length (drop (40 * k) old) ≡ length old - 40 * k = length-drop (40 * k) old in
    let all : length now ≡ length old = ap length same ∙ length-append front (drop (40 * k) old) ∙ omega arith in
    let size : length (new_bytes s) ≡ 40 = long_entry s in
    let next : 40 * (k + 1) ≡ 40 * k + 40 = omega arith in
    let before : take (40 * k) now ≡ front
    = ap (take (40 * k)) same ∙ ap (λ (n : ℕ). take n (front ++ drop (40 * k) old)) (sym ahead) ∙ take-append_seam front (drop (40 * k) old) in
    let after : drop (40 * k + length (new_bytes s)) now ≡ drop (40 * (k + 1)) old
    = ap (λ (n : ℕ). drop (40 * k + n) now) size ∙ ap (drop (40 * k + 40)) same
    ∙ ap (λ (n : ℕ). drop (n + 40) (front ++ drop (40 * k) old)) (sym ahead) ∙ drop-append-add front (drop (40 * k) old) 40
    ∙ drop-drop 40 (40 * k) old ∙ ap (λ (n : ℕ). drop n old) (sym next) in
    let longer : flat_map new_bytes (take (k + 1) ss) ≡ front ++ new_bytes s
    = ap (flat_map new_bytes) (take_more ss k d low) ∙ flat_map-append new_bytes (take k ss) (s ∷ []) ∙ ap (λ (xs : List ℕ). front ++ xs) (append-nil (new_bytes s)) in
    put_mid_is (40 * k) 40 now (new_bytes s) size (omega arith) ∙ with_part_is (40 * k) (new_bytes s) now (omega arith)
    ∙ (λ i. before i ++ (new_bytes s ++ after i))
    ∙ sym (append_assoc front (new_bytes s) (drop (40 * (k + 1)) old))
    ∙ ap (λ (xs : List ℕ). xs ++ drop (40 * (k + 1)) old) (sym longer)

-- all entries are written
pub all_written : (ss : List NewSymbol) (k : ℕ) (old now : List ℕ) → length ss ≤ k → length old ≡ 40 * length ss
    → now ≡ flat_map new_bytes (take k ss) ++ drop (40 * k) old → now ≡ flat_map new_bytes ss
all_written ss k old now high long same =
    let past : length old ≤ 40 * k = omega arith in
    same ∙ (λ i. flat_map new_bytes (take_all k ss high i) ++ drop_all (40 * k) old past i) ∙ append-nil (flat_map new_bytes ss)

-- ---- read

known_cache : (t : NewTarget) → cache_to t ≤ 2
known_cache (Dataset header) = omega arith
known_cache (Group header tree heap) = omega arith
known_cache (Text offset) = omega arith

small_cache : (t : NewTarget) → cache_to t < 2 ^ 32
small_cache (Dataset header) = lit< tt
small_cache (Group header tree heap) = lit< tt
small_cache (Text offset) = lit< tt

pub entry_back : (s : NewSymbol) → IsSmall s → entry_of (new_bytes s) ≡ entry_from s
unfolding entry_of number_at
entry_back s small =
    let name : number_at (new_bytes s) 0 8 ≡ s.name
    = little_number-reads_back 8 s.name (word (header_to s.target) ++ (middle (cache_to s.target) ++ (zeros 4 ++ scratch_to s.target))) small.name in
    let header : number_at (new_bytes s) 8 8 ≡ header_to s.target
    = little_number-reads_back 8 (header_to s.target) (middle (cache_to s.target) ++ (zeros 4 ++ scratch_to s.target)) small.header in
    let cache : number_at (new_bytes s) 16 4 ≡ cache_to s.target
    = little_number-reads_back 4 (cache_to s.target) (zeros 4 ++ scratch_to s.target) (small_cache s.target) in
    λ i. record { name = name i; header = header i; cache = cache i; text = number_at (scratch_to s.target) 0 4 }

-- what is read where there is nothing
abbrev pub no_symbol : NewSymbol
no_symbol = record { name = 0; target = Dataset 0 }

pub all_small : (ss : List NewSymbol) (k : ℕ) → ((j : ℕ) → j < k → IsSmall (get_or ss j no_symbol)) → length ss ≤ k → AllByRecursion IsSmall ss
all_small ss k each high = recursion_from_All IsSmall ss (All-from_get_or IsSmall ss no_symbol (λ j low. each j (omega arith)))

entry_part : (ss : List NewSymbol) (rest : List ℕ) (k : ℕ) → k < length ss → part (40 * k) 40 (flat_map new_bytes ss ++ rest) ≡ new_bytes (get_or ss k no_symbol)
entry_part [] rest k low = absurd (omega arith)
entry_part (s ∷ ss) rest zero low =
    let joined : (new_bytes s ++ flat_map new_bytes ss) ++ rest ≡ new_bytes s ++ (flat_map new_bytes ss ++ rest) = append_assoc (new_bytes s) (flat_map new_bytes ss) rest in
    let size : length (new_bytes s) ≡ 40 = long_entry s in
    ap (part 0 40) joined ∙ ap (λ (n : ℕ). part 0 n (new_bytes s ++ (flat_map new_bytes ss ++ rest))) (sym size)
    ∙ part-front (new_bytes s) (flat_map new_bytes ss ++ rest)
entry_part (s ∷ ss) rest (suc k) low =
    let joined : (new_bytes s ++ flat_map new_bytes ss) ++ rest ≡ new_bytes s ++ (flat_map new_bytes ss ++ rest) = append_assoc (new_bytes s) (flat_map new_bytes ss) rest in
    let size : length (new_bytes s) ≡ 40 = long_entry s in
    let next : 40 * suc k ≡ length (new_bytes s) + 40 * k = omega arith in
    ap (part (40 * suc k) 40) joined ∙ ap (λ (n : ℕ). part n 40 (new_bytes s ++ (flat_map new_bytes ss ++ rest))) next
    ∙ part-behind (new_bytes s) (flat_map new_bytes ss ++ rest) (40 * k) 40 ∙ entry_part ss rest k (omega arith)

module _ (ss : List NewSymbol) (n : ℕ) (counted : length ss < 2 ^ 16) (bytes : List ℕ) (is : bytes ≡ symbol_node_bytes ss n) where
  abbrev behind : List ℕ
  behind = flat_map new_bytes ss ++ zeros (n - length (symbol_signature ++ (1 ∷ 0 ∷ (short (length ss) ++ flat_map new_bytes ss))))

  count_back : symbols_in bytes ≡ length ss
  unfolding number_at
  count_back = ap (λ (bs : List ℕ). number_at bs 6 2) is ∙ little_number-reads_back 2 (length ss) behind counted

  pub form_back : (leaf : ℕ) → length ss ≤ 2 * leaf → IsSymbolNode leaf bytes
  unfolding part
  form_back leaf room = let count = count_back in record {
    signed = ap (part 0 4) is;
    version = ap (λ (bs : List ℕ). byte_at bs 4) is;
    roomy = omega arith;
  }

  module _ (small : AllByRecursion IsSmall ss) where
    each_back : (k : ℕ) → k < length ss → entry_in bytes k ≡ entry_from (get_or ss k no_symbol)
    each_back k low =
        let s : NewSymbol = get_or ss k no_symbol in
        let fits : IsSmall s = All-get_or IsSmall ss k no_symbol low (All-from_recursion IsSmall ss small) in
        ap (λ (bs : List ℕ). entry_of (part (8 + 40 * k) 40 bs)) is
        ∙ ap entry_of (part-behind (symbol_signature ++ (1 ∷ 0 ∷ short (length ss))) behind (40 * k) 40 ∙ entry_part ss _ k low)
        ∙ entry_back s fits

    pub known_back : AllByRecursion IsEntry (entries_of bytes)
    known_back = all_known bytes (λ k low.
        let count = count_back in
        let inside : k < length ss = omega arith in
        omega (arith, ap (λ (e : Entry). e.cache) (each_back k inside), known_cache (get_or ss k no_symbol).target))

    pub entries_back : entries_of bytes ≡ map entry_from ss
    entries_back =
        let count = count_back in
        let long : length (map entry_from ss) ≡ symbols_in bytes = omega (arith, length-map ss entry_from) in
        sym (fill_by_all (entry_in bytes) (map entry_from ss) (symbols_in bytes) (entry_from no_symbol) long (λ k low.
        let inside : k < length ss = omega arith in
        get_or-map entry_from ss k no_symbol (entry_from no_symbol) inside ∙ sym (each_back k inside)))
