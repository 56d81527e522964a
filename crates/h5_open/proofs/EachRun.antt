-- Values that are written a run at a time are written into all cells of the runs.
use Rattle.std.proofs.Common.{◌≡◌, ℕ, ◌+◌, ◌-◌, ◌<◌, ◌≤◌, List, [], ◌∷◌, ◌++◌, length, take, drop, true, length-append, append_assoc, refl, sym, ap, ◌∙◌, subst, arith}
use Rattle.std.specs.Prelude.{ℤ}
use Rattle.std.specs.List.{AllByRecursion, list_all, range_with_len}
use Rattle.std.proofs.lemmas.List.{append-nil, length-take-le, nil_from_length, take-append-drop}
use Rattle.std.proofs.lemmas.List.FromFn.{length-range_with_len}
use Rattle.h5_laws.proofs.Lists.{In, contains_in, in_all, in_left, in_range, in_right}
use Rattle.h5_layout.proofs.StandingWritten.{parts_of_type}
use Rattle.h5_model.specs.Format.Fixed.{fits}
use Rattle.h5_model.specs.Tree.Objects.{Dataset}
use Rattle.h5_model.specs.Tree.Places.{cells}
use Rattle.h5_shape.specs.Runs.{places_in}
use Rattle.h5_shape.specs.declared.runs.CellRun.{CellRun}
use Rattle.h5_open.specs.Opened.Sound.{IsSound}
use Rattle.h5_open.specs.Opened.State.{FileState}
use Rattle.h5_open.specs.Written.{AreCellsWritten, AreRunsStored, AreWrittenAt, IsStoredRun, with_places}
use Rattle.h5_open.proofs.RunsWritten.{array_then, both_written, none_written}

module _ (old : FileState) (number : ℕ) (all : List CellRun) (values : List ℤ) (d : Dataset) (are : AreRunsStored old number all values d) where
  -- the first of the values were written, and these are left, for these runs
  pub record AreFirstWritten (left : List CellRun) (rest : List ℤ) (now : FileState) : Type 0 where
    pub places : List ℕ
    pub first : List ℤ
    pub split : places_in all ≡ places ++ places_in left
    pub whole : values ≡ first ++ rest
    pub same : length places ≡ length first
    pub some : AllByRecursion (λ (r : CellRun). 0 < r.length) left
    pub written : AreWrittenAt old number places first now

  pub none_first : IsSound old → (left : List CellRun) → all ≡ left → (rest : List ℤ) → rest ≡ values → AreFirstWritten left rest old
  none_first sound left is rest same = record {
    places = [];
    first = [];
    split = ap places_in is;
    whole = sym same;
    same = refl;
    some = subst (AllByRecursion (λ (r : CellRun). 0 < r.length)) is are.some;
    written = none_written old number sound;
  }

  module _ (left others : List CellRun) (r : CellRun) (rest : List ℤ) (now : FileState) (so : AreFirstWritten left rest now) (next : left ≡ r ∷ others) where
    abbrev own : List ℕ
    own = range_with_len r.place r.length

    split_here : places_in all ≡ so.places ++ (own ++ places_in others)
    split_here = so.split ∙ ap (λ (rs : List CellRun). so.places ++ places_in rs) next

    some_here : AllByRecursion (λ (x : CellRun). 0 < x.length) (r ∷ others)
    some_here = subst (AllByRecursion (λ (x : CellRun). 0 < x.length)) next so.some

    -- there is a value for each of its cells
    pub room : r.length ≤ length rest
    room =
        let long = length-range_with_len r.place r.length in
        let cells_are = ap length split_here ∙ length-append so.places (own ++ places_in others) in
        let more = length-append own (places_in others) in
        let values_are = ap length so.whole ∙ length-append so.first rest in
        omega (arith, long, cells_are, more, values_are, are.counted, so.same)

    in_runs : (k : ℕ) → k < r.length → In (r.place + k) (places_in all)
    in_runs k low =
        subst (In (r.place + k)) (sym split_here)
        (in_right (r.place + k) so.places (own ++ places_in others) (in_left (r.place + k) own (places_in others) (in_range r.place r.length k low)))

    inside : r.place + r.length ≤ cells d.sizes
    inside =
        let some = some_here.0 in
        let last = in_all (λ place. place < cells d.sizes) (r.place + (r.length - 1)) (places_in all) are.inside (in_runs (r.length - 1) (omega (arith, some))) in
        omega (arith, last, some)

    module _ (part : List ℤ) (is : part ≡ take r.length rest) where
      part_long : length part ≡ r.length
      part_long = ap length is ∙ length-take-le r.length rest room

      of_type : list_all (fits d.fixed) part ≡ true
      of_type =
          let behind = (parts_of_type d.fixed so.first rest (ap (list_all (fits d.fixed)) (sym so.whole) ∙ are.of_type)).1 in
          ap (list_all (fits d.fixed)) is
          ∙ (parts_of_type d.fixed (take r.length rest) (drop r.length rest) (ap (list_all (fits d.fixed)) (take-append-drop r.length rest) ∙ behind)).0

      -- and its cells can be written
      pub run_stored : IsStoredRun now number r.place part (with_places so.places so.first d)
      run_stored = record {
        array = array_then old now number so.places so.first so.same so.written d are.array;
        stored = λ k low. so.written.stored (r.place + k) (are.stored (r.place + k) (contains_in (r.place + k) (places_in all) (in_runs k (omega (arith, low, part_long)))));
        room = omega (arith, inside, part_long);
        of_type = of_type;
      }

      -- once they are, one run less is left
      pub one_more : IsSound old → (after : FileState) → AreCellsWritten now number r.place part after → (behind : List ℤ) → behind ≡ drop r.length rest
          → AreFirstWritten others behind after
      one_more sound after wrote behind back = record {
        places = so.places ++ own;
        first = so.first ++ part;
        split = split_here ∙ sym (append_assoc so.places own (places_in others));
        whole = so.whole
            ∙ ap (λ (vs : List ℤ). so.first ++ vs) (sym (take-append-drop r.length rest) ∙ (λ i. sym is i ++ sym back i))
            ∙ sym (append_assoc so.first part behind);
        same =
            let long = length-range_with_len r.place r.length in
            let places_long = length-append so.places own in
            let first_long = length-append so.first part in
            omega (arith, long, places_long, first_long, part_long, so.same);
        some = some_here.1;
        written = both_written old now number so.places so.first so.same so.written sound own part after
            (subst (λ (n : ℕ). AreWrittenAt now number (range_with_len r.place n) part after) part_long wrote);
      }

  -- where none is left, all are written
  pub all_written : (left : List CellRun) (rest : List ℤ) (now : FileState) → AreFirstWritten left rest now → left ≡ [] → AreWrittenAt old number (places_in all) values now
  all_written left rest now so none =
      let places_are : places_in all ≡ so.places = so.split ∙ ap (λ (rs : List CellRun). so.places ++ places_in rs) none ∙ append-nil so.places in
      let values_long = ap length so.whole ∙ length-append so.first rest in
      let places_long = ap length places_are in
      let values_are : values ≡ so.first =
      so.whole ∙ ap (λ (vs : List ℤ). so.first ++ vs) (nil_from_length rest (omega (arith, values_long, places_long, are.counted, so.same))) ∙ append-nil so.first in
      subst (λ (vs : List ℤ). AreWrittenAt old number (places_in all) vs now) (sym values_are)
      (subst (λ (ps : List ℕ). AreWrittenAt old number ps so.first now) (sym places_are) so.written)
