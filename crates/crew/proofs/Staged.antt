-- What workers in stages leave of their pieces.
use Rattle.std.proofs.Common.{◌≡◌, inl, inr, ℕ, ◌+◌, ◌-◌, ◌^◌, ◌<◌, ◌≤◌, ◌∙◌, ◌++◌, List, [], ◌∷◌, ℤ, Vec, map, length, set, get_or, sym, ap, refl, subst, arith, get_or-set_same, get_or-set_other}
use Rattle.std.specs.Global.{Global}
use Rattle.std.specs.Prelude.{Contains, slice_index}
use Rattle.std.proofs.lemmas.Bool.{cases_lt}
use Rattle.std.proofs.lemmas.Simd.{map-map}
use Rattle.std.proofs.lemmas.List.{get_or_append_left, get_or-append_right, get_or_push, length-append}
use Rattle.board.specs.Layout.{Layout, pieces_of, value_at}
use Rattle.board.specs.Seen.{beside, seen_bits, NoneShown, Seen, StaysShown}
use Rattle.board.specs.Sheets.{bits_at, IsPut}
use Rattle.board.specs.Words.{bits_of}
use Rattle.board.proofs.InParts.{put_beside, put_shown, shown_in_back, shown_in_front, shown_still}
use Rattle.checked_plan.specs.declared.checked.Checked.{Checked}
use Rattle.crew.specs.Private.{needs_of}
use Rattle.crew.specs.Stages.{AreFresh, AreFreshFrom, ArePut, CanCompute, CanWork, HasWorked, IsDesk, IsDone, IsFresh, IsLeft, IsStage}
use Rattle.crew.specs.declared.values.Desk.{Desk}
use Rattle.interpreter.specs.declared.scratch.Scratch.{Scratch}
use Rattle.orders.proofs.Claiming.{place_of}

-- where each number of a list comes before another, all that it has do
pub all_before : (xs : List ℕ) (first : ℕ) → ((k : ℕ) → k < length xs → slice_index xs k < first) → (m : ℕ) → Contains xs m → m < first
all_before xs first each m there = let p = place_of xs m there in subst (λ (n : ℕ). n < first) p.2 (each p.0 p.1)

-- a stage with one piece more
pub one_longer : (x : Checked) (from to : ℕ) → IsStage x from to → ((m : ℕ) → Contains (needs_of x to) m → m < from) → IsStage x from (to + 1)
one_longer x from to before here j le lt = elim (cases_lt j to) [
  | inl earlier ↦ before j le earlier
  | inr past ↦ let same : to ≡ j = omega (arith, lt, past) in subst (λ (n : ℕ). (m : ℕ) → Contains (needs_of x n) m → m < from) same here
]

-- one more, all of whose needs come before the stage
pub stage_on : (x : Checked) (from to : ℕ) (xs : List ℕ) → IsStage x from to → xs ≡ needs_of x to → ((k : ℕ) → k < length xs → slice_index xs k < from) → IsStage x from (to + 1)
stage_on x from to xs stage is each = one_longer x from to stage (λ m there. all_before xs from each m (subst (λ (ys : List ℕ). Contains ys m) (sym is) there))

-- a stage up to a number that is no less
pub stage_within : (x : Checked) (from to most : ℕ) → most ≤ to → IsStage x from to → IsStage x from most
stage_within x from to most le stage j past lt = stage j past (omega (arith, lt, le))

-- ---- lists, by place

module _ {X : Type 0} where
  -- a list with one more
  pub pushed : (P : ℕ → X → Type 0) (xs ys : List X) (x : X) → ys ≡ xs ++ x ∷ []
      → ((i : ℕ) (d : X) → i < length xs → P i (get_or xs i d)) → P (length xs) x → (i : ℕ) (d : X) → i < length ys → P i (get_or ys i d)
  pushed P xs ys x is before here = subst (λ (zs : List X). (i : ℕ) (d : X) → i < length zs → P i (get_or zs i d)) (sym is) (λ i d lt. elim (cases_lt i (length xs)) [
    | inl less ↦ subst (P i) (sym (get_or_append_left xs (x ∷ []) d i less)) (before i d less)
    | inr past ↦
        let long = length-append xs (x ∷ []) in
        let same : length xs ≡ i = omega (arith, long, lt, past) in
        subst (P i) (sym (get_or_push xs x d i same)) (subst (λ (n : ℕ). P n x) same here)
  ])

  -- one more place is changed, and has what is wanted
  pub one_done : (Q : ℕ → X → Type 0) (xs : List X) (i : ℕ) (v : X) → i < length xs → ((m : ℕ) (d : X) → m < i → Q m (get_or xs m d))
      → Q i v → (m : ℕ) (d : X) → m < i + 1 → Q m (get_or (set xs i v) m d)
  one_done Q xs i v inside before here m d lt = elim (cases_lt m i) [
    | inl less ↦ subst (Q m) (sym (get_or-set_other xs i m v d (λ e. omega (arith, e, less)))) (before m d less)
    | inr past ↦
        let same : i ≡ m = omega (arith, lt, past) in
        subst (λ (n : ℕ). Q n (get_or (set xs i v) n d)) same (subst (Q i) (sym (get_or-set_same xs i v d inside)) here)
  ]

  -- the places behind it are as they were
  pub rest_left : (P : ℕ → X → Type 0) (xs : List X) (i : ℕ) (v : X) → ((m : ℕ) (d : X) → i ≤ m → m < length xs → P m (get_or xs m d))
      → (m : ℕ) (d : X) → i + 1 ≤ m → m < length xs → P m (get_or (set xs i v) m d)
  rest_left P xs i v after m d le lt = subst (P m) (sym (get_or-set_other xs i m v d (λ e. omega (arith, e, le)))) (after m d (omega (arith, le)) lt)

  -- each of the first of two lists, and each of the second, is each of both
  pub front_each : (P : ℕ → X → Type 0) (all xs ys : List X) → all ≡ xs ++ ys → ((i : ℕ) (d : X) → i < length all → P i (get_or all i d)) → (i : ℕ) (d : X) → i < length xs → P i (get_or xs i d)
  front_each P all xs ys is each i d lt =
      let long = length-append xs ys in
      let whole = ap length is in
      subst (P i) (ap (λ (zs : List X). get_or zs i d) is ∙ get_or_append_left xs ys d i lt) (each i d (omega (arith, long, whole, lt)))

  pub back_each : (P : ℕ → X → Type 0) (all xs ys : List X) → all ≡ xs ++ ys → ((i : ℕ) (d : X) → i < length all → P i (get_or all i d)) → (i : ℕ) (d : X) → i < length ys → P (length xs + i) (get_or ys i d)
  back_each P all xs ys is each i d lt =
      let long = length-append xs ys in
      let whole = ap length is in
      let n : ℕ = length xs + i in
      let back : n - length xs ≡ i = omega arith in
      subst (P n) (ap (λ (zs : List X). get_or zs n d) is ∙ get_or-append_right xs ys (length xs) n d refl (omega arith) ∙ ap (λ (m : ℕ). get_or ys m d) back) (each n d (omega (arith, long, whole, lt)))

  pub both_each : (P : ℕ → X → Type 0) (xs ys : List X) → ((i : ℕ) (d : X) → i < length xs → P i (get_or xs i d)) → ((i : ℕ) (d : X) → i < length ys → P (length xs + i) (get_or ys i d))
      → (i : ℕ) (d : X) → i < length (xs ++ ys) → P i (get_or (xs ++ ys) i d)
  both_each P xs ys front back i d lt = elim (cases_lt i (length xs)) [
    | inl less ↦ subst (P i) (sym (get_or_append_left xs ys d i less)) (front i d less)
    | inr past ↦
        let long = length-append xs ys in
        let k : ℕ = i - length xs in
        let is : length xs + k ≡ i = omega (arith, past) in
        subst (P i) (sym (get_or-append_right xs ys (length xs) i d refl past)) (subst (λ (n : ℕ). P n (get_or ys k d)) is (back k d (omega (arith, lt, long, past))))
  ]

module _ (layout : Layout) where
  -- lists that are not computed, in two
  pub fresh_front : (first : ℕ) (all xs ys : List (Vec ℕ Global)) → all ≡ xs ++ ys → AreFresh layout first all → AreFresh layout first xs
  fresh_front first all xs ys is fresh = front_each (λ i v. IsFresh layout (first + i) v) all xs ys is fresh

  pub fresh_back : (first : ℕ) (all xs ys : List (Vec ℕ Global)) → all ≡ xs ++ ys → AreFresh layout first all → AreFresh layout (first + length xs) ys
  fresh_back first all xs ys is fresh i d lt =
      let same : first + (length xs + i) ≡ first + length xs + i = omega arith in
      subst (λ (n : ℕ). IsFresh layout n (get_or ys i d)) same (back_each (λ k v. IsFresh layout (first + k) v) all xs ys is fresh i d lt)

  -- lists of all pieces that are not computed
  pub fresh_from : (lists : List (Vec ℕ Global)) → AreFresh layout 0 lists → AreFreshFrom layout 0 lists
  fresh_from lists fresh j d le lt = let same : 0 + j ≡ j = omega arith in subst (λ (n : ℕ). IsFresh layout n (get_or lists j d)) same (fresh j d lt)

  -- those of a stage
  pub stage_fresh : (from : ℕ) (all a later s c : List (Vec ℕ Global)) → all ≡ a ++ later → later ≡ s ++ c → length a ≡ from → AreFreshFrom layout from all → AreFresh layout from s
  stage_fresh from all a later s c is here at fresh i d lt =
      let long = ap length here ∙ length-append s c in
      let whole = ap length is ∙ length-append a later in
      let n : ℕ = from + i in
      let back : n - length a ≡ i = omega (arith, at) in
      subst (IsFresh layout n) (ap (λ (zs : List (Vec ℕ Global)). get_or zs n d) is ∙ get_or-append_right a later (length a) n d refl (omega (arith, at)) ∙ ap (λ (m : ℕ). get_or later m d) back
      ∙ ap (λ (zs : List (Vec ℕ Global)). get_or zs i d) here ∙ get_or_append_left s c d i lt) (fresh n d (omega arith) (omega (arith, long, whole, at, lt)))

  -- those behind it, whatever stands in its own
  pub rest_fresh : (from to : ℕ) (all a later s t c : List (Vec ℕ Global)) → all ≡ a ++ later → later ≡ s ++ c → length a ≡ from → length s ≡ to - from → from ≤ to → length t ≡ length s
      → AreFreshFrom layout from all → AreFreshFrom layout to (a ++ (t ++ c))
  rest_fresh from to all a later s t c is here at size le same fresh j d past lt =
      let whole = ap length is ∙ length-append a later in
      let long = ap length here ∙ length-append s c in
      let changed = length-append a (t ++ c) in
      let rest = length-append t c in
      let n : ℕ = j - length a in
      let old : get_or all j d ≡ get_or c (n - length s) d =
      ap (λ (zs : List (Vec ℕ Global)). get_or zs j d) is ∙ get_or-append_right a later (length a) j d refl (omega (arith, at, past, le))
      ∙ ap (λ (zs : List (Vec ℕ Global)). get_or zs n d) here ∙ get_or-append_right s c (length s) n d refl (omega (arith, at, size, past, le)) in
      let new : get_or (a ++ (t ++ c)) j d ≡ get_or c (n - length t) d =
      get_or-append_right a (t ++ c) (length a) j d refl (omega (arith, at, past, le)) ∙ get_or-append_right t c (length t) n d refl (omega (arith, at, size, past, le, same)) in
      let place : n - length s ≡ n - length t = omega (arith, same) in
      subst (IsFresh layout j) (old ∙ ap (λ (m : ℕ). get_or c m d) place ∙ sym new) (fresh j d (omega (arith, past, le)) (omega (arith, whole, long, changed, rest, same, lt)))

module _ (layout : Layout) (values : List ℤ) where
  -- the bits of the values of these cells
  pub bits_kept : (cells kept : List ℕ) (given : List ℤ) → given ≡ map (value_at values) cells → kept ≡ map bits_of given → kept ≡ bits_at values cells
  bits_kept cells kept given is has = has ∙ ap (map bits_of) is ∙ map-map bits_of (value_at values) cells

  -- the pieces of a stage need pieces that are put
  pub stage_can : (x : Checked) (bits : List ℕ) (first count : ℕ) → first + count ≤ pieces_of layout → IsStage x first (first + count) → ArePut layout values bits first → CanCompute layout values x bits first count
  stage_can x bits first count most stage put j past lt m there = let before = stage j past lt m there in (omega (arith, before, past, lt, most), put m before)

  -- what is computed stays so where more samples are set
  pub done_still : (s : Seen) (from : ℕ) (old new : List ℕ) (j : ℕ) (list : Vec ℕ Global) → StaysShown s.planes (length s.bits) values from old new → IsDone layout values s from old j list → IsDone layout values s from new j list
  done_still s from old new j list stays done = elim done [
    | inl kept ↦ inl kept
    | inr shown ↦ inr (shown.0, shown_still layout values s from old new j stays shown.1)
  ]

  pub done_in_front : (s : Seen) (from : ℕ) (p q : List ℕ) (j : ℕ) (list : Vec ℕ Global) → IsDone layout values s from p j list → IsDone layout values s from (p ++ q) j list
  done_in_front s from p q j list done = elim done [
    | inl kept ↦ inl kept
    | inr shown ↦ inr (shown.0, shown_in_front layout values s from p q j shown.1)
  ]

  pub done_in_back : (s : Seen) (from : ℕ) (p q : List ℕ) (j : ℕ) (list : Vec ℕ Global) → IsDone layout values s (from + length p) q j list → IsDone layout values s from (p ++ q) j list
  done_in_back s from p q j list done = elim done [
    | inl kept ↦ inl kept
    | inr shown ↦ inr (shown.0, shown_in_back layout values s from p q j shown.1)
  ]

  -- no piece is shown in a part without samples
  pub done_of_none : (s : Seen) (from : ℕ) (p q : List ℕ) (j : ℕ) (list : Vec ℕ Global) → length p ≡ 0 → IsDone layout values s from p j list → IsDone layout values s from q j list
  done_of_none s from p q j list none done = elim done [
    | inl kept ↦ inl kept
    | inr shown ↦ inr (shown.0, λ c there. let lies = (shown.1 c there).there in let behind = lies.behind in let within = lies.within in absurd (omega (arith, behind, within, none)))
  ]

  -- once its samples are all samples, a piece is left to be put or is put
  pub left_there : (s : Seen) (samples : List ℕ) (j : ℕ) (list : Vec ℕ Global) → IsDone layout values s 0 samples j list → IsLeft layout values (seen_bits (beside s samples)) j list.items
  left_there s samples j list done = elim done [
    | inl kept ↦ inl kept
    | inr shown ↦ inr (shown.0, put_shown layout values s samples j shown.1)
  ]

  -- what is left stays so where more is put
  pub left_still : (old new : List ℕ) (j : ℕ) (list : List ℕ) → ((m : ℕ) → IsPut layout values old m → IsPut layout values new m) → IsLeft layout values old j list → IsLeft layout values new j list
  left_still old new j list more left = elim left [
    | inl kept ↦ inl kept
    | inr put ↦ inr (put.0, more j put.1)
  ]

  -- pieces that are put are put beside other samples, where none of their cells is one
  pub put_besides : (s : Seen) (old new : List ℕ) (first : ℕ) → NoneShown layout s first → ArePut layout values (seen_bits (beside s old)) first → ArePut layout values (seen_bits (beside s new)) first
  put_besides s old new first none put j lt = put_beside layout values s old new first j none lt (put j lt)

module _ {D : Type 0} (desk : D → Desk) (layout : Layout) (values : List ℤ) (x : Checked) (suffices : Scratch → Type 0) where
  -- the workers of two halves
  pub can_front : (bits : List ℕ) (first from : ℕ) (desks d e : List D) (lists l m : List (Vec ℕ Global)) (part p q : List ℕ) → desks ≡ d ++ e → lists ≡ l ++ m → part ≡ p ++ q → 0 < length d
      → CanWork desk layout values x suffices bits first from desks lists part → CanWork desk layout values x suffices bits first from d l p
  can_front bits first from desks d e lists l m part p q are_desks are_lists are_part some can =
      let all_desks = ap length are_desks ∙ length-append d e in
      let all_lists = ap length are_lists ∙ length-append l m in
      let all_part = ap length are_part ∙ length-append p q in
      let few = can.few in
      let inside = can.inside in
      let short = can.short in
      record {
        some = some;
        few = omega (arith, all_desks, few);
        inside = omega (arith, all_lists, inside);
        short = omega (arith, all_part, short);
        can = λ j past lt. can.can j past (omega (arith, lt, all_lists));
        each_desk = front_each (λ _ y. IsDesk layout x suffices (desk y)) desks d e are_desks can.each_desk;
        each_list = fresh_front layout first lists l m are_lists can.each_list;
      }

  pub can_back : (bits : List ℕ) (first from : ℕ) (desks d e : List D) (lists l m : List (Vec ℕ Global)) (part p q : List ℕ) → desks ≡ d ++ e → lists ≡ l ++ m → part ≡ p ++ q → 0 < length e
      → CanWork desk layout values x suffices bits first from desks lists part → CanWork desk layout values x suffices bits (first + length l) (from + length p) e m q
  can_back bits first from desks d e lists l m part p q are_desks are_lists are_part some can =
      let all_desks = ap length are_desks ∙ length-append d e in
      let all_lists = ap length are_lists ∙ length-append l m in
      let all_part = ap length are_part ∙ length-append p q in
      let few = can.few in
      let inside = can.inside in
      let short = can.short in
      record {
        some = some;
        few = omega (arith, all_desks, few);
        inside = omega (arith, all_lists, inside);
        short = omega (arith, all_part, short);
        can = λ j past lt. can.can j (omega (arith, past)) (omega (arith, lt, all_lists));
        each_desk = back_each (λ _ y. IsDesk layout x suffices (desk y)) desks d e are_desks can.each_desk;
        each_list = fresh_back layout first lists l m are_lists can.each_list;
      }

  -- the workers of a stage
  pub can_all : (bits : List ℕ) (first : ℕ) (desks : List D) (lists : List (Vec ℕ Global)) (part : List ℕ) → 0 < length desks → length desks ≤ 64 → ((w : ℕ) (d : D) → w < length desks → IsDesk layout x suffices (desk (get_or desks w d))) → AreFresh layout first lists
      → IsStage x first (first + length lists) → first + length lists ≤ pieces_of layout → length part < 2 ^ 32 → ArePut layout values bits first → CanWork desk layout values x suffices bits first 0 desks lists part
  can_all bits first desks lists part some few are_desks are_lists stage inside short put = record {
    some = some;
    few = few;
    inside = inside;
    short = omega (arith, short);
    can = stage_can layout values x bits first (length lists) inside stage put;
    each_desk = are_desks;
    each_list = are_lists;
  }

  pub worked_both : (s : Seen) (first from : ℕ) (d e : List D) (l m : List (Vec ℕ Global)) (p q : List ℕ) → HasWorked desk layout values x suffices s first from d l p
      → HasWorked desk layout values x suffices s (first + length l) (from + length p) e m q → HasWorked desk layout values x suffices s first from (d ++ e) (l ++ m) (p ++ q)
  worked_both s first from d e l m p q front back = record {
    each_desk = both_each (λ _ y. IsDesk layout x suffices (desk y)) d e front.each_desk back.each_desk;
    each_list = both_each (λ i v. IsDone layout values s from (p ++ q) (first + i) v) l m
        (λ i y lt. done_in_front layout values s from p q (first + i) (get_or l i y) (front.each_list i y lt))
        (λ i y lt.
        let same : first + length l + i ≡ first + (length l + i) = omega arith in
        done_in_back layout values s from p q (first + (length l + i)) (get_or m i y) (subst (λ (n : ℕ). IsDone layout values s (from + length p) q n (get_or m i y)) same (back.each_list i y lt)));
  }

  -- the same by what numbers they go
  pub can_behind : (bits : List ℕ) (first from later cut : ℕ) (desks d e : List D) (lists l m : List (Vec ℕ Global)) (part p q : List ℕ) → desks ≡ d ++ e → lists ≡ l ++ m → part ≡ p ++ q → 0 < length e
      → later ≡ first + length l → cut ≡ from + length p
      → CanWork desk layout values x suffices bits first from desks lists part → CanWork desk layout values x suffices bits later cut e m q
  can_behind bits first from later cut desks d e lists l m part p q are_desks are_lists are_part some at_list at_sample can =
      subst (λ (n : ℕ). CanWork desk layout values x suffices bits n cut e m q) (sym at_list)
      (subst (λ (n : ℕ). CanWork desk layout values x suffices bits (first + length l) n e m q) (sym at_sample)
      (can_back bits first from desks d e lists l m part p q are_desks are_lists are_part some can))

  pub worked_together : (s : Seen) (first from later cut : ℕ) (d e : List D) (l m : List (Vec ℕ Global)) (p q : List ℕ) → later ≡ first + length l → cut ≡ from + length p
      → HasWorked desk layout values x suffices s first from d l p → HasWorked desk layout values x suffices s later cut e m q → HasWorked desk layout values x suffices s first from (d ++ e) (l ++ m) (p ++ q)
  worked_together s first from later cut d e l m p q at_list at_sample front back =
      worked_both s first from d e l m p q front
      (subst (λ (n : ℕ). HasWorked desk layout values x suffices s n (from + length p) e m q) at_list (subst (λ (n : ℕ). HasWorked desk layout values x suffices s later n e m q) at_sample back))
