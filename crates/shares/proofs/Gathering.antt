-- Need lines that are gathered by what they name.
use Rattle.std.proofs.Common.{◌≡◌, ℕ, zero, suc, ◌+◌, ◌<◌, List, [], ◌∷◌, ◌++◌, length, map, Bool, true, false, arith, ap, refl, sym, ◌∙◌, subst, inl, inr, append_assoc, get_or, Option, Some, Bor}
use Rattle.std.specs.Prelude.{ℤ, pos, ◌+ℤ◌, ◌-ℤ◌, fold, flat_map, All, IsTrue, ◌↔◌, ◌⊎◌, Contains, MatchOption, slice_get, ◌==◌, if◌then◌else◌}
use Rattle.std.specs.Int.{int_max, int_min}
use Rattle.std.specs.List.{AllByRecursion, list_all}
use Rattle.std.specs.List.Sorted.{IsStrictlyIncreasing}
use Rattle.std.proofs.lemmas.List.{append-nil}
use Rattle.std.proofs.lemmas.List.Elements.{recursion_from_All, All-from_recursion, Contains-append_left, Contains-append_right, Contains-append_cases}
use Rattle.lin.specs.Forms.{Form, sum_of}
use Rattle.lin.specs.Search.{is_empty}
use Rattle.lin.specs.declared.form.Multiple.{Multiple}
use Rattle.lin.specs.declared.span.Span1.{Span1}
use Rattle.plan.specs.Plan.{Plan}
use Rattle.plan.specs.Symbols.{Symbols, clipped, form_value, largest, points, rising, smallest, turns}
use Rattle.plan.specs.declared.certificate.cert.Need.{Need}
use Rattle.plan.specs.Certificate.Cells.{Piece, first_piece, grid_symbols}
use Rattle.soundness.specs.Claims.{In}
use Rattle.soundness.proofs.Refines.{and_parts, eq_true}
use Rattle.soundness.proofs.Turns.{in_map}
use Rattle.plan.specs.View.{plan_of}
use Rattle.plan.specs.Certificate.Certificate.{Certificate, certificate_of}
use Rattle.headline.specs.Parts.{IsNeeded}
use Rattle.headline.specs.Numbers.{group_grid}
use Rattle.headline.specs.Work.{of_piece, needed_pieces}
use Rattle.headline.proofs.Members.{in_of, contains_of}
use Rattle.headline.proofs.Parts.{needs_one}
use Rattle.shares.specs.declared.gathered.GroupNeeds.{GroupNeeds}
use Rattle.shares.specs.declared.layout.Layout.{Layout}
use Rattle.shares.specs.declared.seats.Seat.{Seat}
use Rattle.shares.specs.Boxes.{grid_sides, is_in_box, rank}
use Rattle.shares.specs.Blocks.{AreThoseAt, HaveLinesOf, StandFor}
use Rattle.shares.specs.Counts.{with_lines}
use Rattle.shares.specs.Filed.{needs_in, AreLinesOf}
use Rattle.shares.specs.Has.{NeedsPieces}
use Rattle.shares.specs.Layout.{IsLayout, needs_list}
use Rattle.shares.specs.Seats.{piece_of}
use Rattle.shares.specs.Gathered.{AreGathered, EachIsGathered, IsGathered, is_free, is_fixed_span, is_fixed}
use Rattle.shares.specs.Needed.{need_grid, need_points, need_numbers, all_numbers, NeedIsInside, NeedsAreInside}
use Rattle.shares.specs.Outer.{LiesAt}
use Rattle.shares.specs.Repeated.{AreOuterOf}
use Rattle.shares.specs.Shared.{NeedIsShared}
use Rattle.shares.proofs.Groups.{get_some}
use Rattle.shares.proofs.Grouped.{numbers_grouped, inside_grouped}
use Rattle.shares.proofs.Needing.{needed_members, numbers_some}
use Rattle.shares.proofs.Repeating.{in_mapped, lies_there}
use Rattle.shares.proofs.Seated.{piece_is, group_listed}

-- ---- regions that have the same points everywhere

no_terms : (ts : List Multiple) → is_empty ts ≡ true → ts ≡ []
no_terms [] e = refl
no_terms (t ∷ ts) e = absurd (cc e)

module _ (s t : Symbols) where
  free_value : (f : Form) → is_free f ≡ true → form_value f s ≡ form_value f t
  free_value f e =
      let none = no_terms f.terms e in
      ap (λ (ts : List Multiple). f.constant +ℤ sum_of ts s.value) none ∙ sym (ap (λ (ts : List Multiple). f.constant +ℤ sum_of ts t.value) none)

  free_values : (fs : List Form) → list_all is_free fs ≡ true → map (λ f. form_value f s) fs ≡ map (λ f. form_value f t) fs
  free_values [] e = refl
  free_values (f ∷ fs) e = let both = and_parts (is_free f) (list_all is_free fs) e in λ i. free_value f both.0 i ∷ free_values fs both.1 i

  free_largest : (fs : List Form) → list_all is_free fs ≡ true → largest s fs ≡ largest t fs
  free_largest [] e = refl
  free_largest (f ∷ fs) e = let both = and_parts (is_free f) (list_all is_free fs) e in λ i. fold int_max (free_value f both.0 i) (free_values fs both.1 i)

  free_smallest : (fs : List Form) → list_all is_free fs ≡ true → smallest s fs ≡ smallest t fs
  free_smallest [] e = refl
  free_smallest (f ∷ fs) e = let both = and_parts (is_free f) (list_all is_free fs) e in λ i. fold int_min (free_value f both.0 i) (free_values fs both.1 i)

  fixed_turns : (x : Span1) → is_fixed_span x ≡ true → turns s x ≡ turns t x
  fixed_turns x e =
      let both = and_parts (list_all is_free x.lower) (list_all is_free x.upper) e in
      let low = free_largest x.lower both.0 in
      let high = free_smallest x.upper both.1 in
      λ i. rising (low i) (clipped ((high i +ℤ pos 1) -ℤ low i))

  pub fixed_points : (xs : List Span1) → is_fixed xs ≡ true → points s xs ≡ points t xs
  fixed_points [] e = refl
  fixed_points (x ∷ xs) e =
      let both = and_parts (is_fixed_span x) (is_fixed xs) e in
      λ i. flat_map (λ p. map (λ z. z ∷ p) (fixed_turns x both.0 i)) (fixed_points xs both.1 i)

-- ---- one line at two pieces of its group

module _ (p : Plan) (j k : Piece) (n : Need) (fixed : is_fixed n.region ≡ true) where
  same_points : need_points j n ≡ need_points k n
  same_points = fixed_points (grid_symbols j.at) (grid_symbols k.at) n.region fixed

  pub same_numbers : n.group ≡ j.group → n.group ≡ k.group → need_numbers p j n ≡ need_numbers p k n
  same_numbers here there = sym (numbers_some p j n here) ∙ ap (map (λ q. first_piece p.groups n.needed + rank (need_grid p n) q)) same_points ∙ numbers_some p k n there

  pub same_inside : n.group ≡ k.group → NeedIsInside p k n → NeedIsInside p j n
  same_inside there inside here = subst (λ (qs : List (List ℤ)). All (λ q. IsTrue (is_in_box (need_grid p n) q)) qs) (sym same_points) (inside there)

-- ---- lines one after another

module _ (p : Plan) (j : Piece) where
  numbers_push : (ns : List Need) (n : Need) → all_numbers p j (ns ++ n ∷ []) ≡ all_numbers p j ns ++ need_numbers p j n
  numbers_push [] n = append-nil (need_numbers p j n)
  numbers_push (m ∷ ns) n = ap (λ (rest : List ℕ). need_numbers p j m ++ rest) (numbers_push ns n) ∙ sym (append_assoc (need_numbers p j m) (all_numbers p j ns) (need_numbers p j n))

  module _ (i : ℕ) where
    push_to : (ns : List Need) (n : Need) → Contains (all_numbers p j ns) i ⊎ Contains (need_numbers p j n) i → Contains (all_numbers p j (ns ++ n ∷ [])) i
    push_to ns n h =
        let Has : List ℕ → Type 0 = λ xs. Contains xs i in
        subst Has (sym (numbers_push ns n)) (elim h [ inl a ↦ Contains-append_left (all_numbers p j ns) (need_numbers p j n) i a | inr b ↦ Contains-append_right (all_numbers p j ns) (need_numbers p j n) i b ])

    push_from : (ns : List Need) (n : Need) → Contains (all_numbers p j (ns ++ n ∷ [])) i → Contains (all_numbers p j ns) i ⊎ Contains (need_numbers p j n) i
    push_from ns n m =
        let Has : List ℕ → Type 0 = λ xs. Contains xs i in
        Contains-append_cases (all_numbers p j ns) (need_numbers p j n) i (subst Has (numbers_push ns n) m)

single : (x m : Need) (k : ℕ) → k < length (x ∷ []) → get_or (x ∷ []) k m ≡ m → x ≡ m
single x m zero less e = e
single x m (suc k) less e = absurd (omega (arith, less))

named_before : (p : Plan) (j : Piece) (i : ℕ) (ms : List Need) (m : Need) → Contains ms m → Contains (need_numbers p j m) i → Contains (all_numbers p j ms) i
named_before p j i [] m at has = let less : at.0 < 0 = at.1 in absurd (omega (arith, less))
named_before p j i (x ∷ ms) m at has = elim (Contains-append_cases (x ∷ []) ms m at) [
  | inl here ↦
      let Has : Need → Type 0 = λ y. Contains (need_numbers p j y) i in
      Contains-append_left (need_numbers p j x) (all_numbers p j ms) i (subst Has (sym (single x m here.0 here.1 here.2)) has)
  | inr later ↦ Contains-append_right (need_numbers p j x) (all_numbers p j ms) i (named_before p j i ms m later has)
]

each_push : (P : Need → Type 0) (ns : List Need) (n : Need) → AllByRecursion P ns → P n → AllByRecursion P (ns ++ n ∷ [])
each_push P [] n h k = (k, tt)
each_push P (m ∷ ns) n h k = (h.0, each_push P ns n h.1 k)

each_before : (P : Need → Type 0) (ns : List Need) (n : Need) → AllByRecursion P (ns ++ n ∷ []) → AllByRecursion P ns × P n
each_before P [] n h = (tt, h.0)
each_before P (m ∷ ns) n h = let rest = each_before P ns n h.1 in ((h.0, rest.0), rest.1)

all_push : (P : Need → Type 0) (ns : List Need) (n : Need) → All P ns → P n → All P (ns ++ n ∷ [])
all_push P ns n h k = All-from_recursion P (ns ++ n ∷ []) (each_push P ns n (recursion_from_All P ns h) k)

all_before : (P : Need → Type 0) (ns : List Need) (n : Need) → All P (ns ++ n ∷ []) → All P ns × P n
all_before P ns n h = let both = each_before P ns n (recursion_from_All P (ns ++ n ∷ []) h) in (All-from_recursion P ns both.0, both.1)

-- ---- gathering

pub nothing_gathered : (p : Plan) (g : ℕ) (numbers : List ℕ) (moving : List Need) → numbers ≡ [] → moving ≡ [] → AreGathered p g [] numbers moving
nothing_gathered p g numbers moving a b = subst (λ (ns : List ℕ). AreGathered p g [] ns moving) (sym a) (subst (AreGathered p g [] []) (sym b) (record {
  lines = λ k d less. absurd (omega (arith, less));
  named = λ j same i. ((λ h. elim h [ inl m ↦ m | inr m ↦ m ]), (λ m. inl m));
  inside = λ j same. ((λ h. h), (λ h. h));
}))

module _ (p : Plan) (g : ℕ) (ns : List Need) (numbers : List ℕ) (moving : List Need) (h : AreGathered p g ns numbers moving) where
  -- the same numbers in another order
  pub numbers_settled : (now : List ℕ) → ((i : ℕ) → Contains now i ↔ Contains numbers i) → AreGathered p g ns now moving
  numbers_settled now same = record {
    lines = h.lines;
    named = λ j of i. (
      (λ m. (h.named j of i).0 (elim m [ inl a ↦ inl a | inr b ↦ inr ((same i).0 b) ])),
      (λ m. elim ((h.named j of i).1 m) [ inl a ↦ inl a | inr b ↦ inr ((same i).1 b) ]),
    );
    inside = h.inside;
  }

  module _ (n : Need) (of_group : n.group ≡ g) where
    -- a line that is looked at for each piece
    pub line_kept : NeedIsShared p n → AreGathered p g (ns ++ n ∷ []) numbers (moving ++ n ∷ [])
    line_kept shared = record {
      lines = all_push (λ (m : Need). (m.group ≡ g) × NeedIsShared p m) moving n h.lines (of_group, shared);
      named = λ j of i. (
        (λ m. elim m [
          | inl a ↦ elim (push_from p j i moving n a) [ inl b ↦ push_to p j i ns n (inl ((h.named j of i).0 (inl b))) | inr b ↦ push_to p j i ns n (inr b) ]
          | inr a ↦ push_to p j i ns n (inl ((h.named j of i).0 (inr a)))
        ]),
        (λ m. elim (push_from p j i ns n m) [
          | inl a ↦ elim ((h.named j of i).1 a) [ inl b ↦ inl (push_to p j i moving n (inl b)) | inr b ↦ inr b ]
          | inr a ↦ inl (push_to p j i moving n (inr a))
        ]),
      );
      inside = λ j of. (
        (λ all. let both = all_before (NeedIsInside p j) moving n all in all_push (NeedIsInside p j) ns n ((h.inside j of).0 both.0) both.1),
        (λ all. let both = all_before (NeedIsInside p j) ns n all in all_push (NeedIsInside p j) moving n ((h.inside j of).1 both.0) both.1),
      );
    }

    -- a line that names the same pieces at all grid points
    pub line_named : (k : Piece) → k.group ≡ g → is_fixed n.region ≡ true → NeedIsInside p k n → AreGathered p g (ns ++ n ∷ []) (numbers ++ need_numbers p k n) moving
    line_named k at fixed inside = record {
      lines = h.lines;
      named = λ j of i.
          let Has : List ℕ → Type 0 = λ xs. Contains xs i in
          let same = same_numbers p j k n fixed (of_group ∙ sym of) (of_group ∙ sym at) in (
            (λ m. elim m [
              | inl a ↦ push_to p j i ns n (inl ((h.named j of i).0 (inl a)))
              | inr a ↦ elim (Contains-append_cases numbers (need_numbers p k n) i a) [ inl b ↦ push_to p j i ns n (inl ((h.named j of i).0 (inr b))) | inr b ↦ push_to p j i ns n (inr (subst Has (sym same) b)) ]
            ]),
            (λ m. elim (push_from p j i ns n m) [
              | inl a ↦ elim ((h.named j of i).1 a) [ inl b ↦ inl b | inr b ↦ inr (Contains-append_left numbers (need_numbers p k n) i b) ]
              | inr a ↦ inr (Contains-append_right numbers (need_numbers p k n) i (subst Has same a))
            ]),
          );
      inside = λ j of. (
        (λ all. all_push (NeedIsInside p j) ns n ((h.inside j of).0 all) (same_inside p j k n fixed (of_group ∙ sym at) inside)),
        (λ all. (h.inside j of).1 (all_before (NeedIsInside p j) ns n all).0),
      );
    }

-- ---- lines of which some that lie in others are left out

named_in : (p : Plan) (j : Piece) (i : ℕ) (all ms : List Need) → ((m : Need) → Contains ms m → Contains all m) → Contains (all_numbers p j ms) i → Contains (all_numbers p j all) i
named_in p j i all [] h has = let less : has.0 < 0 = has.1 in absurd (omega (arith, less))
named_in p j i all (x ∷ ms) h has = elim (Contains-append_cases (need_numbers p j x) (all_numbers p j ms) i has) [
  | inl a ↦ named_before p j i all x (h x (0, omega arith, refl)) a
  | inr b ↦ named_in p j i all ms (λ m at. h m (Contains-append_right (x ∷ []) ms m at)) b
]

each_among : (P : Need → Type 0) (all ms : List Need) → ((m : Need) → Contains ms m → Contains all m) → All P all → AllByRecursion P ms
each_among P all [] h every = tt
each_among P all (x ∷ ms) h every =
    let at = h x (0, omega arith, refl) in
    (subst P at.2 (every at.0 x at.1), each_among P all ms (λ m a. h m (Contains-append_right (x ∷ []) ms m a)) every)

all_among : (P : Need → Type 0) (all ms : List Need) → ((m : Need) → Contains ms m → Contains all m) → All P all → All P ms
all_among P all ms h every = All-from_recursion P ms (each_among P all ms h every)

holds_of : {A : Type 0} (P : A → Type 0) (xs : List A) (x : A) → All P xs → Contains xs x → P x
holds_of P xs x every at = subst P at.2 (every at.0 x at.1)

each_of : {A : Type 0} (P : A → Type 0) (xs : List A) → ((x : A) → In x xs → P x) → AllByRecursion P xs
each_of P [] h = tt
each_of P (x ∷ xs) h = (h x (inl refl), each_of P xs (λ y m. h y (inr m)))

all_of : {A : Type 0} (P : A → Type 0) (xs : List A) → ((x : A) → Contains xs x → P x) → All P xs
all_of P xs h = All-from_recursion P xs (each_of P xs (λ x m. h x (contains_of xs x m)))

module _ (p : Plan) (j : Piece) (n m : Need) (lies : LiesAt j.at n m) where
  abbrev numbers_at : Need → List ℕ
  numbers_at k = map (λ q. first_piece p.groups k.needed + rank (need_grid p k) q) (need_points j k)

  -- what a line names is named by one in which it lies
  lying_numbers : m.group ≡ j.group → (i : ℕ) → Contains (numbers_at n) i → Contains (need_numbers p j m) i
  lying_numbers of i has =
      let S = grid_symbols j.at in
      let number : ℕ → List ℤ → ℕ = λ h q. first_piece p.groups h + rank (grid_sides (group_grid (slice_get p.groups h))) q in
      let found = in_map (number n.needed) i (points S n.region) (in_of (map (number n.needed) (points S n.region)) i has) in
      let point : In found.0 (points S m.region) = in_of (points S m.region) found.0 (lies.within found.0 (contains_of (points S n.region) found.0 found.1)) in
      let there : In (number m.needed found.0) (map (number m.needed) (points S m.region)) = in_mapped (number m.needed) found.0 (points S m.region) point in
      let is : number m.needed found.0 ≡ i = ap (λ (h : ℕ). number h found.0) (sym lies.needed) ∙ sym found.2 in
      subst (λ (xs : List ℕ). Contains xs i) (numbers_some p j m of) (subst (λ (k : ℕ). Contains (map (number m.needed) (points S m.region)) k) is (contains_of (map (number m.needed) (points S m.region)) (number m.needed found.0) there))

  lying_named : (i : ℕ) → Contains (need_numbers p j n) i → Contains (need_numbers p j m) i
  lying_named i = of (n.group == j.group) refl
    where
      of : (b : Bool) → (n.group == j.group) ≡ b → Contains (if b then numbers_at n else []) i → Contains (need_numbers p j m) i
      of true e has = lying_numbers (sym lies.group ∙ eq_true n.group j.group e) i has
      of false e has = let less : has.0 < 0 = has.1 in absurd (omega (arith, less))

  -- and inside where that one is
  lying_inside : NeedIsInside p j m → NeedIsInside p j n
  lying_inside inside here =
      let S = grid_symbols j.at in
      let all = inside (sym lies.group ∙ here) in
      all_of (λ q. IsTrue (is_in_box (need_grid p n) q)) (points S n.region) (λ q at.
      subst (λ (h : ℕ). IsTrue (is_in_box (grid_sides (group_grid (slice_get p.groups h))) q)) (sym lies.needed)
      (holds_of (λ q. IsTrue (is_in_box (need_grid p m) q)) (points S m.region) q all (lies.within q at)))

module _ (p : Plan) (g : ℕ) (ns ms : List Need) (outer : AreOuterOf ms ns) where
  pub lines_within : AreLinesOf p g ns → AreLinesOf p g ms
  lines_within = all_among (λ (n : Need). (n.group ≡ g) × NeedIsShared p n) ns ms outer.among

  -- what some of the lines name is named by those in which they lie
  named_out : (j : Piece) (i : ℕ) (ks : List Need) → ((k : Need) → Contains ks k → Contains ns k) → Contains (all_numbers p j ks) i → Contains (all_numbers p j ms) i
  named_out j i [] h has = let less : has.0 < 0 = has.1 in absurd (omega (arith, less))
  named_out j i (x ∷ ks) h has = elim (Contains-append_cases (need_numbers p j x) (all_numbers p j ks) i has) [
    | inl a ↦
        let one = outer.all x (h x (0, omega arith, refl)) in
        named_before p j i ms one.0 one.1 (lying_named p j x one.0 (lies_there j.at x one.0 one.2) i a)
    | inr b ↦ named_out j i ks (λ k at. h k (Contains-append_right (x ∷ []) ks k at)) b
  ]

  pub lines_outer : AreLinesOf p g ns → (numbers : List ℕ) (moving : List Need) → AreGathered p g ms numbers moving → AreGathered p g ns numbers moving
  lines_outer lines numbers moving h = record {
    lines = h.lines;
    named = λ j of i. (
      (λ m. named_in p j i ns ms outer.among ((h.named j of i).0 m)),
      (λ m. (h.named j of i).1 (named_out j i ns (λ k at. at) m)),
    );
    inside = λ j of. (
      (λ all. all_of (NeedIsInside p j) ns (λ n at. let one = outer.all n at in lying_inside p j n one.0 (lies_there j.at n one.0 one.2) (holds_of (NeedIsInside p j) ms one.0 ((h.inside j of).0 all) one.1))),
      (λ all. (h.inside j of).1 (all_among (NeedIsInside p j) ns ms outer.among all)),
    );
  }

-- ---- lines of which those that name no point at a piece, or no more than another, are left out

module _ (p : Plan) (j : Piece) (ms ns : List Need) (those : AreThoseAt j.at ms ns) where
  none_named : (n : Need) → points (grid_symbols j.at) n.region ≡ [] → (i : ℕ) → Contains (need_numbers p j n) i → ⊥
  none_named n e i = of (n.group == j.group)
    where
      f : List ℤ → ℕ
      f = λ q. first_piece p.groups n.needed + rank (need_grid p n) q

      of : (b : Bool) → Contains (if b then map f (need_points j n) else []) i → ⊥
      of true m = let none : Contains [] i = subst (λ (qs : List (List ℤ)). Contains (map f qs) i) e m in let less : none.0 < 0 = none.1 in omega (arith, less)
      of false m = let less : m.0 < 0 = m.1 in omega (arith, less)

  named_left : (i : ℕ) (ks : List Need) → ((k : Need) → Contains ks k → Contains ns k) → Contains (all_numbers p j ks) i → Contains (all_numbers p j ms) i
  named_left i [] h has = let less : has.0 < 0 = has.1 in absurd (omega (arith, less))
  named_left i (x ∷ ks) h has = elim (Contains-append_cases (need_numbers p j x) (all_numbers p j ks) i has) [
    | inl a ↦ elim (those.left x (h x (0, omega arith, refl))) [ inl one ↦ named_before p j i ms one.0 one.1 (lying_named p j x one.0 one.2 i a) | inr e ↦ absurd (none_named x e i a) ]
    | inr b ↦ named_left i ks (λ k at. h k (Contains-append_right (x ∷ []) ks k at)) b
  ]

  those_numbers : (i : ℕ) → Contains (all_numbers p j ms) i ↔ Contains (all_numbers p j ns) i
  those_numbers i = (named_in p j i ns ms those.among, named_left i ns (λ k at. at))

  those_inside : NeedsAreInside p j ms ↔ NeedsAreInside p j ns
  those_inside = (
    (λ all. all_of (NeedIsInside p j) ns (λ n at. elim (those.left n at) [
      | inl one ↦ lying_inside p j n one.0 one.2 (holds_of (NeedIsInside p j) ms one.0 all one.1)
      | inr e ↦ λ same. subst (λ (qs : List (List ℤ)). All (λ q. IsTrue (is_in_box (need_grid p n) q)) qs) (sym e) (λ k d less. absurd (omega (arith, less)))
    ])),
    (λ all. all_among (NeedIsInside p j) ns ms those.among all),
  )

-- ---- a piece of a layout

pub joined : (settled named numbers all : List ℕ) → ((i : ℕ) → Contains settled i ↔ Contains (named ++ numbers) i) → ((i : ℕ) → Contains named i ↔ Contains all i) → (i : ℕ) → Contains settled i ↔ (Contains all i ⊎ Contains numbers i)
joined settled named numbers all h k i = (
  (λ m. elim (Contains-append_cases named numbers i ((h i).0 m)) [ inl a ↦ inl ((k i).0 a) | inr b ↦ inr b ]),
  (λ m. (h i).1 (elim m [ inl a ↦ Contains-append_left named numbers i ((k i).1 a) | inr b ↦ Contains-append_right named numbers i b ])),
)

pub have_lines : (p : Plan) (ns : List Need) (groups : ℕ) (xs : List GroupNeeds) → EachIsGathered p ns groups xs → HaveLinesOf p groups xs
have_lines p ns groups xs h = record { count = h.count; each = λ g y at. (h.each g y at).lines }

-- what was gathered of a piece's group
module _ (x : Layout) (ready : IsLayout x) (ns : List Need) (piece : ℕ) (s : Seat) (less : piece < length x.seats.items) (is : s ≡ get_or x.seats.items piece s) where
  abbrev P : Plan
  P = plan_of x.plan.now

  abbrev C : Certificate
  C = with_lines (certificate_of x.cert.now) ns

  abbrev J : Piece
  J = piece_of s

  module _ (xs : List GroupNeeds) (each : EachIsGathered P ns (length x.plan.now.groups.items) xs) where
    pub needs_within : s.group < length xs
    needs_within =
        let listed = group_listed x ready piece s less is in
        let all = each.count in
        omega (arith, listed, all)

    module _ (y : GroupNeeds) (this : y ≡ get_or xs s.group y) where
      pub needs_here : IsGathered P s.group (needs_in ns s.group) y
      needs_here = each.each s.group y (get_some xs s.group y needs_within ∙ ap (λ (z : GroupNeeds). Some z) (sym this))

      -- and lines that are looked at for the piece in place of those of its group
      module _ (ms : List Need) (stand : StandFor x.seats.items xs piece ms) where
        those_here : AreThoseAt s.at.items ms (map (λ (n : Bor Need). n.now) y.moving.items)
        those_here =
            stand s y (get_some x.seats.items piece s less ∙ ap (λ (z : Seat). Some z) (sym is)) (get_some xs s.group y needs_within ∙ ap (λ (z : GroupNeeds). Some z) (sym this))

        pub lines_here : AreLinesOf P s.group ms
        lines_here = all_among (λ (n : Need). (n.group ≡ s.group) × NeedIsShared P n) (map (λ (n : Bor Need). n.now) y.moving.items) ms those_here.among needs_here.lines

        pub inside_here : NeedsAreInside P J ms ↔ NeedsPieces P C piece
        inside_here =
            let those = those_inside P J ms (map (λ (n : Bor Need). n.now) y.moving.items) those_here in
            let k = needs_here.inside J refl in
            let all = inside_grouped P J ns in
            let at = piece_is x ready piece s less is in
            let Has : Option Piece → Type 0 = λ o. MatchOption o (Unit {0}) (λ j. NeedsAreInside P j ns) in (
              (λ h. subst Has (sym at) (all.0 (k.0 (those.0 h)))),
              (λ h. those.1 (k.1 (all.1 (subst Has at h)))),
            )

        pub list_here : All (NeedIsShared P) ns → NeedsPieces P C piece → (now : List ℕ) → IsStrictlyIncreasing now →
            ((i : ℕ) → Contains now i ↔ (Contains (all_numbers P J ms) i ⊎ Contains y.numbers.items i)) → now ≡ needs_list P C piece
        list_here shared pieces now rises members =
            let at = piece_is x ready piece s less is in
            let Has : Option Piece → Type 0 = λ o. MatchOption o (Unit {0}) (λ j. NeedsAreInside P j ns) in
            let inside : NeedsAreInside P J ns = subst Has at pieces in
            let all : (i : ℕ) → Contains now i ↔ IsNeeded P C J i = λ i.
            let In : List ℕ → Type 0 = λ zs. Contains zs i in
            let those = those_numbers P J ms (map (λ (n : Bor Need). n.now) y.moving.items) those_here i in
            let k = needs_here.named J refl i in
            let known = needed_members P C J inside shared i in
            let e = numbers_grouped P J ns in (
              (λ m. known.0 (subst In e (k.0 (elim ((members i).0 m) [ inl a ↦ inl (those.0 a) | inr b ↦ inr b ])))),
              (λ m. (members i).1 (elim (k.1 (subst In (sym e) (known.1 m))) [ inl a ↦ inl (those.1 a) | inr b ↦ inr b ])),
            ) in
            needs_one.only P C J now rises all ∙ ap (λ (o : Option Piece). of_piece o [] (needed_pieces P C)) (sym at)
