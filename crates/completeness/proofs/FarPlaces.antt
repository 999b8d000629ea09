-- Where blocks run past the numbers of 32 bits, the function's buffer has a dimension whose places begin far from 0, so that no store is told to leave it.
use Rattle.std.proofs.Common.{◌≡◌, ℕ, zero, suc, ◌+◌, ◌<◌, ◌≤◌, ◌^◌, Bool, true, false, ◌&&◌, ◌||◌, List, [], ◌∷◌, ◌++◌, length, map, Some, None, refl, sym, ap, ◌∙◌, subst, inl, inr, ◌⊎◌, arith}
use Rattle.std.specs.Prelude.{ℤ, pos, ◌+ℤ◌, ◌-ℤ◌, ◌≤ℤ◌, ◌==◌, int_le, nat_le, slice_get}
use Rattle.std.specs.List.{AllByRecursion, list_all}
use Rattle.std.specs.Int.RustNames.{unsigned_abs}
use Rattle.std.proofs.lemmas.Bool.Decides.{nat_tests}
use Rattle.std.proofs.lemmas.Int.{ints}
use Rattle.lin.specs.Forms.{Form, number}
use Rattle.plan.specs.declared.plan.Group.{Group as CodeGroup}
use Rattle.plan.specs.declared.certificate.cert.Claim.{Claim as CodeClaim}
use Rattle.plan.specs.declared.certificate.cert.Need.{Need}
use Rattle.plan.specs.declared.stmt.Places.{Places}
use Rattle.plan.specs.declared.stmt.Places.TheVariants.{From}
use Rattle.plan.specs.Plan.{Statement, Statements, Alloc, Publish, Plan, block}
use Rattle.plan.specs.Lines.{lines, body_line}
use Rattle.plan.specs.View.{plan_of, statement_of}
use Rattle.meaning.specs.Algorithm.{Algorithm}
use Rattle.meaning.specs.Conditions.{IsAlgorithm}
use Rattle.soundness.specs.Claims.{In}
use Rattle.sched.specs.declared.schedule.Split.{Split}
use Rattle.sched.specs.declared.placing.Loop.{Loop}
use Rattle.sched.specs.declared.numbers.Extent.{Extent}
use Rattle.sched.specs.declared.numbers.Numbers.{Numbers}
use Rattle.sched.specs.declared.skeleton.Step.{Step}
use Rattle.sched.specs.declared.skeleton.Step.TheVariants.{Turns, Named, Tested}
use Rattle.sched.specs.declared.schedule.Tail.{Tail}
use Rattle.sched.specs.declared.schedule.Tail.TheVariants.{Guard, Roundup, Shift}
use Rattle.sched.specs.Schedule.{Schedule}
use Rattle.sched.specs.Legal.{IsLegal}
use Rattle.sched.specs.Numbers.{numbers_named, loop_numbers, last_number, parallel_loops}
use Rattle.sched.specs.Standing.{form_named, counted_from, has_rest}
use Rattle.sched.specs.Skeleton.{grid_forms}
use Rattle.sched.specs.Runs.{lines_to}
use Rattle.lower.specs.declared.lowering.Lowered.{Lowered}
use Rattle.sched.specs.Stored.{StoredText}
use Rattle.lower.specs.Stored.{stored_functions, has_large}
use Rattle.regions.specs.Faults.{are_whole}
use Rattle.lower.specs.Faults.{region_fault}
use Rattle.lower.specs.Owning.{IsExtent, IsLaidBy}
use Rattle.blocks.specs.Blocks.{dimension_of, dimensions_of, lay_over, own_places}
use Rattle.lower.specs.Bodies.{last_claim}
use Rattle.blocks.specs.Fetches.{with_fetches}
use Rattle.lower.specs.Groups.{HasBody, HasGroups}
use Rattle.lower.proofs.Covering.{NumbersAre}
use Rattle.lower.proofs.Owners as owners
use Rattle.audit.specs.Verdict.Left.{factors_fit, is_left, leaves, all_leave}
use Rattle.completeness.specs.Laws.{AreSplitOnce}
use Rattle.completeness.specs.Parted.{KeepsInner}
use Rattle.completeness.specs.Blocked.{is_tailed}
use Rattle.completeness.specs.Filled.{AreEndsShort}
use Rattle.completeness.proofs.Served.{roots}
use Rattle.completeness.proofs.Standing.{AreLets, names_own}
use Rattle.completeness.proofs.TailTurns.{is_shifted}
use Rattle.completeness.proofs.PureNests.{all_in, loop_name}
use Rattle.completeness.proofs.PlainTurns.{hits}
use Rattle.completeness.proofs.GridTurns.{grid_some}
use Rattle.completeness.proofs.Searched.{one_of}
use Rattle.completeness.proofs.NearBoxes.{IsFew, AreFewNumbers}
use Rattle.completeness.proofs.StoreShapes as nests_of

-- ---- blocks end within 32 bits, or one does not

abbrev EndsShort : List Numbers → Split → Type 0
EndsShort rs c = is_tailed rs c ≡ false → has_rest c (numbers_named rs c.whole).count ≡ true → (last_number (numbers_named rs c.whole) +ℤ pos c.factor) ≤ℤ pos 2147483647

abbrev EndsFar : List Numbers → Split → Type 0
EndsFar rs c = (is_tailed rs c ≡ false) × (pos 2147483648 ≤ℤ (last_number (numbers_named rs c.whole) +ℤ pos c.factor))

one_ends : (rs : List Numbers) (c : Split) → EndsShort rs c ⊎ EndsFar rs c
one_ends rs c = by (is_tailed rs c) refl
  where
    end : ℤ
    end = last_number (numbers_named rs c.whole) +ℤ pos c.factor

    far : (z : ℤ) → int_le z (pos 2147483647) ≡ false → pos 2147483648 ≤ℤ z
    far z e = omega (arith, ints, e)

    near : (z : ℤ) → int_le z (pos 2147483647) ≡ true → z ≤ℤ pos 2147483647
    near z e = omega (arith, ints, e)

    of : is_tailed rs c ≡ false → (b : Bool) → int_le end (pos 2147483647) ≡ b → EndsShort rs c ⊎ EndsFar rs c
    of bare true e = inl (λ again rest. near end e)
    of bare false e = inr (bare, far end e)

    by : (v : Bool) → is_tailed rs c ≡ v → EndsShort rs c ⊎ EndsFar rs c
    by true e = inl (λ bare rest. (let clash : true ≡ false = sym e ∙ bare in absurd (cc clash)))
    by false e = of e (int_le end (pos 2147483647)) refl

-- none with `shift`
plain_tail : (rs : List Numbers) (c : Split) → is_tailed rs c ≡ false → is_shifted c ≡ false
plain_tail rs c e = of c.tail e
  where
    of : (t : Tail) → (elim t [ Guard ↦ has_rest c (numbers_named rs c.whole).count | Roundup ↦ false | Shift ↦ true ]) ≡ false →
        (elim t [ Guard ↦ false | Roundup ↦ false | Shift ↦ true ]) ≡ false
    of Guard q = refl
    of Roundup q = refl
    of Shift q = absurd (cc q)

all_ends : (rs : List Numbers) (cs : List Split) → AllByRecursion (EndsShort rs) cs ⊎ ((c : Split) × In c cs × EndsFar rs c)
all_ends rs [] = inl tt
all_ends rs (c ∷ cs) = elim (one_ends rs c) [
  | inl short ↦ elim (all_ends rs cs) [
    | inl others ↦ inl (short, others)
    | inr far ↦ inr (far.0, inr far.1, far.2)
  ]
  | inr far ↦ inr (c, inl refl, far)
]

-- ---- places

none_all : (f : List ℕ → Places) (xs : List (List ℕ)) (x : List ℕ) → In x xs → is_left (f x) ≡ false → list_all is_left (map f xs) ≡ false
none_all f [] x m h = absurd m
none_all f (y ∷ xs) x (inl e) h = ap (λ (b : Bool). b && list_all is_left (map f xs)) (ap (λ (z : List ℕ). is_left (f z)) (sym e) ∙ h)
none_all f (y ∷ xs) x (inr m) h = and_false (is_left (f y)) (list_all is_left (map f xs)) (none_all f xs x m h)
  where
    and_false : (a b : Bool) → b ≡ false → (a && b) ≡ false
    and_false true b e = e
    and_false false b e = refl

-- lets stand in front of what follows
under_lets : (m : ℕ) (ss : List Step) → AreLets ss → (inner : Statements) → all_leave 0 m inner ≡ false → all_leave 0 m (lines_to ss inner) ≡ false
under_lets m [] h inner e = e
under_lets m (Turns i x kind ∷ ss) h inner e = absurd h
under_lets m (Named i pick fs ∷ ss) h inner e = under_lets m ss h inner e
under_lets m (Tested low high ∷ ss) h inner e = absurd h

far_left : (l : Form) (n : ℕ) → 2 ^ 30 < unsigned_abs l.constant → is_left (From l n) ≡ false
far_left l n far =
    let no : nat_le (unsigned_abs l.constant) (2 ^ 30) ≡ false = over (unsigned_abs l.constant) far in
    ap (λ (b : Bool). b && factors_fit (2 ^ 9) l.terms) no
  where
    over : (m : ℕ) → 2 ^ 30 < m → nat_le m (2 ^ 30) ≡ false
    over m h = grind (arith, nat_tests, h)

module _ (a : Algorithm) (sch : Schedule) (l : Lowered) (well : IsAlgorithm a) (legal : IsLegal a sch) (small : has_large (stored_functions a sch) ≡ false)
    (kept : region_fault a (stored_functions a sch) ≡ None) (all : are_whole (stored_functions a sch) ≡ true) (groups : HasGroups a (stored_functions a sch) l) where
  abbrev items : List CodeClaim
  items = l.certificate.claims.items

  abbrev plan : Plan
  plan = plan_of l.plan

  module _ (n first line : ℕ) (g : StoredText) (p : CodeGroup) (claims : List CodeClaim) (needs : List Need) (at : slice_get (stored_functions a sch) n ≡ Some g)
      (there : slice_get l.plan.groups.items n ≡ Some p)
      (h : HasBody a (roots a sch l well legal small kept all groups) n first line g p claims needs) (lined : body_line plan n ≡ line + 1)
      (placed : (j : ℕ) (v : CodeClaim) → slice_get claims j ≡ Some v → slice_get items (first + j) ≡ Some v)
      (alone_here : (j : ℕ) (w : CodeClaim) → slice_get items j ≡ Some w → line < w.line → w.line < line + (lines (statement_of p.body) + 1) → In w claims)
      (laid : IsLaidBy g h.extents h.skeleton) (split_alone : AreSplitOnce g.placed.cuts) (keeps : KeepsInner g.placed.loops g.placed.cuts)
      (few : AllByRecursion IsFew h.extents) where
    abbrev xs : List (List ℕ)
    xs = g.subject.variables

    abbrev ls : List Loop
    ls = g.placed.loops

    abbrev cuts : List Split
    cuts = g.placed.cuts

    abbrev rs : List Numbers
    rs = loop_numbers xs cuts h.extents

    abbrev low : List ℕ → ℤ
    low x = (numbers_named rs x).low

    abbrev place_named : List ℕ → Places
    place_named x = (dimension_of (lay_over g h.extents h.skeleton) cuts x).places

    numbers_few : AllByRecursion (λ x. AreFewNumbers (numbers_named rs x)) xs
    numbers_few = of xs h.extents (owners.numbers g h.extents h.skeleton laid) laid.extents few
      where
        of : (ys : List (List ℕ)) (es : List Extent) → NumbersAre rs ys es → AllByRecursion IsExtent es → AllByRecursion IsFew es → AllByRecursion (λ x. AreFewNumbers (numbers_named rs x)) ys
        of [] es q r m = tt
        of (y ∷ ys) [] q r m = absurd q
        of (y ∷ ys) (e ∷ es) q r m = (subst AreFewNumbers (sym q.0) (record { from = r.0.from; to = r.0.to; some = r.0.some; few = m.0 }), of ys es q.1 r.1 m.1)

    -- the places of a split dimension begin at its first number
    begins : (c : Split) → In c cuts → is_tailed rs c ≡ false → (o : Form) × (m : ℕ) × (place_named c.whole ≡ From o m) × (o.constant ≡ low c.whole)
    begins c m bare = of (hits loop_name c.outer (parallel_loops ls)) refl
      where
        of : (k : ℕ) → hits loop_name c.outer (parallel_loops ls) ≡ k → (o : Form) × (m : ℕ) × (place_named c.whole ≡ From o m) × (o.constant ≡ low c.whole)
        of zero e =
            let d = nests_of.dim_split a sch l well legal small kept all groups n first line g p claims needs at there h lined placed alone_here laid split_alone keeps c m e in
            (number (low c.whole), _, d.1, refl)
        of (suc k) e =
            let r = grid_some rs c.outer 0 (parallel_loops ls) (omega (arith, e)) in
            let fits = nests_of.fits a sch l well legal small kept all groups n first line g p claims needs at there h lined placed alone_here laid split_alone keeps c m in
            let none : low c.outer ≡ pos 0 = ap (λ (y : Numbers). y.low) fits.outer in
            let named_so : form_named (grid_forms rs 0 (parallel_loops ls)) c.outer ≡ Some (counted_from (pos 0) r.0) = r.1 ∙ ap (λ (z : ℤ). Some (counted_from z r.0)) none in
            let d = nests_of.dim_block a sch l well legal small kept all groups n first line g p claims needs at there h lined placed alone_here laid split_alone keeps c m r.0 named_so
            (plain_tail rs c bare) in
            (one_of (low c.whole) (pos c.factor) r.0, c.factor, d.1, refl)

    far_low : (r : Numbers) (w : ℕ) → AreFewNumbers r → w ≤ 1024 → pos 2147483648 ≤ℤ (last_number r +ℤ pos w) → 2 ^ 30 < unsigned_abs r.low
    far_low r w fewer size end = by r.low r.count fewer.some fewer.few end
      where
        by : (z : ℤ) (k : ℕ) → 0 < k → k ≤ 8192 → pos 2147483648 ≤ℤ (z +ℤ pos k -ℤ pos 1 +ℤ pos w) → 2 ^ 30 < unsigned_abs z
        by z k some most far = omega (arith, ints, some, most, far, size)

    not_left : (c : Split) → In c cuts → EndsFar rs c → (m : ℕ) → leaves 0 m (statement_of p.body) ≡ false
    not_left c inside far m =
        let fits = nests_of.fits a sch l well legal small kept all groups n first line g p claims needs at there h lined placed alone_here laid split_alone keeps c inside in
        let whole = nests_of.wholes a sch l well legal small kept all groups n first line g p claims needs at there h lined placed alone_here laid split_alone keeps c inside in
        let d = begins c inside far.0 in
        let away : 2 ^ 30 < unsigned_abs (low c.whole) =
        far_low (numbers_named rs c.whole) c.factor (all_in (λ x. AreFewNumbers (numbers_named rs x)) xs c.whole numbers_few whole) fits.few far.1 in
        let one : is_left (place_named c.whole) ≡ false = ap is_left d.2 ∙ far_left d.0 d.1 (subst (λ (z : ℤ). 2 ^ 30 < unsigned_abs z) (sym d.3) away) in
        let places : list_all is_left (own_places (dimensions_of g h.extents h.skeleton)) ≡ false =
        ap (list_all is_left) (nests_of.own_places_are a sch l well legal small kept all groups n first line g p claims needs at there h lined placed alone_here laid split_alone keeps)
        ∙ none_all place_named xs c.whole whole one in
        let rest : List Statement = with_fetches h.body.fetches (h.body.nests ++ Publish (last_claim first h.body.fetches h.skeleton) ∷ []) in
        let inner : Statements = block (Alloc 0 g.subject.name (own_places (dimensions_of g h.extents h.skeleton)) ∷ rest) in
        ap (leaves 0 m) h.body.with.is ∙ under_lets m h.skeleton.head (names_own xs _ g.placed h.extents h.skeleton h.laid).lets inner
        (by (length (own_places (dimensions_of g h.extents h.skeleton)) == m) (list_all is_left (own_places (dimensions_of g h.extents h.skeleton))) (all_leave 0 m (block rest)) places)
      where
        by : (b v r : Bool) → v ≡ false → ((false || (b && v)) && r) ≡ false
        by true v r e = ap (λ (x : Bool). x && r) e
        by false v r e = refl

    -- blocks end within 32 bits, or no store into the function's buffer is told to leave it
    pub early_or : AreEndsShort rs cuts ⊎ ((m : ℕ) → leaves 0 m (statement_of p.body) ≡ false)
    early_or = elim (all_ends rs cuts) [ inl short ↦ inl short | inr far ↦ inr (not_left far.0 far.1 far.2) ]
