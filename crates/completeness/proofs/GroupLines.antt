-- What the lines `group` name is known: each is of another function of the algorithm, over numbers, with a span for each of its variables.
use Rattle.std.proofs.Common.{◌≡◌, ℕ, zero, suc, ◌<◌, Bool, true, false, List, [], ◌∷◌, length, map, take, Option, Some, None, refl, sym, ap, ◌∙◌, subst, inl, inr, arith}
use Rattle.std.specs.Prelude.{if◌then◌else◌, string_bytes, slice_get, MatchOption}
use Rattle.std.specs.Option.{option_map}
use Rattle.std.proofs.lemmas.Option.{get_or_from_slice_get}
use Rattle.plan.specs.declared.plan.Group.{Group as CodeGroup}
use Rattle.plan.specs.Plan.{Group}
use Rattle.plan.specs.View.{group_of, plan_of}
use Rattle.meaning.specs.Algorithm.{Function, Algorithm}
use Rattle.meaning.specs.Conditions.{IsAlgorithm}
use Rattle.headline.proofs.Lists.{at_below, at_map, from_map}
use Rattle.sched.specs.Schedule.{Schedule}
use Rattle.sched.specs.Legal.{IsLegal, said, loops_after}
use Rattle.sched.specs.Subjects.{subject_said}
use Rattle.sched.specs.declared.numbers.Extent.{Extent}
use Rattle.validation.specs.Stored.Definitions.{Parts, parts_of, parts_named}
use Rattle.validation.specs.Groups.Inside.{Begins}
use Rattle.validation.specs.Groups.Wrong.{LacksVariables, GroupNamesUnknown}
use Rattle.validation.specs.Wide.{SpanNamesOther, RegionNamesOther}
use Rattle.lower.specs.declared.lowering.Lowered.{Lowered}
use Rattle.sched.specs.Stored.{StoredText}
use Rattle.blocks.specs.Stored.{stored_by, stored_among, flags}
use Rattle.lower.specs.Stored.{stored_functions, has_large}
use Rattle.sched.specs.Bounded.{whole}
use Rattle.regions.specs.Faults.{are_whole}
use Rattle.lower.specs.Faults.{region_fault}
use Rattle.lower.specs.Groups.{HasGroups}
use Rattle.completeness.specs.Laws.{GroupLinesAreKnown}
use Rattle.completeness.proofs.Laid.{subjects, found}
use Rattle.completeness.proofs.Served.{made_at}
use Rattle.completeness.proofs.ClaimLines.{named_here}

-- ---- stored functions stand in the order of declaration

pub record Rises (fs : List Function) (g h : StoredText) : Type 0 where
  pub first : ℕ
  pub second : ℕ
  pub one : Function
  pub two : Function
  pub at_one : slice_get fs first ≡ Some one
  pub at_two : slice_get fs second ≡ Some two
  pub order : first < second
  pub named_one : one.name ≡ g.subject.name
  pub named_two : two.name ≡ h.subject.name

module _ (a : Algorithm) (s : Schedule) (st : List Bool) where
  abbrev text : Function → StoredText
  text f = stored_by a st f.variables f.value f.changes (subject_said a s f) (loops_after (said s) f)

  abbrev among_these : List Function → List StoredText
  among_these fs = stored_among a st fs (map (subject_said a s) fs) (map (loops_after (said s)) fs)

  later : (f : Function) (fs : List Function) (g h : StoredText) → Rises fs g h → Rises (f ∷ fs) g h
  later f fs g h r = (let order = r.order in record {
    first = suc r.first;
    second = suc r.second;
    one = r.one;
    two = r.two;
    at_one = r.at_one;
    at_two = r.at_two;
    order = omega (arith, order);
    named_one = r.named_one;
    named_two = r.named_two;
  })

  pub rises : (fs : List Function) (m n : ℕ) (g h : StoredText) → m < n → slice_get (among_these fs) m ≡ Some g → slice_get (among_these fs) n ≡ Some h → Rises fs g h
  rises [] m n g h less one two = absurd (cc one)
  rises (f ∷ fs) m n g h less one two = of (subject_said a s f).is_stored m n less one two (λ i j k x y. rises fs i j g h k x y)
    where
      of : (b : Bool) (m n : ℕ) → m < n → slice_get (if b then text f ∷ among_these fs else among_these fs) m ≡ Some g →
          slice_get (if b then text f ∷ among_these fs else among_these fs) n ≡ Some h →
          ((i j : ℕ) → i < j → slice_get (among_these fs) i ≡ Some g → slice_get (among_these fs) j ≡ Some h → Rises fs g h) → Rises (f ∷ fs) g h
      of false i j k x y rest = later f fs g h (rest i j k x y)
      of true (suc i) (suc j) k x y rest = later f fs g h (rest i j (omega (arith, k)) x y)
      of true (suc i) zero k x y rest = absurd (omega (arith, k))
      of true zero zero k x y rest = absurd (omega (arith, k))
      of true zero (suc j) k x y rest =
          let same : text f ≡ g = cc x in
          let w = found a s st h fs j y in
          record {
            first = 0;
            second = suc w.place;
            one = f;
            two = w.function;
            at_one = refl;
            at_two = w.at;
            order = omega arith;
            named_one = ap (λ (u : StoredText). u.subject.name) same;
            named_two = sym (ap (λ (u : StoredText). u.subject.name) w.is);
          }

-- ---- regions

pub no_other : (es : List Extent) → RegionNamesOther [] (map whole es) → ⊥
no_other es (k, x, less, is, other) =
    let y = at_below (map whole es) k less in
    let z = from_map whole es k y.0 y.1 in
    let same : x ≡ whole z.0 = sym is ∙ get_or_from_slice_get (map whole es) k y.0 x y.1 ∙ z.2 in
    numbers z.0 (subst (SpanNamesOther []) same other)
  where
    numbers : (e : Extent) → SpanNamesOther [] (whole e) → ⊥
    numbers e (inl (zero, f, l, at, (j, t, none, rest, named))) = absurd (let same = ap (λ (g : _). length g.terms) at in omega (arith, none, same))
    numbers e (inl (suc n, f, l, at, other)) = absurd (omega (arith, l))
    numbers e (inr (zero, f, l, at, (j, t, none, rest, named))) = absurd (let same = ap (λ (g : _). length g.terms) at in omega (arith, none, same))
    numbers e (inr (suc n, f, l, at, other)) = absurd (omega (arith, l))

pub taken_at : {A : Type 0} (xs : List A) (n k : ℕ) (x : A) → slice_get (take n xs) k ≡ Some x → (k < n) × (slice_get xs k ≡ Some x)
taken_at xs zero k x e = absurd (cc e)
taken_at [] (suc n) k x e = absurd (cc e)
taken_at (y ∷ xs) (suc n) zero x e = (omega arith, e)
taken_at (y ∷ xs) (suc n) (suc k) x e = let r = taken_at xs n k x e in let less = r.0 in (omega (arith, less), r.1)

pub whole_long : (es : List Extent) → length (map whole es) ≡ length es
whole_long [] = refl
whole_long (e ∷ es) = ap suc (whole_long es)

-- ---- groups

module _ (a : Algorithm) (sch : Schedule) (l : Lowered) (well : IsAlgorithm a) (legal : IsLegal a sch) (small : has_large (stored_functions a sch) ≡ false)
    (kept : region_fault a (stored_functions a sch) ≡ None) (all : are_whole (stored_functions a sch) ≡ true) (groups : HasGroups a (stored_functions a sch) l) where
  abbrev ps : List CodeGroup
  ps = l.plan.groups.items

  -- groups of the same function are one
  apart : (m n : ℕ) (p q : CodeGroup) → m < n → slice_get ps m ≡ Some p → slice_get ps n ≡ Some q → string_bytes p.function ≡ string_bytes q.function → ⊥
  apart m n p q less at there named =
      let one = made_at a sch l well legal small kept all groups m p at in
      let two = made_at a sch l well legal small kept all groups n q there in
      let r = rises a sch (flags (subjects a sch)) a.functions m n one.stored two.stored less one.is two.is in
      let names : r.one.name ≡ r.two.name = r.named_one ∙ sym one.named ∙ named ∙ two.named ∙ sym r.named_two in
      let first = at_map (λ (f : Function). f.name) a.functions r.first r.one r.at_one ∙ ap (λ (x : List ℕ). Some x) names in
      let second = at_map (λ (f : Function). f.name) a.functions r.second r.two r.at_two in
      let same : suc r.first ≡ suc r.second = well.names (suc r.first) (suc r.second) r.two.name first second in
      let order = r.order in
      omega (arith, same, order)

  lacks_none : (n : ℕ) (q : CodeGroup) → slice_get ps n ≡ Some q → LacksVariables a (string_bytes q.function) (length q.region) → ⊥
  lacks_none n q at lacks =
      let me = made_at a sch l well legal small kept all groups n q at in
      let w = found a sch (flags (subjects a sch)) me.stored a.functions n me.is in
      let named : string_bytes q.function ≡ w.function.name = me.named ∙ ap (λ (u : StoredText). u.subject.name) w.is in
      let parts : parts_named a (string_bytes q.function) ≡ Some (parts_of w.function) =
      ap (parts_named a) named ∙ ap (λ (o : Option Function). option_map parts_of o) (named_here a well w.place w.function w.at) in
      let long : length w.function.variables ≡ length q.region =
      sym (ap length me.region ∙ whole_long me.laid.region ∙ me.laid_by.long ∙ ap (λ (u : StoredText). length u.subject.variables) w.is) in
      (subst (λ (o : Option Parts). MatchOption o (Unit {0}) (λ f. ¬ (length f.variables ≡ length q.region))) parts lacks) long

  unknown_none : (n : ℕ) (q : CodeGroup) → slice_get ps n ≡ Some q → GroupNamesUnknown a (plan_of l.plan) n (group_of q) → ⊥
  unknown_none n q at (inl (k, h, less, is, named)) =
      let y = at_below (take n (map group_of ps)) k less in
      let same : h ≡ y.0 = sym is ∙ get_or_from_slice_get (take n (map group_of ps)) k y.0 h y.1 in
      let t = taken_at (map group_of ps) n k y.0 y.1 in
      let z = from_map group_of ps k y.0 t.1 in
      apart k n z.0 q t.0 z.1 at (ap (λ (g : Group). g.function) (sym z.2 ∙ sym same) ∙ named)
  unknown_none n q at (inr (inl lacks)) = lacks_none n q at lacks
  unknown_none n q at (inr (inr other)) =
      let me = made_at a sch l well legal small kept all groups n q at in
      no_other me.laid.region (subst (RegionNamesOther []) me.region other)

  none_begins : (line : ℕ) → Begins (plan_of l.plan) (GroupNamesUnknown a (plan_of l.plan)) line → ⊥
  none_begins line b =
      let x = from_map group_of ps b.number b.group b.there in
      unknown_none b.number x.0 x.1 (subst (GroupNamesUnknown a (plan_of l.plan) b.number) x.2 b.so)

pub known : GroupLinesAreKnown
known a s l well legal small regions groups all line b = none_begins a s l well legal small (regions all).0 all groups line b
