-- What a piece owns is shown to lie in the region of which its claims speak, dimension by dimension.
use Rattle.std.proofs.Common.{◌≡◌, ℕ, ◌≤◌, ◌^◌, Bool, true, false, ◌&&◌, ◌||◌, List, [], ◌∷◌, ◌++◌, map, Option, Some, None, refl, sym, ap, ◌∙◌, inl, inr, arith}
use Rattle.std.specs.Prelude.{ℤ, pos, if◌then◌else◌}
use Rattle.std.specs.List.{AllByRecursion, list_any, list_all}
use Rattle.std.specs.Ordering.{int_eq}
use Rattle.std.specs.Int.RustNames.{unsigned_abs}
use Rattle.std.proofs.lemmas.Int.{ints}
use Rattle.lin.specs.Forms.{Form, number, plus_multiple, is_within_limits}
use Rattle.lin.specs.Regions.{span_inside}
use Rattle.lin.specs.Search.{at_most}
use Rattle.lin.specs.declared.scope.Binding.{Binding}
use Rattle.meaning.specs.Names.{same_name}
use Rattle.soundness.specs.Claims.{In}
use Rattle.sched.specs.declared.schedule.Split.{Split}
use Rattle.sched.specs.declared.schedule.Tail.{Tail}
use Rattle.sched.specs.declared.schedule.Tail.TheVariants.{Guard, Roundup, Shift}
use Rattle.sched.specs.declared.numbers.Numbers.{Numbers}
use Rattle.sched.specs.Numbers.{numbers_named, last_number}
use Rattle.sched.specs.Standing.{form_named}
use Rattle.sched.specs.Blocks.{factor_of, difference}
use Rattle.blocks.specs.Blocks.{block_end, multiple_from, own_last, claim_last, all_ends, with_last, raised, claim_end_of}
use Rattle.blocks.specs.Blocks.{PartText, Whole, Run, Scattered, LayText, is_parallel_named, alone_by, uncut, block_within, joined, part_of, dimension_by, dimension_of}
use Rattle.lower.proofs.Blocking.{CutFits}
use Rattle.completeness.specs.Owed.{IsNearForm, IsNearSpan}
use Rattle.completeness.proofs.ClaimEnds.{AreSome, claim_end_least}
use Rattle.completeness.proofs.SelfBounds.{form_self, number_below}

-- ---- forms that are among others

abbrev pub Among : List Form → List Form → Type 0
Among ms us = AllByRecursion (λ m. In m us) ms

any_self : (scope : List Binding) (m : Form) (us : List Form) → In m us → is_within_limits m ≡ true → list_any (λ u. at_most scope u m) us ≡ true
any_self scope m [] is limited = absurd is
any_self scope m (u ∷ us) (inl e) limited =
    let here : at_most scope u m ≡ true = ap (λ (f : Form). at_most scope f m) (sym e) ∙ form_self scope m limited in
    ap (λ (b : Bool). b || list_any (λ u. at_most scope u m) us) here
any_self scope m (u ∷ us) (inr h) limited = (let rest = any_self scope m us h limited in ap (λ (b : Bool). at_most scope u m || b) rest ∙ either (at_most scope u m))
  where
    either : (b : Bool) → (b || true) ≡ true
    either true = refl
    either false = refl

pub all_above : (scope : List Binding) (ms us : List Form) → Among ms us → AllByRecursion IsNearForm ms → list_all (λ m. list_any (λ u. at_most scope u m) us) ms ≡ true
all_above scope [] us h near = refl
all_above scope (m ∷ ms) us h near =
    let here = any_self scope m us h.0 near.0.0 in
    let rest = all_above scope ms us h.1 near.1 in
    λ i. here i && rest i

pub above_within : (scope : List Binding) (ms us : List Form) → Among ms us → AllByRecursion (λ m. is_within_limits m ≡ true) ms → list_all (λ m. list_any (λ u. at_most scope u m) us) ms ≡ true
above_within scope [] us h near = refl
above_within scope (m ∷ ms) us h near =
    let here = any_self scope m us h.0 near.0 in
    let rest = above_within scope ms us h.1 near.1 in
    λ i. here i && rest i

any_below : (scope : List Binding) (m : Form) (us : List Form) → In m us → is_within_limits m ≡ true → list_any (λ u. at_most scope m u) us ≡ true
any_below scope m [] is limited = absurd is
any_below scope m (u ∷ us) (inl e) limited =
    let here : at_most scope m u ≡ true = ap (at_most scope m) (sym e) ∙ form_self scope m limited in
    ap (λ (b : Bool). b || list_any (λ u. at_most scope m u) us) here
any_below scope m (u ∷ us) (inr h) limited = (let rest = any_below scope m us h limited in ap (λ (b : Bool). at_most scope m u || b) rest ∙ either (at_most scope m u))
  where
    either : (b : Bool) → (b || true) ≡ true
    either true = refl
    either false = refl

pub all_below : (scope : List Binding) (ms us : List Form) → Among ms us → AllByRecursion IsNearForm ms → list_all (λ m. list_any (λ u. at_most scope m u) us) ms ≡ true
all_below scope [] us h near = refl
all_below scope (m ∷ ms) us h near =
    let here = any_below scope m us h.0 near.0.0 in
    let rest = all_below scope ms us h.1 near.1 in
    λ i. here i && rest i

pub below_within : (scope : List Binding) (ms us : List Form) → Among ms us → AllByRecursion (λ m. is_within_limits m ≡ true) ms → list_all (λ m. list_any (λ u. at_most scope m u) us) ms ≡ true
below_within scope [] us h near = refl
below_within scope (m ∷ ms) us h near =
    let here = any_below scope m us h.0 near.0 in
    let rest = below_within scope ms us h.1 near.1 in
    λ i. here i && rest i

pub more_among : (ms us : List Form) (f : Form) → Among ms us → Among ms (f ∷ us)
more_among [] us f h = tt
more_among (m ∷ ms) us f h = (inr h.0, more_among ms us f h.1)

in_first : (m : Form) (us vs : List Form) → In m us → In m (us ++ vs)
in_first m [] vs h = absurd h
in_first m (u ∷ us) vs (inl e) = inl e
in_first m (u ∷ us) vs (inr h) = inr (in_first m us vs h)

in_second : (m : Form) (us vs : List Form) → In m vs → In m (us ++ vs)
in_second m [] vs h = h
in_second m (u ∷ us) vs h = inr (in_second m us vs h)

first_among : (ms us vs : List Form) → Among ms us → Among ms (us ++ vs)
first_among [] us vs h = tt
first_among (m ∷ ms) us vs h = (in_first m us vs h.0, first_among ms us vs h.1)

second_among : (ms us vs : List Form) → Among ms vs → Among ms (us ++ vs)
second_among [] us vs h = tt
second_among (m ∷ ms) us vs h = (in_second m us vs h.0, second_among ms us vs h.1)

both_among : (ms ns us : List Form) → Among ms us → Among ns us → Among (ms ++ ns) us
both_among [] ns us h k = k
both_among (m ∷ ms) ns us h k = (h.0, both_among ms ns us h.1 k)

mapped_in : (f : Form → Form) (m : Form) (us : List Form) → In m us → In (f m) (map f us)
mapped_in f m [] h = absurd h
mapped_in f m (u ∷ us) (inl e) = inl (ap f e)
mapped_in f m (u ∷ us) (inr h) = inr (mapped_in f m us h)

mapped_among : (f : Form → Form) (ms us : List Form) → Among ms us → Among (map f ms) (map f us)
mapped_among f [] us h = tt
mapped_among f (m ∷ ms) us h = (mapped_in f m us h.0, mapped_among f ms us h.1)

last_among : (ms us : List Form) (o : Option ℤ) → Among ms us → Among ms (with_last us o)
last_among ms us None h = h
last_among ms us (Some z) h = first_among ms us (number z ∷ []) h

with_last_among : (ms us : List Form) (o : Option ℤ) → Among ms us → Among (with_last ms o) (with_last us o)
with_last_among ms us None h = h
with_last_among ms us (Some z) h = both_among ms (number z ∷ []) (us ++ number z ∷ []) (first_among ms us (number z ∷ []) h) (in_second (number z) us (number z ∷ []) (inl refl), tt)

-- the further ends of claims are further ends of what is owned
claimed_among : (c : Split) (r : Numbers) (ms us : List Form) → Among ms us → Among (with_last ms (claim_last c r)) (with_last us (own_last c r))
claimed_among c r ms us h = of c.tail
  where
    of : (t : Tail) → Among (with_last ms (elim t [ Guard ↦ own_last c r | Roundup ↦ None | Shift ↦ own_last c r ])) (with_last us (own_last c r))
    of Guard = with_last_among ms us (own_last c r) h
    of Roundup = last_among ms us (own_last c r) h
    of Shift = with_last_among ms us (own_last c r) h

-- ---- parts

abbrev EndsAmong : PartText → Type 0
EndsAmong Whole = Unit {0}
EndsAmong (Run b) = Among b.claim_limits b.own_limits
EndsAmong Scattered = Unit {0}

module _ (l : LayText) where
  alone_among : (o : Option Form) → EndsAmong (alone_by o)
  alone_among None = tt
  alone_among (Some f) = tt

  uncut_among : (x : List ℕ) → EndsAmong (uncut l x)
  uncut_among x = of (is_parallel_named l x)
    where
      of : (b : Bool) → EndsAmong (if b then alone_by (form_named l.known x) else Whole)
      of true = alone_among (form_named l.known x)
      of false = tt

  ends_among : (c : Split) (r : Numbers) (ms us : List Form) → Among ms us → Among (all_ends c r ms) (all_ends c r us)
  ends_among c r ms us h = mapped_among (multiple_from (block_end r.low c) (factor_of c)) ms us h

  joined_among : (c : Split) (cs : List Split) (a b : PartText) → EndsAmong a → EndsAmong b → EndsAmong (joined l c cs a b)
  joined_among c cs Whole Whole h k = tt
  joined_among c cs Whole (Run i) h k = tt
  joined_among c cs Whole Scattered h k = tt
  joined_among c cs (Run o) Whole h k =
      let r = numbers_named l.numbers c.whole in claimed_among c r (all_ends c r o.claim_limits) (all_ends c r o.own_limits) (ends_among c r o.claim_limits o.own_limits h)
  joined_among c cs (Run o) (Run i) h k = of (int_eq o.length (pos 1))
    where
      r : Numbers
      r = numbers_named l.numbers c.whole

      base : Form
      base = multiple_from r.low (factor_of c) o.start

      of : (b : Bool) → EndsAmong (if b then Run (block_within l c cs o i) else Scattered)
      of true =
          let inner = mapped_among (plus_multiple base (pos 1)) i.claim_limits i.own_limits k in
          let blocks = ends_among c r o.claim_limits o.own_limits h in
          let all = both_among (map (plus_multiple base (pos 1)) i.claim_limits) (all_ends c r o.claim_limits) (map (plus_multiple base (pos 1)) i.own_limits ++ all_ends c r o.own_limits)
          (first_among (map (plus_multiple base (pos 1)) i.claim_limits) (map (plus_multiple base (pos 1)) i.own_limits) (all_ends c r o.own_limits) inner)
          (second_among (all_ends c r o.claim_limits) (map (plus_multiple base (pos 1)) i.own_limits) (all_ends c r o.own_limits) blocks) in
          claimed_among c r (map (plus_multiple base (pos 1)) i.claim_limits ++ all_ends c r o.claim_limits) (map (plus_multiple base (pos 1)) i.own_limits ++ all_ends c r o.own_limits) all
      of false = tt
  joined_among c cs (Run o) Scattered h k = tt
  joined_among c cs Scattered b h k = tt

  part_among : (x : List ℕ) (cs : List Split) → EndsAmong (part_of l x cs)
  part_among x [] = uncut_among x
  part_among x (c ∷ cs) = of (same_name c.whole x) (part_among c.outer cs) (part_among c.inner cs) (part_among x cs)
    where
      of : (b : Bool) → EndsAmong (part_of l c.outer cs) → EndsAmong (part_of l c.inner cs) → EndsAmong (part_of l x cs) →
          EndsAmong (if b then joined l c cs (part_of l c.outer cs) (part_of l c.inner cs) else part_of l x cs)
      of true h k rest = joined_among c cs (part_of l c.outer cs) (part_of l c.inner cs) h k
      of false h k rest = rest

  -- ---- dimensions

  module _ (scope : List Binding) (cs : List Split) (cuts : AllByRecursion (CutFits l.numbers) cs) where
    whole_inside : (x : List ℕ) → AreSome (numbers_named l.numbers x) → IsNearSpan (dimension_by l x cs Whole).claim →
        span_inside scope (dimension_by l x cs Whole).own (dimension_by l x cs Whole).claim ≡ true
    whole_inside x are near =
        let r = numbers_named l.numbers x in
        let from = are.small.from in
        let to = are.small.to in
        let few = are.small.few in
        let some = are.some in
        let low = form_self scope (number r.low) near.0.0.0 in
        let last : unsigned_abs (last_number r) ≤ 2 ^ 39 = omega (arith, ints, from, to, few, some) in
        let high = number_below scope (last_number r) (claim_end_of l.numbers x cs) (claim_end_least l.numbers cs cuts x are) last near.1.0.1 in
        λ i. ((low i || false) && true) && ((high i || false) && true)

    part_inside : (x : List ℕ) (p : PartText) → EndsAmong p → AreSome (numbers_named l.numbers x) → IsNearSpan (dimension_by l x cs p).claim →
        span_inside scope (dimension_by l x cs p).own (dimension_by l x cs p).claim ≡ true
    part_inside x Whole among are near = whole_inside x are near
    part_inside x Scattered among are near = whole_inside x are near
    part_inside x (Run b) among are near =
        let low = form_self scope b.start near.0.0.0 in
        let end = raised b.start (difference b.length (pos 1)) in
        let high = all_above scope (end ∷ b.claim_limits) (end ∷ b.own_limits) (inl refl, more_among b.claim_limits b.own_limits end among) near.1 in
        λ i. ((low i || false) && true) && high i

    pub dimension_inside : (x : List ℕ) → AreSome (numbers_named l.numbers x) → IsNearSpan (dimension_of l cs x).claim → span_inside scope (dimension_of l cs x).own (dimension_of l cs x).claim ≡ true
    dimension_inside x are near = part_inside x (part_of l x cs) (part_among x cs) are near
