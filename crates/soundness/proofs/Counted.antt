-- The steps of a well-formed algorithm's updates.
use Rattle.std.proofs.Common.{◌≡◌, ℕ, zero, suc, ◌+◌, Bool, true, false, List, [], ◌∷◌, take, Option, Some, None, refl, sym, ap, ◌∙◌, subst, arith}
use Rattle.std.specs.Prelude.{ℤ, ◌≤ℤ◌, ◌&&◌, int_le, IsTrue, slice_get}
use Rattle.std.specs.List.{AllByRecursion}
use Rattle.std.proofs.lemmas.Bool.Decides.{nat_tests}
use Rattle.std.proofs.lemmas.List.Elements.{recursion_from_All}
use Rattle.meaning.specs.Algorithm.{Range, Change, Function}
use Rattle.meaning.specs.Conditions.{IsRange, IsUpdate}
use Rattle.meaning.specs.Points.{AreRanges, IsIn}
use Rattle.meaning.specs.Reduction.{size, rank}
use Rattle.meaning.specs.Value.{steps_of}
use Rattle.meaning.proofs.Alone.{all_at}
use Rattle.soundness.specs.Given.{function_named, update_in, steps_in, step_in, step_of, is_in, is_in_domain}
use Rattle.soundness.proofs.Calls.{stands}
use Rattle.soundness.specs.Nests.Laws.{ranges_in, DomainsAreCounted}

-- the update of a domain
record HasUpdate (o : Option Function) (k : ℕ) (ds : List Range) : Type 0 where
  pub function : Function
  pub change : Change
  pub named : o ≡ Some function
  pub stands_at : slice_get function.changes k ≡ Some change
  pub ranges : change.ranges ≡ ds

has_update : (o : Option Function) (k : ℕ) (ds : List Range) → ranges_in (update_in o (suc k)) ≡ Some ds → HasUpdate o k ds
has_update None k ds h = absurd (cc h)
has_update (Some f) k ds h = of (slice_get f.changes k) refl h
  where
    of : (u : Option Change) → slice_get f.changes k ≡ u → ranges_in u ≡ Some ds → HasUpdate (Some f) k ds
    of None e g = absurd (cc g)
    of (Some u) e g = record { function = f; change = u; named = refl; stands_at = e; ranges = let same : u.ranges ≡ ds = cc in same }

all_rise : (ds : List Range) → AllByRecursion IsRange ds → AreRanges ds
all_rise [] h = tt
all_rise (d ∷ ds) h = (h.0.rises, all_rise ds h.1)

steps_next : (us : List Change) (k : ℕ) (u : Change) → slice_get us k ≡ Some u → steps_of (take (suc k) us) ≡ steps_of (take k us) + size u.ranges
steps_next [] k u h = absurd (cc h)
steps_next (x ∷ us) zero u h = let same : x ≡ u = cc in ap (λ (y : Change). size y.ranges + 0) same ∙ (let none : size u.ranges + 0 ≡ 0 + size u.ranges = omega arith in none)
steps_next (x ∷ us) (suc k) u h = ap (λ n. size x.ranges + n) (steps_next us k u h) ∙ (let sum : size x.ranges + (steps_of (take k us) + size u.ranges) ≡ (size x.ranges + steps_of (take k us)) + size u.ranges = omega arith in sum)

is_most : (x y : ℤ) → x ≤ℤ y → IsTrue (int_le x y)
is_most x y h = grind (arith, nat_tests)

both : (a b : Bool) → IsTrue a → IsTrue b → IsTrue (a && b)
both true b h k = k
both false b h k = absurd (cc h)

ranges_have : (ds : List Range) (r : List ℤ) → IsIn ds r → IsTrue (is_in ds r)
ranges_have [] [] h = refl
ranges_have [] (z ∷ zs) h = absurd h
ranges_have (d ∷ ds) [] h = absurd h
ranges_have (d ∷ ds) (z ∷ zs) h = both (int_le d.low z && int_le z d.high) (is_in ds zs) (both (int_le d.low z) (int_le z d.high) (is_most d.low z h.0) (is_most z d.high h.1)) (ranges_have ds zs h.2)

steps_none : (o : Option Function) → steps_in o 0 ≡ 0
steps_none None = refl
steps_none (Some f) = refl

pub domains_are_counted : DomainsAreCounted
domains_are_counted a samples outline is = record {
  none = λ f. steps_none (function_named a.functions f);
  ranges = λ f k ds h.
      let u = has_update (function_named a.functions f) k ds h in
      let at = stands a.functions f u.function u.named in
      let update = all_at (IsUpdate a (take at.0 a.functions) u.function) u.function.changes k u.change (is.functions at.0 u.function at.1).updates u.stands_at in
      subst AreRanges u.ranges (all_rise u.change.ranges (recursion_from_All IsRange u.change.ranges update.domain.ranges));
  next = λ f k ds h.
      let u = has_update (function_named a.functions f) k ds h in
      ap (λ o. steps_in o (suc k)) u.named ∙ steps_next u.function.changes k u.change u.stands_at
      ∙ ap (λ o. steps_in o k + size u.change.ranges) (sym u.named) ∙ ap (λ es. steps_in (function_named a.functions f) k + size es) u.ranges;
  inside = λ f k ds r h i.
      let u = has_update (function_named a.functions f) k ds h in
      let here : is_in_domain (update_in (function_named a.functions f) (suc k)) r ≡ is_in ds r =
      ap (λ (o : Option Function). is_in_domain (update_in o (suc k)) r) u.named ∙ ap (λ (o : Option Change). is_in_domain o r) u.stands_at ∙ ap (λ es. is_in es r) u.ranges in
      subst IsTrue (sym here) (ranges_have ds r i);
  step = λ f k ds r h i.
      let u = has_update (function_named a.functions f) k ds h in
      ap (λ (o : Option Function). step_in o (suc k) r) u.named ∙ ap (λ (o : Option Change). step_of u.function k o r) u.stands_at
      ∙ ap (λ es. steps_in (Some u.function) k + rank es r) u.ranges ∙ ap (λ o. steps_in o k + rank ds r) (sym u.named);
}
