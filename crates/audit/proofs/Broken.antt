-- Own lines before the first broken line of own and needed regions.
use Rattle.std.proofs.Common.{◌≡◌, ℕ, zero, suc, ◌+◌, ◌<◌, ◌≤◌, List, [], ◌∷◌, ◌++◌, length, take, Bool, true, false, Option, Some, None, refl, sym, ap, ◌∙◌, arith, subst, inl, inr}
use Rattle.std.specs.Prelude.{◌==◌, ◌||◌, not, slice_get, MatchOption}
use Rattle.std.specs.List.{list_all, range_with_len}
use Rattle.std.proofs.lemmas.Bool.{cases_eq, false≢true}
use Rattle.std.proofs.lemmas.Bool.Decides.{nat_tests}
use Rattle.std.proofs.lemmas.Option.{slice_get_within}
use Rattle.lin.specs.declared.span.Span1.{Span1}
use Rattle.plan.specs.Plan.{Group, Plan}
use Rattle.plan.specs.Lines.{certificate_line}
use Rattle.plan.specs.declared.certificate.cert.Own.{Own}
use Rattle.plan.specs.Certificate.Certificate.{Certificate}
use Rattle.plan.specs.Certificate.Cells.{own_region}
use Rattle.plan.specs.Certificate.Lines.{own_line}
use Rattle.soundness.specs.Outline.Flaws.{Flaw as Said, first_of, line_told, told, unless}
use Rattle.soundness.specs.Outline.Forms.{grid_symbols, have_ends, spans_are_over, spans_are_within_limits}
use Rattle.soundness.specs.Outline.Refusals.Codes.{number_of}
use Rattle.soundness.specs.declared.outline.refusals.code.Flaw.{Flaw}
use Rattle.soundness.proofs.Refines.{and_parts, eq_true}
use Rattle.shares.specs.Before.{AreLikeBefore}
use Rattle.shares.specs.Made.{own_place}
use Rattle.shares.specs.Shared.{IsLike}
use Rattle.validation.specs.Certificate.Lines.{each_line, line_flaws}
use Rattle.validation.specs.Certificate.Certificate.{are_owned, flaws_of_regions, is_owned, is_region_of, need_flaws, own_flaws, own_is_known}
use Rattle.audit.specs.Stand.{IsGroupOf}
use Rattle.audit.proofs.OfVerdict.Lists.{spans_limited}

-- ---- the first flaw of lines one behind the other

abbrev head_line : List Said → ℕ
head_line [] = 0
head_line (z ∷ zs) = z.line

abbrev line_or_none : Option Said → ℕ
line_or_none None = 0
line_or_none (Some z) = z.line

first_at : (known small listed : Bool) (line : ℕ) (z : Said) (zs : List Said) → line_flaws known small listed line ≡ z ∷ zs → z.line ≡ line
first_at false small listed line z zs e = sym (ap head_line e)
first_at true false listed line z zs e = sym (ap head_line e)
first_at true true false line z zs e = sym (ap head_line e)
first_at true true true line z zs e = absurd (cc e)

module _ (f : ℕ → Own → List Said) (base : ℕ) (at : (i : ℕ) (x : Own) (z : Said) (zs : List Said) → f i x ≡ z ∷ zs → z.line ≡ base + i) (b : Said) (rest : List Said) where
  here_none : (i : ℕ) (y : Own) (ys : List Own) → first_of (each_line f i (y ∷ ys) ++ rest) ≡ Some b → (k : ℕ) → i ≤ k → line_told (base + k) < b.line → f i y ≡ []
  here_none i y ys first k from less = of (f i y) refl
    where
      of : (zs : List Said) → f i y ≡ zs → zs ≡ []
      of [] is = refl
      of (z ∷ zs) is =
          let here : first_of (((z ∷ zs) ++ each_line f (i + 1) ys) ++ rest) ≡ Some b = subst (λ (qs : List Said). first_of ((qs ++ each_line f (i + 1) ys) ++ rest) ≡ Some b) is first in
          let line : line_told z.line ≡ b.line = ap line_or_none here in
          let stands = at i y z zs is in
          absurd (omega (arith, line, stands, from, less))

  -- a line before that of the first flaw has none
  each_first : (i : ℕ) (xs : List Own) → first_of (each_line f i xs ++ rest) ≡ Some b → (j k : ℕ) (x : Own) → k ≡ i + j → slice_get xs j ≡ Some x → line_told (base + k) < b.line → f k x ≡ []
  each_first i [] first j k x e there less = absurd (cc there)
  each_first i (y ∷ ys) first zero k x e there less =
      let same : k ≡ i = omega (arith, e) in
      let one : y ≡ x = cc there in
      ap (λ (m : ℕ). f m x) same ∙ ap (f i) (sym one) ∙ here_none i y ys first k (omega (arith, e)) less
  each_first i (y ∷ ys) first (suc j) k x e there less =
      let none = here_none i y ys first k (omega (arith, e)) less in
      let next : first_of (each_line f (i + 1) ys ++ rest) ≡ Some b = subst (λ (qs : List Said). first_of ((qs ++ each_line f (i + 1) ys) ++ rest) ≡ Some b) none first in
      each_first (i + 1) ys next j k x (omega (arith, e)) there less

-- where the first flaw is behind the line `cert`, each group has an own line
cert_none : (owned : Bool) (line : ℕ) (rest : List Said) (b : Said) (i : ℕ) → first_of (unless owned 10 line ++ rest) ≡ Some b → line_told (own_line line i) < b.line → (owned ≡ true) × (first_of rest ≡ Some b)
cert_none true line rest b i first less = (refl, first)
cert_none false line rest b i first less = absurd (let here : line_told line ≡ b.line = ap line_or_none first in omega (arith, here, less))

each_number : (f : ℕ → Bool) (a count n : ℕ) → list_all f (range_with_len a count) ≡ true → a ≤ n → n < a + count → f n ≡ true
each_number f a zero n h from to = absurd (omega (arith, from, to))
each_number f a (suc count) n h from to =
    let parts = and_parts (f a) (list_all f (range_with_len (a + 1) count)) h in
    elim (cases_eq a n) [
      | inl same ↦ subst (λ (m : ℕ). f m ≡ true) same parts.0
      | inr other ↦ each_number f (a + 1) count n parts.1 (omega (arith, from, other)) (omega (arith, to))
    ]

-- ---- the own line of a group

-- at its place
record OwnedAt (os : List Own) (n : ℕ) : Type 0 where
  own : Own
  there : slice_get os (own_place os n) ≡ Some own
  group : own.group ≡ n
  region : own_region os n ≡ Some own.region

owned_later : (o : Own) (os : List Own) (n : ℕ) → (o.group == n) ≡ false → OwnedAt os n → OwnedAt (o ∷ os) n
owned_later o os n e k = record { own = k.own; there = rw e k.there; group = k.group; region = rw e k.region }

owned_at : (os : List Own) (n : ℕ) → is_owned os n ≡ true → OwnedAt os n
owned_at [] n h = absurd (false≢true h)
owned_at (o ∷ os) n h = of (o.group == n) refl (λ later. owned_at os n later)
  where
    of : (t : Bool) → (o.group == n) ≡ t → (is_owned os n ≡ true → OwnedAt os n) → OwnedAt (o ∷ os) n
    of true e rest = record { own = o; there = rw e refl; group = grind (arith, nat_tests, e); region = rw e refl }
    of false e rest = owned_later o os n e (rest (ap (λ (t : Bool). t || is_owned os n) (sym e) ∙ h))

-- a line without a flaw
line_none : (known small listed : Bool) (line : ℕ) → line_flaws known small listed line ≡ [] → (known ≡ true) × (small ≡ true)
line_none true true listed line h = (refl, refl)
line_none true false listed line h = absurd (cc h)
line_none false small listed line h = absurd (cc h)

long_region : (o : Option Group) (g : Group) (region : List Span1) → o ≡ Some g → is_region_of o region ≡ true → length region ≡ length g.region
long_region None g region at h = absurd (cc at)
long_region (Some x) g region at h =
    let same : x ≡ g = cc at in
    let long : (length region == length x.region) ≡ true = (and_parts (length region == length x.region) (spans_are_over (grid_symbols (length x.grid)) region) h).0 in
    eq_true (length region) (length x.region) long ∙ ap (λ (y : Group). length y.region) same

-- own regions whose lines stand before the first broken one are like their groups'
pub like_before : (p : Plan) (c : Certificate) (b : Flaw) → told (Some b) ≡ first_of (flaws_of_regions p c) → AreLikeBefore p c b.line
like_before p c b is n g at before =
    let s : Said = record { code = number_of b.code; line = b.line } in
    let place = own_place c.own n in
    let needs = each_line (need_flaws p c) 0 c.needs in
    let owns = each_line (own_flaws p c) 0 c.own in
    let cert = cert_none (are_owned c.own (length p.groups)) (certificate_line p) (owns ++ needs) s place (sym is) before in
    let within = slice_get_within p.groups n g at in
    let o = owned_at c.own n (each_number (is_owned c.own) 0 (length p.groups) n cert.0 (omega arith) (omega (arith, within))) in
    let At : ℕ → Own → Type 0 = λ i x. (z : Said) (zs : List Said) → own_flaws p c i x ≡ z ∷ zs → z.line ≡ certificate_line p + 1 + i in
    let stand : (i : ℕ) (x : Own) → At i x = λ i x z zs e. first_at (own_is_known p.groups (take i c.own) x) (spans_are_within_limits x.region) (have_ends x.region) (own_line (certificate_line p) i) z zs e in
    let none : own_flaws p c place o.own ≡ [] = each_first (own_flaws p c) (certificate_line p + 1) stand s needs 0 c.own cert.1 place place o.own (omega arith) o.there before in
    let line = line_none (own_is_known p.groups (take place c.own) o.own) (spans_are_within_limits o.own.region) (have_ends o.own.region) (own_line (certificate_line p) place) none in
    let known = (and_parts (not (is_owned (take place c.own) o.own.group)) (is_region_of (slice_get p.groups o.own.group) o.own.region) line.0).1 in
    let long = long_region (slice_get p.groups o.own.group) g o.own.region (ap (slice_get p.groups) o.group ∙ at) known in
    subst (λ (r : Option (List Span1)). MatchOption r ⊥ (λ xs. IsLike xs (length g.region))) (sym o.region) (spans_limited o.own.region line.1, long)

-- ---- a group that is there

pub some_group : (gs : List Group) (f : List ℕ) (n : ℕ) → IsGroupOf gs f n → 1 ≤ length gs
some_group [] f n h = absurd h
some_group (g ∷ gs) f n h = omega arith
