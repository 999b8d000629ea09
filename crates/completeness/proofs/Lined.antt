-- Each group that is made has a line of what its pieces own.
use Rattle.std.proofs.Common.{◌≡◌, ℕ, zero, suc, ◌+◌, ◌≤◌, Bool, true, false, ◌||◌, List, [], ◌∷◌, length, map, Some, refl, ap, ◌∙◌, arith}
use Rattle.std.specs.Prelude.{◌==◌, ◌&&◌, take, slice_get}
use Rattle.std.specs.List.{list_all, range_with_len}
use Rattle.std.proofs.lemmas.Bool.Decides.{nat_tests}
use Rattle.plan.specs.declared.plan.Group.{Group}
use Rattle.plan.specs.declared.certificate.cert.Own.{Own}
use Rattle.plan.specs.View.{group_of, plan_of}
use Rattle.plan.specs.Lines.{certificate_line}
use Rattle.soundness.specs.Outline.Flaws.{unless}
use Rattle.soundness.proofs.Refines.{eq_refl}
use Rattle.validation.specs.Certificate.Certificate.{is_owned, are_owned}
use Rattle.headline.proofs.Lists.{at_map}
use Rattle.lower.specs.Groups.{AreOwned}
use Rattle.completeness.specs.Laws.{OwnLinesStand}

-- with any lines before them
either_true : (a : Bool) → (a || true) ≡ true
either_true true = refl
either_true false = refl

later : (o : Own) (os : List Own) (n : ℕ) → is_owned os n ≡ true → is_owned (o ∷ os) n ≡ true
later o os n h = ap (λ (b : Bool). (o.group == n) || b) h ∙ either_true (o.group == n)

abbrev Covers : List Own → ℕ → ℕ → Type 0
Covers os m count = list_all (is_owned os) (range_with_len m count) ≡ true

wider : (o : Own) (os : List Own) (m count : ℕ) → Covers os m count → Covers (o ∷ os) m count
wider o os m zero h = refl
wider o os m (suc count) h =
    let now = later o os m (first (is_owned os m) (list_all (is_owned os) (range_with_len (m + 1) count)) h) in
    let rest = wider o os (m + 1) count (second (is_owned os m) (list_all (is_owned os) (range_with_len (m + 1) count)) h) in
    ap (λ (b : Bool). b && list_all (is_owned (o ∷ os)) (range_with_len (m + 1) count)) now ∙ rest
  where
    first : (a b : Bool) → (a && b) ≡ true → a ≡ true
    first true b e = refl
    first false b e = e

    second : (a b : Bool) → (a && b) ≡ true → b ≡ true
    second true b e = e
    second false b e = absurd (cc e)

covered : (ps : List Group) (os : List Own) (m : ℕ) → AreOwned m ps os → Covers os m (length ps)
covered [] os m h = refl
covered (p ∷ ps) [] m h = absurd h
covered (p ∷ ps) (o ∷ os) m h =
    let own : o.group ≡ m = h.0.numbered in
    let here : is_owned (o ∷ os) m ≡ true = ap (λ (x : ℕ). (x == m) || is_owned os m) own ∙ ap (λ (b : Bool). b || is_owned os m) (eq_refl m) in
    ap (λ (b : Bool). b && list_all (is_owned (o ∷ os)) (range_with_len (m + 1) (length ps))) here ∙ wider o os (m + 1) (length ps) (covered ps os (m + 1) h.1)

mapped : (ps : List Group) → length (map group_of ps) ≡ length ps
mapped [] = refl
mapped (p ∷ ps) = ap suc (mapped ps)

-- the line of a group has its place among them
pub numbered : (ps : List Group) (os : List Own) (m : ℕ) → AreOwned m ps os → (i : ℕ) (o : Own) → slice_get os i ≡ Some o → o.group ≡ m + i
numbered ps [] m h i o at = absurd (cc at)
numbered [] (w ∷ os) m h i o at = absurd h
numbered (p ∷ ps) (w ∷ os) m h zero o at =
    let same : w ≡ o = cc at in
    let is : w.group ≡ m = h.0.numbered in
    let of : w.group ≡ o.group = ap (λ (x : Own). x.group) same in
    omega (arith, is, of)
numbered (p ∷ ps) (w ∷ os) m h (suc i) o at = let e : o.group ≡ (m + 1) + i = numbered ps os (m + 1) h.1 i o at in omega (arith, e)

-- and those before it are of other groups
pub before : (ps : List Group) (os : List Own) (m : ℕ) → AreOwned m ps os → (i n : ℕ) → m + i ≤ n → is_owned (take i os) n ≡ false
before ps os m h zero n less = refl
before ps [] m h (suc i) n less = refl
before [] (w ∷ os) m h (suc i) n less = absurd h
before (p ∷ ps) (w ∷ os) m h (suc i) n less =
    let is : w.group ≡ m = h.0.numbered in
    let differs : (w.group ≡ n → ⊥) = λ e. omega (arith, is, e, less) in
    let test : (w.group == n) ≡ false = grind (arith, nat_tests) in
    ap (λ (b : Bool). b || is_owned (take i os) n) test ∙ before ps os (m + 1) h.1 i n (omega (arith, less))

pub there : (ps : List Group) (os : List Own) (m : ℕ) → AreOwned m ps os → (i : ℕ) (o : Own) → slice_get os i ≡ Some o → (p : Group) × (slice_get ps i ≡ Some p)
there ps [] m h i o at = absurd (cc at)
there [] (w ∷ os) m h i o at = absurd h
there (p ∷ ps) (w ∷ os) m h zero o at = (p, refl)
there (p ∷ ps) (w ∷ os) m h (suc i) o at = there ps os (m + 1) h.1 i o at

pub lined : OwnLinesStand
lined a s l made =
    let p = plan_of l.plan in
    let ps = l.plan.groups.items in
    let os = l.certificate.own.items in
    let all : are_owned os (length ps) ≡ true = covered ps os 0 made.owned in
    let told : are_owned os (length p.groups) ≡ true = ap (are_owned os) (mapped ps) ∙ all in
    let place : (i : ℕ) (o : Own) → slice_get os i ≡ Some o → o.group ≡ i = λ i o at. let e : o.group ≡ 0 + i = numbered ps os 0 made.owned i o at in omega (arith, e) in
    record {
      each = ap (λ (b : Bool). unless b 10 (certificate_line p)) told;
      once = λ i o at. let e : o.group ≡ i = place i o at in before ps os 0 made.owned i o.group (omega (arith, e));
      known = λ i o at.
          let e : o.group ≡ i = place i o at in
          let g = there ps os 0 made.owned i o at in
          (group_of g.0, ap (slice_get p.groups) e ∙ at_map group_of ps i g.0 g.1);
    }
