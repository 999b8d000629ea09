-- Where no point is met by different turns, no point stands twice in what is visited.
use Rattle.std.proofs.Common.{◌≡◌, ℕ, zero, suc, Bool, true, false, List, [], ◌∷◌, ◌++◌, map, refl, sym, ◌∙◌, subst, inl, inr, arith}
use Rattle.std.specs.Prelude.{ℤ, pos, ◌+ℤ◌, ◌-ℤ◌, ◌≤ℤ◌, ◌==◌, ◌&&◌, if◌then◌else◌, flat_map, int_le}
use Rattle.std.specs.List.{AllByRecursion, list_any, list_all}
use Rattle.std.proofs.lemmas.Int.{ints}
use Rattle.lin.specs.Forms.{Form}
use Rattle.lin.specs.declared.span.Span1.{Span1}
use Rattle.plan.specs.declared.stmt.Pick.{Pick}
use Rattle.plan.specs.Symbols.{Symbols, bind, form_value, rising, clipped, largest, smallest, turns}
use Rattle.soundness.specs.Claims.{In}
use Rattle.soundness.specs.Obligations.{Binder, Ranged, Picked, Passed, Respects, Lies, picked}
use Rattle.soundness.specs.Nests.Tests.{has_ends}
use Rattle.soundness.proofs.Forms.{is_not, turn_lies}
use Rattle.soundness.proofs.Refines.{and_parts}
use Rattle.soundness.proofs.Sound.{or_left, or_right}
use Rattle.soundness.proofs.Turns.{in_append, in_flat}
use Rattle.tails.specs.Steps.{Step, Turns, Named, Tested, binder, along, binds, Keeps}
use Rattle.tails.specs.Moves.{is_outer, paired, spans_over}
use Rattle.tails.specs.Maps.{visited, is_beyond, is_new, is_scoped, is_some}
use Rattle.tails.specs.Laws.{point_at, AreDistinct, OnceIsDistinct}
use Rattle.tails.proofs.Values.{bind_beside, bind_here, int_le_true}
use Rattle.tails.proofs.Lets.{outer_value}
use Rattle.tails.proofs.Once.{each_is_once}
use Rattle.tails.proofs.Walk.{outer_picked, respects_back, any_forward}

-- ---- lists

distinct_append : (xs ys : List (List ℤ)) → AreDistinct xs → AreDistinct ys → ((p : List ℤ) → In p xs → In p ys → ⊥) → AreDistinct (xs ++ ys)
distinct_append [] ys a b apart = b
distinct_append (x ∷ xs) ys a b apart = (
  λ m. elim (in_append x xs ys m) [ inl n ↦ a.0 n | inr n ↦ apart x (inl refl) n ],
  distinct_append xs ys a.1 b (λ p m n. apart p (inr m) n),
)

rising_from : (n : ℕ) (low z : ℤ) → In z (rising low n) → low ≤ℤ z
rising_from zero low z m = absurd m
rising_from (suc n) low z (inl e) = omega (arith, ints, e)
rising_from (suc n) low z (inr m) = let k = rising_from n (low +ℤ pos 1) z m in omega (arith, ints, k)

flat_distinct : (g : ℤ → List (List ℤ)) (n : ℕ) (low : ℤ) → ((z : ℤ) → In z (rising low n) → AreDistinct (g z)) →
    ((z y : ℤ) (p : List ℤ) → In z (rising low n) → In y (rising low n) → In p (g z) → In p (g y) → z ≡ y) → AreDistinct (flat_map g (rising low n))
flat_distinct g zero low each apart = tt
flat_distinct g (suc n) low each apart =
    distinct_append (g low) (flat_map g (rising (low +ℤ pos 1) n)) (each low (inl refl))
    (flat_distinct g n (low +ℤ pos 1) (λ z m. each z (inr m)) (λ z y p m k a b. apart z y p (inr m) (inr k) a b))
    (λ p m k.
    let r = in_flat g p (rising (low +ℤ pos 1) n) k in
    let same = apart low r.0 p (inl refl) (inr r.1) m r.2 in
    let later = rising_from n (low +ℤ pos 1) r.0 r.1 in
    absurd (omega (arith, ints, same, later)))

-- ---- one step

pub outer_all : (P : ℤ → Type 0) (bs : List Binder) (s t : Symbols) → Keeps bs s t → (fs : List Form) → list_all (is_outer bs) fs ≡ true → AllByRecursion (λ f. P (form_value f s)) fs → AllByRecursion (λ f. P (form_value f t)) fs
outer_all P bs s t k [] h a = tt
outer_all P bs s t k (f ∷ fs) h a =
    let b = and_parts (is_outer bs f) (list_all (is_outer bs) fs) h in
    (subst P (sym (outer_value bs s t k f b.0)) a.0, outer_all P bs s t k fs b.1 a.1)

pub keeps_more : (b : Binder) (bs : List Binder) (i : ℕ) (s t : Symbols) (z : ℤ) (flag : Bool) → ((j : ℕ) → binds j b ≡ (j == i)) → Keeps bs (bind s i z flag) t → Keeps (b ∷ bs) s t
keeps_more b bs i s t z flag is k j h =
    k j (or_right (binds j b) (list_any (binds j) bs) h) ∙ bind_beside s i z flag j (sym (is j) ∙ or_left (binds j b) (list_any (binds j) bs) h)

-- what the later steps allow, with a turn of the loop
pub turn_more : (i : ℕ) (x : Span1) (bs : List Binder) (s t : Symbols) (z : ℤ) (flag : Bool) → is_scoped (Ranged i x ∷ bs) ≡ true → In z (turns s x) → Respects bs t → Keeps bs (bind s i z flag) t →
    Respects (Ranged i x ∷ bs) t × Keeps (Ranged i x ∷ bs) s t × (t.value i ≡ z)
turn_more i x bs s t z flag scoped m r k =
    let a = and_parts (is_beyond (Ranged i x ∷ bs) (Ranged i x)) (is_new bs (Ranged i x) && is_scoped bs) scoped in
    let b = and_parts (has_ends x) (list_all (is_outer (Ranged i x ∷ bs)) x.lower && list_all (is_outer (Ranged i x ∷ bs)) x.upper) a.0 in
    let c = and_parts (list_all (is_outer (Ranged i x ∷ bs)) x.lower) (list_all (is_outer (Ranged i x ∷ bs)) x.upper) b.1 in
    let d = and_parts (is_new bs (Ranged i x)) (is_scoped bs) a.1 in
    let here : t.value i ≡ z = k i (is_not (list_any (binds i) bs) d.0) ∙ bind_here s i z flag in
    let keeps : Keeps (Ranged i x ∷ bs) s t = keeps_more (Ranged i x) bs i s t z flag (λ j. refl) k in
    let lie = turn_lies s x z m in
    let turn : Lies t x z = (outer_all (λ v. v ≤ℤ z) (Ranged i x ∷ bs) s t keeps x.lower c.0 lie.0, outer_all (λ v. z ≤ℤ v) (Ranged i x ∷ bs) s t keeps x.upper c.1 lie.1) in
    ((subst (Lies t x) (sym here) turn, r), keeps, here)

pub let_more : (i : ℕ) (pick : Pick) (ls : List Form) (bs : List Binder) (s t : Symbols) → is_scoped (Picked i pick ls ∷ bs) ≡ true → Respects bs t → Keeps bs (bind s i (picked pick ls s) true) t →
    Respects (Picked i pick ls ∷ bs) t × Keeps (Picked i pick ls ∷ bs) s t
let_more i pick ls bs s t scoped r k =
    let a = and_parts (is_beyond (Picked i pick ls ∷ bs) (Picked i pick ls)) (is_new bs (Picked i pick ls) && is_scoped bs) scoped in
    let d = and_parts (is_new bs (Picked i pick ls)) (is_scoped bs) a.1 in
    let z = picked pick ls s in
    let here : t.value i ≡ z = k i (is_not (list_any (binds i) bs) d.0) ∙ bind_here s i z true in
    let keeps : Keeps (Picked i pick ls ∷ bs) s t = keeps_more (Picked i pick ls) bs i s t z true (λ j. refl) k in
    ((here ∙ sym (outer_picked (Picked i pick ls ∷ bs) s t keeps pick ls a.0), r), keeps)

pub guard_more : (low high : Form) (bs : List Binder) (s t : Symbols) → is_scoped (Passed low high ∷ bs) ≡ true → int_le (form_value low s) (form_value high s) ≡ true → Respects bs t → Keeps bs s t →
    Respects (Passed low high ∷ bs) t × Keeps (Passed low high ∷ bs) s t
guard_more low high bs s t scoped h r k =
    let a = and_parts (is_beyond (Passed low high ∷ bs) (Passed low high)) (is_new bs (Passed low high) && is_scoped bs) scoped in
    let b = and_parts (is_outer (Passed low high ∷ bs) low) (is_outer (Passed low high ∷ bs) high) a.0 in
    let first = outer_value (Passed low high ∷ bs) s t k low b.0 in
    let second = outer_value (Passed low high ∷ bs) s t k high b.1 in
    let order = int_le_true (form_value low s) (form_value high s) h in
    ((omega (arith, ints, first, second, order), r), k)

pub scoped_rest : (b : Binder) (bs : List Binder) → is_scoped (b ∷ bs) ≡ true → is_scoped bs ≡ true
scoped_rest b bs h = (and_parts (is_new bs b) (is_scoped bs) (and_parts (is_beyond (b ∷ bs) b) (is_new bs b && is_scoped bs) h).1).1

in_if : (v : Bool) (q : List ℤ) (xs : List (List ℤ)) → In q (if v then xs else []) → (v ≡ true) × In q xs
in_if true q xs m = (refl, m)
in_if false q xs m = absurd m

-- ---- all steps

-- what is visited is what the steps allow
pub walked : (steps : List Step) (fs : List Form) (s : Symbols) (q : List ℤ) → is_scoped (map binder steps) ≡ true → In q (visited steps fs s) →
    (t : Symbols) × Respects (map binder steps) t × Keeps (map binder steps) s t × (point_at fs t ≡ q)
walked [] fs s q scoped (inl e) = (s, tt, (λ i h. refl), sym e)
walked [] fs s q scoped (inr m) = absurd m
walked (Turns i x kind ∷ steps) fs s q scoped m =
    let f = in_flat (λ z. visited steps fs (bind s i z (int_le z (largest s x.lower)))) q (turns s x) m in
    let z = f.0 in
    let r = walked steps fs (bind s i z (int_le z (largest s x.lower))) q (scoped_rest (Ranged i x) (map binder steps) scoped) f.2 in
    let k = turn_more i x (map binder steps) s r.0 z (int_le z (largest s x.lower)) scoped f.1 r.1 r.2 in
    (r.0, k.0, k.1, r.3)
walked (Named i pick ls ∷ steps) fs s q scoped m =
    let r = walked steps fs (bind s i (picked pick ls s) true) q (scoped_rest (Picked i pick ls) (map binder steps) scoped) m in
    let k = let_more i pick ls (map binder steps) s r.0 scoped r.1 r.2 in
    (r.0, k.0, k.1, r.3)
walked (Tested low high ∷ steps) fs s q scoped m =
    let v = in_if (int_le (form_value low s) (form_value high s)) q (visited steps fs s) m in
    let r = walked steps fs s q (scoped_rest (Passed low high) (map binder steps) scoped) v.1 in
    let k = guard_more low high (map binder steps) s r.0 scoped v.0 r.1 r.2 in
    (r.0, k.0, k.1, r.3)

-- two that the steps allow, and that meet one point, are the same
abbrev Fixed : List Step → List Form → Symbols → Type 0
Fixed steps fs s =
    (t u : Symbols) → Respects (map binder steps) t → Respects (map binder steps) u → Keeps (map binder steps) s t → Keeps (map binder steps) s u → point_at fs t ≡ point_at fs u → (j : ℕ) → u.value j ≡ t.value j

distinct : (steps : List Step) (fs : List Form) (s : Symbols) → is_scoped (map binder steps) ≡ true → Fixed steps fs s → AreDistinct (visited steps fs s)
distinct [] fs s scoped fixed = ((λ m. m), tt)
distinct (Turns i x kind ∷ steps) fs s scoped fixed =
    let bs = map binder steps in
    let flag : ℤ → Bool = λ z. int_le z (largest s x.lower) in
    let g : ℤ → List (List ℤ) = λ z. visited steps fs (bind s i z (flag z)) in
    let inner = scoped_rest (Ranged i x) bs scoped in
    flat_distinct g (clipped ((smallest s x.upper +ℤ pos 1) -ℤ largest s x.lower)) (largest s x.lower)
    (λ z m. distinct steps fs (bind s i z (flag z)) inner
    (λ t u rt ru kt ku same.
    let a = turn_more i x bs s t z (flag z) scoped m rt kt in
    let b = turn_more i x bs s u z (flag z) scoped m ru ku in
    fixed t u a.0 b.0 a.1 b.1 same))
    (λ z y p m n h k.
    let t = walked steps fs (bind s i z (flag z)) p inner h in
    let u = walked steps fs (bind s i y (flag y)) p inner k in
    let a = turn_more i x bs s t.0 z (flag z) scoped m t.1 t.2 in
    let b = turn_more i x bs s u.0 y (flag y) scoped n u.1 u.2 in
    sym a.2 ∙ sym (fixed t.0 u.0 a.0 b.0 a.1 b.1 (t.3 ∙ sym u.3) i) ∙ b.2)
distinct (Named i pick ls ∷ steps) fs s scoped fixed =
    let bs = map binder steps in
    distinct steps fs (bind s i (picked pick ls s) true) (scoped_rest (Picked i pick ls) bs scoped)
    (λ t u rt ru kt ku same.
    let a = let_more i pick ls bs s t scoped rt kt in
    let b = let_more i pick ls bs s u scoped ru ku in
    fixed t u a.0 b.0 a.1 b.1 same)
distinct (Tested low high ∷ steps) fs s scoped fixed = of (int_le (form_value low s) (form_value high s)) refl (λ inner. distinct steps fs s (scoped_rest (Passed low high) (map binder steps) scoped) inner)
  where
    of : (v : Bool) → int_le (form_value low s) (form_value high s) ≡ v → (Fixed steps fs s → AreDistinct (visited steps fs s)) → AreDistinct (if v then visited steps fs s else [])
    of false e rest = tt
    of true e rest =
        rest
        (λ t u rt ru kt ku same.
        let a = guard_more low high (map binder steps) s t scoped e rt kt in
        let b = guard_more low high (map binder steps) s u scoped e ru ku in
        fixed t u a.0 b.0 a.1 b.1 same)

pub once_is_distinct : OnceIsDistinct
once_is_distinct steps fs s h =
    distinct steps fs s (and_parts (is_scoped (map binder steps)) (is_some (spans_over true (λ a b. false) (paired (along steps)) fs)) h).0
    (λ t u rt ru kt ku same.
    each_is_once steps fs t u h (respects_back (map binder steps) t rt) (respects_back (map binder steps) u ru)
    (λ i k. let lacks = any_forward (binds i) (map binder steps) k in ku i lacks ∙ sym (kt i lacks)) same)
