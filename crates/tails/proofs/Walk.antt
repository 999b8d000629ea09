-- What the steps allow is among what their turns visit.
use Rattle.std.proofs.Common.{◌≡◌, ℕ, Bool, true, false, List, [], ◌∷◌, ◌++◌, map, refl, sym, ap, ◌∙◌, subst, inl, inr, arith}
use Rattle.std.specs.Prelude.{ℤ, ◌≤ℤ◌, ◌==◌, ◌||◌, ◌&&◌, not, if◌then◌else◌, fold, flat_map, reverse, int_le}
use Rattle.std.specs.Int.{int_min, int_max}
use Rattle.std.specs.List.{list_any, list_all}
use Rattle.std.proofs.lemmas.Int.{ints}
use Rattle.std.proofs.lemmas.List.{reverse-append}
use Rattle.lin.specs.Forms.{Form, value_of}
use Rattle.lin.specs.Search.{is_empty}
use Rattle.lin.specs.declared.span.Span1.{Span1}
use Rattle.plan.specs.declared.stmt.Pick.{Pick}
use Rattle.plan.specs.declared.stmt.Pick.TheVariants.{Min, Max}
use Rattle.plan.specs.Symbols.{Symbols, bind, form_value, largest, smallest, turns}
use Rattle.soundness.specs.Claims.{In}
use Rattle.soundness.specs.Obligations.{Binder, Ranged, Picked, Passed, Respects, Lies, picked}
use Rattle.soundness.specs.Nests.Tests.{has_ends}
use Rattle.soundness.proofs.Forms.{is_not}
use Rattle.soundness.proofs.Refines.{and_parts, eq_true}
use Rattle.soundness.proofs.Sound.{or_left}
use Rattle.soundness.proofs.Turns.{turns_have}
use Rattle.tails.specs.Steps.{Step, Turns, Named, Tested, binder, binds, Keeps}
use Rattle.tails.specs.Moves.{is_outer}
use Rattle.tails.specs.Maps.{visited, is_beyond, is_new, is_scoped}
use Rattle.tails.specs.Laws.{point_at}
use Rattle.tails.proofs.Chosen.{respects_more, respects_head, respects_tail}
use Rattle.tails.proofs.Values.{bind_beside, bind_here}
use Rattle.tails.proofs.Lets.{outer_value, picked_holds}

-- ---- the steps from the outermost on

respects_left : (xs ys : List Binder) (t : Symbols) → Respects (xs ++ ys) t → Respects xs t
respects_left [] ys t h = tt
respects_left (x ∷ xs) ys t h = respects_more x xs t (respects_head x (xs ++ ys) t h) (respects_left xs ys t (respects_tail x (xs ++ ys) t h))

respects_right : (xs ys : List Binder) (t : Symbols) → Respects (xs ++ ys) t → Respects ys t
respects_right [] ys t h = h
respects_right (x ∷ xs) ys t h = respects_right xs ys t (respects_tail x (xs ++ ys) t h)

reverse_next : (x : Binder) (xs : List Binder) → reverse (x ∷ xs) ≡ reverse xs ++ x ∷ []
reverse_next x xs = reverse-append (x ∷ []) xs

pub respects_forward : (bs : List Binder) (t : Symbols) → Respects (reverse bs) t → Respects bs t
respects_forward [] t h = tt
respects_forward (b ∷ bs) t h =
    let k = subst (λ cs. Respects cs t) (reverse_next b bs) h in
    respects_more b bs t (respects_right (reverse bs) (b ∷ []) t k) (respects_forward bs t (respects_left (reverse bs) (b ∷ []) t k))

pub respects_both : (xs ys : List Binder) (t : Symbols) → Respects xs t → Respects ys t → Respects (xs ++ ys) t
respects_both [] ys t h k = k
respects_both (x ∷ xs) ys t h k = respects_more x (xs ++ ys) t (respects_head x xs t h) (respects_both xs ys t (respects_tail x xs t h) k)

pub respects_back : (bs : List Binder) (t : Symbols) → Respects bs t → Respects (reverse bs) t
respects_back [] t h = tt
respects_back (b ∷ bs) t h =
    subst (λ cs. Respects cs t) (sym (reverse_next b bs)) (respects_both (reverse bs) (b ∷ []) t (respects_back bs t (respects_tail b bs t h)) (respects_head b bs t h))

any_both : (f : Binder → Bool) (xs ys : List Binder) → list_any f (xs ++ ys) ≡ false → (list_any f xs ≡ false) × (list_any f ys ≡ false)
any_both f [] ys h = (refl, h)
any_both f (x ∷ xs) ys h = of (f x) refl h (λ k. any_both f xs ys k)
  where
    of : (v : Bool) → f x ≡ v → (v || list_any f (xs ++ ys)) ≡ false → (list_any f (xs ++ ys) ≡ false → (list_any f xs ≡ false) × (list_any f ys ≡ false)) → ((v || list_any f xs) ≡ false) × (list_any f ys ≡ false)
    of true e k rest = absurd (cc k)
    of false e k rest = rest k

pub any_forward : (f : Binder → Bool) (bs : List Binder) → list_any f (reverse bs) ≡ false → list_any f bs ≡ false
any_forward f [] h = h
any_forward f (b ∷ bs) h =
    let k = any_both f (reverse bs) (b ∷ []) (sym (ap (list_any f) (reverse_next b bs)) ∙ h) in
    let one : f b ≡ false = or_left (f b) false k.1 in
    ap (λ v. v || list_any f bs) one ∙ any_forward f bs k.0

any_append : (f : Binder → Bool) (xs ys : List Binder) → list_any f ys ≡ false → list_any f xs ≡ false → list_any f (xs ++ ys) ≡ false
any_append f [] ys h k = h
any_append f (x ∷ xs) ys h k = of (f x) refl k (λ m. any_append f xs ys h m)
  where
    of : (v : Bool) → f x ≡ v → (v || list_any f xs) ≡ false → (list_any f xs ≡ false → list_any f (xs ++ ys) ≡ false) → (v || list_any f (xs ++ ys)) ≡ false
    of true e k rest = absurd (cc k)
    of false e k rest = rest k

pub any_reverse : (f : Binder → Bool) (bs : List Binder) → list_any f bs ≡ false → list_any f (reverse bs) ≡ false
any_reverse f [] h = h
any_reverse f (b ∷ bs) h = of (f b) refl h (λ k. any_reverse f bs k)
  where
    of : (v : Bool) → f b ≡ v → (v || list_any f bs) ≡ false → (list_any f bs ≡ false → list_any f (reverse bs) ≡ false) → list_any f (reverse (b ∷ bs)) ≡ false
    of true e k rest = absurd (cc k)
    of false e k rest = ap (list_any f) (reverse_next b bs) ∙ any_append f (reverse bs) (b ∷ []) (ap (λ v. v || false) e) (rest k)

-- ---- lists

pub in_left : {A : Type 0} (x : A) (xs ys : List A) → In x xs → In x (xs ++ ys)
in_left x [] ys m = absurd m
in_left x (y ∷ xs) ys (inl e) = inl e
in_left x (y ∷ xs) ys (inr m) = inr (in_left x xs ys m)

pub in_right : {A : Type 0} (x : A) (xs ys : List A) → In x ys → In x (xs ++ ys)
in_right x [] ys m = m
in_right x (y ∷ xs) ys m = inr (in_right x xs ys m)

flat_has : {A B : Type 0} (f : A → List B) (y : B) (x : A) (xs : List A) → In x xs → In y (f x) → In y (flat_map f xs)
flat_has f y x [] m h = absurd m
flat_has f y x (z ∷ zs) (inl e) h = in_left y (f z) (flat_map f zs) (subst (λ w. In y (f w)) e h)
flat_has f y x (z ∷ zs) (inr m) h = in_right y (f z) (flat_map f zs) (flat_has f y x zs m h)

-- ---- one step

pub point_same : (fs : List Form) (s t : Symbols) → ((i : ℕ) → t.value i ≡ s.value i) → point_at fs t ≡ point_at fs s
point_same fs s t same = λ k. map (λ f. value_of f (λ j. same j k)) fs

pub forms_same : (bs : List Binder) (s t : Symbols) → Keeps bs s t → (fs : List Form) → list_all (is_outer bs) fs ≡ true → map (λ f. form_value f t) fs ≡ map (λ f. form_value f s) fs
forms_same bs s t k [] h = refl
forms_same bs s t k (f ∷ fs) h =
    let a = and_parts (is_outer bs f) (list_all (is_outer bs) fs) h in
    ap (λ v. v ∷ map (λ f. form_value f t) fs) (outer_value bs s t k f a.0) ∙ ap (λ vs. form_value f s ∷ vs) (forms_same bs s t k fs a.1)

pub outer_picked : (bs : List Binder) (s t : Symbols) → Keeps bs s t → (pick : Pick) (fs : List Form) → list_all (is_outer bs) fs ≡ true → picked pick fs t ≡ picked pick fs s
outer_picked bs s t k Min [] h = refl
outer_picked bs s t k Max [] h = refl
outer_picked bs s t k Min (f ∷ fs) h =
    let a = and_parts (is_outer bs f) (list_all (is_outer bs) fs) h in
    ap (λ v. fold int_min v (map (λ f. form_value f t) fs)) (outer_value bs s t k f a.0) ∙ ap (fold int_min (form_value f s)) (forms_same bs s t k fs a.1)
outer_picked bs s t k Max (f ∷ fs) h =
    let a = and_parts (is_outer bs f) (list_all (is_outer bs) fs) h in
    ap (λ v. fold int_max v (map (λ f. form_value f t) fs)) (outer_value bs s t k f a.0) ∙ ap (fold int_max (form_value f s)) (forms_same bs s t k fs a.1)

pub outer_turn : (bs : List Binder) (s t : Symbols) → Keeps bs s t → (x : Span1) (z : ℤ) → has_ends x ≡ true → list_all (is_outer bs) x.lower ≡ true → list_all (is_outer bs) x.upper ≡ true → Lies t x z → In z (turns s x)
outer_turn bs s t k x z ends low high lie =
    let a = and_parts (not (is_empty x.lower)) (not (is_empty x.upper)) ends in
    let l : largest t x.lower ≤ℤ z = picked_holds (λ v. v ≤ℤ z) t Max x.lower (is_not (is_empty x.lower) a.0) lie.0 in
    let u : z ≤ℤ smallest t x.upper = picked_holds (λ v. z ≤ℤ v) t Min x.upper (is_not (is_empty x.upper) a.1) lie.1 in
    turns_have s x (largest t x.lower) (smallest t x.upper) z (sym (outer_picked bs s t k Max x.lower low)) (sym (outer_picked bs s t k Min x.upper high)) l u

keeps_next : (b : Binder) (bs : List Binder) (i : ℕ) (s t : Symbols) (z : ℤ) (flag : Bool) → ((j : ℕ) → binds j b ≡ (j == i)) → Keeps (b ∷ bs) s t → t.value i ≡ z → Keeps bs (bind s i z flag) t
keeps_next b bs i s t z flag is k here j h = of (j == i) refl
  where
    of : (v : Bool) → (j == i) ≡ v → t.value j ≡ (bind s i z flag).value j
    of true e = ap t.value (eq_true j i e) ∙ here ∙ sym (bind_here s i z flag) ∙ ap (bind s i z flag).value (sym (eq_true j i e))
    of false e = k j (ap (λ v. v || list_any (binds j) bs) (is j ∙ e) ∙ h) ∙ sym (bind_beside s i z flag j e)

int_le_is : (a b : ℤ) → a ≤ℤ b → int_le a b ≡ true
int_le_is a b h = grind (ints, arith)

-- ---- all steps

pub walk : (steps : List Step) (fs : List Form) (s t : Symbols) → is_scoped (map binder steps) ≡ true → Respects (map binder steps) t → Keeps (map binder steps) s t → In (point_at fs t) (visited steps fs s)
walk [] fs s t scoped r k = inl (point_same fs s t (λ i. k i refl))
walk (Turns i x kind ∷ steps) fs s t scoped r k =
    let bs = map binder steps in
    let a = and_parts (is_beyond (Ranged i x ∷ bs) (Ranged i x)) (is_new bs (Ranged i x) && is_scoped bs) scoped in
    let b = and_parts (has_ends x) (list_all (is_outer (Ranged i x ∷ bs)) x.lower && list_all (is_outer (Ranged i x ∷ bs)) x.upper) a.0 in
    let c = and_parts (list_all (is_outer (Ranged i x ∷ bs)) x.lower) (list_all (is_outer (Ranged i x ∷ bs)) x.upper) b.1 in
    let d = and_parts (is_new bs (Ranged i x)) (is_scoped bs) a.1 in
    let z = t.value i in
    let flag = int_le z (largest s x.lower) in
    flat_has (λ z. visited steps fs (bind s i z (int_le z (largest s x.lower)))) (point_at fs t) z (turns s x)
    (outer_turn (Ranged i x ∷ bs) s t k x z b.0 c.0 c.1 r.0)
    (walk steps fs (bind s i z flag) t d.1 r.1 (keeps_next (Ranged i x) bs i s t z flag (λ j. refl) k refl))
walk (Named i pick ls ∷ steps) fs s t scoped r k =
    let bs = map binder steps in
    let a = and_parts (is_beyond (Picked i pick ls ∷ bs) (Picked i pick ls)) (is_new bs (Picked i pick ls) && is_scoped bs) scoped in
    let d = and_parts (is_new bs (Picked i pick ls)) (is_scoped bs) a.1 in
    walk steps fs (bind s i (picked pick ls s) true) t d.1 r.1
    (keeps_next (Picked i pick ls) bs i s t (picked pick ls s) true (λ j. refl) k (r.0 ∙ outer_picked (Picked i pick ls ∷ bs) s t k pick ls a.0))
walk (Tested low high ∷ steps) fs s t scoped r k = of (int_le (form_value low s) (form_value high s)) here (walk steps fs s t d.1 r.1 k)
  where
    bs : List Binder
    bs = map binder steps

    a : (is_beyond (Passed low high ∷ map binder steps) (Passed low high) ≡ true) × ((is_new (map binder steps) (Passed low high) && is_scoped (map binder steps)) ≡ true)
    a = and_parts (is_beyond (Passed low high ∷ map binder steps) (Passed low high)) (is_new (map binder steps) (Passed low high) && is_scoped (map binder steps)) scoped

    d : (is_new (map binder steps) (Passed low high) ≡ true) × (is_scoped (map binder steps) ≡ true)
    d = and_parts (is_new (map binder steps) (Passed low high)) (is_scoped (map binder steps)) a.1

    here : int_le (form_value low s) (form_value high s) ≡ true
    here =
        let b = and_parts (is_outer (Passed low high ∷ map binder steps) low) (is_outer (Passed low high ∷ map binder steps) high) a.0 in
        let first = outer_value (Passed low high ∷ map binder steps) s t k low b.0 in
        let second = outer_value (Passed low high ∷ map binder steps) s t k high b.1 in
        let order = r.0 in
        int_le_is (form_value low s) (form_value high s) (omega (arith, ints, first, second, order))

    of : (v : Bool) → v ≡ true → In (point_at fs t) (visited steps fs s) → In (point_at fs t) (if v then visited steps fs s else [])
    of true e m = m
    of false e m = absurd (cc e)
