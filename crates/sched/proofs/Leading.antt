-- Steps that lead from symbols to symbols: what they lead to is among what the steps, as plans run them, arrive with.
use Rattle.std.proofs.Common.{◌≡◌, ℕ, zero, suc, ◌<◌, Bool, true, false, List, [], ◌∷◌, ◌++◌, length, map, get_or, refl, sym, subst, inl, inr, arith}
use Rattle.std.specs.Prelude.{ℤ, pos, negsuc, ◌+ℤ◌, ◌-ℤ◌, ◌≤ℤ◌, ◌<ℤ◌, ◌⊎◌, if◌then◌else◌, fold, int_le, int_lt, cond, Contains}
use Rattle.std.specs.List.{AllByRecursion, flat_map}
use Rattle.std.specs.Int.{int_min}
use Rattle.std.proofs.lemmas.Int.{ints, by_lt_z}
use Rattle.lin.specs.Forms.{Form, number}
use Rattle.plan.specs.Symbols.{Symbols, bind, form_value, largest, smallest, turns, rising, clipped}
use Rattle.sched.specs.declared.skeleton.Step.{Step}
use Rattle.sched.specs.declared.skeleton.Step.TheVariants.{Turns, Named, Tested}
use Rattle.sched.specs.Skeleton.{span}
use Rattle.sched.specs.Visits.{picked, arrivals}

-- ---- lists

abbrev pub In : {A : Type 0} → A → List A → Type 0
In a [] = ⊥
In a (b ∷ bs) = (a ≡ b) ⊎ In a bs

pub contained : {A : Type 0} (a : A) (xs : List A) → In a xs → Contains xs a
contained a [] m = absurd m
contained a (x ∷ xs) (inl e) = (0, omega arith, sym e)
contained a (x ∷ xs) (inr m) = let k = contained a xs m in (suc k.0, omega (arith, k.1), k.2)

pub in_left : {A : Type 0} (a : A) (xs ys : List A) → In a xs → In a (xs ++ ys)
in_left a [] ys m = absurd m
in_left a (x ∷ xs) ys (inl e) = inl e
in_left a (x ∷ xs) ys (inr m) = inr (in_left a xs ys m)

pub in_right : {A : Type 0} (a : A) (xs ys : List A) → In a ys → In a (xs ++ ys)
in_right a [] ys m = m
in_right a (x ∷ xs) ys m = inr (in_right a xs ys m)

in_flat : {A B : Type 0} (f : A → List B) (b : B) (a : A) (xs : List A) → In a xs → In b (f a) → In b (flat_map f xs)
in_flat f b a [] m h = absurd m
in_flat f b a (x ∷ xs) (inl e) h = in_left b (f x) (flat_map f xs) (subst (λ y. In b (f y)) e h)
in_flat f b a (x ∷ xs) (inr m) h = in_right b (f x) (flat_map f xs) (in_flat f b a xs m h)

-- ---- the turns of a loop

rising_has : (n : ℕ) (low z : ℤ) → low ≤ℤ z → z <ℤ (low +ℤ pos n) → In z (rising low n)
rising_has zero low z h k = absurd (omega (arith, ints))
rising_has (suc n) low z h k = by_lt_z low z (λ l. inr (rising_has n (low +ℤ pos 1) z (omega (arith, ints)) (omega (arith, ints)))) (λ l. inl (omega (arith, ints)))

clip_has : (w low high z : ℤ) → w ≡ (high +ℤ pos 1) -ℤ low → low ≤ℤ z → z ≤ℤ high → In z (rising low (clipped w))
clip_has (pos n) low high z e h k = rising_has n low z h (omega (arith, ints))
clip_has (negsuc n) low high z e h k = absurd (omega (arith, ints))

-- a number is a form that does not name symbols
pub number_is : (z : ℤ) (s : Symbols) → form_value (number z) s ≡ z
number_is z s = omega (arith, ints)

-- at most both is at most the smaller
pub min_least : (a b z : ℤ) → z ≤ℤ a → z ≤ℤ b → z ≤ℤ int_min a b
min_least a b z h k = of (int_lt b a)
  where
    of : (v : Bool) → z ≤ℤ cond v b a
    of true = k
    of false = h

-- at most the first, and each of the others
fold_least : (s : Symbols) (z low : ℤ) (ls : List Form) → z ≤ℤ low → AllByRecursion (λ l. z ≤ℤ form_value l s) ls → z ≤ℤ fold int_min low (map (λ m. form_value m s) ls)
fold_least s z low [] h a = h
fold_least s z low (l ∷ ls) h a = fold_least s z (int_min low (form_value l s)) ls (min_least low (form_value l s) z h a.0) a.1

-- a number from low to last that is at most each limit is a turn
pub is_turn : (s : Symbols) (low last z : ℤ) (limits : List Form) → low ≤ℤ z → z ≤ℤ last → AllByRecursion (λ l. z ≤ℤ form_value l s) limits → In z (turns s (span low last limits))
is_turn s low last z limits h k a =
    let first : largest s (span low last limits).lower ≡ low = number_is low s in
    let end : z ≤ℤ smallest s (span low last limits).upper = fold_least s z (form_value (number last) s) limits (let e = number_is last s in omega (arith, ints, e, k)) a in
    clip_has _ (largest s (span low last limits).lower) (smallest s (span low last limits).upper) z refl (omega (arith, ints, first, h)) end

-- ---- ways

-- the steps lead from the one to the other: by a turn of each loop, what each let names, and past each guard
abbrev pub Leads : List Step → Symbols → Symbols → Type 0
Leads [] s t = t ≡ s
Leads (Turns i x kind ∷ steps) s t = (z : ℤ) × In z (turns s x) × Leads steps (bind s i z (int_le z (largest s x.lower))) t
Leads (Named i pick ls ∷ steps) s t = Leads steps (bind s i (picked pick ls s) true) t
Leads (Tested low high ∷ steps) s t = (form_value low s ≤ℤ form_value high s) × Leads steps s t

pub leads_on : (xs ys : List Step) (s t u : Symbols) → Leads xs s t → Leads ys t u → Leads (xs ++ ys) s u
leads_on [] ys s t u h k = subst (λ v. Leads ys v u) h k
leads_on (Turns i x kind ∷ xs) ys s t u h k = (h.0, h.1, leads_on xs ys (bind s i h.0 (int_le h.0 (largest s x.lower))) t u h.2 k)
leads_on (Named i pick ls ∷ xs) ys s t u h k = leads_on xs ys (bind s i (picked pick ls s) true) t u h k
leads_on (Tested low high ∷ xs) ys s t u h k = (h.0, leads_on xs ys s t u h.1 k)

-- the way there, and on
pub leads_apart : (xs ys : List Step) (s u : Symbols) → Leads (xs ++ ys) s u → (t : Symbols) × Leads xs s t × Leads ys t u
leads_apart [] ys s u h = (s, refl, h)
leads_apart (Turns i x kind ∷ xs) ys s u h = let k = leads_apart xs ys (bind s i h.0 (int_le h.0 (largest s x.lower))) u h.2 in (k.0, (h.0, h.1, k.1), k.2)
leads_apart (Named i pick ls ∷ xs) ys s u h = leads_apart xs ys (bind s i (picked pick ls s) true) u h
leads_apart (Tested low high ∷ xs) ys s u h = let k = leads_apart xs ys s u h.1 in (k.0, (h.0, k.1), k.2)

int_le_is : (a b : ℤ) → a ≤ℤ b → int_le a b ≡ true
int_le_is a b h = grind (ints, arith)

arrives : (steps : List Step) (s t : Symbols) → Leads steps s t → In t (arrivals steps s)
arrives [] s t h = inl h
arrives (Turns i x kind ∷ steps) s t h =
    in_flat (λ z. arrivals steps (bind s i z (int_le z (largest s x.lower)))) t h.0 (turns s x) h.1
    (arrives steps (bind s i h.0 (int_le h.0 (largest s x.lower))) t h.2)
arrives (Named i pick ls ∷ steps) s t h = arrives steps (bind s i (picked pick ls s) true) t h
arrives (Tested low high ∷ steps) s t h = of (int_le (form_value low s) (form_value high s)) (int_le_is (form_value low s) (form_value high s) h.0) (arrives steps s t h.1)
  where
    of : (v : Bool) → v ≡ true → In t (arrivals steps s) → In t (if v then arrivals steps s else [])
    of true e m = m
    of false e m = absurd (cc e)

pub arrives_at : (steps : List Step) (s t : Symbols) → Leads steps s t → Contains (arrivals steps s) t
arrives_at steps s t h = contained t (arrivals steps s) (arrives steps s t h)

-- ---- and back

int_le_says : (a b : ℤ) → int_le a b ≡ true → a ≤ℤ b
int_le_says a b e = grind (ints, arith)

pub in_append : {A : Type 0} (a : A) (xs ys : List A) → In a (xs ++ ys) → In a xs ⊎ In a ys
in_append a [] ys m = inr m
in_append a (x ∷ xs) ys (inl e) = inl (inl e)
in_append a (x ∷ xs) ys (inr m) = of (in_append a xs ys m)
  where
    of : In a xs ⊎ In a ys → In a (x ∷ xs) ⊎ In a ys
    of (inl n) = inl (inr n)
    of (inr n) = inr n

flat_in : {A B : Type 0} (f : A → List B) (b : B) (xs : List A) → In b (flat_map f xs) → (a : A) × In a xs × In b (f a)
flat_in f b [] m = absurd m
flat_in f b (x ∷ xs) m = of (in_append b (f x) (flat_map f xs) m) (λ n. flat_in f b xs n)
  where
    of : In b (f x) ⊎ In b (flat_map f xs) → (In b (flat_map f xs) → (a : _) × In a xs × In b (f a)) → (a : _) × In a (x ∷ xs) × In b (f a)
    of (inl n) rest = (x, inl refl, n)
    of (inr n) rest = let k = rest n in (k.0, inr k.1, k.2)

leads_to : (steps : List Step) (s t : Symbols) → In t (arrivals steps s) → Leads steps s t
leads_to [] s t (inl e) = e
leads_to [] s t (inr m) = absurd m
leads_to (Turns i x kind ∷ steps) s t m =
    let k = flat_in (λ z. arrivals steps (bind s i z (int_le z (largest s x.lower)))) t (turns s x) m in
    (k.0, k.1, leads_to steps (bind s i k.0 (int_le k.0 (largest s x.lower))) t k.2)
leads_to (Named i pick ls ∷ steps) s t m = leads_to steps (bind s i (picked pick ls s) true) t m
leads_to (Tested low high ∷ steps) s t m = of (int_le (form_value low s) (form_value high s)) refl m (λ k. leads_to steps s t k)
  where
    of : (v : Bool) → int_le (form_value low s) (form_value high s) ≡ v → In t (if v then arrivals steps s else []) → (In t (arrivals steps s) → Leads steps s t) →
        (form_value low s ≤ℤ form_value high s) × Leads steps s t
    of true e k rest = (int_le_says (form_value low s) (form_value high s) e, rest k)
    of false e k rest = absurd k

in_contained : {A : Type 0} (xs : List A) (a : A) (n : ℕ) → n < length xs → get_or xs n a ≡ a → In a xs
in_contained [] a n lt e = absurd (omega (arith, lt))
in_contained (x ∷ xs) a zero lt e = inl (sym e)
in_contained (x ∷ xs) a (suc n) lt e = inr (in_contained xs a n (omega (arith, lt)) e)

pub arrived : (steps : List Step) (s t : Symbols) → Contains (arrivals steps s) t → Leads steps s t
arrived steps s t h = leads_to steps s t (in_contained (arrivals steps s) t h.0 h.1 h.2)

-- ---- what a turn of a loop says

rising_says : (n : ℕ) (low z : ℤ) → In z (rising low n) → (low ≤ℤ z) × (z <ℤ (low +ℤ pos n))
rising_says zero low z m = absurd m
rising_says (suc n) low z (inl e) = (omega (arith, ints, e), omega (arith, ints, e))
rising_says (suc n) low z (inr m) = let k = rising_says n (low +ℤ pos 1) z m in (let a = k.0 in omega (arith, ints, a), let a = k.1 in omega (arith, ints, a))

clip_says : (w low high z : ℤ) → w ≡ (high +ℤ pos 1) -ℤ low → In z (rising low (clipped w)) → (low ≤ℤ z) × (z ≤ℤ high)
clip_says (pos n) low high z e m = let k = rising_says n low z m in (k.0, let a = k.1 in omega (arith, ints, a, e))
clip_says (negsuc n) low high z e m = absurd m

pub min_says : (a b z : ℤ) → z ≤ℤ int_min a b → (z ≤ℤ a) × (z ≤ℤ b)
min_says a b z h = of (int_lt b a) refl h
  where
    of : (v : Bool) → int_lt b a ≡ v → z ≤ℤ cond v b a → (z ≤ℤ a) × (z ≤ℤ b)
    of true e k = (let less : b <ℤ a = grind (ints, arith) in omega (arith, ints, k, less), k)
    of false e k = (k, let less : a ≤ℤ b = grind (ints, arith) in omega (arith, ints, k, less))

fold_says : (s : Symbols) (z low : ℤ) (ls : List Form) → z ≤ℤ fold int_min low (map (λ m. form_value m s) ls) → (z ≤ℤ low) × AllByRecursion (λ l. z ≤ℤ form_value l s) ls
fold_says s z low [] h = (h, tt)
fold_says s z low (l ∷ ls) h =
    let k = fold_says s z (int_min low (form_value l s)) ls h in
    let m = min_says low (form_value l s) z k.0 in
    (m.0, (m.1, k.1))

-- it is from low to last, and at most each limit
pub turn_says : (s : Symbols) (low last z : ℤ) (limits : List Form) → In z (turns s (span low last limits)) → (low ≤ℤ z) × (z ≤ℤ last) × AllByRecursion (λ l. z ≤ℤ form_value l s) limits
turn_says s low last z limits m =
    let first : largest s (span low last limits).lower ≡ low = number_is low s in
    let k = clip_says _ (largest s (span low last limits).lower) (smallest s (span low last limits).upper) z refl m in
    let end = number_is last s in
    let low_is = k.0 in
    let all = fold_says s z (form_value (number last) s) limits k.1 in
    let last_is = all.0 in
    (omega (arith, ints, low_is, first), omega (arith, ints, last_is, end), all.1)
