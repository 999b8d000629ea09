-- The nest in which positions are told to be at most last numbers comes to all that the nest itself comes to where they are, and to nothing past them.
use Rattle.std.proofs.Common.{◌≡◌, ◌≤◌, ◌<◌, ◌+◌, ◌-◌, ◌==◌, ℕ, zero, suc, Bool, true, false, not, ◌&&◌, ◌||◌, List, [], ◌∷◌, ◌++◌, length, map, slice_get, Option, Some, None, refl, sym}
use Rattle.std.proofs.Common.{ap, subst, ◌∙◌, inl, inr, arith}
use Rattle.std.specs.Prelude.{ℤ, pos, negsuc, ◌+ℤ◌, ◌-ℤ◌, ◌*ℤ◌, ◌≤ℤ◌, ◌<ℤ◌, int_lt, int_le, cond, fold, filter, replicate, if◌then◌else◌, nat_lt}
use Rattle.std.specs.List.{AllByRecursion, list_any}
use Rattle.std.specs.Int.{int_min}
use Rattle.std.specs.Ordering.{int_eq}
use Rattle.std.proofs.lemmas.Int.{ints}
use Rattle.std.proofs.lemmas.Bool.{false≢true}
use Rattle.std.proofs.lemmas.Bool.Decides.{Decides-int_eq, nat_tests}
use Rattle.std.proofs.lemmas.List.{append_assoc, append-nil, length-append, length-replicate, map-append}
use Rattle.lin.specs.Forms.{Form, factor_of, IsCanonical, combined, without}
use Rattle.lin.specs.declared.form.Multiple.{Multiple}
use Rattle.lin.specs.declared.scope.Binding.{Binding}
use Rattle.lin.specs.declared.scope.Binding.TheVariants.{Loop, LetMin, LetMax}
use Rattle.lin.specs.declared.span.Span1.{Span1}
use Rattle.lin.proofs.TermLemmas.{all_weaker, value_of-plus_multiple, sum_of-without}
use Rattle.lin.proofs.Limits.{combined-means}
use Rattle.plan.specs.declared.stmt.Kind.{Kind}
use Rattle.plan.specs.declared.stmt.Pick.{Pick}
use Rattle.plan.specs.declared.stmt.Pick.TheVariants.{Min, Max}
use Rattle.plan.specs.Symbols.{Symbols, bind as bind_symbol, form_value, largest, smallest, turns, rising, clipped}
use Rattle.sched.specs.declared.skeleton.Step.{Step}
use Rattle.sched.specs.declared.skeleton.Step.TheVariants.{Turns, Named, Tested}
use Rattle.sched.specs.Order.{Good}
use Rattle.sched.specs.Skeleton.{NestText}
use Rattle.sched.specs.Standing.{◌>>=◌, alone, last_term}
use Rattle.sched.specs.Visits.{picked}
use Rattle.sched.proofs.Leading.{In, Leads, arrived, arrives_at, leads_on, leads_apart, min_least, min_says}
use Rattle.sched.proofs.Told.{Keeps, keeps_on, kept_value, bind_here, bind_keeps, IsLast, IsTold, told_alone}
use Rattle.sched.specs.Around.{anything, bind, bind_steps, skip_to}
use Rattle.regions.specs.Guarded.{only, last_if, is_guarding, last_number, ToldText, is_open_loop, open_term, innermost, is_joined, keep_by_let, keep_by, keep, keep_if, told_at, add_told}
use Rattle.regions.specs.Guarded.{told_from}
use Rattle.sched.specs.Parted.{is_telling, told_among, told_forms}
use Rattle.sched.specs.Settled.{limited_span, limited}
use Rattle.sched.specs.Stored.{StoredText}
use Rattle.lower.specs.Visited.{AreRising, HasEnd, AreEnded, IsOver, coordinate, IsAtMost, AreAtMost, IsKept, AreKept, ComesTo, ToldNestsComeToAll, ToldNumbersAreKept}
use Rattle.blocks.proofs.Laying.{bound, same}

-- ---- the last symbol of a form

last_more : (x y : Multiple) (zs : List Multiple) (t : Multiple) → x.symbol < y.symbol → IsLast (y ∷ zs) t → IsLast (x ∷ y ∷ zs) t
last_more x y zs t lt h =
    let le = h.highest.0 in
    let other : (x.symbol == t.symbol) ≡ false = grind (arith, nat_tests) in
    let rest = h.factor in
    record { highest = (omega (arith, lt, le), h.highest); factor = rw other (omega (arith, ints, rest)) }

last_alone : (x t : Multiple) → x ≡ t → IsLast (x ∷ []) t
last_alone x t e =
    let itself : (t.symbol == t.symbol) ≡ true = grind (arith, nat_tests) in
    subst (λ y. IsLast (y ∷ []) t) (sym e) (record { highest = (omega arith, tt); factor = rw itself (omega (arith, ints)) })

pub last_is : (ts : List Multiple) (t : Multiple) → slice_get ts (length ts - 1) ≡ Some t → IsCanonical ts → IsLast ts t
last_is [] t e h = absurd (cc e)
last_is (x ∷ []) t e h = last_alone x t (same x t e)
last_is (x ∷ y ∷ zs) t e h =
    let longer : length (x ∷ y ∷ zs) - 1 ≡ suc (length zs) = omega arith in
    let shorter : length (y ∷ zs) - 1 ≡ length zs = omega arith in
    let here : slice_get (y ∷ zs) (length zs) ≡ Some t = sym (ap (slice_get (x ∷ y ∷ zs)) longer) ∙ e in
    last_more x y zs t h.1.0 (last_is (y ∷ zs) t (ap (slice_get (y ∷ zs)) shorter ∙ here) h.2)

pub less_all : (i : ℕ) (ts : List Multiple) → AllByRecursion (λ u. u.symbol ≤ i) ts → AllByRecursion (λ u. u.symbol < i) (filter (λ t. not (t.symbol == i)) ts)
less_all i [] a = tt
less_all i (t ∷ ts) a = of (t.symbol == i) refl (less_all i ts a.1)
  where
    of : (v : Bool) → (t.symbol == i) ≡ v → AllByRecursion (λ u. u.symbol < i) (filter (λ t. not (t.symbol == i)) ts) →
        AllByRecursion (λ u. u.symbol < i) (if not v then t ∷ filter (λ t. not (t.symbol == i)) ts else filter (λ t. not (t.symbol == i)) ts)
    of true e rest = rest
    of false e rest = ((let le = a.0 in grind (arith, nat_tests)), rest)

-- the innermost symbol of the form is that of this loop, which has room
record IsInnermost (steps : List Step) (f : Form) (i : ℕ) : Type 0 where
  once : factor_of f.terms i ≡ pos 1
  highest : AllByRecursion (λ u. u.symbol ≤ i) f.terms
  there : list_any (is_open_loop i) steps ≡ true

open_means : (steps : List Step) (t : Multiple) (i : ℕ) → open_term steps t ≡ Some i → (t.factor ≡ pos 1) × (t.symbol ≡ i) × (list_any (is_open_loop t.symbol) steps ≡ true)
open_means steps t i e = of (int_eq t.factor (pos 1)) (list_any (is_open_loop t.symbol) steps) refl refl e
  where
    of : (u v : Bool) → int_eq t.factor (pos 1) ≡ u → list_any (is_open_loop t.symbol) steps ≡ v → (if u && v then Some t.symbol else None) ≡ Some i
        → (t.factor ≡ pos 1) × (t.symbol ≡ i) × (list_any (is_open_loop t.symbol) steps ≡ true)
    of true true h k e = (grind (arith, nat_tests, Decides-int_eq t.factor (pos 1)), same t.symbol i e, k)
    of true false h k e = absurd (cc e)
    of false v h k e = absurd (cc e)

innermost_is : (steps : List Step) (f : Form) (i : ℕ) → IsCanonical f.terms → innermost steps f ≡ Some i → IsInnermost steps f i
innermost_is steps f i rise e = of (last_term f) refl e
  where
    of : (o : Option Multiple) → last_term f ≡ o → (elim o [ Some t ↦ open_term steps t | None ↦ None ]) ≡ Some i → IsInnermost steps f i
    of None h e = absurd (cc e)
    of (Some t) h e =
        let k = open_means steps t i e in
        let l = last_is f.terms t h rise in
        subst (IsInnermost steps f) k.1 (record { once = l.factor ∙ k.0; highest = l.highest; there = k.2 })

-- ---- loops with one more upper form

rising_has : (n : ℕ) (low z : ℤ) → low ≤ℤ z → z <ℤ (low +ℤ pos n) → In z (rising low n)
rising_has zero low z h k = absurd (omega (arith, ints, h, k))
rising_has (suc n) low z h k = of (int_lt low z) refl (λ more. rising_has n (low +ℤ pos 1) z more (omega (arith, ints, k)))
  where
    of : (b : Bool) → int_lt low z ≡ b → ((low +ℤ pos 1) ≤ℤ z → In z (rising (low +ℤ pos 1) n)) → In z (low ∷ rising (low +ℤ pos 1) n)
    of true e rest = let less : low <ℤ z = grind (ints, arith) in inr (rest (omega (arith, ints, less)))
    of false e rest = let more : z ≤ℤ low = grind (ints, arith) in inl (omega (arith, ints, h, more))

rising_says : (n : ℕ) (low z : ℤ) → In z (rising low n) → (low ≤ℤ z) × (z <ℤ (low +ℤ pos n))
rising_says zero low z m = absurd m
rising_says (suc n) low z (inl e) = (omega (arith, ints, e), omega (arith, ints, e))
rising_says (suc n) low z (inr m) = let k = rising_says n (low +ℤ pos 1) z m in (let a = k.0 in omega (arith, ints, a), let a = k.1 in omega (arith, ints, a))

clip_has : (w low high z : ℤ) → w ≡ (high +ℤ pos 1) -ℤ low → low ≤ℤ z → z ≤ℤ high → In z (rising low (clipped w))
clip_has (pos n) low high z e h k = rising_has n low z h (omega (arith, ints, e, k))
clip_has (negsuc n) low high z e h k = absurd (omega (arith, ints, e, h, k))

clip_says : (w low high z : ℤ) → w ≡ (high +ℤ pos 1) -ℤ low → In z (rising low (clipped w)) → (low ≤ℤ z) × (z ≤ℤ high)
clip_says (pos n) low high z e m = let k = rising_says n low z m in (k.0, let a = k.1 in omega (arith, ints, a, e))
clip_says (negsuc n) low high z e m = absurd m

fold_more : (s : Symbols) (z low : ℤ) (fs : List Form) (g : Form) → z ≤ℤ fold int_min low (map (λ m. form_value m s) fs) → z ≤ℤ form_value g s
    → z ≤ℤ fold int_min low (map (λ m. form_value m s) (fs ++ g ∷ []))
fold_more s z low [] g h k = min_least low (form_value g s) z h k
fold_more s z low (f ∷ fs) g h k = fold_more s z (int_min low (form_value f s)) fs g h k

smallest_more : (s : Symbols) (z : ℤ) (fs : List Form) (g : Form) → z ≤ℤ smallest s fs → z ≤ℤ form_value g s → z ≤ℤ smallest s (fs ++ g ∷ [])
smallest_more s z [] g h k = k
smallest_more s z (f ∷ fs) g h k = fold_more s z (form_value f s) fs g h k

turn_more : (s : Symbols) (x : Span1) (g : Form) (z : ℤ) → In z (turns s x) → z ≤ℤ form_value g s → In z (turns s (record x { upper = x.upper ++ g ∷ [] }))
turn_more s x g z m le =
    let k = clip_says _ (largest s x.lower) (smallest s x.upper) z refl m in
    clip_has _ (largest s x.lower) (smallest s (x.upper ++ g ∷ [])) z refl k.0 (smallest_more s z x.upper g k.1 le)

turn_here : (j : ℕ) (x : Span1) (kind : Kind) (g : Form) (steps : List Step) (s u : Symbols) (z : ℤ) (b : Bool) → In z (turns s x) → (b ≡ true → z ≤ℤ form_value g s)
    → Leads steps (bind_symbol s j z (int_le z (largest s x.lower))) u → Leads (Turns j (limited_span b g x) kind ∷ steps) s u
turn_here j x kind g steps s u z true m le rest = (z, turn_more s x g z m (le refl), rest)
turn_here j x kind g steps s u z false m le rest = (z, m, rest)

-- ---- ways

named_keep : (n i : ℕ) (s u : Symbols) (z : ℤ) → n ≤ i → Keeps (i + 1) (bind_symbol s i z true) u → Keeps n s u
named_keep n i s u z le rest = keeps_on n (i + 1) s (bind_symbol s i z true) u (λ j lt. bind_keeps s i z true j (omega (arith, lt, le))) rest (omega (arith, le))

pub leads_keep : (steps : List Step) (n : ℕ) (s u : Symbols) → AreRising n steps → Leads steps s u → Keeps n s u
leads_keep [] n s u r h = λ i lt. ap (λ (t : Symbols). t.value i) h
leads_keep (Turns i x kind ∷ steps) n s u r h =
    let flag : Bool = int_le h.0 (largest s x.lower) in
    let le = r.0 in
    let rest = leads_keep steps (i + 1) (bind_symbol s i h.0 flag) u r.1 h.2 in
    keeps_on n (i + 1) s (bind_symbol s i h.0 flag) u (λ j lt. bind_keeps s i h.0 flag j (omega (arith, lt, le))) rest (omega (arith, le))
leads_keep (Named i pick fs ∷ steps) n s u r h = named_keep n i s u (picked pick fs s) r.0 (leads_keep steps (i + 1) (bind_symbol s i (picked pick fs s) true) u r.1 h)
leads_keep (Tested low high ∷ steps) n s u r h = leads_keep steps n s u r h.1

module _ (i : ℕ) (g : Form) (u : Symbols) (stays : (v : Symbols) → Keeps i v u → form_value g v ≡ form_value g u) (most : u.value i ≤ℤ form_value g u) where
  -- the way there is one in which that loop goes no further than the form
  limited_leads : (steps : List Step) (n : ℕ) (s : Symbols) → AreRising n steps → Leads steps s u → Leads (map (limited i g) steps) s u
  limited_leads [] n s r h = h
  limited_leads (Turns j x kind ∷ steps) n s r h =
      let flag : Bool = int_le h.0 (largest s x.lower) in
      let after : Symbols = bind_symbol s j h.0 flag in
      let rest = limited_leads steps (j + 1) after r.1 h.2 in
      let all = leads_keep (Turns j x kind ∷ steps) j s u (omega arith, r.1) h in
      let own : u.value j ≡ h.0 = leads_keep steps (j + 1) after u r.1 h.2 j (omega arith) ∙ bind_here s j h.0 flag in
      let below : (j == i) ≡ true → h.0 ≤ℤ form_value g s = λ e.
      let at : j ≡ i = grind (arith, nat_tests) in
      let is : u.value i ≡ h.0 = ap u.value (sym at) ∙ own in
      let value = stays s (subst (λ (k : ℕ). Keeps k s u) at all) in
      omega (arith, ints, most, is, value)
      in
      turn_here j x kind g (map (limited i g) steps) s u h.0 (j == i) h.1 below rest
  limited_leads (Named j pick fs ∷ steps) n s r h = limited_leads steps (j + 1) (bind_symbol s j (picked pick fs s) true) r.1 h
  limited_leads (Tested low high ∷ steps) n s r h = (h.0, limited_leads steps n s r h.1)

-- ---- symbols of steps

-- from n on, before m
abbrev pub Rises : ℕ → List Step → ℕ → Type 0
Rises n [] m = n ≤ m
Rises n (Turns i x kind ∷ ss) m = (n ≤ i) × Rises (i + 1) ss m
Rises n (Named i pick fs ∷ ss) m = (n ≤ i) × Rises (i + 1) ss m
Rises n (Tested low high ∷ ss) m = Rises n ss m

pub are_rising : (steps : List Step) (n m : ℕ) → Rises n steps m → AreRising n steps
are_rising [] n m r = tt
are_rising (Turns i x kind ∷ steps) n m r = (r.0, are_rising steps (i + 1) m r.1)
are_rising (Named i pick fs ∷ steps) n m r = (r.0, are_rising steps (i + 1) m r.1)
are_rising (Tested low high ∷ steps) n m r = are_rising steps n m r

pub rises_limited : (steps : List Step) (n m i : ℕ) (g : Form) → Rises n steps m → Rises n (map (limited i g) steps) m
rises_limited [] n m i g r = r
rises_limited (Turns j x kind ∷ steps) n m i g r = (r.0, rises_limited steps (j + 1) m i g r.1)
rises_limited (Named j pick fs ∷ steps) n m i g r = (r.0, rises_limited steps (j + 1) m i g r.1)
rises_limited (Tested low high ∷ steps) n m i g r = rises_limited steps n m i g r

pub rises_more : (steps : List Step) (n m : ℕ) (pick : Pick) (fs : List Form) → Rises n steps m → Rises n (steps ++ Named m pick fs ∷ []) (m + 1)
rises_more [] n m pick fs r = (r, omega arith)
rises_more (Turns i x kind ∷ steps) n m pick fs r = (r.0, rises_more steps (i + 1) m pick fs r.1)
rises_more (Named i p gs ∷ steps) n m pick fs r = (r.0, rises_more steps (i + 1) m pick fs r.1)
rises_more (Tested low high ∷ steps) n m pick fs r = rises_more steps n m pick fs r

bound_length : (scope : List Binding) (i : ℕ) (b : Binding) → length scope ≤ i → length (bind scope i b) ≡ i + 1
bound_length scope i b le =
    let first = length-append (skip_to scope i) (b ∷ []) in
    let second = length-append scope (replicate (i - length scope) (Loop anything)) in
    let third = length-replicate (i - length scope) (Loop anything) in
    omega (arith, first, second, third, le)

moved : (steps : List Step) (k l m : ℕ) → l ≡ k → AreRising k steps → (AreRising l steps → Rises l steps m) → Rises k steps m
moved steps k l m e r f = subst (λ (n : ℕ). Rises n steps m) e (f (subst (λ (n : ℕ). AreRising n steps) (sym e) r))

rises : (steps : List Step) (scope : List Binding) → AreRising (length scope) steps → Rises (length scope) steps (length (bind_steps scope steps))
rises [] scope r = omega arith
rises (Turns i x kind ∷ steps) scope r =
    let more = bind scope i (Loop x) in
    (r.0, moved steps (i + 1) (length more) (length (bind_steps more steps)) (bound_length scope i (Loop x) r.0) r.1 (λ q. rises steps more q))
rises (Named i Min fs ∷ steps) scope r =
    let more = bind scope i (LetMin fs) in
    (r.0, moved steps (i + 1) (length more) (length (bind_steps more steps)) (bound_length scope i (LetMin fs) r.0) r.1 (λ q. rises steps more q))
rises (Named i Max fs ∷ steps) scope r =
    let more = bind scope i (LetMax fs) in
    (r.0, moved steps (i + 1) (length more) (length (bind_steps more steps)) (bound_length scope i (LetMax fs) r.0) r.1 (λ q. rises steps more q))
rises (Tested low high ∷ steps) scope r = rises steps scope r

rises_to : (steps : List Step) (n m : ℕ) → Rises n steps m → n ≤ m
rises_to [] n m r = r
rises_to (Turns i x kind ∷ steps) n m r = let le = r.0 in let rest = rises_to steps (i + 1) m r.1 in omega (arith, le, rest)
rises_to (Named i pick fs ∷ steps) n m r = let le = r.0 in let rest = rises_to steps (i + 1) m r.1 in omega (arith, le, rest)
rises_to (Tested low high ∷ steps) n m r = rises_to steps n m r

-- the loop of this symbol, whether it has room or not
abbrev pub is_loop : ℕ → Step → Bool
is_loop i (Turns j x kind) = j == i
is_loop i (Named j pick fs) = false
is_loop i (Tested low high) = false

open_loop : (steps : List Step) (i : ℕ) → list_any (is_open_loop i) steps ≡ true → list_any (is_loop i) steps ≡ true
open_loop [] i e = e
open_loop (Turns j x kind ∷ steps) i e = of (j == i) (nat_lt (length x.upper) 4) e (λ k. open_loop steps i k)
  where
    of : (u v : Bool) → ((u && v) || list_any (is_open_loop i) steps) ≡ true → (list_any (is_open_loop i) steps ≡ true → list_any (is_loop i) steps ≡ true)
        → (u || list_any (is_loop i) steps) ≡ true
    of true v h rest = refl
    of false v h rest = rest h
open_loop (Named j pick fs ∷ steps) i e = open_loop steps i e
open_loop (Tested low high ∷ steps) i e = open_loop steps i e

-- a loop of the steps has a symbol from n on
loop_behind : (steps : List Step) (n i : ℕ) → AreRising n steps → list_any (is_open_loop i) steps ≡ true → n ≤ i
loop_behind [] n i r e = absurd (cc e)
loop_behind (Turns j x kind ∷ steps) n i r e = of (j == i) (nat_lt (length x.upper) 4) refl e (λ k. loop_behind steps (j + 1) i r.1 k)
  where
    of : (u v : Bool) → (j == i) ≡ u → ((u && v) || list_any (is_open_loop i) steps) ≡ true → (list_any (is_open_loop i) steps ≡ true → (j + 1) ≤ i) → n ≤ i
    of true v h k rest = let le = r.0 in let at : j ≡ i = grind (arith, nat_tests) in omega (arith, le, at)
    of false v h k rest = let le = r.0 in let behind = rest k in omega (arith, le, behind)
loop_behind (Named j pick fs ∷ steps) n i r e = let le = r.0 in let behind = loop_behind steps (j + 1) i r.1 e in omega (arith, le, behind)
loop_behind (Tested low high ∷ steps) n i r e = loop_behind steps n i r e

-- ---- one position

pub good_more : (n m : ℕ) (f : Form) → n ≤ m → Good n f → Good m f
good_more n m f le h = record { below = all_weaker (λ t. t.symbol < n) (λ t. t.symbol < m) (λ t lt. omega (arith, lt, le)) f.terms h.below; canonical = h.canonical }

pub good_value : (n : ℕ) (f : Form) (s t : Symbols) → Good n f → Keeps n s t → form_value f t ≡ form_value f s
good_value n f s t h k = kept_value f n s t k h.below

pub one_times : (v : ℤ) → pos 1 *ℤ v ≡ v
one_times v = omega (arith, ints)

pub minus_one : (v : ℤ) → negsuc 0 *ℤ v +ℤ v ≡ pos 0
minus_one v = omega (arith, ints)

pub limit_is : (last f limit : Form) (i : ℕ) (v : Symbols) → combined last (negsuc 0) (without f i) ≡ Some limit → form_value limit v ≡ form_value last v +ℤ negsuc 0 *ℤ form_value (without f i) v
limit_is last f limit i v e = ap (λ (h : Form). form_value h v) (combined-means last (negsuc 0) (without f i) limit e).is ∙ value_of-plus_multiple last (negsuc 0) (without f i) v.value

-- what a position comes to once it is kept
record Kept (first : ℕ) (s now : Symbols) (f : Form) (t : ToldText) (y : Form × ToldText) : Type 0 where
  later : Symbols
  way : Leads y.1.steps s later
  symbols : Rises first y.1.steps y.1.next
  more : t.next ≤ y.1.next
  keeps : Keeps t.next now later
  over : Good y.1.next y.0
  value : form_value y.0 later ≡ form_value f now

module _ (first : ℕ) (s now : Symbols) (f : Form) (t : ToldText) (way : Leads t.steps s now) (symbols : Rises first t.steps t.next) (good : Good t.next f) where
  kept_as_it_is : Kept first s now f t (f, t)
  kept_as_it_is = record { later = now; way = way; symbols = symbols; more = omega arith; keeps = λ i lt. refl; over = good; value = refl }

  module _ (last : Form) (told : Good first last) (most : form_value f now ≤ℤ form_value last now) where
    kept_by_loop : (i : ℕ) (limit : Form) → IsInnermost t.steps f i → combined last (negsuc 0) (without f i) ≡ Some limit
        → Kept first s now f t (f, record t { steps = map (limited i limit) t.steps })
    kept_by_loop i limit inner e =
        let rise = are_rising t.steps first t.next symbols in
        let behind = loop_behind t.steps first i rise inner.there in
        let value : form_value limit now ≡ form_value last now +ℤ negsuc 0 *ℤ form_value (without f i) now = limit_is last f limit i now e in
        let parts : form_value f now ≡ form_value (without f i) now +ℤ factor_of f.terms i *ℤ now.value i = (let k = sum_of-without i f.terms now.value in omega (arith, ints, k)) in
        let once : factor_of f.terms i *ℤ now.value i ≡ now.value i = ap (λ (k : ℤ). k *ℤ now.value i) inner.once ∙ one_times (now.value i) in
        let less = minus_one (form_value (without f i) now) in
        let stays : (v : Symbols) → Keeps i v now → form_value limit v ≡ form_value limit now = λ v k.
        let one = kept_value last i v now k (all_weaker (λ u. u.symbol < first) (λ u. u.symbol < i) (λ u lt. omega (arith, lt, behind)) last.terms told.below) in
        let two = kept_value (without f i) i v now k (less_all i f.terms inner.highest) in
        limit_is last f limit i v e ∙ (λ j. sym one j +ℤ negsuc 0 *ℤ sym two j) ∙ sym value
        in
        record {
          later = now;
          way = limited_leads i limit now stays (omega (arith, ints, value, parts, once, less, most)) t.steps first s rise way;
          symbols = rises_limited t.steps first t.next i limit symbols;
          more = omega arith;
          keeps = λ j lt. refl;
          over = good;
          value = refl;
        }

    smaller_is : (a b : ℤ) → a ≤ℤ b → int_min a b ≡ a
    smaller_is a b le = of (int_lt b a) refl
      where
        of : (v : Bool) → int_lt b a ≡ v → cond v b a ≡ a
        of true e = let less : b <ℤ a = grind (ints, arith) in omega (arith, ints, le, less)
        of false e = refl

    kept_by_let : Kept first s now f t (keep_by_let f last t)
    kept_by_let =
        let z : ℤ = smallest now (f ∷ last ∷ []) in
        let after : Symbols = bind_symbol now t.next z true in
        let is : z ≡ form_value f now = smaller_is (form_value f now) (form_value last now) most in
        let told_so : IsTold (t.next + 1) after z (alone t.next) = told_alone (t.next + 1) t.next after z (omega arith) (bind_here now t.next z true) in
        record {
          later = after;
          way = leads_on t.steps (Named t.next Min (f ∷ last ∷ []) ∷ []) s now after way refl;
          symbols = rises_more t.steps first t.next Min (f ∷ last ∷ []) symbols;
          more = omega arith;
          keeps = bind_keeps now t.next z true;
          over = record { below = told_so.outer; canonical = told_so.rising };
          value = told_so.value ∙ is;
        }

    kept_by : (o : Option ℕ) (y : Form × ToldText) → innermost t.steps f ≡ o → keep_by o f last t ≡ Some y → Kept first s now f t y
    kept_by None y e h = subst (Kept first s now f t) (same (keep_by_let f last t) y h) kept_by_let
    kept_by (Some i) y e h =
        let b = bound (combined last (negsuc 0) (without f i)) (λ limit. Some (f, record t { steps = map (limited i limit) t.steps })) y h in
        subst (Kept first s now f t) (same (f, record t { steps = map (limited i b.value) t.steps }) y b.comes)
        (kept_by_loop i b.value (innermost_is t.steps f i good.canonical e) b.is)

    kept : (from : ℕ) (y : Form × ToldText) → keep from f last t ≡ Some y → Kept first s now f t y
    kept from y h = of (is_joined from f) h
      where
        of : (b : Bool) → (if b then keep_by (innermost t.steps f) f last t else Some (f, t)) ≡ Some y → Kept first s now f t y
        of true e = kept_by (innermost t.steps f) y refl e
        of false e = subst (Kept first s now f t) (same (f, t) y e) kept_as_it_is

  kept_if : (from : ℕ) (o : Option Form) (y : Form × ToldText) → IsOver first o → IsAtMost now (Some f) o → keep_if from f o t ≡ Some y → Kept first s now f t y
  kept_if from None y over most h = subst (Kept first s now f t) (same (f, t) y h) kept_as_it_is
  kept_if from (Some last) y over most h = kept last over most from y h

-- ---- last numbers

all_told : (P : Form → Type 0) (scope : List Binding) (pick : Pick) (all fs : List Form) → AllByRecursion P all → AllByRecursion P fs → AllByRecursion P (told_among scope pick all fs)
all_told P scope pick all [] a h = a
all_told P scope pick all (f ∷ fs) a h = of (is_telling scope pick f all) (all_told P scope pick all fs a h.1)
  where
    of : (b : Bool) → AllByRecursion P (told_among scope pick all fs) → AllByRecursion P (if b then f ∷ [] else told_among scope pick all fs)
    of true rest = (h.0, tt)
    of false rest = rest

all_of_told : (P : Form → Type 0) (scope : List Binding) (pick : Pick) (fs : List Form) → AllByRecursion P fs → AllByRecursion P (told_forms scope pick fs)
all_of_told P scope pick [] a = tt
all_of_told P scope pick (f ∷ []) a = a
all_of_told P scope pick (f ∷ e ∷ fs) a = all_told P scope pick (f ∷ e ∷ fs) (f ∷ e ∷ fs) a a

only_one : (P : Form → Type 0) (fs : List Form) (f : Form) → AllByRecursion P fs → only fs ≡ Some f → P f
only_one P [] f a e = absurd (cc e)
only_one P (g ∷ []) f a e = subst P (same g f e) a.0
only_one P (g ∷ h ∷ fs) f a e = absurd (cc e)

got : {A : Type 0} (P : A → Type 0) (xs : List A) (k : ℕ) (x : A) → AllByRecursion P xs → slice_get xs k ≡ Some x → P x
got P [] k x a e = absurd (cc e)
got P (y ∷ xs) zero x a e = subst P (same y x e) a.0
got P (y ∷ xs) (suc k) x a e = got P xs k x a.1 e

module _ (g : StoredText) (scope : List Binding) (region : List Span1) (ends : AllByRecursion (λ x. AllByRecursion (Good (length scope)) x.upper) region) where
  last_good : (d : ℕ) (last : Form) → last_number g scope region d ≡ Some last → Good (length scope) last
  last_good d last e =
      let outer : List ℕ → Span1 → Option Form = λ x y. last_if (list_any (is_guarding x) g.placed.cuts) scope y in
      let b = bound (slice_get g.subject.variables d) (λ x. slice_get region d >>= outer x) last e in
      let c = bound (slice_get region d) (outer b.value) last b.comes in
      let all = got (λ y. AllByRecursion (Good (length scope)) y.upper) region d c.value ends c.is in
      of (list_any (is_guarding b.value) g.placed.cuts) c.value all c.comes
    where
      of : (v : Bool) (y : Span1) → AllByRecursion (Good (length scope)) y.upper → last_if v scope y ≡ Some last → Good (length scope) last
      of true y all e = only_one (Good (length scope)) (told_forms scope Min y.upper) last (all_of_told (Good (length scope)) scope Min y.upper all) e
      of false y all e = absurd (cc e)

  last_over : (d : ℕ) (o : Option Form) → last_number g scope region d ≡ o → IsOver (length scope) o
  last_over d None e = tt
  last_over d (Some last) e = last_good d last e

  -- ---- all of them

  module _ (from : ℕ) (s u : Symbols) (most : ℕ) where
    -- so far, where these coordinates were gone through of the nest's
    record Reaches (t : ToldText) (made gone : List (Option Form)) : Type 0 where
      now : Symbols
      way : Leads t.steps s now
      symbols : Rises (length scope) t.steps t.next
      behind : most ≤ t.next
      keeps : Keeps most u now
      over : AllByRecursion (IsOver t.next) made
      at : map (coordinate now) made ≡ map (coordinate u) gone

    over_more : (n m : ℕ) → n ≤ m → (os : List (Option Form)) → AllByRecursion (IsOver n) os → AllByRecursion (IsOver m) os
    over_more n m le [] a = tt
    over_more n m le (None ∷ os) a = (tt, over_more n m le os a.1)
    over_more n m le (Some f ∷ os) a = (good_more n m f le a.0, over_more n m le os a.1)

    all_push : (n : ℕ) (os : List (Option Form)) (o : Option Form) → AllByRecursion (IsOver n) os → IsOver n o → AllByRecursion (IsOver n) (os ++ o ∷ [])
    all_push n [] o a h = (h, tt)
    all_push n (x ∷ os) o a h = (a.0, all_push n os o a.1 h)

    same_at : (n : ℕ) (v w : Symbols) → Keeps n v w → (os : List (Option Form)) → AllByRecursion (IsOver n) os → map (coordinate w) os ≡ map (coordinate v) os
    same_at n v w k [] a = refl
    same_at n v w k (None ∷ os) a = ap (λ zs. None ∷ zs) (same_at n v w k os a.1)
    same_at n v w k (Some f ∷ os) a = (λ j. Some (good_value n f v w a.0 k j) ∷ same_at n v w k os a.1 j)

    pushed : (v : Symbols) (os : List (Option Form)) (o : Option Form) → map (coordinate v) (os ++ o ∷ []) ≡ map (coordinate v) os ++ coordinate v o ∷ []
    pushed v os o = map-append (coordinate v) os (o ∷ [])

    with_none : (t : ToldText) (made gone : List (Option Form)) → Reaches t made gone → Reaches t (made ++ None ∷ []) (gone ++ None ∷ [])
    with_none t made gone r = record {
      now = r.now;
      way = r.way;
      symbols = r.symbols;
      behind = r.behind;
      keeps = r.keeps;
      over = all_push t.next made None r.over tt;
      at = pushed r.now made None ∙ ap (λ zs. zs ++ None ∷ []) r.at ∙ sym (pushed u gone None);
    }

    with_form : (t : ToldText) (made gone : List (Option Form)) (f : Form) (y : Form × ToldText) (r : Reaches t made gone) → Good most f → Kept (length scope) s r.now f t y
        → Reaches y.1 (made ++ Some y.0 ∷ []) (gone ++ Some f ∷ [])
    with_form t made gone f y r good k =
        let le = r.behind in
        let more = k.more in
        let value : form_value y.0 k.later ≡ form_value f u = k.value ∙ good_value most f u r.now good r.keeps in
        record {
          now = k.later;
          way = k.way;
          symbols = k.symbols;
          behind = omega (arith, le, more);
          keeps = keeps_on most t.next u r.now k.later r.keeps k.keeps le;
          over = all_push y.1.next made (Some y.0) (over_more t.next y.1.next more made r.over) k.over;
          at = pushed k.later made (Some y.0)
              ∙ (λ j. (same_at t.next r.now k.later k.keeps made r.over ∙ r.at) j ++ Some (value j) ∷ []) ∙ sym (pushed u gone (Some f));
        }

    at_most_now : (f : Form) (o : Option Form) (v : Symbols) → Good most f → IsOver (length scope) o → length scope ≤ most → Keeps most u v → IsAtMost u (Some f) o → IsAtMost v (Some f) o
    at_most_now f None v good over le k h = tt
    at_most_now f (Some last) v good over le k h =
        let one = good_value most f u v good k in
        let two = good_value most last u v (good_more (length scope) most last le over) k in
        omega (arith, ints, one, two, h)

    one_more : (o last : Option Form) (t : ToldText) (made gone : List (Option Form)) (x : Option Form × ToldText) → length scope ≤ most → Reaches t made gone → IsOver most o
        → IsOver (length scope) last → IsAtMost u o last → told_at from o last t ≡ Some x → Reaches x.1 (made ++ x.0 ∷ []) (gone ++ o ∷ [])
    one_more None last t made gone x le r good over h e =
        subst (λ (y : Option Form × ToldText). Reaches y.1 (made ++ y.0 ∷ []) (gone ++ None ∷ [])) (same (None, t) x e) (with_none t made gone r)
    one_more (Some f) last t made gone x le r good over h e =
        let b = bound (keep_if from f last t) (λ y. Some (Some y.0, y.1)) x e in
        let there = good_more most t.next f r.behind good in
        let k = kept_if (length scope) s r.now f t r.way r.symbols there from last b.value over (at_most_now f last r.now good over le r.keeps h) b.is in
        subst (λ (y : Option Form × ToldText). Reaches y.1 (made ++ y.0 ∷ []) (gone ++ Some f ∷ [])) (same (Some b.value.0, b.value.1) x b.comes)
        (with_form t made gone f b.value r good k)

    reaches_all : (d : ℕ) (os : List (Option Form)) (t : ToldText) (made gone : List (Option Form)) (y : List (Option Form) × ToldText) → length scope ≤ most → Reaches t made gone
        → AllByRecursion (IsOver most) os → AreAtMost g scope region u d os → add_told g scope region from d os made t ≡ Some y → Reaches y.1 y.0 (gone ++ os)
    reaches_all d [] t made gone y le r good h e =
        subst (λ (z : List (Option Form) × ToldText). Reaches z.1 z.0 (gone ++ [])) (same (made, t) y e) (subst (Reaches t made) (sym (append-nil gone)) r)
    reaches_all d (o ∷ os) t made gone y le r good h e =
        let b = bound (told_at from o (last_number g scope region d) t) (λ x. add_told g scope region from (d + 1) os (made ++ x.0 ∷ []) x.1) y e in
        let next = one_more o (last_number g scope region d) t made gone b.value le r good.0 (last_over d (last_number g scope region d) refl) h.0 b.is in
        subst (Reaches y.1 y.0) (append_assoc gone (o ∷ []) os) (reaches_all (d + 1) os b.value.1 (made ++ b.value.0 ∷ []) (gone ++ o ∷ []) y le next good.1 h.1 b.comes)

pub told_nests_come_to_all : ToldNestsComeToAll
told_nests_come_to_all g scope region from n m made nested s u comes most =
    let count = length (bind_steps scope n.steps) in
    let t = told_from scope n.steps in
    let symbols = rises n.steps scope nested.rising in
    let le = rises_to n.steps (length scope) count symbols in
    let b = bound (add_told g scope region from 0 n.at [] t) (λ x. Some (record { steps = x.1.steps; at = x.0 })) m made in
    let start : Reaches g scope region nested.ends from s u count t [] [] = record {
      now = u;
      way = arrived n.steps s u comes;
      symbols = symbols;
      behind = omega arith;
      keeps = λ i lt. refl;
      over = tt;
      at = refl;
    } in
    let all = reaches_all g scope region nested.ends from s u count 0 n.at t [] [] b.value le start nested.coordinates most b.is in
    subst (λ (k : NestText). ComesTo k s (map (coordinate u) n.at)) (same (record { steps = b.value.1.steps; at = b.value.0 }) m b.comes)
    (record { symbols = all.now; arrives = arrives_at b.value.1.steps s all.now all.way; at = all.at })

-- ---- nothing past the last numbers

fold_less : (s : Symbols) (z low : ℤ) (fs : List Form) (g : Form) → z ≤ℤ fold int_min low (map (λ m. form_value m s) (fs ++ g ∷ []))
    → (z ≤ℤ fold int_min low (map (λ m. form_value m s) fs)) × (z ≤ℤ form_value g s)
fold_less s z low [] g h = min_says low (form_value g s) z h
fold_less s z low (f ∷ fs) g h = fold_less s z (int_min low (form_value f s)) fs g h

smallest_less : (s : Symbols) (z : ℤ) (fs : List Form) (g : Form) → HasEnd fs → z ≤ℤ smallest s (fs ++ g ∷ []) → (z ≤ℤ smallest s fs) × (z ≤ℤ form_value g s)
smallest_less s z [] g has h = absurd has
smallest_less s z (f ∷ fs) g has h = fold_less s z (form_value f s) fs g h

turn_less : (s : Symbols) (x : Span1) (g : Form) (z : ℤ) → HasEnd x.upper → In z (turns s (record x { upper = x.upper ++ g ∷ [] })) → In z (turns s x) × (z ≤ℤ form_value g s)
turn_less s x g z has m =
    let k = clip_says _ (largest s x.lower) (smallest s (x.upper ++ g ∷ [])) z refl m in
    let both = smallest_less s z x.upper g has k.1 in
    (clip_has _ (largest s x.lower) (smallest s x.upper) z refl k.0 both.0, both.1)

-- a turn of a loop that may have the further upper form
record Turn (s u : Symbols) (j : ℕ) (x : Span1) (b : Bool) (g : Form) (steps : List Step) : Type 0 where
  z : ℤ
  is : In z (turns s x)
  most : b ≡ true → z ≤ℤ form_value g s
  rest : Leads steps (bind_symbol s j z (int_le z (largest s x.lower))) u

turn_there : (j : ℕ) (x : Span1) (kind : Kind) (g : Form) (steps : List Step) (s u : Symbols) (b : Bool) → HasEnd x.upper
    → Leads (Turns j (limited_span b g x) kind ∷ steps) s u → Turn s u j x b g steps
turn_there j x kind g steps s u true has h = let k = turn_less s x g h.0 has h.1 in record { z = h.0; is = k.0; most = λ e. k.1; rest = h.2 }
turn_there j x kind g steps s u false has h = record { z = h.0; is = h.1; most = λ e. absurd (cc e); rest = h.2 }

module _ (i : ℕ) (g : Form) (u : Symbols) where
  -- a way on which that loop goes no further than the form is one of the steps
  pub limited_back : (steps : List Step) (s : Symbols) → AreEnded steps → Leads (map (limited i g) steps) s u → Leads steps s u
  limited_back [] s e h = h
  limited_back (Turns j x kind ∷ steps) s e h =
      let t = turn_there j x kind g (map (limited i g) steps) s u (j == i) e.0 h in
      (t.z, t.is, limited_back steps (bind_symbol s j t.z (int_le t.z (largest s x.lower))) e.1 t.rest)
  limited_back (Named j pick fs ∷ steps) s e h = limited_back steps (bind_symbol s j (picked pick fs s) true) e h
  limited_back (Tested low high ∷ steps) s e h = (h.0, limited_back steps s e h.1)

  -- and its number is at most that
  pub limited_says : (stays : (v : Symbols) → Keeps i v u → form_value g v ≡ form_value g u) (steps : List Step) (n : ℕ) (s : Symbols) → AreEnded steps → AreRising n steps
      → list_any (is_loop i) steps ≡ true → Leads (map (limited i g) steps) s u → u.value i ≤ℤ form_value g u
  limited_says stays [] n s e r has h = absurd (cc has)
  limited_says stays (Turns j x kind ∷ steps) n s e r has h =
      let t = turn_there j x kind g (map (limited i g) steps) s u (j == i) e.0 h in
      let flag : Bool = int_le t.z (largest s x.lower) in
      let after : Symbols = bind_symbol s j t.z flag in
      let back = limited_back steps after e.1 t.rest in
      let all = leads_keep (Turns j x kind ∷ steps) j s u (omega arith, r.1) (t.z, t.is, back) in
      let own : u.value j ≡ t.z = leads_keep steps (j + 1) after u r.1 back j (omega arith) ∙ bind_here s j t.z flag in
      of (j == i) refl has
      (λ same_loop. let at : j ≡ i = grind (arith, nat_tests) in
      let is : u.value i ≡ t.z = ap u.value (sym at) ∙ own in
      let value = stays s (subst (λ (k : ℕ). Keeps k s u) at all) in
      let most = t.most same_loop in
      omega (arith, ints, most, is, value))
      (λ there. limited_says stays steps (j + 1) after e.1 r.1 there t.rest)
    where
      of : (a : Bool) → (j == i) ≡ a → (a || list_any (is_loop i) steps) ≡ true → ((j == i) ≡ true → u.value i ≤ℤ form_value g u)
          → (list_any (is_loop i) steps ≡ true → u.value i ≤ℤ form_value g u) → u.value i ≤ℤ form_value g u
      of true e there here behind = here e
      of false e there here behind = behind there
  limited_says stays (Named j pick fs ∷ steps) n s e r has h = limited_says stays steps (j + 1) (bind_symbol s j (picked pick fs s) true) e r.1 has h
  limited_says stays (Tested low high ∷ steps) n s e r has h = limited_says stays steps n s e r has h.1

pub ended_limited : (steps : List Step) (i : ℕ) (g : Form) → AreEnded steps → AreEnded (map (limited i g) steps)
ended_limited [] i g e = tt
ended_limited (Turns j x kind ∷ steps) i g e = (of (j == i), ended_limited steps i g e.1)
  where
    longer : (fs : List Form) → HasEnd fs → HasEnd (fs ++ g ∷ [])
    longer [] h = absurd h
    longer (f ∷ fs) h = tt

    of : (b : Bool) → HasEnd (limited_span b g x).upper
    of true = longer x.upper e.0
    of false = e.0
ended_limited (Named j pick fs ∷ steps) i g e = ended_limited steps i g e
ended_limited (Tested low high ∷ steps) i g e = ended_limited steps i g e

pub ended_more : (steps : List Step) (i : ℕ) (pick : Pick) (fs : List Form) → AreEnded steps → AreEnded (steps ++ Named i pick fs ∷ [])
ended_more [] i pick fs e = tt
ended_more (Turns j x kind ∷ steps) i pick fs e = (e.0, ended_more steps i pick fs e.1)
ended_more (Named j p gs ∷ steps) i pick fs e = ended_more steps i pick fs e
ended_more (Tested low high ∷ steps) i pick fs e = ended_more steps i pick fs e

-- each way goes by one of those before, whose symbols it keeps
abbrev GoesBy : Symbols → ToldText → ToldText → Type 0
GoesBy s t y = (w : Symbols) → Leads y.steps s w → (v : Symbols) × Leads t.steps s v × Keeps t.next v w

-- a position, and the steps, once it is told
record Says (first : ℕ) (s : Symbols) (t : ToldText) (P : Symbols → Option Form → Type 0) (y : Option Form × ToldText) : Type 0 where
  symbols : Rises first y.1.steps y.1.next
  more : t.next ≤ y.1.next
  over : IsOver y.1.next y.0
  ended : AreEnded y.1.steps
  by : GoesBy s t y.1
  says : (w : Symbols) → Leads y.1.steps s w → P w y.0

abbrev with_some : Form × ToldText → Option Form × ToldText
with_some y = (Some y.0, y.1)

module _ (first : ℕ) (s : Symbols) (f : Form) (t : ToldText) (symbols : Rises first t.steps t.next) (ended : AreEnded t.steps) (good : Good t.next f) where
  says_nothing : (P : Symbols → Option Form → Type 0) → ((w : Symbols) → P w (Some f)) → Says first s t P (Some f, t)
  says_nothing P h = record { symbols = symbols; more = omega arith; over = good; ended = ended; by = λ w l. (w, l, λ i lt. refl); says = λ w l. h w }

  module _ (last : Form) (told : Good first last) where
    abbrev Most : Symbols → Option Form → Type 0
    Most w None = Unit {0}
    Most w (Some h) = form_value h w ≤ℤ form_value last w

    said_by_loop : (i : ℕ) (limit : Form) → IsInnermost t.steps f i → combined last (negsuc 0) (without f i) ≡ Some limit
        → Says first s t Most (with_some (f, record t { steps = map (limited i limit) t.steps }))
    said_by_loop i limit inner e =
        let rise = are_rising t.steps first t.next symbols in
        let behind = loop_behind t.steps first i rise inner.there in
        let stays : (w v : Symbols) → Keeps i v w → form_value limit v ≡ form_value limit w = λ w v k.
        let one = kept_value last i v w k (all_weaker (λ u. u.symbol < first) (λ u. u.symbol < i) (λ u lt. omega (arith, lt, behind)) last.terms told.below) in
        let two = kept_value (without f i) i v w k (less_all i f.terms inner.highest) in
        limit_is last f limit i v e ∙ (λ j. sym one j +ℤ negsuc 0 *ℤ sym two j) ∙ sym (limit_is last f limit i w e)
        in
        record {
          symbols = rises_limited t.steps first t.next i limit symbols;
          more = omega arith;
          over = good;
          ended = ended_limited t.steps i limit ended;
          by = λ w l. (w, limited_back i limit w t.steps s ended l, λ j lt. refl);
          says = λ w l.
              let most = limited_says i limit w (stays w) t.steps first s ended rise (open_loop t.steps i inner.there) l in
              let value : form_value limit w ≡ form_value last w +ℤ negsuc 0 *ℤ form_value (without f i) w = limit_is last f limit i w e in
              let parts : form_value f w ≡ form_value (without f i) w +ℤ factor_of f.terms i *ℤ w.value i = (let k = sum_of-without i f.terms w.value in omega (arith, ints, k)) in
              let once : factor_of f.terms i *ℤ w.value i ≡ w.value i = ap (λ (k : ℤ). k *ℤ w.value i) inner.once ∙ one_times (w.value i) in
              let less = minus_one (form_value (without f i) w) in
              omega (arith, ints, most, value, parts, once, less);
        }

    smaller_most : (a b : ℤ) → int_min a b ≤ℤ b
    smaller_most a b = of (int_lt b a) refl
      where
        of : (v : Bool) → int_lt b a ≡ v → cond v b a ≤ℤ b
        of true e = omega (arith, ints)
        of false e = grind (ints, arith)

    let_says : (w v : Symbols) → first ≤ t.next → w ≡ bind_symbol v t.next (smallest v (f ∷ last ∷ [])) true → form_value (alone t.next) w ≤ℤ form_value last w
    let_says w v le e =
        let z : ℤ = smallest v (f ∷ last ∷ []) in
        let after : Symbols = bind_symbol v t.next z true in
        let told_so : IsTold (t.next + 1) after z (alone t.next) = told_alone (t.next + 1) t.next after z (omega arith) (bind_here v t.next z true) in
        let same_last = good_value t.next last v after (good_more first t.next last le told) (bind_keeps v t.next z true) in
        let most = smaller_most (form_value f v) (form_value last v) in
        let value = told_so.value in
        subst (λ (x : Symbols). form_value (alone t.next) x ≤ℤ form_value last x) (sym e) (omega (arith, ints, most, value, same_last))

    said_by_let : first ≤ t.next → Says first s t Most (with_some (keep_by_let f last t))
    said_by_let le = record {
      symbols = rises_more t.steps first t.next Min (f ∷ last ∷ []) symbols;
      more = omega arith;
      over = (let told_so = told_alone (t.next + 1) t.next (bind_symbol s t.next (pos 0) true) (pos 0) (omega arith) (bind_here s t.next (pos 0) true) in
          record { below = told_so.outer; canonical = told_so.rising });
      ended = ended_more t.steps t.next Min (f ∷ last ∷ []) ended;
      by = λ w l.
          let k = leads_apart t.steps (Named t.next Min (f ∷ last ∷ []) ∷ []) s w l in
          (k.0, k.1, subst (Keeps t.next k.0) (sym k.2) (bind_keeps k.0 t.next (smallest k.0 (f ∷ last ∷ [])) true));
      says = λ w l. let k = leads_apart t.steps (Named t.next Min (f ∷ last ∷ []) ∷ []) s w l in let_says w k.0 le k.2;
    }

    said_by : (o : Option ℕ) (y : Form × ToldText) → first ≤ t.next → innermost t.steps f ≡ o → keep_by o f last t ≡ Some y → Says first s t Most (with_some y)
    said_by None y le e h = subst (λ z. Says first s t Most (with_some z)) (same (keep_by_let f last t) y h) (said_by_let le)
    said_by (Some i) y le e h =
        let b = bound (combined last (negsuc 0) (without f i)) (λ limit. Some (f, record t { steps = map (limited i limit) t.steps })) y h in
        subst (λ z. Says first s t Most (with_some z)) (same (f, record t { steps = map (limited i b.value) t.steps }) y b.comes)
        (said_by_loop i b.value (innermost_is t.steps f i good.canonical e) b.is)

    weaker : (from : ℕ) (y : Form × ToldText) → Says first s t Most (with_some y) → Says first s t (λ w h. IsKept from w (Some f) (Some last) h) (with_some y)
    weaker from y h = record { symbols = h.symbols; more = h.more; over = h.over; ended = h.ended; by = h.by; says = λ w l joined. h.says w l }

    said : (from : ℕ) (y : Form × ToldText) → first ≤ t.next → keep from f last t ≡ Some y → Says first s t (λ w h. IsKept from w (Some f) (Some last) h) (with_some y)
    said from y le h = of (is_joined from f) refl h
      where
        of : (b : Bool) → is_joined from f ≡ b → (if b then keep_by (innermost t.steps f) f last t else Some (f, t)) ≡ Some y
            → Says first s t (λ w h. IsKept from w (Some f) (Some last) h) (with_some y)
        of true j e = weaker from y (said_by (innermost t.steps f) y le refl e)
        of false j e =
            subst (λ z. Says first s t (λ w h. IsKept from w (Some f) (Some last) h) (with_some z)) (same (f, t) y e)
            (says_nothing (λ w h. IsKept from w (Some f) (Some last) h) (λ w joined. absurd (false≢true (sym j ∙ joined))))

  said_if : (from : ℕ) (o : Option Form) (y : Form × ToldText) → first ≤ t.next → IsOver first o → keep_if from f o t ≡ Some y
      → Says first s t (λ w h. IsKept from w (Some f) o h) (with_some y)
  said_if from None y le over h =
      subst (λ z. Says first s t (λ w h. IsKept from w (Some f) None h) (with_some z)) (same (f, t) y h) (says_nothing (λ w h. IsKept from w (Some f) None h) (λ w. tt))
  said_if from (Some last) y le over h = said last over from y le h

module _ (g : StoredText) (scope : List Binding) (region : List Span1) (ends : AllByRecursion (λ x. AllByRecursion (Good (length scope)) x.upper) region) (from : ℕ) (s : Symbols) where
  one_said : (o last : Option Form) (t : ToldText) (x : Option Form × ToldText) → Rises (length scope) t.steps t.next → AreEnded t.steps → IsOver t.next o → length scope ≤ t.next
      → IsOver (length scope) last → told_at from o last t ≡ Some x → Says (length scope) s t (λ w h. IsKept from w o last h) x
  one_said None last t x symbols ended good le over e =
      subst (Says (length scope) s t (λ w h. IsKept from w None last h)) (same (None, t) x e)
      (record { symbols = symbols; more = omega arith; over = tt; ended = ended; by = λ w l. (w, l, λ i lt. refl); says = λ w l. tt })
  one_said (Some f) last t x symbols ended good le over e =
      let b = bound (keep_if from f last t) (λ y. Some (Some y.0, y.1)) x e in
      subst (Says (length scope) s t (λ w h. IsKept from w (Some f) last h)) (same (Some b.value.0, b.value.1) x b.comes)
      (said_if (length scope) s f t symbols ended good from last b.value le over b.is)

  -- what is said of one position stays
  kept_on : (n : ℕ) (v w : Symbols) (o last h : Option Form) → length scope ≤ n → Keeps n v w → IsOver n h → IsOver (length scope) last → IsKept from v o last h → IsKept from w o last h
  kept_on n v w None last h le k good over is = tt
  kept_on n v w (Some f) None h le k good over is = tt
  kept_on n v w (Some f) (Some last) None le k good over is = tt
  kept_on n v w (Some f) (Some last) (Some h) le k good over is = λ joined.
      let one = good_value n h v w good k in
      let two = good_value n last v w (good_more (length scope) n last le over) k in
      let most = is joined in
      omega (arith, ints, one, two, most)

  record AllSaid (d : ℕ) (os : List (Option Form)) (t : ToldText) (before : List (Option Form)) (y : List (Option Form) × ToldText) : Type 0 where
    told : List (Option Form)
    made : y.0 ≡ before ++ told
    by : GoesBy s t y.1
    says : (w : Symbols) → Leads y.1.steps s w → AreKept g scope region from w d os told

  all_said : (d most : ℕ) (os : List (Option Form)) (t : ToldText) (before : List (Option Form)) (y : List (Option Form) × ToldText) → Rises (length scope) t.steps t.next
      → AreEnded t.steps → length scope ≤ most → most ≤ t.next → AllByRecursion (IsOver most) os → add_told g scope region from d os before t ≡ Some y → AllSaid d os t before y
  all_said d most [] t before y symbols ended le behind good e =
      subst (AllSaid d [] t before) (same (before, t) y e)
      (record { told = []; made = sym (append-nil before); by = λ w l. (w, l, λ i lt. refl); says = λ w l. tt })
  all_said d most (o ∷ os) t before y symbols ended le behind good e =
      let last = last_number g scope region d in
      let b = bound (told_at from o last t) (λ x. add_told g scope region from (d + 1) os (before ++ x.0 ∷ []) x.1) y e in
      let over = last_over g scope region ends d last refl in
      let one = one_said o last t b.value symbols ended (over_at most t.next o behind good.0) (omega (arith, le, behind)) over b.is in
      let more = one.more in
      let rest = all_said (d + 1) most os b.value.1 (before ++ b.value.0 ∷ []) y one.symbols one.ended le (omega (arith, behind, more)) good.1 b.comes in
      record {
        told = b.value.0 ∷ rest.told;
        made = rest.made ∙ append_assoc before (b.value.0 ∷ []) rest.told;
        by = λ w l.
            let k = rest.by w l in
            let j = one.by k.0 k.1 in
            (j.0, j.1, keeps_on t.next b.value.1.next j.0 k.0 w j.2 k.2 more);
        says = λ w l.
            let k = rest.by w l in
            (kept_on b.value.1.next k.0 w o last b.value.0 (omega (arith, le, behind, more)) k.2 one.over over (one.says k.0 k.1), rest.says w l);
      }
    where
      over_at : (n m : ℕ) (o : Option Form) → n ≤ m → IsOver n o → IsOver m o
      over_at n m None le h = tt
      over_at n m (Some f) le h = good_more n m f le h

pub told_numbers_are_kept : ToldNumbersAreKept
told_numbers_are_kept g scope region from n m made nested ended s u comes =
    let count = length (bind_steps scope n.steps) in
    let t = told_from scope n.steps in
    let symbols = rises n.steps scope nested.rising in
    let le = rises_to n.steps (length scope) count symbols in
    let b = bound (add_told g scope region from 0 n.at [] t) (λ x. Some (record { steps = x.1.steps; at = x.0 })) m made in
    let all = all_said g scope region nested.ends from s 0 count n.at t [] b.value symbols ended le (omega arith) nested.coordinates b.is in
    let is : NestText = record { steps = b.value.1.steps; at = b.value.0 } in
    let way : Leads b.value.1.steps s u = subst (λ (k : NestText). Leads k.steps s u) (sym (same is m b.comes)) (arrived m.steps s u comes) in
    subst (λ (k : NestText). AreKept g scope region from u 0 n.at k.at) (same is m b.comes) (subst (AreKept g scope region from u 0 n.at) (sym all.made) (all.says u way))
