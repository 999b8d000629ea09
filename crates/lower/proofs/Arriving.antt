-- Each time that a piece comes to the store of a definition, the symbols are numbers that fit what is known around it.
use Rattle.std.proofs.Common.{◌≡◌, ◌≤◌, ◌<◌, ◌+◌, ◌-◌, ℕ, zero, suc, Bool, true, false, List, [], ◌∷◌, ◌++◌, length, Some, refl, sym, ap, subst, ◌∙◌, inl, inr, arith}
use Rattle.std.proofs.lemmas.Int.{ints}
use Rattle.std.proofs.lemmas.List.{length-append, length-map, length-replicate}
use Rattle.std.proofs.lemmas.List.Elements.{All-cons, All-nil, All-from_recursion}
use Rattle.std.proofs.lemmas.Option.{slice_get_within}
use Rattle.std.specs.List.{AllByRecursion, All, Any}
use Rattle.std.specs.Int.{int_min}
use Rattle.std.specs.Prelude.{ℤ, pos, ◌+ℤ◌, ◌-ℤ◌, ◌≤ℤ◌, ◌⊎◌, ◌==◌, int_le, int_lt, cond, replicate, slice_get, if◌then◌else◌}
use Rattle.lin.specs.Forms.{Form, number, value_of}
use Rattle.lin.specs.Spans.{HoldsIn, Holds, IsInSpan, IsLeast}
use Rattle.lin.specs.declared.scope.Binding.{Binding}
use Rattle.lin.specs.declared.scope.Binding.TheVariants.{Loop, LetMin}
use Rattle.lin.specs.declared.span.Span1.{Span1}
use Rattle.lin.proofs.TermLemmas.{all_weaker, sum_of-same}
use Rattle.plan.specs.declared.stmt.Pick.{Pick}
use Rattle.plan.specs.declared.stmt.Pick.TheVariants.{Min}
use Rattle.plan.specs.Symbols.{Symbols, bind as bind_symbol, form_value, largest, smallest, turns}
use Rattle.plan.specs.Certificate.Cells.{grid_symbols, grid_value}
use Rattle.sched.specs.declared.skeleton.Step.{Step}
use Rattle.sched.specs.declared.skeleton.Step.TheVariants.{Turns, Named, Tested}
use Rattle.sched.specs.Order.{Good, IsSpan, IsSmaller, Ordered, BindInOrder}
use Rattle.sched.specs.Skeleton.{span}
use Rattle.sched.specs.Visits.{IsInGrid, picked}
use Rattle.sched.proofs.Arriving.{skeletal}
use Rattle.sched.proofs.Leading.{In, Leads, arrived, leads_apart, turn_says}
use Rattle.sched.specs.Around.{anything, bind, bind_step, bind_steps, grid_scope, grid_symbol, head_scope, skip_to}
use Rattle.regions.specs.Regions.{bodies_from}
use Rattle.lower.specs.Held.{ArrivalsFit}
use Rattle.blocks.proofs.Laying.{same}

-- ---- lists

-- an entry of two lists, one behind the other, is one of the first, or of the second so many places on
get_either : {A : Type 0} (xs ys : List A) (k : ℕ) (x : A) → slice_get (xs ++ ys) k ≡ Some x → (slice_get xs k ≡ Some x) ⊎ ((j : ℕ) × (k ≡ length xs + j) × (slice_get ys j ≡ Some x))
get_either [] ys k x e = inr (k, omega arith, e)
get_either (y ∷ xs) ys zero x e = inl e
get_either (y ∷ xs) ys (suc k) x e = by (get_either xs ys k x e)
  where
    by : (slice_get xs k ≡ Some x) ⊎ ((j : ℕ) × (k ≡ length xs + j) × (slice_get ys j ≡ Some x)) → (slice_get xs k ≡ Some x) ⊎ ((j : ℕ) × (suc k ≡ suc (length xs) + j) × (slice_get ys j ≡ Some x))
    by (inl q) = inl q
    by (inr q) = inr (q.0, (let i = q.1 in omega (arith, i)), q.2)

replicated : {A : Type 0} (n k : ℕ) (a x : A) → slice_get (replicate n a) k ≡ Some x → a ≡ x
replicated zero k a x e = absurd (cc e)
replicated (suc n) zero a x e = same a x e
replicated (suc n) (suc k) a x e = replicated n k a x e

only_one : {A : Type 0} (a : A) (k : ℕ) (x : A) → slice_get (a ∷ []) k ≡ Some x → (k ≡ 0) × (a ≡ x)
only_one a zero x e = (refl, same a x e)
only_one a (suc k) x e = absurd (cc e)

-- ---- what is known of symbols before one

value_same : (n : ℕ) (f : Form) (v w : ℕ → ℤ) → Good n f → ((j : ℕ) → j < n → v j ≡ w j) → value_of f v ≡ value_of f w
value_same n f v w g agree =
    ap (λ z. f.constant +ℤ z) (sum_of-same f.terms v w (all_weaker (λ t. t.symbol < n) (λ t. v t.symbol ≡ w t.symbol) (λ t h. agree t.symbol h) f.terms g.below))

-- what is known of symbol n holds whatever symbols behind it stand for
abbrev Stays : ℕ → Binding → Type 0
Stays n b = (z : ℤ) (v w : ℕ → ℤ) → ((j : ℕ) → j < n → v j ≡ w j) → Holds b z v → Holds b z w

abbrev AllStay : List Binding → Type 0
AllStay scope = (n : ℕ) (b : Binding) → slice_get scope n ≡ Some b → Stays n b

anything_stays : (n : ℕ) → Stays n (Loop anything)
anything_stays n = λ z v w agree h. (All-nil (λ f. value_of f w ≤ℤ z), All-nil (λ f. z ≤ℤ value_of f w))

anything_holds : (z : ℤ) (w : ℕ → ℤ) → Holds (Loop anything) z w
anything_holds z w = (All-nil (λ f. value_of f w ≤ℤ z), All-nil (λ f. z ≤ℤ value_of f w))

-- ---- one more symbol

module _ (scope : List Binding) (i : ℕ) (b : Binding) (le : length scope ≤ i) where
  bound_length : length (bind scope i b) ≡ i + 1
  bound_length =
      let first = length-append (skip_to scope i) (b ∷ []) in
      let second = length-append scope (replicate (i - length scope) (Loop anything)) in
      let third = length-replicate (i - length scope) (Loop anything) in
      omega (arith, first, second, third, le)

  skipped_length : length (skip_to scope i) ≡ i
  skipped_length =
      let second = length-append scope (replicate (i - length scope) (Loop anything)) in
      let third = length-replicate (i - length scope) (Loop anything) in
      omega (arith, second, third, le)

  -- a symbol of the longer scope is one of the shorter, one of which nothing is known, or the new one
  each : (P : ℕ → Binding → Type 0) → ((n : ℕ) (d : Binding) → slice_get scope n ≡ Some d → P n d) → ((n : ℕ) → P n (Loop anything)) → P i b → (n : ℕ) (d : Binding)
      → slice_get (bind scope i b) n ≡ Some d → P n d
  each P old none new n d e = by (get_either (skip_to scope i) (b ∷ []) n d e)
    where
      skipped : (slice_get scope n ≡ Some d) ⊎ ((j : ℕ) × (n ≡ length scope + j) × (slice_get (replicate (i - length scope) (Loop anything)) j ≡ Some d)) → P n d
      skipped (inl q) = old n d q
      skipped (inr q) = subst (P n) (replicated (i - length scope) q.0 (Loop anything) d q.2) (none n)

      by : (slice_get (skip_to scope i) n ≡ Some d) ⊎ ((j : ℕ) × (n ≡ length (skip_to scope i) + j) × (slice_get (b ∷ []) j ≡ Some d)) → P n d
      by (inl q) = skipped (get_either scope (replicate (i - length scope) (Loop anything)) n d q)
      by (inr q) =
          let one = only_one b q.0 d q.2 in
          let here : n ≡ i = (let at = q.1 in let zero_is = one.0 in let size = skipped_length in omega (arith, at, zero_is, size)) in
          subst (λ (m : ℕ). P m d) (sym here) (subst (P i) one.1 new)

  bound_stays : AllStay scope → Stays i b → AllStay (bind scope i b)
  bound_stays old new = each Stays old anything_stays new

  bound_holds : (v w : ℕ → ℤ) → AllStay scope → HoldsIn scope v → ((j : ℕ) → j < i → v j ≡ w j) → Holds b (w i) w → HoldsIn (bind scope i b) w
  bound_holds v w stays holds agree new =
      each (λ n d. Holds d (w n) w)
      (λ n d e. let lt : n < i = (let in_it = slice_get_within scope n d e in omega (arith, in_it, le)) in
      stays n d e (w n) v w (λ j l. agree j (omega (arith, l, lt))) (subst (λ (z : ℤ). Holds d z v) (agree n lt) (holds n d e)))
      (λ n. anything_holds (w n) w) new

-- ---- the steps

span_stays : (n : ℕ) (x : Span1) → IsSpan n x → Stays n (Loop x)
span_stays n x s = λ z v w agree h.
    let Q : Span1 → Type 0 = λ y. IsInSpan y w z in
    subst Q (sym s.is) (kept z v w agree (subst (λ (y : Span1). IsInSpan y v z) s.is h))
  where
    uppers : (z : ℤ) (v w : ℕ → ℤ) → ((j : ℕ) → j < n → v j ≡ w j) → (fs : List Form) → AllByRecursion (Good n) fs → All (λ f. z ≤ℤ value_of f v) fs → All (λ f. z ≤ℤ value_of f w) fs
    uppers z v w agree [] g a = All-nil (λ f. z ≤ℤ value_of f w)
    uppers z v w agree (f ∷ fs) g a =
        All-cons (λ f. z ≤ℤ value_of f w) f fs (subst (λ (y : ℤ). z ≤ℤ y) (value_same n f v w g.0 agree) (a 0 f (omega arith)))
        (uppers z v w agree fs g.1 (λ k d lt. a (suc k) d (omega (arith, lt))))

    kept : (z : ℤ) (v w : ℕ → ℤ) → ((j : ℕ) → j < n → v j ≡ w j) → IsInSpan (span s.low s.last s.limits) v z → IsInSpan (span s.low s.last s.limits) w z
    kept z v w agree h =
        let low : value_of (number s.low) v ≤ℤ z = h.0 0 (number s.low) (omega arith) in (
          All-cons (λ f. value_of f w ≤ℤ z) (number s.low) [] (omega (arith, ints, low)) (All-nil (λ f. value_of f w ≤ℤ z)),
          uppers z v w agree (number s.last ∷ s.limits) (record { below = tt; canonical = tt }, s.good) h.1,
        )

span_holds : (n : ℕ) (x : Span1) (s : Symbols) (w : ℕ → ℤ) (z : ℤ) → IsSpan n x → In z (turns s x) → ((j : ℕ) → j < n → s.value j ≡ w j) → Holds (Loop x) z w
span_holds n x s w z i m agree =
    let said = turn_says s i.low i.last z i.limits (subst (λ (y : Span1). In z (turns s y)) i.is m) in
    let from = said.0 in
    let to = said.1 in
    let there : IsInSpan (span i.low i.last i.limits) s.value z = (
      All-cons (λ f. value_of f s.value ≤ℤ z) (number i.low) [] (omega (arith, ints, from)) (All-nil (λ f. value_of f s.value ≤ℤ z)),
      All-cons (λ f. z ≤ℤ value_of f s.value) (number i.last) i.limits (omega (arith, ints, to)) (All-from_recursion (λ f. z ≤ℤ value_of f s.value) i.limits said.2),
    ) in
    span_stays n x i z s.value w agree (subst (λ (y : Span1). IsInSpan y s.value z) (sym i.is) there)

-- the smaller of two numbers
least_of : (a b : ℤ) → (int_min a b ≤ℤ a) × (int_min a b ≤ℤ b) × ((a ≡ int_min a b) ⊎ (b ≡ int_min a b))
least_of a b = by (int_lt b a) refl
  where
    by : (t : Bool) → int_lt b a ≡ t → (cond t b a ≤ℤ a) × (cond t b a ≤ℤ b) × ((a ≡ cond t b a) ⊎ (b ≡ cond t b a))
    by true e = (omega (arith, ints, e), omega (arith, ints), inr refl)
    by false e = (omega (arith, ints), omega (arith, ints, e), inl refl)

any_first : (P : Form → Type 0) (f : Form) (fs : List Form) → P f → Any P (f ∷ fs)
any_first P f fs p = (0, f, omega arith, refl, p)

any_second : (P : Form → Type 0) (f g : Form) (fs : List Form) → P g → Any P (f ∷ g ∷ fs)
any_second P f g fs p = (1, g, omega arith, refl, p)

-- a form or a number is the smaller of them
either_least : (f : Form) (z c : ℤ) (v : ℕ → ℤ) → c ≤ℤ value_of f v → c ≤ℤ z → (value_of f v ≡ c) ⊎ (z ≡ c) → IsLeast (f ∷ number z ∷ []) v c
either_least f z c v first second is = (
  All-cons (λ g. c ≤ℤ value_of g v) f (number z ∷ []) first (All-cons (λ g. c ≤ℤ value_of g v) (number z) [] (omega (arith, ints, second)) (All-nil (λ g. c ≤ℤ value_of g v))),
  by is,
)
  where
    by : (value_of f v ≡ c) ⊎ (z ≡ c) → Any (λ g. value_of g v ≡ c) (f ∷ number z ∷ [])
    by (inl e) = any_first (λ g. value_of g v ≡ c) f (number z ∷ []) e
    by (inr e) = any_second (λ g. value_of g v ≡ c) f (number z) [] (omega (arith, ints, e))

-- which of two forms a number is
one_of_two : (f g : Form) (v : ℕ → ℤ) (c : ℤ) → Any (λ h. value_of h v ≡ c) (f ∷ g ∷ []) → (value_of f v ≡ c) ⊎ (value_of g v ≡ c)
one_of_two f g v c (zero, x, lt, at, e) = inl (subst (λ (h : Form). value_of h v ≡ c) (sym at) e)
one_of_two f g v c (suc zero, x, lt, at, e) = inr (subst (λ (h : Form). value_of h v ≡ c) (sym at) e)
one_of_two f g v c (suc (suc k), x, lt, at, e) = absurd (omega (arith, lt))

smaller_stays : (n : ℕ) (fs : List Form) → IsSmaller n fs → Stays n (LetMin fs)
smaller_stays n fs i = λ z v w agree h.
    let there : IsLeast (i.form ∷ number i.last ∷ []) v z = subst (λ (q : List Form). IsLeast q v z) i.is h in
    let value = value_same n i.form v w i.good agree in
    let first : z ≤ℤ value_of i.form v = there.0 0 i.form (omega arith) in
    let second : z ≤ℤ value_of (number i.last) v = there.0 1 (number i.last) (omega arith) in
    subst (λ (q : List Form). IsLeast q w z) (sym i.is)
    (either_least i.form i.last z w (subst (λ (y : ℤ). z ≤ℤ y) value first) (omega (arith, ints, second)) (by z v w value (one_of_two i.form (number i.last) v z there.1)))
  where
    by : (z : ℤ) (v w : ℕ → ℤ) → value_of i.form v ≡ value_of i.form w → (value_of i.form v ≡ z) ⊎ (value_of (number i.last) v ≡ z) → (value_of i.form w ≡ z) ⊎ (i.last ≡ z)
    by z v w value (inl e) = inl (sym value ∙ e)
    by z v w value (inr e) = inr (omega (arith, ints, e))

smaller_holds : (n : ℕ) (fs : List Form) (s : Symbols) → IsSmaller n fs → Holds (LetMin fs) (smallest s fs) s.value
smaller_holds n fs s i =
    let c : ℤ = int_min (form_value i.form s) (form_value (number i.last) s) in
    let two = least_of (form_value i.form s) (form_value (number i.last) s) in
    let P : List Form → Type 0 = λ q. IsLeast q s.value (smallest s q) in
    subst P (sym i.is) (either_least i.form i.last c s.value two.0 (let second = two.1 in omega (arith, ints, second)) (by c two.2))
  where
    by : (c : ℤ) → (form_value i.form s ≡ c) ⊎ (form_value (number i.last) s ≡ c) → (value_of i.form s.value ≡ c) ⊎ (i.last ≡ c)
    by c (inl e) = inl e
    by c (inr e) = inr (omega (arith, ints, e))

-- ---- the way to a store

other_value : (i j : ℕ) (z y : ℤ) → j < i → y ≡ (if j == i then z else y)
other_value i j z y lt = by (j == i) refl
  where
    by : (b : Bool) → (j == i) ≡ b → y ≡ (if b then z else y)
    by true e = absurd (grind (arith, e, lt))
    by false e = refl

own_value : (i : ℕ) (z y : ℤ) → z ≡ (if i == i then z else y)
own_value i z y = by (i == i) refl
  where
    by : (b : Bool) → (i == i) ≡ b → z ≡ (if b then z else y)
    by true e = refl
    by false e = absurd (grind (arith, e))

-- the symbols fit what is known of them, which stays whatever later ones stand for, and those from n on are not known of
record Fit (scope : List Binding) (n : ℕ) (v : ℕ → ℤ) : Type 0 where
  short : length scope ≤ n
  stays : AllStay scope
  holds : HoldsIn scope v

fit_more : (scope : List Binding) (n i : ℕ) (b : Binding) (s : Symbols) (z : ℤ) (flag : Bool) → i ≡ n → Fit scope n s.value → Stays i b → Holds b z (bind_symbol s i z flag).value
    → Fit (bind scope i b) (n + 1) (bind_symbol s i z flag).value
fit_more scope n i b s z flag is f stays holds =
    let le : length scope ≤ i = (let short = f.short in omega (arith, short, is)) in
    let w : ℕ → ℤ = (bind_symbol s i z flag).value in
    record {
      short = (let size = bound_length scope i b le in omega (arith, size, is));
      stays = bound_stays scope i b le f.stays stays;
      holds = bound_holds scope i b le s.value w f.stays f.holds (λ j lt. other_value i j z (s.value j) lt) (subst (λ (y : ℤ). Holds b y w) (own_value i z (s.value i)) holds);
    }

way_fits : (steps : List Step) (n m : ℕ) (scope : List Binding) (s t : Symbols) → Ordered n steps m → Fit scope n s.value → Leads steps s t → Fit (bind_steps scope steps) m t.value
way_fits [] n m scope s t o f l = subst (λ (q : ℕ). Fit scope q t.value) o (subst (λ (u : Symbols). Fit scope n u.value) (sym l) f)
way_fits (Turns i x kind ∷ steps) n m scope s t o f l =
    let z : ℤ = l.0 in
    let flag : Bool = int_le z (largest s x.lower) in
    let x_is : IsSpan i x = subst (λ (q : ℕ). IsSpan q x) (sym o.0) o.1 in
    let next = fit_more scope n i (Loop x) s z flag o.0 f (span_stays i x x_is) (span_holds i x s (bind_symbol s i z flag).value z x_is l.1 (λ j lt. other_value i j z (s.value j) lt)) in
    way_fits steps (n + 1) m (bind scope i (Loop x)) (bind_symbol s i z flag) t o.2 next l.2
way_fits (Named i pick fs ∷ steps) n m scope s t o f l =
    let a : IsSmaller i fs = subst (λ (q : ℕ). IsSmaller q fs) (sym o.0) o.2 in
    let P : Pick → Type 0 = λ p. Leads steps (bind_symbol s i (picked p fs s) true) t → Fit (bind_steps (bind_step scope (Named i p fs)) steps) m t.value in
    let z : ℤ = smallest s fs in
    let w : ℕ → ℤ = (bind_symbol s i z true).value in
    let agree : (j : ℕ) → j < i → s.value j ≡ w j = λ j lt. other_value i j z (s.value j) lt in
    let next = fit_more scope n i (LetMin fs) s z true o.0 f (smaller_stays i fs a) (smaller_stays i fs a z s.value w agree (smaller_holds i fs s a)) in
    let done : P Min = λ q. way_fits steps (n + 1) m (bind scope i (LetMin fs)) (bind_symbol s i z true) t o.3 next q in
    subst P (sym o.1) done l
way_fits (Tested low high ∷ steps) n m scope s t o f l = way_fits steps n m scope s t o f l.1

-- ---- the grid

grid_holds : (counts piece : List ℕ) → IsInGrid counts piece → (j : ℕ) (b : Binding) → slice_get (grid_scope counts) j ≡ Some b → (v : ℕ → ℤ) → Holds b (grid_value piece j) v
grid_holds [] piece i j b e v = absurd (cc e)
grid_holds (n ∷ ns) [] i j b e v = absurd i
grid_holds (n ∷ ns) (x ∷ xs) i zero b e v =
    let lt = i.0 in
    subst (λ (d : Binding). Holds d (pos x) v) (same (grid_symbol n) b e) (
      All-cons (λ f. value_of f v ≤ℤ pos x) (number (pos 0)) [] (omega (arith, ints)) (All-nil (λ f. value_of f v ≤ℤ pos x)),
      All-cons (λ f. pos x ≤ℤ value_of f v) (number (pos n -ℤ pos 1)) [] (omega (arith, ints, lt)) (All-nil (λ f. pos x ≤ℤ value_of f v)),
    )
grid_holds (n ∷ ns) (x ∷ xs) i (suc j) b e v = grid_holds ns xs i.1 j b e v

grid_stays : (counts : List ℕ) → AllStay (grid_scope counts)
grid_stays [] j b e = absurd (cc e)
grid_stays (n ∷ ns) zero b e =
    subst (Stays 0) (same (grid_symbol n) b e)
    (λ z v w agree h.
    let low : value_of (number (pos 0)) v ≤ℤ z = h.0 0 (number (pos 0)) (omega arith) in
    let high : z ≤ℤ value_of (number (pos n -ℤ pos 1)) v = h.1 0 (number (pos n -ℤ pos 1)) (omega arith) in (
      All-cons (λ f. value_of f w ≤ℤ z) (number (pos 0)) [] (omega (arith, ints, low)) (All-nil (λ f. value_of f w ≤ℤ z)),
      All-cons (λ f. z ≤ℤ value_of f w) (number (pos n -ℤ pos 1)) [] (omega (arith, ints, high)) (All-nil (λ f. z ≤ℤ value_of f w)),
    ))
grid_stays (n ∷ ns) (suc j) b e = λ z v w agree h. grid_stays ns j b e z v w (λ i lt. agree i (omega (arith, lt))) h

grid_fit : (counts piece : List ℕ) → IsInGrid counts piece → Fit (grid_scope counts) (length counts) (grid_value piece)
grid_fit counts piece i = record {
  short = (let size = length-map counts grid_symbol in omega (arith, size));
  stays = grid_stays counts;
  holds = λ n b e. grid_holds counts piece i n b e (grid_value piece);
}

pub arrivals_fit : ArrivalsFit
arrivals_fit g fs region k made i n nest piece s grid comes =
    let order : BindInOrder k = skeletal g.subject.variables (bodies_from g.changes 0 g.subject.reductions fs) g.placed region k made in
    let ways = leads_apart k.head n.steps (grid_symbols piece) s (arrived (k.head ++ n.steps) (grid_symbols piece) s comes) in
    let head = way_fits k.head (length k.grid) order.next (grid_scope k.grid) (grid_symbols piece) ways.0 order.head (grid_fit k.grid piece grid) ways.1 in
    let behind = order.nests i n nest in
    let begins : Fit (head_scope k) behind.from ways.0.value = record {
      short = (let le = head.short in let above = behind.above in omega (arith, le, above));
      stays = head.stays;
      holds = head.holds;
    } in
    (way_fits n.steps behind.from behind.to (head_scope k) ways.0 s behind.steps begins ways.2).holds
