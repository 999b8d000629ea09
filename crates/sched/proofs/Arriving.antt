-- The symbols of a skeleton's steps rise by one, and the forms of each step are of the symbols before it.
use Rattle.std.proofs.Common.{◌≡◌, ◌≤◌, ◌<◌, ◌+◌, ◌-◌, ℕ, zero, suc, Bool, true, false, List, [], ◌∷◌, ◌++◌, length, map, Option, Some, None, refl, sym, ap, subst, arith}
use Rattle.std.proofs.lemmas.Int.{ints}
use Rattle.std.proofs.lemmas.List.{length-map}
use Rattle.std.specs.List.{AllByRecursion, list_any}
use Rattle.std.specs.Ordering.{int_eq}
use Rattle.std.specs.Prelude.{ℤ, pos, negsuc, ◌+ℤ◌, ◌*ℤ◌, ◌&&◌, ◌||◌, ◌==◌, not, filter, if◌then◌else◌, slice_get}
use Rattle.lin.specs.Forms.{Form, number, combined, plus_term, plus_terms, without, value_of, sum_of, IsCanonical}
use Rattle.lin.specs.declared.form.Multiple.{Multiple}
use Rattle.lin.proofs.Limits.{combined-means}
use Rattle.lin.proofs.TermLemmas.{all_weaker, filter-canonical, plus_term-all, plus_terms-canonical, sum_of-same}
use Rattle.plan.specs.declared.stmt.Pick.TheVariants.{Min}
use Rattle.sched.specs.declared.schedule.Split.{Split}
use Rattle.sched.specs.declared.schedule.Tail.{Tail}
use Rattle.sched.specs.declared.schedule.Tail.TheVariants as tails
use Rattle.sched.specs.declared.numbers.Numbers.{Numbers}
use Rattle.sched.specs.declared.numbers.Extent.{Extent}
use Rattle.sched.specs.declared.placing.Loop.{Loop as LoopMade}
use Rattle.sched.specs.declared.skeleton.Known.{Known}
use Rattle.sched.specs.declared.skeleton.Step.{Step}
use Rattle.sched.specs.declared.skeleton.Step.TheVariants.{Turns, Named, Tested}
use Rattle.sched.specs.declared.skeleton.Within.{Within}
use Rattle.sched.specs.declared.skeleton.Within.TheVariants as within
use Rattle.sched.specs.declared.nest.Turning.{Turning}
use Rattle.sched.specs.Numbers.{loop_numbers, numbers_named, last_number, or_one, grid_counts, parallel_loops, piece_counts}
use Rattle.sched.specs.Placing.{PlacedText}
use Rattle.sched.specs.Standing.{◌>>=◌, StandingText, form_named, counted_from, alone, is_now, starts_at, name_smaller, test, room, begin_at, begin_over, begin, is_guarded, last_term, is_bound, counted_once, innermost, keep_by_loop, keep_by_guard, keep_by_test, keep_within, put_together, join_over, join, settle_some, cuts_by_variable}
use Rattle.sched.specs.Skeleton.{BodyText, NestText, SkeletonText, span, enter, leave, inside, turn, turn_all, kept_from, nest_turns, begun, nest_in, nest_of, nests_in, grid_forms, over_grid, skeleton_in}
use Rattle.sched.specs.Order.{Good, Ordered, BindsBehind, BindInOrder}
use Rattle.sched.proofs.Standings.{all_more, found_all}

record Bound {A B : Type 0} (o : Option A) (f : A → Option B) (y : B) : Type 0 where
  value : A
  is : o ≡ Some value
  comes : f value ≡ Some y

bound : {A B : Type 0} (o : Option A) (f : A → Option B) (y : B) → (o >>= f) ≡ Some y → Bound o f y
bound (Some x) f y h = record { value = x; is = refl; comes = h }
bound None f y h = absurd cc

same : {A : Type 0} (x y : A) → Some x ≡ Some y → x ≡ y
same x y h = ap (λ o. elim o [ Some z ↦ z | None ↦ x ]) h

-- ---- forms of the symbols before one

good_number : (n : ℕ) (z : ℤ) → Good n (number z)
good_number n z = record { below = tt; canonical = tt }

one_is_some : pos 1 ≡ pos 0 → ⊥
one_is_some e = omega (arith, ints, e)

good_counted : (n s : ℕ) (z : ℤ) → s < n → Good n (counted_from z s)
good_counted n s z lt = record { below = (lt, tt); canonical = (one_is_some, tt, tt) }

good_more : (n m : ℕ) (f : Form) → n ≤ m → Good n f → Good m f
good_more n m f le g = record { below = all_weaker (λ t. t.symbol < n) (λ t. t.symbol < m) (λ t h. omega (arith, h, le)) f.terms g.below; canonical = g.canonical }

below_plus : (n : ℕ) (k : ℤ) (ts us : List Multiple) → AllByRecursion (λ t. t.symbol < n) ts → AllByRecursion (λ t. t.symbol < n) us → AllByRecursion (λ t. t.symbol < n) (plus_terms ts k us)
below_plus n k ts [] a b = a
below_plus n k ts (u ∷ us) a b =
    below_plus n k (plus_term ts (record { symbol = u.symbol; factor = k *ℤ u.factor })) us
    (plus_term-all (λ t. t.symbol < n) (λ t. t.symbol < n) (λ x h. h) (record { symbol = u.symbol; factor = k *ℤ u.factor }) b.0 (λ x h. b.0) ts a) b.1

good_combined : (n : ℕ) (a : Form) (k : ℤ) (b f : Form) → combined a k b ≡ Some f → Good n a → Good n b → Good n f
good_combined n a k b f e g h =
    subst (Good n) (sym (combined-means a k b f e).is)
    (record { below = below_plus n k a.terms b.terms g.below h.below; canonical = plus_terms-canonical a.terms k b.terms g.canonical })

at_place : (P : Multiple → Type 0) (ts : List Multiple) (k : ℕ) (t : Multiple) → AllByRecursion P ts → slice_get ts k ≡ Some t → P t
at_place P [] k t a e = absurd (no e)
  where
    no : None ≡ Some t → ⊥
    no q = cc
at_place P (x ∷ ts) zero t a e = subst P (same x t e) a.0
at_place P (x ∷ ts) (suc k) t a e = at_place P ts k t a.1 e

last_largest : (ts : List Multiple) (k : ℕ) (t : Multiple) → k + 1 ≡ length ts → IsCanonical ts → slice_get ts k ≡ Some t → AllByRecursion (λ u. u.symbol ≤ t.symbol) ts
last_largest [] k t n c e = absurd (omega (arith, n))
last_largest (x ∷ []) zero t n c e = (let is = ap (λ (q : Multiple). q.symbol) (same x t e) in omega (arith, is), tt)
last_largest (x ∷ y ∷ ts) zero t n c e = absurd (omega (arith, n))
last_largest (x ∷ ts) (suc k) t n c e =
    (let lt = at_place (λ u. x.symbol < u.symbol) ts k t c.1 e in omega (arith, lt), last_largest ts k t (omega (arith, n)) c.2 e)

filtered_below : (s : ℕ) (ts : List Multiple) → AllByRecursion (λ u. u.symbol ≤ s) ts → AllByRecursion (λ u. u.symbol < s) (filter (λ t. not (t.symbol == s)) ts)
filtered_below s [] a = tt
filtered_below s (t ∷ ts) a = by (t.symbol == s) refl (filtered_below s ts a.1)
  where
    by : (b : Bool) → (t.symbol == s) ≡ b → AllByRecursion (λ u. u.symbol < s) (filter (λ t. not (t.symbol == s)) ts)
        → AllByRecursion (λ u. u.symbol < s) (if not b then t ∷ filter (λ t. not (t.symbol == s)) ts else filter (λ t. not (t.symbol == s)) ts)
    by true e rest = rest
    by false e rest = (let le = a.0 in grind (arith, e, le), rest)

good_without : (f : Form) (n s : ℕ) (t : Multiple) → Good n f → last_term f ≡ Some t → t.symbol ≡ s → Good s (without f s)
good_without f n s t g e is = by f.terms refl
  where
    by : (ts : List Multiple) → f.terms ≡ ts → Good s (without f s)
    by [] none = record { below = rw none tt; canonical = filter-canonical (λ u. not (u.symbol == s)) f.terms g.canonical }
    by (x ∷ ts) some =
        let count : (length f.terms - 1) + 1 ≡ length f.terms = (let n = ap length some in omega (arith, n)) in
        let all = last_largest f.terms (length f.terms - 1) t count g.canonical e in
        let all_s = all_weaker (λ u. u.symbol ≤ t.symbol) (λ u. u.symbol ≤ s) (λ u h. omega (arith, h, is)) f.terms all in
        record { below = filtered_below s f.terms all_s; canonical = filter-canonical (λ u. not (u.symbol == s)) f.terms g.canonical }

value_same : (n : ℕ) (f : Form) (v w : ℕ → ℤ) → Good n f → ((j : ℕ) → j < n → v j ≡ w j) → value_of f v ≡ value_of f w
value_same n f v w g agree =
    ap (λ z. f.constant +ℤ z) (sum_of-same f.terms v w (all_weaker (λ t. t.symbol < n) (λ t. v t.symbol ≡ w t.symbol) (λ t h. agree t.symbol h) f.terms g.below))

-- ---- steps in the order of their symbols

ordered_append : (n k m : ℕ) (a b : List Step) → Ordered n a k → Ordered k b m → Ordered n (a ++ b) m
ordered_append n k m [] b h g = subst (λ (q : ℕ). Ordered q b m) (sym h) g
ordered_append n k m (Turns i x kind ∷ a) b h g = (h.0, h.1, ordered_append (n + 1) k m a b h.2 g)
ordered_append n k m (Named i pick fs ∷ a) b h g = (h.0, h.1, h.2, ordered_append (n + 1) k m a b h.3 g)
ordered_append n k m (Tested low high ∷ a) b h g = ordered_append n k m a b h g

ordered_rises : (n m : ℕ) (a : List Step) → Ordered n a m → n ≤ m
ordered_rises n m [] h = omega (arith, h)
ordered_rises n m (Turns i x kind ∷ a) h = let le = ordered_rises (n + 1) m a h.2 in omega (arith, le)
ordered_rises n m (Named i pick fs ∷ a) h = let le = ordered_rises (n + 1) m a h.3 in omega (arith, le)
ordered_rises n m (Tested low high ∷ a) h = ordered_rises n m a h

-- ---- what stands while they are made

-- forms are of the symbols so far; further ends of the loop are of those before the loop c, and no loop around is behind that one
record Stand (c base : ℕ) (st : StandingText) : Type 0 where
  known : AllByRecursion (λ k. Good st.next k.form) st.known
  starts : AllByRecursion (λ k. Good st.next k.form) st.starts
  around : AllByRecursion (λ j. j ≤ c) st.bound
  limits : AllByRecursion (Good c) st.limits
  steps : Ordered base st.steps st.next

known_more : (n m : ℕ) (ks : List Known) → n ≤ m → AllByRecursion (λ k. Good n k.form) ks → AllByRecursion (λ k. Good m k.form) ks
known_more n m ks le a = all_weaker (λ k. Good n k.form) (λ k. Good m k.form) (λ k h. good_more n m k.form le h) ks a

all_pushed : {A : Type 0} (P : A → Type 0) (xs : List A) (x : A) → AllByRecursion P xs → P x → AllByRecursion P (xs ++ x ∷ [])
all_pushed P [] x a p = (p, tt)
all_pushed P (y ∷ xs) x a p = (a.0, all_pushed P xs x a.1 p)

module _ (c base : ℕ) where
  now : (x : List ℕ) (f : Form) (st : StandingText) → Good st.next f → Stand c base st → Stand c base (is_now x f st)
  now x f st g h = record {
    known = all_more (λ k. Good st.next k.form) st.known (record { name = x; form = f }) h.known g;
    starts = h.starts;
    around = h.around;
    limits = h.limits;
    steps = h.steps;
  }

  start : (x : List ℕ) (f : Form) (st : StandingText) → Good st.next f → Stand c base st → Stand c base (starts_at x f st)
  start x f st g h = record {
    known = h.known;
    starts = all_more (λ k. Good st.next k.form) st.starts (record { name = x; form = f }) h.starts g;
    around = h.around;
    limits = h.limits;
    steps = h.steps;
  }

  smaller : (f : Form) (z : ℤ) (st : StandingText) → Good st.next f → Stand c base st → Stand c base (name_smaller f z st)
  smaller f z st g h = record {
    known = known_more st.next (st.next + 1) st.known (omega arith) h.known;
    starts = known_more st.next (st.next + 1) st.starts (omega arith) h.starts;
    around = h.around;
    limits = h.limits;
    steps = ordered_append base st.next (st.next + 1) st.steps (Named st.next Min (f ∷ number z ∷ []) ∷ []) h.steps
        (refl, refl, record { form = f; last = z; is = refl; good = g }, refl);
  }

  tested : (f : Form) (z : ℤ) (st : StandingText) → Stand c base st → Stand c base (test f z st)
  tested f z st h = record {
    known = h.known;
    starts = h.starts;
    around = h.around;
    limits = h.limits;
    steps = ordered_append base st.next st.next st.steps (Tested f (number z) ∷ []) h.steps refl;
  }

  limited : (f : Form) (st : StandingText) → Good c f → Stand c base st → Stand c base (record st { limits = st.limits ++ f ∷ [] })
  limited f st g h = record { known = h.known; starts = h.starts; around = h.around; limits = all_pushed (Good c) st.limits f h.limits g; steps = h.steps }

  good_alone : (st : StandingText) → Good (st.next + 1) (alone st.next)
  good_alone st = good_counted (st.next + 1) st.next (pos 0) (omega arith)

  begun_at : (t : Tail) (x : List ℕ) (f : Form) (z : ℤ) (st : StandingText) → Good st.next f → Stand c base st → Stand c base (begin_at t x f z st)
  begun_at tails.Shift x f z st g h = start x (alone st.next) (name_smaller f z st) (good_alone st) (smaller f z st g h)
  begun_at tails.Guard x f z st g h = start x f st g h
  begun_at tails.Roundup x f z st g h = start x f st g h

  begun_over : (d : Split) (r : Numbers) (o : Option Form) (st new : StandingText) → ((f : Form) → o ≡ Some f → Good st.next f) → Stand c base st → begin_over d r o st ≡ Some new → Stand c base new
  begun_over d r None st new g h e = subst (Stand c base) (same st new e) h
  begun_over d r (Some f) st new g h e =
      let b = bound (combined (number r.low) (pos d.factor) f) (λ form. Some (begin_at d.tail d.whole form (room r d.factor) st)) new e in
      let good = good_combined st.next (number r.low) (pos d.factor) f b.value b.is (good_number st.next r.low) (g f refl) in
      subst (Stand c base) (same (begin_at d.tail d.whole b.value (room r d.factor) st) new b.comes) (begun_at d.tail d.whole b.value (room r d.factor) st good h)

  known_good : (n : ℕ) (ks : List Known) (x : List ℕ) (f : Form) → AllByRecursion (λ k. Good n k.form) ks → form_named ks x ≡ Some f → Good n f
  known_good n ks x f a e = found_all (λ y g. Good n g) ks x f a e

  begins : (d : Split) (r : Numbers) (st new : StandingText) → Stand c base st → begin d r st ≡ Some new → Stand c base new
  begins d r st new h e = by (form_named st.starts d.whole) e
    where
      by : (o : Option Form) → (elim o [ Some form ↦ Some st | None ↦ begin_over d r (form_named st.known d.outer) st ]) ≡ Some new → Stand c base new
      by (Some f) q = subst (Stand c base) (same st new q) h
      by None q = begun_over d r (form_named st.known d.outer) st new (λ f i. known_good st.next st.known d.outer f h.known i) h q

  bound_at : (js : List ℕ) (s : ℕ) → list_any (λ one. one == s) js ≡ true → AllByRecursion (λ j. j ≤ c) js → s ≤ c
  bound_at [] s e a = absurd (cc e)
  bound_at (j ∷ js) s e a = by (j == s) refl e (λ q. bound_at js s q a.1)
    where
      by : (b : Bool) → (j == s) ≡ b → (b || list_any (λ one. one == s) js) ≡ true → (list_any (λ one. one == s) js ≡ true → s ≤ c) → s ≤ c
      by true is q rest = let le = a.0 in grind (arith, is, le)
      by false is q rest = rest q

  -- the innermost loop of a form is a loop around, and the form's last symbol
  record IsInnermost (js : List ℕ) (f : Form) (s : ℕ) : Type 0 where
    term : Multiple
    last : last_term f ≡ Some term
    is : term.symbol ≡ s
    around : list_any (λ one. one == s) js ≡ true

  counted : (js : List ℕ) (f : Form) (t : Multiple) (s : ℕ) → last_term f ≡ Some t → counted_once js t ≡ Some s → IsInnermost js f s
  counted js f t s l e = by (is_bound js t.symbol) refl (int_eq t.factor (pos 1)) e
    where
      none : None ≡ Some s → ⊥
      none q = cc

      by : (b : Bool) → is_bound js t.symbol ≡ b → (d : Bool) → (if b && d then Some t.symbol else None) ≡ Some s → IsInnermost js f s
      by true i true q =
          let is : t.symbol ≡ s = same t.symbol s q in
          record { term = t; last = l; is = is; around = subst (λ (n : ℕ). list_any (λ one. one == n) js ≡ true) is i }
      by true i false q = absurd (none q)
      by false i d q = absurd (none q)

  innermost_at : (js : List ℕ) (f : Form) (s : ℕ) → innermost js f ≡ Some s → IsInnermost js f s
  innermost_at js f s e = by (last_term f) refl e
    where
      none : None ≡ Some s → ⊥
      none q = cc

      by : (o : Option Multiple) → last_term f ≡ o → (elim o [ Some t ↦ counted_once js t | None ↦ None ]) ≡ Some s → IsInnermost js f s
      by (Some t) l q = counted js f t s l q
      by None l q = absurd (none q)

  kept_by_loop : (x : List ℕ) (f : Form) (z : ℤ) (s : ℕ) (st new : StandingText) → Good st.next f → innermost st.bound f ≡ Some s → Stand c base st
      → keep_by_loop x f z s st ≡ Some new → Stand c base new
  kept_by_loop x f z s st new g i h e =
      let m = innermost_at st.bound f s i in
      let b = bound (combined (number z) (negsuc 0) (without f s)) (λ limit. Some (is_now x f (record st { limits = st.limits ++ limit ∷ [] }))) new e in
      let less = bound_at st.bound s m.around h.around in
      let limit : Good c b.value =
      good_more s c b.value less (good_combined s (number z) (negsuc 0) (without f s) b.value b.is (good_number s z) (good_without f st.next s m.term g m.last m.is)) in
      let kept : StandingText = record st { limits = st.limits ++ b.value ∷ [] } in
      subst (Stand c base) (same (is_now x f kept) new b.comes) (now x f kept g (limited b.value st limit h))

  kept_within : (w : Within) (x : List ℕ) (f : Form) (z : ℤ) (st new : StandingText) (o : Option ℕ) → Good st.next f → innermost st.bound f ≡ o → Stand c base st
      → keep_within w x f z st o ≡ Some new → Stand c base new
  kept_within within.Grid x f z st new o g i h e = subst (Stand c base) (same st new e) h
  kept_within within.Nest x f z st new (Some s) g i h e = kept_by_loop x f z s st new g i h e
  kept_within within.Nest x f z st new None g i h e =
      subst (Stand c base) (same (keep_by_guard x f z st) new e) (now x (alone st.next) (name_smaller f z (test f z st)) (good_alone st) (smaller f z (test f z st) g (tested f z st h)))
  kept_within within.Lanes x f z st new (Some s) g i h e = kept_by_loop x f z s st new g i h e
  kept_within within.Lanes x f z st new None g i h e = subst (Stand c base) (same (keep_by_test x f z st) new e) (now x f (test f z st) g (tested f z st h))

  put : (w : Within) (guarded : Bool) (d : Split) (r : Numbers) (f : Form) (st new : StandingText) → Good st.next f → Stand c base st → put_together w guarded d r f st ≡ Some new → Stand c base new
  put w false d r f st new g h e = subst (Stand c base) (same (is_now d.whole f st) new e) (now d.whole f st g h)
  put w true d r f st new g h e = kept_within w d.whole f (last_number r) st new (innermost st.bound f) g refl h e

  joined_over : (w : Within) (guarded : Bool) (d : Split) (r : Numbers) (o p : Option Form) (st new : StandingText) → ((f : Form) → o ≡ Some f → Good st.next f)
      → ((f : Form) → p ≡ Some f → Good st.next f) → Stand c base st → join_over w guarded d r o p st ≡ Some new → Stand c base new
  joined_over w guarded d r (Some a) (Some b) st new g k h e =
      let m = bound (combined a (pos 1) b) (λ form. put_together w guarded d r form st) new e in
      put w guarded d r m.value st new (good_combined st.next a (pos 1) b m.value m.is (g a refl) (k b refl)) h m.comes
  joined_over w guarded d r (Some a) None st new g k h e = subst (Stand c base) (same st new e) h
  joined_over w guarded d r None p st new g k h e = subst (Stand c base) (same st new e) h

  joins : (w : Within) (guarded : Bool) (d : Split) (r : Numbers) (st new : StandingText) → Stand c base st → join w guarded d r st ≡ Some new → Stand c base new
  joins w guarded d r st new h e = by (form_named st.known d.whole) e
    where
      by : (o : Option Form) → (elim o [ Some form ↦ Some st | None ↦ join_over w guarded d r (form_named st.starts d.whole) (form_named st.known d.inner) st ]) ≡ Some new → Stand c base new
      by (Some f) q = subst (Stand c base) (same st new q) h
      by None q =
          joined_over w guarded d r (form_named st.starts d.whole) (form_named st.known d.inner) st new (λ f i. known_good st.next st.starts d.whole f h.starts i)
          (λ f i. known_good st.next st.known d.inner f h.known i) h q

  settles : (w : Within) (rs : List Numbers) (all cs : List Split) (st new : StandingText) → Stand c base st → settle_some w rs all cs st ≡ Some new → Stand c base new
  settles w rs all [] st new h e = subst (Stand c base) (same st new e) h
  settles w rs all (d ∷ cs) st new h e =
      let r : Numbers = numbers_named rs d.whole in
      let b = bound (begin d r st) (λ begun. join w (is_guarded rs all d) d r begun >>= settle_some w rs all cs) new e in
      let m = bound (join w (is_guarded rs all d) d r b.value) (settle_some w rs all cs) new b.comes in
      settles w rs all cs m.value new (joins w (is_guarded rs all d) d r b.value m.value (begins d r st b.value h b.is) m.is) m.comes

-- ---- loops

record Turned (base : ℕ) (st : StandingText) : Type 0 where
  c : ℕ
  within : c ≤ st.next
  stands : Stand c base st

turns_stand : (base : ℕ) (rs : List Numbers) (cs : List Split) (t : Turning) (st new : StandingText) → Turned base st → turn rs cs t st ≡ Some new → Turned base new
turns_stand base rs cs t st new h e =
    let n : ℕ = st.next in
    let b = bound (settle_some (inside t.kind) rs cs cs (enter t.name st)) (λ turned. Some (leave st.steps n t turned)) new e in
    let entered : Stand n (n + 1) (enter t.name st) = record {
      known = all_more (λ k. Good (n + 1) k.form) st.known (record { name = t.name; form = alone n }) (known_more n (n + 1) st.known (omega arith) h.stands.known)
          (good_counted (n + 1) n (pos 0) (omega arith));
      starts = known_more n (n + 1) st.starts (omega arith) h.stands.starts;
      around = all_pushed (λ j. j ≤ n) st.bound n (all_weaker (λ j. j ≤ h.c) (λ j. j ≤ n) (λ j l. let w = h.within in omega (arith, l, w)) st.bound h.stands.around) (omega arith);
      limits = tt;
      steps = refl;
    } in
    let s = settles n (n + 1) (inside t.kind) rs cs cs (enter t.name st) b.value entered b.is in
    let rises = ordered_rises (n + 1) b.value.next b.value.steps s.steps in
    let left : Stand n base (leave st.steps n t b.value) = record {
      known = s.known;
      starts = s.starts;
      around = s.around;
      limits = tt;
      steps = ordered_append base n b.value.next st.steps (Turns n (span t.low t.last b.value.limits) t.kind ∷ b.value.steps) h.stands.steps
          (refl, record { low = t.low; last = t.last; limits = b.value.limits; is = refl; good = s.limits }, s.steps);
    } in
    let out : Turned base (leave st.steps n t b.value) = record { c = n; within = omega (arith, rises); stands = left } in
    subst (Turned base) (same (leave st.steps n t b.value) new b.comes) out

all_turned : (base : ℕ) (rs : List Numbers) (cs : List Split) (ts : List Turning) (st new : StandingText) → Turned base st → turn_all rs cs ts st ≡ Some new → Turned base new
all_turned base rs cs [] st new h e = subst (Turned base) (same st new e) h
all_turned base rs cs (t ∷ ts) st new h e =
    let b = bound (turn rs cs t st) (turn_all rs cs ts) new e in all_turned base rs cs ts b.value new (turns_stand base rs cs t st b.value h b.is) b.comes

-- ---- nests

record Heading (head : StandingText) : Type 0 where
  known : AllByRecursion (λ k. Good head.next k.form) head.known
  starts : AllByRecursion (λ k. Good head.next k.form) head.starts
  around : AllByRecursion (λ j. j ≤ 0) head.bound
  limits : AllByRecursion (Good 0) head.limits

nest_ordered : (xs : List (List ℕ)) (p : PlacedText) (rs : List Numbers) (b : BodyText) (head new : StandingText) (next : ℕ) → head.next ≤ next → Heading head
    → nest_in xs p rs b (begun next head) ≡ Some new → Ordered next new.steps new.next
nest_ordered xs p rs b head new next le h e =
    let cs : List Split = cuts_by_variable p.cuts (kept_from b 0 xs) in
    let m = bound (settle_some within.Nest rs cs cs (begun next head)) (turn_all rs cs (nest_turns b rs p.loops)) new e in
    let first : Stand 0 next (begun next head) = record {
      known = known_more head.next next head.known le h.known;
      starts = known_more head.next next head.starts le h.starts;
      around = h.around;
      limits = h.limits;
      steps = refl;
    } in
    let s = settles 0 next within.Nest rs cs cs (begun next head) m.value first m.is in
    (all_turned next rs cs (nest_turns b rs p.loops) m.value new (record { c = 0; within = omega arith; stands = s }) m.comes).stands.steps

nests_ordered : (xs : List (List ℕ)) (p : PlacedText) (rs : List Numbers) (head : StandingText) → Heading head → (bs : List BodyText) (next : ℕ) (ns : List NestText) → head.next ≤ next
    → nests_in xs p rs head bs next ≡ Some ns → (k : ℕ) (n : NestText) → slice_get ns k ≡ Some n → BindsBehind head.next n
nests_ordered xs p rs head h [] next ns le e k n at = absurd (no (subst (λ (l : List NestText). slice_get l k ≡ Some n) (sym (same [] ns e)) at))
  where
    no : None ≡ Some n → ⊥
    no q = cc
nests_ordered xs p rs head h (b ∷ bs) next ns le e k n at =
    let m = bound (nest_in xs p rs b (begun next head)) (λ st. nests_in xs p rs head bs st.next >>= λ nests. Some (nest_of xs b st ∷ nests)) ns e in
    let r = bound (nests_in xs p rs head bs m.value.next) (λ nests. Some (nest_of xs b m.value ∷ nests)) ns m.comes in
    let own = nest_ordered xs p rs b head m.value next le h m.is in
    let rises = ordered_rises next m.value.next m.value.steps own in
    by m.value r.value k (subst (λ (l : List NestText). slice_get l k ≡ Some n) (sym (same (nest_of xs b m.value ∷ r.value) ns r.comes)) at) own
    (λ j i. nests_ordered xs p rs head h bs m.value.next r.value (omega (arith, le, rises)) r.is j n i)
  where
    by : (st : StandingText) (rest : List NestText) (j : ℕ) → slice_get (nest_of xs b st ∷ rest) j ≡ Some n → Ordered next st.steps st.next
        → ((j : ℕ) → slice_get rest j ≡ Some n → BindsBehind head.next n) → BindsBehind head.next n
    by st rest zero i o later = subst (BindsBehind head.next) (same (nest_of xs b st) n i) (record { from = next; to = st.next; above = le; steps = o })
    by st rest (suc j) i o later = later j i

grid_known : (rs : List Numbers) (n s : ℕ) (ls : List LoopMade) → s + length ls ≤ n → AllByRecursion (λ k. Good n k.form) (grid_forms rs s ls)
grid_known rs n s [] le = tt
grid_known rs n s (l ∷ ls) le = (good_counted n s (numbers_named rs l.name).low (omega (arith, le)), grid_known rs n (s + 1) ls (omega (arith, le)))

count_least : (ns : List ℕ) → length ns ≤ length (or_one ns)
count_least [] = omega arith
count_least (n ∷ ns) = omega arith

pub skeletal : (xs : List (List ℕ)) (bs : List BodyText) (p : PlacedText) (region : List Extent) (k : SkeletonText) → skeleton_in xs bs p region ≡ Some k → BindInOrder k
skeletal xs bs p region k e =
    let rs : List Numbers = loop_numbers xs p.cuts region in
    let cs : List Split = cuts_by_variable p.cuts xs in
    let grid : List ℕ = piece_counts rs p.loops in
    let b = bound (settle_some within.Grid rs cs cs (over_grid rs p))
    (λ head. nests_in xs p rs head bs head.next >>= λ nests. Some (record { grid = grid; head = head.steps; nests = nests; known = head.known; starts = head.starts })) k e in
    let m = bound (nests_in xs p rs b.value bs b.value.next) (λ nests. Some (record { grid = grid; head = b.value.steps; nests = nests; known = b.value.known; starts = b.value.starts })) k b.comes in
    let many : length (parallel_loops p.loops) ≤ length grid =
    (let n = length-map (parallel_loops p.loops) (λ (l : LoopMade). (numbers_named rs l.name).count) in let le = count_least (grid_counts rs (parallel_loops p.loops)) in omega (arith, n, le)) in
    let first : Stand 0 (length grid) (over_grid rs p) = record {
      known = grid_known rs (length grid) 0 (parallel_loops p.loops) (omega (arith, many));
      starts = tt;
      around = tt;
      limits = tt;
      steps = refl;
    } in
    let s = settles 0 (length grid) within.Grid rs cs cs (over_grid rs p) b.value first b.is in
    let heading : Heading b.value = record { known = s.known; starts = s.starts; around = s.around; limits = s.limits } in
    let made : BindInOrder (record { grid = grid; head = b.value.steps; nests = m.value; known = b.value.known; starts = b.value.starts }) = record {
      next = b.value.next;
      head = s.steps;
      nests = λ i n at. nests_ordered xs p rs b.value heading bs b.value.next m.value (omega arith) m.is i n at;
    } in
    subst BindInOrder (same (record { grid = grid; head = b.value.steps; nests = m.value; known = b.value.known; starts = b.value.starts }) k m.comes) made
