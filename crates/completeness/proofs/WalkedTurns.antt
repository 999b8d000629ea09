-- In a group in whose loops functions are computed each choice is over the symbol of a loop around it.
use Rattle.std.proofs.Common.{◌≡◌, ℕ, suc, ◌+◌, ◌<◌, Bool, true, false, List, [], ◌∷◌, ◌++◌, take, Option, Some, None, refl, sym, ap, ◌∙◌, subst, inl, inr, ◌⊎◌, arith}
use Rattle.std.specs.Prelude.{◌==◌, if◌then◌else◌, slice_get}
use Rattle.std.specs.List.{AllByRecursion}
use Rattle.std.proofs.lemmas.Bool.Decides.{nat_tests}
use Rattle.lin.specs.Forms.{Form}
use Rattle.lin.specs.declared.span.Span1.{Span1}
use Rattle.soundness.proofs.Refines.{eq_refl}
use Rattle.plan.specs.declared.stmt.Kind.{Kind}
use Rattle.plan.specs.declared.stmt.Pick.{Pick}
use Rattle.plan.specs.declared.stmt.Pick.TheVariants.{Min}
use Rattle.plan.specs.Plan.{Statement, Seq, For, Let, First, Guard, Alloc, Fetch, Store, Publish, Statements, Empty, Then, block}
use Rattle.sched.specs.declared.skeleton.Step.{Step}
use Rattle.sched.specs.declared.skeleton.Step.TheVariants.{Turns, Named, Tested}
use Rattle.sched.specs.Standing.{◌>>=◌}
use Rattle.sched.specs.Renamed.{Pairs, last_value, value_in, span_renamed, forms_renamed, form_renamed, step_renamed}
use Rattle.sched.specs.Placed.{LaterText, PlacedText, SoFar, with_lines, with_name, bound_by, around, lets}
use Rattle.blocks.specs.Placed.{let_count, owner}
use Rattle.sched.specs.declared.hosts.Host.TheVariants.{Inner as Inside, Later as Anew}
use Rattle.blocks.proofs.Laying.{bound, same}
use Rattle.completeness.proofs.Standing.{Rises}
use Rattle.completeness.proofs.Spots.{Has, has_first, has_last}
use Rattle.completeness.proofs.InnerLets.{IsNamed}
use Rattle.completeness.proofs.Walked.{choice, AreFine, Ownership, StandsAt, Lines, HoldsOfEach}
use Rattle.completeness.proofs.WalkedSeats.{store_is}

-- ---- loops of a nest

-- one of these steps is a loop over the symbol
abbrev pub IsLoopOf : List Step → ℕ → Type 0
IsLoopOf [] k = ⊥
IsLoopOf (Turns i x kind ∷ f) k = (i ≡ k) ⊎ IsLoopOf f k
IsLoopOf (Named i pick fs ∷ f) k = IsLoopOf f k
IsLoopOf (Tested low high ∷ f) k = IsLoopOf f k

-- a let binds no symbol of a loop before it
abbrev pub IsApart : List Step → Step → Type 0
IsApart f (Turns i x kind) = Unit {0}
IsApart f (Named i pick fs) = ¬ IsLoopOf f i
IsApart f (Tested low high) = Unit {0}

-- with one more step
loop_or : (f : List Step) (s : Step) (k : ℕ) → IsLoopOf (f ++ s ∷ []) k → IsLoopOf f k ⊎ IsLoopOf (s ∷ []) k
loop_or [] s k h = inr h
loop_or (Turns i x kind ∷ f) s k (inl e) = inl (inl e)
loop_or (Turns i x kind ∷ f) s k (inr h) = elim (loop_or f s k h) [ inl g ↦ inl (inr g) | inr g ↦ inr g ]
loop_or (Named i pick fs ∷ f) s k h = loop_or f s k h
loop_or (Tested low high ∷ f) s k h = loop_or f s k h

-- steps that bind symbols one by one are apart
pub rises_apart : (f : List Step) (n m : ℕ) (ss : List Step) → ((k : ℕ) → IsLoopOf f k → k < n) → Rises n ss m → AreFine IsApart f ss
rises_apart f n m [] below h = tt
rises_apart f n m (Turns i x kind ∷ ss) below h = (tt, rises_apart (f ++ Turns i x kind ∷ []) (n + 1) m ss (λ k g. of k (loop_or f (Turns i x kind) k g)) h.1)
  where
    of : (k : ℕ) → IsLoopOf f k ⊎ ((i ≡ k) ⊎ ⊥) → k < n + 1
    of k (inl g) = (let less = below k g in omega (arith, less))
    of k (inr (inl e)) = (let is = h.0 in omega (arith, e, is))
    of k (inr (inr no_loop)) = absurd no_loop
rises_apart f n m (Named i pick fs ∷ ss) below h = (
  λ g. (let less = below i g in let is = h.0 in omega (arith, less, is)),
  rises_apart (f ++ Named i pick fs ∷ []) (n + 1) m ss (λ k g. of k (loop_or f (Named i pick fs) k g)) h.1,
)
  where
    of : (k : ℕ) → IsLoopOf f k ⊎ ⊥ → k < n + 1
    of k (inl g) = (let less = below k g in omega (arith, less))
    of k (inr no_loop) = absurd no_loop
rises_apart f n m (Tested low high ∷ ss) below h = (tt, rises_apart (f ++ Tested low high ∷ []) n m ss (λ k g. of k (loop_or f (Tested low high) k g)) h)
  where
    of : (k : ℕ) → IsLoopOf f k ⊎ ⊥ → k < n
    of k (inl g) = below k g
    of k (inr no_loop) = absurd no_loop

-- ---- names

-- the loops of these steps stand around under their names
abbrev pub AreAround : List Step → Pairs → List ℕ → Type 0
AreAround f m ls = (k b : ℕ) → IsLoopOf f k → value_in m k ≡ Some b → Has ls b

-- with one more name a number stands for that, or for what it stood for
value_more : (m : Pairs) (o : Option ℕ) (k n j : ℕ) → last_value o (m ++ (k, n) ∷ []) j ≡ (if k == j then Some n else last_value o m j)
value_more [] o k n j = of (k == j)
  where
    of : (b : Bool) → (if b then Some n else o) ≡ (if b then Some n else o)
    of b = refl
value_more (p ∷ m) o k n j = of (p.0 == j) (value_more m (Some p.1) k n j) (value_more m o k n j)
  where
    of : (b : Bool) → last_value (Some p.1) (m ++ (k, n) ∷ []) j ≡ (if k == j then Some n else last_value (Some p.1) m j) →
        last_value o (m ++ (k, n) ∷ []) j ≡ (if k == j then Some n else last_value o m j) →
        (if b then last_value (Some p.1) (m ++ (k, n) ∷ []) j else last_value o (m ++ (k, n) ∷ []) j) ≡ (if k == j then Some n else (if b then last_value (Some p.1) m j else last_value o m j))
    of true x y = x
    of false x y = y

value_or : (m : Pairs) (k n j b : ℕ) → value_in (m ++ (k, n) ∷ []) j ≡ Some b → ((k ≡ j) × (n ≡ b)) ⊎ ((k ≡ j → ⊥) × (value_in m j ≡ Some b))
value_or m k n j b e = of (k == j) refl (sym (value_more m None k n j) ∙ e)
  where
    of : (t : Bool) → (k == j) ≡ t → (if t then Some n else value_in m j) ≡ Some b → ((k ≡ j) × (n ≡ b)) ⊎ ((k ≡ j → ⊥) × (value_in m j ≡ Some b))
    of true t q = inl (grind (arith, nat_tests, t), same n b q)
    of false t q = inr (λ i. clash (ap (λ (v : ℕ). k == v) (sym i) ∙ eq_refl k) t, q)
      where
        clash : (k == j) ≡ true → (k == j) ≡ false → ⊥
        clash x y = cc (x, y)

-- ---- by the loops around alone

-- each choice is over the symbol of a loop around it
abbrev mutual
  pub Chooses : Statement → List ℕ → Type 0
  Chooses (Seq all) ls = ChooseAll all ls
  Chooses (For i x kind body) ls = Chooses body (ls ++ i ∷ [])
  Chooses (Let i pick fs) ls = Unit {0}
  Chooses (First i a b) ls = Has ls i × Chooses a ls × Chooses b ls
  Chooses (Guard low high body) ls = Chooses body ls
  Chooses (Alloc b f places) ls = Unit {0}
  Chooses (Fetch b g region) ls = Unit {0}
  Chooses (Store b k at e) ls = Unit {0}
  Chooses (Publish c) ls = Unit {0}

  pub ChooseAll : Statements → List ℕ → Type 0
  ChooseAll Empty ls = Unit {0}
  ChooseAll (Then a rest) ls = Chooses a ls × ChooseAll rest ls

pub joined_choose : (xs ys : List Statement) (ls : List ℕ) → ChooseAll (block xs) ls → ChooseAll (block ys) ls → ChooseAll (block (xs ++ ys)) ls
joined_choose [] ys ls h k = k
joined_choose (x ∷ xs) ys ls h k = (h.0, joined_choose xs ys ls h.1 k)

-- behind these steps the lines choose so
abbrev pub Choosing : Lines
Choosing f m p xs q = (ls : List ℕ) → AreAround f m ls → ChooseAll (block xs) ls

-- ---- steps

record IsLoop (n : ℕ) (t : Step) : Type 0 where
  span : Span1
  kind : Kind
  is : t ≡ Turns n span kind

value_last : (m : Pairs) (k n : ℕ) → value_in (m ++ (k, n) ∷ []) k ≡ Some n
value_last m k n = value_more m None k n k ∙ ap (λ (b : Bool). if b then Some n else last_value None m k) (eq_refl k)

loop_is : (m : Pairs) (k n : ℕ) (x : Span1) (kind : Kind) (t : Step) → step_renamed (m ++ (k, n) ∷ []) (Turns k x kind) ≡ Some t → IsLoop n t
loop_is m k n x kind t e =
    let names = m ++ (k, n) ∷ [] in
    let s = bound (value_in names k) (λ s. span_renamed names x >>= λ y. Some (Turns s y kind)) t e in
    let y = bound (span_renamed names x) (λ y. Some (Turns s.value y kind)) t s.comes in
    let number_is : s.value ≡ n = same s.value n (sym s.is ∙ value_last m k n) in
    record { span = y.value; kind = kind; is = sym (same (Turns s.value y.value kind) t y.comes) ∙ ap (λ (i : ℕ). Turns i y.value kind) number_is }

record IsLet (t : Step) : Type 0 where
  number : ℕ
  pick : Pick
  forms : List Form
  is : t ≡ Named number pick forms

let_is : (names : Pairs) (k : ℕ) (pick : Pick) (fs : List Form) (t : Step) → step_renamed names (Named k pick fs) ≡ Some t → IsLet t
let_is names k pick fs t e =
    let s = bound (value_in names k) (λ s. forms_renamed names fs >>= λ gs. Some (Named s pick gs)) t e in
    let y = bound (forms_renamed names fs) (λ gs. Some (Named s.value pick gs)) t s.comes in
    record { number = s.value; pick = pick; forms = y.value; is = sym (same (Named s.value pick y.value) t y.comes) }

record IsTest (t : Step) : Type 0 where
  low : Form
  high : Form
  is : t ≡ Tested low high

test_is : (names : Pairs) (low high : Form) (t : Step) → step_renamed names (Tested low high) ≡ Some t → IsTest t
test_is names low high t e =
    let a = bound (form_renamed names low) (λ l. form_renamed names high >>= λ h. Some (Tested l h)) t e in
    let b = bound (form_renamed names high) (λ h. Some (Tested a.value h)) t a.comes in
    record { low = a.value; high = b.value; is = sym (same (Tested a.value b.value) t b.comes) }

by_step : (f : List Step) (m : Pairs) (n : ℕ) (xs : List Statement) (s t : Step) → IsApart f s → step_renamed (with_name (bound_by s) n m) s ≡ Some t →
    ((ls : List ℕ) → AreAround (f ++ s ∷ []) (with_name (bound_by s) n m) ls → ChooseAll (block xs) ls) → (ls : List ℕ) → AreAround f m ls → ChooseAll (block (around t xs)) ls
by_step f m n xs (Turns k x kind) t apart e h ls stand =
    let w = loop_is m k n x kind t e in
    let more : AreAround (f ++ Turns k x kind ∷ []) (m ++ (k, n) ∷ []) (ls ++ n ∷ []) = λ j b g v. of j b (loop_or f (Turns k x kind) j g) (value_or m k n j b v) in
    let made : ChooseAll (block (around (Turns n w.span w.kind) xs)) ls = (h (ls ++ n ∷ []) more, tt) in
    subst (λ (u : Step). ChooseAll (block (around u xs)) ls) (sym w.is) made
  where
    of : (j b : ℕ) → IsLoopOf f j ⊎ ((k ≡ j) ⊎ ⊥) → ((k ≡ j) × (n ≡ b)) ⊎ ((k ≡ j → ⊥) × (value_in m j ≡ Some b)) → Has (ls ++ n ∷ []) b
    of j b g (inl same_one) = subst (Has (ls ++ n ∷ [])) same_one.1 (has_last ls n)
    of j b (inl g) (inr other) = has_first ls (n ∷ []) b (stand j b g other.1)
    of j b (inr (inl is)) (inr other) = absurd (other.0 is)
    of j b (inr (inr no_loop)) (inr other) = absurd no_loop
by_step f m n xs (Named k pick fs) t apart e h ls stand =
    let w = let_is (m ++ (k, n) ∷ []) k pick fs t e in
    let more : AreAround (f ++ Named k pick fs ∷ []) (m ++ (k, n) ∷ []) ls = λ j b g v. of j b (loop_or f (Named k pick fs) j g) (value_or m k n j b v) in
    let made : ChooseAll (block (around (Named w.number w.pick w.forms) xs)) ls = (tt, h ls more) in
    subst (λ (u : Step). ChooseAll (block (around u xs)) ls) (sym w.is) made
  where
    of : (j b : ℕ) → IsLoopOf f j ⊎ ⊥ → ((k ≡ j) × (n ≡ b)) ⊎ ((k ≡ j → ⊥) × (value_in m j ≡ Some b)) → Has ls b
    of j b (inl g) (inl same_one) = absurd (apart (subst (IsLoopOf f) (sym same_one.0) g))
    of j b (inl g) (inr other) = stand j b g other.1
    of j b (inr no_loop) v = absurd no_loop
by_step f m n xs (Tested low high) t apart e h ls stand =
    let w = test_is m low high t e in
    let more : AreAround (f ++ Tested low high ∷ []) m ls = λ j b g v. of j b (loop_or f (Tested low high) j g) v in
    let made : ChooseAll (block (around (Tested w.low w.high) xs)) ls = (h ls more, tt) in
    subst (λ (u : Step). ChooseAll (block (around u xs)) ls) (sym w.is) made
  where
    of : (j b : ℕ) → IsLoopOf f j ⊎ ⊥ → value_in m j ≡ Some b → Has ls b
    of j b (inl g) v = stand j b g v
    of j b (inr no_loop) v = absurd no_loop

-- lets choose nothing
lets_choose : (ss : List Step) → AllByRecursion IsNamed ss → (m : Pairs) (p : SoFar) (x : List Statement × (Pairs × SoFar)) → lets ss m p ≡ Some x → (ls : List ℕ) → ChooseAll (block x.0) ls
lets_choose [] named m p x e ls = subst (λ (y : List Statement × (Pairs × SoFar)). ChooseAll (block y.0) ls) (same ([], (m, p)) x e) tt
lets_choose (Turns k x kind ∷ ss) named m p y e ls = absurd named.0
lets_choose (Tested low high ∷ ss) named m p y e ls = absurd named.0
lets_choose (Named k pick fs ∷ ss) named m p y e ls =
    let names = m ++ (k, p.symbol) ∷ [] in
    let inside = with_lines 1 (record p { symbol = p.symbol + 1 }) in
    let b = bound (step_renamed names (Named k pick fs)) (λ t. lets ss names inside >>= λ x. Some (around t x.0, x.1)) y e in
    let c = bound (lets ss names inside) (λ x. Some (around b.value x.0, x.1)) y b.comes in
    let w = let_is names k pick fs b.value b.is in
    let made : ChooseAll (block (around (Named w.number w.pick w.forms) c.value.0)) ls = (tt, lets_choose ss named.1 names inside c.value c.is ls) in
    subst (λ (z : List Statement × (Pairs × SoFar)). ChooseAll (block z.0) ls) (same (around b.value c.value.0, c.value.1) y c.comes)
    (subst (λ (u : Step). ChooseAll (block (around u c.value.0)) ls) (sym w.is) made)

lets_counted : (ss : List Step) → AllByRecursion IsNamed (take (let_count ss) ss)
lets_counted [] = tt
lets_counted (Turns i x kind ∷ ss) = tt
lets_counted (Tested low high ∷ ss) = tt
lets_counted (Named i pick fs ∷ ss) = subst (λ (n : ℕ). AllByRecursion IsNamed (take n (Named i pick fs ∷ ss))) (let next : suc (let_count ss) ≡ let_count ss + 1 = omega arith in next) (
  tt,
  lets_counted ss,
)

no_loops : (ss : List Step) → AllByRecursion IsNamed ss → (k : ℕ) → IsLoopOf ss k → ⊥
no_loops [] named k h = h
no_loops (Turns i x kind ∷ ss) named k h = named.0
no_loops (Named i pick fs ∷ ss) named k h = no_loops ss named.1 k h
no_loops (Tested low high ∷ ss) named k h = named.0

-- ---- piece by piece

pub choosing_each : (inners : List PlacedText) (Owns : Ownership) → ((n : ℕ) (i : PlacedText) (b : ℕ) → slice_get inners n ≡ Some i → Owns (owner (Inside n) i b) i.nests) →
    ((n : ℕ) (i : PlacedText) (b : ℕ) (l : LaterText) → slice_get inners n ≡ Some i → i.later ≡ Some l → Owns (owner (Anew n) i b) l.nests) →
    ((n : ℕ) (i : PlacedText) (l : LaterText) (f : List Step) → slice_get inners n ≡ Some i → i.later ≡ Some l → StandsAt Owns i.home f → IsLoopOf f l.symbol) →
    HoldsOfEach inners IsApart IsNamed Owns Choosing
choosing_each inners Owns owns anew slid = record {
  none = λ f m p ls stand. tt;
  both = λ f m p q r xs ys h k ls stand. joined_choose xs ys ls (h ls stand) (k ls stand);
  step = λ f m p q xs s t apart e h ls stand. by_step f m p.symbol xs s t apart e h ls stand;
  named = λ f m p q ss x ys named e h ls stand. joined_choose x.0 ys ls (lets_choose ss named m p x e ls) (h ls (λ k b g v. absurd g));
  store = λ f m p o ns d n at s own there renamed e ls stand.
      let w = store_is o p.loads d at s e in subst (λ (t : Statement). ChooseAll (block (t ∷ [])) ls) (sym w.is) (tt, tt);
  apart = λ f m p q xs h ls stand. h ls stand;
  claim = λ f m p o ns d n r own there e ls stand. tt;
  seat = λ f m p n i places at e ls stand. (tt, tt);
  own = λ f m p q n i b xs at seat h ls stand. h (owns n i b at) (λ l later. anew n i b l at later) ls stand;
  slide = λ f m p q r n i l all new s x y z us vs at later place symbol one two three h g ls stand.
      let here : Has ls s = stand l.symbol s (slid n i l f at later place) symbol in
      let first = h ls (λ k b w v. absurd (no_loops (take (let_count all.steps) all.steps) (lets_counted all.steps) k w)) in
      let others = g ls (λ k b w v. absurd (no_loops (take (let_count new.steps) new.steps) (lets_counted new.steps) k w)) in
      let chosen : ChooseAll (block (choice s us vs)) ls = ((here, first, others), tt) in
      joined_choose x.0 (y.0 ++ (z.0 ++ choice s us vs)) ls (lets_choose (Named l.new Min l.first_new ∷ []) (tt, tt) m p x one ls)
      (joined_choose y.0 (z.0 ++ choice s us vs) ls (lets_choose (take (let_count all.steps) all.steps) (lets_counted all.steps) m x.1.1 y two ls)
      (joined_choose z.0 (choice s us vs) ls (lets_choose (take (let_count new.steps) new.steps) (lets_counted new.steps) x.1.0 y.1.1 z three ls) chosen));
  window = λ f m p q n i l at later e ls stand. tt;
}
