-- What a scope tells of the symbols that steps bind, behind these steps.
use Rattle.std.proofs.Common.{◌≡◌, ℕ, zero, suc, ◌+◌, ◌-◌, ◌≤◌, List, [], ◌∷◌, ◌++◌, length, Some, refl, sym, ap, ◌∙◌, subst, inl, inr, ◌⊎◌, arith, length-append}
use Rattle.std.specs.Prelude.{replicate, slice_get}
use Rattle.std.specs.List.{AllByRecursion}
use Rattle.lin.specs.Forms.{Form, number}
use Rattle.lin.specs.declared.scope.Binding.{Binding}
use Rattle.lin.specs.declared.scope.Binding.TheVariants.{Loop as LoopBinding, LetMin, LetMax}
use Rattle.bounds.proofs.ListSound.{all-append}
use Rattle.plan.specs.declared.stmt.Pick.TheVariants.{Min, Max}
use Rattle.soundness.specs.Obligations.{anything}
use Rattle.sched.specs.declared.nest.Turning.{Turning}
use Rattle.sched.specs.declared.skeleton.Step.{Step}
use Rattle.sched.specs.declared.skeleton.Step.TheVariants.{Turns, Named, Tested}
use Rattle.sched.specs.Skeleton.{span}
use Rattle.sched.specs.Around.{skip_to, bind, bind_steps}
use Rattle.completeness.proofs.Standing.{Rises}
use Rattle.completeness.proofs.StoreBounds.{steps_keep}
use Rattle.completeness.proofs.TailSteps.{Line, Loop, Block, Pair}
use Rattle.completeness.proofs.TailTurns.{Entry, entry_steps}

-- one of the steps tells this of the symbol
abbrev pub Tells : ℕ → Binding → List Step → Type 0
Tells s b [] = ⊥
Tells s b (Turns i x kind ∷ ts) = ((i ≡ s) × (LoopBinding x ≡ b)) ⊎ Tells s b ts
Tells s b (Named i Min fs ∷ ts) = ((i ≡ s) × (LetMin fs ≡ b)) ⊎ Tells s b ts
Tells s b (Named i Max fs ∷ ts) = ((i ≡ s) × (LetMax fs ≡ b)) ⊎ Tells s b ts
Tells s b (Tested low high ∷ ts) = Tells s b ts

-- ---- scopes

long_many : (n : ℕ) → length (replicate n (LoopBinding anything)) ≡ n
long_many zero = refl
long_many (suc n) = ap suc (long_many n)

last_there : (xs : List Binding) (b : Binding) (n : ℕ) → length xs ≡ n → slice_get (xs ++ b ∷ []) n ≡ Some b
last_there [] b zero e = refl
last_there [] b (suc n) e = absurd (omega (arith, e))
last_there (x ∷ xs) b zero e = absurd (omega (arith, e))
last_there (x ∷ xs) b (suc n) e = last_there xs b n (omega (arith, e))

skipped_long : (scope : List Binding) (n : ℕ) → length scope ≤ n → length (skip_to scope n) ≡ n
skipped_long scope n le =
    let both = length-append scope (replicate (n - length scope) (LoopBinding anything)) in
    let more = long_many (n - length scope) in
    omega (arith, both, more, le)

bound_to : (scope : List Binding) (n i : ℕ) (b : Binding) → i ≡ n → length scope ≤ n → (length (bind scope i b) ≡ n + 1) × (slice_get (bind scope i b) i ≡ Some b)
bound_to scope n i b first le =
    let both = length-append (skip_to scope i) (b ∷ []) in
    let skipped = skipped_long scope i (omega (arith, first, le)) in
    (omega (arith, both, skipped, first), last_there (skip_to scope i) b i skipped)

-- the symbols are bound one after another
pub steps_long : (n m : ℕ) (ts : List Step) → Rises n ts m → (scope : List Binding) → length scope ≤ n → length (bind_steps scope ts) ≤ m
steps_long n m [] r scope le = omega (arith, r, le)
steps_long n m (Turns i x kind ∷ ts) r scope le =
    let long = (bound_to scope n i (LoopBinding x) r.0 le).0 in
    steps_long (n + 1) m ts r.1 (bind scope i (LoopBinding x)) (omega (arith, long))
steps_long n m (Named i Min fs ∷ ts) r scope le =
    let long = (bound_to scope n i (LetMin fs) r.0 le).0 in
    steps_long (n + 1) m ts r.1 (bind scope i (LetMin fs)) (omega (arith, long))
steps_long n m (Named i Max fs ∷ ts) r scope le =
    let long = (bound_to scope n i (LetMax fs) r.0 le).0 in
    steps_long (n + 1) m ts r.1 (bind scope i (LetMax fs)) (omega (arith, long))
steps_long n m (Tested low high ∷ ts) r scope le = steps_long n m ts r scope le

-- what a step tells stands in the scope
pub step_there : (n m : ℕ) (ts : List Step) → Rises n ts m → (scope : List Binding) → length scope ≤ n → (s : ℕ) (b : Binding) → Tells s b ts → slice_get (bind_steps scope ts) s ≡ Some b
step_there n m [] r scope le s b t = absurd t
step_there n m (Turns i x kind ∷ ts) r scope le s b t =
    one t (λ k. (let long = (bound_to scope n i (LoopBinding x) r.0 le).0 in step_there (n + 1) m ts r.1 (bind scope i (LoopBinding x)) (omega (arith, long)) s b k))
  where
    new : (length (bind scope i (LoopBinding x)) ≡ n + 1) × (slice_get (bind scope i (LoopBinding x)) i ≡ Some (LoopBinding x))
    new = bound_to scope n i (LoopBinding x) r.0 le

    one : ((i ≡ s) × (LoopBinding x ≡ b)) ⊎ Tells s b ts → (Tells s b ts → slice_get (bind_steps (bind scope i (LoopBinding x)) ts) s ≡ Some b) → slice_get (bind_steps (bind scope i
        (LoopBinding x)) ts) s ≡ Some b
    one (inl k) later =
        let long = new.0 in
        let first = r.0 in
        ap (slice_get (bind_steps (bind scope i (LoopBinding x)) ts)) (sym k.0) ∙ steps_keep (bind scope i (LoopBinding x)) ts i (omega (arith, long, first)) ∙ new.1 ∙ ap (λ (c : Binding). Some c) k.1
    one (inr k) later = later k
step_there n m (Named i Min fs ∷ ts) r scope le s b t =
    one t (λ k. (let long = (bound_to scope n i (LetMin fs) r.0 le).0 in step_there (n + 1) m ts r.1 (bind scope i (LetMin fs)) (omega (arith, long)) s b k))
  where
    new : (length (bind scope i (LetMin fs)) ≡ n + 1) × (slice_get (bind scope i (LetMin fs)) i ≡ Some (LetMin fs))
    new = bound_to scope n i (LetMin fs) r.0 le

    one : ((i ≡ s) × (LetMin fs ≡ b)) ⊎ Tells s b ts → (Tells s b ts → slice_get (bind_steps (bind scope i (LetMin fs)) ts) s ≡ Some b) → slice_get (bind_steps (bind scope i (LetMin fs))
        ts) s ≡ Some b
    one (inl k) later =
        let long = new.0 in
        let first = r.0 in
        ap (slice_get (bind_steps (bind scope i (LetMin fs)) ts)) (sym k.0) ∙ steps_keep (bind scope i (LetMin fs)) ts i (omega (arith, long, first)) ∙ new.1 ∙ ap (λ (c : Binding). Some c) k.1
    one (inr k) later = later k
step_there n m (Named i Max fs ∷ ts) r scope le s b t =
    one t (λ k. (let long = (bound_to scope n i (LetMax fs) r.0 le).0 in step_there (n + 1) m ts r.1 (bind scope i (LetMax fs)) (omega (arith, long)) s b k))
  where
    new : (length (bind scope i (LetMax fs)) ≡ n + 1) × (slice_get (bind scope i (LetMax fs)) i ≡ Some (LetMax fs))
    new = bound_to scope n i (LetMax fs) r.0 le

    one : ((i ≡ s) × (LetMax fs ≡ b)) ⊎ Tells s b ts → (Tells s b ts → slice_get (bind_steps (bind scope i (LetMax fs)) ts) s ≡ Some b) → slice_get (bind_steps (bind scope i (LetMax fs))
        ts) s ≡ Some b
    one (inl k) later =
        let long = new.0 in
        let first = r.0 in
        ap (slice_get (bind_steps (bind scope i (LetMax fs)) ts)) (sym k.0) ∙ steps_keep (bind scope i (LetMax fs)) ts i (omega (arith, long, first)) ∙ new.1 ∙ ap (λ (c : Binding). Some c) k.1
    one (inr k) later = later k
step_there n m (Tested low high ∷ ts) r scope le s b t = step_there n m ts r scope le s b t

-- what is so of a scope's bindings, of such of which nothing is known, and of what steps tell, is so of all behind the steps
module _ (P : Binding → Type 0) (none : P (LoopBinding anything)) where
  many : (n : ℕ) → AllByRecursion P (replicate n (LoopBinding anything))
  many zero = tt
  many (suc n) = (none, many n)

  one_more : (scope : List Binding) (i : ℕ) (b : Binding) → AllByRecursion P scope → P b → AllByRecursion P (bind scope i b)
  one_more scope i b h k = all-append P (skip_to scope i) (b ∷ []) (all-append P scope (replicate (i - length scope) (LoopBinding anything)) h (many (i - length scope))) (k, tt)

  pub all_told : (ts : List Step) (scope : List Binding) → AllByRecursion P scope → ((s : ℕ) (b : Binding) → Tells s b ts → P b) → AllByRecursion P (bind_steps scope ts)
  all_told [] scope h each = h
  all_told (Turns i x kind ∷ ts) scope h each =
      all_told ts (bind scope i (LoopBinding x)) (one_more scope i (LoopBinding x) h (each i (LoopBinding x) (inl (refl, refl)))) (λ s b t. each s b (inr t))
  all_told (Named i Min fs ∷ ts) scope h each =
      all_told ts (bind scope i (LetMin fs)) (one_more scope i (LetMin fs) h (each i (LetMin fs) (inl (refl, refl)))) (λ s b t. each s b (inr t))
  all_told (Named i Max fs ∷ ts) scope h each =
      all_told ts (bind scope i (LetMax fs)) (one_more scope i (LetMax fs) h (each i (LetMax fs) (inl (refl, refl)))) (λ s b t. each s b (inr t))
  all_told (Tested low high ∷ ts) scope h each = all_told ts scope h each

-- ---- lets

pub let_tells : (ts : List Step) (j i : ℕ) (fs : List Form) → slice_get ts j ≡ Some (Named i Min fs) → Tells i (LetMin fs) ts
let_tells [] j i fs e = absurd (cc e)
let_tells (t ∷ ts) zero i fs e = (let is : t ≡ Named i Min fs = cc e in subst (λ (u : Step). Tells i (LetMin fs) (u ∷ ts)) (sym is) (inl (refl, refl)))
let_tells (Turns k x kind ∷ ts) (suc j) i fs e = inr (let_tells ts j i fs e)
let_tells (Named k Min gs ∷ ts) (suc j) i fs e = inr (let_tells ts j i fs e)
let_tells (Named k Max gs ∷ ts) (suc j) i fs e = inr (let_tells ts j i fs e)
let_tells (Tested low high ∷ ts) (suc j) i fs e = let_tells ts j i fs e

-- ---- entries of a nest

-- what is known of an entry's symbol
abbrev pub line_told : Line → Turning → List Form → Binding
line_told Loop t fs = LoopBinding (span t.low t.last fs)
line_told (Block f z) t fs = LetMin (f ∷ number z ∷ [])
line_told (Pair f z) t fs = LetMin (f ∷ number z ∷ [])

abbrev pub entry_told : Entry → Binding
entry_told e = line_told e.line e.turning e.limits

pub entries_rise : (n : ℕ) (es : List Entry) → Rises n (entry_steps n es) (n + length es)
entries_rise n [] = omega arith
entries_rise n (e ∷ es) = of e.line (subst (λ (m : ℕ). Rises (n + 1) (entry_steps (n + 1) es) m) next (entries_rise (n + 1) es))
  where
    next : (n + 1) + length es ≡ n + length (e ∷ es)
    next = omega arith

    of : (l : Line) → Rises (n + 1) (entry_steps (n + 1) es) (n + length (e ∷ es)) → Rises n (entry_steps n (record { turning = e.turning; line = l; limits = e.limits } ∷ es)) (n + length (e ∷ es))
    of Loop r = (refl, r)
    of (Block f z) r = (refl, r)
    of (Pair f z) r = (refl, r)

pub entry_tells : (n : ℕ) (es : List Entry) (j : ℕ) (e : Entry) → slice_get es j ≡ Some e → Tells (n + j) (entry_told e) (entry_steps n es)
entry_tells n [] j e at = absurd (cc at)
entry_tells n (x ∷ es) zero e at =
    let is : x ≡ e = cc at in
    let none : n ≡ n + 0 = omega arith in
    subst (λ (y : Entry). Tells (n + 0) (entry_told y) (entry_steps n (x ∷ es))) is (first x.line none)
  where
    first : (l : Line) → n ≡ n + 0 → Tells (n + 0) (line_told l x.turning x.limits) (entry_steps n (record { turning = x.turning; line = l; limits = x.limits } ∷ es))
    first Loop none = inl (none, refl)
    first (Block f z) none = inl (none, refl)
    first (Pair f z) none = inl (none, refl)
entry_tells n (x ∷ es) (suc j) e at =
    let next : (n + 1) + j ≡ n + suc j = omega arith in
    later x.line (subst (λ (s : ℕ). Tells s (entry_told e) (entry_steps (n + 1) es)) next (entry_tells (n + 1) es j e at))
  where
    later : (l : Line) → Tells (n + suc j) (entry_told e) (entry_steps (n + 1) es) →
        Tells (n + suc j) (entry_told e) (entry_steps n (record { turning = x.turning; line = l; limits = x.limits } ∷ es))
    later Loop t = inr t
    later (Block f z) t = inr t
    later (Pair f z) t = inr t

-- each of them is told of an entry
pub entries_told : (n : ℕ) (es : List Entry) (s : ℕ) (b : Binding) → Tells s b (entry_steps n es) → (j : ℕ) × (e : Entry) × (slice_get es j ≡ Some e) × (entry_told e ≡ b)
entries_told n [] s b t = absurd t
entries_told n (x ∷ es) s b t = of x.line refl t (λ k. entries_told (n + 1) es s b k)
  where
    Found : Type 0
    Found = (j : ℕ) × (e : Entry) × (slice_get (x ∷ es) j ≡ Some e) × (entry_told e ≡ b)

    one : (line_told x.line x.turning x.limits ≡ b) → Found
    one k = (0, x, refl, k)

    more : ((j : ℕ) × (e : Entry) × (slice_get es j ≡ Some e) × (entry_told e ≡ b)) → Found
    more k = (suc k.0, k.1, k.2, k.3)

    of : (l : Line) → x.line ≡ l → Tells s b (entry_steps n (record { turning = x.turning; line = l; limits = x.limits } ∷ es)) →
        (Tells s b (entry_steps (n + 1) es) → (j : ℕ) × (e : Entry) × (slice_get es j ≡ Some e) × (entry_told e ≡ b)) → Found
    of Loop is (inl k) rest = one (ap (λ (l : Line). line_told l x.turning x.limits) is ∙ k.1)
    of Loop is (inr k) rest = more (rest k)
    of (Block f z) is (inl k) rest = one (ap (λ (l : Line). line_told l x.turning x.limits) is ∙ k.1)
    of (Block f z) is (inr k) rest = more (rest k)
    of (Pair f z) is (inl k) rest = one (ap (λ (l : Line). line_told l x.turning x.limits) is ∙ k.1)
    of (Pair f z) is (inr k) rest = more (rest k)
