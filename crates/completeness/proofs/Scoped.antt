-- What the loops, lets and guards inside groups of whole functions name is in scope, and what they bind is not.
use Rattle.std.proofs.Common.{◌≡◌, ℕ, zero, suc, ◌+◌, ◌<◌, ◌≤◌, Bool, true, false, ◌||◌, List, [], ◌∷◌, ◌++◌, length, Some, None, refl, sym, ap, ◌∙◌, subst, inl, inr, ◌⊎◌, arith}
use Rattle.std.specs.Prelude.{◌==◌, slice_get, Contains}
use Rattle.std.specs.List.{AllByRecursion, Any, list_any, range_with_len}
use Rattle.std.proofs.lemmas.Bool.Decides.{nat_tests}
use Rattle.lin.specs.Forms.{Form}
use Rattle.lin.specs.declared.form.Multiple.{Multiple}
use Rattle.lin.specs.declared.span.Span1.{Span1}
use Rattle.plan.specs.declared.plan.Group.{Group as CodeGroup}
use Rattle.plan.specs.declared.certificate.cert.Claim.{Claim as CodeClaim}
use Rattle.plan.specs.declared.certificate.cert.Need.{Need}
use Rattle.plan.specs.Plan.{Statement, Seq, For, Let, First, Guard, Alloc, Fetch, Store, Publish, Statements, Empty, Then, Group, Plan, block}
use Rattle.plan.specs.View.{group_of, plan_of, statement_of}
use Rattle.plan.specs.Lines.{block_lines, group_line}
use Rattle.plan.specs.Certificate.Certificate.{Certificate, certificate_of}
use Rattle.meaning.specs.Algorithm.{Algorithm}
use Rattle.meaning.specs.Conditions.{IsAlgorithm}
use Rattle.soundness.specs.Given.{outline_of}
use Rattle.soundness.specs.Outline.Forms.{grid_symbols}
use Rattle.soundness.specs.Outline.Flaws.{line_told}
use Rattle.headline.proofs.Lists.{from_map}
use Rattle.sched.specs.Schedule.{Schedule}
use Rattle.sched.specs.Legal.{IsLegal}
use Rattle.sched.specs.declared.skeleton.Step.{Step}
use Rattle.sched.specs.declared.skeleton.Step.TheVariants.{Turns, Named, Tested}
use Rattle.sched.specs.Runs.{lines_to}
use Rattle.sched.specs.Order.{Good, IsSpan, Ordered, BindsBehind}
use Rattle.sched.specs.Skeleton.{NestText, SkeletonText, span}
use Rattle.sched.proofs.Arriving.{skeletal}
use Rattle.validation.specs.Wide.{NamesOther, SpanNamesOther}
use Rattle.validation.specs.Groups.Lines.{Here, in_loop, inside, before, symbols_after, after, is_empty, start}
use Rattle.validation.specs.Groups.Inside.{Inside, InsideOne, StandsIn}
use Rattle.validation.specs.Groups.Wrong.{NamesUnknown}
use Rattle.validation.proofs.Wide.{contains_is, is_contained}
use Rattle.lower.specs.declared.lowering.Lowered.{Lowered}
use Rattle.sched.specs.Stored.{FormulaText, StoredText}
use Rattle.lower.specs.Stored.{stored_functions, has_large}
use Rattle.regions.specs.Faults.{are_whole}
use Rattle.lower.specs.Faults.{region_fault}
use Rattle.regions.specs.Regions.{bodies_from, skeleton_of}
use Rattle.sched.specs.Loading.{Loads}
use Rattle.blocks.specs.Blocks.{dimensions_of, own_places}
use Rattle.blocks.specs.Bodies.{IsStore, AreNests}
use Rattle.lower.specs.Bodies.{last_claim}
use Rattle.sched.specs.Fetches.{Entry}
use Rattle.blocks.specs.Fetches.{FetchText, with_fetches}
use Rattle.lower.specs.Groups.{HasBody, HasGroups}
use Rattle.completeness.specs.Laws.{IsStep, StepLinesAreKnown}
use Rattle.completeness.proofs.Only.{Only, AreOnly, SpanOnly}
use Rattle.completeness.proofs.Standing.{With, StepsOver, Rises, NestsRise, OverGrid, names_own}
use Rattle.completeness.proofs.Standing.{Binds, Here as Bound}
use Rattle.completeness.proofs.Gridded.{among}
use Rattle.completeness.proofs.Owned.{same_extents, same_skeleton}
use Rattle.completeness.proofs.Served.{roots, made_at}
use Rattle.completeness.proofs.Spots.{Has, has_first, has_last}
use Rattle.completeness.proofs.Unlike.{placed_body}

-- ---- by the symbols in scope alone

-- no loop, let or guard of the statement binds one of these, or one that it bound before, or names another
abbrev mutual
  pub Keeps : Statement → List ℕ → Type 0
  Keeps (Seq all) ss = KeepAll all ss
  Keeps (For i x kind body) ss = ¬ (Contains ss i ⊎ SpanNamesOther ss x) × Keeps body (ss ++ i ∷ [])
  Keeps (Let i pick forms) ss = ¬ (Contains ss i ⊎ Any (NamesOther ss) forms)
  Keeps (First i a b) ss = ⊥
  Keeps (Guard low high body) ss = ¬ (NamesOther ss low ⊎ NamesOther ss high) × Keeps body ss
  Keeps (Alloc b f places) ss = Unit {0}
  Keeps (Fetch b g region) ss = Unit {0}
  Keeps (Store b k at e) ss = Unit {0}
  Keeps (Publish k) ss = Unit {0}

  pub KeepAll : Statements → List ℕ → Type 0
  KeepAll Empty ss = Unit {0}
  KeepAll (Then a rest) ss = Keeps a ss × KeepAll rest (symbols_after a ss)

module _ (a : Algorithm) (p : Plan) (c : Certificate) (n : ℕ) (g : Group) (line : ℕ) where
  abbrev Flawed : Statement → Here → Type 0
  Flawed s here = (line_told here.line ≡ line) × (IsStep s × NamesUnknown a p c g (outline_of p c n g) s here)

  mutual
    pub none_inside : (s : Statement) (here : Here) → Keeps s here.symbols → Inside Flawed s here → ⊥
    none_inside (Seq all) here h k = none_in_all all here h k
    none_inside (For i x kind body) here h (inl k) = h.0 k.1.1
    none_inside (For i x kind body) here h (inr k) = none_inside body (in_loop i here) h.1 k
    none_inside (Let i pick forms) here h k = h k.1.1
    none_inside (First i b d) here h k = h
    none_inside (Guard low high body) here h (inl k) = h.0 k.1.1
    none_inside (Guard low high body) here h (inr k) = none_inside body (inside here) h.1 k
    none_inside (Alloc b f places) here h k = k.1.0
    none_inside (Fetch b u region) here h k = k.1.0
    none_inside (Store b q at e) here h k = k.1.0
    none_inside (Publish q) here h k = k.1.0

    none_in_all : (all : Statements) (here : Here) → KeepAll all here.symbols → InsideOne Flawed all here → ⊥
    none_in_all Empty here h k = k
    none_in_all (Then s rest) here h (inl k) = none_inside s (before (is_empty rest) here) h.0 k
    none_in_all (Then s rest) here h (inr k) = none_in_all rest (after s here) h.1 k

-- the symbols in scope behind statements
abbrev past : Statements → List ℕ → List ℕ
past Empty ss = ss
past (Then a rest) ss = past rest (symbols_after a ss)

joined_kept : (xs ys : List Statement) (ss : List ℕ) → KeepAll (block xs) ss → KeepAll (block ys) (past (block xs) ss) → KeepAll (block (xs ++ ys)) ss
joined_kept [] ys ss h k = k
joined_kept (a ∷ xs) ys ss h k = (h.0, joined_kept xs ys (symbols_after a ss) h.1 k)

-- ---- what is in scope

-- these are in scope, and only symbols before this one
pub record Scope (P : ℕ → Type 0) (n : ℕ) (ss : List ℕ) : Type 0 where
  pub has : (s : ℕ) → P s → Has ss s
  pub below : (s : ℕ) → Has ss s → s < n

pub last_or : (xs : List ℕ) (i s : ℕ) → Has (xs ++ i ∷ []) s → Has xs s ⊎ (i ≡ s)
last_or [] i s h = of (i == s) refl h
  where
    of : (b : Bool) → (i == s) ≡ b → (b || false) ≡ true → Has [] s ⊎ (i ≡ s)
    of true e k = inr (grind (arith, nat_tests, e))
    of false e k = absurd (cc k)
last_or (x ∷ xs) i s h = of (x == s) h (last_or xs i s)
  where
    of : (b : Bool) → (b || list_any (λ x. x == s) (xs ++ i ∷ [])) ≡ true → (Has (xs ++ i ∷ []) s → Has xs s ⊎ (i ≡ s)) → ((b || list_any (λ x. x == s) xs) ≡ true) ⊎ (i ≡ s)
    of true k rest = inl refl
    of false k rest = rest k

module _ (P : ℕ → Type 0) (n : ℕ) (ss : List ℕ) (sc : Scope P n ss) where
  bind : (i : ℕ) → i ≡ n → Scope (With P i) (n + 1) (ss ++ i ∷ [])
  bind i e = record { has = had; below = under }
    where
      had : (s : ℕ) → With P i s → Has (ss ++ i ∷ []) s
      had s (inl p) = has_first ss (i ∷ []) s (sc.has s p)
      had s (inr q) = subst (λ (s : ℕ). Has (ss ++ i ∷ []) s) q (has_last ss i)

      low : (s : ℕ) → Has ss s ⊎ (i ≡ s) → s < n + 1
      low s (inl h) = (let k = sc.below s h in omega (arith, k))
      low s (inr q) = omega (arith, q, e)

      under : (s : ℕ) → Has (ss ++ i ∷ []) s → s < n + 1
      under s h = low s (last_or ss i s h)

  fresh : (i : ℕ) → i ≡ n → Contains ss i → ⊥
  fresh i e h = (let k = sc.below i (is_contained ss i h) in omega (arith, k, e))

pub any_none : {A : Type 0} (P R : A → Type 0) → ((x : A) → P x → R x → ⊥) → (xs : List A) → AllByRecursion P xs → Any R xs → ⊥
any_none P R clash [] h (k, y, less, is, r) = omega (arith, less)
any_none P R clash (x ∷ xs) h (zero, y, less, is, r) = clash x h.0 (subst R (sym is) r)
any_none P R clash (x ∷ xs) h (suc k, y, less, is, r) = any_none P R clash xs h.1 (k, y, omega (arith, less), is, r)

module _ (P : ℕ → Type 0) (ss : List ℕ) (has : (s : ℕ) → P s → Has ss s) where
  pub form_none : (f : Form) → Only P f → NamesOther ss f → ⊥
  form_none f h = any_none (λ t. P t.symbol) (λ t. ¬ Contains ss t.symbol) (λ t p lacks. lacks (contains_is ss t.symbol (has t.symbol p))) f.terms h

  forms_none : (fs : List Form) → AreOnly P fs → Any (NamesOther ss) fs → ⊥
  forms_none fs h = any_none (Only P) (NamesOther ss) (λ f g. form_none f g) fs h

  pub span_none : (x : Span1) → SpanOnly P x → SpanNamesOther ss x → ⊥
  span_none x h (inl k) = forms_none x.lower h.0 k
  span_none x h (inr k) = forms_none x.upper h.1 k

-- ---- steps

ordered_binds : (n m : ℕ) (ss : List Step) → Ordered n ss m → (s : ℕ) → Binds ss s → n ≤ s
ordered_binds n m [] o s b = absurd b
ordered_binds n m (Turns i x kind ∷ ss) o s (inl e) = (let first = o.0 in omega (arith, e, first))
ordered_binds n m (Turns i x kind ∷ ss) o s (inr b) = (let rest = ordered_binds (n + 1) m ss o.2 s b in omega (arith, rest))
ordered_binds n m (Named i pick fs ∷ ss) o s (inl e) = (let first = o.0 in omega (arith, e, first))
ordered_binds n m (Named i pick fs ∷ ss) o s (inr b) = (let rest = ordered_binds (n + 1) m ss o.3 s b in omega (arith, rest))
ordered_binds n m (Tested low high ∷ ss) o s b = ordered_binds n m ss o s b

-- the forms of a loop name no symbol of steps inside it
module _ (P : ℕ → Type 0) (from to i : ℕ) (ss : List Step) (first : i ≡ from) (o : Ordered (from + 1) ss to) where
  outer : (s : ℕ) → Bound (With P i) ss s → s < from → P s
  outer s (inl (inl p)) less = p
  outer s (inl (inr e)) less = absurd (omega (arith, e, less, first))
  outer s (inr b) less = (let least = ordered_binds (from + 1) to ss o s b in absurd (omega (arith, least, less)))

  outer_form : (f : Form) → Only (Bound (With P i) ss) f → AllByRecursion (λ t. t.symbol < from) f.terms → Only P f
  outer_form f h k = of f.terms h k
    where
      of : (ts : List Multiple) → AllByRecursion (λ t. Bound (With P i) ss t.symbol) ts → AllByRecursion (λ t. t.symbol < from) ts → AllByRecursion (λ t. P t.symbol) ts
      of [] h k = tt
      of (t ∷ ts) h k = (outer t.symbol h.0 k.0, of ts h.1 k.1)

  outer_forms : (fs : List Form) → AreOnly (Bound (With P i) ss) fs → AllByRecursion (Good from) fs → AreOnly P fs
  outer_forms [] h k = tt
  outer_forms (f ∷ fs) h k = (outer_form f h.0 k.0.below, outer_forms fs h.1 k.1)

  pub outer_span : (x : Span1) → IsSpan from x → SpanOnly (Bound (With P i) ss) x → SpanOnly P x
  outer_span x w h =
      let told : SpanOnly (Bound (With P i) ss) (span w.low w.last w.limits) = subst (SpanOnly (Bound (With P i) ss)) w.is h in
      subst (SpanOnly P) (sym w.is) ((tt, tt), (tt, outer_forms w.limits told.1.1 w.good))

pub steps_kept : (P : ℕ → Type 0) (n m from to : ℕ) (ts : List Step) → Rises n ts m → Ordered from ts to → StepsOver P ts → (inner : Statements) (ss : List ℕ) → Scope P n ss →
    ((us : List ℕ) → Scope (Bound P ts) m us → KeepAll inner us) → KeepAll (lines_to ts inner) ss
steps_kept P n m from to [] r o v inner ss sc k =
    k ss (subst (λ (m : ℕ). Scope (Bound P []) m ss) r (record { has = none; below = sc.below }))
  where
    none : (s : ℕ) → Bound P [] s → Has ss s
    none s (inl p) = sc.has s p
    none s (inr b) = absurd b
steps_kept P n m from to (Turns i x kind ∷ ts) r o v inner ss sc k =
    let so : SpanOnly P x = outer_span P from to i ts o.0 o.2 x o.1 v.0 in (
      (
        flawless so,
        steps_kept (With P i) (n + 1) m (from + 1) to ts r.1 o.2 v.1 inner (ss ++ i ∷ []) (bind P n ss sc i r.0)
            (λ us u. k us (record { has = λ s b. u.has s (past_first s b); below = u.below })),
      ),
      tt,
    )
  where
    flawless : SpanOnly P x → Contains ss i ⊎ SpanNamesOther ss x → ⊥
    flawless so (inl h) = fresh P n ss sc i r.0 h
    flawless so (inr h) = span_none P ss sc.has x so h

    past_first : (s : ℕ) → Bound P (Turns i x kind ∷ ts) s → Bound (With P i) ts s
    past_first s (inl p) = inl (inl p)
    past_first s (inr (inl e)) = inl (inr e)
    past_first s (inr (inr b)) = inr b
steps_kept P n m from to (Named i pick fs ∷ ts) r o v inner ss sc k = (
  flawless,
  steps_kept (With P i) (n + 1) m (from + 1) to ts r.1 o.3 v.1 inner (ss ++ i ∷ []) (bind P n ss sc i r.0)
      (λ us u. k us (record { has = λ s b. u.has s (past_first s b); below = u.below })),
)
  where
    flawless : Contains ss i ⊎ Any (NamesOther ss) fs → ⊥
    flawless (inl h) = fresh P n ss sc i r.0 h
    flawless (inr h) = forms_none P ss sc.has fs v.0 h

    past_first : (s : ℕ) → Bound P (Named i pick fs ∷ ts) s → Bound (With P i) ts s
    past_first s (inl p) = inl (inl p)
    past_first s (inr (inl e)) = inl (inr e)
    past_first s (inr (inr b)) = inr b
steps_kept P n m from to (Tested low high ∷ ts) r o v inner ss sc k =
    ((flawless, steps_kept P n m from to ts r o v.2 inner ss sc (λ us u. k us (record { has = λ s b. u.has s (past_first s b); below = u.below }))), tt)
  where
    flawless : NamesOther ss low ⊎ NamesOther ss high → ⊥
    flawless (inl h) = form_none P ss sc.has low v.0 h
    flawless (inr h) = form_none P ss sc.has high v.1 h

    past_first : (s : ℕ) → Bound P (Tested low high ∷ ts) s → Bound P ts s
    past_first s (inl p) = inl p
    past_first s (inr b) = inr b

-- behind the steps of a nest the same is in scope, and symbols that its lets bound
pub rises_up : (n m : ℕ) (ts : List Step) → Rises n ts m → n ≤ m
rises_up n m [] r = omega (arith, r)
rises_up n m (Turns i x kind ∷ ts) r = (let k = rises_up (n + 1) m ts r.1 in omega (arith, k))
rises_up n m (Named i pick fs ∷ ts) r = (let k = rises_up (n + 1) m ts r.1 in omega (arith, k))
rises_up n m (Tested low high ∷ ts) r = rises_up n m ts r

later_scope : (P : ℕ → Type 0) (n m : ℕ) (ss : List ℕ) → n ≤ m → Scope P n ss → Scope P m ss
later_scope P n m ss le sc = record { has = sc.has; below = λ s h. (let k = sc.below s h in omega (arith, k, le)) }

past_steps : (P : ℕ → Type 0) (n m : ℕ) (ts : List Step) → Rises n ts m → (inner : Statements) → ((us : List ℕ) → past inner us ≡ us) → (ss : List ℕ) → Scope P n ss →
    Scope P m (past (lines_to ts inner) ss)
past_steps P n m [] r inner same ss sc = subst (Scope P m) (sym (same ss)) (subst (λ (m : ℕ). Scope P m ss) r sc)
past_steps P n m (Turns i x kind ∷ ts) r inner same ss sc = (let le = rises_up (n + 1) m ts r.1 in later_scope P n m ss (omega (arith, le)) sc)
past_steps P n m (Named i pick fs ∷ ts) r inner same ss sc =
    let b = bind P n ss sc i r.0 in
    past_steps P (n + 1) m ts r.1 inner same (ss ++ i ∷ []) (record { has = λ s p. b.has s (inl p); below = b.below })
past_steps P n m (Tested low high ∷ ts) r inner same ss sc = later_scope P n m ss (rises_up n m ts r) sc

-- ---- stores and nests

module _ (g : StoredText) (fs : List FormulaText) (ls : Loads) (d : ℕ) (w : NestText) where
  store_kept : (s : Statement) → IsStore g fs ls d w s → (ss : List ℕ) → KeepAll (Then s Empty) ss × (past (Then s Empty) ss ≡ ss)
  store_kept (Store b k at e) is ss = ((tt, tt), refl)
  store_kept (Seq xs) is ss = absurd is
  store_kept (For j x kind body) is ss = absurd is
  store_kept (Let j pick forms) is ss = absurd is
  store_kept (First j x y) is ss = absurd is
  store_kept (Guard low high body) is ss = absurd is
  store_kept (Alloc b x places) is ss = absurd is
  store_kept (Fetch b x region) is ss = absurd is
  store_kept (Publish x) is ss = absurd is

pub fetches_kept : (xs : List FetchText) (rest : List Statement) (ss : List ℕ) → KeepAll (block rest) ss → KeepAll (block (with_fetches xs rest)) ss
fetches_kept [] rest ss h = h
fetches_kept (y ∷ xs) rest ss h = (tt, (tt, fetches_kept xs rest ss h))

module _ (g : StoredText) (fs : List FormulaText) (k : SkeletonText) (Q : ℕ → Type 0) (least : ℕ) (order : (i : ℕ) (n : NestText) → slice_get k.nests i ≡ Some n → BindsBehind least n)
    (over : (i : ℕ) (n : NestText) → slice_get k.nests i ≡ Some n → StepsOver Q n.steps) (r : List Span1) (claim : ℕ) where
  pub nests_kept : (ms : Loads) (m at_line d next : ℕ) (ns : List NestText) (xs : List Statement) (cs : List CodeClaim) → AreNests g fs r ms m at_line d ns xs cs → NestsRise next ns →
      ((j : ℕ) (w : NestText) → slice_get ns j ≡ Some w → slice_get k.nests (d + j) ≡ Some w) → (ss : List ℕ) → Scope Q next ss → KeepAll (block (xs ++ Publish claim ∷ [])) ss
  nests_kept ms m at_line d next [] xs cs is up there ss sc = subst (λ (ys : List Statement). KeepAll (block (ys ++ Publish claim ∷ [])) ss) (sym is.0) (tt, tt)
  nests_kept ms m at_line d next (w ∷ ns) xs [] is up there ss sc = absurd is
  nests_kept ms m at_line d next (w ∷ ns) xs (v ∷ cs) is up there ss sc =
      let nest = is.here.nest in
      let none : d + 0 ≡ d = omega arith in
      let at = ap (slice_get k.nests) (sym none) ∙ there 0 w refl in
      let o = order d w at in
      let store : (us : List ℕ) → KeepAll (Then nest.store Empty) us × (past (Then nest.store Empty) us ≡ us) = store_kept g fs ms d w nest.store nest.stores in
      let here : KeepAll (block is.first) ss = subst (λ (code : Statements). KeepAll code ss) (sym nest.comes)
      (steps_kept Q next up.0 o.from o.to w.steps up.1 o.steps (over d w at) (Then nest.store Empty) ss sc (λ us u. (store us).0)) in
      let behind : Scope Q up.0 (past (block is.first) ss) = subst (λ (code : Statements). Scope Q up.0 (past code ss)) (sym nest.comes)
      (past_steps Q next up.0 w.steps up.1 (Then nest.store Empty) (λ us. (store us).1) ss sc) in
      let rest = nests_kept (ms ++ (g.subject.name, m) ∷ []) (m + 1) (at_line + block_lines (block is.first)) (d + 1) up.0 ns is.others cs is.behind up.2
      (λ j y e. let next : d + suc j ≡ (d + 1) + j = omega arith in ap (slice_get k.nests) (sym next) ∙ there (suc j) y e) (past (block is.first) ss) behind in
      let joined = joined_kept is.first (is.others ++ Publish claim ∷ []) ss here rest in
      let are : xs ++ Publish claim ∷ [] ≡ is.first ++ (is.others ++ Publish claim ∷ []) =
      ap (λ (ys : List Statement). ys ++ Publish claim ∷ []) is.are ∙ joined_twice is.first is.others (Publish claim ∷ []) in
      subst (λ (ys : List Statement). KeepAll (block ys) ss) (sym are) joined
    where
      joined_twice : (xs ys zs : List Statement) → (xs ++ ys) ++ zs ≡ xs ++ (ys ++ zs)
      joined_twice [] ys zs = refl
      joined_twice (a ∷ xs) ys zs = (let rest = joined_twice xs ys zs in ap (λ (r : List Statement). a ∷ r) rest)

-- ---- groups

grid_below : (s count t : ℕ) → Has (range_with_len s count) t → t < s + count
grid_below s zero t h = absurd (cc h)
grid_below s (suc count) t h = of (s == t) refl h (grid_below (s + 1) count t)
  where
    of : (b : Bool) → (s == t) ≡ b → (b || list_any (λ x. x == t) (range_with_len (s + 1) count)) ≡ true → (Has (range_with_len (s + 1) count) t → t < (s + 1) + count) → t < s + suc count
    of true e k rest = (let same : s ≡ t = grind (arith, nat_tests, e) in omega (arith, same))
    of false e k rest = (let less = rest k in omega (arith, less))

pub grid_begins : (n : ℕ) → Scope (λ s. s < n) n (grid_symbols n)
grid_begins n = record {
  has = λ s less. (let low : 0 ≤ s = omega arith in among 0 n s low (omega (arith, less)));
  below = λ s h. (let less = grid_below 0 n s h in omega (arith, less));
}

some_same : {A : Type 0} (x y : A) → Some x ≡ Some y → x ≡ y
some_same x y e = cc e

module _ (a : Algorithm) (sch : Schedule) (l : Lowered) (well : IsAlgorithm a) (legal : IsLegal a sch) (small : has_large (stored_functions a sch) ≡ false)
    (kept : region_fault a (stored_functions a sch) ≡ None) (all : are_whole (stored_functions a sch) ≡ true) (groups : HasGroups a (stored_functions a sch) l) where
  abbrev entries : List Entry
  entries = roots a sch l well legal small kept all groups

  abbrev made : List CodeGroup
  made = l.plan.groups.items

  module _ (n c line : ℕ) (g : StoredText) (p : CodeGroup) (claims : List CodeClaim) (needs : List Need) (at : slice_get (stored_functions a sch) n ≡ Some g)
      (there : slice_get made n ≡ Some p) (h : HasBody a entries n c line g p claims needs) where
    abbrev k : SkeletonText
    k = h.skeleton

    pub own_grid : p.grid.items ≡ k.grid
    own_grid =
        let fs = h.formulas in
        let me = made_at a sch l well legal small kept all groups n p there in
        let same_stored : me.stored ≡ g = some_same me.stored g (sym me.is ∙ at) in
        let defined : me.stored.formulas ≡ Some fs = ap (λ (u : StoredText). u.formulas) same_stored ∙ h.defined in
        let laid : skeleton_of me.stored fs h.extents ≡ Some k = ap (λ (u : StoredText). skeleton_of u fs h.extents) same_stored ∙ h.laid in
        let extents = same_extents a sch l well legal small kept all groups n p me.laid h.extents there me.found h.region in
        let skeleton = same_skeleton a sch l well legal small kept all groups n me.stored me.laid fs h.extents k me.is me.found defined extents laid in
        me.grid ∙ ap (λ (x : SkeletonText). x.grid) skeleton

    body_kept : Keeps (statement_of p.body) (grid_symbols (length p.grid.items))
    body_kept =
        let b = h.body in
        let bodies = bodies_from g.changes 0 g.subject.reductions h.formulas in
        let order = skeletal g.subject.variables bodies g.placed h.extents k h.laid in
        let names = names_own g.subject.variables bodies g.placed h.extents k h.laid in
        let claim = last_claim c b.fetches k in
        let code = block (Alloc 0 g.subject.name (own_places (dimensions_of g h.extents k)) ∷ with_fetches b.fetches (b.nests ++ Publish claim ∷ [])) in
        let inner : (us : List ℕ) → Scope (OverGrid k) names.next us → KeepAll code us =
        λ us u. (
          tt,
          fetches_kept b.fetches (b.nests ++ Publish claim ∷ []) us
              (nests_kept g h.formulas k (OverGrid k) order.next order.nests names.steps_over _ claim _ _ _ 0 names.next k.nests b.nests b.own b.nested names.nests_rise
              (λ j w e. let none : 0 + j ≡ j = omega arith in ap (slice_get k.nests) none ∙ e) us u),
        ) in
        let kept_here : KeepAll (lines_to k.head code) (grid_symbols (length k.grid)) = steps_kept (λ s. s < length k.grid) (length k.grid) names.next (length k.grid) order.next k.head
        names.rises order.head names.over code (grid_symbols (length k.grid)) (grid_begins (length k.grid)) inner in
        subst (λ (s : Statement). Keeps s (grid_symbols (length p.grid.items))) (sym b.with.is)
        (subst (λ (counts : List ℕ). KeepAll (lines_to k.head code) (grid_symbols (length counts))) (sym own_grid) kept_here)

  none_at : (line : ℕ) → StandsIn (plan_of l.plan) (λ n g s here. IsStep s × NamesUnknown a (plan_of l.plan) (certificate_of l.certificate) g
      (outline_of (plan_of l.plan) (certificate_of l.certificate) n g) s here) line → ⊥
  none_at line h =
      let p = plan_of l.plan in
      let c = certificate_of l.certificate in
      let x = from_map group_of made h.number h.group h.there in
      let q = x.0 in
      let me = made_at a sch l well legal small kept all groups h.number q x.1 in
      let b = placed_body a entries l.certificate.claims.items 0 0 4 (stored_functions a sch) made l.certificate.claims.items l.certificate.needs.items (groups.bodies all)
      (λ j v e. let none : 0 + j ≡ j = omega arith in ap (slice_get l.certificate.claims.items) none ∙ e) h.number me.stored q me.is x.1 in
      let counted : 0 + h.number ≡ h.number = omega arith in
      let body = subst (λ (i : ℕ). HasBody a entries i b.first_claim b.line me.stored q b.claims b.needs) counted b.body in
      let clear = body_kept h.number b.first_claim b.line me.stored q b.claims b.needs me.is x.1 body in
      let first : Group → Here = λ u. start (line_told (group_line p h.number)) u in
      let stands = subst (λ (u : Group). Inside (λ s here. (line_told here.line ≡ line) × (IsStep s × NamesUnknown a p c u (outline_of p c h.number u) s here)) u.body (first u)) x.2 h.stands in
      none_inside a p c h.number (group_of q) line (statement_of q.body) (first (group_of q)) clear stands

pub known : StepLinesAreKnown
known a s l well legal small regions groups all line h = none_at a s l well legal small (regions all).0 all groups line h
