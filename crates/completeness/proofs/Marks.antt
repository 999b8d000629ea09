-- The checker takes for stored just the functions that the schedule stores.
use Rattle.std.proofs.Common.{◌≡◌, ℕ, zero, suc, ◌+◌, Bool, true, false, ◌||◌, List, [], ◌∷◌, ◌++◌, map, Some, None, refl, sym, ap, ◌∙◌, arith}
use Rattle.std.specs.Prelude.{if◌then◌else◌, string_bytes, slice_get}
use Rattle.std.specs.List.{list_any}
use Rattle.plan.specs.declared.plan.Group.{Group as CodeGroup}
use Rattle.plan.specs.declared.certificate.cert.Claim.{Claim as CodeClaim}
use Rattle.plan.specs.Plan.{Statement, Seq, For, Let, First, Guard, Alloc, Fetch, Store, Publish, Statements, Empty, Then, block}
use Rattle.plan.specs.View.{group_of, plan_of, statement_of}
use Rattle.lin.specs.declared.span.Span1.{Span1}
use Rattle.meaning.specs.Algorithm.{Function, Algorithm}
use Rattle.meaning.specs.Names.{same_name}
use Rattle.meaning.specs.Conditions.{IsAlgorithm}
use Rattle.soundness.proofs.Refines.{name_refl, name_true}
use Rattle.headline.proofs.Lists.{at_map, from_map}
use Rattle.sched.specs.Schedule.{Schedule}
use Rattle.sched.specs.Legal.{IsLegal, said, loops_after}
use Rattle.sched.specs.Subjects.{subject_said}
use Rattle.sched.specs.Placing.{SubjectText}
use Rattle.sched.specs.declared.skeleton.Step.{Step}
use Rattle.sched.specs.declared.skeleton.Step.TheVariants.{Turns, Named, Tested}
use Rattle.sched.specs.Runs.{lines_to}
use Rattle.sched.specs.Skeleton.{NestText}
use Rattle.validation.specs.Stored.Definitions.{allots, block_allots, group_stores, is_stored, stored_in}
use Rattle.lower.specs.declared.lowering.Lowered.{Lowered}
use Rattle.sched.specs.Stored.{FormulaText, StoredText}
use Rattle.blocks.specs.Stored.{stored_by, stored_among, flags}
use Rattle.lower.specs.Stored.{stored_functions, has_large}
use Rattle.regions.specs.Faults.{are_whole}
use Rattle.lower.specs.Faults.{region_fault}
use Rattle.sched.specs.Loading.{Loads}
use Rattle.sched.specs.Around.{grid_scope}
use Rattle.regions.specs.Taken.{sites_of}
use Rattle.blocks.specs.Bodies.{IsStore, AreNests}
use Rattle.sched.specs.Fetches.{Entry}
use Rattle.blocks.specs.Fetches.{FetchText, with_fetches}
use Rattle.lower.specs.Fetches.{fetched_groups}
use Rattle.lower.specs.Groups.{HasGroups}
use Rattle.completeness.proofs.Laid.{subjects, found, stored_is}
use Rattle.completeness.proofs.Bodies.{other_at, entry_at, fetch_at, body_at}
use Rattle.completeness.proofs.Owned.{each}
use Rattle.completeness.proofs.Output.{group_at}
use Rattle.completeness.proofs.Served.{ls as regions_found, roots, ready, made_at}

-- ---- stored functions are marked

module _ (a : Algorithm) (s : Schedule) (stored : List Bool) where
  abbrev text : Function → StoredText
  text f = stored_by a stored f.variables f.value f.changes (subject_said a s f) (loops_after (said s) f)

  pub marked : (fs : List Function) (n : ℕ) (g : StoredText) → slice_get (stored_among a stored fs (map (subject_said a s) fs) (map (loops_after (said s)) fs)) n ≡ Some g → g.subject.is_stored ≡ true
  marked [] n g e = absurd (cc e)
  marked (f ∷ fs) n g e = of (subject_said a s f).is_stored refl n e (λ m q. marked fs m g q)
    where
      rest : List StoredText
      rest = stored_among a stored fs (map (subject_said a s) fs) (map (loops_after (said s)) fs)

      of : (b : Bool) → (subject_said a s f).is_stored ≡ b → (n : ℕ) → slice_get (if b then text f ∷ rest else rest) n ≡ Some g → ((m : ℕ) → slice_get rest m ≡ Some g → g.subject.is_stored ≡ true) →
          g.subject.is_stored ≡ true
      of true t zero q more = (let same : text f ≡ g = cc q in ap (λ (u : StoredText). u.subject.is_stored) (sym same) ∙ t)
      of true t (suc m) q more = more m q
      of false t m q more = more m q

-- ---- what is allotted

either_none : (b : Bool) → (b || false) ≡ b
either_none true = refl
either_none false = refl

pub any_at : {A : Type 0} (test : A → Bool) (xs : List A) → list_any test xs ≡ true → (i : ℕ) × (x : A) × (slice_get xs i ≡ Some x) × (test x ≡ true)
any_at test [] e = absurd (cc e)
any_at test (x ∷ xs) e = of (test x) refl e (any_at test xs)
  where
    of : (b : Bool) → test x ≡ b → (b || list_any test xs) ≡ true → (list_any test xs ≡ true → (i : ℕ) × (y : _) × (slice_get xs i ≡ Some y) × (test y ≡ true)) →
        (i : ℕ) × (y : _) × (slice_get (x ∷ xs) i ≡ Some y) × (test y ≡ true)
    of true t q rest = (0, x, refl, t)
    of false t q rest = let r = rest q in (suc r.0, r.1, r.2, r.3)

at_any : {A : Type 0} (test : A → Bool) (xs : List A) (i : ℕ) (x : A) → slice_get xs i ≡ Some x → test x ≡ true → list_any test xs ≡ true
at_any test [] i x e t = absurd (cc e)
at_any test (y ∷ xs) zero x e t = (let same : y ≡ x = cc e in ap (λ (b : Bool). b || list_any test xs) (ap test same ∙ t))
at_any test (y ∷ xs) (suc i) x e t = of (test y) (at_any test xs i x e t)
  where
    of : (b : Bool) → list_any test xs ≡ true → (b || list_any test xs) ≡ true
    of true q = refl
    of false q = q

module _ (x : List ℕ) where
  steps_allot : (ss : List Step) (inner : Statements) → block_allots x (lines_to ss inner) ≡ block_allots x inner
  steps_allot [] inner = refl
  steps_allot (Turns i span kind ∷ ss) inner = either_none (block_allots x (lines_to ss inner)) ∙ steps_allot ss inner
  steps_allot (Named i pick fs ∷ ss) inner = steps_allot ss inner
  steps_allot (Tested low high ∷ ss) inner = either_none (block_allots x (lines_to ss inner)) ∙ steps_allot ss inner

  store_allots : (g : StoredText) (fs : List FormulaText) (ms : Loads) (d : ℕ) (n : NestText) (store : Statement) → IsStore g fs ms d n store → allots x store ≡ false
  store_allots g fs ms d n (Store b k cs e) h = refl
  store_allots g fs ms d n (Seq all) h = absurd h
  store_allots g fs ms d n (For i span kind body) h = absurd h
  store_allots g fs ms d n (Let i pick forms) h = absurd h
  store_allots g fs ms d n (First i a b) h = absurd h
  store_allots g fs ms d n (Guard low high body) h = absurd h
  store_allots g fs ms d n (Alloc b f places) h = absurd h
  store_allots g fs ms d n (Fetch b f region) h = absurd h
  store_allots g fs ms d n (Publish c) h = absurd h

  joined_allot : (xs ys : List Statement) → block_allots x (block xs) ≡ false → block_allots x (block (xs ++ ys)) ≡ block_allots x (block ys)
  joined_allot [] ys h = refl
  joined_allot (a ∷ xs) ys h = of (allots x a) h (joined_allot xs ys)
    where
      of : (b : Bool) → (b || block_allots x (block xs)) ≡ false → (block_allots x (block xs) ≡ false → block_allots x (block (xs ++ ys)) ≡ block_allots x (block ys)) →
          (b || block_allots x (block (xs ++ ys))) ≡ block_allots x (block ys)
      of true q rest = absurd (cc q)
      of false q rest = rest q

  nests_allot : (g : StoredText) (fs : List FormulaText) (r : List Span1) (ms : Loads) (c line d : ℕ) (ns : List NestText) (xs : List Statement) (cs : List CodeClaim) →
      AreNests g fs r ms c line d ns xs cs → block_allots x (block xs) ≡ false
  nests_allot g fs r ms c line d [] xs cs h = ap (λ (ys : List Statement). block_allots x (block ys)) h.0
  nests_allot g fs r ms c line d (n ∷ ns) xs [] h = absurd h
  nests_allot g fs r ms c line d (n ∷ ns) xs (w ∷ cs) h =
      let nest = h.here.nest in
      let one : block_allots x (block h.first) ≡ false =
      ap (block_allots x) nest.comes ∙ steps_allot n.steps (Then nest.store Empty) ∙ either_none (allots x nest.store) ∙ store_allots g fs ms d n nest.store nest.stores in
      let rest = nests_allot g fs r (ms ++ (g.subject.name, c) ∷ []) (c + 1) _ (d + 1) ns h.others cs h.behind in
      ap (λ (ys : List Statement). block_allots x (block ys)) h.are ∙ joined_allot h.first h.others one ∙ rest

  fetches_allot : (fs : List FetchText) (rest : List Statement) → block_allots x (block rest) ≡ false → block_allots x (block (with_fetches fs rest)) ≡ true →
      (i : ℕ) × (f : FetchText) × (slice_get fs i ≡ Some f) × (same_name f.function x ≡ true)
  fetches_allot [] rest none e = absurd (cc (none, e))
  fetches_allot (f ∷ fs) rest none e = of (same_name f.function x) refl e (fetches_allot fs rest none)
    where
      of : (b : Bool) → same_name f.function x ≡ b → (b || block_allots x (block (with_fetches fs rest))) ≡ true →
          (block_allots x (block (with_fetches fs rest)) ≡ true → (i : ℕ) × (g : FetchText) × (slice_get fs i ≡ Some g) × (same_name g.function x ≡ true)) →
          (i : ℕ) × (g : FetchText) × (slice_get (f ∷ fs) i ≡ Some g) × (same_name g.function x ≡ true)
      of true t q more = (0, f, refl, t)
      of false t q more = let r = more q in (suc r.0, r.1, r.2, r.3)

-- ---- marks

pub both_ways : (b c : Bool) → (b ≡ true → c ≡ true) → (c ≡ true → b ≡ true) → b ≡ c
both_ways true c f g = sym (f refl)
both_ways false true f g = g refl
both_ways false false f g = refl

module _ (a : Algorithm) (sch : Schedule) (l : Lowered) (well : IsAlgorithm a) (legal : IsLegal a sch) (small : has_large (stored_functions a sch) ≡ false)
    (kept : region_fault a (stored_functions a sch) ≡ None) (all : are_whole (stored_functions a sch) ≡ true) (groups : HasGroups a (stored_functions a sch) l) where
  abbrev gs : List StoredText
  gs = stored_functions a sch

  abbrev ps : List CodeGroup
  ps = l.plan.groups.items

  abbrev entries : List Entry
  entries = roots a sch l well legal small kept all groups

  -- a stored function of this name is this function
  of_stored : (k : ℕ) (f : Function) → slice_get a.functions k ≡ Some f → (n : ℕ) (u : StoredText) → slice_get gs n ≡ Some u → u.subject.name ≡ f.name → (subject_said a sch f).is_stored ≡ true
  of_stored k f at n u there named =
      let w = found a sch (flags (subjects a sch)) u a.functions n there in
      let same_names : w.function.name ≡ f.name = sym (ap (λ (v : StoredText). v.subject.name) w.is) ∙ named in
      let one = at_map (λ (f : Function). f.name) a.functions w.place w.function w.at ∙ ap (λ (x : List ℕ). Some x) same_names in
      let two = at_map (λ (f : Function). f.name) a.functions k f at in
      let next : suc w.place ≡ suc k = well.names (suc w.place) (suc k) f.name one two in
      let place : w.place ≡ k = omega (arith, next) in
      let same : w.function ≡ f = cc (w.at, ap (slice_get a.functions) place, at) in
      ap (λ (h : Function). (subject_said a sch h).is_stored) (sym same) ∙ sym (ap (λ (v : StoredText). v.subject.is_stored) w.is) ∙ marked a sch (flags (subjects a sch)) a.functions n u there

  -- what a group's body allots is a stored function's
  by_body : (k : ℕ) (f : Function) → slice_get a.functions k ≡ Some f → (n : ℕ) (q : CodeGroup) → slice_get ps n ≡ Some q → allots f.name (statement_of q.body) ≡ true →
      (subject_said a sch f).is_stored ≡ true
  by_body k f at n q there h =
      let me = made_at a sch l well legal small kept all groups n q there in
      let o = body_at a entries 0 0 4 gs ps l.certificate.claims.items l.certificate.needs.items (groups.bodies all) n me.stored q me.is there in
      let b = o.body.body in
      let fs = o.body.formulas in
      let m = 0 + n in
      let rest = b.nests ++ Publish _ ∷ [] in
      let none : block_allots f.name (block rest) ≡ false = joined_allot f.name b.nests (Publish _ ∷ [])
      (nests_allot f.name me.stored fs _ _ _ _ 0 o.body.skeleton.nests b.nests b.own b.nested) in
      let told = sym (ap (allots f.name) b.with.is ∙ steps_allot f.name o.body.skeleton.head (block (Alloc 0 me.stored.subject.name _ ∷ with_fetches b.fetches rest))) ∙ h in
      of me.stored me.is (same_name me.stored.subject.name f.name) refl told (λ e.
      let y = fetches_allot f.name b.fetches rest none e in
      let r = fetch_at (sites_of a me.stored fs o.body.skeleton) (grid_scope o.body.skeleton.grid) m 1 _ (fetched_groups fs m 0 entries) b.fetches o.own_needs b.fetched b.fetching y.0 y.1 y.2 in
      let other = other_at fs m 0 entries r.place r.group r.listed in
      let entry = entry_at gs (regions_found a sch l well legal small kept all groups) all (ready a sch l well legal small kept all groups) other.place r.group.1 other.at in
      of_stored k f at other.place r.group.1.0 entry.is (sym r.fetched.named ∙ name_true y.1.function f.name y.3))
    where
      of : (g : StoredText) → slice_get gs n ≡ Some g → (v : Bool) → same_name g.subject.name f.name ≡ v → {others : Bool} → (v || others) ≡ true →
          (others ≡ true → (subject_said a sch f).is_stored ≡ true) →
          (subject_said a sch f).is_stored ≡ true
      of g is true t e more = of_stored k f at n g is (name_true g.subject.name f.name t)
      of g is false t e more = more e

  by_group : (k : ℕ) (f : Function) → slice_get a.functions k ≡ Some f → is_stored f.name (plan_of l.plan) ≡ true → (subject_said a sch f).is_stored ≡ true
  by_group k f at h =
      let x = any_at (group_stores f.name) (plan_of l.plan).groups h in
      let y = from_map group_of ps x.0 x.1 x.2 in
      let told : group_stores f.name (group_of y.0) ≡ true = ap (group_stores f.name) (sym y.2) ∙ x.3 in
      of x.0 y.0 y.1 (same_name (string_bytes y.0.function) f.name) refl told
    where
      of : (n : ℕ) (q : CodeGroup) → slice_get ps n ≡ Some q → (v : Bool) → same_name (string_bytes q.function) f.name ≡ v → (v || allots f.name (statement_of q.body)) ≡ true →
          (subject_said a sch f).is_stored ≡ true
      of n q there true t e =
          let me = made_at a sch l well legal small kept all groups n q there in
          of_stored k f at n me.stored me.is (sym me.named ∙ name_true (string_bytes q.function) f.name t)
      of n q there false t e = by_body k f at n q there e

  has_group : (k : ℕ) (f : Function) → slice_get a.functions k ≡ Some f → (subject_said a sch f).is_stored ≡ true → is_stored f.name (plan_of l.plan) ≡ true
  has_group k f at h =
      let n = stored_is a sch k f at h in
      let p = group_at gs ps (each a sch l well legal small kept all groups) n.0 _ n.1 in
      let test : same_name (string_bytes p.group.function) f.name ≡ true = ap (λ (x : List ℕ). same_name x f.name) p.is.named ∙ name_refl f.name in
      at_any (group_stores f.name) (plan_of l.plan).groups n.0 (group_of p.group) (at_map group_of ps n.0 p.group p.at) (ap (λ (b : Bool). b || allots f.name (statement_of p.group.body)) test)

  pub marks : stored_in a (plan_of l.plan) ≡ flags (subjects a sch)
  marks = of a.functions (λ k f at. both_ways (is_stored f.name (plan_of l.plan)) (subject_said a sch f).is_stored (by_group k f at) (has_group k f at))
    where
      of : (fs : List Function) → ((k : ℕ) (f : Function) → slice_get fs k ≡ Some f → is_stored f.name (plan_of l.plan) ≡ (subject_said a sch f).is_stored) →
          map (λ (f : Function). is_stored f.name (plan_of l.plan)) fs ≡ map (λ (u : SubjectText). u.is_stored) (map (subject_said a sch) fs)
      of [] h = refl
      of (f ∷ fs) h = (λ i. h 0 f refl i ∷ of fs (λ k g e. h (suc k) g e) i)
