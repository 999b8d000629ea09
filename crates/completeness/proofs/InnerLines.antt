-- Loops, lets and guards inside the groups of whatever plan `lower` makes bind no symbol that is in scope, and name those that are, and at most their own besides.
use Rattle.std.proofs.Common.{◌≡◌, ℕ, zero, suc, ◌+◌, ◌-◌, ◌<◌, true, List, [], ◌∷◌, ◌++◌, length, Some, refl, sym, ap, ◌∙◌, subst, inl, inr, ◌⊎◌, arith}
use Rattle.std.specs.Prelude.{slice_get, Contains}
use Rattle.std.specs.List.{AllByRecursion, Any}
use Rattle.lin.specs.Forms.{Form}
use Rattle.lin.specs.declared.span.Span1.{Span1}
use Rattle.bounds.proofs.ListSound.{all-append}
use Rattle.plan.specs.declared.plan.Group.{Group as CodeGroup}
use Rattle.plan.specs.declared.certificate.cert.Claim.{Claim as CodeClaim}
use Rattle.plan.specs.declared.certificate.cert.Need.{Need}
use Rattle.plan.specs.declared.certificate.cert.Window.{Window}
use Rattle.plan.specs.Plan.{Statement, Seq, For, Let, First, Guard, Alloc, Fetch, Store, Publish, Statements, Empty, Then, Group, Plan, block}
use Rattle.plan.specs.View.{group_of, plan_of, statement_of}
use Rattle.plan.specs.Lines.{group_line}
use Rattle.plan.specs.Certificate.Certificate.{Certificate, certificate_of}
use Rattle.meaning.specs.Algorithm.{Algorithm}
use Rattle.meaning.specs.Conditions.{IsAlgorithm}
use Rattle.soundness.specs.Given.{outline_of}
use Rattle.soundness.specs.Outline.Forms.{grid_symbols}
use Rattle.soundness.specs.Outline.Flaws.{line_told}
use Rattle.headline.proofs.Lists.{from_map}
use Rattle.sched.specs.Schedule.{Schedule}
use Rattle.sched.specs.declared.skeleton.Step.{Step}
use Rattle.sched.specs.declared.skeleton.Step.TheVariants.{Turns, Named, Tested}
use Rattle.sched.specs.Runs.{lines_to}
use Rattle.sched.specs.Skeleton.{SkeletonText}
use Rattle.sched.proofs.Arriving.{skeletal}
use Rattle.validation.specs.Wide.{NamesOther, SpanNamesOther}
use Rattle.validation.specs.Groups.Lines.{Here, in_loop, inside, in_later, before, after, is_empty, start}
use Rattle.validation.specs.Groups.Inside.{Inside, InsideOne, StandsIn}
use Rattle.validation.specs.Groups.Wrong.{NamesUnknown}
use Rattle.validation.proofs.Wide.{contains_is, is_contained}
use Rattle.lower.specs.declared.lowering.Lowered.{Lowered}
use Rattle.lower.specs.Stored.{stored_functions}
use Rattle.regions.specs.Regions.{bodies_from, skeleton_of}
use Rattle.blocks.specs.Blocks.{dimensions_of, claimed_region, own_places}
use Rattle.lower.specs.Bodies.{last_claim}
use Rattle.sched.specs.Fetches.{Entry}
use Rattle.blocks.specs.Fetches.{FetchText, with_fetches}
use Rattle.blocks.specs.Renamed.{own_pairs}
use Rattle.sched.specs.Placed.{PlacedText}
use Rattle.lower.specs.Placed.{IsMixedBody, with_fetched}
use Rattle.blocks.specs.Placed.{begun, names_over, group_owner}
use Rattle.lower.specs.Groups.{rooted, HasGroups, IsBodyBy}
use Rattle.lower.proofs.Grids.{head_of}
use Rattle.completeness.specs.Laws.{IsStep}
use Rattle.completeness.specs.Inside.{IsBinding, HasSymbol, NamesItself, NamesItselfAt, BindingLinesAreKnown}
use Rattle.completeness.proofs.Only.{Only, AreOnly, SpanOnly}
use Rattle.completeness.proofs.Standing.{With, StepsOver, Rises, AreLets, OverGrid, names_own, are_weaker}
use Rattle.completeness.proofs.Spots.{Has, has_first, has_last}
use Rattle.completeness.proofs.Scoped.{Keeps, KeepAll, Scope, none_inside, last_or, steps_kept, fetches_kept, nests_kept, grid_begins}
use Rattle.completeness.proofs.KnownLines.{of_kind}
use Rattle.completeness.proofs.Walked.{AreSteps, group_done}
use Rattle.completeness.proofs.WalkedScopes.{HasOr, Binds, BindAll, joined_bind, AreInScope, in_scope_each}
use Rattle.completeness.proofs.InnerLets.{IsNamed}
use Rattle.completeness.proofs.InnerShapes.{IsInner}
use Rattle.completeness.proofs.InnerBodies.{over_region, every_step}
use Rattle.completeness.proofs.InnerStored.{IsGroupAt, group_there, gs}

-- ---- a line that binds what is in scope, or names what is not, names itself

any_other : {A : Type 0} (P R S : A → Type 0) → ((x : A) → P x → R x → S x) → (xs : List A) → AllByRecursion P xs → Any R xs → Any S xs
any_other P R S f [] h (k, y, less, is, r) = absurd (omega (arith, less))
any_other P R S f (x ∷ xs) h (zero, y, less, is, r) = (zero, y, less, is, subst S is (f x h.0 (subst R (sym is) r)))
any_other P R S f (x ∷ xs) h (suc k, y, less, is, r) = (let rest = any_other P R S f xs h.1 (k, y, omega (arith, less), is, r) in
    (suc rest.0, rest.1, (let l = rest.2 in omega (arith, l)), rest.3, rest.4))

module _ (ss : List ℕ) (i : ℕ) where
  itself : (f : Form) → Only (HasOr ss i) f → NamesOther ss f → HasSymbol i f
  itself f h other = any_other (λ t. HasOr ss i t.symbol) (λ t. ¬ Contains ss t.symbol) (λ t. t.symbol ≡ i) (λ t o lacks. of t.symbol o lacks) f.terms h other
    where
      of : (s : ℕ) → HasOr ss i s → ¬ Contains ss s → s ≡ i
      of s (inl k) lacks = absurd (lacks (contains_is ss s k))
      of s (inr e) lacks = sym e

  some_itself : (fs : List Form) → AreOnly (HasOr ss i) fs → Any (NamesOther ss) fs → Any (HasSymbol i) fs
  some_itself fs h other = any_other (Only (HasOr ss i)) (NamesOther ss) (HasSymbol i) (λ f k o. itself f k o) fs h other

  span_itself : (x : Span1) → SpanOnly (HasOr ss i) x → SpanNamesOther ss x → Any (HasSymbol i) x.lower ⊎ Any (HasSymbol i) x.upper
  span_itself x h (inl k) = inl (some_itself x.lower h.0 k)
  span_itself x h (inr k) = inr (some_itself x.upper h.1 k)

none_other : (ss : List ℕ) (f : Form) → Only (Has ss) f → NamesOther ss f → ⊥
none_other ss f h other = nothing f.terms (any_other (λ t. Has ss t.symbol) (λ t. ¬ Contains ss t.symbol) (λ t. ⊥) (λ t k lacks. lacks (contains_is ss t.symbol k)) f.terms h other)
  where
    nothing : {A : Type 0} (xs : List A) → Any (λ x. ⊥) xs → ⊥
    nothing xs (k, y, less, is, r) = r

module _ (a : Algorithm) (p : Plan) (c : Certificate) (n : ℕ) (g : Group) (line : ℕ) where
  abbrev Flawed : Statement → Here → Type 0
  Flawed s here = (line_told here.line ≡ line) × (IsBinding s × NamesUnknown a p c g (outline_of p c n g) s here)

  abbrev Stepwise : Statement → Here → Type 0
  Stepwise s here = (line_told here.line ≡ line) × (IsStep s × NamesUnknown a p c g (outline_of p c n g) s here)

  abbrev Itself : Statement → Here → Type 0
  Itself s here = (line_told here.line ≡ line) × NamesItself s

  mutual
    itself_inside : (s : Statement) (here : Here) → Binds s here.symbols → Inside Flawed s here → Inside Itself s here
    itself_inside (Seq all) here h k = itself_in_all all here h k
    itself_inside (For i x kind body) here h (inl (told, (one, inl bound))) = absurd (h.0.0 (is_contained here.symbols i bound))
    itself_inside (For i x kind body) here h (inl (told, (one, inr other))) = inl (told, span_itself here.symbols i x h.0.1 other)
    itself_inside (For i x kind body) here h (inr k) = inr (itself_inside body (in_loop i here) h.1 k)
    itself_inside (Let i pick fs) here h (told, (one, inl bound)) = absurd (h.0 (is_contained here.symbols i bound))
    itself_inside (Let i pick fs) here h (told, (one, inr other)) = (told, some_itself here.symbols i fs h.1 other)
    itself_inside (First i b d) here h (inl k) = absurd k.1.0
    itself_inside (First i b d) here h (inr (inl k)) = inr (inl (itself_inside b (inside here) h.0 k))
    itself_inside (First i b d) here h (inr (inr k)) = inr (inr (itself_inside d (in_later b here) h.1 k))
    itself_inside (Guard low high body) here h (inl (told, (one, inl other))) = absurd (none_other here.symbols low h.0.0 other)
    itself_inside (Guard low high body) here h (inl (told, (one, inr other))) = absurd (none_other here.symbols high h.0.1 other)
    itself_inside (Guard low high body) here h (inr k) = inr (itself_inside body (inside here) h.1 k)
    itself_inside (Alloc b f places) here h k = absurd k.1.0
    itself_inside (Fetch b u region) here h k = absurd k.1.0
    itself_inside (Store b q at e) here h k = absurd k.1.0
    itself_inside (Publish q) here h k = absurd k.1.0

    itself_in_all : (all : Statements) (here : Here) → BindAll all here.symbols → InsideOne Flawed all here → InsideOne Itself all here
    itself_in_all Empty here h k = k
    itself_in_all (Then s rest) here h (inl k) = inl (itself_inside s (before (is_empty rest) here) h.0 k)
    itself_in_all (Then s rest) here h (inr k) = inr (itself_in_all rest (after s here) h.1 k)

  stepwise : (s : Statement) (here : Here) → Flawed s here → (k : ℕ) × Stepwise s here
  stepwise (For i x kind body) here h = (0, h)
  stepwise (Let i pick fs) here h = (0, h)
  stepwise (Guard low high body) here h = (0, h)
  stepwise (Seq all) here h = absurd h.1.0
  stepwise (First i b d) here h = absurd h.1.0
  stepwise (Alloc b f places) here h = absurd h.1.0
  stepwise (Fetch b u region) here h = absurd h.1.0
  stepwise (Store b q at e) here h = absurd h.1.0
  stepwise (Publish q) here h = absurd h.1.0

-- ---- lets over the grid

-- these are in scope: those of this kind, and all symbols before this one, which are the only ones
record IsHead (P : ℕ → Type 0) (n : ℕ) (ss : List ℕ) : Type 0 where
  has : (s : ℕ) → P s → Has ss s
  all : (s : ℕ) → s < n → Has ss s
  below : (s : ℕ) → Has ss s → s < n

head_binds : (P : ℕ → Type 0) (n m : ℕ) (ts : List Step) → AreLets ts → Rises n ts m → StepsOver P ts → (inner : Statements) (ss : List ℕ) → IsHead P n ss →
    ((us : List ℕ) → ((s : ℕ) → s < n + length ts → Has us s) → ((s : ℕ) → Has us s → s < n + length ts) → BindAll inner us) → BindAll (lines_to ts inner) ss
head_binds P n m [] lets up over inner ss h k = k ss (λ s less. h.all s (omega (arith, less))) (λ s g. let less = h.below s g in omega (arith, less))
head_binds P n m (Turns i x kind ∷ ts) lets up over inner ss h k = absurd lets
head_binds P n m (Tested low high ∷ ts) lets up over inner ss h k = absurd lets
head_binds P n m (Named i pick fs ∷ ts) lets up over inner ss h k =
    let is : i ≡ n = up.0 in
    let fresh : Has ss i → ⊥ = λ g. let less = h.below i g in omega (arith, less, is) in
    let next : IsHead (With P i) (n + 1) (ss ++ i ∷ []) = record {
      has = λ s w. had s w;
      all = λ s less. every s less is;
      below = λ s g. under s is (last_or ss i s g);
    } in (
      (fresh, are_weaker P (HasOr ss i) (λ s w. inl (h.has s w)) fs over.0),
      head_binds (With P i) (n + 1) m ts lets up.1 over.1 inner (ss ++ i ∷ []) next
          (λ us all below. k us (λ s less. all s (omega (arith, less))) (λ s g. let less = below s g in omega (arith, less))),
    )
  where
    had : (s : ℕ) → With P i s → Has (ss ++ i ∷ []) s
    had s (inl w) = has_first ss (i ∷ []) s (h.has s w)
    had s (inr e) = subst (λ (u : ℕ). Has (ss ++ i ∷ []) u) e (has_last ss i)

    every : (s : ℕ) → s < n + 1 → i ≡ n → Has (ss ++ i ∷ []) s
    every s less is = of (below_or s n less)
      where
        below_or : (s n : ℕ) → s < n + 1 → (s < n) ⊎ (s ≡ n)
        below_or s zero less = inr (omega (arith, less))
        below_or zero (suc n) less = inl (omega arith)
        below_or (suc s) (suc n) less = elim (below_or s n (omega (arith, less))) [ inl k ↦ inl (omega (arith, k)) | inr e ↦ inr (omega (arith, e)) ]

        of : (s < n) ⊎ (s ≡ n) → Has (ss ++ i ∷ []) s
        of (inl less) = has_first ss (i ∷ []) s (h.all s less)
        of (inr e) = subst (λ (u : ℕ). Has (ss ++ i ∷ []) u) (is ∙ sym e) (has_last ss i)

    under : (s : ℕ) → i ≡ n → Has ss s ⊎ (i ≡ s) → s < n + 1
    under s is (inl g) = (let less = h.below s g in omega (arith, less))
    under s is (inr e) = omega (arith, e, is)

own_named : (n : ℕ) (us : List ℕ) → ((s : ℕ) → s < n → Has us s) → AllByRecursion (λ x. Has us x.1) (own_pairs n)
own_named zero us h = tt
own_named (suc n) us h = all-append (λ x. Has us x.1) (own_pairs n) ((n, n) ∷ []) (own_named n us (λ s less. h s (omega (arith, less)))) (h n (omega arith), tt)

fetches_bind : (fs : List FetchText) (rest : List Statement) (ss : List ℕ) → BindAll (block rest) ss → BindAll (block (with_fetches fs rest)) ss
fetches_bind [] rest ss h = h
fetches_bind (f ∷ fs) rest ss h = (tt, (tt, fetches_bind fs rest ss h))

module _ (a : Algorithm) (sch : Schedule) (l : Lowered) (well : IsAlgorithm a) (groups : HasGroups a (stored_functions a sch) l) where
  abbrev p : Plan
  p = plan_of l.plan

  abbrev c : Certificate
  c = certificate_of l.certificate

  abbrev entries_of : List Entry
  entries_of = rooted true (gs a sch l well groups) groups.placed.regions

  module _ (h : ℕ) (q : CodeGroup) (g : IsGroupAt a sch l well groups h q) where
    abbrev e : Entry
    e = g.body.entry

    abbrev k : SkeletonText
    k = e.1.skeleton

    laid : skeleton_of e.0 e.2 e.1.region ≡ Some k
    laid = over_region true (gs a sch l well groups) groups.placed.regions h e groups.placed.around g.body.at

    own_grid : q.grid.items ≡ k.grid
    own_grid = g.over.grid ∙ sym (head_of e.0.subject.variables (bodies_from e.0.changes 0 e.0.subject.reductions e.2) e.0.placed e.1.region k laid).grid

    -- where none is computed inside
    whole_kept : (n first line next : ℕ) (claims : List CodeClaim) (needs : List Need) (windows : List Window) → IsBodyBy a entries_of n first line next [] e q claims needs windows →
        Keeps (statement_of q.body) (grid_symbols (length q.grid.items))
    whole_kept n first line next claims needs windows h =
        let b = h.0 in
        let bodies = bodies_from e.0.changes 0 e.0.subject.reductions e.2 in
        let order = skeletal e.0.subject.variables bodies e.0.placed e.1.region k laid in
        let names = names_own e.0.subject.variables bodies e.0.placed e.1.region k laid in
        let claim = last_claim first b.fetches k in
        let code = block (Alloc 0 e.0.subject.name (own_places (dimensions_of e.0 e.1.region k)) ∷ with_fetches b.fetches (b.nests ++ Publish claim ∷ [])) in
        let inner : (us : List ℕ) → Scope (OverGrid k) names.next us → KeepAll code us =
        λ us u. (
          tt,
          fetches_kept b.fetches (b.nests ++ Publish claim ∷ []) us
              (nests_kept e.0 e.2 k (OverGrid k) order.next order.nests names.steps_over _ claim _ _ _ 0 names.next k.nests b.nests b.own b.nested names.nests_rise
              (λ j w e. let none : 0 + j ≡ j = omega arith in ap (slice_get k.nests) none ∙ e) us u),
        ) in
        let kept_here : KeepAll (lines_to k.head code) (grid_symbols (length k.grid)) = steps_kept (λ s. s < length k.grid) (length k.grid) names.next (length k.grid) order.next k.head
        names.rises order.head names.over code (grid_symbols (length k.grid)) (grid_begins (length k.grid)) inner in
        subst (λ (s : Statement). Keeps s (grid_symbols (length q.grid.items))) (sym b.with.is)
        (subst (λ (counts : List ℕ). KeepAll (lines_to k.head code) (grid_symbols (length counts))) (sym own_grid) kept_here)

    -- where some are
    mixed_bind : (inners : List PlacedText) → ((j : ℕ) (i : PlacedText) → slice_get inners j ≡ Some i → IsInner (gs a sch l well groups) i) → (n first line next : ℕ) (claims : List CodeClaim)
        (needs : List Need) (windows : List Window) → IsMixedBody entries_of n first line next inners e claims needs windows (statement_of q.body) →
        Binds (statement_of q.body) (grid_symbols (length q.grid.items))
    mixed_bind inners known n first line next claims needs windows b =
        let bodies = bodies_from e.0.changes 0 e.0.subject.reductions e.2 in
        let names = names_own e.0.subject.variables bodies e.0.placed e.1.region k laid in
        let s0 = with_fetched b.fetches b.lines_of b.fetched (begun first line k) in
        let claim = b.done.claim - 1 in
        let steps : (j : ℕ) (i : PlacedText) → slice_get inners j ≡ Some i → AreSteps (λ f s. Unit {0}) IsNamed i =
        λ j i at. record { lets = (known j i at).lets; nests = λ d w at. every_step [] w.steps; later = λ l e d w at. every_step [] w.steps } in
        let nests : AreInScope (names_over k) s0 b.nests b.done = group_done inners (λ f s. Unit {0}) IsNamed (λ o ns. Unit {0}) (λ f. AreInScope) (in_scope_each inners) steps (length inners)
        (group_owner e (claimed_region (dimensions_of e.0 e.1.region k))) k.nests tt (λ d w at. every_step [] w.steps) (names_over k) s0 b.done b.nests b.made in
        let code = block (Alloc 0 e.0.subject.name (own_places (dimensions_of e.0 e.1.region k)) ∷ with_fetches b.fetches (b.nests ++ Publish claim ∷ [])) in
        let inner : (us : List ℕ) → ((s : ℕ) → s < length k.grid + length k.head → Has us s) → ((s : ℕ) → Has us s → s < length k.grid + length k.head) → BindAll code us =
        λ us all below. (
          tt,
          fetches_bind b.fetches (b.nests ++ Publish claim ∷ []) us
              (joined_bind b.nests (Publish claim ∷ []) us (nests.bound us (record { names = own_named (length k.grid + length k.head) us all; below = below })).lines (tt, tt)),
        ) in
        let grid = grid_begins (length k.grid) in
        let bound_here : BindAll (lines_to k.head code) (grid_symbols (length k.grid)) = head_binds (λ s. s < length k.grid) (length k.grid) names.next k.head names.lets names.rises names.over code
        (grid_symbols (length k.grid)) (record { has = grid.has; all = grid.has; below = grid.below }) inner in
        subst (λ (s : Statement). Binds s (grid_symbols (length q.grid.items))) (sym b.with.is)
        (subst (λ (counts : List ℕ). BindAll (lines_to k.head code) (grid_symbols (length counts))) (sym own_grid) bound_here)

  none_at : (line : ℕ) → ¬ NamesItselfAt p line → StandsIn p (λ n g s here. IsBinding s × NamesUnknown a p c g (outline_of p c n g) s here) line → ⊥
  none_at line fine h =
      let x = from_map group_of l.plan.groups.items h.number h.group h.there in
      let q = x.0 in
      let g = group_there a sch l well groups h.number q x.1 in
      let first : Group → Here = λ u. start (line_told (group_line p h.number)) u in
      let stands = subst (λ (u : Group). Inside (λ s here. (line_told here.line ≡ line) × (IsBinding s × NamesUnknown a p c u (outline_of p c h.number u) s here)) u.body (first u)) x.2 h.stands in
      of h.number q (h.there ∙ ap (λ (u : Group). Some u) x.2) g g.body.inners g.body.body g.inside (first (group_of q)) refl stands
    where
      of : (n : ℕ) (q : CodeGroup) → slice_get p.groups n ≡ Some (group_of q) → (g : IsGroupAt a sch l well groups n q) → (inners : List PlacedText) →
          IsBodyBy a entries_of (0 + n) g.body.first g.body.line g.body.next inners g.body.entry q g.body.claims g.body.needs g.body.windows →
          ((j : ℕ) (i : PlacedText) → slice_get inners j ≡ Some i → IsInner (gs a sch l well groups) i) → (here : Here) → here ≡ start (line_told (group_line p n)) (group_of q) →
          Inside (Flawed a p c n (group_of q) line) (statement_of q.body) here → ⊥
      of n q there g [] b inside here is stands =
          let kept = whole_kept n q g (0 + n) g.body.first g.body.line g.body.next g.body.claims g.body.needs g.body.windows b in
          let step = of_kind (Flawed a p c n (group_of q) line) (λ k. Stepwise a p c n (group_of q) line) (stepwise a p c n (group_of q) line) (statement_of q.body) here stands in
          none_inside a p c n (group_of q) line (statement_of q.body) here (subst (λ (u : Here). Keeps (statement_of q.body) u.symbols) (sym is) kept) step.1
      of n q there g (i ∷ is) b inside here e stands =
          let binds = mixed_bind n q g (i ∷ is) inside (0 + n) g.body.first g.body.line g.body.next g.body.claims g.body.needs g.body.windows b in
          let itself = itself_inside a p c n (group_of q) line (statement_of q.body) here (subst (λ (u : Here). Binds (statement_of q.body) u.symbols) (sym e) binds) stands in
          fine (record { number = n; group = group_of q; there = there; stands = subst (Inside (Itself a p c n (group_of q) line) (statement_of q.body)) e itself })

pub known : BindingLinesAreKnown
known a s l well legal groups line fine h = none_at a s l well groups line fine h
