-- What the lines `publish` of whole functions name is known: the claim of the last definition, which stands in the group.
use Rattle.std.proofs.Common.{◌≡◌, ℕ, zero, suc, ◌+◌, ◌-◌, ◌<◌, List, [], ◌∷◌, ◌++◌, length, Option, Some, None, refl, sym, ap, ◌∙◌, subst, inl, inr, ◌⊎◌, arith}
use Rattle.std.specs.Prelude.{true, false, string_bytes, slice_get, MatchOption}
use Rattle.plan.specs.declared.plan.Group.{Group as CodeGroup}
use Rattle.plan.specs.declared.certificate.cert.Claim.{Claim as CodeClaim}
use Rattle.plan.specs.declared.certificate.cert.Need.{Need}
use Rattle.plan.specs.Plan.{Statement, Seq, For, Let, First, Guard, Alloc, Fetch, Store, Publish, Statements, Plan, block}
use Rattle.plan.specs.View.{group_of, plan_of, statement_of}
use Rattle.plan.specs.Certificate.Certificate.{Claim, Certificate, certificate_of, claim_of}
use Rattle.meaning.specs.Algorithm.{Algorithm}
use Rattle.meaning.specs.Conditions.{IsAlgorithm}
use Rattle.soundness.specs.Outline.Forms.{grid_symbols}
use Rattle.headline.proofs.Lists.{at_map}
use Rattle.headline.proofs.Regions.{at_in}
use Rattle.sched.specs.Schedule.{Schedule}
use Rattle.sched.specs.Legal.{IsLegal}
use Rattle.sched.specs.Runs.{lines_to}
use Rattle.sched.specs.Skeleton.{NestText, SkeletonText}
use Rattle.validation.specs.declared.stored.lines.GroupLines.{GroupLines}
use Rattle.validation.specs.Groups.Wrong.{IsOutside}
use Rattle.lower.specs.declared.lowering.Lowered.{Lowered}
use Rattle.sched.specs.Stored.{FormulaText, StoredText}
use Rattle.lower.specs.Stored.{stored_functions, has_large}
use Rattle.regions.specs.Regions.{bodies_from}
use Rattle.regions.specs.Faults.{are_whole}
use Rattle.lower.specs.Faults.{region_fault}
use Rattle.sched.specs.Around.{grid_scope}
use Rattle.regions.specs.Taken.{sites_of}
use Rattle.sched.specs.Loading.{Loads}
use Rattle.blocks.specs.Blocks.{dimensions_of, own_places}
use Rattle.blocks.specs.Bodies.{first_lines}
use Rattle.lower.specs.Bodies.{last_claim}
use Rattle.sched.specs.Fetches.{Entry}
use Rattle.lower.specs.Fetches.{fetched_groups, loads_from}
use Rattle.blocks.specs.Fetches.{with_fetches}
use Rattle.lower.specs.Groups.{HasBody, HasGroups}
use Rattle.completeness.specs.Laws.{IsPublish, AreLinesTold, PublishLinesAreKnown}
use Rattle.completeness.proofs.Standing.{nests_long}
use Rattle.completeness.proofs.Served.{made_at}
use Rattle.completeness.proofs.Spots.{Has, has_last}
use Rattle.completeness.proofs.ClaimLines.{claim_nest, known_stored}
use Rattle.completeness.proofs.Counts.{fetches_claim, nests_claim, bodies_many}
use Rattle.completeness.proofs.Unlike.{get_second, placed_body}
use Rattle.completeness.proofs.Scoped.{own_grid}
use Rattle.completeness.proofs.Leaves.{IsLeaf, FitAll, StoreFits, Fits, steps_fit, fetches_fit, nests_fit, Wrong, none_at}
use Rattle.completeness.proofs.Held.{items, entries, group, IsHeld, held}

some_there : {A : Type 0} (xs : List A) (j : ℕ) → j < length xs → (x : A) × (slice_get xs j ≡ Some x)
some_there [] j less = absurd (omega (arith, less))
some_there (x ∷ xs) zero less = (x, refl)
some_there (x ∷ xs) (suc j) less = some_there xs j (omega (arith, less))

only : (s : Statement) → IsPublish s → IsLeaf s
only (Publish k) h = tt
only (Seq all) h = absurd h
only (For i x kind body) h = absurd h
only (Let i pick forms) h = absurd h
only (First i x y) h = absurd h
only (Guard low high body) h = absurd h
only (Alloc b f places) h = absurd h
only (Fetch b g region) h = absurd h
only (Store b k at e) h = absurd h

module _ (a : Algorithm) (sch : Schedule) (l : Lowered) (well : IsAlgorithm a) (legal : IsLegal a sch) (small : has_large (stored_functions a sch) ≡ false)
    (kept : region_fault a (stored_functions a sch) ≡ None) (all : are_whole (stored_functions a sch) ≡ true) (groups : HasGroups a (stored_functions a sch) l)
    (told : AreLinesTold (plan_of l.plan)) where
  abbrev ours : List CodeClaim
  ours = items a sch l well legal small kept all groups told

  abbrev roots : List Entry
  roots = entries a sch l well legal small kept all groups told

  abbrev lines_of : ℕ → CodeGroup → GroupLines
  lines_of n q = group a sch l well legal small kept all groups told n q

  abbrev Holding : GroupLines → List ℕ → ℕ → Type 0
  Holding = IsHeld a sch l well legal small kept all groups told

  abbrev p : Plan
  p = plan_of l.plan

  abbrev c : Certificate
  c = certificate_of l.certificate

  module _ (n first line : ℕ) (g : StoredText) (q : CodeGroup) (claims : List CodeClaim) (needs : List Need) (at : slice_get (stored_functions a sch) n ≡ Some g)
      (there : slice_get l.plan.groups.items n ≡ Some q) (h : HasBody a roots n first line g q claims needs)
      (hold : (j : ℕ) (w : CodeClaim) → slice_get claims j ≡ Some w → Holding (lines_of n q) (string_bytes w.function) (first + j)) where
    abbrev k : SkeletonText
    k = h.skeleton

    abbrev fs : List FormulaText
    fs = h.formulas

    abbrev F : Statement → List ℕ → List ℕ → Type 0
    F = Wrong a p c IsPublish only n (group_of q) (lines_of n q)

    -- the claim by which the group publishes is its last
    last_held : Holding (lines_of n q) g.subject.name (last_claim first h.body.fetches k)
    last_held =
        let b = h.body in
        let nests = nests_claim g fs _ _ _ _ 0 k.nests b.nests b.own b.nested in
        let many = nests_long g.subject.variables (bodies_from g.changes 0 g.subject.reductions fs) g.placed h.extents k h.laid in
        let bodies = bodies_many g.changes 0 g.subject.reductions fs in
        let known = known_stored a sch well n g at in
        let formulas = known.formulas fs h.defined in
        let last = some_there b.own (length b.own - 1) (omega (arith, nests, many, bodies, formulas)) in
        let own = claim_nest g fs _ _ _ _ 0 k.nests b.nests b.own b.nested last.0 (at_in b.own (length b.own - 1) last.0 last.1) in
        let place : slice_get claims (length b.fetched + (length b.own - 1)) ≡ Some last.0 =
        ap (λ (ws : List CodeClaim). slice_get ws (length b.fetched + (length b.own - 1))) b.claimed ∙ get_second a roots ours b.fetched b.own (length b.own - 1) ∙ last.1 in
        let one = hold (length b.fetched + (length b.own - 1)) last.0 place in
        let long = fetches_claim (sites_of a g fs k) (grid_scope k.grid) n 1 (line + first_lines k) (fetched_groups fs n 0 roots) b.fetches needs b.fetched b.fetching in
        let count : first + (length b.fetched + (length b.own - 1)) ≡ last_claim first b.fetches k = omega (arith, nests, many, bodies, formulas, long) in
        subst (λ (x : List ℕ). Holding (lines_of n q) x (last_claim first b.fetches k)) own.named
        (subst (Holding (lines_of n q) (string_bytes last.0.function)) count one)

    publishes : string_bytes q.function ≡ g.subject.name → (us vs : List ℕ) → F (Publish (last_claim first h.body.fetches k)) us vs → ⊥
    publishes named us vs wrong =
        let w = last_held in
        let claim : slice_get c.claims (last_claim first h.body.fetches k) ≡ Some (claim_of w.claim) = at_map claim_of ours (last_claim first h.body.fetches k) w.claim w.at in
        of w.claim (w.named ∙ sym named) w.inside
        (subst (λ (o : Option Claim). MatchOption o (Unit {0}) (λ x. IsOutside (lines_of n q) x.line ⊎ ¬ (x.function ≡ (group_of q).function))) claim wrong.1)
      where
        of : (w : CodeClaim) → string_bytes w.function ≡ string_bytes q.function → (IsOutside (lines_of n q) w.line → ⊥) →
            IsOutside (lines_of n q) w.line ⊎ ¬ (string_bytes w.function ≡ string_bytes q.function) → ⊥
        of w same inside (inl out) = inside out
        of w same inside (inr differs) = differs same

    store_fits : (ms : Loads) (d : ℕ) (w : NestText) → StoreFits F g fs (λ s. ⊥) ms d w
    store_fits ms d w (Store b m cs e) is us vs has own = (λ wrong. wrong.0, tt)
    store_fits ms d w (Seq xs) is us vs has own = absurd is
    store_fits ms d w (For j x kind body) is us vs has own = absurd is
    store_fits ms d w (Let j pick forms) is us vs has own = absurd is
    store_fits ms d w (First j x y) is us vs has own = absurd is
    store_fits ms d w (Guard low high body) is us vs has own = absurd is
    store_fits ms d w (Alloc b x places) is us vs has own = absurd is
    store_fits ms d w (Fetch b x region) is us vs has own = absurd is
    store_fits ms d w (Publish x) is us vs has own = absurd is

    body_fits : string_bytes q.function ≡ g.subject.name → Fits F (statement_of q.body) (grid_symbols (length q.grid.items)) []
    body_fits named =
        let b = h.body in
        let claim = last_claim first b.fetches k in
        let rest = b.nests ++ Publish claim ∷ [] in
        let inner : List Statement = Alloc 0 g.subject.name (own_places (dimensions_of g h.extents k)) ∷ with_fetches b.fetches rest in
        let code : Statements = lines_to k.head (block inner) in
        let nests_there : (j : ℕ) (w : NestText) → slice_get k.nests j ≡ Some w → slice_get k.nests (0 + j) ≡ Some w = λ j w e. let none : 0 + j ≡ j = omega arith in ap (slice_get k.nests) none ∙ e in
        let own_there : (j : ℕ) (w : CodeClaim) → slice_get b.own j ≡ Some w → slice_get b.own (0 + j) ≡ Some w = λ j w e. let none : 0 + j ≡ j = omega arith in ap (slice_get b.own) none ∙ e in
        let nests : (us vs : List ℕ) → Has vs 0 → FitAll F (block rest) us vs =
        λ us vs held. nests_fit F g fs _ (λ s. ⊥) k.nests b.own (first + length b.fetches) (λ d ms. Unit {0}) (λ d m v ms e stands ready. tt) (λ ms d w ready stands. store_fits ms d w) claim
        (publishes named) (loads_from first b.fetches) (first + length b.fetches) _ 0 k.nests b.nests b.own b.nested (omega arith) tt nests_there own_there us vs (λ s no. absurd no) held in
        let fits : FitAll F code (grid_symbols (length k.grid)) [] = steps_fit F (λ s. ⊥) k.head (block inner) []
        (λ us has. (tt, fetches_fit F b.fetches rest us (0 ∷ []) (has_last [] 0) (λ vs held. nests us vs held))) (grid_symbols (length k.grid)) (λ s no. absurd no) in
        subst (λ (s : Statement). Fits F s (grid_symbols (length q.grid.items)) []) (sym b.with.is)
        (subst (λ (counts : List ℕ). FitAll F code (grid_symbols (length counts)) [])
        (sym (own_grid a sch l well legal small kept all groups n first line g q claims needs at there h)) fits)

  clear : (n : ℕ) (q : CodeGroup) → slice_get l.plan.groups.items n ≡ Some q →
      Fits (Wrong a p c IsPublish only n (group_of q) (lines_of n q)) (statement_of q.body) (grid_symbols (length q.grid.items)) []
  clear n q there =
      let me = made_at a sch l well legal small kept all groups n q there in
      let b = placed_body a roots ours 0 0 4 (stored_functions a sch) l.plan.groups.items ours l.certificate.needs.items (groups.bodies all)
      (λ j v e. let none : 0 + j ≡ j = omega arith in ap (slice_get ours) none ∙ e) n me.stored q me.is there in
      let counted : 0 + n ≡ n = omega arith in
      let body = subst (λ (i : ℕ). HasBody a roots i b.first_claim b.line me.stored q b.claims b.needs) counted b.body in
      body_fits n b.first_claim b.line me.stored q b.claims b.needs me.is there body
      (held a sch l well legal small kept all groups told n b.first_claim b.line me.stored q b.claims b.needs me.is there body b.numbered b.lined) me.named

pub known : PublishLinesAreKnown
known a s l well legal small regions groups all told line h =
    none_at a (plan_of l.plan) (certificate_of l.certificate) IsPublish only l.plan.groups.items refl (clear a s l well legal small (regions all).0 all groups told) line h
