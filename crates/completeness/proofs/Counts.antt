-- How many claims the groups of whole functions have.
use Rattle.std.proofs.Common.{◌≡◌, ℕ, suc, ◌+◌, ◌*◌, ◌<◌, ◌≤◌, Bool, true, false, List, [], ◌∷◌, ◌++◌, length, map, Option, Some, None, refl, sym, ap, ◌∙◌, arith}
use Rattle.std.specs.Prelude.{drop, if◌then◌else◌, slice_get}
use Rattle.std.proofs.lemmas.List.{length-append}
use Rattle.lin.specs.declared.span.Span1.{Span1}
use Rattle.lin.specs.declared.scope.Binding.{Binding}
use Rattle.plan.specs.declared.plan.Group.{Group as CodeGroup}
use Rattle.plan.specs.declared.certificate.cert.Claim.{Claim as CodeClaim}
use Rattle.plan.specs.declared.certificate.cert.Need.{Need}
use Rattle.plan.specs.Plan.{Statement, block}
use Rattle.plan.specs.Lines.{block_lines}
use Rattle.meaning.specs.Algorithm.{Change, Function, Algorithm}
use Rattle.meaning.specs.Conditions.{IsAlgorithm}
use Rattle.sched.specs.Schedule.{Schedule}
use Rattle.sched.specs.Legal.{IsLegal, said, loops_after}
use Rattle.sched.specs.Subjects.{subject_said}
use Rattle.sched.specs.Skeleton.{NestText}
use Rattle.lower.specs.declared.lowering.Lowered.{Lowered}
use Rattle.sched.specs.Stored.{FormulaText, StoredText}
use Rattle.blocks.specs.Stored.{stored_by, stored_among, flags}
use Rattle.lower.specs.Stored.{stored_functions, has_large}
use Rattle.sched.specs.Regions.{LaidText}
use Rattle.regions.specs.Regions.{bodies_from, laid_functions}
use Rattle.regions.specs.Faults.{are_whole}
use Rattle.lower.specs.Faults.{region_fault}
use Rattle.sched.specs.Loading.{Loads}
use Rattle.sched.specs.Around.{grid_scope}
use Rattle.regions.specs.Taken.{sites_of}
use Rattle.blocks.specs.Bodies.{AreNests, first_lines}
use Rattle.sched.specs.Fetches.{Entry}
use Rattle.blocks.specs.Fetches.{FetchText}
use Rattle.lower.specs.Fetches.{Calls, AreFetched, is_fetched, fetched_groups}
use Rattle.lower.specs.Groups.{HasBody, line_behind, HaveBodies, HasGroups, rooted, is_same, rooted_if}
use Rattle.completeness.proofs.Standing.{nests_long}
use Rattle.completeness.proofs.Laid.{subjects, found}
use Rattle.completeness.proofs.ClaimLines.{formulas_long}
use Rattle.completeness.proofs.Served.{roots}

fetched_few : (us : List FormulaText) (n h : ℕ) (es : List Entry) → length (fetched_groups us n h es) ≤ length es
fetched_few us n h [] = omega arith
fetched_few us n h (e ∷ es) = of (is_fetched us n h e) (fetched_few us n (h + 1) es)
  where
    of : (b : Bool) → length (fetched_groups us n (h + 1) es) ≤ length es → length (if b then (h, e) ∷ fetched_groups us n (h + 1) es else fetched_groups us n (h + 1) es) ≤ suc (length es)
    of true k = omega (arith, k)
    of false k = omega (arith, k)

pub fetched_many : (calls : Calls) (grid : List Binding) (n b line : ℕ) (xs : List (ℕ × Entry)) (fs : List FetchText) (ws : List Need) (cs : List CodeClaim) → AreFetched calls grid n b line
    xs fs ws cs →
    length cs ≡ length xs
fetched_many calls grid n b line [] [] [] [] h = refl
fetched_many calls grid n b line [] [] [] (c ∷ cs) h = absurd h
fetched_many calls grid n b line [] [] (w ∷ ws) cs h = absurd h
fetched_many calls grid n b line [] (f ∷ fs) ws cs h = absurd h
fetched_many calls grid n b line (x ∷ xs) [] ws cs h = absurd h
fetched_many calls grid n b line (x ∷ xs) (f ∷ fs) [] cs h = absurd h
fetched_many calls grid n b line (x ∷ xs) (f ∷ fs) (w ∷ ws) [] h = absurd h
fetched_many calls grid n b line (x ∷ xs) (f ∷ fs) (w ∷ ws) (c ∷ cs) h = ap suc (fetched_many calls grid n (b + 1) (line + 2) xs fs ws cs h.2)

pub fetches_claim : (calls : Calls) (grid : List Binding) (n b line : ℕ) (xs : List (ℕ × Entry)) (fs : List FetchText) (ws : List Need) (cs : List CodeClaim) →
    AreFetched calls grid n b line xs fs ws cs → length cs ≡ length fs
fetches_claim calls grid n b line [] [] [] [] h = refl
fetches_claim calls grid n b line [] [] [] (c ∷ cs) h = absurd h
fetches_claim calls grid n b line [] [] (w ∷ ws) cs h = absurd h
fetches_claim calls grid n b line [] (f ∷ fs) ws cs h = absurd h
fetches_claim calls grid n b line (x ∷ xs) [] ws cs h = absurd h
fetches_claim calls grid n b line (x ∷ xs) (f ∷ fs) [] cs h = absurd h
fetches_claim calls grid n b line (x ∷ xs) (f ∷ fs) (w ∷ ws) [] h = absurd h
fetches_claim calls grid n b line (x ∷ xs) (f ∷ fs) (w ∷ ws) (c ∷ cs) h = ap suc (fetches_claim calls grid n (b + 1) (line + 2) xs fs ws cs h.2)

pub nests_claim : (g : StoredText) (fs : List FormulaText) (r : List Span1) (ms : Loads) (c line d : ℕ) (ns : List NestText) (xs : List Statement) (cs : List CodeClaim) →
    AreNests g fs r ms c line d ns xs cs → length cs ≡ length ns
nests_claim g fs r ms c line d [] xs cs h = ap length h.1
nests_claim g fs r ms c line d (n ∷ ns) xs [] h = absurd h
nests_claim g fs r ms c line d (n ∷ ns) xs (w ∷ cs) h =
    ap suc (nests_claim g fs r (ms ++ (g.subject.name, c) ∷ []) (c + 1) (line + block_lines (block h.first)) (d + 1) ns h.others cs h.behind)

pub bodies_many : (us : List Change) (d : ℕ) (xs : List (List ℕ)) (fs : List FormulaText) → length (bodies_from us d xs fs) ≡ length fs
bodies_many us d xs [] = refl
bodies_many us d xs (f ∷ fs) = ap suc (bodies_many us (d + 1) (drop (length _) xs) fs)

-- each definition of these has at most four updates
abbrev pub AreFew : List StoredText → Type 0
AreFew gs = (i : ℕ) (g : StoredText) → slice_get gs i ≡ Some g → (fs : List FormulaText) → g.formulas ≡ Some fs → length fs ≤ 5

module _ (a : Algorithm) (all : List Entry) (few : length all ≤ 64) where
  -- a buffer of each other function at most
  pub fetches_few : (n c line : ℕ) (g : StoredText) (p : CodeGroup) (claims : List CodeClaim) (needs : List Need) (h : HasBody a all n c line g p claims needs) → length h.body.fetches ≤ 64
  fetches_few n c line g p claims needs h =
      let b = h.body in
      let fs = h.formulas in
      let k = h.skeleton in
      let one = fetched_many (sites_of a g fs k) (grid_scope k.grid) n 1 (line + first_lines k) (fetched_groups fs n 0 all) b.fetches needs b.fetched b.fetching in
      let two = fetches_claim (sites_of a g fs k) (grid_scope k.grid) n 1 (line + first_lines k) (fetched_groups fs n 0 all) b.fetches needs b.fetched b.fetching in
      let most = fetched_few fs n 0 all in
      omega (arith, one, two, most)

  body_few : (n c line : ℕ) (g : StoredText) (p : CodeGroup) (claims : List CodeClaim) (needs : List Need) → HasBody a all n c line g p claims needs →
      ((fs : List FormulaText) → g.formulas ≡ Some fs → length fs ≤ 5) → length claims ≤ 69
  body_few n c line g p claims needs h small =
      let b = h.body in
      let fs = h.formulas in
      let k = h.skeleton in
      let both = ap length b.claimed in
      let parts = length-append b.fetched b.own in
      let one = fetched_many (sites_of a g fs k) (grid_scope k.grid) n 1 (line + first_lines k) (fetched_groups fs n 0 all) b.fetches needs b.fetched b.fetching in
      let most = fetched_few fs n 0 all in
      let two = nests_claim g fs _ _ _ _ 0 k.nests b.nests b.own b.nested in
      let nests = nests_long g.subject.variables (bodies_from g.changes 0 g.subject.reductions fs) g.placed h.extents k h.laid in
      let bodies = bodies_many g.changes 0 g.subject.reductions fs in
      let five = small fs h.defined in
      omega (arith, both, parts, one, most, few, two, nests, bodies, five)

  bodies_few : (n c line : ℕ) (gs : List StoredText) (ps : List CodeGroup) (claims : List CodeClaim) (needs : List Need) → HaveBodies a all n c line gs ps claims needs → AreFew gs →
      length claims ≤ 69 * length gs
  bodies_few n c line [] [] claims needs h small = (let none = ap length h.0 in omega (arith, none))
  bodies_few n c line [] (p ∷ ps) claims needs h small = absurd h
  bodies_few n c line (g ∷ gs) [] claims needs h small = absurd h
  bodies_few n c line (g ∷ gs) (p ∷ ps) claims needs h small =
      let one = body_few n c line g p h.own_claims h.own_needs h.here (small 0 g refl) in
      let rest = bodies_few (n + 1) (c + length h.own_claims) (line_behind line p) gs ps h.other_claims h.other_needs h.behind (λ i u at. small (suc i) u at) in
      let both = ap length h.claimed in
      let parts = length-append h.own_claims h.other_claims in
      omega (arith, one, rest, both, parts)

stored_few : (a : Algorithm) (s : Schedule) (st : List Bool) (fs : List Function) → length (stored_among a st fs (map (subject_said a s) fs) (map (loops_after (said s)) fs)) ≤ length fs
stored_few a s st [] = omega arith
stored_few a s st (f ∷ fs) = of (subject_said a s f).is_stored (stored_few a s st fs)
  where
    rest : List StoredText
    rest = stored_among a st fs (map (subject_said a s) fs) (map (loops_after (said s)) fs)

    of : (b : Bool) → length rest ≤ length fs →
        length (if b then stored_by a st f.variables f.value f.changes (subject_said a s f) (loops_after (said s) f) ∷ rest else rest) ≤ suc (length fs)
    of true k = omega (arith, k)
    of false k = omega (arith, k)

rooted_few : (gs : List StoredText) (ls : List (Option LaidText)) → length (rooted true gs ls) ≤ length gs
rooted_few [] ls = omega arith
rooted_few (g ∷ gs) [] = omega arith
rooted_few (g ∷ gs) (l ∷ ls) = of g.formulas l (is_same g.subject.is_root true) (rooted_few gs ls)
  where
    of : (o : Option (List FormulaText)) (l : Option LaidText) (b : Bool) → length (rooted true gs ls) ≤ length gs → length (rooted_if b g o l (rooted true gs ls)) ≤ suc (length gs)
    of None l b k = omega (arith, k)
    of (Some fs) None b k = omega (arith, k)
    of (Some fs) (Some x) true k = omega (arith, k)
    of (Some fs) (Some x) false k = omega (arith, k)

module _ (a : Algorithm) (sch : Schedule) (l : Lowered) (well : IsAlgorithm a) (legal : IsLegal a sch) (small : has_large (stored_functions a sch) ≡ false)
    (kept : region_fault a (stored_functions a sch) ≡ None) (all : are_whole (stored_functions a sch) ≡ true) (groups : HasGroups a (stored_functions a sch) l) where
  abbrev gs : List StoredText
  gs = stored_functions a sch

  pub five : AreFew gs
  five i g at fs e =
      let w = found a sch (flags (subjects a sch)) g a.functions i at in
      let f = w.function in
      let long = formulas_long a (flags (subjects a sch)) f.variables f.value f.changes fs (ap (λ (u : StoredText). u.formulas) (sym w.is) ∙ e) in
      let most = (well.functions w.place f w.at).few_updates in
      omega (arith, long, most)

  -- at most 64 functions, each with a claim of each other and of its definitions
  pub functions_few : length gs ≤ 64
  functions_few = (let one = stored_few a sch (flags (subjects a sch)) a.functions in let functions = well.few in omega (arith, one, functions))

  pub roots_few : length (roots a sch l well legal small kept all groups) ≤ 64
  roots_few =
      let functions = functions_few in
      let most = rooted_few gs (laid_functions a gs) in
      omega (arith, functions, most)

  pub few_claims : length l.certificate.claims.items < 10000
  few_claims =
      let one = stored_few a sch (flags (subjects a sch)) a.functions in
      let functions = well.few in
      let entries = roots_few in
      let claims = bodies_few a (roots a sch l well legal small kept all groups) entries 0 0 4 gs l.plan.groups.items l.certificate.claims.items l.certificate.needs.items (groups.bodies all) five in
      omega (arith, claims, one, functions)
