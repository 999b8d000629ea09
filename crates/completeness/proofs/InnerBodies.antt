-- The groups of whatever plan `lower` makes, one by one: their entries, their bodies and claims, and which buffers they allocate.
use Rattle.std.proofs.Common.{◌≡◌, ℕ, zero, suc, ◌+◌, Bool, true, false, List, [], ◌∷◌, ◌++◌, length, map, take, Option, Some, None, refl, sym, ap, subst, arith}
use Rattle.std.specs.Prelude.{if◌then◌else◌, slice_get}
use Rattle.std.specs.List.{AllByRecursion}
use Rattle.lin.specs.declared.scope.Binding.{Binding}
use Rattle.lin.specs.declared.span.Span1.{Span1}
use Rattle.plan.specs.declared.plan.Group.{Group as CodeGroup}
use Rattle.plan.specs.declared.certificate.cert.Own.{Own}
use Rattle.plan.specs.declared.certificate.cert.Claim.{Claim as CodeClaim}
use Rattle.plan.specs.declared.certificate.cert.Need.{Need}
use Rattle.plan.specs.declared.certificate.cert.Window.{Window}
use Rattle.plan.specs.declared.stmt.Places.{Places}
use Rattle.plan.specs.Plan.{Statement, Seq, For, Let, First, Guard, Alloc, Fetch, Store, Publish, Statements, Empty, Then, block}
use Rattle.plan.specs.View.{group_of, statement_of}
use Rattle.plan.specs.Lines.{block_lines, groups_lines}
use Rattle.meaning.specs.Algorithm.{Algorithm}
use Rattle.sched.specs.declared.skeleton.Step.{Step}
use Rattle.sched.specs.declared.skeleton.Step.TheVariants.{Turns, Named, Tested}
use Rattle.sched.specs.Skeleton.{NestText, SkeletonText}
use Rattle.sched.specs.Runs.{lines_to}
use Rattle.sched.specs.Stored.{FormulaText, StoredText}
use Rattle.sched.specs.Regions.{LaidText}
use Rattle.regions.specs.Regions.{skeleton_of}
use Rattle.sched.specs.Loading.{Loads}
use Rattle.blocks.specs.Blocks.{dimensions_of, claimed_region}
use Rattle.blocks.specs.Bodies.{IsStore, AreNests, IsBodyWith}
use Rattle.sched.specs.Fetches.{Entry}
use Rattle.blocks.specs.Fetches.{FetchText, with_fetches}
use Rattle.lower.specs.Fetches.{Calls, AreFetched, fetched_groups}
use Rattle.sched.specs.Placed.{PlacedText}
use Rattle.lower.specs.Placed.{numbered, picked, AreFetchedBy, with_fetched}
use Rattle.blocks.specs.Placed.{begun, names_over, group_owner}
use Rattle.lower.specs.Groups.{is_same, rooted_if, rooted, IsOverRegion, AreOverRegions, AreMade, IsBodyBy, line_behind, AreBodiesBy}
use Rattle.blocks.specs.Groups.{IsOver}
use Rattle.blocks.proofs.Laying.{same}
use Rattle.completeness.proofs.Bodies.{other_at}
use Rattle.completeness.proofs.Unlike.{Numbered, first_numbered, second_numbered}
use Rattle.completeness.proofs.Seats.{Allots, AllotAll, allots_joined}
use Rattle.completeness.proofs.Walked.{AreFine, AreSteps, group_done}
use Rattle.completeness.proofs.WalkedSeats.{Allot, allot_each}
use Rattle.completeness.proofs.InnerShapes.{IsEntryOf, IsInner}

-- ---- regions

-- the loops of an entry are those over its region
pub over_region : (b : Bool) (gs : List StoredText) (ls : List (Option LaidText)) (k : ℕ) (e : Entry) → AreOverRegions gs ls → slice_get (rooted b gs ls) k ≡ Some e →
    skeleton_of e.0 e.2 e.1.region ≡ Some e.1.skeleton
over_region b [] ls k e around at = absurd (cc at)
over_region b (g ∷ gs) [] k e around at = absurd (cc at)
over_region b (g ∷ gs) (l ∷ ls) k e around at = of (is_same g.subject.is_root b) g.formulas l around.0 k at (λ j q. over_region b gs ls j e around.1 q)
  where
    Is : Entry → Type 0
    Is x = skeleton_of x.0 x.2 x.1.region ≡ Some x.1.skeleton

    if_first : (v : Bool) (fs : List FormulaText) (x : LaidText) → skeleton_of g fs x.region ≡ Some x.skeleton → (j : ℕ) →
        slice_get (if v then (g, x, fs) ∷ rooted b gs ls else rooted b gs ls) j ≡ Some e → ((i : ℕ) → slice_get (rooted b gs ls) i ≡ Some e → Is e) → Is e
    if_first true fs x h zero q rest = subst Is (same (g, x, fs) e q) h
    if_first true fs x h (suc j) q rest = rest j q
    if_first false fs x h j q rest = rest j q

    of : (v : Bool) (o : Option (List FormulaText)) (l : Option LaidText) → IsOverRegion g l o → (j : ℕ) → slice_get (rooted_if v g o l (rooted b gs ls)) j ≡ Some e →
        ((i : ℕ) → slice_get (rooted b gs ls) i ≡ Some e → Is e) → Is e
    of v (Some fs) (Some x) h j q rest = if_first v fs x h j q rest
    of v (Some fs) None h j q rest = rest j q
    of v None l h j q rest = rest j q

-- ---- groups

pub record IsMadeOf (es : List Entry) (h : ℕ) (q : CodeGroup) : Type 0 where
  pub entry : Entry
  pub at : slice_get es h ≡ Some entry
  pub over : IsOver entry q

pub made_of : (es : List Entry) (n : ℕ) (ps : List CodeGroup) (os : List Own) → AreMade es n ps os → (h : ℕ) (q : CodeGroup) → slice_get ps h ≡ Some q → IsMadeOf es h q
made_of es n [] os made h q at = absurd (cc at)
made_of [] n (p ∷ ps) os made h q at = absurd made
made_of (e ∷ es) n (p ∷ ps) [] made h q at = absurd made
made_of (e ∷ es) n (p ∷ ps) (o ∷ os) made zero q at = record { entry = e; at = refl; over = subst (IsOver e) (same p q at) made.0 }
made_of (e ∷ es) n (p ∷ ps) (o ∷ os) made (suc h) q at = (let r = made_of es (n + 1) ps os made.2 h q at in record { entry = r.entry; at = r.at; over = r.over })

-- the body of the group of a number, with the functions that are computed inside its loops, and its claims
pub record IsBodyAt (a : Algorithm) (all : List Entry) (full : List CodeClaim) (n h : ℕ) (placed : List (List PlacedText)) (es : List Entry) (q : CodeGroup) : Type 0 where
  pub entry : Entry
  pub at : slice_get es h ≡ Some entry
  pub inners : List PlacedText
  pub inside : slice_get placed h ≡ Some inners
  pub first : ℕ
  pub line : ℕ
  pub next : ℕ
  pub claims : List CodeClaim
  pub needs : List Need
  pub windows : List Window
  pub body : IsBodyBy a all (n + h) first line next inners entry q claims needs windows
  pub numbered : Numbered a all full first claims

pub body_found : (a : Algorithm) (all : List Entry) (full : List CodeClaim) (n c line : ℕ) (placed : List (List PlacedText)) (es : List Entry) (ps : List CodeGroup) (claims : List
    CodeClaim) (needs : List Need)
    (windows : List Window) → AreBodiesBy a all n c line placed es ps claims needs windows → Numbered a all full c claims → (h : ℕ) (q : CodeGroup) → slice_get ps h ≡ Some q →
    IsBodyAt a all full n h placed es q
body_found a all full n c line placed es [] claims needs windows made m h q at = absurd (cc at)
body_found a all full n c line [] [] (p ∷ ps) claims needs windows made m h q at = absurd made
body_found a all full n c line [] (e ∷ es) (p ∷ ps) claims needs windows made m h q at = absurd made
body_found a all full n c line (us ∷ placed) [] (p ∷ ps) claims needs windows made m h q at = absurd made
body_found a all full n c line (us ∷ placed) (e ∷ es) (p ∷ ps) claims needs windows made m zero q at =
    let none : n ≡ n + 0 = omega arith in
    record {
      entry = e;
      at = refl;
      inners = us;
      inside = refl;
      first = c;
      line = line;
      next = made.next;
      claims = made.own_claims;
      needs = made.own_needs;
      windows = made.own_windows;
      body = subst (λ (k : ℕ). IsBodyBy a all k c line made.next us e q made.own_claims made.own_needs made.own_windows) none
          (subst (λ (w : CodeGroup). IsBodyBy a all n c line made.next us e w made.own_claims made.own_needs made.own_windows) (same p q at) made.here);
      numbered = first_numbered a all full c claims made.own_claims made.other_claims made.claimed m;
    }
body_found a all full n c line (us ∷ placed) (e ∷ es) (p ∷ ps) claims needs windows made m (suc h) q at =
    let r = body_found a all full (n + 1) (c + length made.own_claims) made.next placed es ps made.other_claims made.other_needs made.other_windows made.behind
    (second_numbered a all full c claims made.own_claims made.other_claims made.claimed m) h q at in
    let next : (n + 1) + h ≡ n + suc h = omega arith in
    record {
      entry = r.entry;
      at = r.at;
      inners = r.inners;
      inside = r.inside;
      first = r.first;
      line = r.line;
      next = r.next;
      claims = r.claims;
      needs = r.needs;
      windows = r.windows;
      body = subst (λ (k : ℕ). IsBodyBy a all k r.first r.line r.next r.inners r.entry q r.claims r.needs r.windows) next r.body;
      numbered = r.numbered;
    }

-- with the line of the group, where each has as many lines as are counted
pub lined_found : (a : Algorithm) (all : List Entry) (full : List CodeClaim) (n c line : ℕ) (placed : List (List PlacedText)) (es : List Entry) (ps : List CodeGroup) (claims : List CodeClaim)
    (needs : List Need) (windows : List Window) → AreBodiesBy a all n c line placed es ps claims needs windows → Numbered a all full c claims →
    ((j : ℕ) (e : Entry) (us : List PlacedText) (q : CodeGroup) → slice_get es j ≡ Some e → slice_get placed j ≡ Some us → (m c line next : ℕ) (claims : List CodeClaim) (needs : List Need)
    (windows : List Window) → IsBodyBy a all m c line next us e q claims needs windows → next ≡ line_behind line q) → (h : ℕ) (q : CodeGroup) → slice_get ps h ≡ Some q →
    (b : IsBodyAt a all full n h placed es q) × (b.line ≡ line + groups_lines (take h (map group_of ps)))
lined_found a all full n c line placed es [] claims needs windows made m ends h q at = absurd (cc at)
lined_found a all full n c line [] [] (p ∷ ps) claims needs windows made m ends h q at = absurd made
lined_found a all full n c line [] (e ∷ es) (p ∷ ps) claims needs windows made m ends h q at = absurd made
lined_found a all full n c line (us ∷ placed) [] (p ∷ ps) claims needs windows made m ends h q at = absurd made
lined_found a all full n c line (us ∷ placed) (e ∷ es) (p ∷ ps) claims needs windows made m ends zero q at =
    let none : n ≡ n + 0 = omega arith in (
      record {
        entry = e;
        at = refl;
        inners = us;
        inside = refl;
        first = c;
        line = line;
        next = made.next;
        claims = made.own_claims;
        needs = made.own_needs;
        windows = made.own_windows;
        body = subst (λ (k : ℕ). IsBodyBy a all k c line made.next us e q made.own_claims made.own_needs made.own_windows) none
            (subst (λ (w : CodeGroup). IsBodyBy a all n c line made.next us e w made.own_claims made.own_needs made.own_windows) (same p q at) made.here);
        numbered = first_numbered a all full c claims made.own_claims made.other_claims made.claimed m;
      },
      omega arith,
    )
lined_found a all full n c line (us ∷ placed) (e ∷ es) (p ∷ ps) claims needs windows made m ends (suc h) q at =
    let all_found = lined_found a all full (n + 1) (c + length made.own_claims) made.next placed es ps made.other_claims made.other_needs made.other_windows made.behind
    (second_numbered a all full c claims made.own_claims made.other_claims made.claimed m) (λ j u vs w one two. ends (suc j) u vs w one two) h q at in
    let r = all_found.0 in
    let next : (n + 1) + h ≡ n + suc h = omega arith in
    let here = ends 0 e us p refl refl n c line made.next made.own_claims made.own_needs made.own_windows made.here in
    let rest = all_found.1 in (
      record {
        entry = r.entry;
        at = r.at;
        inners = r.inners;
        inside = r.inside;
        first = r.first;
        line = r.line;
        next = r.next;
        claims = r.claims;
        needs = r.needs;
        windows = r.windows;
        body = subst (λ (k : ℕ). IsBodyBy a all k r.first r.line r.next r.inners r.entry q r.claims r.needs r.windows) next r.body;
        numbered = r.numbered;
      },
      omega (arith, here, rest),
    )

-- ---- what is fetched

pub fetched_by : (calls : Calls) (grid : List Binding) (n b line : ℕ) (xs : List (ℕ × Entry)) (fs : List FetchText) (ws : List Need) (cs : List CodeClaim) →
    AreFetched calls grid n b line xs fs ws cs → AreFetchedBy n b line xs fs ws cs
fetched_by calls grid n b line [] [] [] [] h = tt
fetched_by calls grid n b line [] [] [] (c ∷ cs) h = absurd h
fetched_by calls grid n b line [] [] (w ∷ ws) cs h = absurd h
fetched_by calls grid n b line [] (f ∷ fs) ws cs h = absurd h
fetched_by calls grid n b line (x ∷ xs) [] ws cs h = absurd h
fetched_by calls grid n b line (x ∷ xs) (f ∷ fs) [] cs h = absurd h
fetched_by calls grid n b line (x ∷ xs) (f ∷ fs) (w ∷ ws) [] h = absurd h
fetched_by calls grid n b line (x ∷ xs) (f ∷ fs) (w ∷ ws) (c ∷ cs) h = (h.0, fetched_by calls grid n (b + 1) (line + 2) xs fs ws cs h.2)

-- each of them is one of these
pub numbered_from : (m : ℕ) (es : List Entry) (k : ℕ) (y : ℕ × Entry) → slice_get (numbered m es) k ≡ Some y → slice_get es k ≡ Some y.1
numbered_from m [] k y e = absurd (cc e)
numbered_from m (x ∷ es) zero y e = ap (λ (z : ℕ × Entry). Some z.1) (same (m, x) y e)
numbered_from m (x ∷ es) (suc k) y e = numbered_from (m + 1) es k y e

pub picked_from : (bs : List Bool) (xs : List (ℕ × Entry)) (k : ℕ) (y : ℕ × Entry) → slice_get (picked bs xs) k ≡ Some y → (j : ℕ) × (slice_get xs j ≡ Some y)
picked_from [] xs k y e = absurd (cc e)
picked_from (b ∷ bs) [] k y e = absurd (cc e)
picked_from (true ∷ bs) (x ∷ xs) zero y e = (0, e)
picked_from (true ∷ bs) (x ∷ xs) (suc k) y e = (let r = picked_from bs xs k y e in (suc r.0, r.1))
picked_from (false ∷ bs) (x ∷ xs) k y e = (let r = picked_from bs xs k y e in (suc r.0, r.1))

-- ---- buffers

-- a stored function has this name
abbrev pub IsStoredName : List StoredText → List ℕ → Type 0
IsStoredName gs x = (n : ℕ) × (g : StoredText) × (slice_get gs n ≡ Some g) × (g.subject.name ≡ x)

module _ (P : List ℕ → Type 0) where
  fetches_allot : (n b line : ℕ) (xs : List (ℕ × Entry)) (fs : List FetchText) (ws : List Need) (cs : List CodeClaim) → AreFetchedBy n b line xs fs ws cs →
      ((k : ℕ) (y : ℕ × Entry) → slice_get xs k ≡ Some y → P y.1.0.subject.name) → (rest : List Statement) (m : ℕ) → AllotAll P (b + length fs) (block rest) m →
      AllotAll P b (block (with_fetches fs rest)) m
  fetches_allot n b line [] [] [] [] h known rest m k = (let none : b + 0 ≡ b = omega arith in subst (λ (i : ℕ). AllotAll P i (block rest) m) none k)
  fetches_allot n b line [] [] [] (c ∷ cs) h known rest m k = absurd h
  fetches_allot n b line [] [] (w ∷ ws) cs h known rest m k = absurd h
  fetches_allot n b line [] (f ∷ fs) ws cs h known rest m k = absurd h
  fetches_allot n b line (x ∷ xs) [] ws cs h known rest m k = absurd h
  fetches_allot n b line (x ∷ xs) (f ∷ fs) [] cs h known rest m k = absurd h
  fetches_allot n b line (x ∷ xs) (f ∷ fs) (w ∷ ws) [] h known rest m k = absurd h
  fetches_allot n b line (x ∷ xs) (f ∷ fs) (w ∷ ws) (c ∷ cs) h known rest m k =
      let next : b + length (f ∷ fs) ≡ (b + 1) + length fs = omega arith in
      let behind = fetches_allot n (b + 1) (line + 2) xs fs ws cs h.1 (λ j y e. known (suc j) y e) rest m (subst (λ (i : ℕ). AllotAll P i (block rest) m) next k) in
      (b + 1, (h.0.buffered, refl, subst P (sym h.0.named) (known 0 x refl)), (b + 1, refl, behind))

  steps_allot : (ss : List Step) (inner : Statements) (n m : ℕ) → AllotAll P n inner m → AllotAll P n (lines_to ss inner) m
  steps_allot [] inner n m h = h
  steps_allot (Turns i x kind ∷ ss) inner n m h = (m, steps_allot ss inner n m h, refl)
  steps_allot (Named i pick fs ∷ ss) inner n m h = (n, refl, steps_allot ss inner n m h)
  steps_allot (Tested low high ∷ ss) inner n m h = (m, steps_allot ss inner n m h, refl)

  store_allots : (g : StoredText) (fs : List FormulaText) (ms : Loads) (d : ℕ) (w : NestText) (s : Statement) (n : ℕ) → IsStore g fs ms d w s → AllotAll P n (Then s Empty) n
  store_allots g fs ms d w (Store b k cs e) n h = (n, refl, refl)
  store_allots g fs ms d w (Seq all) n h = absurd h
  store_allots g fs ms d w (For i span kind body) n h = absurd h
  store_allots g fs ms d w (Let i pick forms) n h = absurd h
  store_allots g fs ms d w (First i a b) n h = absurd h
  store_allots g fs ms d w (Guard low high body) n h = absurd h
  store_allots g fs ms d w (Alloc b f places) n h = absurd h
  store_allots g fs ms d w (Fetch b f region) n h = absurd h
  store_allots g fs ms d w (Publish c) n h = absurd h

  nests_allot : (g : StoredText) (fs : List FormulaText) (r : List Span1) (ms : Loads) (c line d : ℕ) (ns : List NestText) (xs : List Statement) (cs : List CodeClaim) (n : ℕ) →
      AreNests g fs r ms c line d ns xs cs → AllotAll P n (block xs) n
  nests_allot g fs r ms c line d [] xs cs n h = subst (λ (ys : List Statement). AllotAll P n (block ys) n) (sym h.0) refl
  nests_allot g fs r ms c line d (w ∷ ns) xs [] n h = absurd h
  nests_allot g fs r ms c line d (w ∷ ns) xs (v ∷ cs) n h =
      let nest = h.here.nest in
      let one : AllotAll P n (block h.first) n =
      subst (λ (s : Statements). AllotAll P n s n) (sym nest.comes) (steps_allot w.steps (Then nest.store Empty) n n (store_allots g fs ms d w nest.store n nest.stores)) in
      let rest = nests_allot g fs r (ms ++ (g.subject.name, c) ∷ []) (c + 1) (line + block_lines (block h.first)) (d + 1) ns h.others cs n h.behind in
      subst (λ (ys : List Statement). AllotAll P n (block ys) n) (sym h.are) (allots_joined P h.first h.others n n n one rest)

  with_allots : (g : StoredText) (k : SkeletonText) (places : List Places) (fs : List FetchText) (nests : List Statement) (claim : ℕ) (body : Statement) → P g.subject.name →
      IsBodyWith g k places fs nests claim body → (n line : ℕ) (xs : List (ℕ × Entry)) (ws : List Need) (cs : List CodeClaim) → AreFetchedBy n 1 line xs fs ws cs →
      ((j : ℕ) (y : ℕ × Entry) → slice_get xs j ≡ Some y → P y.1.0.subject.name) → (m : ℕ) → AllotAll P (1 + length fs) (block nests) m → Allots P 0 body m
  with_allots g k places fs nests claim body own with n line xs ws cs fetched known m h =
      let behind = allots_joined P nests (Publish claim ∷ []) (1 + length fs) m m h (m, refl, refl) in
      let all = fetches_allot n 1 line xs fs ws cs fetched known (nests ++ Publish claim ∷ []) m behind in
      subst (λ (s : Statement). Allots P 0 s m) (sym with.is)
      (steps_allot k.head (block (Alloc 0 g.subject.name places ∷ with_fetches fs (nests ++ Publish claim ∷ []))) 0 m (1, (refl, refl, own), all))

-- nothing is asked of steps
pub every_step : (f ss : List Step) → AreFine (λ f s. Unit {0}) f ss
every_step f [] = tt
every_step f (s ∷ ss) = (tt, every_step (f ++ s ∷ []) ss)

every_let : (ss : List Step) → AllByRecursion (λ (s : Step). Unit {0}) ss
every_let [] = tt
every_let (s ∷ ss) = (tt, every_let ss)

pub all_steps : (i : PlacedText) → AreSteps (λ f s. Unit {0}) (λ s. Unit {0}) i
all_steps i = record { lets = every_let i.lets; nests = λ d n at. every_step [] n.steps; later = λ l e d n at. every_step [] n.steps }

-- each line of a body that allocates is of a stored function, and the buffers are numbered in their order
pub body_allots : (a : Algorithm) (gs : List StoredText) (all : List Entry) (among : (k : ℕ) (e : Entry) → slice_get all k ≡ Some e → IsEntryOf gs e) (n c line next : ℕ) (inners : List
    PlacedText) (e : Entry)
    (q : CodeGroup) (claims : List CodeClaim) (needs : List Need) (windows : List Window) → IsEntryOf gs e → ((k : ℕ) (i : PlacedText) → slice_get inners k ≡ Some i → IsInner gs i) →
    IsBodyBy a all n c line next inners e q claims needs windows → (m : ℕ) × Allots (IsStoredName gs) 0 (statement_of q.body) m
body_allots a gs all among n c line next [] e q claims needs windows own inside h =
    let b = h.0 in
    let k = e.1.skeleton in
    let fetched = fetched_by _ _ n 1 _ (fetched_groups e.2 n 0 all) b.fetches needs b.fetched b.fetching in (
      1 + length b.fetches,
      with_allots (IsStoredName gs) e.0 k _ b.fetches b.nests _ (statement_of q.body) (own.place, e.0, own.at, refl) b.with n _ (fetched_groups e.2 n 0 all) needs
          b.fetched fetched
          (λ j y at. let o = other_at e.2 n 0 all j y at in let w = among o.place y.1 o.at in (w.place, y.1.0, w.at, refl)) (1 + length b.fetches)
          (nests_allot (IsStoredName gs) e.0 e.2 _ _ _ _ 0 k.nests b.nests b.own (1 + length b.fetches) b.nested),
    )
body_allots a gs all among n c line next (i ∷ is) e q claims needs windows own inside b =
    let k = e.1.skeleton in
    let inners = i ∷ is in
    let name : (j : ℕ) (u : PlacedText) → slice_get inners j ≡ Some u → IsStoredName gs u.function.subject.name =
    λ j u at. let w = inside j u at in (w.stored.place, w.entry.0, w.stored.at, ap (λ (g : StoredText). g.subject.name) (sym w.function)) in
    let nests = group_done inners (λ f s. Unit {0}) (λ s. Unit {0}) (λ o ns. Unit {0}) (Allot (IsStoredName gs)) (allot_each (IsStoredName gs) inners name) (λ j u at. all_steps u)
    (length inners) (group_owner e (claimed_region (dimensions_of e.0 e.1.region k))) k.nests tt (λ d w at. every_step [] w.steps) (names_over k)
    (with_fetched b.fetches b.lines_of b.fetched (begun c line k)) b.done b.nests b.made in (
      b.done.buffer,
      with_allots (IsStoredName gs) e.0 k _ b.fetches b.nests _ (statement_of q.body) (own.place, e.0, own.at, refl) b.with n _ (picked b.called (numbered 0 all)) b.lines_of
          b.fetched b.fetching
          (λ j y at. let r = picked_from b.called (numbered 0 all) j y at in let w = among r.0 y.1 (numbered_from 0 all r.0 y r.1) in (w.place, y.1.0, w.at, refl)) b.done.buffer nests,
    )
