-- No vector loop of whole functions is wrong, where no loop that a split makes is split again.
use Rattle.std.proofs.Common.{◌≡◌, ℕ, zero, suc, ◌+◌, ◌<◌, Bool, true, false, ◌&&◌, ◌||◌, List, [], ◌∷◌, ◌++◌, drop, length, Option, Some, None, refl, sym, ap, ◌∙◌, subst, inl, inr, arith}
use Rattle.std.specs.Prelude.{pos, ◌==◌, if◌then◌else◌, not, int_le, slice_get, IsSomeAnd}
use Rattle.std.specs.List.{AllByRecursion, Any, list_any}
use Rattle.std.proofs.lemmas.Bool.Decides.{nat_tests}
use Rattle.tree.specs.Term.{Term}
use Rattle.lin.specs.Forms.{Form, number, factor_of}
use Rattle.lin.specs.declared.form.Multiple.{Multiple}
use Rattle.lin.specs.declared.span.Span1.{Span1}
use Rattle.plan.specs.declared.stmt.Kind.TheVariants.{Serial, Unroll, Vector}
use Rattle.plan.specs.declared.plan.Group.{Group as CodeGroup}
use Rattle.plan.specs.declared.certificate.cert.Claim.{Claim as CodeClaim}
use Rattle.plan.specs.declared.certificate.cert.Need.{Need}
use Rattle.plan.specs.Plan.{Index, At, Found, Coordinate, Statement, Seq, For, Let, First, Guard, Alloc, Fetch, Store, Publish, Statements, Empty, Then, Group, Plan, block}
use Rattle.plan.specs.View.{group_of, plan_of, statement_of}
use Rattle.plan.specs.Lines.{block_lines, group_line}
use Rattle.plan.specs.Certificate.Certificate.{Certificate, certificate_of}
use Rattle.plan.specs.Semantics.Actions.{Setting}
use Rattle.plan.specs.Semantics.Setting.{allocated, dimensions_in, setting_of}
use Rattle.meaning.specs.Algorithm.{Range, Change, Function, Algorithm}
use Rattle.meaning.specs.Names.{same_name}
use Rattle.meaning.specs.Conditions.{IsAlgorithm}
use Rattle.meaning.proofs.Cases.{name_same}
use Rattle.soundness.specs.Obligations.{form_has}
use Rattle.soundness.specs.Outline.Flaws.{line_told}
use Rattle.headline.proofs.Lists.{from_map}
use Rattle.sched.specs.declared.error.Rule.TheVariants as rule
use Rattle.sched.specs.declared.schedule.Split.{Split}
use Rattle.sched.specs.declared.placing.Loop.{Loop}
use Rattle.sched.specs.declared.placing.Mark.{Mark}
use Rattle.sched.specs.declared.placing.Mark.TheVariants as mark
use Rattle.sched.specs.declared.skeleton.Step.{Step}
use Rattle.sched.specs.declared.skeleton.Step.TheVariants.{Turns, Named, Tested}
use Rattle.sched.specs.Schedule.{Schedule}
use Rattle.sched.specs.Legal.{IsLegal, said, loops_after}
use Rattle.sched.specs.Rules.{IsVectorized}
use Rattle.sched.specs.Placing.{PlacedText, is_vectorized}
use Rattle.sched.specs.Subjects.{subject_said, reductions_of}
use Rattle.sched.specs.Standing.{is_half}
use Rattle.sched.specs.Runs.{lines_to}
use Rattle.sched.specs.Skeleton.{NestText, SkeletonText, variables_at, ranges_at}
use Rattle.sched.proofs.Leading.{In}
use Rattle.sched.proofs.Rooting.{all_at}
use Rattle.validation.specs.Stored.Definitions.{parts_named, Definition, definition_in, function_in}
use Rattle.validation.specs.Stored.Stored.{has_names as are_names}
use Rattle.validation.specs.Groups.Lanes.{goes_by, admits_lanes, reductions, reductions_in, stores_lanes, takes_lanes}
use Rattle.validation.specs.Groups.Lines.{Here, start}
use Rattle.validation.specs.Groups.Inside.{Inside}
use Rattle.lower.specs.declared.lowering.Lowered.{Lowered}
use Rattle.sched.specs.Stored.{FormulaText, StoredText}
use Rattle.blocks.specs.Stored.{stored_by, flags}
use Rattle.lower.specs.Stored.{stored_functions, has_large}
use Rattle.regions.specs.Regions.{turnings, bodies_from}
use Rattle.regions.specs.Faults.{are_whole}
use Rattle.lower.specs.Faults.{region_fault}
use Rattle.sched.specs.Around.{ranges_of, names_with}
use Rattle.sched.specs.Loading.{Loads}
use Rattle.blocks.specs.Blocks.{lay_over, dimensions_of, own_places}
use Rattle.sched.specs.Bodies.{other_lefts, first_left}
use Rattle.blocks.specs.Bodies.{IsIndex, AreCoordinates, IsStore, AreNests}
use Rattle.lower.specs.Bodies.{last_claim}
use Rattle.sched.specs.Fetches.{Entry}
use Rattle.blocks.specs.Fetches.{FetchText, with_fetches}
use Rattle.lower.specs.Groups.{HasBody, HasGroups}
use Rattle.completeness.specs.Laws.{AreSplitOnce, IsNoVector, IsNoVectorAt, VectorsFit}
use Rattle.completeness.proofs.Only.{Only}
use Rattle.completeness.proofs.Standing.{AreLets, OnlyIf, names_own}
use Rattle.completeness.proofs.Laid.{subjects, found, arranged}
use Rattle.completeness.proofs.Served.{roots, made_at}
use Rattle.completeness.proofs.Spots.{lets_allot}
use Rattle.completeness.proofs.Unlike.{Clear, ClearAll, none_inside, joined_clear, placed_body}
use Rattle.completeness.proofs.Origins.{places_long}
use Rattle.completeness.proofs.Written.{variables_long}
use Rattle.completeness.proofs.Halves.{IsNamed, named}
use Rattle.completeness.proofs.Lanes.{LaneSteps, AreOnce}
use Rattle.completeness.proofs.Vectors.{AreScalar, AreSerial, IsLaned, IsLanedNest, skeleton_laned}

-- ---- coordinates without the lane

form_free : (lane : ℕ) (f : Form) → Only (λ s. s < lane) f → form_has lane f ≡ false
form_free lane f h = of f.terms h
  where
    of : (ts : List Multiple) → AllByRecursion (λ t. t.symbol < lane) ts → list_any (λ t. t.symbol == lane) ts ≡ false
    of [] h = refl
    of (t ∷ ts) h =
        let less = h.0 in
        let other : (t.symbol == lane) ≡ false = grind (arith, nat_tests) in
        ap (λ (b : Bool). b || list_any (λ t. t.symbol == lane) ts) other ∙ of ts h.1

module _ (ms : Loads) (lane : ℕ) where
  index_free : (o : Option Form) (left : Option Term) (i : Index) → OnlyIf (λ s. s < lane) o → IsIndex ms o left i → goes_by lane i ≡ false
  index_free (Some f) left (At g) h e = ap (form_has lane) e ∙ form_free lane f h
  index_free (Some f) left (Found e) h q = refl
  index_free None left (At g) h e = absurd e
  index_free None left (Found e) h q = refl

  indices_free : (xs : List (List ℕ)) (os : List (Option Form)) (lefts : List (Option Term)) (cs : List Coordinate) → AreCoordinates ms xs os lefts cs → AllByRecursion (OnlyIf (λ s. s < lane)) os →
      list_any (λ c. goes_by lane c.index) cs ≡ false
  indices_free xs [] lefts [] h free = refl
  indices_free xs [] lefts (c ∷ cs) h free = absurd h
  indices_free [] (o ∷ os) lefts cs h free = absurd h
  indices_free (x ∷ xs) (o ∷ os) lefts [] h free = absurd h
  indices_free (x ∷ xs) (o ∷ os) lefts (c ∷ cs) h free =
      ap (λ (b : Bool). b || list_any (λ c. goes_by lane c.index) cs) (index_free o (first_left lefts) c.index free.0 h.1) ∙ indices_free xs os (other_lefts lefts) cs h.2 free.1

  -- those behind the first ones
  others_free : (xs : List (List ℕ)) (os qs : List (Option Form)) (lefts : List (Option Term)) (cs : List Coordinate) → AreCoordinates ms xs (os ++ qs) lefts cs →
      AllByRecursion (OnlyIf (λ s. s < lane)) qs → list_any (λ c. goes_by lane c.index) (drop (length os) cs) ≡ false
  others_free xs [] qs lefts cs h free = indices_free xs qs lefts cs h free
  others_free [] (o ∷ os) qs lefts cs h free = absurd h
  others_free (x ∷ xs) (o ∷ os) qs lefts [] h free = absurd h
  others_free (x ∷ xs) (o ∷ os) qs lefts (c ∷ cs) h free = others_free xs os qs (other_lefts lefts) cs h.2 free

-- no reduction variable has the lane where none of the coordinates behind the variables has it
fewer_free : (lane : ℕ) (o : Option Definition) (n : ℕ) (cs : List Coordinate) → list_any (λ c. goes_by lane c.index) (drop n cs) ≡ false → list_any (λ c. goes_by lane c.index) (reductions_in o n cs) ≡ false
fewer_free lane None n cs h = refl
fewer_free lane (Some m) n cs h = of (are_names m cs && (n == length (function_in m).variables))
  where
    of : (b : Bool) → list_any (λ c. goes_by lane c.index) (if b then drop n cs else []) ≡ false
    of true = h
    of false = refl

-- ---- steps

module _ (a : Algorithm) (setting : Setting) where
  abbrev P : Statement → Type 0
  P = IsNoVector a setting

  scalar_clear : (ss : List Step) (inner : Statements) → AreScalar ss → ClearAll P inner → ClearAll P (lines_to ss inner)
  scalar_clear [] inner h k = k
  scalar_clear (Turns i x Vector ∷ ss) inner h k = absurd h.0
  scalar_clear (Turns i x Serial ∷ ss) inner h k = (((λ e. cc e), scalar_clear ss inner h.1 k), tt)
  scalar_clear (Turns i x Unroll ∷ ss) inner h k = (((λ e. cc e), scalar_clear ss inner h.1 k), tt)
  scalar_clear (Named i pick fs ∷ ss) inner h k = ((λ e. e), scalar_clear ss inner h k)
  scalar_clear (Tested low high ∷ ss) inner h k = (((λ e. e), scalar_clear ss inner h k), tt)

  lines_joined : (a b : List Step) (inner : Statements) → lines_to (a ++ b) inner ≡ lines_to a (lines_to b inner)
  lines_joined [] b inner = refl
  lines_joined (Turns i x kind ∷ a) b inner = ap (λ (s : Statements). Then (For i x kind (Seq s)) Empty) (lines_joined a b inner)
  lines_joined (Named i pick fs ∷ a) b inner = ap (λ (s : Statements). Then (Let i pick fs) s) (lines_joined a b inner)
  lines_joined (Tested low high ∷ a) b inner = ap (λ (s : Statements). Then (Guard low high (Seq s)) Empty) (lines_joined a b inner)

  both : (b c : Bool) → b ≡ true → c ≡ true → (b && c) ≡ true
  both true c e k = k
  both false c e k = absurd (cc e)

  admitted : (lane : ℕ) (low : Form) (last : _) → factor_of low.terms lane ≡ pos 1 → admits_lanes lane low (number last) ≡ true
  admitted lane low last e = both (int_le (pos 1) (factor_of low.terms lane)) (not (form_has lane (number last))) (ap (int_le (pos 1)) e) refl

  clash : (b : Bool) → b ≡ true → b ≡ false → ⊥
  clash true e k = cc k
  clash false e k = cc e

  -- the loop of a lane, where reduction variables do not go by it
  module _ (lane : ℕ) (x : Span1) (b k : ℕ) (cs : List Coordinate) (e : Term) (stores : list_any (λ c. goes_by lane c.index) (reductions a setting b k cs) ≡ false) where
    abbrev inside : Statements
    inside = Then (Store b k cs e) Empty

    stored : stores_lanes a setting lane (Some (Store b k cs e)) ≡ true
    stored = ap not stores

    admits : (low : Form) (last : _) → factor_of low.terms lane ≡ pos 1 → takes_lanes a setting lane (Some (Guard low (number last) (Seq inside))) ≡ true
    admits low last is = both (admits_lanes lane low (number last)) (stores_lanes a setting lane (Some (Store b k cs e))) (admitted lane low last is) stored

    vector_clear : (inner : List Step) → LaneSteps lane inner → ClearAll P (lines_to (Turns lane x Vector ∷ inner) (Then (Store b k cs e) Empty))
    vector_clear inner (inl none) =
        subst (λ (ss : List Step). ClearAll P (lines_to (Turns lane x Vector ∷ ss) inside)) (sym none)
        ((clash (stores_lanes a setting lane (Some (Store b k cs e))) stored, ((λ e. e), tt)), tt)
    vector_clear inner (inr (low, last, are, factor)) =
        subst (λ (ss : List Step). ClearAll P (lines_to (Turns lane x Vector ∷ ss) inside)) (sym are)
        ((clash (takes_lanes a setting lane (Some (Guard low (number last) (Seq inside)))) (admits low last factor), (((λ e. e), ((λ e. e), tt)), tt)), tt)

  -- the steps of a nest
  laned_clear : (ms : Loads) (xs : List (List ℕ)) (steps : List Step) (os ranges : List (Option Form)) (lefts : List (Option Term)) (b k : ℕ) (cs : List Coordinate) (e : Term) →
      IsLaned steps ranges → AreCoordinates ms xs (os ++ ranges) lefts cs → setting.dimensions b ≡ length os → ClearAll P (lines_to steps (Then (Store b k cs e) Empty))
  laned_clear ms xs steps os ranges lefts b k cs e (inl scalar) h long = scalar_clear steps (Then (Store b k cs e) Empty) scalar ((λ e. e), tt)
  laned_clear ms xs steps os ranges lefts b k cs e (inr (before, inner, lane, x, are, scalar, lanes, free)) h long =
      let behind : list_any (λ c. goes_by lane c.index) (drop (setting.dimensions b) cs) ≡ false =
      ap (λ (n : ℕ). list_any (λ c. goes_by lane c.index) (drop n cs)) long ∙ others_free ms lane xs os ranges lefts cs h free in
      let stores = fewer_free lane (definition_in (parts_named a (setting.buffer_function b)) k) (setting.dimensions b) cs behind in
      let last = vector_clear lane x b k cs e stores inner lanes in
      let code : lines_to steps (Then (Store b k cs e) Empty) ≡ lines_to before (lines_to (Turns lane x Vector ∷ inner) (Then (Store b k cs e) Empty)) =
      ap (λ (ss : List Step). lines_to ss (Then (Store b k cs e) Empty)) are ∙ lines_joined before (Turns lane x Vector ∷ inner) (Then (Store b k cs e) Empty) in
      subst (ClearAll P) (sym code) (scalar_clear before (lines_to (Turns lane x Vector ∷ inner) (Then (Store b k cs e) Empty)) scalar last)

  lets_clear : (ss : List Step) (inner : Statements) → AreLets ss → ClearAll P inner → ClearAll P (lines_to ss inner)
  lets_clear [] inner h k = k
  lets_clear (Turns i x kind ∷ ss) inner h k = absurd h
  lets_clear (Named i pick fs ∷ ss) inner h k = ((λ e. e), lets_clear ss inner h k)
  lets_clear (Tested low high ∷ ss) inner h k = absurd h

  fetches_clear : (fs : List FetchText) (rest : List Statement) → ClearAll P (block rest) → ClearAll P (block (with_fetches fs rest))
  fetches_clear [] rest h = h
  fetches_clear (f ∷ fs) rest h = ((λ e. e), ((λ e. e), fetches_clear fs rest h))

-- ---- what legal schedules make of loops

turnings_serial : (rs : List Range) (xs : List (List ℕ)) → AreSerial (record { missing = []; ranges = turnings rs xs })
turnings_serial [] xs = tt
turnings_serial (r ∷ rs) [] = tt
turnings_serial (r ∷ rs) (x ∷ xs) = (tt, turnings_serial rs xs)

bodies_serial : (us : List Change) (d : ℕ) (xs : List (List ℕ)) (fs : List FormulaText) → AllByRecursion AreSerial (bodies_from us d xs fs)
bodies_serial us d xs [] = tt
bodies_serial us d xs (f ∷ fs) = (turnings_serial (ranges_of us d) xs, bodies_serial us (d + 1) (drop (length (ranges_of us d)) xs) fs)

pub all_scalar : (ls : List Loop) → ¬ Any IsVectorized ls → AllByRecursion (λ l. is_vectorized l ≡ false) ls
all_scalar [] h = tt
all_scalar (l ∷ ls) h = (of l.mark refl, all_scalar ls (λ (k, m, less, is, v). h (suc k, m, omega (arith, less), is, v)))
  where
    of : (o : Option Mark) → l.mark ≡ o → elim o [ Some mark.Vectorized ↦ true | _ ↦ false ] ≡ false
    of None e = refl
    of (Some mark.Unrolled) e = refl
    of (Some mark.Vectorized) e = absurd (h (0, l, omega arith, refl, e))
    of (Some mark.Parallel) e = refl

pub split_once : (cuts : List Split) → AreSplitOnce cuts → AreOnce cuts
split_once cuts h c d m n = ((λ e. first (named_so d.outer e)), (λ e. second (named_so d.inner e)))
  where
    named_so : (x : List ℕ) → c.whole ≡ x → same_name x c.whole ≡ true
    named_so x e = name_same x c.whole (sym e)

    none : (ds : List Split) → list_any (λ d. is_half d c.whole) ds ≡ false → In d ds → is_half d c.whole ≡ false
    none [] e k = absurd k
    none (b ∷ ds) e (inl same) = ap (λ (x : Split). is_half x c.whole) same ∙ left (is_half b c.whole) (list_any (λ d. is_half d c.whole) ds) e
      where
        left : (a b : Bool) → (a || b) ≡ false → a ≡ false
        left true b e = absurd (cc e)
        left false b e = refl
    none (b ∷ ds) e (inr k) = none ds (right (is_half b c.whole) (list_any (λ d. is_half d c.whole) ds) e) k
      where
        right : (a b : Bool) → (a || b) ≡ false → b ≡ false
        right true b e = absurd (cc e)
        right false b e = e

    half : is_half d c.whole ≡ false
    half = none cuts (all_at (λ c. list_any (λ d. is_half d c.whole) cuts ≡ false) cuts c h m) n

    neither : (a b : Bool) → (a || b) ≡ false → (a ≡ true → ⊥) × (b ≡ true → ⊥)
    neither true b e = absurd (cc e)
    neither false true e = absurd (cc e)
    neither false false e = ((λ k. cc k), (λ k. cc k))

    first : same_name d.outer c.whole ≡ true → ⊥
    first = (neither (same_name d.outer c.whole) (same_name d.inner c.whole) half).0

    second : same_name d.inner c.whole ≡ true → ⊥
    second = (neither (same_name d.outer c.whole) (same_name d.inner c.whole) half).1

all_get : {A : Type 0} (R : A → Type 0) (xs : List A) (n : ℕ) (x : A) → AllByRecursion R xs → slice_get xs n ≡ Some x → R x
all_get R [] n x h e = absurd (cc e)
all_get R (y ∷ xs) zero x h e = (let same : y ≡ x = cc e in subst R same h.0)
all_get R (y ∷ xs) (suc n) x h e = all_get R xs n x h.1 e

-- ---- groups

module _ (a : Algorithm) (sch : Schedule) (l : Lowered) (well : IsAlgorithm a) (legal : IsLegal a sch) (small : has_large (stored_functions a sch) ≡ false)
    (kept : region_fault a (stored_functions a sch) ≡ None) (all : are_whole (stored_functions a sch) ≡ true) (groups : HasGroups a (stored_functions a sch) l)
    (once : AllByRecursion (λ g. AreSplitOnce g.placed.cuts) (stored_functions a sch)) where
  abbrev p : Plan
  p = plan_of l.plan

  abbrev c : Certificate
  c = certificate_of l.certificate

  abbrev st : List Bool
  st = flags (subjects a sch)

  abbrev entries : List Entry
  entries = roots a sch l well legal small kept all groups

  abbrev text : Function → StoredText
  text f = stored_by a st f.variables f.value f.changes (subject_said a sch f) (loops_after (said sch) f)

  module _ (n : ℕ) (q : CodeGroup) (place : ℕ) (f : Function) (at : slice_get a.functions place ≡ Some f) (there : slice_get (stored_functions a sch) n ≡ Some (text f)) (first line : ℕ)
      (claims : List CodeClaim) (needs : List Need) (h : HasBody a entries n first line (text f) q claims needs) where
    abbrev k : SkeletonText
    k = h.skeleton

    abbrev fs : List FormulaText
    fs = h.formulas

    abbrev set : Setting
    set = setting_of p c n (group_of q)

    abbrev placed : PlacedText
    placed = loops_after (said sch) f

    has_names : IsNamed (loops_after (said sch) f)
    has_names = (let r = arranged a sch well legal n (text f) there in named (subject_said a sch f) r.directives placed r.placed)

    laned : (d : ℕ) (w : NestText) → slice_get k.nests d ≡ Some w → IsLanedNest f.variables (bodies_from f.changes 0 (reductions_of f.changes) fs) d w
    laned d w stands =
        skeleton_laned f.variables (bodies_from f.changes 0 (reductions_of f.changes) fs) placed h.extents k has_names
        (split_once placed.cuts (all_get (λ g. AreSplitOnce g.placed.cuts) (stored_functions a sch) n (text f) once there))
        (all_scalar (drop 1 placed.loops) (legal.whole place f rule.BadMark at)) (bodies_serial f.changes 0 (reductions_of f.changes) fs) h.laid d w stands

    own_long : set.dimensions 0 ≡ length f.variables
    own_long =
        let places = own_places (dimensions_of (text f) h.extents k) in
        let lets = (names_own f.variables (bodies_from f.changes 0 (reductions_of f.changes) fs) placed h.extents k h.laid).lets in
        ap (λ (s : Statement). dimensions_in (allocated s 0)) h.body.with.is
        ∙ ap dimensions_in (lets_allot k.head (Then (Alloc 0 f.name places) (block (with_fetches h.body.fetches (h.body.nests ++ Publish (last_claim first h.body.fetches k) ∷ [])))) 0 lets)
        ∙ places_long (lay_over (text f) h.extents k) placed.cuts f.variables

    nest_clear : (ms : Loads) (d : ℕ) (w : NestText) → slice_get k.nests d ≡ Some w → (s : Statement) → IsStore (text f) fs ms d w s → ClearAll (IsNoVector a set) (lines_to w.steps (Then s Empty))
    nest_clear ms d w stands (Store b m cs e) is =
        let n = laned d w stands in
        let u = stored_there (slice_get fs d) is.2 in
        let ks = n.standing.known in
        let at_nest = subst (λ (z : NestText). AreCoordinates ms (names_with f.variables f.changes d) z.at u.0.at cs) n.is u.1.at in
        let long : set.dimensions b ≡ length (variables_at n.body 0 f.variables ks) = ap set.dimensions is.0 ∙ own_long ∙ sym (variables_long n.body 0 f.variables ks) in
        laned_clear a set ms (names_with f.variables f.changes d) w.steps (variables_at n.body 0 f.variables ks) (ranges_at n.body.ranges ks) u.0.at b m cs e n.laned at_nest long
      where
        stored_there : {R : FormulaText → Type 0} (o : Option FormulaText) → IsSomeAnd o R → (x : FormulaText) × R x
        stored_there None h = absurd h
        stored_there (Some x) h = (x, h)
    nest_clear ms d w stands (Seq xs) is = absurd is
    nest_clear ms d w stands (For j x kind body) is = absurd is
    nest_clear ms d w stands (Let j pick forms) is = absurd is
    nest_clear ms d w stands (First j x y) is = absurd is
    nest_clear ms d w stands (Guard low high body) is = absurd is
    nest_clear ms d w stands (Alloc b x places) is = absurd is
    nest_clear ms d w stands (Fetch b x region) is = absurd is
    nest_clear ms d w stands (Publish x) is = absurd is

    nests_clear : (r : List Span1) (ms : Loads) (m at_line d : ℕ) (ns : List NestText) (xs : List Statement) (cs : List CodeClaim) → AreNests (text f) fs r ms m at_line d ns xs cs →
        ((j : ℕ) (w : NestText) → slice_get ns j ≡ Some w → slice_get k.nests (d + j) ≡ Some w) → ClearAll (IsNoVector a set) (block xs)
    nests_clear r ms m at_line d [] xs cs is stands = subst (λ (ys : List Statement). ClearAll (IsNoVector a set) (block ys)) (sym is.0) tt
    nests_clear r ms m at_line d (w ∷ ns) xs [] is stands = absurd is
    nests_clear r ms m at_line d (w ∷ ns) xs (v ∷ cs) is stands =
        let nest = is.here.nest in
        let none : d + 0 ≡ d = omega arith in
        let here : ClearAll (IsNoVector a set) (block is.first) = subst (ClearAll (IsNoVector a set)) (sym nest.comes)
        (nest_clear ms d w (ap (slice_get k.nests) (sym none) ∙ stands 0 w refl) nest.store nest.stores) in
        let rest = nests_clear r (ms ++ (f.name, m) ∷ []) (m + 1) (at_line + block_lines (block is.first)) (d + 1) ns is.others cs is.behind
        (λ j y e. let next : d + suc j ≡ (d + 1) + j = omega arith in ap (slice_get k.nests) (sym next) ∙ stands (suc j) y e) in
        subst (λ (ys : List Statement). ClearAll (IsNoVector a set) (block ys)) (sym is.are) (joined_clear (IsNoVector a set) is.first is.others here rest)

    body_clear : Clear (IsNoVector a set) (statement_of q.body)
    body_clear =
        let b = h.body in
        let publish : List Statement = Publish (last_claim first b.fetches k) ∷ [] in
        let lets = (names_own f.variables (bodies_from f.changes 0 (reductions_of f.changes) fs) placed h.extents k h.laid).lets in
        let nests = nests_clear _ _ _ _ 0 k.nests b.nests b.own b.nested (λ j w e. let none : 0 + j ≡ j = omega arith in ap (slice_get k.nests) none ∙ e) in
        let inner = fetches_clear a set b.fetches (b.nests ++ publish) (joined_clear (IsNoVector a set) b.nests publish nests ((λ e. e), tt)) in
        subst (Clear (IsNoVector a set)) (sym b.with.is)
        (lets_clear a set k.head (block (Alloc 0 f.name (own_places (dimensions_of (text f) h.extents k)) ∷ with_fetches b.fetches (b.nests ++ publish))) lets ((λ e. e), inner))

  none_at : (line : ℕ) → IsNoVectorAt a p c line → ⊥
  none_at line h =
      let x = from_map group_of l.plan.groups.items h.number h.group h.there in
      let q = x.0 in
      let me = made_at a sch l well legal small kept all groups h.number q x.1 in
      let w = found a sch st me.stored a.functions h.number me.is in
      let b = placed_body a entries l.certificate.claims.items 0 0 4 (stored_functions a sch) l.plan.groups.items l.certificate.claims.items l.certificate.needs.items (groups.bodies all)
      (λ j v e. let none : 0 + j ≡ j = omega arith in ap (slice_get l.certificate.claims.items) none ∙ e) h.number me.stored q me.is x.1 in
      let counted : 0 + h.number ≡ h.number = omega arith in
      let there : slice_get (stored_functions a sch) h.number ≡ Some (text w.function) = me.is ∙ ap (λ (u : StoredText). Some u) w.is in
      let body = subst (λ (u : StoredText). HasBody a entries h.number b.first_claim b.line u q b.claims b.needs) w.is
      (subst (λ (i : ℕ). HasBody a entries i b.first_claim b.line me.stored q b.claims b.needs) counted b.body) in
      let clear = body_clear h.number q w.place w.function w.at there b.first_claim b.line b.claims b.needs body in
      let begun : Group → Here = λ u. start (line_told (group_line p h.number)) u in
      let stands = subst (λ (u : Group). Inside (λ s here. (line_told here.line ≡ line) × IsNoVector a (setting_of p c h.number u) s) u.body (begun u)) x.2 h.stands in
      none_inside (IsNoVector a (setting_of p c h.number (group_of q))) line (statement_of q.body) clear (begun (group_of q)) stands

pub fit : VectorsFit
fit a s l well legal small regions groups all once line h = none_at a s l well legal small (regions all).0 all groups once line h
