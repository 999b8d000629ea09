-- What plans of whole functions name and store, a text can say, where it says the algorithm.
use Rattle.std.proofs.Common.{◌≡◌, ℕ, ◌<◌, ◌≤◌, zero, suc, ◌+◌, Bool, true, false, List, [], ◌∷◌, ◌++◌, length, map, Option, Some, None, refl, sym, ap, ◌∙◌, subst, inl, inr, arith}
use Rattle.std.specs.Prelude.{slice_get, IsSomeAnd, ◌&&◌, not, nat_le, if◌then◌else◌}
use Rattle.std.specs.List.{AllByRecursion}
use Rattle.std.proofs.lemmas.Bool.Decides.{nat_tests}
use Rattle.std.proofs.lemmas.Option.{slice_get_within, get_or_from_slice_get}
use Rattle.std.proofs.lemmas.List.{length-map}
use Rattle.std.proofs.lemmas.List.Elements.{recursion_from_All}
use Rattle.tree.specs.Term.{Term}
use Rattle.tree.specs.Tree.{node_count, depth}
use Rattle.tree.specs.Substitution.{with_calls}
use Rattle.lin.specs.Forms.{Form}
use Rattle.lin.specs.declared.span.Span1.{Span1}
use Rattle.lin.specs.declared.scope.Binding.{Binding}
use Rattle.plan.specs.declared.plan.Group.{Group as CodeGroup}
use Rattle.plan.specs.declared.certificate.cert.Claim.{Claim as CodeClaim}
use Rattle.plan.specs.declared.certificate.cert.Need.{Need}
use Rattle.plan.specs.Plan.{Index, At, Found, Coordinate, Statement, Seq, For, Let, First, Guard, Alloc, Fetch, Store, Publish, Statements, Empty, Then, Group, block}
use Rattle.plan.specs.View.{group_of, plan_of, statement_of}
use Rattle.plan.specs.Lines.{block_lines}
use Rattle.plan.specs.Certificate.Certificate.{claim_of, certificate_of}
use Rattle.meaning.specs.Algorithm.{Range, Change, Function, Algorithm}
use Rattle.meaning.specs.Conditions.{IsAlgorithm, is_variable}
use Rattle.meaning.specs.Inlining.PutIn.{put_in, calls_updates}
use Rattle.headline.proofs.Lists.{from_map}
use Rattle.algo.specs.Words.{IsName, IsRangeNamed, IsChangeNamed, IsFunctionNamed, IsNamed}
use Rattle.algo.specs.Written.{IsWritten, IsChangeWritten, IsFunctionWritten, AreExpressionsWritten}
use Rattle.algo.proofs.PutWritten.{put_in_written, renamed_written, depth_renamed}
use Rattle.sched.specs.Schedule.{Schedule}
use Rattle.sched.specs.Legal.{IsLegal, said, loops_after}
use Rattle.sched.specs.Subjects.{subject_said}
use Rattle.sched.specs.declared.skeleton.Step.{Step}
use Rattle.sched.specs.declared.skeleton.Step.TheVariants.{Turns, Named, Tested}
use Rattle.sched.specs.Runs.{lines_to}
use Rattle.sched.specs.Skeleton.{NestText, SkeletonText}
use Rattle.sched.specs.Standing.{◌>>=◌}
use Rattle.lower.specs.declared.lowering.Lowered.{Lowered}
use Rattle.sched.specs.Stored.{FormulaText, StoredText}
use Rattle.blocks.specs.Stored.{stored_by, flags, put, left_put, lefts_put, pure_put, change_put, changes_put, formulas_put, is_small}
use Rattle.lower.specs.Stored.{stored_functions, has_large}
use Rattle.regions.specs.Faults.{are_whole}
use Rattle.lower.specs.Faults.{region_fault}
use Rattle.sched.specs.Around.{grid_scope, range_names, ranges_of, names_with}
use Rattle.regions.specs.Taken.{sites_of}
use Rattle.sched.specs.Loading.{Loads, last_of, name_by, loaded_name, as_load}
use Rattle.blocks.specs.Bodies.{first_lines, IsIndex, AreCoordinates, IsStore, AreNests}
use Rattle.lower.specs.Bodies.{last_claim}
use Rattle.sched.specs.Bodies.{first_left, other_lefts}
use Rattle.sched.specs.Fetches.{Entry}
use Rattle.blocks.specs.Fetches.{FetchText, with_fetches}
use Rattle.lower.specs.Fetches.{Calls, AreFetched, fetched_groups, loads_from}
use Rattle.lower.specs.Groups.{HasBody, HasGroups}
use Rattle.blocks.proofs.Laying.{bound, same}
use Rattle.completeness.specs.Said.{IsCalledBy, IsSaid, IsIndexSaid, IsCoordinateSaid, IsStatementSaid, AreStatementsSaid, IsGroupSaid, IsPlanSaid, PlansAreSaid}
use Rattle.completeness.proofs.Laid.{subjects, found}
use Rattle.completeness.proofs.Bodies.{other_at, entry_at}
use Rattle.completeness.proofs.Served.{ls as regions_found, roots, ready, Made, made_at}
use Rattle.completeness.proofs.ReadBack.{IsClaimOf, AreClaims, HasIf, last_has}
use Rattle.completeness.proofs.Counts.{few_claims}
use Rattle.completeness.proofs.Unlike.{Numbered, first_numbered, second_numbered, placed_body, fetched_loads, all_claims}

all_at : {X : Type 0} (P : X → Type 0) (xs : List X) (k : ℕ) (x : X) → AllByRecursion P xs → slice_get xs k ≡ Some x → P x
all_at P [] k x h e = absurd (cc e)
all_at P (y ∷ xs) zero x h e = let one : y ≡ x = cc e in subst P one h.0
all_at P (y ∷ xs) (suc k) x h e = all_at P xs k x h.1 e

-- ---- definitions with the calls put in

record IsTermGood (v : Term) : Type 0 where
  written : IsWritten v
  levels : depth v ≤ 256

abbrev IsLeftGood : Option Term → Type 0
IsLeftGood None = Unit {0}
IsLeftGood (Some v) = IsTermGood v

record IsFormulaGood (f : FormulaText) : Type 0 where
  value : IsTermGood f.value
  at : AllByRecursion IsLeftGood f.at

few_levels : (nodes levels : ℕ) → (nat_le nodes 4096 && nat_le levels 256) ≡ true → levels ≤ 256
few_levels nodes levels h = let test : nat_le levels 256 ≡ true = second (nat_le nodes 4096) (nat_le levels 256) h in grind (arith, nat_tests)
  where
    second : (a b : Bool) → (a && b) ≡ true → b ≡ true
    second true b h = h
    second false b h = absurd (cc h)

abbrev no_left : List ℕ → Option Term
no_left x = None

none_good : (xs : List (List ℕ)) → AllByRecursion IsLeftGood (map no_left xs)
none_good [] = tt
none_good (x ∷ xs) = (tt, none_good xs)

module _ (a : Algorithm) (st : List Bool) (all : AreExpressionsWritten a) where
  put_good : (d v : Term) → IsWritten d → put a st d ≡ Some v → IsTermGood v
  put_good d v h e = of (calls_updates a st d) (is_small (put_in a st d)) refl e
    where
      of : (b c : Bool) → is_small (put_in a st d) ≡ c → (if not b && c then Some (put_in a st d) else None) ≡ Some v → IsTermGood v
      of false true small q =
          subst IsTermGood (same (put_in a st d) v q) (record { written = put_in_written a st d all h; levels = few_levels (node_count (put_in a st d)) (depth (put_in a st d)) small })
      of false false small q = absurd (cc q)
      of true c small q = absurd (cc q)

  left_good : (x : List ℕ) (e : Term) (o : Option Term) → IsWritten e → left_put a st x e ≡ Some o → IsLeftGood o
  left_good x e o h q = of (is_variable x e) q
    where
      of : (b : Bool) → (if b then Some None else (put a st e >>= λ i. Some (Some i))) ≡ Some o → IsLeftGood o
      of true q = subst IsLeftGood (same None o q) tt
      of false q = let b = bound (put a st e) (λ i. Some (Some i)) o q in subst IsLeftGood (same (Some b.value) o b.comes) (put_good e b.value h b.is)

  lefts_good : (xs : List (List ℕ)) (es : List Term) (os : List (Option Term)) → AllByRecursion IsWritten es → lefts_put a st xs es ≡ Some os → AllByRecursion IsLeftGood os
  lefts_good [] [] os h q = subst (AllByRecursion IsLeftGood) (same [] os q) tt
  lefts_good [] (e ∷ es) os h q = subst (AllByRecursion IsLeftGood) (same [] os q) tt
  lefts_good (x ∷ xs) [] os h q = subst (AllByRecursion IsLeftGood) (same [] os q) tt
  lefts_good (x ∷ xs) (e ∷ es) os h q =
      let m = bound (left_put a st x e) (λ o. lefts_put a st xs es >>= λ os. Some (o ∷ os)) os q in
      let r = bound (lefts_put a st xs es) (λ os. Some (m.value ∷ os)) os m.comes in
      subst (AllByRecursion IsLeftGood) (same (m.value ∷ r.value) os r.comes) (left_good x e m.value h.0 m.is, lefts_good xs es r.value h.1 r.is)

  pure_good : (xs : List (List ℕ)) (e : Term) (f : FormulaText) → IsWritten e → pure_put a st xs e ≡ Some f → IsFormulaGood f
  pure_good xs e f h q =
      let b = bound (put a st e) (λ v. Some (record { at = map (λ x. None) xs; value = v })) f q in
      subst IsFormulaGood (same (record { at = map (λ x. None) xs; value = b.value }) f b.comes) (record { value = put_good e b.value h b.is; at = none_good xs })

  change_good : (xs : List (List ℕ)) (u : Change) (f : FormulaText) → IsChangeWritten u → change_put a st xs u ≡ Some f → IsFormulaGood f
  change_good xs u f h q =
      let m = bound (lefts_put a st xs u.at) (λ at. put a st u.value >>= λ v. Some (record { at = at; value = v })) f q in
      let r = bound (put a st u.value) (λ v. Some (record { at = m.value; value = v })) f m.comes in
      subst IsFormulaGood (same (record { at = m.value; value = r.value }) f r.comes)
      (record { value = put_good u.value r.value h.right r.is; at = lefts_good xs u.at m.value (recursion_from_All IsWritten u.at h.left) m.is })

  changes_good : (xs : List (List ℕ)) (us : List Change) (fs : List FormulaText) → AllByRecursion IsChangeWritten us → changes_put a st xs us ≡ Some fs → AllByRecursion IsFormulaGood fs
  changes_good xs [] fs h q = subst (AllByRecursion IsFormulaGood) (same [] fs q) tt
  changes_good xs (u ∷ us) fs h q =
      let b = bound (change_put a st xs u) (λ f. changes_put a st xs us >>= λ fs. Some (f ∷ fs)) fs q in
      let c = bound (changes_put a st xs us) (λ fs. Some (b.value ∷ fs)) fs b.comes in
      subst (AllByRecursion IsFormulaGood) (same (b.value ∷ c.value) fs c.comes) (change_good xs u b.value h.0 b.is, changes_good xs us c.value h.1 c.is)

  formulas_good : (f : Function) (fs : List FormulaText) → IsFunctionWritten f → formulas_put a st f.variables f.value f.changes ≡ Some fs → AllByRecursion IsFormulaGood fs
  formulas_good f fs h q =
      let b = bound (pure_put a st f.variables f.value) (λ u. changes_put a st f.variables f.changes >>= λ us. Some (u ∷ us)) fs q in
      let c = bound (changes_put a st f.variables f.changes) (λ us. Some (b.value ∷ us)) fs b.comes in
      subst (AllByRecursion IsFormulaGood) (same (b.value ∷ c.value) fs c.comes)
      (pure_good f.variables f.value b.value h.pure b.is, changes_good f.variables f.changes c.value (recursion_from_All IsChangeWritten f.changes h.changes) c.is)

-- ---- names

both_named : (xs ys : List (List ℕ)) → AllByRecursion IsName xs → AllByRecursion IsName ys → AllByRecursion IsName (xs ++ ys)
both_named [] ys h k = k
both_named (x ∷ xs) ys h k = (h.0, both_named xs ys h.1 k)

ranges_named : (ds : List Range) → AllByRecursion IsRangeNamed ds → AllByRecursion IsName (range_names ds)
ranges_named [] h = tt
ranges_named (d ∷ ds) h = (h.0, ranges_named ds h.1)

changes_named : (us : List Change) (d : ℕ) → AllByRecursion IsChangeNamed us → AllByRecursion IsName (range_names (ranges_of us d))
changes_named us zero h = tt
changes_named us (suc k) h = of (slice_get us k) refl
  where
    of : (o : Option Change) → slice_get us k ≡ o → AllByRecursion IsName (range_names (elim o [ Some u ↦ u.ranges | None ↦ [] ]))
    of None e = tt
    of (Some u) e = ranges_named u.ranges (recursion_from_All IsRangeNamed u.ranges (all_at IsChangeNamed us k u h e))

names_named : (f : Function) (d : ℕ) → IsFunctionNamed f → AllByRecursion IsName (names_with f.variables f.changes d)
names_named f d h =
    both_named f.variables (range_names (ranges_of f.changes d)) (recursion_from_All IsName f.variables h.variables) (changes_named f.changes d (recursion_from_All IsChangeNamed f.changes h.changes))

function_named : (a : Algorithm) → IsNamed a → (k : ℕ) (f : Function) → slice_get a.functions k ≡ Some f → IsFunctionNamed f
function_named a h k f at = subst IsFunctionNamed (get_or_from_slice_get a.functions k f f at) (h.functions k f (slice_get_within a.functions k f at))

function_written : (a : Algorithm) → AreExpressionsWritten a → (k : ℕ) (f : Function) → slice_get a.functions k ≡ Some f → IsFunctionWritten f
function_written a h k f at = subst IsFunctionWritten (get_or_from_slice_get a.functions k f f at) (h k f (slice_get_within a.functions k f at))

-- ---- stores

module _ (items : List CodeClaim) (ms : Loads) (loads : AreClaims items ms) where
  abbrev counted : ℕ
  counted = length (map claim_of items)

  loaded : (x : List ℕ) → IsName x → IsCalledBy counted (loaded_name ms x)
  loaded x h = of (last_of None ms x) (last_has (λ y k. IsClaimOf items y k) x ms None loads tt)
    where
      of : (o : Option ℕ) → HasIf (λ y k. IsClaimOf items y k) x o → IsCalledBy counted (name_by o x)
      of None k = inl h
      of (Some c) k = inr (c, subst (λ (n : ℕ). c < n) (sym (length-map items claim_of)) (slice_get_within items c k.0 k.1), refl)

  term_said : (e : Term) → IsTermGood e → IsSaid counted (with_calls (as_load ms) e)
  term_said e h = record {
    written = renamed_written IsName (IsCalledBy counted) (loaded_name ms) loaded e h.written;
    levels = subst (λ (n : ℕ). n ≤ 256) (sym (depth_renamed (loaded_name ms) e)) h.levels;
  }

  index_said : (o : Option Form) (left : Option Term) (i : Index) → IsLeftGood left → IsIndex ms o left i → IsIndexSaid counted i
  index_said (Some f) left (At g) h k = tt
  index_said (Some f) left (Found t) h k = absurd k
  index_said None left (At g) h k = absurd k
  index_said None None (Found t) h k = absurd k
  index_said None (Some v) (Found t) h k = subst (IsSaid counted) (sym k) (term_said v h)

  first_good : (lefts : List (Option Term)) → AllByRecursion IsLeftGood lefts → IsLeftGood (first_left lefts)
  first_good [] h = tt
  first_good (o ∷ lefts) h = h.0

  others_good : (lefts : List (Option Term)) → AllByRecursion IsLeftGood lefts → AllByRecursion IsLeftGood (other_lefts lefts)
  others_good [] h = tt
  others_good (o ∷ lefts) h = h.1

  coordinates_said : (xs : List (List ℕ)) (os : List (Option Form)) (lefts : List (Option Term)) (cs : List Coordinate) → AllByRecursion IsName xs → AllByRecursion IsLeftGood lefts →
      AreCoordinates ms xs os lefts cs → AllByRecursion (IsCoordinateSaid counted) cs
  coordinates_said xs [] lefts [] named good k = tt
  coordinates_said xs [] lefts (c ∷ cs) named good k = absurd k
  coordinates_said [] (o ∷ os) lefts cs named good k = absurd k
  coordinates_said (x ∷ xs) (o ∷ os) lefts [] named good k = absurd k
  coordinates_said (x ∷ xs) (o ∷ os) lefts (c ∷ cs) named good k = (
    record { variable = subst IsName (sym k.0) named.0; index = index_said o (first_left lefts) c.index (first_good lefts good) k.1 },
    coordinates_said xs os (other_lefts lefts) cs named.1 (others_good lefts good) k.2,
  )

some_and : {A : Type 0} (P : A → Type 0) (o : Option A) → IsSomeAnd o P → (x : A) × (o ≡ Some x) × P x
some_and P None h = absurd h
some_and P (Some x) h = (x, refl, h)

-- ---- bodies

joined_said : (count : ℕ) (xs ys : List Statement) → AreStatementsSaid count (block xs) → AreStatementsSaid count (block ys) → AreStatementsSaid count (block (xs ++ ys))
joined_said count [] ys h k = k
joined_said count (a ∷ xs) ys h k = (h.0, joined_said count xs ys h.1 k)

steps_said : (count : ℕ) (ss : List Step) (inner : Statements) → AreStatementsSaid count inner → AreStatementsSaid count (lines_to ss inner)
steps_said count [] inner x = x
steps_said count (Turns j span kind ∷ ss) inner x = (steps_said count ss inner x, tt)
steps_said count (Named j pick forms ∷ ss) inner x = (tt, steps_said count ss inner x)
steps_said count (Tested low high ∷ ss) inner x = (steps_said count ss inner x, tt)

abbrev IsFetchNamed : FetchText → Type 0
IsFetchNamed f = IsName f.function

fetches_said : (count : ℕ) (xs : List FetchText) (rest : List Statement) → AllByRecursion IsFetchNamed xs → AreStatementsSaid count (block rest)
    → AreStatementsSaid count (block (with_fetches xs rest))
fetches_said count [] rest h x = x
fetches_said count (y ∷ xs) rest h x = (h.0, (tt, fetches_said count xs rest h.1 x))

fetches_named : (calls : Calls) (grid : List Binding) (n b line : ℕ) (xs : List (ℕ × Entry)) (fs : List FetchText) (ws : List Need) (cs : List CodeClaim) →
    AreFetched calls grid n b line xs fs ws cs → ((j : ℕ) (x : ℕ × Entry) → slice_get xs j ≡ Some x → IsName x.1.0.subject.name) → AllByRecursion IsFetchNamed fs
fetches_named calls grid n b line [] [] [] [] h named = tt
fetches_named calls grid n b line [] [] [] (w ∷ cs) h named = absurd h
fetches_named calls grid n b line [] [] (w ∷ ws) cs h named = absurd h
fetches_named calls grid n b line [] (f ∷ fs) ws cs h named = absurd h
fetches_named calls grid n b line (x ∷ xs) [] ws cs h named = absurd h
fetches_named calls grid n b line (x ∷ xs) (f ∷ fs) [] cs h named = absurd h
fetches_named calls grid n b line (x ∷ xs) (f ∷ fs) (w ∷ ws) [] h named = absurd h
fetches_named calls grid n b line (x ∷ xs) (f ∷ fs) (w ∷ ws) (k ∷ cs) h named =
    (subst IsName (sym h.0.named) (named 0 x refl), fetches_named calls grid n (b + 1) (line + 2) xs fs ws cs h.2 (λ j y e. named (suc j) y e))

module _ (a : Algorithm) (sch : Schedule) (l : Lowered) (well : IsAlgorithm a) (legal : IsLegal a sch) (small : has_large (stored_functions a sch) ≡ false)
    (kept : region_fault a (stored_functions a sch) ≡ None) (all : are_whole (stored_functions a sch) ≡ true) (groups : HasGroups a (stored_functions a sch) l)
    (named : IsNamed a) (written : AreExpressionsWritten a) where
  abbrev items : List CodeClaim
  items = l.certificate.claims.items

  abbrev total : ℕ
  total = length (map claim_of items)

  abbrev st : List Bool
  st = flags (subjects a sch)

  abbrev stored : List StoredText
  stored = stored_functions a sch

  abbrev entries : List Entry
  entries = roots a sch l well legal small kept all groups

  abbrev text : Function → StoredText
  text f = stored_by a st f.variables f.value f.changes (subject_said a sch f) (loops_after (said sch) f)

  -- each stored function has the name of a function
  stored_named : (n : ℕ) (g : StoredText) → slice_get stored n ≡ Some g → IsName g.subject.name
  stored_named n g at =
      let w = found a sch st g a.functions n at in
      subst (λ (u : StoredText). IsName u.subject.name) (sym w.is) (function_named a named w.place w.function w.at).name

  fetched_named : (fs : List _) (n j : ℕ) (x : ℕ × Entry) → slice_get (fetched_groups fs n 0 entries) j ≡ Some x → IsName x.1.0.subject.name
  fetched_named fs n j x e =
      let other = other_at fs n 0 entries j x e in
      let entry = entry_at stored (regions_found a sch l well legal small kept all groups) all (ready a sch l well legal small kept all groups) other.place x.1 other.at in
      stored_named other.place x.1.0 entry.is

  module _ (q : CodeGroup) (place : ℕ) (f : Function) (at : slice_get a.functions place ≡ Some f) (n first line : ℕ) (claims : List CodeClaim) (needs : List Need)
      (h : HasBody a entries n first line (text f) q claims needs) (numbered : Numbered a entries items first claims) where
    abbrev fs : List FormulaText
    fs = h.formulas

    abbrev k : SkeletonText
    k = h.skeleton

    own : IsFunctionNamed f
    own = function_named a named place f at

    good : AllByRecursion IsFormulaGood fs
    good = formulas_good a st written f fs (function_written a written place f at) h.defined

    store_said : (ms : Loads) → AreClaims items ms → (d : ℕ) (w : NestText) (s : Statement) → IsStore (text f) fs ms d w s → IsStatementSaid total s
    store_said ms loads d w (Store b kk cs e) is =
        let u = some_and _ (slice_get fs d) is.2 in
        let formula = all_at IsFormulaGood fs d u.0 good u.1 in (
          coordinates_said items ms loads (names_with f.variables f.changes d) w.at u.0.at cs (names_named f d own) formula.at u.2.at,
          subst (IsSaid total) (sym u.2.value) (term_said items ms loads u.0.value formula.value),
        )
    store_said ms loads d w (Seq xs) is = absurd is
    store_said ms loads d w (For j x kind body) is = absurd is
    store_said ms loads d w (Let j pick forms) is = absurd is
    store_said ms loads d w (First j x y) is = absurd is
    store_said ms loads d w (Guard low high body) is = absurd is
    store_said ms loads d w (Alloc b x places) is = absurd is
    store_said ms loads d w (Fetch b x region) is = absurd is
    store_said ms loads d w (Publish x) is = absurd is

    nests_said : (r : List Span1) (ms : Loads) (m at_line d : ℕ) (ns : List NestText) (xs : List Statement) (cs : List CodeClaim) →
        AreNests (text f) fs r ms m at_line d ns xs cs → AreClaims items ms → Numbered a entries items m cs → AreStatementsSaid total (block xs)
    nests_said r ms m at_line d [] xs cs is loads count = subst (λ (ys : List Statement). AreStatementsSaid total (block ys)) (sym is.0) tt
    nests_said r ms m at_line d (w ∷ ns) xs [] is loads count = absurd is
    nests_said r ms m at_line d (w ∷ ns) xs (v ∷ cs) is loads count =
        let nest = is.here.nest in
        let zero_claim : m + 0 ≡ m = omega arith in
        let store = store_said ms loads d w nest.store nest.stores in
        let here : AreStatementsSaid total (block is.first) = subst (AreStatementsSaid total) (sym nest.comes) (steps_said total w.steps (Then nest.store Empty) (store, tt)) in
        let claim : IsClaimOf items f.name m = (v, ap (slice_get items) (sym zero_claim) ∙ count 0 v refl, is.here.claims.named) in
        let rest = nests_said r (ms ++ (f.name, m) ∷ []) (m + 1) (at_line + block_lines (block is.first)) (d + 1) ns is.others cs is.behind
        (all_claims a entries items ms ((f.name, m) ∷ []) loads (claim, tt))
        (λ j y e. let next : m + suc j ≡ (m + 1) + j = omega arith in ap (slice_get items) (sym next) ∙ count (suc j) y e) in
        subst (λ (ys : List Statement). AreStatementsSaid total (block ys)) (sym is.are) (joined_said total is.first is.others here rest)

    body_said : IsStatementSaid total (statement_of q.body)
    body_said =
        let b = h.body in
        let listed_groups = fetched_groups fs n 0 entries in
        let before_own = first_numbered a entries items first claims b.fetched b.own b.claimed numbered in
        let loads = fetched_loads a entries items (sites_of a (text f) fs k) (grid_scope k.grid) n 1 (line + first_lines k) listed_groups b.fetches needs b.fetched b.fetching first before_own in
        let fetches = fetches_named (sites_of a (text f) fs k) (grid_scope k.grid) n 1 (line + first_lines k) listed_groups b.fetches needs b.fetched b.fetching (fetched_named fs n) in
        let own_numbered = second_numbered a entries items first claims b.fetched b.own b.claimed numbered in
        let count : Numbered a entries items (first + length b.fetches) b.own = subst (λ (m : ℕ). Numbered a entries items (first + m) b.own) loads.1 own_numbered in
        let nests = nests_said _ (loads_from first b.fetches) (first + length b.fetches) _ 0 k.nests b.nests b.own b.nested loads.0 count in
        let publish = Publish (last_claim first b.fetches k) in
        let inner = fetches_said total b.fetches (b.nests ++ publish ∷ []) fetches (joined_said total b.nests (publish ∷ []) nests (tt, tt)) in
        subst (IsStatementSaid total) (sym b.with.is) (steps_said total k.head (block (Alloc 0 f.name _ ∷ with_fetches b.fetches (b.nests ++ publish ∷ []))) (own.name, inner))

  made_said : (n : ℕ) (q : CodeGroup) → slice_get l.plan.groups.items n ≡ Some q → Made a sch l well legal small kept all groups n q → IsGroupSaid total (group_of q)
  made_said n q there me =
      let w = found a sch st me.stored a.functions n me.is in
      let b = placed_body a entries items 0 0 4 stored l.plan.groups.items items l.certificate.needs.items (groups.bodies all)
      (λ j v e. let none : 0 + j ≡ j = omega arith in ap (slice_get items) none ∙ e) n me.stored q me.is there in
      let body = subst (λ (u : StoredText). HasBody a entries (0 + n) b.first_claim b.line u q b.claims b.needs) w.is b.body in
      record {
        function = subst IsName (sym me.named) (stored_named n me.stored me.is);
        body = body_said q w.place w.function w.at (0 + n) b.first_claim b.line b.claims b.needs body b.numbered;
      }

  group_said : (n : ℕ) (g : Group) → slice_get (map group_of l.plan.groups.items) n ≡ Some g → IsGroupSaid total g
  group_said n g there =
      let x = from_map group_of l.plan.groups.items n g there in
      subst (IsGroupSaid total) (sym x.2) (made_said n x.0 x.1 (made_at a sch l well legal small kept all groups n x.0 x.1))

  few : total < 10000
  few = subst (λ (n : ℕ). n < 10000) (sym (length-map items claim_of)) (few_claims a sch l well legal small kept all groups)

  plan_said : IsPlanSaid (plan_of l.plan) (certificate_of l.certificate)
  plan_said = record {
    name = subst IsName (sym groups.head.named) named.name;
    input = subst IsName (sym groups.head.input.named) named.input;
    output = subst IsName (sym groups.head.output.named) named.output;
    few = few;
    groups = group_said;
  }

pub plans_are_said : PlansAreSaid
plans_are_said a s l well legal small regions groups all named written = plan_said a s l well legal small (regions all).0 all groups named written
