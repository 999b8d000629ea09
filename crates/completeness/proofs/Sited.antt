-- What a piece fetches, and the pieces that it needs, are told by symbols of its grid alone.
use Rattle.std.proofs.Common.{◌≡◌, ℕ, zero, suc, ◌+◌, ◌-◌, ◌<◌, ◌≤◌, Bool, true, false, ◌&&◌, ◌||◌, not, List}
use Rattle.std.proofs.Common.{[], ◌∷◌, ◌++◌, length, map, Option, Some, None, refl, sym, ap, ◌∙◌, subst, inl, inr, arith}
use Rattle.std.specs.Prelude.{ℤ, pos, ◌+ℤ◌, ◌-ℤ◌, ◌==◌, nat_lt, int_le, replicate, if◌then◌else◌, slice_get}
use Rattle.std.specs.List.{AllByRecursion}
use Rattle.std.proofs.lemmas.Bool.Decides.{nat_tests}
use Rattle.std.proofs.lemmas.List.{length-append, length-replicate}
use Rattle.std.proofs.lemmas.List.Elements.{recursion_from_All}
use Rattle.numeric.specs.Apply.{quotient}
use Rattle.numeric.specs.declared.ty.Ty.TheVariants.{I32}
use Rattle.tree.specs.Term.{Term, Terms, End, More}
use Rattle.lin.specs.Forms.{Form, number, combined}
use Rattle.lin.specs.declared.form.Multiple.{Multiple}
use Rattle.lin.specs.declared.scope.Binding.{Binding}
use Rattle.lin.specs.declared.scope.Binding.TheVariants.{Loop, LetMin, LetMax}
use Rattle.lin.specs.declared.span.Span1.{Span1}
use Rattle.lin.proofs.TermLemmas.{all_weaker}
use Rattle.bounds.specs.Spans.{range_of}
use Rattle.bounds.specs.Projection.Elimination.{is_inner, names_inner}
use Rattle.bounds.proofs.ListSound.{all-append}
use Rattle.bounds.proofs.Names.{outer_terms}
use Rattle.bounds.proofs.ProjectionSound.{span-outer}
use Rattle.plan.specs.declared.stmt.Pick.TheVariants.{Min, Max}
use Rattle.plan.specs.declared.stmt.Places.{Places}
use Rattle.plan.specs.declared.stmt.Places.TheVariants.{From, Folded}
use Rattle.meaning.specs.Algorithm.{Algorithm}
use Rattle.meaning.specs.Names.{same_name}
use Rattle.algo.specs.Scoping.Standing.{Written}
use Rattle.headline.proofs.Members.{got}
use Rattle.sched.specs.declared.placing.Loop.{Loop as LoopMade}
use Rattle.sched.specs.declared.numbers.Extent.{Extent}
use Rattle.sched.specs.declared.skeleton.Step.{Step}
use Rattle.sched.specs.declared.skeleton.Step.TheVariants.{Turns, Named, Tested}
use Rattle.sched.specs.Placing.{is_parallel}
use Rattle.sched.specs.Skeleton.{NestText, SkeletonText}
use Rattle.sched.specs.Order.{Ordered, BindInOrder}
use Rattle.sched.specs.Standing.{◌>>=◌, alone}
use Rattle.sched.specs.Called.{called}
use Rattle.sched.specs.Stored.{FormulaText, StoredText, calls_in, left_at}
use Rattle.sched.specs.Around.{AroundText, anything, skip_to, bind, bind_steps, grid_scope, head_scope, left_around, form_span, coordinate_span, coordinates_behind, interval_in, around}
use Rattle.sched.specs.Regions.{symbols_from}
use Rattle.sched.specs.Blocks.{difference}
use Rattle.sched.specs.Taken.{SiteText}
use Rattle.regions.specs.Taken.{add_spans, add_call, add_calls, with_site, add_site, add_asked, add_sites}
use Rattle.regions.specs.Taken.{sites_of, either, with_call, with_calls, with_sites, needed_span, is_number, add_symbolic}
use Rattle.sched.specs.Taken.{freed}
use Rattle.regions.specs.Taken.{greatest_from, least_from, cut, or_all, is_shown, shown, seated, needed_part, tight, part_of, taken_region, taken_places}
use Rattle.sched.specs.Taken.{shortest, run_of, places_count}
use Rattle.regions.specs.Needs.{is_multiple, plus_part, plus_parts, divided, block_at, add_blocks, blocks_over, length_at}
use Rattle.regions.specs.Needs.{low_at, turns_over, turns_found, turns_needed, or_all_turns, loops_needed, first_count, other_counts}
use Rattle.regions.specs.Needs.{or_one_piece, pieces_needed}
use Rattle.blocks.proofs.Laying.{bound, same}
use Rattle.completeness.proofs.Only.{Only, AreOnly, SpanOnly, BindsOnly, only_combined, choice_only, interval_only, projected_only}
use Rattle.completeness.proofs.Standing.{Binds, Here, OnlyIf, OverGrid, NamesOwn}

-- the origin of places names these symbols alone
abbrev pub PlaceOnly : (ℕ → Type 0) → Places → Type 0
PlaceOnly P (From f n) = Only P f
PlaceOnly P (Folded n) = Unit {0}

form_at : (P : ℕ → Type 0) (fs : List Form) (k : ℕ) (f : Form) → AreOnly P fs → slice_get fs k ≡ Some f → Only P f
form_at P [] k f a e = absurd (let q : None ≡ Some f = e in cc q)
form_at P (g ∷ fs) zero f a e = subst (Only P) (same g f e) a.0
form_at P (g ∷ fs) (suc k) f a e = form_at P fs k f a.1 e

-- a dimension of what is fetched, with its places
abbrev Given : (A B : Type 0) → (A → Option B) → Type 0
Given A B f = B

abbrev Part : Type 0
Part = Given _ _ (λ s. seated [] [] 0 s)

-- ---- how many symbols are bound

skip_long : (scope : List Binding) (s : ℕ) → (length scope ≤ length (skip_to scope s)) × (s ≤ length (skip_to scope s))
skip_long scope s =
    let all = length-append scope (replicate (s - length scope) (Loop anything)) in
    let many = length-replicate (s - length scope) (Loop anything) in
    (omega (arith, all), omega (arith, all, many))

pub bind_long : (scope : List Binding) (s : ℕ) (b : Binding) → (length scope ≤ length (bind scope s b)) × (s < length (bind scope s b))
bind_long scope s b =
    let h = skip_long scope s in
    let low = h.0 in
    let high = h.1 in
    let all = length-append (skip_to scope s) (b ∷ []) in
    (omega (arith, low, all), omega (arith, high, all))

steps_long : (scope : List Binding) (ts : List Step) → length scope ≤ length (bind_steps scope ts)
steps_long scope [] = omega arith
steps_long scope (Turns s x kind ∷ ts) = let one = (bind_long scope s (Loop x)).0 in let rest = steps_long (bind scope s (Loop x)) ts in omega (arith, one, rest)
steps_long scope (Named s Min fs ∷ ts) = let one = (bind_long scope s (LetMin fs)).0 in let rest = steps_long (bind scope s (LetMin fs)) ts in omega (arith, one, rest)
steps_long scope (Named s Max fs ∷ ts) = let one = (bind_long scope s (LetMax fs)).0 in let rest = steps_long (bind scope s (LetMax fs)) ts in omega (arith, one, rest)
steps_long scope (Tested low high ∷ ts) = steps_long scope ts

bound_below : (scope : List Binding) (ts : List Step) (s : ℕ) → Binds ts s → s < length (bind_steps scope ts)
bound_below scope [] s h = absurd h
bound_below scope (Turns i x kind ∷ ts) s (inl e) = let one = (bind_long scope i (Loop x)).1 in let rest = steps_long (bind scope i (Loop x)) ts in omega (arith, one, rest, e)
bound_below scope (Turns i x kind ∷ ts) s (inr h) = bound_below (bind scope i (Loop x)) ts s h
bound_below scope (Named i Min fs ∷ ts) s (inl e) = let one = (bind_long scope i (LetMin fs)).1 in let rest = steps_long (bind scope i (LetMin fs)) ts in omega (arith, one, rest, e)
bound_below scope (Named i Min fs ∷ ts) s (inr h) = bound_below (bind scope i (LetMin fs)) ts s h
bound_below scope (Named i Max fs ∷ ts) s (inl e) = let one = (bind_long scope i (LetMax fs)).1 in let rest = steps_long (bind scope i (LetMax fs)) ts in omega (arith, one, rest, e)
bound_below scope (Named i Max fs ∷ ts) s (inr h) = bound_below (bind scope i (LetMax fs)) ts s h
bound_below scope (Tested low high ∷ ts) s h = bound_below scope ts s h

abbrev pub Below : ℕ → ℕ → Type 0
Below n s = s < n

-- ---- what is known of symbols

anything_only : (n m : ℕ) → AllByRecursion (BindsOnly (Below n)) (replicate m (Loop anything))
anything_only n zero = tt
anything_only n (suc m) = ((tt, tt), anything_only n m)

skip_only : (n : ℕ) (scope : List Binding) (s : ℕ) → AllByRecursion (BindsOnly (Below n)) scope → AllByRecursion (BindsOnly (Below n)) (skip_to scope s)
skip_only n scope s h = all-append (BindsOnly (Below n)) scope (replicate (s - length scope) (Loop anything)) h (anything_only n (s - length scope))

bind_only : (n : ℕ) (scope : List Binding) (s : ℕ) (b : Binding) → AllByRecursion (BindsOnly (Below n)) scope → BindsOnly (Below n) b → AllByRecursion (BindsOnly (Below n)) (bind scope s b)
bind_only n scope s b h k = all-append (BindsOnly (Below n)) (skip_to scope s) (b ∷ []) (skip_only n scope s h) (k, tt)

scope_only : (n : ℕ) (scope : List Binding) (from to : ℕ) (ts : List Step) → Ordered from ts to → length (bind_steps scope ts) ≤ n → AllByRecursion (BindsOnly (Below n)) scope →
    AllByRecursion (BindsOnly (Below n)) (bind_steps scope ts)
scope_only n scope from to [] o le h = h
scope_only n scope from to (Turns i x kind ∷ ts) o le h =
    let first = o.0 in
    let one = (bind_long scope i (Loop x)).1 in
    let rest = steps_long (bind scope i (Loop x)) ts in
    let good = all_weaker (λ f. _) (Only (Below n))
    (λ f g. all_weaker (λ t. t.symbol < from) (λ t. t.symbol < n) (λ t k. omega (arith, k, first, one, rest, le)) f.terms g.below) o.1.limits o.1.good in
    let spans : BindsOnly (Below n) (Loop x) = subst (SpanOnly (Below n)) (sym o.1.is) ((tt, tt), (tt, good)) in
    scope_only n (bind scope i (Loop x)) (from + 1) to ts o.2 le (bind_only n scope i (Loop x) h spans)
scope_only n scope from to (Named i Min fs ∷ ts) o le h =
    let first = o.0 in
    let one = (bind_long scope i (LetMin fs)).1 in
    let rest = steps_long (bind scope i (LetMin fs)) ts in
    let good = all_weaker (λ t. t.symbol < from) (λ t. t.symbol < n) (λ t k. omega (arith, k, first, one, rest, le)) o.2.form.terms o.2.good.below in
    let forms : BindsOnly (Below n) (LetMin fs) = subst (AreOnly (Below n)) (sym o.2.is) (good, (tt, tt)) in
    scope_only n (bind scope i (LetMin fs)) (from + 1) to ts o.3 le (bind_only n scope i (LetMin fs) h forms)
scope_only n scope from to (Named i Max fs ∷ ts) o le h = absurd (cc o.1)
scope_only n scope from to (Tested low high ∷ ts) o le h = scope_only n scope from to ts o le h

grid_binds : (n : ℕ) (counts : List ℕ) → AllByRecursion (BindsOnly (Below n)) (grid_scope counts)
grid_binds n [] = tt
grid_binds n (c ∷ cs) = (((tt, tt), (tt, tt)), grid_binds n cs)

-- ---- calls

forms_only : (P : ℕ → Type 0) (os : List (Option Form)) → AllByRecursion (OnlyIf P) os → AllByRecursion (SpanOnly P) (map form_span os)
forms_only P [] h = tt
forms_only P (None ∷ os) h = (((tt, tt), (tt, tt)), forms_only P os h.1)
forms_only P (Some f ∷ os) h = (((h.0, tt), (h.0, tt)), forms_only P os h.1)

module _ (P : ℕ → Type 0) (a : Algorithm) (r : AroundText) (only : AllByRecursion (SpanOnly P) r.coordinates) where
  index_only : (e : Term) (s : Span1) → interval_in a r e ≡ Some s → SpanOnly P s
  index_only e s q = interval_only P r.scope (called a) r.variables r.coordinates only e s q

  coordinate_only : (o : Option Form) (i : Option Term) (s : Span1) → OnlyIf P o → coordinate_span a r o i ≡ Some s → SpanOnly P s
  coordinate_only (Some f) i s h q = subst (SpanOnly P) (same _ s q) ((h, tt), (h, tt))
  coordinate_only None (Some e) s h q = index_only e s q
  coordinate_only None None s h q = subst (SpanOnly P) (same (range_of I32) s q) ((tt, tt), (tt, tt))

  coordinates_only : (f : FormulaText) (before : List Span1) (d : ℕ) (os : List (Option Form)) (cs : List Span1) → AllByRecursion (SpanOnly P) before → AllByRecursion (OnlyIf P) os →
      coordinates_behind a r f before d os ≡ Some cs → AllByRecursion (SpanOnly P) cs
  coordinates_only f before d [] cs h k q = subst (AllByRecursion (SpanOnly P)) (same before cs q) h
  coordinates_only f before d (o ∷ os) cs h k q =
      let b = bound (coordinate_span a r o (left_at f d)) (λ s. coordinates_behind a r f (before ++ s ∷ []) (d + 1) os) cs q in
      coordinates_only f (before ++ b.value ∷ []) (d + 1) os cs (all-append (SpanOnly P) before (b.value ∷ []) h (coordinate_only o (left_at f d) b.value k.0 b.is, tt)) k.1 b.comes

  spans_only : (es : Terms) (before ss : List Span1) → AllByRecursion (SpanOnly P) before → add_spans a r es before ≡ Some ss → AllByRecursion (SpanOnly P) ss
  spans_only End before ss h q = subst (AllByRecursion (SpanOnly P)) (same before ss q) h
  spans_only (More e es) before ss h q =
      let b = bound (interval_in a r e) (λ s. add_spans a r es (before ++ s ∷ [])) ss q in
      spans_only es (before ++ b.value ∷ []) ss (all-append (SpanOnly P) before (b.value ∷ []) h (index_only e b.value b.is, tt)) b.comes

  abbrev CallsOnly : List (List Span1) → Type 0
  CallsOnly cs = AllByRecursion (AllByRecursion (SpanOnly P)) cs

  call_only : (x : List ℕ) (c : Written) (before cs : List (List Span1)) → CallsOnly before → add_call a r x c before ≡ Some cs → CallsOnly cs
  call_only x c before cs h q = of (same_name c.name x) q
    where
      of : (b : Bool) → (if b then (add_spans a r c.at [] >>= λ ss. Some (before ++ ss ∷ [])) else Some before) ≡ Some cs → CallsOnly cs
      of true k =
          let b = bound (add_spans a r c.at []) (λ ss. Some (before ++ ss ∷ [])) cs k in
          subst CallsOnly (same (before ++ b.value ∷ []) cs b.comes) (all-append (AllByRecursion (SpanOnly P)) before (b.value ∷ []) h (spans_only c.at [] b.value tt b.is, tt))
      of false k = subst CallsOnly (same before cs k) h

  pub calls_only : (x : List ℕ) (ws : List Written) (before cs : List (List Span1)) → CallsOnly before → add_calls a r x ws before ≡ Some cs → CallsOnly cs
  calls_only x [] before cs h q = subst CallsOnly (same before cs q) h
  calls_only x (w ∷ ws) before cs h q =
      let b = bound (add_call a r x w before) (add_calls a r x ws) cs q in calls_only x ws b.value cs (call_only x w before b.value h b.is) b.comes

-- ---- where the calls stand

pub record SiteOnly (t : SiteText) : Type 0 where
  pub binds : AllByRecursion (BindsOnly (Below (length t.scope))) t.scope
  pub calls : AllByRecursion (AllByRecursion (SpanOnly (Below (length t.scope)))) t.calls

site_only : (scope : List Binding) (cs : List (List Span1)) (before : List SiteText) → AllByRecursion (BindsOnly (Below (length scope))) scope →
    AllByRecursion (AllByRecursion (SpanOnly (Below (length scope)))) cs → AllByRecursion SiteOnly before → AllByRecursion SiteOnly (with_site scope cs before)
site_only scope [] before b k h = h
site_only scope (c ∷ cs) before b k h = all-append SiteOnly before (record { scope = scope; calls = c ∷ cs } ∷ []) h (record { binds = b; calls = k }, tt)

-- the nest's steps bind in order behind the head, and its coordinates name what is bound
record IsGood (k : SkeletonText) (n : NestText) : Type 0 where
  from : ℕ
  to : ℕ
  steps : Ordered from n.steps to
  at : AllByRecursion (OnlyIf (Here (OverGrid k) n.steps)) n.at

module _ (k : SkeletonText) (next : ℕ) (head : Ordered (length k.grid) k.head next) where
  head_binds : (n : ℕ) → length (head_scope k) ≤ n → AllByRecursion (BindsOnly (Below n)) (head_scope k)
  head_binds n le = scope_only n (grid_scope k.grid) (length k.grid) next k.head head le (grid_binds n k.grid)

  grid_long : (cs : List ℕ) → length (grid_scope cs) ≡ length cs
  grid_long [] = refl
  grid_long (c ∷ cs) = ap suc (grid_long cs)

  over_below : (s : ℕ) → OverGrid k s → s < length (head_scope k)
  over_below s (inl h) = let long = grid_long k.grid in let all = steps_long (grid_scope k.grid) k.head in omega (arith, h, long, all)
  over_below s (inr h) = bound_below (grid_scope k.grid) k.head s h

  nest_below : (n : NestText) (s : ℕ) → Here (OverGrid k) n.steps s → s < length (bind_steps (head_scope k) n.steps)
  nest_below n s (inl h) = let low = over_below s h in let all = steps_long (head_scope k) n.steps in omega (arith, low, all)
  nest_below n s (inr h) = bound_below (head_scope k) n.steps s h

  module _ (a : Algorithm) (g : StoredText) (x : List ℕ) where
    one_only : (d : ℕ) (f : FormulaText) (n : NestText) (before ss : List SiteText) → IsGood k n → AllByRecursion SiteOnly before → add_site a g (head_scope k) x d f n before ≡ Some ss →
        AllByRecursion SiteOnly ss
    one_only d f n before ss good h e =
        let outer = head_scope k in
        let scope = bind_steps outer n.steps in
        let N = length scope in
        let b = bound (around a g outer n f d) (λ r. add_calls a r x (calls_in f) [] >>= λ cs. Some (with_site r.scope cs before)) ss e in
        let y = bound (add_calls a b.value x (calls_in f) []) (λ cs. Some (with_site b.value.scope cs before)) ss b.comes in
        let z = bound (coordinates_behind a (left_around g outer n d) f [] 0 n.at) (λ cs. Some (record (left_around g outer n d) { coordinates = cs })) b.value b.is in
        let stands : record (left_around g outer n d) { coordinates = z.value } ≡ b.value = same (record (left_around g outer n d) { coordinates = z.value }) b.value z.comes in
        let at = all_weaker (OnlyIf (Here (OverGrid k) n.steps)) (OnlyIf (Below N)) (λ o h. if_weaker (Here (OverGrid k) n.steps) (Below N) o (nest_below n) h) n.at good.at in
        let left = forms_only (Below N) n.at at in
        let coordinates = coordinates_only (Below N) a (left_around g outer n d) left f [] 0 n.at z.value tt at z.is in
        let known : AllByRecursion (SpanOnly (Below N)) b.value.coordinates = subst (λ (r : AroundText). AllByRecursion (SpanOnly (Below N)) r.coordinates) stands coordinates in
        let calls = calls_only (Below N) a b.value known x (calls_in f) [] y.value tt y.is in
        let binds = scope_only N outer good.from good.to n.steps good.steps (omega arith) (head_binds N (steps_long outer n.steps)) in
        let sites = site_only scope y.value before binds calls h in
        let scoped : scope ≡ b.value.scope = ap (λ (r : AroundText). r.scope) stands in
        subst (AllByRecursion SiteOnly) (ap (λ (s : List Binding). with_site s y.value before) scoped ∙ same (with_site b.value.scope y.value before) ss y.comes) sites
      where
        if_weaker : (P R : ℕ → Type 0) (o : Option Form) → ((s : ℕ) → P s → R s) → OnlyIf P o → OnlyIf R o
        if_weaker P R None w h = tt
        if_weaker P R (Some f) w h = all_weaker (λ t. P t.symbol) (λ t. R t.symbol) (λ t k. w t.symbol k) f.terms h

    all_only : (d : ℕ) (fs : List FormulaText) (ns : List NestText) (before ss : List SiteText) → AllByRecursion (IsGood k) ns → AllByRecursion SiteOnly before →
        add_sites a g (head_scope k) None x d fs ns before ≡ Some ss → AllByRecursion SiteOnly ss
    all_only d fs [] before ss good h e = subst (AllByRecursion SiteOnly) (same before ss e) h
    all_only d [] (n ∷ ns) before ss good h e = subst (AllByRecursion SiteOnly) (same before ss e) h
    all_only d (f ∷ fs) (n ∷ ns) before ss good h e =
        let b = bound (add_asked a g (head_scope k) None x d f n before) (add_sites a g (head_scope k) None x (d + 1) fs ns) ss e in
        all_only (d + 1) fs ns b.value ss good.1 (one_only d f n before b.value good.0 h b.is) b.comes

each_at : {A : Type 0} (P : A → Type 0) (xs : List A) → ((i : ℕ) (x : A) → slice_get xs i ≡ Some x → P x) → AllByRecursion P xs
each_at P [] h = tt
each_at P (x ∷ xs) h = (h 0 x refl, each_at P xs (λ i y e. h (suc i) y e))

pub sites_only : (a : Algorithm) (g : StoredText) (fs : List FormulaText) (k : SkeletonText) (x : List ℕ) (ss : List SiteText) → BindInOrder k → NamesOwn k → sites_of a g fs k x ≡ Some ss →
    AllByRecursion SiteOnly ss
sites_only a g fs k x ss order names e = all_only k order.next order.head a g x 0 fs k.nests [] ss good tt e
  where
    one : (i : ℕ) (n : NestText) → slice_get k.nests i ≡ Some n → IsGood k n
    one i n at = let o = order.nests i n at in record { from = o.from; to = o.to; steps = o.steps; at = names.nests i n at }

    good : AllByRecursion (IsGood k) k.nests
    good = each_at (IsGood k) k.nests one

-- the forms that a nest's coordinates are name what is bound there
pub coordinates_below : (k : SkeletonText) → BindInOrder k → NamesOwn k → (d : ℕ) (n : NestText) → slice_get k.nests d ≡ Some n →
    AllByRecursion (SpanOnly (Below (length (bind_steps (head_scope k) n.steps)))) (map form_span n.at)
coordinates_below k order names d n at =
    let N = length (bind_steps (head_scope k) n.steps) in
    forms_only (Below N) n.at (all_weaker (OnlyIf (Here (OverGrid k) n.steps)) (OnlyIf (Below N)) if_weaker n.at (names.nests d n at))
  where
    if_weaker : (o : Option Form) → OnlyIf (Here (OverGrid k) n.steps) o → OnlyIf (Below (length (bind_steps (head_scope k) n.steps))) o
    if_weaker None h = tt
    if_weaker (Some f) h =
        all_weaker (λ t. Here (OverGrid k) n.steps t.symbol) (λ t. t.symbol < length (bind_steps (head_scope k) n.steps)) (λ t q. nest_below k order.next order.head n t.symbol q) f.terms h

-- so do all spans of its coordinates, with those of left indices
pub around_below : (a : Algorithm) (g : StoredText) (k : SkeletonText) → BindInOrder k → NamesOwn k → (d : ℕ) (n : NestText) → slice_get k.nests d ≡ Some n → (f : FormulaText) (cs : List Span1) →
    coordinates_behind a (left_around g (head_scope k) n d) f [] 0 n.at ≡ Some cs → AllByRecursion (SpanOnly (Below (length (bind_steps (head_scope k) n.steps)))) cs
around_below a g k order names d n at f cs e =
    let N = length (bind_steps (head_scope k) n.steps) in
    let if_weaker : (o : Option Form) → OnlyIf (Here (OverGrid k) n.steps) o → OnlyIf (Below N) o = λ o. elim o as (λ o. OnlyIf (Here (OverGrid k) n.steps) o → OnlyIf (Below N) o) [
      | None ↦ λ h. tt
      | Some f ↦ λ h. all_weaker (λ t. Here (OverGrid k) n.steps t.symbol) (λ t. t.symbol < N) (λ t q. nest_below k order.next order.head n t.symbol q) f.terms h
    ] in
    coordinates_only (Below N) a (left_around g (head_scope k) n d) (coordinates_below k order names d n at) f [] 0 n.at cs tt
    (all_weaker (OnlyIf (Here (OverGrid k) n.steps)) (OnlyIf (Below N)) if_weaker n.at (names.nests d n at)) e

-- ---- freed of all but the grid's

apart : (m c s : ℕ) → is_inner (symbols_from m c) s ≡ false → s < m + c → s < m
apart m zero s e h = omega (arith, h)
apart m (suc c) s e h = of (m == s) refl e (λ q. apart (m + 1) c s q (omega (arith, h)))
  where
    of : (b : Bool) → (m == s) ≡ b → (b || is_inner (symbols_from (m + 1) c) s) ≡ false → (is_inner (symbols_from (m + 1) c) s ≡ false → s < m + 1) → s < m
    of true t q rest = absurd (cc q)
    of false t q rest = let less = rest q in grind (arith, nat_tests, t, less)

module _ (m : ℕ) (grid : List Binding) (long : length grid ≡ m) where
  terms_grid : (n : ℕ) (ts : List Multiple) → AllByRecursion (λ t. t.symbol < n) ts → AllByRecursion (λ t. is_inner (symbols_from m (n - m)) t.symbol ≡ false) ts →
      AllByRecursion (λ t. t.symbol < m) ts
  terms_grid n [] h k = tt
  terms_grid n (t ∷ ts) h k = (let low = h.0 in apart m (n - m) t.symbol k.0 (omega (arith, low)), terms_grid n ts h.1 k.1)

  forms_grid : (n : ℕ) (fs : List Form) → AreOnly (Below n) fs → AllByRecursion (λ f. names_inner (symbols_from m (n - m)) f ≡ false) fs → AreOnly (Below m) fs
  forms_grid n [] h k = tt
  forms_grid n (f ∷ fs) h k = (terms_grid n f.terms h.0 (outer_terms (symbols_from m (n - m)) f.terms k.0), forms_grid n fs h.1 k.1)

  freed_grid : (scope : List Binding) (s f : Span1) → AllByRecursion (BindsOnly (Below (length scope))) scope → SpanOnly (Below (length scope)) s →
      freed scope (symbols_from m (length scope - m)) s ≡ Some f → SpanOnly (Below m) f
  freed_grid scope s f b h e = of (length scope - m) refl e
    where
      N : ℕ
      N = length scope

      binds : (n : ℕ) (c : Binding) → slice_get scope n ≡ Some c → BindsOnly (Below N) c
      binds n c at = got (BindsOnly (Below N)) scope n c b at

      of : (d : ℕ) → N - m ≡ d → freed scope (symbols_from m d) s ≡ Some f → SpanOnly (Below m) f
      of zero q k =
          let low = all_weaker (Only (Below N)) (Only (Below m)) (λ f h. all_weaker (λ t. t.symbol < N) (λ t. t.symbol < m) (λ t l. omega (arith, l, q)) f.terms h) in
          subst (SpanOnly (Below m)) (same s f k) (low s.lower h.0, low s.upper h.1)
      of (suc d) q k =
          let inner = symbols_from m (suc d) in
          let only = projected_only (Below N) scope binds inner s h f k in
          let outer = span-outer scope inner s f k in
          let is : inner ≡ symbols_from m (N - m) = ap (symbols_from m) (sym q) in
          let low = recursion_from_All (λ f. names_inner inner f ≡ false) f.lower outer.0 in
          let high = recursion_from_All (λ f. names_inner inner f ≡ false) f.upper outer.1 in (
            forms_grid N f.lower only.0 (subst (λ (i : List ℕ). AllByRecursion (λ f. names_inner i f ≡ false) f.lower) is low),
            forms_grid N f.upper only.1 (subst (λ (i : List ℕ). AllByRecursion (λ f. names_inner i f ≡ false) f.upper) is high),
          )

  abbrev KnownIf : Option Span1 → Type 0
  KnownIf o = elim o [ Some s ↦ SpanOnly (Below m) s | None ↦ Unit {0} ]

  either_grid : (known : Option Span1) (f s : Span1) → KnownIf known → SpanOnly (Below m) f → either grid known f ≡ Some s → SpanOnly (Below m) s
  either_grid None f s h k e = subst (SpanOnly (Below m)) (same f s e) k
  either_grid (Some t) f s h k e = choice_only (Below m) grid I32 t f h k s e

  call_grid : (scope : List Binding) (d : ℕ) (cl : List Span1) (known o : Option Span1) → AllByRecursion (BindsOnly (Below (length scope))) scope →
      AllByRecursion (SpanOnly (Below (length scope))) cl →
      KnownIf known → with_call grid scope (symbols_from m (length scope - m)) d cl known ≡ Some o → KnownIf o
  call_grid scope d cl known o binds only h e =
      let inner = symbols_from m (length scope - m) in
      let b = bound (slice_get cl d) (λ s. freed scope inner s >>= λ f. either grid known f >>= λ u. Some (Some u)) o e in
      let x = bound (freed scope inner b.value) (λ f. either grid known f >>= λ u. Some (Some u)) o b.comes in
      let y = bound (either grid known x.value) (λ u. Some (Some u)) o x.comes in
      let called = got (SpanOnly (Below (length scope))) cl d b.value only b.is in
      subst (λ (p : Option Span1). KnownIf p) (same (Some y.value) o y.comes) (either_grid known x.value y.value h (freed_grid scope b.value x.value binds called x.is) y.is)

  calls_grid : (scope : List Binding) (d : ℕ) (cls : List (List Span1)) (known o : Option Span1) → AllByRecursion (BindsOnly (Below (length scope))) scope →
      AllByRecursion (AllByRecursion (SpanOnly (Below (length scope)))) cls → KnownIf known → with_calls grid scope (symbols_from m (length scope - m)) d cls known ≡ Some o → KnownIf o
  calls_grid scope d [] known o binds only h e = subst (λ (p : Option Span1). KnownIf p) (same known o e) h
  calls_grid scope d (cl ∷ cls) known o binds only h e =
      let inner = symbols_from m (length scope - m) in
      let b = bound (with_call grid scope inner d cl known) (with_calls grid scope inner d cls) o e in
      calls_grid scope d cls b.value o binds only.1 (call_grid scope d cl known b.value binds only.0 h b.is) b.comes

  sites_grid : (d : ℕ) (ss : List SiteText) (known o : Option Span1) → AllByRecursion SiteOnly ss → KnownIf known → with_sites grid d ss known ≡ Some o → KnownIf o
  sites_grid d [] known o a h e = subst (λ (p : Option Span1). KnownIf p) (same known o e) h
  sites_grid d (t ∷ ss) known o a h e =
      let b = bound (with_calls grid t.scope (symbols_from (length grid) (length t.scope - length grid)) d t.calls known) (with_sites grid d ss) o e in
      let counted : with_calls grid t.scope (symbols_from m (length t.scope - m)) d t.calls known ≡ Some b.value =
      ap (λ (n : ℕ). with_calls grid t.scope (symbols_from n (length t.scope - n)) d t.calls known) (sym long) ∙ b.is in
      sites_grid d ss b.value o a.1 (calls_grid t.scope d t.calls known b.value a.0.binds a.0.calls h counted) b.comes

  needed_grid : (d : ℕ) (ss : List SiteText) (s : Span1) → AllByRecursion SiteOnly ss → needed_span grid ss d ≡ Some s → SpanOnly (Below m) s
  needed_grid d ss s a e =
      let b = bound (with_sites grid d ss None) (λ o. o) s e in
      let h : KnownIf b.value = sites_grid d ss None b.value a tt b.is in
      subst (λ (p : Option Span1). KnownIf p) b.comes h

  -- ---- cut to a region

  symbolic_grid : (kept fs : List Form) → AreOnly (Below m) kept → AreOnly (Below m) fs → AreOnly (Below m) (add_symbolic kept fs)
  symbolic_grid kept [] h k = h
  symbolic_grid kept (f ∷ fs) h k = of (not (is_number f) && nat_lt (length kept) 3) (symbolic_grid kept fs h k.1)
      (symbolic_grid (kept ++ f ∷ []) fs (all-append (Only (Below m)) kept (f ∷ []) h (k.0, tt)) k.1)
    where
      of : (b : Bool) → AreOnly (Below m) (add_symbolic kept fs) → AreOnly (Below m) (add_symbolic (kept ++ f ∷ []) fs) →
          AreOnly (Below m) (if b then add_symbolic (kept ++ f ∷ []) fs else add_symbolic kept fs)
      of true a b = b
      of false a b = a

  cut_grid : (s : Span1) (e : Extent) → SpanOnly (Below m) s → SpanOnly (Below m) (cut s e)
  cut_grid s e h = (
    all-append (Only (Below m)) (add_symbolic [] s.lower) (number (greatest_from s.lower e.low) ∷ []) (symbolic_grid [] s.lower tt h.0) (tt, tt),
    all-append (Only (Below m)) (add_symbolic [] s.upper) (number (least_from s.upper (e.low +ℤ pos e.count -ℤ pos 1)) ∷ []) (symbolic_grid [] s.upper tt h.1) (tt, tt),
  )

  seated_grid : (ss : List SiteText) (d : ℕ) (s : Span1) (p : Part) → SpanOnly (Below m) s → seated grid ss d s ≡ Some p → SpanOnly (Below m) p.span
  seated_grid ss d s p only h =
      let b = bound (shortest grid s) (λ b. slice_get s.lower b.0 >>= λ origin. run_of origin b.1 >>= λ seats. shown grid ss d s origin b.1 seats) p h in
      let x = bound (slice_get s.lower b.value.0) (λ origin. run_of origin b.value.1 >>= λ seats. shown grid ss d s origin b.value.1 seats) p b.comes in
      let y = bound (run_of x.value b.value.1) (λ seats. shown grid ss d s x.value b.value.1 seats) p x.comes in
      of x.value b.value.1 (is_shown grid ss d s y.value) y.comes
    where
      of : (origin : Form) (n : ℤ) (w : Bool) → (if w then Some (record { span = s; places = From origin (places_count n) }) else None) ≡ Some p → SpanOnly (Below m) p.span
      of origin n true q = subst (λ (z : Part). SpanOnly (Below m) z.span) (same (record { span = s; places = From origin (places_count n) }) p q) only
      of origin n false q = absurd (cc q)

  seats_grid : (ss : List SiteText) (d : ℕ) (s : Span1) (p : Part) → SpanOnly (Below m) s → seated grid ss d s ≡ Some p → PlaceOnly (Below m) p.places
  seats_grid ss d s p only h =
      let b = bound (shortest grid s) (λ b. slice_get s.lower b.0 >>= λ origin. run_of origin b.1 >>= λ seats. shown grid ss d s origin b.1 seats) p h in
      let x = bound (slice_get s.lower b.value.0) (λ origin. run_of origin b.value.1 >>= λ seats. shown grid ss d s origin b.value.1 seats) p b.comes in
      let y = bound (run_of x.value b.value.1) (λ seats. shown grid ss d s x.value b.value.1 seats) p x.comes in
      of x.value b.value.1 (is_shown grid ss d s y.value) (form_at (Below m) s.lower b.value.0 x.value only.0 x.is) y.comes
    where
      of : (origin : Form) (n : ℤ) (w : Bool) → Only (Below m) origin → (if w then Some (record { span = s; places = From origin (places_count n) }) else None) ≡ Some p →
          PlaceOnly (Below m) p.places
      of origin n true told q = subst (λ (z : Part). PlaceOnly (Below m) z.places) (same (record { span = s; places = From origin (places_count n) }) p q) told
      of origin n false told q = absurd (cc q)

  part_seats : (ss : List SiteText) (d : ℕ) (e : Extent) → AllByRecursion SiteOnly ss → PlaceOnly (Below m) (part_of grid ss d e).places
  part_seats ss d e a = of (tight grid ss d e) refl
    where
      of : (o : Option Part) → tight grid ss d e ≡ o → PlaceOnly (Below m) (or_all e o).places
      of None q = tt
      of (Some p) q =
          let b = bound (needed_part grid ss d e) (seated grid ss d) p q in
          let x = bound (needed_span grid ss d) (λ s. Some (cut s e)) b.value b.is in
          seats_grid ss d b.value p (subst (SpanOnly (Below m)) (same (cut x.value e) b.value x.comes) (cut_grid x.value e (needed_grid d ss x.value a x.is))) b.comes

  taken_seats : (ss : List SiteText) (d : ℕ) (es : List Extent) → AllByRecursion SiteOnly ss → AllByRecursion (PlaceOnly (Below m)) (taken_places grid ss d es)
  taken_seats ss d [] a = tt
  taken_seats ss d (e ∷ es) a = (part_seats ss d e a, taken_seats ss (d + 1) es a)

  part_grid : (ss : List SiteText) (d : ℕ) (e : Extent) → AllByRecursion SiteOnly ss → SpanOnly (Below m) (part_of grid ss d e).span
  part_grid ss d e a = of (tight grid ss d e) refl
    where
      of : (o : Option Part) → tight grid ss d e ≡ o → SpanOnly (Below m) (or_all e o).span
      of None q = ((tt, tt), (tt, tt))
      of (Some p) q =
          let b = bound (needed_part grid ss d e) (seated grid ss d) p q in
          let x = bound (needed_span grid ss d) (λ s. Some (cut s e)) b.value b.is in
          seated_grid ss d b.value p (subst (SpanOnly (Below m)) (same (cut x.value e) b.value x.comes) (cut_grid x.value e (needed_grid d ss x.value a x.is))) b.comes

  taken_grid : (ss : List SiteText) (d : ℕ) (es : List Extent) → AllByRecursion SiteOnly ss → AllByRecursion (SpanOnly (Below m)) (taken_region grid ss d es)
  taken_grid ss d [] a = tt
  taken_grid ss d (e ∷ es) a = (part_grid ss d e a, taken_grid ss (d + 1) es a)

-- what is fetched names symbols of the grid alone
pub taken_over : (a : Algorithm) (g : StoredText) (fs : List FormulaText) (k : SkeletonText) (x : List ℕ) (ss : List SiteText) → BindInOrder k → NamesOwn k → sites_of a g fs k x ≡ Some ss →
    (d : ℕ) (es : List Extent) → AllByRecursion (SpanOnly (λ s. s < length k.grid)) (taken_region (grid_scope k.grid) ss d es)
taken_over a g fs k x ss order names e d es = taken_grid (length k.grid) (grid_scope k.grid) (counted k.grid) ss d es (sites_only a g fs k x ss order names e)
  where
    counted : (cs : List ℕ) → length (grid_scope cs) ≡ length cs
    counted [] = refl
    counted (c ∷ cs) = ap suc (counted cs)

-- and so do the origins of its places
pub seats_over : (a : Algorithm) (g : StoredText) (fs : List FormulaText) (k : SkeletonText) (x : List ℕ) (ss : List SiteText) → BindInOrder k → NamesOwn k → sites_of a g fs k x ≡ Some ss →
    (d : ℕ) (es : List Extent) → AllByRecursion (PlaceOnly (λ s. s < length k.grid)) (taken_places (grid_scope k.grid) ss d es)
seats_over a g fs k x ss order names e d es = taken_seats (length k.grid) (grid_scope k.grid) (counted k.grid) ss d es (sites_only a g fs k x ss order names e)
  where
    counted : (cs : List ℕ) → length (grid_scope cs) ≡ length cs
    counted [] = refl
    counted (c ∷ cs) = ap suc (counted cs)

-- ---- the pieces that are needed

module _ (P : ℕ → Type 0) where
  part_only : (n : ℤ) (f g : Form) (t : Multiple) → Only P f → P t.symbol → plus_part n f t ≡ Some g → Only P g
  part_only n f g t h p e = only_combined P f (quotient t.factor n) (alone t.symbol) h (p, tt) g e

  parts_only : (n : ℤ) (f : Form) (ts : List Multiple) (g : Form) → Only P f → AllByRecursion (λ t. P t.symbol) ts → plus_parts n f ts ≡ Some g → Only P g
  parts_only n f [] g h k e = subst (Only P) (same f g e) h
  parts_only n f (t ∷ ts) g h k e = of (is_multiple n t) e (λ f i j. parts_only n f ts g i k.1 j)
    where
      of : (b : Bool) → (if b then (plus_part n f t >>= λ g. plus_parts n g ts) else None) ≡ Some g → ((f : Form) → Only P f → plus_parts n f ts ≡ Some g → Only P g) → Only P g
      of true q rest = (let b = bound (plus_part n f t) (λ g. plus_parts n g ts) g q in rest b.value (part_only n f b.value t h k.0 b.is) b.comes)
      of false q rest = absurd (cc q)

  divided_only : (n : ℤ) (f g : Form) → Only P f → divided n f ≡ Some g → Only P g
  divided_only n f g h e = of (int_le n (pos 0)) e
    where
      of : (b : Bool) → (if b then None else plus_parts n (number (quotient f.constant n)) f.terms) ≡ Some g → Only P g
      of true q = absurd (cc q)
      of false q = parts_only n (number (quotient f.constant n)) f.terms g tt h q

  block_only : (low n : ℤ) (f g : Form) → Only P f → block_at low n f ≡ Some g → Only P g
  block_only low n f g h e =
      let b = bound (combined (number (difference (pos 0) low)) (pos 1) f) (divided n) g e in
      divided_only n b.value g (only_combined P (number (difference (pos 0) low)) (pos 1) f tt h b.value b.is) b.comes

  blocks_only : (low n : ℤ) (before fs bs : List Form) → AreOnly P before → AreOnly P fs → add_blocks low n before fs ≡ Some bs → AreOnly P bs
  blocks_only low n before [] bs h k e = subst (AreOnly P) (same before bs e) h
  blocks_only low n before (f ∷ fs) bs h k e =
      let b = bound (block_at low n f) (λ b. add_blocks low n (before ++ b ∷ []) fs) bs e in
      blocks_only low n (before ++ b.value ∷ []) fs bs (all-append (Only P) before (b.value ∷ []) h (block_only low n f b.value k.0 b.is, tt)) k.1 b.comes

  over_only : (low n : ℤ) (t s : Span1) → SpanOnly P t → blocks_over low n t ≡ Some s → SpanOnly P s
  over_only low n t s h e =
      let b = bound (add_blocks low n [] t.lower) (λ ls. add_blocks low n [] t.upper >>= λ us. Some (record { lower = ls; upper = us })) s e in
      let c = bound (add_blocks low n [] t.upper) (λ us. Some (record { lower = b.value; upper = us })) s b.comes in
      subst (SpanOnly P) (same (record { lower = b.value; upper = c.value }) s c.comes) (blocks_only low n [] t.lower b.value tt h.0 b.is, blocks_only low n [] t.upper c.value tt h.1 c.is)

  module _ (g : StoredText) (region : List Extent) (taken : List Span1) (only : AllByRecursion (SpanOnly P) taken) where
    turns_only : (l : LoopMade) (count : ℕ) → SpanOnly P (turns_needed g region taken l count)
    turns_only l count = of (turns_found g region taken l) refl
      where
        of : (o : Option Span1) → turns_found g region taken l ≡ o → SpanOnly P (or_all_turns count o)
        of None e = ((tt, tt), (tt, tt))
        of (Some s) e =
            let b = bound (length_at g l) (λ n. low_at region l >>= λ low. turns_over taken l.dimension low n) s e in
            let c = bound (low_at region l) (λ low. turns_over taken l.dimension low b.value) s b.comes in
            let d = bound (slice_get taken l.dimension) (λ t. blocks_over c.value b.value t) s c.comes in
            over_only c.value b.value d.value s (got (SpanOnly P) taken l.dimension d.value only d.is) d.comes

    loops_only : (ls : List LoopMade) (counts : List ℕ) → AllByRecursion (SpanOnly P) (loops_needed g region taken ls counts)
    loops_only [] counts = tt
    loops_only (l ∷ ls) counts = of (is_parallel l) (loops_only ls (other_counts counts)) (loops_only ls counts)
      where
        of : (b : Bool) → AllByRecursion (SpanOnly P) (loops_needed g region taken ls (other_counts counts)) → AllByRecursion (SpanOnly P) (loops_needed g region taken ls counts) →
            AllByRecursion (SpanOnly P) (if b then turns_needed g region taken l (first_count counts) ∷ loops_needed g region taken ls (other_counts counts) else loops_needed g region taken ls counts)
        of true h k = (turns_only l (first_count counts), h)
        of false h k = k

    pub pieces_only : (counts : List ℕ) → AllByRecursion (SpanOnly P) (pieces_needed g region counts taken)
    pieces_only counts = of (loops_needed g region taken g.placed.loops counts) (loops_only g.placed.loops counts)
      where
        of : (o : List Span1) → AllByRecursion (SpanOnly P) o → AllByRecursion (SpanOnly P) (or_one_piece o)
        of [] h = (((tt, tt), (tt, tt)), tt)
        of (s ∷ ss) h = h
