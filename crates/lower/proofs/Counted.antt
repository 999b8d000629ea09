-- The lines of what pieces do where functions are computed inside loops are as many as are counted.
use Rattle.std.proofs.Common.{◌≡◌, ℕ, zero, suc, ◌+◌, ◌-◌, ◌*◌, ◌≤◌, Bool, true, false, not, ◌&&◌, List, [], ◌∷◌, ◌++◌, length, take, drop, Option, Some, None, refl, sym, ap, subst}
use Rattle.std.proofs.Common.{arith}
use Rattle.std.specs.Prelude.{slice_get, if◌then◌else◌}
use Rattle.std.specs.List.{AllByRecursion}
use Rattle.lin.specs.Forms.{Form}
use Rattle.lin.specs.declared.span.Span1.{Span1}
use Rattle.plan.specs.declared.certificate.cert.Claim.{Claim}
use Rattle.plan.specs.declared.certificate.cert.Need.{Need}
use Rattle.plan.specs.declared.certificate.cert.Window.{Window}
use Rattle.plan.specs.declared.stmt.Pick.TheVariants.{Min}
use Rattle.plan.specs.Plan.{Statement, Seq, First, Alloc, Store, block}
use Rattle.plan.specs.Lines.{lines, block_lines}
use Rattle.tree.specs.Substitution.{with_calls}
use Rattle.sched.specs.declared.skeleton.Step.{Step}
use Rattle.sched.specs.declared.skeleton.Step.TheVariants.{Turns, Named, Tested}
use Rattle.sched.specs.Skeleton.{NestText}
use Rattle.sched.specs.Standing.{◌>>=◌}
use Rattle.sched.specs.declared.hosts.Host.TheVariants.{Inner as Inside, Later as Anew}
use Rattle.sched.specs.declared.hosts.Spot.{Spot}
use Rattle.sched.specs.Around.{names_with}
use Rattle.blocks.specs.Blocks.{dimensions_of, claimed_region, own_places}
use Rattle.blocks.specs.Bodies.{own_lines, step_lines}
use Rattle.lower.specs.Counted.{IsLet, HasLets}
use Rattle.sched.specs.Fetches.{Entry}
use Rattle.sched.specs.Loading.{Loads, as_load}
use Rattle.sched.specs.Renamed.{Pairs, value_in, forms_renamed, region_renamed, span_renamed, step_renamed, coordinates_renamed}
use Rattle.blocks.specs.Renamed.{places_renamed}
use Rattle.sched.specs.Placed.{LaterText, PlacedText, OwnerText, SoFar, Made, with_lines, with_symbol, with_name, bound_by, around, coordinates_by, store_by, store_in, stored, with_claim}
use Rattle.sched.specs.Placed.{claimed, spot, lets}
use Rattle.blocks.specs.Placed.{nothing, both, with_loads, seated, same_spot, buffer_at, buffers_at, Nests, own_buffer, function_at, functions_at, numbers_down, all_at, step_in, walk}
use Rattle.blocks.specs.Placed.{walk_apart, nests_from, owner, all_turns, let_count, fold_of, held, arm, arms, first_lets, first_and_later, sliding_turns, turns, computed, over_grid}
use Rattle.blocks.specs.Placed.{group_nests, group_owner, names_over, begun}
use Rattle.lower.specs.Placed.{with_fetched, IsMixedBody}
use Rattle.blocks.proofs.Claimed.{lines_append}
use Rattle.lower.proofs.Claimed.{body_long}

-- ---- what is made has a value

got : {A B : Type 0} (o : Option A) (f : A → Option B) (r : B) → (o >>= f) ≡ Some r → (x : A) × (o ≡ Some x) × (f x ≡ Some r)
got None f r e = absurd cc
got (Some x) f r e = (x, refl, e)

same : {A : Type 0} (x y : A) → Some x ≡ Some y → x ≡ y
same x y e = ap (λ o. elim o [ Some z ↦ z | None ↦ x ]) e

-- ---- lines

abbrev long : List Statement → ℕ
long xs = block_lines (block xs)

-- what is made adds its lines
abbrev Adds : SoFar → Made → Type 0
Adds p r = (xs : List Statement) (q : SoFar) → r ≡ Some (xs, q) → q.line ≡ p.line + long xs

abbrev Each : (SoFar → Made) → Type 0
Each f = (p : SoFar) → Adds p (f p)

abbrev made : List Statement → SoFar → Made
made xs p = Some (xs, p)

ended : (p one q : SoFar) (xs ys : List Statement) → made xs one ≡ made ys q → one.line ≡ p.line + long xs → q.line ≡ p.line + long ys
ended p one q xs ys e h =
    let a : List Statement × SoFar = (xs, one) in
    let b : List Statement × SoFar = (ys, q) in
    let pair : a ≡ b = same a b e in
    let line : one.line ≡ q.line = ap (λ (x : List Statement × SoFar). x.1.line) pair in
    let all : long xs ≡ long ys = ap (λ (x : List Statement × SoFar). long x.0) pair in
    omega (arith, line, all, h)

nothing_adds : Each nothing
nothing_adds p xs q e = ended p p q [] xs e (omega arith)

bound_adds : {A : Type 0} (o : Option A) (f : A → SoFar → Made) → ((x : A) → o ≡ Some x → Each (f x)) → Each (λ p. o >>= λ x. f x p)
bound_adds o f h p xs q e =
    let g = got o (λ x. f x p) (xs, q) e in
    h g.0 g.1 p xs q g.2

both_adds : (a : Made) (f : SoFar → Made) (p : SoFar) → Adds p a → Each f → Adds p (both a f)
both_adds a f p ha hf zs q e =
    let g = got a (λ x. f x.1 >>= λ y. Some (x.0 ++ y.0, y.1)) (zs, q) e in
    let x = g.0 in
    let h = got (f x.1) (λ y. Some (x.0 ++ y.0, y.1)) (zs, q) g.2 in
    let y = h.0 in
    let first : x.1.line ≡ p.line + long x.0 = ha x.0 x.1 g.1 in
    let second : y.1.line ≡ x.1.line + long y.0 = hf x.1 y.0 y.1 h.1 in
    let sum : long (x.0 ++ y.0) ≡ long x.0 + long y.0 = lines_append x.0 y.0 in
    ended p y.1 q (x.0 ++ y.0) zs h.2 (omega (arith, first, second, sum))

-- ---- statements

store_line : (o : OwnerText) (ls : Loads) (d : ℕ) (at : List (Option Form)) (s : Statement) → store_in o ls d at ≡ Some s → lines s ≡ 1
store_line o ls d at s e =
    let xs = names_with o.function.variables o.function.changes d in
    let g = got (slice_get o.formulas d) (λ f. store_by ls o.buffer xs d f at) s e in
    let f = g.0 in
    let value = with_calls (as_load ls) f.value in
    let h = got (coordinates_by ls xs at f.at) (λ cs. Some (Store o.buffer d cs value)) s g.2 in
    sym (ap lines (same (Store o.buffer d h.0 value) s h.2))

stored_adds : (o : OwnerText) (d : ℕ) (n : NestText) (m : Pairs) → Each (stored o d n m)
stored_adds o d n m p xs q e =
    let g = got (coordinates_renamed m n.at) (λ at. store_in o p.loads d at >>= λ s. Some (s ∷ [], with_lines 1 p)) (xs, q) e in
    let h = got (store_in o p.loads d g.0) (λ s. Some (s ∷ [], with_lines 1 p)) (xs, q) g.2 in
    let one : lines h.0 ≡ 1 = store_line o p.loads d g.0 h.0 h.1 in
    ended p (with_lines 1 p) q (h.0 ∷ []) xs h.2 (omega (arith, one))

seated_adds : (n : ℕ) (i : PlacedText) (m : Pairs) → Each (seated n i m)
seated_adds n i m p xs q e =
    let next : SoFar = record p { line = p.line + 1; buffer = p.buffer + 1; seats = p.seats ++ (n, p.buffer) ∷ [] } in
    let g = got (places_renamed m i.places) (λ places. Some (Alloc p.buffer i.function.subject.name places ∷ [], next)) (xs, q) e in
    ended p next q (Alloc p.buffer i.function.subject.name g.0 ∷ []) xs g.2 (omega arith)

seated_if : (b : Bool) (n : ℕ) (i : PlacedText) (m : Pairs) → Each (λ p. if b then seated n i m p else nothing p)
seated_if true n i m = seated_adds n i m
seated_if false n i m = nothing_adds

claimed_adds : (o : OwnerText) (d : ℕ) (m : Pairs) (f : SoFar → Made) → Each f → Each (λ q. claimed o d m q >>= f)
claimed_adds o d m f hf p xs q e =
    let g = got (claimed o d m p) f (xs, q) e in
    let h = got (region_renamed m o.claimed) (λ r. Some (with_claim o d r p)) g.0 g.1 in
    let line : p.line ≡ g.0.line = ap (λ (s : SoFar). s.line) (same (with_claim o d h.0 p) g.0 h.2) in
    let behind : q.line ≡ g.0.line + long xs = hf g.0 xs q g.2 in
    omega (arith, line, behind)

-- ---- places

buffers_add : (is : List PlacedText) (s : Spot) (m : Pairs) (ns : List ℕ) → Each (buffers_at is s m ns)
buffers_add is s m [] p = nothing_adds p
buffers_add is s m (n ∷ ns) p =
    both_adds (slice_get is n >>= λ i. buffer_at s m n i p) (buffers_at is s m ns) p
    (bound_adds (slice_get is n) (λ i. buffer_at s m n i) (λ i e. seated_if (same_spot i.store s && not (same_spot i.home s)) n i m) p) (buffers_add is s m ns)

lets_at : (is : List PlacedText) (n : ℕ) (i : PlacedText) → AllByRecursion HasLets is → slice_get is n ≡ Some i → HasLets i
lets_at [] n i h e = absurd cc
lets_at (j ∷ is) zero i h e = subst HasLets (same j i e) h.0
lets_at (j ∷ is) (suc n) i h e = lets_at is n i h.1 e

-- nests of functions are made so that they add their lines
abbrev Add : Nests → Type 0
Add make = (n : ℕ) (i : PlacedText) (m : Pairs) → HasLets i → Each (make n i m)

symbol_line : (b : Option ℕ) (p : SoFar) → (with_symbol b p).line ≡ p.line
symbol_line None p = refl
symbol_line (Some s) p = refl

around_lines : (t : Step) (xs : List Statement) → long (around t xs) ≡ own_lines t + long xs
around_lines (Turns i x kind) xs = omega arith
around_lines (Named i pick forms) xs = omega arith
around_lines (Tested low high) xs = omega arith

some_lines : (t : Step) → 1 ≤ own_lines t
some_lines (Turns i x kind) = omega arith
some_lines (Named i pick forms) = omega arith
some_lines (Tested low high) = omega arith

step_adds : (rest : Pairs → SoFar → Made) → ((m : Pairs) → Each (rest m)) → (s : Step) (m : Pairs) → Each (step_in rest s m)
step_adds rest h s m p xs q e =
    let names = with_name (bound_by s) p.symbol m in
    let begun : SoFar = with_lines 1 (with_symbol (bound_by s) p) in
    let g = got (step_renamed names s) (λ t. rest names begun >>= λ x. Some (around t x.0, with_lines (own_lines t - 1) x.1)) (xs, q) e in
    let t = g.0 in
    let k = got (rest names begun) (λ x. Some (around t x.0, with_lines (own_lines t - 1) x.1)) (xs, q) g.2 in
    let x = k.0 in
    let line : (with_symbol (bound_by s) p).line ≡ p.line = symbol_line (bound_by s) p in
    let inside : x.1.line ≡ begun.line + long x.0 = h names begun x.0 x.1 k.1 in
    let all : long (around t x.0) ≡ own_lines t + long x.0 = around_lines t x.0 in
    let some : 1 ≤ own_lines t = some_lines t in
    ended p (with_lines (own_lines t - 1) x.1) q (around t x.0) xs k.2 (omega (arith, line, inside, all, some))

module _ (make : Nests) (is : List PlacedText) (add : Add make) (have : AllByRecursion HasLets is) where
  function_if : (b : Bool) (s : Spot) (m : Pairs) (n : ℕ) (i : PlacedText) → HasLets i → Each (λ p. if b then both (own_buffer s m n i p) (make n i m) else nothing p)
  function_if true s m n i h p = both_adds (own_buffer s m n i p) (make n i m) p (seated_if (same_spot i.store s) n i m p) (add n i m h)
  function_if false s m n i h p = nothing_adds p

  functions_add : (s : Spot) (m : Pairs) (ns : List ℕ) → Each (functions_at make is s m ns)
  functions_add s m [] p = nothing_adds p
  functions_add s m (n ∷ ns) p =
      both_adds (slice_get is n >>= λ i. function_at make s m n i p) (functions_at make is s m ns) p
      (bound_adds (slice_get is n) (λ i. function_at make s m n i) (λ i e. function_if (same_spot i.home s) s m n i (lets_at is n i have e)) p) (functions_add s m ns)

  all_add : (s : Spot) (m : Pairs) → Each (all_at make is s m)
  all_add s m p =
      both_adds (buffers_at is s m (numbers_down (length is)) p) (functions_at make is s m (numbers_down (length is))) p (buffers_add is s m (numbers_down (length is)) p)
      (functions_add s m (numbers_down (length is)))

  -- ---- nests

  module _ (o : OwnerText) where
    walk_adds : (d : ℕ) (n : NestText) (depth : ℕ) (steps : List Step) (m : Pairs) → Each (walk make is o d n depth steps m)
    walk_adds d n depth [] m p = both_adds (all_at make is (spot o.host d depth) m p) (stored o d n m) p (all_add (spot o.host d depth) m p) (stored_adds o d n m)
    walk_adds d n depth (s ∷ steps) m p =
        both_adds (all_at make is (spot o.host d depth) m p) (step_in (λ names q. walk make is o d n (depth + 1) steps names q) s m) p (all_add (spot o.host d depth) m p)
        (step_adds (λ names q. walk make is o d n (depth + 1) steps names q) (λ names. walk_adds d n (depth + 1) steps names) s m)

    apart_adds : (d : ℕ) (n : NestText) (depth : ℕ) (steps : List Step) (m : Pairs) → Each (walk_apart make is o d n depth steps m)
    apart_adds d n depth steps m p xs q e =
        let g = got (walk make is o d n depth steps m p) (λ x. Some (x.0, with_loads p.loads x.1)) (xs, q) e in
        ended p (with_loads p.loads g.0.1) q g.0.0 xs g.2 (walk_adds d n depth steps m p g.0.0 g.0.1 g.1)

    nests_add : (d : ℕ) (ns : List NestText) (m : Pairs) → Each (nests_from make is o d ns m)
    nests_add d [] m p = nothing_adds p
    nests_add d (n ∷ ns) m p =
        both_adds (walk_apart make is o d n 0 n.steps m p) (λ q. claimed o d m q >>= nests_from make is o (d + 1) ns m) p (apart_adds d n 0 n.steps m p)
        (claimed_adds o d m (nests_from make is o (d + 1) ns m) (nests_add (d + 1) ns m))

    arm_adds : (n : NestText) (m : Pairs) (p : SoFar) (xs : List Statement) (q : SoFar) → arm make is o n m p ≡ Some (xs, q) → q.line ≡ (p.line + 1) + long xs
    arm_adds n m p xs q e = apart_adds 0 n (let_count n.steps) (drop (let_count n.steps) n.steps) m (with_lines 1 p) xs q e

-- ---- lets

let_line : (m : Pairs) (s t : Step) → IsLet s → step_renamed m s ≡ Some t → own_lines t ≡ 1
let_line m (Turns i x kind) t h e = absurd h
let_line m (Tested low high) t h e = absurd h
let_line m (Named i pick forms) t h e =
    let g = got (value_in m i) (λ s. forms_renamed m forms >>= λ fs. Some (Named s pick fs)) t e in
    let k = got (forms_renamed m forms) (λ fs. Some (Named g.0 pick fs)) t g.2 in
    sym (ap own_lines (same (Named g.0 pick k.0) t k.2))

lets_add : (steps : List Step) → AllByRecursion IsLet steps → (m : Pairs) (p : SoFar) (xs : List Statement) (names : Pairs) (q : SoFar) → lets steps m p ≡ Some (xs, (names, q))
    → q.line ≡ p.line + long xs
lets_add [] h m p xs names q e =
    let a : List Statement × (Pairs × SoFar) = ([], (m, p)) in
    let b : List Statement × (Pairs × SoFar) = (xs, (names, q)) in
    let pair : a ≡ b = same a b e in
    let line : p.line ≡ q.line = ap (λ (x : List Statement × (Pairs × SoFar)). x.1.1.line) pair in
    let none : 0 ≡ long xs = ap (λ (x : List Statement × (Pairs × SoFar)). long x.0) pair in
    omega (arith, line, none)
lets_add (s ∷ steps) h m p xs names q e =
    let known = with_name (bound_by s) p.symbol m in
    let begun : SoFar = with_lines 1 (with_symbol (bound_by s) p) in
    let g = got (step_renamed known s) (λ t. lets steps known begun >>= λ x. Some (around t x.0, x.1)) (xs, (names, q)) e in
    let t = g.0 in
    let k = got (lets steps known begun) (λ x. Some (around t x.0, x.1)) (xs, (names, q)) g.2 in
    let x = k.0 in
    let a : List Statement × (Pairs × SoFar) = (around t x.0, x.1) in
    let b : List Statement × (Pairs × SoFar) = (xs, (names, q)) in
    let pair : a ≡ b = same a b k.2 in
    let line : x.1.1.line ≡ q.line = ap (λ (y : List Statement × (Pairs × SoFar)). y.1.1.line) pair in
    let all : long (around t x.0) ≡ long xs = ap (λ (y : List Statement × (Pairs × SoFar)). long y.0) pair in
    let one : own_lines t ≡ 1 = let_line known s t h.0 g.1 in
    let sum : long (around t x.0) ≡ own_lines t + long x.0 = around_lines t x.0 in
    let first : (with_symbol (bound_by s) p).line ≡ p.line = symbol_line (bound_by s) p in
    let inside : x.1.1.line ≡ begun.line + long x.0 = lets_add steps h.1 known begun x.0 x.1.0 x.1.1 k.1 in
    omega (arith, line, all, one, sum, first, inside)

first_are_lets : (steps : List Step) → AllByRecursion IsLet (take (let_count steps) steps)
first_are_lets [] = tt
first_are_lets (Turns i x kind ∷ steps) = tt
first_are_lets (Tested low high ∷ steps) = tt
first_are_lets (Named i pick forms ∷ steps) =
    let next : suc (let_count steps) ≡ let_count steps + 1 = omega arith in
    subst (λ (k : ℕ). AllByRecursion IsLet (take k (Named i pick forms ∷ steps))) next (tt, first_are_lets steps)

-- ---- functions inside

module _ (make : Nests) (is : List PlacedText) (add : Add make) (have : AllByRecursion HasLets is) where
  all_turns_add : (b n : ℕ) (i : PlacedText) (m : Pairs) → HasLets i → Each (all_turns make is b n i m)
  all_turns_add b n i m h p zs q e =
      let o = owner (Inside n) i b in
      let g = got (lets i.lets m p) (λ x. nests_from make is o 0 i.nests x.1.0 x.1.1 >>= λ y. Some (x.0 ++ y.0, y.1)) (zs, q) e in
      let x = g.0 in
      let k = got (nests_from make is o 0 i.nests x.1.0 x.1.1) (λ y. Some (x.0 ++ y.0, y.1)) (zs, q) g.2 in
      let y = k.0 in
      let first : x.1.1.line ≡ p.line + long x.0 = lets_add i.lets h m p x.0 x.1.0 x.1.1 g.1 in
      let second : y.1.line ≡ x.1.1.line + long y.0 = nests_add make is add have o 0 i.nests x.1.0 x.1.1 y.0 y.1 k.1 in
      let sum : long (x.0 ++ y.0) ≡ long x.0 + long y.0 = lines_append x.0 y.0 in
      ended p y.1 q (x.0 ++ y.0) zs k.2 (omega (arith, first, second, sum))

  arms_add : (o w : OwnerText) (all new : NestText) (s : ℕ) (whole anew : Pairs) → Each (arms make is o w all new s whole anew)
  arms_add o w all new s whole anew p zs q e =
      let g = got (arm make is o all whole p) (λ x. arm make is w new anew x.1 >>= λ y. Some (First s (Seq (block x.0)) (Seq (block y.0)) ∷ [], with_lines 1 y.1)) (zs, q) e in
      let x = g.0 in
      let k = got (arm make is w new anew x.1) (λ y. Some (First s (Seq (block x.0)) (Seq (block y.0)) ∷ [], with_lines 1 y.1)) (zs, q) g.2 in
      let y = k.0 in
      let first : x.1.line ≡ (p.line + 1) + long x.0 = arm_adds make is add have o all whole p x.0 x.1 g.1 in
      let second : y.1.line ≡ (x.1.line + 1) + long y.0 = arm_adds make is add have w new anew x.1 y.0 y.1 k.1 in
      ended p (with_lines 1 y.1) q (First s (Seq (block x.0)) (Seq (block y.0)) ∷ []) zs k.2 (omega (arith, first, second))

  first_and_later_adds : (o w : OwnerText) (l : LaterText) (all new : NestText) (m : Pairs) → Each (first_and_later make is o w l all new m)
  first_and_later_adds o w l all new m p zs q e =
      let step = Named l.new Min l.first_new ∷ [] in
      let g = got (value_in m l.symbol) (λ s. lets step m p >>= λ x. first_lets all m x.1.1 >>= λ y. first_lets new x.1.0 y.1.1 >>= λ z.
      arms make is o w all new s y.1.0 z.1.0 z.1.1 >>= λ v. Some (x.0 ++ (y.0 ++ (z.0 ++ v.0)), v.1)) (zs, q) e in
      let s = g.0 in
      let h = got (lets step m p) (λ x. first_lets all m x.1.1 >>= λ y. first_lets new x.1.0 y.1.1 >>= λ z.
      arms make is o w all new s y.1.0 z.1.0 z.1.1 >>= λ v. Some (x.0 ++ (y.0 ++ (z.0 ++ v.0)), v.1)) (zs, q) g.2 in
      let x = h.0 in
      let j = got (first_lets all m x.1.1) (λ y. first_lets new x.1.0 y.1.1 >>= λ z.
      arms make is o w all new s y.1.0 z.1.0 z.1.1 >>= λ v. Some (x.0 ++ (y.0 ++ (z.0 ++ v.0)), v.1)) (zs, q) h.2 in
      let y = j.0 in
      let k = got (first_lets new x.1.0 y.1.1) (λ z. arms make is o w all new s y.1.0 z.1.0 z.1.1 >>= λ v. Some (x.0 ++ (y.0 ++ (z.0 ++ v.0)), v.1)) (zs, q) j.2 in
      let z = k.0 in
      let f = got (arms make is o w all new s y.1.0 z.1.0 z.1.1) (λ v. Some (x.0 ++ (y.0 ++ (z.0 ++ v.0)), v.1)) (zs, q) k.2 in
      let v = f.0 in
      let one : x.1.1.line ≡ p.line + long x.0 = lets_add step (tt, tt) m p x.0 x.1.0 x.1.1 h.1 in
      let two : y.1.1.line ≡ x.1.1.line + long y.0 = lets_add (take (let_count all.steps) all.steps) (first_are_lets all.steps) m x.1.1 y.0 y.1.0 y.1.1 j.1 in
      let three : z.1.1.line ≡ y.1.1.line + long z.0 = lets_add (take (let_count new.steps) new.steps) (first_are_lets new.steps) x.1.0 y.1.1 z.0 z.1.0 z.1.1 k.1 in
      let four : v.1.line ≡ z.1.1.line + long v.0 = arms_add o w all new s y.1.0 z.1.0 z.1.1 v.0 v.1 f.1 in
      let last : long (z.0 ++ v.0) ≡ long z.0 + long v.0 = lines_append z.0 v.0 in
      let more : long (y.0 ++ (z.0 ++ v.0)) ≡ long y.0 + long (z.0 ++ v.0) = lines_append y.0 (z.0 ++ v.0) in
      let sum : long (x.0 ++ (y.0 ++ (z.0 ++ v.0))) ≡ long x.0 + long (y.0 ++ (z.0 ++ v.0)) = lines_append x.0 (y.0 ++ (z.0 ++ v.0)) in
      ended p v.1 q (x.0 ++ (y.0 ++ (z.0 ++ v.0))) zs f.2 (omega (arith, one, two, three, four, last, more, sum))

  held_line : (i : PlacedText) (l : LaterText) (m : Pairs) (p q : SoFar) → held i l m p ≡ Some q → p.line ≡ q.line
  held_line i l m p q e =
      let next = λ (s : ℕ) (y : Span1). Some (record p { windows = p.windows ++ record { claim = p.claim - 1; symbol = s; dimension = l.dimension; fold = fold_of i.function.placed.folds; span = y } ∷ [] }) in
      let g = got (slice_get i.region l.dimension) (λ x. span_renamed m x >>= λ y. value_in m l.symbol >>= λ s. next s y) q e in
      let h = got (span_renamed m g.0) (λ y. value_in m l.symbol >>= λ s. next s y) q g.2 in
      let k = got (value_in m l.symbol) (λ s. next s h.0) q h.2 in
      ap (λ (o : Option SoFar). elim o [ Some z ↦ z.line | None ↦ p.line ]) k.2

  sliding_adds : (b n : ℕ) (i : PlacedText) (l : LaterText) (m : Pairs) → Each (sliding_turns make is b n i l m)
  sliding_adds b n i l m p zs q e =
      let o = owner (Inside n) i b in
      let w = owner (Anew n) i b in
      let g = got (slice_get i.nests 0) (λ all. slice_get l.nests 0 >>= λ new. first_and_later make is o w l all new m p >>= λ x. claimed o 0 m x.1 >>= λ c. held i l m c >>= λ r.
      Some (x.0, r)) (zs, q) e in
      let all = g.0 in
      let h = got (slice_get l.nests 0) (λ new. first_and_later make is o w l all new m p >>= λ x. claimed o 0 m x.1 >>= λ c. held i l m c >>= λ r. Some (x.0, r)) (zs, q) g.2 in
      let new = h.0 in
      let j = got (first_and_later make is o w l all new m p) (λ x. claimed o 0 m x.1 >>= λ c. held i l m c >>= λ r. Some (x.0, r)) (zs, q) h.2 in
      let x = j.0 in
      let k = got (claimed o 0 m x.1) (λ c. held i l m c >>= λ r. Some (x.0, r)) (zs, q) j.2 in
      let f = got (held i l m k.0) (λ r. Some (x.0, r)) (zs, q) k.2 in
      let r = got (region_renamed m o.claimed) (λ t. Some (with_claim o 0 t x.1)) k.0 k.1 in
      let first : x.1.line ≡ p.line + long x.0 = first_and_later_adds o w l all new m p x.0 x.1 j.1 in
      let second : x.1.line ≡ k.0.line = ap (λ (s : SoFar). s.line) (same (with_claim o 0 r.0 x.1) k.0 r.2) in
      let third : k.0.line ≡ f.0.line = held_line i l m k.0 f.0 f.1 in
      ended p f.0 q x.0 zs f.2 (omega (arith, first, second, third))

  turns_add : (b n : ℕ) (i : PlacedText) (o : Option LaterText) (m : Pairs) → HasLets i → Each (turns make is b n i o m)
  turns_add b n i None m h = all_turns_add b n i m h
  turns_add b n i (Some l) m h = sliding_adds b n i l m

computed_adds : (deep : ℕ) (is : List PlacedText) → AllByRecursion HasLets is → Add (computed deep is)
computed_adds zero is have n i m h p xs q e = absurd cc
computed_adds (suc deep) is have n i m h p xs q e =
    let g = got (value_in p.seats n) (λ b. turns (computed deep is) is b n i i.later m p) (xs, q) e in
    turns_add (computed deep is) is (computed_adds deep is have) have g.0 n i i.later m h p xs q g.2

group_adds : (deep : ℕ) (is : List PlacedText) (o : OwnerText) (ns : List NestText) (m : Pairs) → AllByRecursion HasLets is → Each (group_nests deep is o ns m)
group_adds deep is o ns m have p =
    let make = computed deep is in
    let add = computed_adds deep is have in
    both_adds (all_at make is over_grid m p) (nests_from make is o 0 ns m) p (all_add make is add have over_grid m p) (nests_add make is add have o 0 ns m)

-- ---- a group

pub counted : (all : List Entry) (n c line next : ℕ) (is : List PlacedText) (e : Entry) (claims : List Claim) (needs : List Need) (windows : List Window) (body : Statement)
    → AllByRecursion HasLets is → IsMixedBody all n c line next is e claims needs windows body → next ≡ line + (lines body + 1)
counted all n c line next is e claims needs windows body have h =
    let k = e.1.skeleton in
    let nests : h.done.line ≡ ((line + (step_lines k.head + 2)) + 2 * length h.fetches) + long h.nests =
    group_adds (length is) is (group_owner e (claimed_region (dimensions_of e.0 e.1.region k))) k.nests (names_over k) have
    (with_fetched h.fetches h.lines_of h.fetched (begun c line k)) h.nests h.done h.made in
    let whole : lines body ≡ step_lines k.head + (1 + (2 * length h.fetches + (long h.nests + 1))) =
    body_long e.0 k (own_places (dimensions_of e.0 e.1.region k)) h.fetches h.nests (h.done.claim - 1) body h.with in
    let last : next ≡ h.done.line + 1 = h.behind in
    omega (arith, nests, whole, last)
