-- Whether the nests of a group can be written hangs on no number of a line, a buffer or a claim, nor on what is loaded: on the next symbol alone, and on which functions have buffers.
use Rattle.std.proofs.Common.{◌≡◌, ℕ, zero, suc, ◌+◌, ◌-◌, Bool, true, false, List, [], ◌∷◌, ◌++◌, length, Option, Some, None, refl, sym, subst, ap}
use Rattle.std.specs.Prelude.{◌==◌, not, ◌&&◌, if◌then◌else◌, slice_get, take, drop}
use Rattle.std.specs.Option.{is_some}
use Rattle.tree.specs.Term.{Term}
use Rattle.tree.specs.Substitution.{with_calls}
use Rattle.lin.specs.Forms.{Form}
use Rattle.lin.specs.declared.span.Span1.{Span1}
use Rattle.plan.specs.Plan.{Statement, Seq, First, Alloc, Store, block}
use Rattle.plan.specs.declared.stmt.Pick.TheVariants.{Min}
use Rattle.sched.specs.declared.skeleton.Step.{Step}
use Rattle.sched.specs.declared.skeleton.Step.TheVariants.{Named}
use Rattle.sched.specs.Skeleton.{NestText, SkeletonText}
use Rattle.sched.specs.Standing.{◌>>=◌}
use Rattle.sched.specs.declared.hosts.Host.{Host}
use Rattle.sched.specs.declared.hosts.Host.TheVariants.{Inner as Inside, Later as Anew}
use Rattle.sched.specs.declared.hosts.Spot.{Spot}
use Rattle.sched.specs.Stored.{FormulaText, StoredText}
use Rattle.sched.specs.Loading.{Loads, as_load}
use Rattle.sched.specs.Around.{names_with}
use Rattle.sched.specs.Bodies.{first_left, other_lefts}
use Rattle.blocks.specs.Bodies.{own_lines}
use Rattle.sched.specs.Renamed.{Pairs, last_value, value_in, region_renamed, span_renamed, step_renamed, coordinates_renamed}
use Rattle.blocks.specs.Renamed.{places_renamed}
use Rattle.sched.specs.Placed.{LaterText, PlacedText, OwnerText, SoFar, Made, with_lines, with_symbol, with_name, bound_by, around, index_by, coordinates_by, store_by, store_in, stored}
use Rattle.sched.specs.Placed.{with_claim, claimed, spot, lets}
use Rattle.blocks.specs.Placed.{both, with_loads, seated, same_spot, buffer_at, buffers_at, Nests, own_buffer, function_at, functions_at, numbers_down, all_at, step_in, walk, walk_apart}
use Rattle.blocks.specs.Placed.{nests_from, owner, all_turns, held, arm, arms, first_lets, first_and_later, sliding_turns, turns, computed, let_count, fold_of, over_grid, names_over}
use Rattle.blocks.specs.Placed.{nests_over_grid}

-- ---- both or neither

-- there are both, and this is said of them, or neither
abbrev LikeBy : {A B : Type 0} → (A → B → Type 0) → Option A → Option B → Type 0
LikeBy R None None = Unit {0}
LikeBy R (Some x) (Some y) = R x y
LikeBy R None (Some y) = ⊥
LikeBy R (Some x) None = ⊥

chain : {A B C D : Type 0} (R : A → B → Type 0) (S : C → D → Type 0) (r : Option A) (s : Option B) (f : A → Option C) (g : B → Option D) → LikeBy R r s
    → ((x : A) (y : B) → R x y → LikeBy S (f x) (g y)) → LikeBy S (r >>= f) (s >>= g)
chain R S None None f g e h = tt
chain R S (Some x) (Some y) f g e h = h x y e
chain R S None (Some y) f g e h = absurd e
chain R S (Some x) None f g e h = absurd e

given : {A C D : Type 0} (S : C → D → Type 0) (o : Option A) (f : A → Option C) (g : A → Option D) → ((x : A) → LikeBy S (f x) (g x)) → LikeBy S (o >>= f) (o >>= g)
given S None f g h = tt
given S (Some x) f g h = h x

chosen : {A B : Type 0} (R : A → B → Type 0) (b : Bool) (r u : Option A) (s v : Option B) → LikeBy R r s → LikeBy R u v → LikeBy R (if b then r else u) (if b then s else v)
chosen R true r u s v e h = e
chosen R false r u s v e h = h

abbrev Any : {A B : Type 0} → A → B → Type 0
Any x y = Unit {0}

some_alike : {A B : Type 0} (R : A → B → Type 0) (r : Option A) (s : Option B) → LikeBy R r s → is_some r ≡ is_some s
some_alike R None None e = refl
some_alike R (Some x) (Some y) e = refl
some_alike R None (Some y) e = absurd e
some_alike R (Some x) None e = absurd e

-- ---- what is made so far

-- the same numbers stand for something
abbrev SameKeys : Pairs → Pairs → Type 0
SameKeys [] [] = Unit {0}
SameKeys (p ∷ ps) (q ∷ qs) = (p.0 ≡ q.0) × SameKeys ps qs
SameKeys [] (q ∷ qs) = ⊥
SameKeys (p ∷ ps) [] = ⊥

keys_pushed : (ps qs : Pairs) (n b c : ℕ) → SameKeys ps qs → SameKeys (ps ++ (n, b) ∷ []) (qs ++ (n, c) ∷ [])
keys_pushed [] [] n b c h = (refl, tt)
keys_pushed (p ∷ ps) (q ∷ qs) n b c h = (h.0, keys_pushed ps qs n b c h.1)
keys_pushed [] (q ∷ qs) n b c h = absurd h
keys_pushed (p ∷ ps) [] n b c h = absurd h

last_alike : (ps qs : Pairs) (o r : Option ℕ) (k : ℕ) → SameKeys ps qs → LikeBy Any o r → LikeBy Any (last_value o ps k) (last_value r qs k)
last_alike [] [] o r k h e = e
last_alike (p ∷ ps) (q ∷ qs) o r k h e =
    subst (λ (j : ℕ). LikeBy Any (last_value o (p ∷ ps) k) (if j == k then last_value (Some q.1) qs k else last_value r qs k)) h.0
    (chosen Any (p.0 == k) (last_value (Some p.1) ps k) (last_value o ps k) (last_value (Some q.1) qs k) (last_value r qs k)
    (last_alike ps qs (Some p.1) (Some q.1) k h.1 tt) (last_alike ps qs o r k h.1 e))
last_alike [] (q ∷ qs) o r k h e = absurd h
last_alike (p ∷ ps) [] o r k h e = absurd h

abbrev Like : SoFar → SoFar → Type 0
Like p q = (p.symbol ≡ q.symbol) × SameKeys p.seats q.seats

abbrev Far : List Statement × SoFar → List Statement × SoFar → Type 0
Far x y = Like x.1 y.1

abbrev LikeMade : Made → Made → Type 0
LikeMade r s = LikeBy Far r s

abbrev LikeLets : List Statement × (Pairs × SoFar) → List Statement × (Pairs × SoFar) → Type 0
LikeLets x y = (x.1.0 ≡ y.1.0) × Like x.1.1 y.1.1

both_alike : (r s : Made) (f g : SoFar → Made) → LikeMade r s → ((p q : SoFar) → Like p q → LikeMade (f p) (g q)) → LikeMade (both r f) (both s g)
both_alike r s f g e h =
    chain Far Far r s (λ x. f x.1 >>= λ y. Some (x.0 ++ y.0, y.1)) (λ x. g x.1 >>= λ y. Some (x.0 ++ y.0, y.1)) e
    (λ x y l. chain Far Far (f x.1) (g y.1) (λ z. Some (x.0 ++ z.0, z.1)) (λ z. Some (y.0 ++ z.0, z.1)) (h x.1 y.1 l) (λ u v k. k))

-- behind lets the names are the same
lets_chain : {C D : Type 0} (S : C → D → Type 0) (r s : Option (List Statement × (Pairs × SoFar))) (f : List Statement × (Pairs × SoFar) → Option C)
    (g : List Statement × (Pairs × SoFar) → Option D) → LikeBy LikeLets r s
    → ((xs ys : List Statement) (m : Pairs) (p q : SoFar) → Like p q → LikeBy S (f (xs, (m, p))) (g (ys, (m, q)))) → LikeBy S (r >>= f) (s >>= g)
lets_chain S r s f g e h =
    chain LikeLets S r s f g e (λ x y l. subst (λ (m : Pairs). LikeBy S (f x) (g (y.0, (m, y.1.1)))) l.0 (h x.0 y.0 x.1.0 x.1.1 y.1.1 l.1))

-- ---- steps

abbrev next_so_far : Step → SoFar → SoFar
next_so_far s p = with_lines 1 (with_symbol (bound_by s) p)

next_alike : (b : Option ℕ) (p q : SoFar) → Like p q → Like (with_lines 1 (with_symbol b p)) (with_lines 1 (with_symbol b q))
next_alike None p q l = l
next_alike (Some s) p q l = (ap (λ (k : ℕ). k + 1) l.0, l.1)

step_alike : (rest again : Pairs → SoFar → Made) (s : Step) (m : Pairs) (p q : SoFar) → ((names : Pairs) (u v : SoFar) → Like u v → LikeMade (rest names u) (again names v)) → Like p q
    → LikeMade (step_in rest s m p) (step_in again s m q)
step_alike rest again s m p q h l =
    let names = with_name (bound_by s) p.symbol m in
    subst (λ (k : ℕ). LikeMade (step_in rest s m p) (step_renamed (with_name (bound_by s) k m) s >>= λ t. again (with_name (bound_by s) k m) (next_so_far s q) >>= λ x.
    Some (around t x.0, with_lines (own_lines t - 1) x.1))) l.0
    (given Far (step_renamed names s) (λ t. rest names (next_so_far s p) >>= λ x. Some (around t x.0, with_lines (own_lines t - 1) x.1))
    (λ t. again names (next_so_far s q) >>= λ x. Some (around t x.0, with_lines (own_lines t - 1) x.1))
    (λ t. chain Far Far (rest names (next_so_far s p)) (again names (next_so_far s q)) (λ x. Some (around t x.0, with_lines (own_lines t - 1) x.1))
    (λ x. Some (around t x.0, with_lines (own_lines t - 1) x.1)) (h names (next_so_far s p) (next_so_far s q) (next_alike (bound_by s) p q l)) (λ x y k. k)))

lets_alike : (steps : List Step) (m : Pairs) (p q : SoFar) → Like p q → LikeBy LikeLets (lets steps m p) (lets steps m q)
lets_alike [] m p q l = (refl, l)
lets_alike (s ∷ steps) m p q l =
    let names = with_name (bound_by s) p.symbol m in
    subst (λ (k : ℕ). LikeBy LikeLets (lets (s ∷ steps) m p) (step_renamed (with_name (bound_by s) k m) s >>= λ t. lets steps (with_name (bound_by s) k m) (next_so_far s q) >>= λ x.
    Some (around t x.0, x.1))) l.0
    (given LikeLets (step_renamed names s) (λ t. lets steps names (next_so_far s p) >>= λ x. Some (around t x.0, x.1))
    (λ t. lets steps names (next_so_far s q) >>= λ x. Some (around t x.0, x.1))
    (λ t. chain LikeLets LikeLets (lets steps names (next_so_far s p)) (lets steps names (next_so_far s q)) (λ x. Some (around t x.0, x.1))
    (λ x. Some (around t x.0, x.1)) (lets_alike steps names (next_so_far s p) (next_so_far s q) (next_alike (bound_by s) p q l)) (λ x y k. k)))

-- ---- stores

index_alike : (ls ks : Loads) (o : Option Form) (i : Option Term) → LikeBy Any (index_by ls o i) (index_by ks o i)
index_alike ls ks (Some f) i = tt
index_alike ls ks None (Some e) = tt
index_alike ls ks None None = tt

coordinates_alike : (ls ks : Loads) (xs : List (List ℕ)) (os : List (Option Form)) (lefts : List (Option Term)) → LikeBy Any (coordinates_by ls xs os lefts) (coordinates_by ks xs os lefts)
coordinates_alike ls ks xs [] lefts = tt
coordinates_alike ls ks [] (o ∷ os) lefts = tt
coordinates_alike ls ks (x ∷ xs) (o ∷ os) lefts =
    chain Any Any (index_by ls o (first_left lefts)) (index_by ks o (first_left lefts))
    (λ i. coordinates_by ls xs os (other_lefts lefts) >>= λ cs. Some (record { variable = x; index = i } ∷ cs))
    (λ i. coordinates_by ks xs os (other_lefts lefts) >>= λ cs. Some (record { variable = x; index = i } ∷ cs)) (index_alike ls ks o (first_left lefts))
    (λ i j e. chain Any Any (coordinates_by ls xs os (other_lefts lefts)) (coordinates_by ks xs os (other_lefts lefts)) (λ cs. Some (record { variable = x; index = i } ∷ cs))
    (λ cs. Some (record { variable = x; index = j } ∷ cs)) (coordinates_alike ls ks xs os (other_lefts lefts)) (λ x y k. tt))

-- an owner with another buffer
module _ (h : Host) (g : StoredText) (fs : List FormulaText) (r : List Span1) where
  abbrev Own : ℕ → OwnerText
  Own b = record { host = h; function = g; formulas = fs; claimed = r; buffer = b }

  store_alike : (b c : ℕ) (ls ks : Loads) (d : ℕ) (at : List (Option Form)) → LikeBy Any (store_in (Own b) ls d at) (store_in (Own c) ks d at)
  store_alike b c ls ks d at =
      let xs = names_with g.variables g.changes d in
      given Any (slice_get fs d) (λ f. store_by ls b xs d f at) (λ f. store_by ks c xs d f at)
      (λ f. chain Any Any (coordinates_by ls xs at f.at) (coordinates_by ks xs at f.at)
      (λ cs. Some (Store b d cs (with_calls (as_load ls) f.value)))
      (λ cs. Some (Store c d cs (with_calls (as_load ks) f.value))) (coordinates_alike ls ks xs at f.at) (λ x y e. tt))

  stored_alike : (b c d : ℕ) (n : NestText) (m : Pairs) (p q : SoFar) → Like p q → LikeMade (stored (Own b) d n m p) (stored (Own c) d n m q)
  stored_alike b c d n m p q l =
      given Far (coordinates_renamed m n.at) (λ at. store_in (Own b) p.loads d at >>= λ s. Some (s ∷ [], with_lines 1 p))
      (λ at. store_in (Own c) q.loads d at >>= λ s. Some (s ∷ [], with_lines 1 q))
      (λ at. chain Any Far (store_in (Own b) p.loads d at) (store_in (Own c) q.loads d at) (λ s. Some (s ∷ [], with_lines 1 p)) (λ s. Some (s ∷ [], with_lines 1 q))
      (store_alike b c p.loads q.loads d at) (λ x y e. l))

  claimed_alike : (b c d : ℕ) (m : Pairs) (p q : SoFar) → Like p q → LikeBy Like (claimed (Own b) d m p) (claimed (Own c) d m q)
  claimed_alike b c d m p q l =
      given Like (region_renamed m r) (λ x. Some (with_claim (Own b) d x p)) (λ x. Some (with_claim (Own c) d x q)) (λ x. l)

-- ---- places

seated_alike : (n : ℕ) (i : PlacedText) (m : Pairs) (p q : SoFar) → Like p q → LikeMade (seated n i m p) (seated n i m q)
seated_alike n i m p q l =
    given Far (places_renamed m i.places)
    (λ places. Some (Alloc p.buffer i.function.subject.name places ∷ [], record p { line = p.line + 1; buffer = p.buffer + 1; seats = p.seats ++ (n, p.buffer) ∷ [] }))
    (λ places. Some (Alloc q.buffer i.function.subject.name places ∷ [], record q { line = q.line + 1; buffer = q.buffer + 1; seats = q.seats ++ (n, q.buffer) ∷ [] }))
    (λ places. (l.0, keys_pushed p.seats q.seats n p.buffer q.buffer l.1))

buffer_alike : (s : Spot) (m : Pairs) (n : ℕ) (i : PlacedText) (p q : SoFar) → Like p q → LikeMade (buffer_at s m n i p) (buffer_at s m n i q)
buffer_alike s m n i p q l =
    chosen Far (same_spot i.store s && not (same_spot i.home s)) (seated n i m p) (Some ([], p)) (seated n i m q) (Some ([], q)) (seated_alike n i m p q l) l

buffers_alike : (is : List PlacedText) (s : Spot) (m : Pairs) (ns : List ℕ) (p q : SoFar) → Like p q → LikeMade (buffers_at is s m ns p) (buffers_at is s m ns q)
buffers_alike is s m [] p q l = l
buffers_alike is s m (n ∷ ns) p q l =
    both_alike (slice_get is n >>= λ i. buffer_at s m n i p) (slice_get is n >>= λ i. buffer_at s m n i q) (buffers_at is s m ns) (buffers_at is s m ns)
    (given Far (slice_get is n) (λ i. buffer_at s m n i p) (λ i. buffer_at s m n i q) (λ i. buffer_alike s m n i p q l)) (λ u v k. buffers_alike is s m ns u v k)

own_alike : (s : Spot) (m : Pairs) (n : ℕ) (i : PlacedText) (p q : SoFar) → Like p q → LikeMade (own_buffer s m n i p) (own_buffer s m n i q)
own_alike s m n i p q l = chosen Far (same_spot i.store s) (seated n i m p) (Some ([], p)) (seated n i m q) (Some ([], q)) (seated_alike n i m p q l) l

held_alike : (i : PlacedText) (t : LaterText) (m : Pairs) (p q : SoFar) → Like p q → LikeBy Like (held i t m p) (held i t m q)
held_alike i t m p q l =
    let by : SoFar → Span1 → ℕ → SoFar = λ p y s. record p {
      windows = p.windows ++ record { claim = p.claim - 1; symbol = s; dimension = t.dimension; fold = fold_of i.function.placed.folds; span = y } ∷ [];
    } in
    given Like (slice_get i.region t.dimension) (λ x. span_renamed m x >>= λ y. value_in m t.symbol >>= λ s. Some (by p y s))
    (λ x. span_renamed m x >>= λ y. value_in m t.symbol >>= λ s. Some (by q y s))
    (λ x. given Like (span_renamed m x) (λ y. value_in m t.symbol >>= λ s. Some (by p y s)) (λ y. value_in m t.symbol >>= λ s. Some (by q y s))
    (λ y. given Like (value_in m t.symbol) (λ s. Some (by p y s)) (λ s. Some (by q y s)) (λ s. l)))

-- ---- nests, where those of the functions inside are alike

module _ (make : Nests) (is : List PlacedText) (alike : (n : ℕ) (i : PlacedText) (m : Pairs) (p q : SoFar) → Like p q → LikeMade (make n i m p) (make n i m q)) where
  function_alike : (s : Spot) (m : Pairs) (n : ℕ) (i : PlacedText) (p q : SoFar) → Like p q → LikeMade (function_at make s m n i p) (function_at make s m n i q)
  function_alike s m n i p q l =
      chosen Far (same_spot i.home s) (both (own_buffer s m n i p) (make n i m)) (Some ([], p)) (both (own_buffer s m n i q) (make n i m)) (Some ([], q))
      (both_alike (own_buffer s m n i p) (own_buffer s m n i q) (make n i m) (make n i m) (own_alike s m n i p q l) (alike n i m)) l

  functions_alike : (s : Spot) (m : Pairs) (ns : List ℕ) (p q : SoFar) → Like p q → LikeMade (functions_at make is s m ns p) (functions_at make is s m ns q)
  functions_alike s m [] p q l = l
  functions_alike s m (n ∷ ns) p q l =
      both_alike (slice_get is n >>= λ i. function_at make s m n i p) (slice_get is n >>= λ i. function_at make s m n i q) (functions_at make is s m ns) (functions_at make is s m ns)
      (given Far (slice_get is n) (λ i. function_at make s m n i p) (λ i. function_at make s m n i q) (λ i. function_alike s m n i p q l)) (λ u v k. functions_alike s m ns u v k)

  there_alike : (s : Spot) (m : Pairs) (p q : SoFar) → Like p q → LikeMade (all_at make is s m p) (all_at make is s m q)
  there_alike s m p q l =
      let ns = numbers_down (length is) in
      both_alike (buffers_at is s m ns p) (buffers_at is s m ns q) (functions_at make is s m ns) (functions_at make is s m ns) (buffers_alike is s m ns p q l) (λ u v k. functions_alike s m ns u v k)

  module _ (h : Host) (g : StoredText) (fs : List FormulaText) (r : List Span1) (b c : ℕ) where
    walk_alike : (d : ℕ) (n : NestText) (depth : ℕ) (steps : List Step) (m : Pairs) (p q : SoFar) → Like p q
        → LikeMade (walk make is (Own h g fs r b) d n depth steps m p) (walk make is (Own h g fs r c) d n depth steps m q)
    walk_alike d n depth [] m p q l =
        both_alike (all_at make is (spot h d depth) m p) (all_at make is (spot h d depth) m q) (stored (Own h g fs r b) d n m) (stored (Own h g fs r c) d n m)
        (there_alike (spot h d depth) m p q l) (λ u v k. stored_alike h g fs r b c d n m u v k)
    walk_alike d n depth (s ∷ steps) m p q l =
        both_alike (all_at make is (spot h d depth) m p) (all_at make is (spot h d depth) m q) (step_in (λ names u. walk make is (Own h g fs r b) d n (depth + 1) steps names u) s m)
        (step_in (λ names u. walk make is (Own h g fs r c) d n (depth + 1) steps names u) s m) (there_alike (spot h d depth) m p q l)
        (λ u v k. step_alike (λ names x. walk make is (Own h g fs r b) d n (depth + 1) steps names x) (λ names x. walk make is (Own h g fs r c) d n (depth + 1) steps names x) s m u v
        (λ names x y j. walk_alike d n (depth + 1) steps names x y j) k)

    apart_alike : (d : ℕ) (n : NestText) (depth : ℕ) (steps : List Step) (m : Pairs) (p q : SoFar) → Like p q
        → LikeMade (walk_apart make is (Own h g fs r b) d n depth steps m p) (walk_apart make is (Own h g fs r c) d n depth steps m q)
    apart_alike d n depth steps m p q l =
        chain Far Far (walk make is (Own h g fs r b) d n depth steps m p) (walk make is (Own h g fs r c) d n depth steps m q)
        (λ x. Some (x.0, with_loads p.loads x.1)) (λ x. Some (x.0, with_loads q.loads x.1)) (walk_alike d n depth steps m p q l) (λ x y k. k)

    nests_alike : (d : ℕ) (ns : List NestText) (m : Pairs) (p q : SoFar) → Like p q
        → LikeMade (nests_from make is (Own h g fs r b) d ns m p) (nests_from make is (Own h g fs r c) d ns m q)
    nests_alike d [] m p q l = l
    nests_alike d (n ∷ ns) m p q l =
        both_alike (walk_apart make is (Own h g fs r b) d n 0 n.steps m p) (walk_apart make is (Own h g fs r c) d n 0 n.steps m q)
        (λ u. claimed (Own h g fs r b) d m u >>= nests_from make is (Own h g fs r b) (d + 1) ns m)
        (λ u. claimed (Own h g fs r c) d m u >>= nests_from make is (Own h g fs r c) (d + 1) ns m) (apart_alike d n 0 n.steps m p q l)
        (λ u v k. chain Like Far (claimed (Own h g fs r b) d m u) (claimed (Own h g fs r c) d m v) (nests_from make is (Own h g fs r b) (d + 1) ns m)
        (nests_from make is (Own h g fs r c) (d + 1) ns m) (claimed_alike h g fs r b c d m u v k) (λ x y j. nests_alike (d + 1) ns m x y j))

    arm_alike : (n : NestText) (m : Pairs) (p q : SoFar) → Like p q → LikeMade (arm make is (Own h g fs r b) n m p) (arm make is (Own h g fs r c) n m q)
    arm_alike n m p q l =
        let k = let_count n.steps in apart_alike 0 n k (drop k n.steps) m (with_lines 1 p) (with_lines 1 q) l

  -- ---- functions inside

  module _ (b c n : ℕ) (i : PlacedText) where
    abbrev Whole : ℕ → OwnerText
    Whole k = owner (Inside n) i k

    abbrev New : ℕ → OwnerText
    New k = owner (Anew n) i k

    all_turns_alike : (m : Pairs) (p q : SoFar) → Like p q → LikeMade (all_turns make is b n i m p) (all_turns make is c n i m q)
    all_turns_alike m p q l =
        lets_chain Far (lets i.lets m p) (lets i.lets m q) (λ x. nests_from make is (Whole b) 0 i.nests x.1.0 x.1.1 >>= λ y. Some (x.0 ++ y.0, y.1))
        (λ x. nests_from make is (Whole c) 0 i.nests x.1.0 x.1.1 >>= λ y. Some (x.0 ++ y.0, y.1)) (lets_alike i.lets m p q l)
        (λ xs ys names u v k. chain Far Far (nests_from make is (Whole b) 0 i.nests names u) (nests_from make is (Whole c) 0 i.nests names v) (λ y. Some (xs ++ y.0, y.1))
        (λ y. Some (ys ++ y.0, y.1)) (nests_alike (Inside n) i.function i.formulas i.claimed b c 0 i.nests names u v k) (λ x y j. j))

    arms_alike : (all new : NestText) (s : ℕ) (whole names : Pairs) (p q : SoFar) → Like p q
        → LikeMade (arms make is (Whole b) (New b) all new s whole names p) (arms make is (Whole c) (New c) all new s whole names q)
    arms_alike all new s whole names p q l =
        let made : List Statement → List Statement → List Statement = λ xs ys. First s (Seq (block xs)) (Seq (block ys)) ∷ [] in
        chain Far Far (arm make is (Whole b) all whole p) (arm make is (Whole c) all whole q) (λ x. arm make is (New b) new names x.1 >>= λ y. Some (made x.0 y.0, with_lines 1 y.1))
        (λ x. arm make is (New c) new names x.1 >>= λ y. Some (made x.0 y.0, with_lines 1 y.1)) (arm_alike (Inside n) i.function i.formulas i.claimed b c all whole p q l)
        (λ x y k. chain Far Far (arm make is (New b) new names x.1) (arm make is (New c) new names y.1) (λ z. Some (made x.0 z.0, with_lines 1 z.1)) (λ z. Some (made y.0 z.0, with_lines 1 z.1))
        (arm_alike (Anew n) i.function i.formulas i.claimed b c new names x.1 y.1 k) (λ u v j. j))

    later_alike : (t : LaterText) (all new : NestText) (m : Pairs) (p q : SoFar) → Like p q
        → LikeMade (first_and_later make is (Whole b) (New b) t all new m p) (first_and_later make is (Whole c) (New c) t all new m q)
    later_alike t all new m p q l =
        let step = Named t.new Min t.first_new ∷ [] in
        let last : ℕ → ℕ → List Statement → List Statement → Pairs → List Statement × (Pairs × SoFar) → Made = λ k s xs ys whole z.
        arms make is (Whole k) (New k) all new s whole z.1.0 z.1.1 >>= λ v. Some (xs ++ (ys ++ (z.0 ++ v.0)), v.1) in
        let third : ℕ → ℕ → List Statement → Pairs → List Statement × (Pairs × SoFar) → Made = λ k s xs first y. first_lets new first y.1.1 >>= last k s xs y.0 y.1.0 in
        let second : ℕ → ℕ → List Statement × (Pairs × SoFar) → Made = λ k s x. first_lets all m x.1.1 >>= third k s x.0 x.1.0 in
        given Far (value_in m t.symbol) (λ s. lets step m p >>= second b s) (λ s. lets step m q >>= second c s)
        (λ s. lets_chain Far (lets step m p) (lets step m q) (second b s) (second c s) (lets_alike step m p q l)
        (λ xs ys first u v k. lets_chain Far (first_lets all m u) (first_lets all m v) (third b s xs first) (third c s ys first)
        (lets_alike (take (let_count all.steps) all.steps) m u v k)
        (λ bs cs whole x y j. lets_chain Far (first_lets new first x) (first_lets new first y) (last b s xs bs whole) (last c s ys cs whole)
        (lets_alike (take (let_count new.steps) new.steps) first x y j)
        (λ ds es names z w e. chain Far Far (arms make is (Whole b) (New b) all new s whole names z) (arms make is (Whole c) (New c) all new s whole names w)
        (λ v. Some (xs ++ (bs ++ (ds ++ v.0)), v.1)) (λ v. Some (ys ++ (cs ++ (es ++ v.0)), v.1)) (arms_alike all new s whole names z w e) (λ f g d. d)))))

    sliding_alike : (t : LaterText) (m : Pairs) (p q : SoFar) → Like p q → LikeMade (sliding_turns make is b n i t m p) (sliding_turns make is c n i t m q)
    sliding_alike t m p q l =
        let last : List Statement → SoFar → Made = λ xs u. held i t m u >>= λ r. Some (xs, r) in
        let third : ℕ → List Statement × SoFar → Made = λ k x. claimed (Whole k) 0 m x.1 >>= last x.0 in
        let second : ℕ → SoFar → NestText → NestText → Made = λ k u all new. first_and_later make is (Whole k) (New k) t all new m u >>= third k in
        given Far (slice_get i.nests 0) (λ all. slice_get t.nests 0 >>= second b p all) (λ all. slice_get t.nests 0 >>= second c q all)
        (λ all. given Far (slice_get t.nests 0) (second b p all) (second c q all)
        (λ new. chain Far Far (first_and_later make is (Whole b) (New b) t all new m p) (first_and_later make is (Whole c) (New c) t all new m q) (third b) (third c) (later_alike t all new m p q l)
        (λ x y k. chain Like Far (claimed (Whole b) 0 m x.1) (claimed (Whole c) 0 m y.1) (last x.0) (last y.0)
        (claimed_alike (Inside n) i.function i.formulas i.claimed b c 0 m x.1 y.1 k)
        (λ u v j. chain Like Far (held i t m u) (held i t m v) (λ r. Some (x.0, r)) (λ r. Some (y.0, r)) (held_alike i t m u v j) (λ f g e. e)))))

    turns_alike : (o : Option LaterText) (m : Pairs) (p q : SoFar) → Like p q → LikeMade (turns make is b n i o m p) (turns make is c n i o m q)
    turns_alike None m p q l = all_turns_alike m p q l
    turns_alike (Some t) m p q l = sliding_alike t m p q l

computed_alike : (deep : ℕ) (is : List PlacedText) (n : ℕ) (i : PlacedText) (m : Pairs) (p q : SoFar) → Like p q → LikeMade (computed deep is n i m p) (computed deep is n i m q)
computed_alike zero is n i m p q l = tt
computed_alike (suc deep) is n i m p q l =
    chain Any Far (value_in p.seats n) (value_in q.seats n) (λ b. turns (computed deep is) is b n i i.later m p) (λ c. turns (computed deep is) is c n i i.later m q)
    (last_alike p.seats q.seats None None n l.1 tt) (λ b c e. turns_alike (computed deep is) is (computed_alike deep is) b c n i i.later m p q l)

-- ---- a group

pub nests_unnumbered : (is : List PlacedText) (o : OwnerText) (k : SkeletonText) (p q : SoFar) → p.symbol ≡ q.symbol → p.seats ≡ [] → q.seats ≡ []
    → is_some (nests_over_grid is o k p) ≡ is_some (nests_over_grid is o k q)
nests_unnumbered is o k p q symbols none none_either =
    let deep = length is in
    let m = names_over k in
    let keys : SameKeys p.seats q.seats = subst (λ (l : Pairs). SameKeys p.seats l) (sym none_either) (subst (λ (l : Pairs). SameKeys l []) (sym none) tt) in
    some_alike Far (nests_over_grid is o k p) (nests_over_grid is o k q)
    (both_alike (all_at (computed deep is) is over_grid m p) (all_at (computed deep is) is over_grid m q) (nests_from (computed deep is) is o 0 k.nests m)
    (nests_from (computed deep is) is o 0 k.nests m) (there_alike (computed deep is) is (computed_alike deep is) over_grid m p q (symbols, keys))
    (λ u v l. nests_alike (computed deep is) is (computed_alike deep is) o.host o.function o.formulas o.claimed o.buffer o.buffer 0 k.nests m u v l))
