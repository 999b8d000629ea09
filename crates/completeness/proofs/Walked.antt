-- What stands in the nests of a group in whose loops functions are computed is made piece by piece: what is so of each piece, and of pieces behind one another, is so of all.
use Rattle.std.proofs.Common.{◌≡◌, ℕ, zero, suc, ◌+◌, ◌-◌, Bool, true, false, List, [], ◌∷◌, ◌++◌, length, take, drop, Option, Some, None, refl, sym, ap, ◌∙◌, subst, inl, inr, ◌⊎◌, arith}
use Rattle.std.specs.Prelude.{◌&&◌, not, if◌then◌else◌, slice_get}
use Rattle.std.specs.List.{AllByRecursion}
use Rattle.plan.specs.declared.stmt.Pick.TheVariants.{Min}
use Rattle.plan.specs.Plan.{Statement, Seq, First, Alloc, block}
use Rattle.lin.specs.declared.span.Span1.{Span1}
use Rattle.plan.specs.declared.stmt.Places.{Places}
use Rattle.lin.specs.Forms.{Form}
use Rattle.sched.specs.declared.skeleton.Step.{Step}
use Rattle.sched.specs.declared.skeleton.Step.TheVariants.{Turns, Named, Tested}
use Rattle.sched.specs.Skeleton.{NestText}
use Rattle.sched.specs.Standing.{◌>>=◌}
use Rattle.sched.specs.declared.hosts.Spot.{Spot}
use Rattle.sched.specs.declared.hosts.Host.TheVariants.{Inner as Inside, Later as Anew}
use Rattle.blocks.specs.Bodies.{own_lines}
use Rattle.sched.specs.Renamed.{Pairs, value_in, step_renamed, region_renamed, coordinates_renamed}
use Rattle.blocks.specs.Renamed.{places_renamed}
use Rattle.sched.specs.Placed.{LaterText, PlacedText, OwnerText, SoFar, Made, with_lines, with_symbol, with_name, bound_by, around, store_in, stored, with_claim, claimed}
use Rattle.blocks.specs.Placed.{both, with_loads, seated}
use Rattle.blocks.specs.Placed.{same_spot, buffer_at, buffers_at, Nests, own_buffer, function_at, functions_at, numbers_down, all_at, step_in, walk, walk_apart, nests_from, owner}
use Rattle.sched.specs.Placed.{spot, lets}
use Rattle.blocks.specs.Placed.{all_turns}
use Rattle.blocks.specs.Placed.{let_count, held, arm, arms, first_lets, first_and_later, sliding_turns, turns, computed, over_grid, group_nests}
use Rattle.blocks.proofs.Laying.{bound, same}

-- behind the lines of one that slides: those that make all, and those that make what is new
abbrev pub choice : ℕ → List Statement → List Statement → List Statement
choice s us vs = First s (Seq (block us)) (Seq (block vs)) ∷ []

-- each of the steps may stand behind those before it
abbrev pub AreFine : (List Step → Step → Type 0) → List Step → List Step → Type 0
AreFine Fine f [] = Unit {0}
AreFine Fine f (s ∷ ss) = Fine f s × AreFine Fine (f ++ s ∷ []) ss

-- of one that is computed inside: its lets, and the steps of its nests, of those of the first turn and of the others
pub record AreSteps (Fine : List Step → Step → Type 0) (Lain : Step → Type 0) (i : PlacedText) : Type 0 where
  pub lets : AllByRecursion Lain i.lets
  pub nests : (d : ℕ) (n : NestText) → slice_get i.nests d ≡ Some n → AreFine Fine [] n.steps
  pub later : (l : LaterText) → i.later ≡ Some l → (d : ℕ) (n : NestText) → slice_get l.nests d ≡ Some n → AreFine Fine [] n.steps

-- who owns these nests
abbrev pub Ownership : Type 1
Ownership = OwnerText → List NestText → Type 0

-- behind these steps of a nest and inside these names these lines are made of what was made so far
abbrev pub Lines : Type 1
Lines = List Step → Pairs → SoFar → List Statement → SoFar → Type 0

-- the place of a function is behind these steps of a nest
pub record IsBehind (Owns : Ownership) (home : Spot) (f : List Step) : Type 0 where
  pub owner : OwnerText
  pub nests : List NestText
  pub owns : Owns owner nests
  pub definition : ℕ
  pub nest : NestText
  pub depth : ℕ
  pub at : slice_get nests definition ≡ Some nest
  pub home_is : same_spot home (spot owner.host definition depth) ≡ true
  pub steps : List Step
  pub stands : f ++ steps ≡ nest.steps
  pub deep : length f ≡ depth

-- or it is over the grid
abbrev pub StandsAt : Ownership → Spot → List Step → Type 0
StandsAt Owns home f = (same_spot home over_grid ≡ true) ⊎ IsBehind Owns home f

-- it is so of each piece, and of pieces behind one another
pub record HoldsOfEach (inners : List PlacedText) (Fine : List Step → Step → Type 0) (Lain : Step → Type 0) (Owns : Ownership) (R : Lines) : Type 0 where
  pub none : (f : List Step) (m : Pairs) (p : SoFar) → R f m p [] p
  pub both : (f : List Step) (m : Pairs) (p q r : SoFar) (xs ys : List Statement) → R f m p xs q → R f m q ys r → R f m p (xs ++ ys) r
  pub step : (f : List Step) (m : Pairs) (p q : SoFar) (xs : List Statement) (s t : Step) → Fine f s → step_renamed (with_name (bound_by s) p.symbol m) s ≡ Some t →
      R (f ++ s ∷ []) (with_name (bound_by s) p.symbol m) (with_lines 1 (with_symbol (bound_by s) p)) xs q → R f m p (around t xs) (with_lines (own_lines t - 1) q)
  pub named : (f : List Step) (m : Pairs) (p q : SoFar) (ss : List Step) (x : List Statement × (Pairs × SoFar)) (ys : List Statement) → AllByRecursion Lain ss → lets ss m p ≡ Some x →
      R [] x.1.0 x.1.1 ys q → R f m p (x.0 ++ ys) q
  pub store : (f : List Step) (m : Pairs) (p : SoFar) (o : OwnerText) (ns : List NestText) (d : ℕ) (n : NestText) (at : List (Option Form)) (s : Statement) → Owns o ns → slice_get ns d ≡ Some n →
      coordinates_renamed m n.at ≡ Some at → store_in o p.loads d at ≡ Some s → R f m p (s ∷ []) (with_lines 1 p)
  pub apart : (f : List Step) (m : Pairs) (p q : SoFar) (xs : List Statement) → R f m p xs q → R f m p xs (with_loads p.loads q)
  pub claim : (f : List Step) (m : Pairs) (p : SoFar) (o : OwnerText) (ns : List NestText) (d : ℕ) (n : NestText) (r : List Span1) → Owns o ns → slice_get ns d ≡ Some n →
      region_renamed m o.claimed ≡ Some r → R f m p [] (with_claim o d r p)
  pub seat : (f : List Step) (m : Pairs) (p : SoFar) (n : ℕ) (i : PlacedText) (places : List Places) → slice_get inners n ≡ Some i → places_renamed m i.places ≡ Some places →
      R f m p (Alloc p.buffer i.function.subject.name places ∷ []) (record p { line = p.line + 1; buffer = p.buffer + 1; seats = p.seats ++ (n, p.buffer) ∷ [] })
  pub own : (f : List Step) (m : Pairs) (p q : SoFar) (n : ℕ) (i : PlacedText) (b : ℕ) (xs : List Statement) → slice_get inners n ≡ Some i → value_in p.seats n ≡ Some b →
      (Owns (owner (Inside n) i b) i.nests → ((l : LaterText) → i.later ≡ Some l → Owns (owner (Anew n) i b) l.nests) → R f m p xs q) → R f m p xs q
  pub slide : (f : List Step) (m : Pairs) (p q r : SoFar) (n : ℕ) (i : PlacedText) (l : LaterText) (all new : NestText) (s : ℕ) (x y z : List Statement × (Pairs × SoFar)) (us vs : List Statement) →
      slice_get inners n ≡ Some i → i.later ≡ Some l → StandsAt Owns i.home f → value_in m l.symbol ≡ Some s → lets (Named l.new Min l.first_new ∷ []) m p ≡ Some x → first_lets all m x.1.1 ≡ Some y →
      first_lets new x.1.0 y.1.1 ≡ Some z → R (take (let_count all.steps) all.steps) y.1.0 (with_lines 1 z.1.1) us q → R (take (let_count new.steps) new.steps) z.1.0 (with_lines 1 q) vs r →
      R f m p (x.0 ++ (y.0 ++ (z.0 ++ choice s us vs))) (with_lines 1 r)
  pub window : (f : List Step) (m : Pairs) (p q : SoFar) (n : ℕ) (i : PlacedText) (l : LaterText) → slice_get inners n ≡ Some i → i.later ≡ Some l → held i l m p ≡ Some q → R f m p [] q

module _ (inners : List PlacedText) (Fine : List Step → Step → Type 0) (Lain : Step → Type 0) (Owns : Ownership) (R : Lines) (each : HoldsOfEach inners Fine Lain Owns R)
    (fine : (n : ℕ) (i : PlacedText) → slice_get inners n ≡ Some i → AreSteps Fine Lain i) where
  abbrev Done : List Step → Pairs → SoFar → List Statement × SoFar → Type 0
  Done f m p x = R f m p x.0 x.1

  is_done : (f : List Step) (m : Pairs) (p : SoFar) (x y : List Statement × SoFar) → Some x ≡ Some y → Done f m p x → Done f m p y
  is_done f m p x y e h = subst (Done f m p) (same x y e) h

  both_done : (f : List Step) (m : Pairs) (p : SoFar) (o : Made) (g : SoFar → Made) (x : List Statement × SoFar) → both o g ≡ Some x →
      ((y : List Statement × SoFar) → o ≡ Some y → Done f m p y) → ((q : SoFar) (z : List Statement × SoFar) → g q ≡ Some z → Done f m q z) → Done f m p x
  both_done f m p o g x e first rest =
      let b = bound o (λ x. g x.1 >>= λ y. Some (x.0 ++ y.0, y.1)) x e in
      let c = bound (g b.value.1) (λ y. Some (b.value.0 ++ y.0, y.1)) x b.comes in
      is_done f m p (b.value.0 ++ c.value.0, c.value.1) x c.comes (each.both f m p b.value.1 c.value.1 b.value.0 c.value.0 (first b.value b.is) (rest b.value.1 c.value c.is))

  seat_done : (f : List Step) (m : Pairs) (p : SoFar) (n : ℕ) (i : PlacedText) (x : List Statement × SoFar) → slice_get inners n ≡ Some i → seated n i m p ≡ Some x → Done f m p x
  seat_done f m p n i x at e =
      let made : List Places → List Statement × SoFar =
      λ places. (Alloc p.buffer i.function.subject.name places ∷ [], record p { line = p.line + 1; buffer = p.buffer + 1; seats = p.seats ++ (n, p.buffer) ∷ [] }) in
      let b = bound (places_renamed m i.places) (λ places. Some (made places)) x e in is_done f m p (made b.value) x b.comes (each.seat f m p n i b.value at b.is)

  seat_if : (f : List Step) (m : Pairs) (p : SoFar) (n : ℕ) (i : PlacedText) (x : List Statement × SoFar) (b : Bool) → slice_get inners n ≡ Some i → (if b then seated n i m p else Some (
    [],
    p,
  )) ≡ Some x →
      Done f m p x
  seat_if f m p n i x true at e = seat_done f m p n i x at e
  seat_if f m p n i x false at e = is_done f m p ([], p) x e (each.none f m p)

  buffers_done : (f : List Step) (s : Spot) (m : Pairs) (ns : List ℕ) (p : SoFar) (x : List Statement × SoFar) → buffers_at inners s m ns p ≡ Some x → Done f m p x
  buffers_done f s m [] p x e = is_done f m p ([], p) x e (each.none f m p)
  buffers_done f s m (n ∷ ns) p x e = both_done f m p (slice_get inners n >>= λ i. buffer_at s m n i p) (buffers_at inners s m ns) x e
      (λ y q. let b = bound (slice_get inners n) (λ i. buffer_at s m n i p) y q in seat_if f m p n b.value y (same_spot b.value.store s && not (same_spot b.value.home s)) b.is b.comes)
      (λ q z g. buffers_done f s m ns q z g)

  -- the nests of each are made so
  abbrev AreDone : Nests → Type 0
  AreDone make = (f : List Step) (n : ℕ) (i : PlacedText) (m : Pairs) (p : SoFar) (x : List Statement × SoFar) → slice_get inners n ≡ Some i → StandsAt Owns i.home f → make n i m p ≡ Some x
      → Done f m p x

  -- whatever has its place here stands so
  abbrev IsPlace : Spot → List Step → Type 0
  IsPlace s f = (home : Spot) → same_spot home s ≡ true → StandsAt Owns home f

  function_if : (make : Nests) → AreDone make → (f : List Step) (s : Spot) → IsPlace s f → (m : Pairs) (p : SoFar) (n : ℕ) (i : PlacedText) (x : List Statement × SoFar) (b : Bool) →
      same_spot i.home s ≡ b → slice_get inners n ≡ Some i → (if b then both (own_buffer s m n i p) (make n i m) else Some ([], p)) ≡ Some x → Done f m p x
  function_if make done f s place m p n i x true here at e =
      both_done f m p (own_buffer s m n i p) (make n i m) x e (λ y q. seat_if f m p n i y (same_spot i.store s) at q) (λ q z g. done f n i m q z at (place i.home here) g)
  function_if make done f s place m p n i x false here at e = is_done f m p ([], p) x e (each.none f m p)

  functions_done : (make : Nests) → AreDone make → (f : List Step) (s : Spot) → IsPlace s f → (m : Pairs) (ns : List ℕ) (p : SoFar) (x : List Statement × SoFar) →
      functions_at make inners s m ns p ≡ Some x → Done f m p x
  functions_done make done f s place m [] p x e = is_done f m p ([], p) x e (each.none f m p)
  functions_done make done f s place m (n ∷ ns) p x e = both_done f m p (slice_get inners n >>= λ i. function_at make s m n i p) (functions_at make inners s m ns) x e
      (λ y q. let b = bound (slice_get inners n) (λ i. function_at make s m n i p) y q in function_if make done f s place m p n b.value y (same_spot b.value.home s) refl b.is b.comes)
      (λ q z g. functions_done make done f s place m ns q z g)

  all_done : (make : Nests) → AreDone make → (f : List Step) (s : Spot) → IsPlace s f → (m : Pairs) (p : SoFar) (x : List Statement × SoFar) → all_at make inners s m p ≡ Some x → Done f m p x
  all_done make done f s place m p x e =
      both_done f m p (buffers_at inners s m (numbers_down (length inners)) p) (functions_at make inners s m (numbers_down (length inners))) x e
      (λ y q. buffers_done f s m (numbers_down (length inners)) p y q) (λ q z g. functions_done make done f s place m (numbers_down (length inners)) q z g)

  step_done : (f : List Step) (rest : Pairs → SoFar → Made) (s : Step) → ((m : Pairs) (p : SoFar) (x : List Statement × SoFar) → rest m p ≡ Some x → Done (f ++ s ∷ []) m p x) → Fine f s →
      (m : Pairs) (p : SoFar) (x : List Statement × SoFar) → step_in rest s m p ≡ Some x → Done f m p x
  step_done f rest s done good m p x e =
      let names = with_name (bound_by s) p.symbol m in
      let inside = with_lines 1 (with_symbol (bound_by s) p) in
      let made : Step → List Statement × SoFar → List Statement × SoFar = λ t x. (around t x.0, with_lines (own_lines t - 1) x.1) in
      let b = bound (step_renamed names s) (λ t. rest names inside >>= λ x. Some (made t x)) x e in
      let c = bound (rest names inside) (λ x. Some (made b.value x)) x b.comes in
      is_done f m p (made b.value c.value) x c.comes (each.step f m p c.value.1 c.value.0 s b.value good b.is (done names inside c.value c.is))

  all_nil : {A : Type 0} (xs : List A) → xs ++ [] ≡ xs
  all_nil [] = refl
  all_nil (x ∷ xs) = ap (λ (ys : List _). x ∷ ys) (all_nil xs)

  one_on : {A : Type 0} (xs : List A) (x : A) (ys : List A) → (xs ++ x ∷ []) ++ ys ≡ xs ++ (x ∷ ys)
  one_on [] x ys = refl
  one_on (y ∷ xs) x ys = ap (λ (zs : List _). y ∷ zs) (one_on xs x ys)

  one_long : {A : Type 0} (xs : List A) (x : A) → length (xs ++ x ∷ []) ≡ length xs + 1
  one_long [] x = omega arith
  one_long (y ∷ xs) x = (let rest = one_long xs x in omega (arith, rest))

  -- from behind so many steps of a nest on
  module _ (make : Nests) (done : AreDone make) (o : OwnerText) (ns : List NestText) (owns : Owns o ns) where
    store_done : (f : List Step) (d : ℕ) (n : NestText) → slice_get ns d ≡ Some n → (m : Pairs) (p : SoFar) (x : List Statement × SoFar) → stored o d n m p ≡ Some x → Done f m p x
    store_done f d n at m p x e =
        let made : Statement → List Statement × SoFar = λ s. (s ∷ [], with_lines 1 p) in
        let b = bound (coordinates_renamed m n.at) (λ at. store_in o p.loads d at >>= λ s. Some (made s)) x e in
        let c = bound (store_in o p.loads d b.value) (λ s. Some (made s)) x b.comes in
        is_done f m p (made c.value) x c.comes (each.store f m p o ns d n b.value c.value owns at b.is c.is)

    place_here : (f : List Step) (d : ℕ) (n : NestText) → slice_get ns d ≡ Some n → (depth : ℕ) (steps : List Step) → f ++ steps ≡ n.steps → length f ≡ depth → IsPlace (spot o.host d depth) f
    place_here f d n at depth steps stands deep = λ home here. inr (record {
      owner = o;
      nests = ns;
      owns = owns;
      definition = d;
      nest = n;
      depth = depth;
      at = at;
      home_is = here;
      steps = steps;
      stands = stands;
      deep = deep;
    })

    walk_done : (f : List Step) (d : ℕ) (n : NestText) → slice_get ns d ≡ Some n → (depth : ℕ) (steps : List Step) → f ++ steps ≡ n.steps → length f ≡ depth → AreFine Fine f steps → (m : Pairs)
        (p : SoFar) (x : List Statement × SoFar) → walk make inners o d n depth steps m p ≡ Some x → Done f m p x
    walk_done f d n at depth [] stands deep good m p x e =
        both_done f m p (all_at make inners (spot o.host d depth) m p) (stored o d n m) x e
        (λ y q. all_done make done f (spot o.host d depth) (place_here f d n at depth [] stands deep) m p y q) (λ q z g. store_done f d n at m q z g)
    walk_done f d n at depth (s ∷ steps) stands deep good m p x e =
        let next : length (f ++ s ∷ []) ≡ depth + 1 = one_long f s ∙ ap (λ (k : ℕ). k + 1) deep in
        both_done f m p (all_at make inners (spot o.host d depth) m p) (step_in (λ names q. walk make inners o d n (depth + 1) steps names q) s m) x e
        (λ y q. all_done make done f (spot o.host d depth) (place_here f d n at depth (s ∷ steps) stands deep) m p y q)
        (λ q z g. step_done f (λ names q. walk make inners o d n (depth + 1) steps names q) s
        (λ k u y h. walk_done (f ++ s ∷ []) d n at (depth + 1) steps (one_on f s steps ∙ stands) next good.1 k u y h) good.0 m q z g)

    apart_done : (f : List Step) (d : ℕ) (n : NestText) → slice_get ns d ≡ Some n → (depth : ℕ) (steps : List Step) → f ++ steps ≡ n.steps → length f ≡ depth → AreFine Fine f steps → (m : Pairs)
        (p : SoFar) (x : List Statement × SoFar) → walk_apart make inners o d n depth steps m p ≡ Some x → Done f m p x
    apart_done f d n at depth steps stands deep good m p x e =
        let made : List Statement × SoFar → List Statement × SoFar = λ x. (x.0, with_loads p.loads x.1) in
        let b = bound (walk make inners o d n depth steps m p) (λ x. Some (made x)) x e in
        is_done f m p (made b.value) x b.comes (each.apart f m p b.value.1 b.value.0 (walk_done f d n at depth steps stands deep good m p b.value b.is))

    claim_done : (f : List Step) (d : ℕ) (n : NestText) → slice_get ns d ≡ Some n → (m : Pairs) (p q : SoFar) → claimed o d m p ≡ Some q → R f m p [] q
    claim_done f d n at m p q e =
        let b = bound (region_renamed m o.claimed) (λ r. Some (with_claim o d r p)) q e in
        subst (R f m p []) (same (with_claim o d b.value p) q b.comes) (each.claim f m p o ns d n b.value owns at b.is)

    nests_done : ((d : ℕ) (n : NestText) → slice_get ns d ≡ Some n → AreFine Fine [] n.steps) → (d : ℕ) (rest : List NestText) →
        ((j : ℕ) (n : NestText) → slice_get rest j ≡ Some n → slice_get ns (d + j) ≡ Some n) → (m : Pairs) (p : SoFar) (x : List Statement × SoFar) →
        nests_from make inners o d rest m p ≡ Some x → Done [] m p x
    nests_done good d [] there m p x e = is_done [] m p ([], p) x e (each.none [] m p)
    nests_done good d (n ∷ rest) there m p x e =
        let start : d + 0 ≡ d = omega arith in
        let at : slice_get ns d ≡ Some n = ap (slice_get ns) (sym start) ∙ there 0 n refl in
        both_done [] m p (walk_apart make inners o d n 0 n.steps m p) (λ q. claimed o d m q >>= nests_from make inners o (d + 1) rest m) x e
        (λ y q. apart_done [] d n at 0 n.steps refl refl (good d n at) m p y q)
        (λ q z g.
        let b = bound (claimed o d m q) (nests_from make inners o (d + 1) rest m) z g in
        let behind = nests_done good (d + 1) rest (λ j w h. let next : d + suc j ≡ (d + 1) + j = omega arith in ap (slice_get ns) (sym next) ∙ there (suc j) w h) m b.value z b.comes in
        each.both [] m q b.value z.1 [] z.0 (claim_done [] d n at m q b.value b.is) behind)

  -- ---- functions inside

  fine_on : (k : ℕ) (f ss : List Step) → AreFine Fine f ss → AreFine Fine (f ++ take k ss) (drop k ss)
  fine_on zero f ss h = subst (λ (g : List Step). AreFine Fine g ss) (sym (all_nil f)) h
  fine_on (suc k) f [] h = tt
  fine_on (suc k) f (s ∷ ss) h = subst (λ (g : List Step). AreFine Fine g (drop k ss)) (one_on f s (take k ss)) (fine_on k (f ++ s ∷ []) ss h.1)

  halves : (k : ℕ) (ss : List Step) → take k ss ++ drop k ss ≡ ss
  halves zero ss = refl
  halves (suc k) [] = refl
  halves (suc k) (s ∷ ss) = ap (λ (ts : List Step). s ∷ ts) (halves k ss)

  lets_long : (ss : List Step) → length (take (let_count ss) ss) ≡ let_count ss
  lets_long [] = refl
  lets_long (Turns i x kind ∷ ss) = refl
  lets_long (Tested low high ∷ ss) = refl
  lets_long (Named i pick fs ∷ ss) =
      let next : suc (let_count ss) ≡ let_count ss + 1 = omega arith in
      ap (λ (n : ℕ). length (take n (Named i pick fs ∷ ss))) (sym next) ∙ ap suc (lets_long ss) ∙ next

  module _ (make : Nests) (done : AreDone make) (f : List Step) (b n : ℕ) (i : PlacedText) (at : slice_get inners n ≡ Some i) (place : StandsAt Owns i.home f) where
    turns_done : Owns (owner (Inside n) i b) i.nests → (m : Pairs) (p : SoFar) (x : List Statement × SoFar) → all_turns make inners b n i m p ≡ Some x → Done f m p x
    turns_done owns m p x e =
        let good = fine n i at in
        let o = owner (Inside n) i b in
        let w = bound (lets i.lets m p) (λ x. nests_from make inners o 0 i.nests x.1.0 x.1.1 >>= λ y. Some (x.0 ++ y.0, y.1)) x e in
        let v = bound (nests_from make inners o 0 i.nests w.value.1.0 w.value.1.1) (λ y. Some (w.value.0 ++ y.0, y.1)) x w.comes in
        let nests = nests_done make done o i.nests owns good.nests 0 i.nests (λ j u h. let none : 0 + j ≡ j = omega arith in ap (slice_get i.nests) none ∙ h) w.value.1.0 w.value.1.1 v.value v.is in
        is_done f m p (w.value.0 ++ v.value.0, v.value.1) x v.comes (each.named f m p v.value.1 i.lets w.value v.value.0 good.lets w.is nests)

    -- one that slides: its lets, and then the lines of the first turn and those of the others
    module _ (l : LaterText) (later : i.later ≡ Some l) (owns : Owns (owner (Inside n) i b) i.nests) (new_owns : Owns (owner (Anew n) i b) l.nests) (all new : NestText)
        (first : slice_get i.nests 0 ≡ Some all) (second : slice_get l.nests 0 ≡ Some new) (m : Pairs) (p : SoFar) where
      abbrev Let : Type 0
      Let = List Statement × (Pairs × SoFar)

      abbrev o : OwnerText
      o = owner (Inside n) i b

      abbrev w : OwnerText
      w = owner (Anew n) i b

      arm_first : (whole : Pairs) (q : SoFar) (x : List Statement × SoFar) → arm make inners o all whole q ≡ Some x → R (take (let_count all.steps) all.steps) whole (with_lines 1 q) x.0 x.1
      arm_first whole q x e =
          apart_done make done o i.nests owns (take (let_count all.steps) all.steps) 0 all first (let_count all.steps) (drop (let_count all.steps) all.steps) (halves (let_count all.steps) all.steps)
          (lets_long all.steps) (fine_on (let_count all.steps) [] all.steps ((fine n i at).nests 0 all first)) whole (with_lines 1 q) x e

      arm_other : (anew : Pairs) (q : SoFar) (x : List Statement × SoFar) → arm make inners w new anew q ≡ Some x → R (take (let_count new.steps) new.steps) anew (with_lines 1 q) x.0 x.1
      arm_other anew q x e =
          apart_done make done w l.nests new_owns (take (let_count new.steps) new.steps) 0 new second (let_count new.steps) (drop (let_count new.steps) new.steps) (halves (let_count
          new.steps) new.steps)
          (lets_long new.steps) (fine_on (let_count new.steps) [] new.steps ((fine n i at).later l later 0 new second)) anew (with_lines 1 q) x e

      record AreArms (s : ℕ) (whole anew : Pairs) (q : SoFar) (v : List Statement × SoFar) : Type 0 where
        us : List Statement × SoFar
        vs : List Statement × SoFar
        one : R (take (let_count all.steps) all.steps) whole (with_lines 1 q) us.0 us.1
        two : R (take (let_count new.steps) new.steps) anew (with_lines 1 us.1) vs.0 vs.1
        is : (choice s us.0 vs.0, with_lines 1 vs.1) ≡ v

      arms_are : (s : ℕ) (whole anew : Pairs) (q : SoFar) (v : List Statement × SoFar) → arms make inners o w all new s whole anew q ≡ Some v → AreArms s whole anew q v
      arms_are s whole anew q v e =
          let made : List Statement × SoFar → List Statement × SoFar → List Statement × SoFar = λ x y. (choice s x.0 y.0, with_lines 1 y.1) in
          let g = bound (arm make inners o all whole q) (λ x. arm make inners w new anew x.1 >>= λ y. Some (made x y)) v e in
          let h = bound (arm make inners w new anew g.value.1) (λ y. Some (made g.value y)) v g.comes in
          record { us = g.value; vs = h.value; one = arm_first whole q g.value g.is; two = arm_other anew g.value.1 h.value h.is; is = same (made g.value h.value) v h.comes }

      abbrev from_third : ℕ → Let → Let → Let → Made
      from_third s x y z = arms make inners o w all new s y.1.0 z.1.0 z.1.1 >>= λ v. Some (x.0 ++ (y.0 ++ (z.0 ++ v.0)), v.1)

      abbrev from_second : ℕ → Let → Let → Made
      from_second s x y = first_lets new x.1.0 y.1.1 >>= from_third s x y

      abbrev from_first : ℕ → Let → Made
      from_first s x = first_lets all m x.1.1 >>= from_second s x

      abbrev from_symbol : ℕ → Made
      from_symbol s = lets (Named l.new Min l.first_new ∷ []) m p >>= from_first s

      slid : (s : ℕ) (x y z : Let) (v : List Statement × SoFar) → value_in m l.symbol ≡ Some s → lets (Named l.new Min l.first_new ∷ []) m p ≡ Some x → first_lets all m x.1.1 ≡ Some y →
          first_lets new x.1.0 y.1.1 ≡ Some z → AreArms s y.1.0 z.1.0 z.1.1 v → Done f m p (x.0 ++ (y.0 ++ (z.0 ++ v.0)), v.1)
      slid s x y z v symbol one two three h =
          subst (λ (u : List Statement × SoFar). Done f m p (x.0 ++ (y.0 ++ (z.0 ++ u.0)), u.1)) h.is
          (each.slide f m p h.us.1 h.vs.1 n i l all new s x y z h.us.0 h.vs.0 at later place symbol one two three h.one h.two)

      third_done : (s : ℕ) (x y z : Let) (out : List Statement × SoFar) → value_in m l.symbol ≡ Some s → lets (Named l.new Min l.first_new ∷ []) m p ≡ Some x → first_lets all m x.1.1 ≡ Some y →
          first_lets new x.1.0 y.1.1 ≡ Some z → from_third s x y z ≡ Some out → Done f m p out
      third_done s x y z out symbol one two three e =
          let made : List Statement × SoFar → List Statement × SoFar = λ v. (x.0 ++ (y.0 ++ (z.0 ++ v.0)), v.1) in
          let v = bound (arms make inners o w all new s y.1.0 z.1.0 z.1.1) (λ v. Some (made v)) out e in
          is_done f m p (made v.value) out v.comes (slid s x y z v.value symbol one two three (arms_are s y.1.0 z.1.0 z.1.1 v.value v.is))

      second_done : (s : ℕ) (x y : Let) (out : List Statement × SoFar) → value_in m l.symbol ≡ Some s → lets (Named l.new Min l.first_new ∷ []) m p ≡ Some x → first_lets all m x.1.1 ≡ Some y →
          from_second s x y ≡ Some out → Done f m p out
      second_done s x y out symbol one two e = (let z = bound (first_lets new x.1.0 y.1.1) (from_third s x y) out e in third_done s x y z.value out symbol one two z.is z.comes)

      first_done : (s : ℕ) (x : Let) (out : List Statement × SoFar) → value_in m l.symbol ≡ Some s → lets (Named l.new Min l.first_new ∷ []) m p ≡ Some x → from_first s x ≡ Some out → Done f m p out
      first_done s x out symbol one e = (let y = bound (first_lets all m x.1.1) (from_second s x) out e in second_done s x y.value out symbol one y.is y.comes)

      symbol_done : (s : ℕ) (out : List Statement × SoFar) → value_in m l.symbol ≡ Some s → from_symbol s ≡ Some out → Done f m p out
      symbol_done s out symbol e = (let x = bound (lets (Named l.new Min l.first_new ∷ []) m p) (from_first s) out e in first_done s x.value out symbol x.is x.comes)

      lines_done : (out : List Statement × SoFar) → first_and_later make inners o w l all new m p ≡ Some out → Done f m p out
      lines_done out e = (let s = bound (value_in m l.symbol) from_symbol out e in symbol_done s.value out s.is s.comes)

      -- then one claim, and one window
      abbrev ends : List Statement × SoFar → Made
      ends y = claimed o 0 m y.1 >>= λ q. held i l m q >>= λ r. Some (y.0, r)

      ends_done : (y out : List Statement × SoFar) → Done f m p y → ends y ≡ Some out → Done f m p out
      ends_done y out made e =
          let q = bound (claimed o 0 m y.1) (λ q. held i l m q >>= λ r. Some (y.0, r)) out e in
          let r = bound (held i l m q.value) (λ r. Some (y.0, r)) out q.comes in
          let claims = claim_done make done o i.nests owns f 0 all first m y.1 q.value q.is in
          let keeps = each.window f m q.value r.value n i l at later r.is in
          let behind = each.both f m y.1 q.value r.value [] [] claims keeps in
          is_done f m p (y.0, r.value) out r.comes (subst (λ (ys : List Statement). R f m p ys r.value) (all_nil y.0) (each.both f m p y.1 r.value y.0 [] made behind))

      slide_done : (out : List Statement × SoFar) → (first_and_later make inners o w l all new m p >>= ends) ≡ Some out → Done f m p out
      slide_done out e = (let d = bound (first_and_later make inners o w l all new m p) ends out e in ends_done d.value out (lines_done d.value d.is) d.comes)

    slides_done : (l : LaterText) → i.later ≡ Some l → Owns (owner (Inside n) i b) i.nests → Owns (owner (Anew n) i b) l.nests → (m : Pairs) (p : SoFar) (x : List Statement × SoFar) →
        sliding_turns make inners b n i l m p ≡ Some x → Done f m p x
    slides_done l later owns new_owns m p x e =
        let from : NestText → NestText → Made = λ all new. first_and_later make inners (owner (Inside n) i b) (owner (Anew n) i b) l all new m p >>= λ y.
        claimed (owner (Inside n) i b) 0 m y.1 >>= λ q. held i l m q >>= λ r. Some (y.0, r) in
        let a = bound (slice_get i.nests 0) (λ all. slice_get l.nests 0 >>= λ new. from all new) x e in
        let c = bound (slice_get l.nests 0) (λ new. from a.value new) x a.comes in
        slide_done l later owns new_owns a.value c.value a.is c.is m p x c.comes

    either_done : (m : Pairs) (p : SoFar) (x : List Statement × SoFar) → value_in p.seats n ≡ Some b → turns make inners b n i i.later m p ≡ Some x → Done f m p x
    either_done m p x seat e = each.own f m p x.1 n i b x.0 at seat (λ owns new_owns. of i.later refl owns new_owns e)
      where
        of : (o : Option LaterText) → i.later ≡ o → Owns (owner (Inside n) i b) i.nests → ((l : LaterText) → i.later ≡ Some l → Owns (owner (Anew n) i b) l.nests) →
            turns make inners b n i o m p ≡ Some x → Done f m p x
        of None h owns new_owns q = turns_done owns m p x q
        of (Some l) h owns new_owns q = slides_done l h owns (new_owns l h) m p x q

  computed_done : (deep : ℕ) → AreDone (computed deep inners)
  computed_done zero f n i m p x at place e = absurd (cc e)
  computed_done (suc deep) f n i m p x at place e =
      let b = bound (value_in p.seats n) (λ b. turns (computed deep inners) inners b n i i.later m p) x e in
      either_done (computed deep inners) (computed_done deep) f b.value n i at place m p x b.is b.comes

  -- of the group's own function, whose nests these are
  pub group_done : (deep : ℕ) (o : OwnerText) (ns : List NestText) → Owns o ns → ((d : ℕ) (n : NestText) → slice_get ns d ≡ Some n → AreFine Fine [] n.steps) → (m : Pairs) (p q : SoFar)
      (xs : List Statement) → group_nests deep inners o ns m p ≡ Some (xs, q) → R [] m p xs q
  group_done deep o ns owns good m p q xs e =
      both_done [] m p (all_at (computed deep inners) inners over_grid m p) (nests_from (computed deep inners) inners o 0 ns m) (xs, q) e
      (λ y g. all_done (computed deep inners) (computed_done deep) [] over_grid (λ home here. inl here) m p y g)
      (λ u z g. nests_done (computed deep inners) (computed_done deep) o ns owns good 0 ns (λ j w h. let none : 0 + j ≡ j = omega arith in ap (slice_get ns) none ∙ h) m u z g)
