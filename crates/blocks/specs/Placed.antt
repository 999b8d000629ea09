-- What a piece does where functions are computed inside its loops: at each place of a nest the buffers of those that are stored there, then the nests of
-- those that are computed there, and then what the nest itself does. Symbols, buffers and claims are numbered in the order of the lines.
-- What crates below need of it stands there: `sched`.
use Rattle.std.specs.Prelude.{ℕ, zero, suc, ◌+◌, ◌-◌, ◌==◌, Bool, not, ◌&&◌, if◌then◌else◌, List, [], ◌∷◌, ◌++◌, length, map, take, drop, Option, Some, None, slice_get}
use Rattle.lin.specs.declared.span.Span1.{Span1}
use Rattle.plan.specs.declared.stmt.Pick.TheVariants.{Min}
use Rattle.plan.specs.Certificate.Certificate.{claim_of}
use Rattle.plan.specs.Plan.{Statement, Seq, First, Alloc, block}
use Rattle.sched.specs.declared.skeleton.Step.{Step}
use Rattle.sched.specs.declared.skeleton.Step.TheVariants.{Named}
use Rattle.sched.specs.declared.schedule.Fold.{Fold}
use Rattle.sched.specs.Skeleton.{NestText, SkeletonText}
use Rattle.sched.specs.Standing.{◌>>=◌}
use Rattle.sched.specs.declared.hosts.Host.{Host}
use Rattle.sched.specs.declared.hosts.Host.TheVariants.{Own, Inner as Inside, Later as Anew}
use Rattle.sched.specs.declared.hosts.Spot.{Spot}
use Rattle.blocks.specs.declared.group.Body.{Body}
use Rattle.blocks.specs.declared.parts.Seat.{Seat}
use Rattle.blocks.specs.declared.parts.Owner.{Owner}
use Rattle.sched.specs.Stored.{formula_of, stored_of}
use Rattle.sched.specs.Fetches.{Entry}
use Rattle.sched.specs.Loading.{Loads}
use Rattle.blocks.specs.Loading.{load_of}
use Rattle.blocks.specs.Bodies.{own_lines, first_lines}
use Rattle.sched.specs.Renamed.{Pairs, value_in, span_renamed, step_renamed}
use Rattle.blocks.specs.Renamed.{own_pairs, places_renamed}
use Rattle.sched.specs.Placed.{LaterText, PlacedText, OwnerText, SoFar, Made, with_lines, with_symbol, with_name, bound_by, around, stored, claimed, same_host, same_number, spot, lets}
use Rattle.sched.specs.Placed.{over_grid_of}

abbrev pub nothing : SoFar → Made
nothing p = Some ([], p)

-- first some, then others
abbrev pub both : Made → (SoFar → Made) → Made
both a f = a >>= λ x. f x.1 >>= λ y. Some (x.0 ++ y.0, y.1)

-- the loads of others stay
abbrev pub with_loads : Loads → SoFar → SoFar
with_loads ls p = record p { loads = ls }

-- the buffer of the function of this number, in the next line
abbrev pub seated : ℕ → PlacedText → Pairs → SoFar → Made
seated n i m p = places_renamed m i.places >>= λ places.
    Some (Alloc p.buffer i.function.subject.name places ∷ [], record p { line = p.line + 1; buffer = p.buffer + 1; seats = p.seats ++ (n, p.buffer) ∷ [] })

abbrev pub same_spot : Spot → Spot → Bool
same_spot a b = same_host a.host b.host && same_number a.definition b.definition && (a.depth == b.depth)

-- of a function that is stored there and computed further inside
abbrev pub buffer_at : Spot → Pairs → ℕ → PlacedText → SoFar → Made
buffer_at s m n i p = if same_spot i.store s && not (same_spot i.home s) then seated n i m p else nothing p

-- of each of these
abbrev pub buffers_at : List PlacedText → Spot → Pairs → List ℕ → SoFar → Made
buffers_at is s m [] p = nothing p
buffers_at is s m (n ∷ ns) p = both (slice_get is n >>= λ i. buffer_at s m n i p) (buffers_at is s m ns)

-- the nests of a function by its number, which are made so, inside these names
abbrev pub Nests : Type 0
Nests = ℕ → PlacedText → Pairs → SoFar → Made

-- where it is stored there too its buffer comes first
abbrev pub own_buffer : Spot → Pairs → ℕ → PlacedText → SoFar → Made
own_buffer s m n i p = if same_spot i.store s then seated n i m p else nothing p

abbrev pub function_at : Nests → Spot → Pairs → ℕ → PlacedText → SoFar → Made
function_at make s m n i p = if same_spot i.home s then both (own_buffer s m n i p) (make n i m) else nothing p

abbrev pub functions_at : Nests → List PlacedText → Spot → Pairs → List ℕ → SoFar → Made
functions_at make is s m [] p = nothing p
functions_at make is s m (n ∷ ns) p = both (slice_get is n >>= λ i. function_at make s m n i p) (functions_at make is s m ns)

-- the numbers of all, the last first, which is declared first
abbrev pub numbers_down : ℕ → List ℕ
numbers_down zero = []
numbers_down (suc n) = n ∷ numbers_down n

-- what stands at a place: the buffers, and then the nests
abbrev pub all_at : Nests → List PlacedText → Spot → Pairs → SoFar → Made
all_at make is s m p = both (buffers_at is s m (numbers_down (length is)) p) (functions_at make is s m (numbers_down (length is)))

-- a step around what follows, its symbol under the next name
abbrev pub step_in : (Pairs → SoFar → Made) → Step → Pairs → SoFar → Made
step_in rest s m p = step_renamed (with_name (bound_by s) p.symbol m) s >>= λ t.
    rest (with_name (bound_by s) p.symbol m) (with_lines 1 (with_symbol (bound_by s) p)) >>= λ x. Some (around t x.0, with_lines (own_lines t - 1) x.1)

-- from behind so many steps of a nest on: what stands there, and then the next step around what follows, or the store
abbrev pub walk : Nests → List PlacedText → OwnerText → ℕ → NestText → ℕ → List Step → Pairs → SoFar → Made
walk make is o d n depth [] m p = both (all_at make is (spot o.host d depth) m p) (stored o d n m)
walk make is o d n depth (s ∷ steps) m p = both (all_at make is (spot o.host d depth) m p) (step_in (λ names q. walk make is o d n (depth + 1) steps names q) s m)

-- what is computed inside is loaded inside alone
abbrev pub walk_apart : Nests → List PlacedText → OwnerText → ℕ → NestText → ℕ → List Step → Pairs → SoFar → Made
walk_apart make is o d n depth steps m p = walk make is o d n depth steps m p >>= λ x. Some (x.0, with_loads p.loads x.1)

-- the nests of the definitions from this one on, each with its claim
abbrev pub nests_from : Nests → List PlacedText → OwnerText → ℕ → List NestText → Pairs → SoFar → Made
nests_from make is o d [] m p = nothing p
nests_from make is o d (n ∷ ns) m p = both (walk_apart make is o d n 0 n.steps m p) (λ q. claimed o d m q >>= nests_from make is o (d + 1) ns m)

abbrev pub owner : Host → PlacedText → ℕ → OwnerText
owner h i b = record { host = h; function = i.function; formulas = i.formulas; claimed = i.claimed; buffer = b }

-- each turn makes all
abbrev pub all_turns : Nests → List PlacedText → ℕ → ℕ → PlacedText → Pairs → SoFar → Made
all_turns make is b n i m p = lets i.lets m p >>= λ x. nests_from make is (owner (Inside n) i b) 0 i.nests x.1.0 x.1.1 >>= λ y. Some (x.0 ++ y.0, y.1)

-- the lets before the loops of the pure definition's nest
abbrev pub let_count : List Step → ℕ
let_count (Named i pick forms ∷ steps) = let_count steps + 1
let_count _ = 0

-- to how many places it is folded, 0 where it is not
abbrev pub fold_of : List Fold → ℕ
fold_of [] = 0
fold_of (f ∷ []) = f.factor
fold_of (f ∷ g ∷ fs) = fold_of (g ∷ fs)

-- the last claim holds from turn to turn of the loop along which the function slides, over what is needed in that dimension
abbrev pub held : PlacedText → LaterText → Pairs → SoFar → Option SoFar
held i l m p = slice_get i.region l.dimension >>= λ x. span_renamed m x >>= λ y. value_in m l.symbol >>= λ s.
    Some (record p { windows = p.windows ++ record { claim = p.claim - 1; symbol = s; dimension = l.dimension; fold = fold_of i.function.placed.folds; span = y } ∷ [] })

-- behind the lets before its loops the nest of a function that slides, from the next line on
abbrev pub arm : Nests → List PlacedText → OwnerText → NestText → Pairs → SoFar → Made
arm make is o n m p = walk_apart make is o 0 n (let_count n.steps) (drop (let_count n.steps) n.steps) m (with_lines 1 p)

-- the nest of the first turn, which makes all, and that of the others, which makes what is new
abbrev pub arms : Nests → List PlacedText → OwnerText → OwnerText → NestText → NestText → ℕ → Pairs → Pairs → SoFar → Made
arms make is o w all new s whole anew p = arm make is o all whole p >>= λ x. arm make is w new anew x.1 >>= λ y.
    Some (First s (Seq (block x.0)) (Seq (block y.0)) ∷ [], with_lines 1 y.1)

abbrev pub first_lets : NestText → Pairs → SoFar → Option (List Statement × (Pairs × SoFar))
first_lets n m p = lets (take (let_count n.steps) n.steps) m p

-- both, behind the let of the first new number and those of both
abbrev pub first_and_later : Nests → List PlacedText → OwnerText → OwnerText → LaterText → NestText → NestText → Pairs → SoFar → Made
first_and_later make is o w l all new m p =
    value_in m l.symbol >>= λ s. lets (Named l.new Min l.first_new ∷ []) m p >>= λ x. first_lets all m x.1.1 >>= λ y.
    first_lets new x.1.0 y.1.1 >>= λ z. arms make is o w all new s y.1.0 z.1.0 z.1.1 >>= λ v. Some (x.0 ++ (y.0 ++ (z.0 ++ v.0)), v.1)

-- then one claim, and one window
abbrev pub sliding_turns : Nests → List PlacedText → ℕ → ℕ → PlacedText → LaterText → Pairs → SoFar → Made
sliding_turns make is b n i l m p =
    slice_get i.nests 0 >>= λ all. slice_get l.nests 0 >>= λ new.
    first_and_later make is (owner (Inside n) i b) (owner (Anew n) i b) l all new m p >>= λ x.
    claimed (owner (Inside n) i b) 0 m x.1 >>= λ q. held i l m q >>= λ r. Some (x.0, r)

abbrev pub turns : Nests → List PlacedText → ℕ → ℕ → PlacedText → Option LaterText → Pairs → SoFar → Made
turns make is b n i None m p = all_turns make is b n i m p
turns make is b n i (Some l) m p = sliding_turns make is b n i l m p

-- functions stand inside one another at most so deep
abbrev pub computed : ℕ → List PlacedText → Nests
computed zero is n i m p = None
computed (suc deep) is n i m p = value_in p.seats n >>= λ b. turns (computed deep is) is b n i i.later m p

abbrev pub over_grid : Spot
over_grid = over_grid_of Own

abbrev pub group_nests : ℕ → List PlacedText → OwnerText → List NestText → Pairs → SoFar → Made
group_nests deep is o ns m p = both (all_at (computed deep is) is over_grid m p) (nests_from (computed deep is) is o 0 ns m)

abbrev pub group_owner : Entry → List Span1 → OwnerText
group_owner e r = record { host = Own; function = e.0; formulas = e.2; claimed = r; buffer = 0 }

-- the symbols over the grid keep their names
abbrev pub names_over : SkeletonText → Pairs
names_over k = own_pairs (length k.grid + length k.head)

-- those of the group's own function over its grid
abbrev pub nests_over_grid : List PlacedText → OwnerText → SkeletonText → SoFar → Made
nests_over_grid is o k p = group_nests (length is) is o k.nests (names_over k) p

abbrev pub HasSome : List PlacedText → Type 0
HasSome [] = ⊥
HasSome (i ∷ is) = Unit {0}

-- behind the lets over the grid and the piece's own buffer, in a group whose line is this one and whose first claim has the number c
abbrev pub begun : ℕ → ℕ → SkeletonText → SoFar
begun c line k = record {
  line = line + first_lines k;
  symbol = length k.grid + length k.head;
  buffer = 1;
  claim = c;
  loads = [];
  seats = [];
  needs = [];
  claims = [];
  windows = [];
}

abbrev pub owner_seen : Owner → OwnerText
owner_seen o = record {
  host = o.host;
  function = stored_of o.root.now.stored.now;
  formulas = map formula_of o.root.now.formulas.now;
  claimed = o.claimed.now;
  buffer = o.buffer;
}

abbrev pub seat_of : Seat → ℕ × ℕ
seat_of s = (s.number, s.buffer)

abbrev pub so_far : Body → SoFar
so_far b = record {
  line = b.line;
  symbol = b.next_symbol;
  buffer = b.next_buffer;
  claim = b.next_claim;
  loads = map load_of b.loads.items;
  seats = map seat_of b.seats.items;
  needs = b.needs.items;
  claims = map claim_of b.claims.items;
  windows = b.windows.items;
}
