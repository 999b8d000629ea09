-- The crew that the workers in their seats show.
use Rattle.std.proofs.Common.{◌≡◌, ℕ, ◌+◌, ◌<◌, ◌≤◌, ℤ, Bool, false, cond, Option, Some, None, List, [], ◌∷◌, ◌++◌, length, take, map, get_or, set, refl, sym, ◌∙◌, ap, subst, inl, inr, arith, nat_eq, replicate}
use Rattle.std.specs.Prelude.{All}
use Rattle.std.proofs.Props.{props}
use Rattle.std.proofs.Math.Logic.{∥∥₁_elim}
use Rattle.std.proofs.lemmas.Bool.{cases_eq, cases_lt, cond-true, cond-false, eq-eqb, ne_eqb}
use Rattle.std.proofs.lemmas.List.{get_or-map, get_or-set_same, get_or-set_other, get_or_default, get_or_past, length-map, length-set, map-set, map_more, take_all}
use Rattle.std.proofs.lemmas.Grind.{common_steps}
use mathlib.Core.Path.{fun_ext}
use Rattle.orders.specs.Work.{Work, IsSound}
use Rattle.orders.specs.Crew.{Worker as MachineWorker, Idle, Looking, Crew as MachineCrew, Table, act, cell_at, go, go_from, start, step}
use Rattle.orders.specs.Within.{AllWithin, IsWithin}
use Rattle.orders.proofs.Runs.{within_go}
use Rattle.orders.proofs.Steady.{Phase, Steady, steady_go, steady_start}
use Rattle.steps.specs.declared.worker.Worker.{Worker}
use Rattle.steps.specs.Seats.{machine_worker, AreTargets, HasSeenTargets, HoldsTargets, IsIdle, IsReached}

-- what the worker of each number is at, where those past the last are idle
abbrev pub seated : List MachineWorker → ℕ → MachineWorker
seated workers w = get_or workers w Idle

same_crew : (t u : Table) (xs ys : ℕ → MachineWorker) → t ≡ u → xs ≡ ys → ◌≡◌ {A = MachineCrew} (record { table = t; workers = xs }) (record { table = u; workers = ys })
same_crew t u xs ys e f =
    let P : Table → MachineCrew = λ v. record { table = v; workers = xs } in
    let Q : (ℕ → MachineWorker) → MachineCrew = λ zs. record { table = u; workers = zs } in
    ap P e ∙ ap Q f

same_table : (t u : Table) → t.cells ≡ u.cells → t.drawn ≡ u.drawn → t.finished ≡ u.finished → t ≡ u
same_table t u e f h =
    let P : List (Option ℤ) → Table = λ cells. record { cells = cells; drawn = t.drawn; finished = t.finished } in
    let Q : ℕ → Table = λ drawn. record { cells = u.cells; drawn = drawn; finished = t.finished } in
    let R : List Bool → Table = λ finished. record { cells = u.cells; drawn = u.drawn; finished = finished } in
    ap P e ∙ ap Q f ∙ ap R h

-- the worker in a seat
pub in_seat : (workers : List Worker) (w : ℕ) (d : Worker) → w < length workers → seated (map machine_worker workers) w ≡ machine_worker (get_or workers w d)
in_seat workers w d lt = get_or-map machine_worker workers w d Idle lt

idle_seats : (most : ℕ) (workers : List Worker) → All (IsIdle most) workers → seated (map machine_worker workers) ≡ (λ w. Idle)
idle_seats most workers idle = fun_ext (λ w. at workers w idle)
  where
    at : (xs : List Worker) (w : ℕ) → All (IsIdle most) xs → seated (map machine_worker xs) w ≡ Idle
    at [] w all = refl
    at (x ∷ xs) w all = elim (cases_lt w (length (x ∷ xs))) [
      | inl lt ↦ in_seat (x ∷ xs) w x lt ∙ (all w x lt).0
      | inr past ↦ get_or_past (map machine_worker (x ∷ xs)) w Idle (let e : length (map machine_worker (x ∷ xs)) ≡ length (x ∷ xs) = length-map (x ∷ xs) machine_worker in omega (arith, e, past))
    ]

-- an empty table and idle workers show the start
pub shows_start : (work : Work) (most : ℕ) (table : Table) (workers : List Worker) → table.cells ≡ replicate work.cells None → table.drawn ≡ 0 → table.finished ≡ replicate work.pieces false → All (IsIdle most) workers →
    ◌≡◌ {A = MachineCrew} (record { table = table; workers = seated (map machine_worker workers) }) (start work)
shows_start work most table workers cells drawn finished idle =
    same_crew table (start work).table (seated (map machine_worker workers)) (λ w. Idle) (same_table table (start work).table cells drawn finished) (idle_seats most workers idle)

-- where the worker of a seat acted, the table and the workers show the step
pub shows_step : (work : Work) (table new : Table) (workers : List Worker) (seat w : ℕ) (before next : Worker) → seat ≡ w → w < length workers → before ≡ get_or workers seat before →
    new ≡ (act work table (machine_worker before)).table → machine_worker next ≡ (act work table (machine_worker before)).worker →
    ◌≡◌ {A = MachineCrew} (record { table = new; workers = seated (map machine_worker (set workers seat next)) }) (step work (record { table = table; workers = seated (map machine_worker workers) }) w)
shows_step work table new workers seat w before next at_seat lt read moved came =
    let xs : List MachineWorker = map machine_worker workers in
    let inside : seat < length workers = omega (arith, at_seat, lt) in
    let long : length xs ≡ length workers = length-map workers machine_worker in
    let found : seated xs seat ≡ machine_worker before = in_seat workers seat before inside ∙ ap machine_worker (sym read) in
    let others : ℕ → MachineWorker = λ v. cond (nat_eq v seat) (act work table (seated xs seat)).worker (seated xs v) in
    let acted : machine_worker next ≡ (act work table (seated xs seat)).worker = came ∙ ap (λ x. (act work table x).worker) (sym found) in
    let each : seated (map machine_worker (set workers seat next)) ≡ others = fun_ext (λ v. ap (λ ys. seated ys v) (map-set machine_worker workers seat next) ∙ elim (cases_eq v seat) [
      | inl e ↦ ap (λ u. seated (set xs seat (machine_worker next)) u) e ∙ get_or-set_same xs seat (machine_worker next) Idle (omega (arith, inside, long)) ∙ acted
          ∙ sym (cond-true (nat_eq v seat) (act work table (seated xs seat)).worker (seated xs v) (eq-eqb v seat e))
      | inr ne ↦ get_or-set_other xs seat v (machine_worker next) Idle ne
          ∙ sym (cond-false (nat_eq v seat) (act work table (seated xs seat)).worker (seated xs v) (ne_eqb v seat ne))
    ]) in
    let crew : MachineCrew = record { table = table; workers = seated xs } in
    let there : ◌≡◌ {A = MachineCrew} (record { table = new; workers = seated (map machine_worker (set workers seat next)) }) (step work crew seat) =
    same_crew new (act work table (seated xs seat)).table (seated (map machine_worker (set workers seat next))) others (moved ∙ ap (λ x. (act work table x).table) (sym found)) each in
    there ∙ ap (step work crew) at_seat

-- what the worker of a seat is at
pub at_seat : (workers : List Worker) (seat w : ℕ) (before : Worker) → seat ≡ w → w < length workers → before ≡ get_or workers seat before → seated (map machine_worker workers) w ≡ machine_worker before
at_seat workers seat w before here lt read = ap (seated (map machine_worker workers)) (sym here) ∙ in_seat workers seat before (omega (arith, here, lt)) ∙ ap machine_worker (sym read)

-- ---- what is known of a crew that some order leads to

go_after : (work : Work) (crew : MachineCrew) (xs ys : List ℕ) → go_from work (go_from work crew xs) ys ≡ go_from work crew (xs ++ ys)
go_after work crew [] ys = refl
go_after work crew (x ∷ xs) ys = go_after work (step work crew x) xs ys

-- some order leads to what is reached from there
pub reached_more : (work : Work) (crew new : MachineCrew) (order : List ℕ) → IsReached work crew → new ≡ go_from work crew order → IsReached work new
reached_more work crew new order r e = (r.0 ++ order, e ∙ ap (λ c. go_from work c order) r.1 ∙ go_after work (start work) r.0 order)

-- each worker is within the work
pub reached_within : (work : Work) (crew : MachineCrew) → IsReached work crew → AllWithin work crew
reached_within work crew r = let P : MachineCrew → Type 0 = λ c. AllWithin work c in subst P (sym r.1) (within_go work (start work) r.0 (λ w. tt))

reached_steady : (work : Work) (target : ℕ → ℤ) (crew : MachineCrew) → IsSound work target → IsReached work crew → Steady work target crew
reached_steady work target crew sound r = let P : MachineCrew → Type 0 = λ c. Steady work target c in subst P (sym r.1) (steady_go work target (start work) r.0 sound (steady_start work target))

-- what is set is right
pub reached_right : (work : Work) (target : ℕ → ℤ) (crew : MachineCrew) → ∥ IsSound work target ∥₁ → IsReached work crew → HoldsTargets target crew.table
reached_right work target crew sound r = ∥∥₁_elim sound (hlevel props) (λ s. (reached_steady work target crew s r).right)

-- what a worker has looked at is right
pub reached_seen : (work : Work) (target : ℕ → ℤ) (crew : MachineCrew) (w : ℕ) → ∥ IsSound work target ∥₁ → IsReached work crew → HasSeenTargets work target (crew.workers w)
reached_seen work target crew w sound r = ∥∥₁_elim sound (hlevel props) (λ s piece looked at.
    let steady = reached_steady work target crew s r in
    let P : MachineWorker → Type 0 = λ x. Phase work target crew.table.finished x in
    let known : Phase work target crew.table.finished (Looking piece looked) = subst P at (steady.phase w) in
    known.2)

-- ---- looks

-- all that a piece fetches was looked at
pub all_looked : (work : Work) (target : ℕ → ℤ) (piece : ℕ) (looked : List ℤ) → AreTargets work target piece looked → length looked ≡ length (work.fetched piece) → looked ≡ map target (work.fetched piece)
all_looked work target piece looked right long = right ∙ ap (map target) (take_all (length looked) (work.fetched piece) (omega (arith, long)))

-- one look more
pub one_looked : (work : Work) (target : ℕ → ℤ) (table : Table) (piece : ℕ) (looked : List ℤ) (value : ℤ) → HoldsTargets target table → AreTargets work target piece looked → length looked < length (work.fetched piece) →
    cell_at table (get_or (work.fetched piece) (length looked) 0) ≡ Some value → AreTargets work target piece (looked ++ value ∷ [])
one_looked work target table piece looked value holds right lt is =
    let longer : length (looked ++ value ∷ []) ≡ length looked + 1 = grind (arith, common_steps) in
    let this : value ≡ target (get_or (work.fetched piece) (length looked) 0) = holds (get_or (work.fetched piece) (length looked) 0) value is in
    (λ j. right j ++ this j ∷ [])
    ∙ sym (map_more target (work.fetched piece) (length looked) 0 lt)
    ∙ ap (λ n. map target (take n (work.fetched piece))) (sym longer)
