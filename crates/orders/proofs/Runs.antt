-- Steps of the machine, one after another.
use Rattle.std.proofs.Common.{◌≡◌, ℕ, ◌+◌, ◌<◌, ◌≤◌, ℤ, Bool, true, false, cond, Option, Some, None, List, [], ◌∷◌, ◌++◌, length, take, get_or, set, refl, sym, ◌∙◌, ap, subst, inl, inr, arith, nat_eq, nat_lt, replicate, map}
use Rattle.std.proofs.lemmas.Bool.{cases_eq, cases_lt, cond_both, eqb-false, ltb-true, cond-true, cond-false, eq-eqb, ne_eqb}
use Rattle.std.proofs.lemmas.List.{get_or-set_same, get_or-set_other, take_more, length-set, get_or_default, length-replicate, get_or-replicate, get_or_past, get_or-map, length-map}
use Rattle.std.proofs.lemmas.Grind.{common_steps}
use mathlib.Core.Path.{fun_ext}
use Rattle.orders.specs.Work.{Work}
use Rattle.orders.specs.Crew.{Worker, Idle, Done, Asking, Looking, Putting, Faulted, Crew, Table, Move, after_run, after_looks, after_asks, after_look, put_on, act, step, start, go_from}
use Rattle.orders.specs.declared.worker.Worker.{Worker as CodeWorker}
use Rattle.orders.specs.declared.worker.Worker.TheVariants as code
use Rattle.orders.specs.Seen.{machine_worker, crew_of}
use Rattle.orders.specs.Within.{IsWithin, AllWithin}

-- a worker with a piece of the work stays within it
within_run : (work : Work) (piece : ℕ) (o : Option (List ℤ)) → piece < work.pieces → IsWithin work (after_run piece o)
within_run work piece None lt = tt
within_run work piece (Some values) lt = lt

within_looks : (work : Work) (piece : ℕ) (looked : List ℤ) → piece < work.pieces → length looked ≤ length (work.fetched piece) → IsWithin work (after_looks work piece looked)
within_looks work piece looked lt most =
    cond_both (nat_eq (length looked) (length (work.fetched piece))) (after_run piece (work.private_run piece looked)) (Looking piece looked) (λ x. IsWithin work x)
    (λ yes. within_run work piece (work.private_run piece looked) lt)
    (λ no. let ne : length looked ≡ length (work.fetched piece) → ⊥ = eqb-false _ _ no in (lt, omega arith))

within_asks : (work : Work) (piece asked : ℕ) → piece < work.pieces → asked ≤ length (work.needs piece) → IsWithin work (after_asks work piece asked)
within_asks work piece asked lt most =
    cond_both (nat_eq asked (length (work.needs piece))) (after_looks work piece []) (Asking piece asked) (λ x. IsWithin work x)
    (λ yes. within_looks work piece [] lt (omega arith))
    (λ no. let ne : asked ≡ length (work.needs piece) → ⊥ = eqb-false _ _ no in (lt, omega arith))

within_look : (work : Work) (piece : ℕ) (looked : List ℤ) (o : Option ℤ) → piece < work.pieces → length looked < length (work.fetched piece) → IsWithin work (after_look work piece looked o)
within_look work piece looked None lt less = tt
within_look work piece looked (Some value) lt less =
    within_looks work piece (looked ++ value ∷ []) lt (let longer : length (looked ++ value ∷ []) ≡ length looked + 1 = grind (arith, common_steps) in omega arith)

within_put : (work : Work) (table : Table) (piece : ℕ) (values : List ℤ) (put cell : ℕ) (o : Option ℤ) → piece < work.pieces → IsWithin work (put_on table piece values put cell o).worker
within_put work table piece values put cell None lt = lt
within_put work table piece values put cell (Some value) lt = tt

within_act : (work : Work) (table : Table) (x : Worker) → IsWithin work x → IsWithin work (act work table x).worker
within_act work table Idle h =
    cond_both (nat_lt table.drawn work.pieces) (record { table = record table { drawn = table.drawn + 1 }; worker = after_asks work table.drawn 0 }) (record { table = table; worker = Done }) (λ move. IsWithin work (Move.worker move))
    (λ yes. within_asks work table.drawn 0 (ltb-true _ _ yes) (omega arith))
    (λ no. tt)
within_act work table Done h = tt
within_act work table (Asking piece asked) h =
    cond_both (get_or table.finished (get_or (work.needs piece) asked 0) false) (after_asks work piece (asked + 1)) (Asking piece asked) (λ x. IsWithin work x)
    (λ yes. let less : asked < length (work.needs piece) = h.1 in within_asks work piece (asked + 1) h.0 (omega arith))
    (λ no. h)
within_act work table (Looking piece looked) h = within_look work piece looked (get_or table.cells (get_or (work.fetched piece) (length looked) 0) None) h.0 h.1
within_act work table (Putting piece values put) h =
    let cell : ℕ = get_or (work.own piece) put 0 in
    cond_both (nat_lt put (length (work.own piece))) (put_on table piece values put cell (get_or table.cells cell None)) (record { table = record table { finished = set table.finished piece true }; worker = Idle }) (λ move. IsWithin work (Move.worker move))
    (λ yes. within_put work table piece values put cell (get_or table.cells cell None) h)
    (λ no. tt)
within_act work table Faulted h = tt

pub within_step : (work : Work) (crew : Crew) (w : ℕ) → AllWithin work crew → AllWithin work (step work crew w)
within_step work crew w h v =
    cond_both (nat_eq v w) (act work crew.table (crew.workers w)).worker (crew.workers v) (λ x. IsWithin work x)
    (λ yes. within_act work crew.table (crew.workers w) (h w))
    (λ no. h v)

pub within_go : (work : Work) (crew : Crew) (order : List ℕ) → AllWithin work crew → AllWithin work (go_from work crew order)
within_go work crew [] h = h
within_go work crew (w ∷ order) h = within_go work (step work crew w) order (within_step work crew w h)

go_from-append : (work : Work) (crew : Crew) (xs : List ℕ) (w : ℕ) → go_from work crew (xs ++ w ∷ []) ≡ step work (go_from work crew xs) w
go_from-append work crew [] w = refl
go_from-append work crew (x ∷ xs) w = go_from-append work (step work crew x) xs w

-- one more step of an order
pub go_more : (work : Work) (crew : Crew) (xs : List ℕ) (i d : ℕ) → i < length xs → go_from work crew (take (i + 1) xs) ≡ step work (go_from work crew (take i xs)) (get_or xs i d)
go_more work crew xs i d lt = ap (go_from work crew) (take_more xs i d lt) ∙ go_from-append work crew (take i xs) (get_or xs i d)

-- what the worker of each number is at, where those past the last are idle
abbrev pub machine_workers : List CodeWorker → ℕ → Worker
machine_workers workers w = machine_worker (get_or workers w code.Idle)

get_or_mapped : {A B : Type 0} (f : A → B) (xs : List A) (i : ℕ) (d : A) → get_or (map f xs) i (f d) ≡ f (get_or xs i d)
get_or_mapped f xs i d = elim (cases_lt i (length xs)) [
  | inl lt ↦ get_or-map f xs i d (f d) lt
  | inr past ↦ get_or_past (map f xs) i (f d) (let e : length (map f xs) ≡ length xs = length-map xs f in omega arith) ∙ ap f (sym (get_or_past xs i d past))
]

shown_workers : (workers : List CodeWorker) → ◌≡◌ {A = ℕ → Worker} (λ w. get_or (map machine_worker workers) w Idle) (machine_workers workers)
shown_workers workers = fun_ext (λ w. get_or_mapped machine_worker workers w code.Idle)

-- the workers after one of them came to something
machine_workers-set : (workers : List CodeWorker) (w : ℕ) (y x : CodeWorker) → w < length workers → machine_workers (set (set workers w y) w x) ≡ (λ v. cond (nat_eq v w) (machine_worker x) (machine_workers workers v))
machine_workers-set workers w y x lt = fun_ext (λ v. elim (cases_eq v w) [
  | inl e ↦ ap machine_worker (ap (λ u. get_or (set (set workers w y) w x) u code.Idle) e ∙ get_or-set_same (set workers w y) w x code.Idle (let e2 : length (set workers w y) ≡ length workers = length-set workers w y in omega arith))
      ∙ sym (cond-true (nat_eq v w) (machine_worker x) (machine_workers workers v) (eq-eqb v w e))
  | inr ne ↦ ap machine_worker (get_or-set_other (set workers w y) w v x code.Idle ne ∙ get_or-set_other workers w v y code.Idle ne)
      ∙ sym (cond-false (nat_eq v w) (machine_worker x) (machine_workers workers v) (ne_eqb v w ne))
])

get_or_copies : {A : Type 0} (n i : ℕ) (a : A) → get_or (replicate n a) i a ≡ a
get_or_copies n i a = elim (cases_lt i n) [
  | inl lt ↦ get_or-replicate n i a a lt
  | inr past ↦ get_or_past (replicate n a) i a (let e : length (replicate n a) ≡ n = length-replicate n a in omega arith)
]

-- idle workers are those of the start
machine_workers-idle : (n : ℕ) → machine_workers (replicate n code.Idle) ≡ (λ w. Idle)
machine_workers-idle n = fun_ext (λ w. ap machine_worker (get_or_copies n w code.Idle))

same_crew : (t u : Table) (xs ys : ℕ → Worker) → t ≡ u → xs ≡ ys → ◌≡◌ {A = Crew} (record { table = t; workers = xs }) (record { table = u; workers = ys })
same_crew t u xs ys e f =
    let P : Table → Crew = λ v. record { table = v; workers = xs } in
    let Q : (ℕ → Worker) → Crew = λ zs. record { table = u; workers = zs } in
    ap P e ∙ ap Q f

same_table : (t u : Table) → t.cells ≡ u.cells → t.drawn ≡ u.drawn → t.finished ≡ u.finished → t ≡ u
same_table t u e f h =
    let P : List (Option ℤ) → Table = λ cells. record { cells = cells; drawn = t.drawn; finished = t.finished } in
    let Q : ℕ → Table = λ drawn. record { cells = u.cells; drawn = drawn; finished = t.finished } in
    let R : List Bool → Table = λ finished. record { cells = u.cells; drawn = u.drawn; finished = finished } in
    ap P e ∙ ap Q f ∙ ap R h

same_snapshot : (table : Table) (workers : List CodeWorker) → crew_of (record { table = table; workers = map machine_worker workers }) ≡ record { table = table; workers = machine_workers workers }
same_snapshot table workers = same_crew table table _ _ refl (shown_workers workers)

-- an empty table and idle workers show the start
pub shows_start : (work : Work) (table : Table) (workers : List CodeWorker) → table.cells ≡ replicate work.cells None → table.drawn ≡ 0 → table.finished ≡ replicate work.pieces false → workers ≡ replicate 64 code.Idle → crew_of (record { table = table; workers = map machine_worker workers }) ≡ start work
shows_start work table workers cells drawn finished idle =
    same_snapshot table workers ∙ same_crew table (start work).table (machine_workers workers) (λ w. Idle)
    (same_table table (start work).table cells drawn finished)
    (ap machine_workers idle ∙ machine_workers-idle 64)

-- where a worker was taken out of its seat, acted and was put back, the table and the workers show the step
pub shows_step : (work : Work) (table new : Table) (workers : List CodeWorker) (seat w : ℕ) (taken before y next : CodeWorker) → seat ≡ w → w < 64 → length workers ≡ 64 → taken ≡ get_or workers seat taken → before ≡ taken → new ≡ (act work table (machine_worker before)).table → machine_worker next ≡ (act work table (machine_worker before)).worker → crew_of (record { table = new; workers = map machine_worker (set (set workers seat y) seat next) }) ≡ step work (crew_of (record { table = table; workers = map machine_worker workers })) w
shows_step work table new workers seat w taken before y next at_seat lt seats read was moved came =
    let in_seats : seat < length workers = omega arith in
    let found : before ≡ get_or workers seat code.Idle = was ∙ read ∙ get_or_default workers seat taken code.Idle in_seats in
    let same : act work table (machine_worker before) ≡ act work table (machine_workers workers seat) = ap (λ x. act work table (machine_worker x)) found in
    let others : Worker → ℕ → Worker = λ x v. cond (nat_eq v seat) x (machine_workers workers v) in
    let crew : Crew = record { table = table; workers = machine_workers workers } in
    let there : ◌≡◌ {A = Crew} (record { table = new; workers = machine_workers (set (set workers seat y) seat next) }) (step work crew seat) =
    same_crew new (act work table (machine_workers workers seat)).table (machine_workers (set (set workers seat y) seat next)) (others (act work table (machine_workers workers seat)).worker)
    (moved ∙ ap (λ m. Move.table m) same)
    (machine_workers-set workers seat y next in_seats ∙ ap others (came ∙ ap (λ m. Move.worker m) same)) in
    same_snapshot new (set (set workers seat y) seat next) ∙ there ∙ ap (step work crew) at_seat ∙ ap (λ c. step work c w) (sym (same_snapshot table workers))

-- the worker in a seat is within the work, where all are
pub seat_within : (work : Work) (table : Table) (workers : List CodeWorker) (seat w : ℕ) (taken before : CodeWorker) → seat ≡ w → w < 64 → length workers ≡ 64 → taken ≡ get_or workers seat taken → before ≡ taken → AllWithin work (crew_of (record { table = table; workers = map machine_worker workers })) → IsWithin work (machine_worker before)
seat_within work table workers seat w taken before at_seat lt seats read was all =
    let found : before ≡ get_or workers seat code.Idle = was ∙ read ∙ get_or_default workers seat taken code.Idle (omega arith) in
    let P : Worker → Type 0 = λ x. IsWithin work x in
    subst P (get_or_mapped machine_worker workers seat code.Idle ∙ ap machine_worker (sym found)) (all seat)
