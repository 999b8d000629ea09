-- One worker alone: how far it is after so many steps.
use Rattle.std.proofs.Common.{◌≡◌, ℕ, zero, suc, ◌+◌, ◌<◌, ◌≤◌, ℤ, Bool, true, false, Option, Some, None, List, [], ◌∷◌, ◌++◌, length, get_or, set, refl, sym, ◌∙◌, ap, subst, inl, inr, arith, nat_eq, nat_lt, replicate, add-one}
use Rattle.std.proofs.lemmas.Bool.{cases_eq, cond_both, cond-true, eqb-true, ltb-false, cases_lt, eq-eqb}
use Rattle.std.proofs.lemmas.List.{get_or-set_same, get_or-set_other}
use Rattle.std.proofs.lemmas.List.Elements.{Contains-get_or}
use Rattle.std.proofs.lemmas.Grind.{common_steps}
use Rattle.orders.specs.Work.{Work, IsSound, steps_of, steps_before, all_steps}
use Rattle.orders.specs.Crew.{Worker, Idle, Done, Asking, Looking, Putting, Faulted, Table, Crew, start, cell_at, is_finished, after_run, after_looks, after_asks, after_look, Move, keeps, put_on, act, after_move, step, go_from}
use Rattle.orders.specs.Outcome.{AllFinished, OneWorkerFinishes}
use Rattle.orders.proofs.Steady.{Phase, Steady, steady_step, steady_start, steady_clean}

-- pieces below n are finished
abbrev pub FinishedBelow : List Bool → ℕ → Type 0
FinishedBelow finished n = (p : ℕ) → p < n → get_or finished p false ≡ true

-- where the worker is after t steps of its own; a faulted one may be anywhere
abbrev pub At : Work → ℕ → List Bool → ℕ → Worker → Type 0
At work drawn finished t Idle = (t ≡ steps_before work drawn) × FinishedBelow finished drawn
At work drawn finished t Done = ⊥
At work drawn finished t (Asking p asked) = (drawn ≡ p + 1) × (t ≡ steps_before work p + 1 + asked) × FinishedBelow finished p
At work drawn finished t (Looking p looked) = (drawn ≡ p + 1) × (t ≡ steps_before work p + 1 + length (work.needs p) + length looked) × FinishedBelow finished p
At work drawn finished t (Putting p values put) = (drawn ≡ p + 1) × (t ≡ steps_before work p + 1 + length (work.needs p) + length (work.fetched p) + put) × FinishedBelow finished p
At work drawn finished t Faulted = Unit {0}

before_more : (work : Work) (p : ℕ) → steps_before work (p + 1) ≡ steps_before work p + steps_of work p
before_more work p = rw add-one refl

-- the steps before a later piece count those of an earlier one
before_later : (work : Work) (n m : ℕ) → n < m → steps_before work n + steps_of work n ≤ steps_before work m
before_later work n zero lt = absurd (omega arith)
before_later work n (suc m) lt = elim (cases_eq n m) [
  | inl e ↦ (let P : ℕ → Type 0 = λ k. steps_before work k + steps_of work k ≤ steps_before work m + steps_of work m in subst P (sym e) (omega arith))
  | inr ne ↦ (let ih : steps_before work n + steps_of work n ≤ steps_before work m = before_later work n m (omega arith) in omega arith)
]

at_run : (work : Work) (drawn : ℕ) (finished : List Bool) (t p : ℕ) (o : Option (List ℤ)) → drawn ≡ p + 1 → t ≡ steps_before work p + 1 + length (work.needs p) + length (work.fetched p) → FinishedBelow finished p → At work drawn finished t (after_run p o)
at_run work drawn finished t p None d e f = tt
at_run work drawn finished t p (Some values) d e f = (d, omega arith, f)

at_looks : (work : Work) (drawn : ℕ) (finished : List Bool) (t p : ℕ) (looked : List ℤ) → drawn ≡ p + 1 → t ≡ steps_before work p + 1 + length (work.needs p) + length looked → FinishedBelow finished p → At work drawn finished t (after_looks work p looked)
at_looks work drawn finished t p looked d e f =
    cond_both (nat_eq (length looked) (length (work.fetched p))) (after_run p (work.private_run p looked)) (Looking p looked) (λ x. At work drawn finished t x)
    (λ yes. let same : length looked ≡ length (work.fetched p) = eqb-true _ _ yes in at_run work drawn finished t p (work.private_run p looked) d (omega arith) f)
    (λ no. (d, e, f))

at_asks : (work : Work) (drawn : ℕ) (finished : List Bool) (t p asked : ℕ) → drawn ≡ p + 1 → t ≡ steps_before work p + 1 + asked → FinishedBelow finished p → At work drawn finished t (after_asks work p asked)
at_asks work drawn finished t p asked d e f =
    cond_both (nat_eq asked (length (work.needs p))) (after_looks work p []) (Asking p asked) (λ x. At work drawn finished t x)
    (λ yes. let same : asked ≡ length (work.needs p) = eqb-true _ _ yes in at_looks work drawn finished t p [] d (let none : length {A = ℤ} [] ≡ 0 = refl in omega arith) f)
    (λ no. (d, e, f))

at_look : (work : Work) (drawn : ℕ) (finished : List Bool) (t p : ℕ) (looked : List ℤ) (o : Option ℤ) → drawn ≡ p + 1 → t ≡ steps_before work p + 1 + length (work.needs p) + length looked + 1 → FinishedBelow finished p → At work drawn finished t (after_look work p looked o)
at_look work drawn finished t p looked None d e f = tt
at_look work drawn finished t p looked (Some value) d e f =
    at_looks work drawn finished t p (looked ++ value ∷ []) d (let longer : length (looked ++ value ∷ []) ≡ length looked + 1 = grind (arith, common_steps) in omega arith) f

-- where worker w of the crew is
abbrev pub AtCrew : Work → ℕ → ℕ → Crew → Type 0
AtCrew work t w crew = At work crew.table.drawn crew.table.finished t (crew.workers w)

-- what holds of where a move leaves its worker
here : (crew : Crew) (w : ℕ) (move : Move) (P : Worker → Type 0) → P move.worker → P ((after_move crew w move).workers w)
here crew w move P h = subst P (sym (cond-true (nat_eq w w) move.worker (crew.workers w) (eq-eqb w w refl))) h

-- where a move leaves its worker
abbrev pub AtMove : Work → ℕ → Move → Type 0
AtMove work t move = At work move.table.drawn move.table.finished t move.worker

at_put : (work : Work) (table : Table) (p : ℕ) (values : List ℤ) (put cell t : ℕ) (o : Option ℤ) → At work table.drawn table.finished t (Putting p values put) → AtMove work (t + 1) (put_on table p values put cell o)
at_put work table p values put cell t None h = (h.0, (let e : t ≡ steps_before work p + 1 + length (work.needs p) + length (work.fetched p) + put = h.1 in omega arith), h.2)
at_put work table p values put cell t (Some value) h = tt

finished_below_set : (finished : List Bool) (p : ℕ) → p < length finished → FinishedBelow finished p → FinishedBelow (set finished p true) (p + 1)
finished_below_set finished p lt f q less = elim (cases_eq q p) [
  | inl e ↦ (let P : ℕ → Type 0 = λ k. get_or (set finished p true) k false ≡ true in subst P (sym e) (get_or-set_same finished p true false lt))
  | inr ne ↦ get_or-set_other finished p q true false ne ∙ f q (omega arith)
]

-- one more step
at_act : (work : Work) (target : ℕ → ℤ) (crew : Crew) (w t : ℕ) (x : Worker) → IsSound work target → Steady work target crew → crew.workers w ≡ x → t < all_steps work → At work crew.table.drawn crew.table.finished t x → AtMove work (t + 1) (act work crew.table x)
at_act work target crew w t Idle sound s at more h =
    let table : Table = crew.table in
    cond_both (nat_lt table.drawn work.pieces) (record { table = record table { drawn = table.drawn + 1 }; worker = after_asks work table.drawn 0 }) (keeps table Done) (λ move. AtMove work (t + 1) move)
    (λ yes. at_asks work (table.drawn + 1) table.finished (t + 1) table.drawn 0 refl (let e : t ≡ steps_before work table.drawn = h.0 in omega arith) h.1)
    (λ no. absurd (
    let past : work.pieces ≤ table.drawn = ltb-false _ _ no in
    let most : table.drawn ≤ work.pieces = s.drawn_most in
    let all : table.drawn ≡ work.pieces = omega arith in
    let e : t ≡ steps_before work table.drawn = h.0 in
    let end : steps_before work table.drawn ≡ steps_before work work.pieces = ap (steps_before work) all in
    omega arith))
at_act work target crew w t Done sound s at more h = absurd h
at_act work target crew w t (Asking p asked) sound s at more h =
    let known : Phase work target crew.table.finished (Asking p asked) = (let P : Worker → Type 0 = λ x. Phase work target crew.table.finished x in subst P at (s.phase w)) in
    let in_work : p < work.pieces = (let d : crew.table.drawn ≡ p + 1 = h.0 in let most : crew.table.drawn ≤ work.pieces = s.drawn_most in omega arith) in
    let earlier : get_or (work.needs p) asked 0 < p = sound.lists.earlier p (get_or (work.needs p) asked 0) in_work (Contains-get_or (work.needs p) asked 0 known.1) in
    let yes : is_finished crew.table (get_or (work.needs p) asked 0) ≡ true = h.2 (get_or (work.needs p) asked 0) earlier in
    let P : Worker → Type 0 = λ x. At work crew.table.drawn crew.table.finished (t + 1) x in
    subst P (sym (cond-true _ (after_asks work p (asked + 1)) (Asking p asked) yes))
    (at_asks work crew.table.drawn crew.table.finished (t + 1) p (asked + 1) h.0 (let e : t ≡ steps_before work p + 1 + asked = h.1 in omega arith) h.2)
at_act work target crew w t (Looking p looked) sound s at more h =
    at_look work crew.table.drawn crew.table.finished (t + 1) p looked (cell_at crew.table (get_or (work.fetched p) (length looked) 0)) h.0
    (let e : t ≡ steps_before work p + 1 + length (work.needs p) + length looked = h.1 in omega arith) h.2
at_act work target crew w t (Putting p values put) sound s at more h =
    let table : Table = crew.table in
    let known : Phase work target table.finished (Putting p values put) = (let P : Worker → Type 0 = λ x. Phase work target crew.table.finished x in subst P at (s.phase w)) in
    let cell : ℕ = get_or (work.own p) put 0 in
    let finished : List Bool = set table.finished p true in
    cond_both (nat_lt put (length (work.own p))) (put_on table p values put cell (cell_at table cell)) (record { table = record table { finished = finished }; worker = Idle }) (λ move. AtMove work (t + 1) move)
    (λ yes. at_put work table p values put cell t (cell_at table cell) h)
    (λ no.
    let d : table.drawn ≡ p + 1 = h.0 in
    let e : t ≡ steps_before work p + 1 + length (work.needs p) + length (work.fetched p) + put = h.1 in
    let past : length (work.own p) ≤ put = ltb-false _ _ no in
    let all : put ≤ length (work.own p) = known.1 in
    let most : table.drawn ≤ work.pieces = s.drawn_most in
    let long : length table.finished ≡ work.pieces = s.finished_length in
    let next : steps_before work (p + 1) ≡ steps_before work p + steps_of work p = before_more work p in
    let same : steps_before work table.drawn ≡ steps_before work (p + 1) = ap (steps_before work) d in
    let P : ℕ → Type 0 = λ n. FinishedBelow finished n in
    (omega arith, subst P (sym d) (finished_below_set table.finished p (omega arith) h.2)))
at_act work target crew w t Faulted sound s at more h = absurd (steady_clean work target crew s w at)

at_step : (work : Work) (target : ℕ → ℤ) (crew : Crew) (w t : ℕ) → IsSound work target → Steady work target crew → t < all_steps work → AtCrew work t w crew → AtCrew work (t + 1) w (step work crew w)
at_step work target crew w t sound s more h =
    let move : Move = act work crew.table (crew.workers w) in
    here crew w move (λ x. At work move.table.drawn move.table.finished (t + 1) x) (at_act work target crew w t (crew.workers w) sound s refl more h)

-- within a piece not all steps are taken
too_early : {target : ℕ → ℤ} (work : Work) (crew : Crew) (q taken : ℕ) → Steady work target crew → crew.table.drawn ≡ q + 1 → all_steps work ≡ steps_before work q + taken → taken < steps_of work q → ⊥
too_early work crew q taken s d e less =
    let most : crew.table.drawn ≤ work.pieces = s.drawn_most in
    let later : steps_before work q + steps_of work q ≤ steps_before work work.pieces = before_later work q work.pieces (omega arith) in
    omega arith

-- after all steps all pieces are finished
at_end : (work : Work) (target : ℕ → ℤ) (crew : Crew) (w : ℕ) (x : Worker) → Steady work target crew → crew.workers w ≡ x → At work crew.table.drawn crew.table.finished (all_steps work) x → AllFinished work crew
at_end work target crew w Idle s at h = λ p lt.
    elim (cases_lt crew.table.drawn work.pieces) [
      | inl less ↦ absurd (let later : steps_before work crew.table.drawn + steps_of work crew.table.drawn ≤ steps_before work work.pieces = before_later work crew.table.drawn work.pieces less in let e : all_steps work ≡ steps_before work crew.table.drawn = h.0 in omega arith)
      | inr all ↦ h.1 p (omega arith)
    ]
at_end work target crew w Done s at h = absurd h
at_end work target crew w (Asking q asked) s at h = absurd (too_early work crew q (1 + asked) s h.0 (let e : all_steps work ≡ steps_before work q + 1 + asked = h.1 in omega arith)
    (let known : Phase work target crew.table.finished (Asking q asked) = (let P : Worker → Type 0 = λ x. Phase work target crew.table.finished x in subst P at (s.phase w)) in
    let lt : asked < length (work.needs q) = known.1 in omega arith))
at_end work target crew w (Looking q looked) s at h = absurd (too_early work crew q (1 + length (work.needs q) + length looked) s h.0 (let e : all_steps work ≡ steps_before work q + 1 + length (work.needs q) + length looked = h.1 in omega arith)
    (let known : Phase work target crew.table.finished (Looking q looked) = (let P : Worker → Type 0 = λ x. Phase work target crew.table.finished x in subst P at (s.phase w)) in
    let lt : length looked < length (work.fetched q) = known.1 in omega arith))
at_end work target crew w (Putting q values put) s at h = absurd (too_early work crew q (1 + length (work.needs q) + length (work.fetched q) + put) s h.0 (let e : all_steps work ≡ steps_before work q + 1 + length (work.needs q) + length (work.fetched q) + put = h.1 in omega arith)
    (let known : Phase work target crew.table.finished (Putting q values put) = (let P : Worker → Type 0 = λ x. Phase work target crew.table.finished x in subst P at (s.phase w)) in
    let most : put ≤ length (work.own q) = known.1 in omega arith))
at_end work target crew w Faulted s at h = absurd (steady_clean work target crew s w at)

pub one_worker_from : (work : Work) (target : ℕ → ℤ) (crew : Crew) (w t n : ℕ) → IsSound work target → Steady work target crew → t + n ≡ all_steps work → AtCrew work t w crew → AllFinished work (go_from work crew (replicate n w))
one_worker_from work target crew w t zero sound s e h =
    let P : ℕ → Type 0 = λ k. AtCrew work k w crew in
    let now : t ≡ all_steps work = omega arith in
    at_end work target crew w (crew.workers w) s refl (subst P now h)
one_worker_from work target crew w t (suc n) sound s e h =
    one_worker_from work target (step work crew w) w (t + 1) n sound (steady_step work target crew w sound s) (omega arith)
    (at_step work target crew w t sound s (omega arith) h)

pub one_worker : (work : Work) (target : ℕ → ℤ) → IsSound work target → OneWorkerFinishes work
one_worker work target sound w =
    one_worker_from work target (start work) w 0 (all_steps work) sound (steady_start work target) (omega arith) (refl, λ p lt. absurd (omega arith))
