-- What a crew keeps at every moment, whoever steps.
use Rattle.std.proofs.Common.{◌≡◌, ◌≢◌, ℕ, ◌+◌, ◌<◌, ◌≤◌, ℤ, Bool, true, false, cond, Option, Some, None, List, [], ◌∷◌, ◌++◌, length, take, map, get_or, set, refl, sym, ◌∙◌, ap, subst, inl, inr, arith, nat_eq, nat_lt, replicate}
use Rattle.std.specs.Prelude.{slice_get, Contains}
use Rattle.std.specs.Option.{option_map}
use Rattle.std.proofs.lemmas.Bool.{cases_eq, cond_both, eqb-true, eqb-false, ltb-true, ltb-false, cases_lt, cases_Bool, both_ways}
use Rattle.std.proofs.lemmas.List.{length-set, length-replicate, get_or-replicate, get_or-set_same, get_or-set_other, map_more, get_or_past}
use Rattle.std.proofs.lemmas.Option.{same_Some, none-some, slice_get-map, slice_get-get_or}
use Rattle.std.proofs.lemmas.List.Elements.{Contains-get_or}
use Rattle.std.proofs.lemmas.Grind.{common_steps, get_or_default_zero}
use borrow.Author.Count.{below_more}
use Rattle.orders.specs.Work.{Work, IsSound}
use Rattle.orders.specs.Crew.{Worker, Idle, Done, Asking, Looking, Putting, Faulted, Crew, start, cell_at, is_finished, after_run, after_looks, after_asks, after_look, keeps, put_on, act, after_move, step, go_from}
use Rattle.orders.specs.Outcome.{IsRight}

-- the piece that a worker has
abbrev pub piece_of : Worker → Option ℕ
piece_of Idle = None
piece_of Done = None
piece_of (Asking piece asked) = Some piece
piece_of (Looking piece looked) = Some piece
piece_of (Putting piece values put) = Some piece
piece_of Faulted = None

-- how many of its own cells the worker put
abbrev pub puts_of : Worker → ℕ
puts_of Idle = 0
puts_of Done = 0
puts_of (Asking piece asked) = 0
puts_of (Looking piece looked) = 0
puts_of (Putting piece values put) = put
puts_of Faulted = 0

abbrev pub own_cell : Work → ℕ → ℕ → ℕ
own_cell work piece a = get_or (work.own piece) a 0

-- the first n needed pieces are finished
abbrev pub Asked : Work → List Bool → ℕ → ℕ → Type 0
Asked work finished piece n = (i : ℕ) → i < n → get_or finished (get_or (work.needs piece) i 0) false ≡ true

-- what a worker knows at each place of its piece
abbrev pub Phase : Work → (ℕ → ℤ) → List Bool → Worker → Type 0
Phase work target finished Idle = Unit {0}
Phase work target finished Done = Unit {0}
Phase work target finished (Asking piece asked) = Asked work finished piece asked × (asked < length (work.needs piece))
Phase work target finished (Looking piece looked) = Asked work finished piece (length (work.needs piece)) × (length looked < length (work.fetched piece)) × (looked ≡ map target (take (length looked) (work.fetched piece)))
Phase work target finished (Putting piece values put) = (values ≡ map target (work.own piece)) × (put ≤ length (work.own piece))
Phase work target finished Faulted = ⊥

-- a piece that a worker has: drawn, not finished, and its own cells set up to its puts
pub record Busy (work : Work) (target : ℕ → ℤ) (cells : List (Option ℤ)) (drawn : ℕ) (finished : List Bool) (piece put : ℕ) : Type 0 where
  pub is_drawn : piece < drawn
  pub unfinished : get_or finished piece false ≡ false
  pub before : (a : ℕ) → a < put → a < length (work.own piece) → get_or cells (own_cell work piece a) None ≡ Some (target (own_cell work piece a))
  pub after : (a : ℕ) → put ≤ a → a < length (work.own piece) → get_or cells (own_cell work piece a) None ≡ None

-- a finished piece: drawn, and its own cells set
pub record Settled (work : Work) (target : ℕ → ℤ) (cells : List (Option ℤ)) (drawn : ℕ) (piece : ℕ) : Type 0 where
  pub is_drawn : piece < drawn
  pub all : (a : ℕ) → a < length (work.own piece) → get_or cells (own_cell work piece a) None ≡ Some (target (own_cell work piece a))

pub record Steady (work : Work) (target : ℕ → ℤ) (crew : Crew) : Type 0 where
  pub cells_length : length crew.table.cells ≡ work.cells
  pub finished_length : length crew.table.finished ≡ work.pieces
  pub drawn_most : crew.table.drawn ≤ work.pieces
  pub right : (cell : ℕ) (value : ℤ) → get_or crew.table.cells cell None ≡ Some value → value ≡ target cell
  pub undrawn : (piece a : ℕ) → crew.table.drawn ≤ piece → piece < work.pieces → a < length (work.own piece) → get_or crew.table.cells (own_cell work piece a) None ≡ None
  pub settled : (piece : ℕ) → get_or crew.table.finished piece false ≡ true → Settled work target crew.table.cells crew.table.drawn piece
  pub busy : (w piece : ℕ) → piece_of (crew.workers w) ≡ Some piece → Busy work target crew.table.cells crew.table.drawn crew.table.finished piece (puts_of (crew.workers w))
  pub apart : (v w piece : ℕ) → piece_of (crew.workers v) ≡ Some piece → piece_of (crew.workers w) ≡ Some piece → v ≡ w
  pub phase : (w : ℕ) → Phase work target crew.table.finished (crew.workers w)

-- what holds of the worker that came to x, and of each other, holds of each
pub at_workers : (workers : ℕ → Worker) (w : ℕ) (x : Worker) (P : ℕ → Worker → Type 0) → P w x → ((v : ℕ) → v ≢ w → P v (workers v)) → (v : ℕ) → P v (cond (nat_eq v w) x (workers v))
at_workers workers w x P here there v =
    cond_both (nat_eq v w) x (workers v) (λ y. P v y)
    (λ e. let Q : ℕ → Type 0 = λ u. P u x in subst Q (sym (eqb-true v w e)) here)
    (λ e. there v (eqb-false v w e))

-- a worker that stays with its piece, and has put as many cells
pub stays : (work : Work) (target : ℕ → ℤ) (crew : Crew) (w : ℕ) (x : Worker) → Steady work target crew → Phase work target crew.table.finished x → piece_of x ≡ piece_of (crew.workers w) → puts_of x ≡ puts_of (crew.workers w) → Steady work target (after_move crew w (keeps crew.table x))
stays work target crew w x s phase_x same_piece same_puts =
    let same : (v : ℕ) → piece_of (cond (nat_eq v w) x (crew.workers v)) ≡ piece_of (crew.workers v) = at_workers crew.workers w x (λ v y. piece_of y ≡ piece_of (crew.workers v)) same_piece (λ v ne. refl) in
    let same_put : (v : ℕ) → puts_of (cond (nat_eq v w) x (crew.workers v)) ≡ puts_of (crew.workers v) = at_workers crew.workers w x (λ v y. puts_of y ≡ puts_of (crew.workers v)) same_puts (λ v ne. refl) in
    record {
      cells_length = s.cells_length;
      finished_length = s.finished_length;
      drawn_most = s.drawn_most;
      right = s.right;
      undrawn = s.undrawn;
      settled = s.settled;
      busy = λ v p e.
          let P : ℕ → Type 0 = λ n. Busy work target crew.table.cells crew.table.drawn crew.table.finished p n in
          subst P (sym (same_put v)) (s.busy v p (sym (same v) ∙ e));
      apart = λ v u p e f. s.apart v u p (sym (same v) ∙ e) (sym (same u) ∙ f);
      phase = at_workers crew.workers w x (λ v y. Phase work target crew.table.finished y) phase_x (λ v ne. s.phase v);
    }

-- nobody is faulted
pub steady_clean : (work : Work) (target : ℕ → ℤ) (crew : Crew) → Steady work target crew → (w : ℕ) → crew.workers w ≢ Faulted
steady_clean work target crew s w e = let P : Worker → Type 0 = λ x. Phase work target crew.table.finished x in subst P e (s.phase w)

-- x is what a worker comes to in its piece before its first put
pub record Ready (work : Work) (target : ℕ → ℤ) (finished : List Bool) (piece : ℕ) (x : Worker) : Type 0 where
  pub phase : Phase work target finished x
  pub piece_same : piece_of x ≡ Some piece
  pub no_puts : puts_of x ≡ 0

take_all : {A : Type 0} (xs : List A) (n : ℕ) → n ≡ length xs → take n xs ≡ xs
take_all xs n e = grind (arith, common_steps)

pub ready_looks : (work : Work) (target : ℕ → ℤ) (finished : List Bool) (piece : ℕ) (looked : List ℤ) → IsSound work target → piece < work.pieces → Asked work finished piece (length (work.needs piece)) → length looked ≤ length (work.fetched piece) → looked ≡ map target (take (length looked) (work.fetched piece)) → Ready work target finished piece (after_looks work piece looked)
ready_looks work target finished piece looked sound in_work asked most right =
    cond_both (nat_eq (length looked) (length (work.fetched piece))) (after_run piece (work.private_run piece looked)) (Looking piece looked) (λ x. Ready work target finished piece x)
    (λ e. let all : looked ≡ map target (work.fetched piece) = right ∙ ap (map target) (take_all (work.fetched piece) (length looked) (eqb-true _ _ e)) in
    let ran : work.private_run piece looked ≡ Some (map target (work.own piece)) = ap (work.private_run piece) all ∙ sound.runs piece in_work in
    let P : Option (List ℤ) → Type 0 = λ o. Ready work target finished piece (after_run piece o) in
    subst P (sym ran) (record { phase = (refl, omega arith); piece_same = refl; no_puts = refl }))
    (λ e. let ne : length looked ≡ length (work.fetched piece) → ⊥ = eqb-false _ _ e in
    record { phase = (asked, omega arith, right); piece_same = refl; no_puts = refl })

pub ready_asks : (work : Work) (target : ℕ → ℤ) (finished : List Bool) (piece asked : ℕ) → IsSound work target → piece < work.pieces → asked ≤ length (work.needs piece) → Asked work finished piece asked → Ready work target finished piece (after_asks work piece asked)
ready_asks work target finished piece asked sound in_work most so_far =
    cond_both (nat_eq asked (length (work.needs piece))) (after_looks work piece []) (Asking piece asked) (λ x. Ready work target finished piece x)
    (λ e. ready_looks work target finished piece [] sound in_work
    (λ i lt. so_far i (let same : asked ≡ length (work.needs piece) = eqb-true _ _ e in omega arith)) (omega arith) refl)
    (λ e. let ne : asked ≡ length (work.needs piece) → ⊥ = eqb-false _ _ e in
    record { phase = (so_far, omega arith); piece_same = refl; no_puts = refl })

pub place_of : (xs : List ℕ) (x : ℕ) → Contains xs x → (k : ℕ) × (k < length xs) × (get_or xs k 0 ≡ x)
place_of xs x h = (h.0, h.1, sym (get_or_default_zero xs h.0 x h.1) ∙ h.2)

-- a fetched cell holds its target once all needed pieces are finished
pub fetched_set : (work : Work) (target : ℕ → ℤ) (crew : Crew) (piece k : ℕ) → IsSound work target → Steady work target crew → piece < work.pieces → Asked work crew.table.finished piece (length (work.needs piece)) → k < length (work.fetched piece) → cell_at crew.table (get_or (work.fetched piece) k 0) ≡ Some (target (get_or (work.fetched piece) k 0))
fetched_set work target crew piece k sound s in_work asked lt =
    let cell : ℕ = get_or (work.fetched piece) k 0 in
    let found : (needed : ℕ) × Contains (work.needs piece) needed × Contains (work.own needed) cell = sound.lists.needed piece cell in_work (Contains-get_or (work.fetched piece) k 0 lt) in
    let need : (i : ℕ) × (i < length (work.needs piece)) × (get_or (work.needs piece) i 0 ≡ found.0) = place_of (work.needs piece) found.0 found.1 in
    let own : (a : ℕ) × (a < length (work.own found.0)) × (get_or (work.own found.0) a 0 ≡ cell) = place_of (work.own found.0) cell found.2 in
    let done : get_or crew.table.finished found.0 false ≡ true = (let P : ℕ → Type 0 = λ n. get_or crew.table.finished n false ≡ true in subst P need.2 (asked need.0 need.1)) in
    let P : ℕ → Type 0 = λ c. get_or crew.table.cells c None ≡ Some (target c) in
    subst P own.2 ((s.settled found.0 done).all own.0 own.1)

-- the step that looks at a fetched cell
pub steady_look : (work : Work) (target : ℕ → ℤ) (crew : Crew) (w piece : ℕ) (looked : List ℤ) → IsSound work target → Steady work target crew → crew.workers w ≡ Looking piece looked → Steady work target (after_move crew w (act work crew.table (Looking piece looked)))
steady_look work target crew w piece looked sound s at =
    let busy : Busy work target crew.table.cells crew.table.drawn crew.table.finished piece (puts_of (crew.workers w)) = s.busy w piece (ap piece_of at) in
    let in_work : piece < work.pieces = (let less : piece < crew.table.drawn = busy.is_drawn in let most : crew.table.drawn ≤ work.pieces = s.drawn_most in omega arith) in
    let known : Phase work target crew.table.finished (Looking piece looked) = (let P : Worker → Type 0 = λ x. Phase work target crew.table.finished x in subst P at (s.phase w)) in
    let cell : ℕ = get_or (work.fetched piece) (length looked) 0 in
    let is_set : cell_at crew.table cell ≡ Some (target cell) = fetched_set work target crew piece (length looked) sound s in_work known.0 known.1 in
    let longer : length (looked ++ target cell ∷ []) ≡ length looked + 1 = grind (arith, common_steps) in
    let more : looked ++ target cell ∷ [] ≡ map target (take (length looked + 1) (work.fetched piece)) =
    ap (λ xs. xs ++ target cell ∷ []) known.2 ∙ sym (map_more target (work.fetched piece) (length looked) 0 known.1) in
    let ready : Ready work target crew.table.finished piece (after_looks work piece (looked ++ target cell ∷ [])) =
    ready_looks work target crew.table.finished piece (looked ++ target cell ∷ []) sound in_work known.0 (let lt : length looked < length (work.fetched piece) = known.1 in omega arith) (more ∙ ap (λ n. map target (take n (work.fetched piece))) (sym longer)) in
    let stay : Steady work target (after_move crew w (keeps crew.table (after_looks work piece (looked ++ target cell ∷ [])))) =
    stays work target crew w (after_looks work piece (looked ++ target cell ∷ [])) s ready.phase (ready.piece_same ∙ sym (ap piece_of at)) (ready.no_puts ∙ sym (ap puts_of at)) in
    let P : Option ℤ → Type 0 = λ o. Steady work target (after_move crew w (keeps crew.table (after_look work piece looked o))) in
    subst P (sym is_set) stay

-- the step that asks for a needed piece
pub steady_ask : (work : Work) (target : ℕ → ℤ) (crew : Crew) (w piece asked : ℕ) → IsSound work target → Steady work target crew → crew.workers w ≡ Asking piece asked → Steady work target (after_move crew w (act work crew.table (Asking piece asked)))
steady_ask work target crew w piece asked sound s at =
    let busy : Busy work target crew.table.cells crew.table.drawn crew.table.finished piece (puts_of (crew.workers w)) = s.busy w piece (ap piece_of at) in
    let in_work : piece < work.pieces = (let less : piece < crew.table.drawn = busy.is_drawn in let most : crew.table.drawn ≤ work.pieces = s.drawn_most in omega arith) in
    let known : Phase work target crew.table.finished (Asking piece asked) = (let P : Worker → Type 0 = λ x. Phase work target crew.table.finished x in subst P at (s.phase w)) in
    cond_both (is_finished crew.table (get_or (work.needs piece) asked 0)) (after_asks work piece (asked + 1)) (Asking piece asked) (λ x. Steady work target (after_move crew w (keeps crew.table x)))
    (λ yes. let ready : Ready work target crew.table.finished piece (after_asks work piece (asked + 1)) =
    ready_asks work target crew.table.finished piece (asked + 1) sound in_work (let lt : asked < length (work.needs piece) = known.1 in omega arith) (below_more _ _ known.0 yes) in
    stays work target crew w (after_asks work piece (asked + 1)) s ready.phase (ready.piece_same ∙ sym (ap piece_of at)) (ready.no_puts ∙ sym (ap puts_of at)))
    (λ no. stays work target crew w (Asking piece asked) s known (sym (ap piece_of at)) (sym (ap puts_of at)))

-- the step that draws a piece
pub steady_draw : (work : Work) (target : ℕ → ℤ) (crew : Crew) (w : ℕ) → IsSound work target → Steady work target crew → crew.workers w ≡ Idle → Steady work target (after_move crew w (act work crew.table Idle))
steady_draw work target crew w sound s at =
    cond_both (nat_lt crew.table.drawn work.pieces) (record { table = record crew.table { drawn = crew.table.drawn + 1 }; worker = after_asks work crew.table.drawn 0 }) (keeps crew.table Done) (λ move. Steady work target (after_move crew w move))
    (λ yes.
    let in_work : crew.table.drawn < work.pieces = ltb-true _ _ yes in
    let x : Worker = after_asks work crew.table.drawn 0 in
    let ready : Ready work target crew.table.finished crew.table.drawn x = ready_asks work target crew.table.finished crew.table.drawn 0 sound in_work (omega arith) (λ i lt. absurd (omega arith)) in
    let more : (p n : ℕ) → Busy work target crew.table.cells crew.table.drawn crew.table.finished p n → Busy work target crew.table.cells (crew.table.drawn + 1) crew.table.finished p n =
    (λ p n b. record { is_drawn = (let lt : p < crew.table.drawn = b.is_drawn in omega arith); unfinished = b.unfinished; before = b.before; after = b.after }) in
    let unfinished : get_or crew.table.finished crew.table.drawn false ≡ false =
    elim (cases_Bool (get_or crew.table.finished crew.table.drawn false)) [ inl t ↦ absurd (let lt : crew.table.drawn < crew.table.drawn = (s.settled crew.table.drawn t).is_drawn in omega arith) | inr f ↦ f ] in
    let fresh : Busy work target crew.table.cells (crew.table.drawn + 1) crew.table.finished crew.table.drawn 0 =
    record { is_drawn = omega arith; unfinished = unfinished; before = (λ a lt. absurd (omega arith)); after = (λ a least lt. s.undrawn crew.table.drawn a (omega arith) in_work lt) } in
    record {
      cells_length = s.cells_length;
      finished_length = s.finished_length;
      drawn_most = omega arith;
      right = s.right;
      undrawn = (λ p a least lt in_own. s.undrawn p a (omega arith) lt in_own);
      settled = (λ p t. record { is_drawn = (let lt : p < crew.table.drawn = (s.settled p t).is_drawn in omega arith); all = (s.settled p t).all });
      busy = at_workers crew.workers w x (λ v y. (p : ℕ) → piece_of y ≡ Some p → Busy work target crew.table.cells (crew.table.drawn + 1) crew.table.finished p (puts_of y))
          (λ p e.
          let same : crew.table.drawn ≡ p = same_Some _ _ (sym ready.piece_same ∙ e) in
          let P : ℕ → ℕ → Type 0 = λ q n. Busy work target crew.table.cells (crew.table.drawn + 1) crew.table.finished q n in
          let Q : ℕ → Type 0 = λ q. P q (puts_of x) in
          let R : ℕ → Type 0 = λ n. P crew.table.drawn n in
          subst Q same (subst R (sym ready.no_puts) fresh))
          (λ v ne p e. more p (puts_of (crew.workers v)) (s.busy v p e));
      apart = (λ v u p. at_workers crew.workers w x (λ v y. piece_of y ≡ Some p → piece_of (cond (nat_eq u w) x (crew.workers u)) ≡ Some p → v ≡ u)
          (λ e. at_workers crew.workers w x (λ u z. piece_of z ≡ Some p → w ≡ u) (λ f. refl)
          (λ u ne f. absurd (let lt : p < crew.table.drawn = (s.busy u p f).is_drawn in let same : crew.table.drawn ≡ p = same_Some _ _ (sym ready.piece_same ∙ e) in omega arith)) u)
          (λ v ne e. at_workers crew.workers w x (λ u z. piece_of z ≡ Some p → v ≡ u)
          (λ f. absurd (let lt : p < crew.table.drawn = (s.busy v p e).is_drawn in let same : crew.table.drawn ≡ p = same_Some _ _ (sym ready.piece_same ∙ f) in omega arith))
          (λ u ne' f. s.apart v u p e f) u) v);
      phase = at_workers crew.workers w x (λ v y. Phase work target crew.table.finished y) ready.phase (λ v ne. s.phase v);
    })
    (λ no. stays work target crew w Done s tt (sym (ap piece_of at)) (sym (ap puts_of at)))

-- the step that puts an own cell
pub steady_put : (work : Work) (target : ℕ → ℤ) (crew : Crew) (w piece : ℕ) (values : List ℤ) (put : ℕ) → IsSound work target → Steady work target crew → crew.workers w ≡ Putting piece values put → put < length (work.own piece) → Steady work target (after_move crew w (put_on crew.table piece values put (own_cell work piece put) (cell_at crew.table (own_cell work piece put))))
steady_put work target crew w piece values put sound s at lt =
    let x : Worker = Putting piece values (put + 1) in
    let cell : ℕ = own_cell work piece put in
    let here : Busy work target crew.table.cells crew.table.drawn crew.table.finished piece put = (let P : ℕ → Type 0 = λ n. Busy work target crew.table.cells crew.table.drawn crew.table.finished piece n in subst P (ap puts_of at) (s.busy w piece (ap piece_of at))) in
    let in_work : piece < work.pieces = (let less : piece < crew.table.drawn = here.is_drawn in let most : crew.table.drawn ≤ work.pieces = s.drawn_most in omega arith) in
    let known : Phase work target crew.table.finished (Putting piece values put) = (let P : Worker → Type 0 = λ y. Phase work target crew.table.finished y in subst P at (s.phase w)) in
    let unset : cell_at crew.table cell ≡ None = here.after put (omega arith) lt in
    let in_table : cell < length crew.table.cells = (let in_range : cell < work.cells = sound.lists.in_table piece cell in_work (Contains-get_or (work.own piece) put 0 lt) in let same : length crew.table.cells ≡ work.cells = s.cells_length in omega arith) in
    let value : slice_get values put ≡ Some (target cell) =
    ap (λ vs. slice_get vs put) known.0 ∙ slice_get-map target (work.own piece) put ∙ ap (λ o. option_map target o) (slice_get-get_or (work.own piece) put 0 lt) in
    let cells : List (Option ℤ) = set crew.table.cells cell (Some (target cell)) in
    let same_here : get_or cells cell None ≡ Some (target cell) = get_or-set_same crew.table.cells cell (Some (target cell)) None in_table in
    let same_there : (c : ℕ) → c ≢ cell → get_or cells c None ≡ get_or crew.table.cells c None = (λ c ne. get_or-set_other crew.table.cells cell c (Some (target cell)) None ne) in
    let other_cell : (p a : ℕ) → p < work.pieces → a < length (work.own p) → (p ≡ piece → a ≡ put → ⊥) → own_cell work p a ≢ cell =
    (λ p a p_in a_in ne e. let both : (p ≡ piece) × (a ≡ put) = sound.lists.apart p piece a put p_in in_work a_in lt e in ne both.0 both.1) in
    let elsewhere : (p n : ℕ) → p ≢ piece → Busy work target crew.table.cells crew.table.drawn crew.table.finished p n → Busy work target cells crew.table.drawn crew.table.finished p n =
    (λ p n ne b.
    let p_in : p < work.pieces = (let less : p < crew.table.drawn = b.is_drawn in let most : crew.table.drawn ≤ work.pieces = s.drawn_most in omega arith) in
    record {
      is_drawn = b.is_drawn;
      unfinished = b.unfinished;
      before = (λ a less a_in. same_there _ (other_cell p a p_in a_in (λ e _. ne e)) ∙ b.before a less a_in);
      after = (λ a least a_in. same_there _ (other_cell p a p_in a_in (λ e _. ne e)) ∙ b.after a least a_in);
    }) in
    let mine : Busy work target cells crew.table.drawn crew.table.finished piece (put + 1) =
    record {
      is_drawn = here.is_drawn;
      unfinished = here.unfinished;
      before = (λ a less a_in. elim (cases_eq a put) [
        | inl e ↦ (let P : ℕ → Type 0 = λ b. get_or cells (own_cell work piece b) None ≡ Some (target (own_cell work piece b)) in subst P (sym e) same_here)
        | inr ne ↦ same_there _ (other_cell piece a in_work a_in (λ _ e. ne e)) ∙ here.before a (omega arith) a_in
      ]);
      after = (λ a least a_in. same_there _ (other_cell piece a in_work a_in (λ _ e. omega arith)) ∙ here.after a (omega arith) a_in);
    } in
    let same : (v : ℕ) → piece_of (cond (nat_eq v w) x (crew.workers v)) ≡ piece_of (crew.workers v) = at_workers crew.workers w x (λ v y. piece_of y ≡ piece_of (crew.workers v)) (sym (ap piece_of at)) (λ v ne. refl) in
    let next : Steady work target (after_move crew w (record { table = record crew.table { cells = cells }; worker = x })) =
    record {
      cells_length = (let kept : length cells ≡ length crew.table.cells = length-set crew.table.cells cell (Some (target cell)) in kept ∙ s.cells_length);
      finished_length = s.finished_length;
      drawn_most = s.drawn_most;
      right = (λ c v e. elim (cases_eq c cell) [
        | inl is ↦ (let P : ℕ → Type 0 = λ d. get_or cells d None ≡ Some v in let found : get_or cells cell None ≡ Some v = subst P is e in same_Some _ _ (sym found ∙ same_here) ∙ ap target (sym is))
        | inr ne ↦ s.right c v (sym (same_there c ne) ∙ e)
      ]);
      undrawn = (λ p a least p_in a_in. same_there _ (other_cell p a p_in a_in (λ e _. let less : piece < crew.table.drawn = here.is_drawn in omega arith)) ∙ s.undrawn p a least p_in a_in);
      settled = (λ p t.
          let old : Settled work target crew.table.cells crew.table.drawn p = s.settled p t in
          let p_in : p < work.pieces = (let less : p < crew.table.drawn = old.is_drawn in let most : crew.table.drawn ≤ work.pieces = s.drawn_most in omega arith) in
          let ne : p ≢ piece = (λ e. let P : ℕ → Type 0 = λ q. get_or crew.table.finished q false ≡ true in both_ways _ here.unfinished (subst P e t)) in
          record { is_drawn = old.is_drawn; all = (λ a a_in. same_there _ (other_cell p a p_in a_in (λ e _. ne e)) ∙ old.all a a_in) });
      busy = at_workers crew.workers w x (λ v y. (p : ℕ) → piece_of y ≡ Some p → Busy work target cells crew.table.drawn crew.table.finished p (puts_of y))
          (λ p e. let P : ℕ → Type 0 = λ q. Busy work target cells crew.table.drawn crew.table.finished q (put + 1) in subst P (same_Some _ _ e) mine)
          (λ v ne p e. elsewhere p (puts_of (crew.workers v)) (λ is. ne (s.apart v w p e (ap piece_of at ∙ ap Some (sym is)))) (s.busy v p e));
      apart = (λ v u p e f. s.apart v u p (sym (same v) ∙ e) (sym (same u) ∙ f));
      phase = at_workers crew.workers w x (λ v y. Phase work target crew.table.finished y) (known.0, omega arith) (λ v ne. s.phase v);
    } in
    let P : Option ℤ → Type 0 = λ o. Steady work target (after_move crew w (put_on crew.table piece values put cell o)) in
    let Q : Option ℤ → Type 0 = λ o. Steady work target (after_move crew w (record { table = record crew.table { cells = set crew.table.cells cell o }; worker = x })) in
    subst P (sym unset) (subst Q (sym value) next)

finished_more : (finished : List Bool) (piece p : ℕ) → get_or finished p false ≡ true → get_or (set finished piece true) p false ≡ true
finished_more finished piece p t =
    elim (cases_eq p piece) [
      | inl e ↦ (let P : ℕ → Type 0 = λ q. get_or (set finished piece true) q false ≡ true in
          let Q : ℕ → Type 0 = λ q. get_or finished q false ≡ true in
          subst P (sym e) (get_or-set_same finished piece true false (elim (cases_lt piece (length finished)) [
            | inl lt ↦ lt
            | inr past ↦ absurd (both_ways _ (get_or_past finished piece false past) (subst Q e t))
          ])))
      | inr ne ↦ get_or-set_other finished piece p true false ne ∙ t
    ]

phase_more : (work : Work) (target : ℕ → ℤ) (finished : List Bool) (piece : ℕ) (x : Worker) → Phase work target finished x → Phase work target (set finished piece true) x
phase_more work target finished piece Idle h = tt
phase_more work target finished piece Done h = tt
phase_more work target finished piece (Asking p asked) h = ((λ i lt. finished_more finished piece _ (h.0 i lt)), h.1)
phase_more work target finished piece (Looking p looked) h = ((λ i lt. finished_more finished piece _ (h.0 i lt)), h.1, h.2)
phase_more work target finished piece (Putting p values put) h = h
phase_more work target finished piece Faulted h = h

-- the step that finishes a piece
pub steady_finish : (work : Work) (target : ℕ → ℤ) (crew : Crew) (w piece : ℕ) (values : List ℤ) (put : ℕ) → IsSound work target → Steady work target crew → crew.workers w ≡ Putting piece values put → length (work.own piece) ≤ put → Steady work target (after_move crew w (record { table = record crew.table { finished = set crew.table.finished piece true }; worker = Idle }))
steady_finish work target crew w piece values put sound s at past =
    let here : Busy work target crew.table.cells crew.table.drawn crew.table.finished piece put = (let P : ℕ → Type 0 = λ n. Busy work target crew.table.cells crew.table.drawn crew.table.finished piece n in subst P (ap puts_of at) (s.busy w piece (ap piece_of at))) in
    let finished : List Bool = set crew.table.finished piece true in
    let elsewhere : (p n : ℕ) → p ≢ piece → Busy work target crew.table.cells crew.table.drawn crew.table.finished p n → Busy work target crew.table.cells crew.table.drawn finished p n =
    (λ p n ne b. record { is_drawn = b.is_drawn; unfinished = get_or-set_other crew.table.finished piece p true false ne ∙ b.unfinished; before = b.before; after = b.after }) in
    record {
      cells_length = s.cells_length;
      finished_length = length-set crew.table.finished piece true ∙ s.finished_length;
      drawn_most = s.drawn_most;
      right = s.right;
      undrawn = s.undrawn;
      settled = (λ p t. elim (cases_eq p piece) [
        | inl e ↦ (let P : ℕ → Type 0 = λ q. Settled work target crew.table.cells crew.table.drawn q in
            subst P (sym e) (record { is_drawn = here.is_drawn; all = (λ a a_in. here.before a (omega arith) a_in) }))
        | inr ne ↦ s.settled p (sym (get_or-set_other crew.table.finished piece p true false ne) ∙ t)
      ]);
      busy = at_workers crew.workers w Idle (λ v y. (p : ℕ) → piece_of y ≡ Some p → Busy work target crew.table.cells crew.table.drawn finished p (puts_of y))
          (λ p e. absurd (none-some p e))
          (λ v ne p e. elsewhere p (puts_of (crew.workers v)) (λ is. ne (s.apart v w p e (ap piece_of at ∙ ap Some (sym is)))) (s.busy v p e));
      apart = (λ v u p. at_workers crew.workers w Idle (λ v y. piece_of y ≡ Some p → piece_of (cond (nat_eq u w) Idle (crew.workers u)) ≡ Some p → v ≡ u)
          (λ e. absurd (none-some p e))
          (λ v ne e. at_workers crew.workers w Idle (λ u z. piece_of z ≡ Some p → v ≡ u) (λ f. absurd (none-some p f)) (λ u ne' f. s.apart v u p e f) u) v);
      phase = at_workers crew.workers w Idle (λ v y. Phase work target finished y) tt (λ v ne. phase_more work target crew.table.finished piece (crew.workers v) (s.phase v));
    }

-- each step keeps it
steady_act : (work : Work) (target : ℕ → ℤ) (crew : Crew) (w : ℕ) (x : Worker) → IsSound work target → Steady work target crew → crew.workers w ≡ x → Steady work target (after_move crew w (act work crew.table x))
steady_act work target crew w Idle sound s at = steady_draw work target crew w sound s at
steady_act work target crew w Done sound s at = stays work target crew w Done s tt (sym (ap piece_of at)) (sym (ap puts_of at))
steady_act work target crew w (Asking piece asked) sound s at = steady_ask work target crew w piece asked sound s at
steady_act work target crew w (Looking piece looked) sound s at = steady_look work target crew w piece looked sound s at
steady_act work target crew w (Putting piece values put) sound s at =
    cond_both (nat_lt put (length (work.own piece))) (put_on crew.table piece values put (own_cell work piece put) (cell_at crew.table (own_cell work piece put))) (record { table = record crew.table { finished = set crew.table.finished piece true }; worker = Idle }) (λ move. Steady work target (after_move crew w move))
    (λ yes. steady_put work target crew w piece values put sound s at (ltb-true _ _ yes))
    (λ no. steady_finish work target crew w piece values put sound s at (ltb-false _ _ no))
steady_act work target crew w Faulted sound s at = absurd (steady_clean work target crew s w at)

pub steady_step : (work : Work) (target : ℕ → ℤ) (crew : Crew) (w : ℕ) → IsSound work target → Steady work target crew → Steady work target (step work crew w)
steady_step work target crew w sound s = steady_act work target crew w (crew.workers w) sound s refl

get_or_copies : {A : Type 0} (n i : ℕ) (a : A) → get_or (replicate n a) i a ≡ a
get_or_copies n i a = elim (cases_lt i n) [
  | inl lt ↦ get_or-replicate n i a a lt
  | inr past ↦ get_or_past (replicate n a) i a (let e : length (replicate n a) ≡ n = length-replicate n a in omega arith)
]

pub steady_start : (work : Work) (target : ℕ → ℤ) → Steady work target (start work)
steady_start work target =
    let nothing : Option ℤ = None in
    let unset : (c : ℕ) → get_or (replicate work.cells nothing) c nothing ≡ nothing = (λ c. get_or_copies work.cells c nothing) in
    record {
      cells_length = length-replicate work.cells nothing;
      finished_length = length-replicate work.pieces false;
      drawn_most = omega arith;
      right = (λ c v e. absurd (none-some v (sym (unset c) ∙ e)));
      undrawn = (λ p a least p_in a_in. unset (own_cell work p a));
      settled = (λ p t. absurd (both_ways _ (get_or_copies work.pieces p false) t));
      busy = (λ w p e. absurd (none-some p e));
      apart = (λ v w p e f. absurd (none-some p e));
      phase = (λ w. tt);
    }

pub steady_go : (work : Work) (target : ℕ → ℤ) (crew : Crew) (order : List ℕ) → IsSound work target → Steady work target crew → Steady work target (go_from work crew order)
steady_go work target crew [] sound s = s
steady_go work target crew (w ∷ order) sound s = steady_go work target (step work crew w) order sound (steady_step work target crew w sound s)

-- an own cell of a finished piece holds its target
settled_cell : (work : Work) (target : ℕ → ℤ) (crew : Crew) (piece cell : ℕ) → Steady work target crew → get_or crew.table.finished piece false ≡ true → Contains (work.own piece) cell → get_or crew.table.cells cell None ≡ Some (target cell)
settled_cell work target crew piece cell s t owned =
    let place : (a : ℕ) × (a < length (work.own piece)) × (get_or (work.own piece) a 0 ≡ cell) = place_of (work.own piece) cell owned in
    let P : ℕ → Type 0 = λ c. get_or crew.table.cells c None ≡ Some (target c) in
    subst P place.2 ((s.settled piece t).all place.0 place.1)

-- what is set is right
pub steady_right : (work : Work) (target : ℕ → ℤ) (crew : Crew) → IsSound work target → Steady work target crew → IsRight work target crew
steady_right work target crew sound s =
    record {
      set_right = s.right;
      finished_set = (λ p c t owned. settled_cell work target crew p c s t owned);
      own_apart = sound.lists.apart;
      all_set = (λ all c lt.
          let owner : (piece : ℕ) × (piece < work.pieces) × Contains (work.own piece) c = sound.lists.whole c lt in
          settled_cell work target crew owner.0 c s (all owner.0 owner.1) owner.2);
    }
