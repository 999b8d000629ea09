-- What seats know once they are joined.
use Rattle.std.proofs.Common.{◌≡◌, ◌+◌, ◌++◌, ℕ, List, [], ◌∷◌, Some, true, length, sym, ap, subst, arith, refl, inl, inr, suc, ◌<◌, get_or}
use Rattle.std.specs.Prelude.{All, ◌||◌}
use Rattle.std.proofs.lemmas.List.Elements.{All-pop, Contains-append_cases, Contains-append_left, Contains-append_right}
use Rattle.std.proofs.lemmas.List.Sums.{sum_by-cons, sum_by_push}
use Rattle.atomic_table.specs.Seated.{TableId}
use Rattle.board.specs.declared.view.View.{View}
use Rattle.board.specs.Seats.{Place, seeing}
use Rattle.board.specs.Views.{joined, split_off, HasFinished, IsDone, IsIdle}
use Rattle.crew.specs.Workers.{seats_held, HasDrawnAll}
use Rattle.crew.specs.declared.workers.Worker.{Worker}

joined_idle : (v w : View) → IsIdle v → IsIdle (joined v w)
joined_idle v w idle j last = Contains-append_left v.known w.known j (idle j last)

joined_finished : (v w : View) → HasFinished v → HasFinished w → HasFinished (joined v w)
joined_finished v w one two j h = elim (Contains-append_cases v.drawn w.drawn j h) [
  | inl a ↦ Contains-append_left v.known w.known j (one j a)
  | inr b ↦ Contains-append_right v.known w.known j (two j b)
]

pub held_push : (ws : List Worker) (w : Worker) → seats_held (ws ++ w ∷ []) ≡ seats_held ws + w.seat.view.seats
held_push ws w = sum_by_push (λ (x : Worker). x.seat.view.seats) ws w

-- the seat stands for all but the workers that are left, and each has finished what it drew
pub record IsJoining (table : TableId) (seat : Place) (left : List Worker) : Type 0 where
  pub board : seat.board ≡ table
  pub idle : IsIdle seat.view
  pub drawn : seat.view.none_left ≡ true
  pub finished : HasFinished seat.view
  pub rest : All (HasDrawnAll table) left
  pub seats : seat.view.seats + seats_held left ≡ 64

pub first_joined : (board : TableId) (w : Worker) (rest all : List Worker) → All (HasDrawnAll board) all → all ≡ rest ++ w ∷ [] → seats_held all ≡ 64 → IsJoining board w.seat rest
first_joined board w rest all drawn is whole =
    let both = All-pop (HasDrawnAll board) all rest (Some w) is drawn in
    record {
      board = both.1.board;
      idle = both.1.idle;
      drawn = both.1.drawn;
      finished = both.1.finished;
      rest = both.0;
      seats = omega (arith, held_push rest w, ap seats_held is, whole);
    }

joined_more : (board : TableId) (s : Place) (w : Worker) (before after : List Worker) → IsJoining board s before → before ≡ after ++ w ∷ []
    → IsJoining board (seeing s (joined s.view w.seat.view)) after
joined_more board s w before after had is =
    let both = All-pop (HasDrawnAll board) before after (Some w) is had.rest in
    record {
      board = had.board;
      idle = joined_idle s.view w.seat.view had.idle;
      drawn = ap (λ b. b || w.seat.view.none_left) had.drawn;
      finished = joined_finished s.view w.seat.view had.finished both.1.finished;
      rest = both.0;
      seats = omega (arith, held_push after w, ap seats_held is, had.seats);
    }

pub one_joined : (board : TableId) (s t : Place) (w : Worker) (before after : List Worker) → IsJoining board s before → before ≡ after ++ w ∷ []
    → t ≡ seeing s (joined s.view w.seat.view) → IsJoining board t after
one_joined board s t w before after had is new = subst (λ (p : Place). IsJoining board p after) (sym new) (joined_more board s w before after had is)

none_held : (left : List Worker) → length left ≡ 0 → seats_held left ≡ 0
none_held [] e = refl
none_held (w ∷ ws) e = absurd (omega (arith, e))

pub all_joined : (board : TableId) (s : Place) (left : List Worker) → IsJoining board s left → length left ≡ 0 → IsDone s.view
all_joined board s left had none = record { seats = omega (arith, had.seats, none_held left none); drawn = had.drawn; finished = had.finished }

pub next_drawn : (table : TableId) (s : Place) (w : Worker) (before after : List Worker) → IsJoining table s before → before ≡ after ++ w ∷ [] → HasDrawnAll table w
next_drawn table s w before after had is = (All-pop (HasDrawnAll table) before after (Some w) is had.rest).1

-- where each stands for as many as before, all do
pub same_held : (xs ys : List Worker) → length xs ≡ length ys → ((k : ℕ) (d : Worker) → k < length ys → (get_or xs k d).seat.view.seats ≡ (get_or ys k d).seat.view.seats) → seats_held xs ≡ seats_held ys
same_held [] [] n each = refl
same_held [] (y ∷ ys) n each = absurd (omega (arith, n))
same_held (x ∷ xs) [] n each = absurd (omega (arith, n))
same_held (x ∷ xs) (y ∷ ys) n each = omega (
  arith,
  sum_by-cons (λ (w : Worker). w.seat.view.seats) x xs,
  sum_by-cons (λ (w : Worker). w.seat.view.seats) y ys,
  each 0 x (omega arith),
  same_held xs ys (omega (arith, n)) (λ k d lt. each (suc k) d (omega (arith, lt))),
)

-- a seat that was split off has drawn nothing
pub none_drawn : (v : View) → HasFinished (split_off v)
none_drawn v j h = let lt = h.1 in absurd (omega (arith, lt))
