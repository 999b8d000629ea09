-- How a seat's view goes while it fills a piece.
use Rattle.std.proofs.Common.{◌≡◌, ◌⊎◌, inl, inr, ℕ, zero, suc, ◌+◌, ◌<◌, ◌∙◌, List, [], ◌∷◌, ℤ, map, length, get_or, pos, refl, ap, sym, subst, arith}
use Rattle.std.specs.Prelude.{Contains, slice_index}
use Rattle.std.proofs.lemmas.List.{get_or-map, length-map}
use Rattle.std.proofs.lemmas.Option.{same_Some}
use Rattle.board.specs.declared.view.View.{View}
use Rattle.board.specs.Views.{after_put, drew, knowing, completed, HasFinished, IsIdle, Knows}
use Rattle.board.specs.Seats.{Place, Task, seeing, task}
use Rattle.crew.specs.Learning.{HasLearned}

-- the view with this many puts
abbrev pub with_puts : View → ℕ → View
with_puts v n = record v { puts = n }

pub no_puts : (s : Place) → s.view.puts ≡ 0 → s ≡ seeing s (with_puts s.view 0)
no_puts s none i = seeing s (with_puts s.view (none i))

pub one_more : (s t u : Place) (n : ℕ) → t ≡ seeing s (with_puts s.view n) → u ≡ seeing t (after_put t.view) → u ≡ seeing s (with_puts s.view (n + 1))
one_more s t u n is put = put ∙ ap (λ (p : Place). seeing p (after_put p.view)) is

pub all_put : (s t u : Place) (n j : ℕ) → t ≡ seeing s (with_puts s.view n) → u ≡ seeing t (knowing t.view j) → u ≡ seeing s (completed s.view j n)
all_put s t u n j is finished = finished ∙ ap (λ (p : Place). seeing p (knowing p.view j)) is

pub one_more_task : (t u : Task) (j n : ℕ) → t ≡ task j n → u ≡ task t.piece (t.puts + 1) → u ≡ task j (n + 1)
one_more_task t u j n is put = put ∙ ap (λ (x : Task). task x.piece (x.puts + 1)) is

-- the values of a list of cells, by place
pub value_there : (f : ℕ → ℤ) (values : List ℤ) (own : List ℕ) (i : ℕ) → values ≡ map f own → i < length values → get_or values i (pos 0) ≡ f (slice_index own i)
value_there f values own i is inside =
    let l : i < length own = (let m = length-map own f in subst (λ n. i < n) (ap (λ (xs : List ℤ). length xs) is ∙ m) inside) in
    ap (λ (xs : List ℤ). get_or xs i (pos 0)) is ∙ get_or-map f own i 0 (pos 0) l

list_cases : (x : ℕ) (xs : List ℕ) (y : ℕ) → Contains (x ∷ xs) y → (x ≡ y) ⊎ Contains xs y
list_cases x xs y c = at c.0 c.1 c.2
  where
    at : (k : ℕ) → k < length (x ∷ xs) → get_or (x ∷ xs) k y ≡ y → (x ≡ y) ⊎ Contains xs y
    at zero lt e = inl e
    at (suc k) lt e = inr (k, omega (arith, lt), e)

-- once the piece that was drawn is finished, the seat is idle, and has finished all if it had
pub idle_filled : (v w : View) (j : ℕ) → HasLearned (drew v j) w → Knows w j → IsIdle w
idle_filled v w j learned known = λ i e. subst (λ (n : ℕ). Knows w n) (same_Some j i (sym learned.last ∙ e)) known

pub finished_filled : (v w : View) (j : ℕ) → HasLearned (drew v j) w → Knows w j → HasFinished v → HasFinished w
finished_filled v w j learned known before = λ i h. elim (list_cases j v.drawn i (subst (λ (ds : List ℕ). Contains ds i) learned.drawn h)) [
  | inl same ↦ subst (λ (n : ℕ). Knows w n) same known
  | inr old ↦ learned.more i (before i old)
]

-- what stands at a place does not depend on what stands for none
pub same_there : (xs : List ℕ) (k d e : ℕ) → k < length xs → get_or xs k d ≡ get_or xs k e
same_there [] k d e lt = absurd (omega (arith, lt))
same_there (x ∷ xs) zero d e lt = refl
same_there (x ∷ xs) (suc k) d e lt = same_there xs k d e (omega (arith, lt))

-- what stands at a place of a list is in it
pub at_place_there : (xs ys : List ℕ) (k : ℕ) → xs ≡ ys → k < length xs → Contains ys (slice_index xs k)
at_place_there xs ys k is lt = subst (λ (zs : List ℕ). Contains zs (slice_index xs k)) is (k, lt, same_there xs k (slice_index xs k) 0 lt)
