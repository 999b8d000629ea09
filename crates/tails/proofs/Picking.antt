-- The loop that is taken next, told from the last step on.
use Rattle.std.proofs.Common.{◌≡◌, ℕ, true, false, ◌+◌, ◌<◌, ◌≤◌, List, length, take, drop, get_or, Bool, Option, Some, None, sym, ap, ◌∙◌}
use Rattle.std.specs.Prelude.{if◌then◌else◌, option_and_then}
use Rattle.lin.specs.Forms.{Form}
use Rattle.std.specs.Option.{option_map}
use Rattle.lin.specs.declared.span.Span1.{Span1}
use Rattle.soundness.specs.Obligations.{Binder}
use Rattle.tails.specs.declared.pending.Pending.{Pending}
use Rattle.tails.specs.declared.turns.Ready.{Ready as ReadyHeld}
use Rattle.tails.specs.Moves.{State, Ready, ready, is_before, preferred, best, choices, taken, after_loop, by_loop}
use Rattle.tails.specs.Held.{pending_of, pendings_of, others_at, span_of}
use Rattle.tails.specs.Ready.{ready_of, ready_with}
use Rattle.tails.proofs.Lists.{choices_from, choice_next, choices_end, from_all}

-- of those from number k on
abbrev pub best_from : List Span1 → List Pending → ℕ → Option Ready
best_from ys xs k = best ys (choices_from (pendings_of (take k xs)) (pendings_of (drop k xs)))

pub best_end : (ys : List Span1) (xs : List Pending) (k : ℕ) → length xs ≤ k → None ≡ best_from ys xs k
best_end ys xs k h = sym (ap (best ys) (choices_end xs k h (pendings_of (take k xs))))

pub best_all : (ys : List Span1) (xs : List Pending) (k : ℕ) → k ≡ 0 → best_from ys xs k ≡ best ys (choices (pendings_of xs))
best_all ys xs k h = ap (best_from ys xs) h ∙ ap (best ys) (from_all (pendings_of xs))

best_step : (ys : List Span1) (xs : List Pending) (k : ℕ) (x : Pending) → k < length xs → x ≡ get_or xs k x →
    best_from ys xs k ≡ preferred (ready ys (pending_of x) (others_at xs k)) (best_from ys xs (k + 1))
best_step ys xs k x h is = ap (best ys) (choice_next xs k x h is)

pub best_none : (ys : List Span1) (xs : List Pending) (k n m : ℕ) (x : Pending) (others : List Binder) (later : Option Ready) → k < length xs → x ≡ get_or xs k x → k ≡ n → k + 1 ≡ m → others ≡ others_at xs k →
    None ≡ ready ys (pending_of x) others → later ≡ best_from ys xs m → later ≡ best_from ys xs n
best_none ys xs k n m x others later h is e f same none stands =
    stands ∙ ap (best_from ys xs) (sym f)
    ∙ ap (λ o. preferred o (best_from ys xs (k + 1))) (none ∙ ap (ready ys (pending_of x)) same)
    ∙ sym (best_step ys xs k x h is) ∙ ap (best_from ys xs) e

pub best_some : (ys : List Span1) (xs : List Pending) (k n m : ℕ) (x : Pending) (others : List Binder) (one : ReadyHeld) (later found : Option Ready) → k < length xs → x ≡ get_or xs k x → k ≡ n → k + 1 ≡ m → others ≡ others_at xs k →
    one.place ≡ k → Some (ready_with others one) ≡ ready ys (pending_of x) others → later ≡ best_from ys xs m → found ≡ preferred (Some (ready_of xs one)) later → found ≡ best_from ys xs n
best_some ys xs k n m x others one later found h is e f same place some stands chosen =
    chosen ∙ ap (preferred (Some (ready_of xs one))) (stands ∙ ap (best_from ys xs) (sym f))
    ∙ ap (λ o. preferred o (best_from ys xs (k + 1)))
    (ap (λ (j : ℕ). Some (ready_with (others_at xs j) one)) place ∙ ap (λ os. Some (ready_with os one)) (sym same) ∙ some ∙ ap (ready ys (pending_of x)) same)
    ∙ sym (best_step ys xs k x h is) ∙ ap (best_from ys xs) e

abbrev pub left : List Binder → List Span1 → State
left others zs = record { steps = others; spans = zs }

-- a loop that is taken, or is not
module _ (exact : Bool) (shows : Form → Form → Bool) (ys : List Span1) (xs : List Pending) where
  abbrev here : State
  here = record { steps = pendings_of xs; spans = ys }

  pub loop_here : (r : ReadyHeld) (zs : List Span1) → Some (ready_of xs r) ≡ best ys (choices (pendings_of xs)) → Some zs ≡ taken exact shows r.symbol (span_of r.lower.now r.upper.now) ys →
      Some (left (others_at xs r.place) zs) ≡ by_loop exact shows here
  loop_here r zs chosen is =
      ap (option_map (λ (vs : List Span1). left (others_at xs r.place) vs)) is
      ∙ ap (option_and_then (after_loop exact shows ys)) chosen

  pub loop_stuck : (r : ReadyHeld) → Some (ready_of xs r) ≡ best ys (choices (pendings_of xs)) → None ≡ taken exact shows r.symbol (span_of r.lower.now r.upper.now) ys → None ≡ by_loop exact shows here
  loop_stuck r chosen is =
      ap (option_map (λ (vs : List Span1). left (others_at xs r.place) vs)) is
      ∙ ap (option_and_then (after_loop exact shows ys)) chosen

  pub no_loop : None ≡ best ys (choices (pendings_of xs)) → None ≡ by_loop exact shows here
  no_loop none = ap (option_and_then (after_loop exact shows ys)) none

-- the one or the other of two loops
pub prefers_later : (steps : List Pending) (first one : ReadyHeld) (later : Option ReadyHeld) (v : Bool) → later ≡ Some one → v ≡ is_before (ready_of steps one) (ready_of steps first) → v ≡ true →
    Some (ready_of steps one) ≡ preferred (Some (ready_of steps first)) (option_map (ready_of steps) later)
prefers_later steps first one later v e is h =
    sym (ap (λ (o : Option ReadyHeld). preferred (Some (ready_of steps first)) (option_map (ready_of steps) o)) e
    ∙ ap (λ b. if b then Some (ready_of steps one) else Some (ready_of steps first)) (sym is ∙ h))

pub prefers_first : (steps : List Pending) (first one : ReadyHeld) (later : Option ReadyHeld) (v : Bool) → later ≡ Some one → v ≡ is_before (ready_of steps one) (ready_of steps first) → v ≡ false →
    Some (ready_of steps first) ≡ preferred (Some (ready_of steps first)) (option_map (ready_of steps) later)
prefers_first steps first one later v e is h =
    sym (ap (λ (o : Option ReadyHeld). preferred (Some (ready_of steps first)) (option_map (ready_of steps) o)) e
    ∙ ap (λ b. if b then Some (ready_of steps one) else Some (ready_of steps first)) (sym is ∙ h))
