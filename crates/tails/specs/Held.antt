-- What steps that are still to be taken are, in memory.
use Rattle.std.specs.Prelude.{ℕ, suc, if◌then◌else◌, ◌&&◌, List, [], ◌∷◌, ◌++◌, map, take, drop, Bool, true, false, Option, Some, None}
use Rattle.lin.specs.Forms.{Form, factor_of, same_form}
use Rattle.lin.specs.declared.span.Span1.{Span1}
use Rattle.plan.specs.declared.stmt.Pick.TheVariants.{Min}
use Rattle.soundness.specs.Obligations.{Binder, Ranged, Picked, Passed, form_has}
use Rattle.tails.specs.Moves.{turned, unguarded, settled, is_positive, each_replaced, is_free_let, without_let, under_guard}
use Rattle.tails.specs.declared.pending.Pending.{Pending}
use Rattle.tails.specs.declared.pending.Pending.TheVariants as V
use Rattle.tails.specs.declared.pending.Others.{Others}

abbrev pub span_of : List Form → List Form → Span1
span_of ls us = record { lower = ls; upper = us }

abbrev pub pending_of : Pending → Binder
pending_of (V.Ranged i ls us) = Ranged i (span_of ls.now us.now)
pending_of (V.Picked i pick ls) = Picked i pick ls.now
pending_of (V.Passed low high) = Passed low.now high.now

abbrev pub pendings_of : List Pending → List Binder
pendings_of = map pending_of

abbrev pub others_of : Others → List Binder
others_of o = pendings_of o.before.now ++ pendings_of o.after.now

-- the steps but the one of this number
abbrev pub others_at : List Pending → ℕ → List Binder
others_at steps k = pendings_of (take k steps) ++ pendings_of (drop (suc k) steps)

-- the steps that are left before a step, and the step
abbrev pub paired_step : Binder → List Binder → List Binder
paired_step (Picked i Min (a ∷ c ∷ [])) bs = turned i a c bs (unguarded a c bs)
paired_step b bs = settled b ∷ bs

-- ---- lists that come about, or do not

abbrev pub some_if : {A : Type 0} → Bool → A → Option A
some_if true x = Some x
some_if false x = None

-- a form with each of the members in the symbol's place, the form itself where it has not the symbol
abbrev pub expanded_one : ℕ → List Form → Form → Option (List Form)
expanded_one i ms f =
    if form_has i f then (if is_positive (factor_of f.terms i) then each_replaced f i (factor_of f.terms i) ms else None) else Some (f ∷ [])

-- ---- one step taken

-- the spans without the name that the step gives, and behind the guard that it is
abbrev pub let_spans : Bool → (Form → Form → Bool) → List Span1 → Binder → List Binder → Option (List Span1)
let_spans exact shows ys (Picked i pick ls) others = if is_free_let exact shows i ls others then without_let exact shows i pick ls ys else None
let_spans exact shows ys (Ranged i x) others = None
let_spans exact shows ys (Passed low high) others = None

abbrev pub guard_spans : Bool → (Form → Form → Bool) → List Span1 → Binder → List Binder → Option (List Span1)
guard_spans exact shows ys (Passed low high) others = if exact then Some ys else under_guard exact shows others low high ys
guard_spans exact shows ys (Ranged i x) others = None
guard_spans exact shows ys (Picked i pick ls) others = None

-- ---- a guard and the name behind it

abbrev pub is_guard : Form → Form → Binder → Bool
is_guard low high (Passed l h) = same_form l low && same_form h high
is_guard low high (Ranged i x) = false
is_guard low high (Picked i pick ls) = false
