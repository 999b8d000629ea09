-- Names around that are spelled out, and regions that end before others.
use Rattle.std.proofs.Common.{◌≡◌, ◌<◌, ◌≤◌, List, [], ◌∷◌, ◌++◌, length, take, drop, get_or, ◌-◌, false, refl, sym, ap, ◌∙◌, arith}
use Rattle.lin.specs.declared.span.Span1.{Span1}
use Rattle.plan.specs.declared.stmt.Places.{Places}
use Rattle.soundness.specs.Obligations.{Binder, Rules}
use Rattle.soundness.specs.declared.binders.binder.Binder.{Binder as BinderHeld}
use Rattle.soundness.specs.Binders.View.{binder_of, binders_of}
use Rattle.soundness.specs.Shown.{are_within, are_seated}
use Rattle.tails.specs.Maps.{spelled, spelled_out}
use Rattle.tails.proofs.Joined.{first_and}

pub spelled_last : (bs : List Binder) (b : Binder) (y : Span1) → spelled_out (bs ++ b ∷ []) y ≡ spelled b (spelled_out bs y)
spelled_last [] b y = refl
spelled_last (c ∷ bs) b y = spelled_last bs b (spelled c y)

pub spelled_first : (b : BinderHeld) (bs : List BinderHeld) (y : Span1) → spelled_out (binders_of (b ∷ bs)) y ≡ spelled (binder_of b) (spelled_out (binders_of bs) y)
spelled_first b bs y = spelled_last (binders_of bs) (binder_of b) y

pub too_few_spans : (rules : Rules) (bs : List Binder) (xs ys : List Span1) → 1 ≤ length xs → length ys < 1 → false ≡ are_within rules bs xs ys
too_few_spans rules bs [] ys h g = absurd (omega arith)
too_few_spans rules bs (x ∷ xs) [] h g = refl
too_few_spans rules bs (x ∷ xs) (y ∷ ys) h g = absurd (omega arith)

pub too_few_places : (rules : Rules) (bs : List Binder) (xs : List Span1) (places : List Places) → 1 ≤ length xs → length places < 1 → false ≡ are_seated rules bs xs places
too_few_places rules bs [] places h g = absurd (omega arith)
too_few_places rules bs (x ∷ xs) [] h g = refl
too_few_places rules bs (x ∷ xs) (a ∷ places) h g = absurd (omega arith)

pub spelled_in : (bs : List BinderHeld) (b : BinderHeld) (y inner made : Span1) → 1 ≤ length bs → b ≡ get_or bs 0 b → inner ≡ spelled_out (binders_of (take (length bs - 1) (drop 1 bs))) y →
    made ≡ spelled (binder_of b) inner → made ≡ spelled_out (binders_of bs) y
spelled_in bs b y inner made h is rest by =
    by ∙ ap (spelled (binder_of b)) rest
    ∙ sym (ap (λ l. spelled_out (binders_of l) y) (first_and bs b h is) ∙ spelled_first b (take (length bs - 1) (drop 1 bs)) y)
