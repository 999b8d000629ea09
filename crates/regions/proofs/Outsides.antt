-- What is told of the uses of functions outside of their loops.
use Rattle.std.proofs.Common.{◌≡◌, Bool, true, false, List, [], ◌∷◌, Result, refl, ◌∙◌}
use Rattle.std.specs.Prelude.{IfOk}
use Rattle.std.specs.List.{list_any}
use Rattle.std.proofs.lemmas.Bool.{false≢true}
use Rattle.std.proofs.lemmas.Result.{IfOk-weaker}
use Rattle.sched.specs.declared.schedule.Home.{Home}
use Rattle.sched.specs.Stored.{StoredText}
use Rattle.regions.specs.Faults.{is_homeless}
use Rattle.regions.specs.Uses.{first_home, passes, uses_outside, is_used_outside}

-- ---- one function

unused_at : (all : List StoredText) (g : StoredText) (hs : List Home) → is_homeless hs ≡ true → passes (λ v. list_any (uses_outside all g.subject.name v) all) (first_home hs) ≡ false
unused_at all g [] e = refl
unused_at all g (h ∷ hs) e = absurd (false≢true e)

-- a function that is computed at no loop is not used outside of one
pub homeless_unused : (all : List StoredText) (g : StoredText) → is_homeless g.placed.homes ≡ true → is_used_outside all g ≡ false
homeless_unused all g e = unused_at all g g.placed.homes e

pub homeless_told : {E : Type 0} (all : List StoredText) (g : StoredText) (r : Result Bool E)
    → IfOk r (λ yes. yes ≡ is_used_outside all g) → IfOk r (λ yes. is_homeless g.placed.homes ≡ true → yes ≡ false)
homeless_told all g r h = IfOk-weaker r (λ yes. yes ≡ is_used_outside all g) (λ yes. is_homeless g.placed.homes ≡ true → yes ≡ false) (λ yes e w. e ∙ homeless_unused all g w) h
