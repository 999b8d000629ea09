-- Along which loop a function slides, what it holds in each turn, and which functions are computed at the places of a loop, part by part.
use Rattle.std.proofs.Common.{◌≡◌, ℕ, ◌-◌, ◌==◌, Bool, false, List, length, map, Option, Some, None, sym, ap, ◌∙◌}
use Rattle.std.specs.Prelude.{slice_get}
use Rattle.std.specs.List.{list_any}
use Rattle.std.proofs.lemmas.List.{length-map}
use Rattle.sched.specs.declared.definitions.Formula.{Formula}
use Rattle.sched.specs.Stored.{StoredText, formula_of}
use Rattle.sched.specs.Demanded.{is_rounding, is_rounded}
use Rattle.sched.specs.Slid.{is_single}

-- ---- splits

pub rounded_in : (g : StoredText) (d : ℕ) (x : List ℕ) (r : Bool) → slice_get g.subject.variables d ≡ Some x → r ≡ list_any (is_rounding g.placed.cuts x) g.placed.cuts → r ≡ is_rounded g d
rounded_in g d x r e h = h ∙ ap (λ (o : Option (List ℕ)). elim o [ Some y ↦ list_any (is_rounding g.placed.cuts y) g.placed.cuts | None ↦ false ]) (sym e)

pub no_variable : (g : StoredText) (d : ℕ) → slice_get g.subject.variables d ≡ None → false ≡ is_rounded g d
no_variable g d e = ap (λ (o : Option (List ℕ)). elim o [ Some y ↦ list_any (is_rounding g.placed.cuts y) g.placed.cuts | None ↦ false ]) (sym e)

-- ---- definitions

pub single_seen : (fs : List Formula) (b : Bool) → b ≡ (length fs == 1) → b ≡ is_single (map formula_of fs)
single_seen fs b h = h ∙ ap (λ (n : ℕ). n == 1) (sym (length-map fs formula_of))
