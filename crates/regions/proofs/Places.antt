-- What stands at a place of a list.
-- What crates below need of it stands there: `sched`.
use Rattle.std.proofs.Common.{◌≡◌, ℕ, ◌-◌, List, length, map, Option, Some, Result, sym, ap, subst, ◌∙◌, arith}
use Rattle.std.proofs.lemmas.List.{length-map}
use Rattle.std.specs.Prelude.{ℤ}
use Rattle.lin.specs.declared.scope.Binding.{Binding}
use Rattle.lin.specs.declared.span.Span1.{Span1}
use Rattle.bounds.specs.Projection.Projection.{projected_span}
use Rattle.sched.specs.Standing.{◌>>=◌}
use Rattle.meaning.specs.Algorithm.{Range}
use Rattle.algo.specs.declared.function.Range.{Range as Held}
use Rattle.algo.specs.Parts.{range_of}
use Rattle.sched.specs.declared.stop.Stop.{Stop}
use Rattle.regions.specs.declared.regions.Ends.{Ends}
use Rattle.sched.specs.Limited.{Gives}
use Rattle.sched.specs.Regions.{symbols_from}
use Rattle.regions.specs.Regions.{greatest_number, least_number, ends_between, ends_of}

-- so many as those
pub range_count : (rs : List Held) (ss : List Range) → map range_of rs ≡ ss → length rs ≡ length ss
range_count rs ss e = sym (length-map rs range_of) ∙ ap length e

-- ---- ends

none_less : (n : ℕ) → n - 0 ≡ n
none_less n = omega arith

pub all_symbols : (n : ℕ) → symbols_from 0 (n - 0) ≡ symbols_from 0 n
all_symbols n = ap (λ k. symbols_from 0 k) (none_less n)

pub ends_found : (scope : List Binding) (s p : Span1) (low high : Option ℤ) (r : Result Ends Stop) → projected_span scope (symbols_from 0 (length scope)) s ≡ Some p
    → low ≡ greatest_number p.lower → high ≡ least_number p.upper → Gives r (λ e. e) (ends_between low high) → Gives r (λ e. e) (ends_of scope s)
ends_found scope s p low high r found l h g =
    let is : ends_of scope s ≡ ends_between low high =
    ap (λ (o : Option Span1). o >>= λ q. ends_between (greatest_number q.lower) (least_number q.upper)) found ∙ (λ i. ends_between (sym l i) (sym h i)) in
    subst (λ (o : Option Ends). Gives r (λ e. e) o) (sym is) g
