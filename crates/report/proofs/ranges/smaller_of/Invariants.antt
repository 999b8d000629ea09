use Rattle.std.proofs.Common.{take, map, fold, ℤ}
use Rattle.std.specs.Int.{int_min}
use Rattle.plan.specs.Symbols.{Symbols, form_value}
use Rattle.interpreter.specs.Narrow.{FormsAreNarrow}
use Rattle.report.specs.Known.{AllowsAll, AllSettled}
use Rattle.report.specs.Ranges.{Holds, IsOne}
use Rattle.report.proofs.ranges.smaller_of.Given as goal

abbrev pub invariant-loop-form : goal.invariant-loop-form
invariant-loop-form l = record {
  holds : (s : Symbols) (z : ℤ) → AllowsAll l.known s → FormsAreNarrow s l.forms → Holds l.fn.first z → Holds l.found (fold int_min z (map (λ m. form_value m s) (take l.form-index l.forms)));
  one : AllSettled l.known → IsOne l.fn.first → IsOne l.found;
}
