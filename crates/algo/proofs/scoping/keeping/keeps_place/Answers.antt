use Rattle.std.proofs.Common.{map, not, ap, sym, ◌∙◌}
use Rattle.std.specs.Prelude.{string_bytes}
use Rattle.tree.specs.Term.{term_of}
use Rattle.algo.proofs.ScopingKept.{keeps-alone, not_false}
use Rattle.algo.proofs.scoping.keeping.keeps_place.Goals as goal

pub returns-then-is_variable : goal.returns-then-is_variable
returns-then-is_variable c =
    keeps-alone c.args.function.now (map string_bytes c.args.variables.now) (term_of c.args.value.now) c.args.k c.args.variable.now (term_of c.args.index.now) c.is_none.result
    (sym c.is_variable.ensures ∙ c.if-is_variable.true)
    (λ h. c.first_call.ensures.none.0 (c.is_none.ensures ∙ ap not h))
    (λ h. not_false c.is_none.result (sym c.is_none.ensures ∙ c.first_call.ensures.none.1 h))
