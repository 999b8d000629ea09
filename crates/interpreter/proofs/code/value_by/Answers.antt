use Rattle.std.proofs.Common.{map, Some, rules, sym, ◌∙◌, SFits, w64}
use Rattle.std.specs.Prelude.{string_bytes}
use Rattle.std.proofs.lemmas.Int.{to_z-of_z}
use Rattle.meaning.specs.Names.{bound}
use Rattle.plan.specs.declared.stmt.Coordinate.{Coordinate}
use Rattle.plan.specs.Semantics.Found.{found}
use Rattle.tree.specs.Meaning.{typed}
use Rattle.interpreter.specs.Codes.{term_in}
use Rattle.interpreter.specs.Pieces.{found_in}
use Rattle.interpreter.proofs.Codes.{told}
use Rattle.interpreter.proofs.code.value_by.Goals as goal

pub returns-clause-value : goal.returns-clause-value
returns-clause-value c =
    let r = c.args.reading.now in
    let z = c.run_code.new.out in
    let ty = c.in_ok-ty.ty in
    let fits : SFits w64 z = search rules in
    let variables = bound (map (λ (x : Coordinate). string_bytes x.variable) r.coordinates.now) r.numbers.now in
    let is = told c.run_code.result ty z (found variables (found_in r.piece.now r.memory.now) (term_in c.args.code.now)) c.in_ok-ty.was c.run_code.ensures.value in
    (λ i. Some (typed ty (to_z-of_z w64 z fits i))) ∙ sym is
