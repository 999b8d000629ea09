use Rattle.std.proofs.Common.{◌≡◌, ◌<◌, length, sym, ap, ◌∙◌, subst}
use Rattle.std.proofs.lemmas.List.{length-map}
use Rattle.algo.specs.Parts.{function_of}
use Rattle.algo.specs.View.{algorithm_of}
use Rattle.plain.proofs.Outputs.{some_output}
use Rattle.plain.proofs.output.output_number.Goals as goal

pub unreachable-requires : goal.unreachable-requires
unreachable-requires c =
    let a = algorithm_of c.args.algo.now in
    let count : length a.functions ≡ c.len.result = sym (ap length c.funcs.ensures) ∙ length-map c.funcs.result.now.entries function_of ∙ sym c.len.ensures.len in
    let name = c.as_str.ensures.value ∙ c.output.ensures.name in
    some_output a c.is_well_formed.ensures (λ i l e. c.in-None.ensures i (subst (λ n. i < n) count l) (e ∙ sym name))
