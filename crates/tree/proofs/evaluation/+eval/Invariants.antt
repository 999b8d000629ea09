use Rattle.std.proofs.Common.{◌≡◌, take, map, length, All}
use Rattle.tree.specs.Term.{term_of}
use Rattle.tree.specs.Names.{IsIndex, typed_answers}
use Rattle.tree.specs.Meaning.{value_of}
use Rattle.tree.proofs.evaluation.+eval.Given as goal

abbrev pub invariant-call-loop-i : goal.invariant-call-loop-i
invariant-call-loop-i g l = record {
  four : length l.numbers ≡ 4;
  values : take l.i l.numbers ≡ map (λ a. (value_of (g.E.Env.numbers l.env) (typed_answers (g.E.Names.functions l.env) (g.E.Env.answers l.env)) (term_of a)).number) (take l.i l.at);
  within : All IsIndex (take l.i l.numbers);
}
