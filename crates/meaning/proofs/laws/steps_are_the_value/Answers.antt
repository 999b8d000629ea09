use Rattle.std.proofs.Common.{ap, sym, List, ℤ}
use Rattle.std.proofs.Math.Seq.{take-length}
use Rattle.meaning.specs.Value.{pure_value, steps_of}
use Rattle.meaning.proofs.Steps.{stepped_none, stepped_within, stepped_through, stepped_all, step_set, step_kept}
use Rattle.meaning.proofs.laws.steps_are_the_value.Goals as goal

pub returns-clause-agree : goal.returns-clause-agree
returns-clause-agree c = record {
  pure = λ calls f p. ap (λ (g : List ℤ → ℤ). g p) (stepped_none calls f (pure_value calls f) f.changes);
  within = λ calls f k u n p e h. ap (λ (g : List ℤ → ℤ). g p) (stepped_within calls f (pure_value calls f) f.changes k u n e h);
  through = λ calls f k p. ap (λ (g : List ℤ → ℤ). g p) (stepped_through calls f (pure_value calls f) f.changes k);
  last = λ calls f p. ap (λ (g : List ℤ → ℤ). g p) (stepped_all calls f (pure_value calls f) f.changes);
  every = λ f. ap steps_of (sym (take-length f.changes));
}

pub returns-clause-cases : goal.returns-clause-cases
returns-clause-cases c = record {
  set = λ calls f k u r p e h. step_set calls f k u r p e h;
  kept = λ calls f k u r p e h. step_kept calls f k u r p e h;
}
