-- The samples of a picture of the input's shape are values of its type.
use Rattle.std.proofs.Common.{ℕ, ◌≤◌, arith}
use Rattle.std.specs.Prelude.{pos}
use Rattle.std.proofs.lemmas.Int.{ints}
use Rattle.std.proofs.lemmas.List.Elements.{All-weaker}
use Rattle.numeric.specs.declared.ty.Ty.{Ty}
use Rattle.numeric.specs.declared.ty.Ty.TheVariants.{U8, U16, U32, I8, I16, I32}
use Rattle.numeric.specs.Wrap.{IsOf}
use Rattle.meaning.specs.Image.View.{IsSampleType, max_sample}
use Rattle.headline.specs.Headline.{InputsAreSamples}

sample_of : (t : Ty) → IsSampleType t → (s : ℕ) → s ≤ max_sample t → IsOf t (pos s)
sample_of U8 h s l = record { from = omega (arith, ints, l); to = omega (arith, ints, l) }
sample_of U16 h s l = record { from = omega (arith, ints, l); to = omega (arith, ints, l) }
sample_of U32 h s l = absurd h
sample_of I8 h s l = absurd h
sample_of I16 h s l = absurd h
sample_of I32 h s l = absurd h

pub inputs_are_samples : InputsAreSamples
inputs_are_samples a p w shape = All-weaker (λ s. s ≤ max_sample a.input_ty) (λ s. IsOf a.input_ty (pos s)) (λ s l. sample_of a.input_ty w.input_sampled s l) p.samples shape.range
