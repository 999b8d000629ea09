use Rattle.std.proofs.Common.{inl, inr, refl, arith, get_or}
use Rattle.meaning.proofs.Greatest.{greatest_next}
use Rattle.meaning.proofs.image.samples.greatest.Goals as goal
use Rattle.meaning.proofs.image.samples.greatest.Goals.{then-most-sample, else-most-sample}

pub loop-sample-preserved : goal.loop-sample-preserved
loop-sample-preserved c =
    let most = c.loop-sample.most in let samples = c.args.samples.now in let at = c.loop-sample.sample-index in let x = get_or samples at 0 in
    let top = c.if-most-sample.most in let next = greatest_next samples at most x top c.loop-sample-test.true refl in
    elim c.if-most-sample.branch [
      | then-most-sample w ↦ next (omega (arith, w.if-most-sample, w.most-is)) (omega (arith, w.most-is)) (inr (omega (arith, w.most-is))) c.loop-sample.invariant
      | else-most-sample w ↦ next (omega (arith, w.most-is)) (omega (arith, w.if-most-sample, w.most-is)) (inl (omega (arith, w.most-is))) c.loop-sample.invariant
    ]

pub returns : goal.returns
returns c m =
    let known = c.loop-sample.invariant m in let end = c.loop-sample-test.false in
    (λ le k d less. known.0 le k d (omega (arith, less, end)), λ all. known.1 (λ k d less. all k d (omega (arith, less, c.loop-sample.auto.sample-index-end))))
