use Rattle.std.proofs.Common.{◌≡◌, ◌++◌, ◌%◌, ◌^◌, map}
use Rattle.std.proofs.lemmas.Bool.{OnTrue_at}
use Rattle.numeric.specs.declared.ty.Ty.TheVariants.{U8}
use Rattle.interpreter.specs.LowBits.{numbers_of}
use Rattle.interpreter.proofs.LowBits.{low_bytes_taken}
use Rattle.interpreter.proofs.given.take_words.Goals as goal

pub returns-then-is_u8-clause-numbers : goal.returns-then-is_u8-clause-numbers
returns-then-is_u8-clause-numbers g c =
    let t = g.W.Width.ty in
    let x = c.args.numbers.now in
    let words = c.args.words.now in
    let u : t ≡ U8 = OnTrue_at c.if-is_u8.true c.is_u8.ensures in
    let new : c.with_low_bytes.result.items ≡ x.bytes.items ++ map (λ w. w % 2 ^ 8) words = search (c.with_low_bytes.ensures.items, c.replace-bytes.ensures.value) in
    low_bytes_taken x.in_bytes t x.bytes.items c.with_low_bytes.result.items words (numbers_of x.words) c.if-numbers.true u new
