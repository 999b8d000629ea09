use Rattle.std.proofs.Common.{◌≡◌, ◌++◌, ◌∙◌, ℕ, Vec, ap, map, pos}
use Rattle.std.specs.Global.{Global}
use Rattle.std.proofs.lemmas.Bool.{OnTrue_at}
use Rattle.numeric.specs.Wrap.{wrap}
use Rattle.interpreter.specs.LowBits.{low_bits, numbers_of}
use Rattle.interpreter.proofs.LowBits.{more_kept, more_read}
use Rattle.interpreter.proofs.given.append.Goals as goal

pub returns-then-is_read_as-clause-numbers : goal.returns-then-is_read_as-clause-numbers
returns-then-is_read_as-clause-numbers g c =
    let t = g.W.Width.ty in
    let more = c.args.more.now in
    let words = c.begin.new.words in
    let same = OnTrue_at c.if-is_read_as.true c.is_read_as.ensures in
    let new : c.with_words.result.items ≡ words.bits.items ++ map (λ w. low_bits (wrap t (pos w))) more = search (c.with_words.ensures.items, c.replace-bits.ensures.value) in
    more_read words.is_apart words.ty t words.bits.items c.with_words.result.items more words.wides.items same.0 (same.1 ∙ c.kind-2.ensures) new
    ∙ ap (λ zs. zs ++ map (λ w. wrap t (pos w)) more) c.begin.ensures.numbers

pub returns-then-is_read_as-clause-kept : goal.returns-then-is_read_as-clause-kept
returns-then-is_read_as-clause-kept g c =
    let t = g.W.Width.ty in
    let more = c.args.more.now in
    let words = c.begin.new.words in
    let new : c.with_words.result.items ≡ words.bits.items ++ map (λ w. low_bits (wrap t (pos w))) more = search (c.with_words.ensures.items, c.replace-bits.ensures.value) in
    let kept : words.bits.items ≡ map low_bits (numbers_of c.args.words.now) = ap (λ (v : Vec ℕ Global). v.items) c.begin.ensures.bits ∙ c.requires.kept in
    more_kept t words.bits.items c.with_words.result.items more (numbers_of c.args.words.now) _ kept new (returns-then-is_read_as-clause-numbers g c)
