use Rattle.std.proofs.Common.{◌≡◌, ◌∷◌, ◌++◌, ◌∙◌, [], Bool, ℕ, List, Vec, ap, map, rules, w64, SFits}
use Rattle.std.specs.Global.{Global}
use Rattle.std.proofs.lemmas.Int.{to_z-of_z}
use Rattle.interpreter.specs.LowBits.{low_bits, numbers_of, numbers_read}
use Rattle.interpreter.proofs.LowBits.{one_kept}
use Rattle.interpreter.proofs.given.push_apart.Goals as goal

pub returns-clause-numbers : goal.returns-clause-numbers
returns-clause-numbers c =
    let z = c.args.number in
    let fits : SFits w64 z = search rules in
    ap (λ (b : Bool). numbers_read b c.set_apart.new.words.ty c.push_reserved.new.self.items c.push_reserved-2.new.self.items) c.set_apart.ensures.apart
    ∙ c.push_reserved-2.ensures.items
    ∙ (λ i. c.set_apart.ensures.numbers i ++ to_z-of_z w64 z fits i ∷ [])

pub returns-clause-kept : goal.returns-clause-kept
returns-clause-kept c =
    let z = c.args.number in
    let fits : SFits w64 z = search rules in
    let bits : List ℕ = c.set_apart.new.words.bits.items in
    let kept : bits ≡ map low_bits (numbers_of c.args.words.now) = ap (λ (v : Vec ℕ Global). v.items) c.set_apart.ensures.bits ∙ c.requires.kept in
    let word : c.bits_of.result ≡ low_bits z = c.bits_of.ensures ∙ ap low_bits (to_z-of_z w64 z fits) in
    c.push_reserved.ensures.items ∙ one_kept bits (numbers_of c.args.words.now) _ z c.bits_of.result kept word (returns-clause-numbers c)
