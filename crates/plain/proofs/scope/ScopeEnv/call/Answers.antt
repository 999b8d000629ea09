use Rattle.std.proofs.Common.{◌≡◌, sym, subst, ap, ◌∙◌, rules, w64, true, false, Bool, List, ℕ, ℤ, map}
use Rattle.std.proofs.lemmas.Int.{to_z-of_z}
use Rattle.meaning.specs.Image.Raster.{sample}
use Rattle.meaning.specs.Image.View.{Picture}
use Rattle.meaning.specs.Names.{same_name}
use Rattle.meaning.specs.Conditions.{callable}
use Rattle.std.specs.Prelude.{take}
use Rattle.tree.specs.Names.{AnswersWithin}
use Rattle.algo.specs.View.{algorithm_of, picture_of}
use Rattle.plain.specs.Works.{entry_of, recorded}
use Rattle.plain.specs.Scopes.{answered}
use Rattle.plain.proofs.scope.ScopeEnv.call.Goals as goal

pub returns-then-same_name-clause-within : goal.returns-then-same_name-clause-within
returns-then-same_name-clause-within c =
    let s = c.args.self.now in
    let a = algorithm_of s.algo.now in
    let p = picture_of s.inputs.now in
    let name = c.args.name.now in
    let at = c.args.at.now in
    let es = map entry_of s.answers.now in
    let test = ap (λ (x : List ℕ). same_name x name) (sym (c.as_str.ensures.value ∙ c.input.ensures.name)) ∙ sym c.same_name.ensures ∙ c.if-same_name.true in
    let pick : Bool → ℤ = λ b. elim b [ true ↦ sample p.extents p.samples at | false ↦ recorded es name at ] in
    let is : c.sample.result ≡ answered a p es name at = c.sample.ensures ∙ ap (λ (x : Picture). sample x.extents x.samples at) c.image.ensures.image ∙ sym (ap pick test) in
    subst (λ (z : ℤ). AnswersWithin (callable a (take s.callees a.functions) name) z) (sym (to_z-of_z w64 c.sample.result (search rules) ∙ is)) (s.within name at c.requires.indices)

pub returns-else-same_name-clause-within : goal.returns-else-same_name-clause-within
returns-else-same_name-clause-within c =
    let s = c.args.self.now in
    let a = algorithm_of s.algo.now in
    let p = picture_of s.inputs.now in
    let name = c.args.name.now in
    let at = c.args.at.now in
    let es = map entry_of s.answers.now in
    let test = ap (λ (x : List ℕ). same_name x name) (sym (c.as_str.ensures.value ∙ c.input.ensures.name)) ∙ sym c.same_name.ensures ∙ c.if-same_name.false in
    let pick : Bool → ℤ = λ b. elim b [ true ↦ sample p.extents p.samples at | false ↦ recorded es name at ] in
    let is : c.recorded.result ≡ answered a p es name at = c.recorded.ensures ∙ sym (ap pick test) in
    subst (λ (z : ℤ). AnswersWithin (callable a (take s.callees a.functions) name) z) (sym (to_z-of_z w64 c.recorded.result (search rules) ∙ is)) (s.within name at c.requires.indices)
