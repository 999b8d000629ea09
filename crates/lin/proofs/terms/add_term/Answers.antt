use Rattle.std.proofs.Common.{◌≡◌, ℕ, ◌<◌, ◌^◌, arith, sym, ◌∙◌, get_or, length, ap, List}
use Rattle.std.specs.Prelude.{pos, ◌+ℤ◌}
use Rattle.std.specs.List.{insert}
use Rattle.std.proofs.lemmas.Int.{ints}
use Rattle.lin.specs.declared.form.Multiple.{Multiple}
use Rattle.lin.proofs.TermLemmas.{plus_term-put, plus_term-out, element_within}
use Rattle.lin.proofs.Machine.{get_or-any}
use Rattle.lin.proofs.terms.add_term.Goals as goal
use mir.Val.{to_z, of_z, SFits}
use mir.Syntax.{w64}

same_symbol : (ts us : List Multiple) (p s : ℕ) (x none : Multiple) → us ≡ ts → p < length ts → x ≡ get_or ts p x → (get_or us p none).symbol ≡ s → x.symbol ≡ s
same_symbol ts us p s x none e l is h =
    let f : List Multiple → ℕ = λ r. (get_or r p none).symbol in
    ap (λ (m : Multiple). m.symbol) (is ∙ get_or-any ts p x none l) ∙ sym (ap f e) ∙ h

pub returns-in_ok-insert : goal.returns-in_ok-insert
returns-in_ok-insert c =
    let x = c.remove-found.result in
    let ts = c.args.terms.now.items in
    let none : Multiple = record { symbol = 0; factor = pos 0 } in
    let below : c.loop-place.place < length ts = omega (arith, c.len-2.ensures.value) in
    let same = same_symbol ts c.deref-then-place-len.result.now c.loop-place.place c.args.term.symbol x none c.deref-then-place-len.ensures below c.remove-found.ensures.value c.if-deref-place-2.true in
    let fits : SFits w64 (x.factor +ℤ c.args.term.factor) = omega (arith, ints, element_within (2 ^ 62) ts c.loop-place.place x c.requires.room below c.remove-found.ensures.value, c.requires.small) in
    let sum : to_z w64 (of_z w64 (to_z w64 (of_z w64 x.factor) +ℤ to_z w64 (of_z w64 c.args.term.factor))) ≡ x.factor +ℤ c.args.term.factor = omega (arith, ints) in
    let other : x.factor +ℤ c.args.term.factor ≡ pos 0 → ⊥ = λ e. c.if-sum-ne0.true (omega (arith, ints)) in
    let put = rw sum at c.in_ok-insert.ensures.ok in
    put ∙ ap (λ (r : List Multiple). insert r c.loop-place.place (record { symbol = c.args.term.symbol; factor = x.factor +ℤ c.args.term.factor })) c.remove-found.ensures.items
    ∙ plus_term-put ts c.loop-place.place x c.args.term below c.remove-found.ensures.value same other ∙ sym c.loop-place.invariant.passed

pub returns-else-sum-ne0 : goal.returns-else-sum-ne0
returns-else-sum-ne0 c =
    let x = c.remove-found.result in
    let ts = c.args.terms.now.items in
    let none : Multiple = record { symbol = 0; factor = pos 0 } in
    let below : c.loop-place.place < length ts = omega (arith, c.len-2.ensures.value) in
    let same = same_symbol ts c.deref-then-place-len.result.now c.loop-place.place c.args.term.symbol x none c.deref-then-place-len.ensures below c.remove-found.ensures.value c.if-deref-place-2.true in
    let fits : SFits w64 (x.factor +ℤ c.args.term.factor) = omega (arith, ints, element_within (2 ^ 62) ts c.loop-place.place x c.requires.room below c.remove-found.ensures.value, c.requires.small) in
    let nothing : x.factor +ℤ c.args.term.factor ≡ pos 0 = omega (arith, ints) in
    c.remove-found.ensures.items ∙ plus_term-out ts c.loop-place.place x c.args.term below c.remove-found.ensures.value same nothing ∙ sym c.loop-place.invariant.passed
