use Rattle.std.proofs.Common.{◌≡◌, ◌∙◌, ◌∷◌, [], List, length, refl, ap, sym, arith, append_assoc, append-nil}
use Rattle.std.specs.String.{string_eq}
use Rattle.std.specs.declared.string.String.{String}
use Rattle.std.specs.Global.{Global}
use Rattle.std.specs.Vec.Iter.{into_iter_items}
use Rattle.indexmap.specs.IndexMap.{insert_entry, insert_all}
use Rattle.indexmap.proofs.MapLemmas.{insert_all_push}
use Rattle.algo.specs.declared.function.Function.{Function}
use Rattle.algo.proofs.Whole.{inserted}
use Rattle.algo.proofs.file.by_name.Goals as goal

nothing_left : {X : Type 0} (l : List X) → length l ≡ 0 → l ≡ []
nothing_left [] h = refl
nothing_left (x ∷ xs) h = absurd (omega arith)

pub loop-name-preserved-in_ok-insert : goal.loop-name-preserved-in_ok-insert
loop-name-preserved-in_ok-insert c =
    let at = c.loop-name in
    let x : String Global × Function = (c.in-Some.name, c.in-Some.function) in
    let steps : into_iter_items at.name-iterator ≡ x ∷ into_iter_items c.next.new.self = c.in-Some.ensures.steps.0 in (
      c.in_ok-insert.ensures.entries ∙ ap (λ es. insert_entry string_eq es c.in-Some.name c.in-Some.function) at.invariant.0
          ∙ sym (insert_all_push string_eq [] at.yielded x),
      append_assoc at.yielded (x ∷ []) _ ∙ rw (← steps) at.invariant.1,
      let was = at.invariant.2 in
          let gone = c.in-Some.ensures.steps.1 in
          let short = ap length steps in
          omega arith,
    )

pub returns-clause-entries : goal.returns-clause-entries
returns-clause-entries c =
    let at = c.loop-name in
    let none = c.in-None.ensures.steps in
    let empty : into_iter_items at.name-iterator ≡ [] = nothing_left _ (sym at.invariant.2 ∙ none.0) in
    let all : at.yielded ≡ c.args.functions.items = sym (append-nil at.yielded) ∙ rw empty at at.invariant.1 ∙ c.into_iter-name-iterator.ensures.into_iter_gives.0 in
    at.invariant.0 ∙ ap (insert_all string_eq []) all ∙ inserted c.args.functions.items c.requires
