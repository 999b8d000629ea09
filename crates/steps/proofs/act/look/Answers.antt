use Rattle.std.proofs.Common.{rules, ◌≡◌, List, [], ◌∷◌, ◌++◌, ℤ, length, sym, ◌∙◌, subst}
use Rattle.std.proofs.lemmas.Int.{to_z-of_z}
use Rattle.std.specs.Prelude.{slice_index}
use Rattle.orders.specs.Crew.{cell_at}
use Rattle.steps.specs.Seats.{AreTargets}
use Rattle.steps.proofs.Seated.{one_looked}
use Rattle.steps.proofs.act.look.Goals as goal
use mir.Syntax.{w64}
use mir.Val.{SFits}

pub after_looks-requires-clause-looked : goal.after_looks-requires-clause-looked
after_looks-requires-clause-looked g c =
    let work = g.J.Runs.work c.args.job.now in
    let target = g.J.Runs.target c.args.job.now in
    let table = c.args.table.now in
    let looked = c.args.numbers.now.items in
    let long : c.args.numbers.now.len ≡ length looked = search rules in
    let count : c.len.result ≡ length looked = c.len.ensures ∙ long in
    let at : cell_at table (slice_index c.fetched.result.now c.len.result) ≡ cell_at table (slice_index (work.fetched c.args.piece) (length looked)) = λ j. cell_at table (slice_index (c.fetched.ensures j) (count j)) in
    let P : List ℤ → Type 0 = λ xs. AreTargets work target c.args.piece xs in
    let value = c.in-Some.value in
    let fits : SFits w64 value = search rules in
    let pushed : c.push_reserved.new.self.items ≡ looked ++ value ∷ [] = c.push_reserved.ensures.items ∙ (λ j. looked ++ to_z-of_z w64 value fits j ∷ []) in
    subst P (sym pushed) (one_looked work target table c.args.piece looked value c.requires.right c.requires.looked c.requires.within.1 (sym at ∙ sym c.in-Some.ensures))
