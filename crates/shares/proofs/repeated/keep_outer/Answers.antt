use Rattle.std.proofs.Common.{◌∙◌, ◌-◌, ◌++◌, ◌∷◌, [], List, length, map, ap, subst, Bor}
use Rattle.std.specs.Prelude.{MatchOption, slice_get}
use Rattle.std.proofs.lemmas.List.{map-append}
use Rattle.plan.specs.declared.certificate.cert.Need.{Need}
use Rattle.shares.specs.Repeated.{LiesIn, LiesInOne}
use Rattle.shares.proofs.Keeping.{said}
use Rattle.shares.proofs.Repeating.{lies_behind, outer_again, outer_put, outer_self}
use Rattle.shares.proofs.repeated.keep_outer.Goals as goal

pub returns-then-lies_in_one : goal.returns-then-lies_in_one
returns-then-lies_in_one c =
    let n : Need = c.args.need.now in
    let ls = c.deref.result.now in
    let start = c.saturating_sub-start.result in
    outer_again (said c.args.kept.now.items) n
    (subst (λ (xs : List (Bor Need)). LiesInOne n (said xs)) c.deref.ensures.value (lies_behind ls start (length ls - start) n (c.lies_in_one.ensures c.if-lies_in_one.true)))

pub returns-in-Some : goal.returns-in-Some
returns-in-Some c =
    let place = c.in-Some.place in
    outer_put c.args.kept.now.items place c.args.need
    (subst (λ (xs : List (Bor Need)). MatchOption (slice_get xs place) ⊥ (λ x. LiesIn x.now c.args.need.now)) c.as_slice.ensures.value c.in-Some.ensures)

pub returns-in_ok-push-in-None : goal.returns-in_ok-push-in-None
returns-in_ok-push-in-None c =
    let f : Bor Need → Need = λ n. n.now in
    let old = c.args.kept.now.items in
    outer_self (map f c.push.new.self.items) (map f old ++ c.args.need.now ∷ []) (ap (map f) c.in_ok-push-in-None.ensures.items ∙ map-append f old (c.args.need ∷ []))
