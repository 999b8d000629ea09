use Rattle.std.proofs.Common.{◌≡◌, ◌∙◌, ◌-◌, ◌++◌, ◌∷◌, [], ℕ, List, length, map, ap, sym, subst, take, drop, Bor}
use Rattle.std.specs.Prelude.{MatchOption, slice_get}
use Rattle.std.proofs.lemmas.List.{map-append}
use Rattle.plan.specs.declared.certificate.cert.Need.{Need}
use Rattle.shares.specs.Blocks.{LinesAreLimited}
use Rattle.shares.specs.Corners.{IsBetween}
use Rattle.shares.specs.Outer.{LiesAt, LiesAtOne}
use Rattle.shares.proofs.Blocking.{limited_behind, limited_last, limited_set, option_at}
use Rattle.shares.proofs.Keeping.{said, lies_behind, outer_again, outer_put, outer_self}
use Rattle.shares.proofs.Repeating.{at_self}
use Rattle.shares.proofs.outer.keep_outer.Goals as goal

pub lies_in_one-requires-clause-lines : goal.lies_in_one-requires-clause-lines
lies_in_one-requires-clause-lines c =
    let ls = c.deref.result.now in
    let start = c.saturating_sub-start.result in
    limited_behind ls start (length ls - start) (subst (λ (xs : List (Bor Need)). LinesAreLimited (said xs)) (sym c.deref.ensures.value) c.requires.kept)

pub place_within-requires-clause-lines : goal.place_within-requires-clause-lines
place_within-requires-clause-lines c = subst (λ (xs : List (Bor Need)). LinesAreLimited (said xs)) (sym c.as_slice.ensures.value) c.requires.kept

pub returns-then-lies_in_one-clause-outer : goal.returns-then-lies_in_one-clause-outer
returns-then-lies_in_one-clause-outer c at between =
    let n = c.args.need.now in
    let ls = c.deref.result.now in
    let start = c.saturating_sub-start.result in
    outer_again (LiesAt at) (at_self at) (said c.args.kept.now.items) n
    (subst (λ (xs : List (Bor Need)). LiesAtOne at n (said xs)) c.deref.ensures.value (lies_behind (LiesAt at) ls start (length ls - start) n (c.lies_in_one.ensures c.if-lies_in_one.true at between)))

pub returns-in-Some-clause-outer : goal.returns-in-Some-clause-outer
returns-in-Some-clause-outer c at between =
    let place = c.in-Some.place in
    outer_put (LiesAt at) (at_self at) c.args.kept.now.items place c.args.need
    (option_at (λ b. (at : List ℕ) → IsBetween c.args.low.now c.args.high.now at → LiesAt at b.now c.args.need.now) (λ b. LiesAt at b.now c.args.need.now) (λ b h. h at between) (slice_get c.args.kept.now.items place)
    (subst (λ (xs : List (Bor Need)). MatchOption (slice_get xs place) ⊥ (λ x. (at : List ℕ) → IsBetween c.args.low.now c.args.high.now at → LiesAt at x.now c.args.need.now)) c.as_slice.ensures.value c.in-Some.ensures))

pub returns-in-Some-clause-limits : goal.returns-in-Some-clause-limits
returns-in-Some-clause-limits c = limited_set c.args.kept.now.items c.in-Some.place c.args.need c.requires.kept c.requires.need

pub returns-in_ok-push-in-None-clause-outer : goal.returns-in_ok-push-in-None-clause-outer
returns-in_ok-push-in-None-clause-outer c at between =
    let f : Bor Need → Need = λ n. n.now in
    let old = c.args.kept.now.items in
    outer_self (LiesAt at) (at_self at) (map f c.push.new.self.items) (map f old ++ c.args.need.now ∷ []) (ap (map f) c.in_ok-push-in-None.ensures.items ∙ map-append f old (c.args.need ∷ []))

pub returns-in_ok-push-in-None-clause-limits : goal.returns-in_ok-push-in-None-clause-limits
returns-in_ok-push-in-None-clause-limits c = limited_last c.args.kept.now.items c.push.new.self.items c.args.need c.in_ok-push-in-None.ensures.items c.requires.kept c.requires.need
