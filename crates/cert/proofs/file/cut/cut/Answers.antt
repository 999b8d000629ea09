use Rattle.std.proofs.Common.{List, ℕ, ◌+◌, length, take, drop, sym, ap, ◌∙◌, subst}
use Rattle.cert.specs.File.Cut.{IsCut}
use Rattle.cert.proofs.Cuts.{cut_before, cut_behind}
use Rattle.cert.proofs.file.cut.cut.Goals as goal

pub returns-in-Some : goal.returns-in-Some
returns-in-Some c =
    let text = c.args.text.now in
    let found = c.in-Some.ensures.cases in
    let split = c.split_at.ensures in
    let size = ap length (sym split.front) ∙ split.front_len in
    let made = cut_before text c.in-Some.at (drop found.0 text) c.if-starts_with.ensures.cases found.1.0 found.1.1.split size in
    subst (λ (front : List ℕ). IsCut text front c.split_at.result.1.now) (sym split.front) (subst (λ (back : List ℕ). IsCut text (take (c.in-Some.at + 1) text) back) (sym split.back) made)

pub returns-in-None : goal.returns-in-None
returns-in-None c = cut_behind c.args.text.now c.if-starts_with.ensures.cases c.in-None.ensures.cases
