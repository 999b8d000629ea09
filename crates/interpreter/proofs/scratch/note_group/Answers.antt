use Rattle.std.proofs.Common.{◌≡◌, ◌++◌, List, sym, ap, ◌∙◌, arith}
use Rattle.std.proofs.lemmas.List.{append-nil}
use Rattle.plan.specs.View.{statement_of}
use Rattle.plan.specs.declared.certificate.cert.Own.{Own}
use Rattle.plan.specs.Certificate.Certificate.{certificate_of}
use Rattle.plan.specs.Certificate.Cells.{own_region}
use Rattle.interpreter.specs.declared.buffers.limit.Limit.{Limit}
use Rattle.interpreter.specs.Needs.{allotments, own_count, region_count}
use Rattle.interpreter.proofs.scratch.note_group.Goals as goal

pub returns : goal.returns
returns c =
    let body = statement_of c.args.group.now.body in
    let n = c.args.number in
    let owned : own_count (certificate_of c.args.cert.now) n ≡ c.own_count.result = ap (λ (os : List Own). region_count (own_region os n)) (sym c.deref.ensures.value) ∙ sym c.own_count.ensures in
    let reached = c.in_ok-reach.ensures in
    let noted = c.in_ok-note_needs.ensures in
    record {
      limits = noted.limits ∙ ap (λ (ls : List Limit). ls ++ allotments body) (reached.limits ∙ append-nil c.args.needs.now.limits.items);
      symbols = (let a = reached.symbols in let b = noted.symbols in omega (arith, a, b));
      coordinates = (let a = reached.coordinates in let b = noted.coordinates in omega (arith, a, b, owned));
      indices = (let a = reached.indices in let b = noted.indices in omega (arith, a, b));
      short = noted.fact;
    }
