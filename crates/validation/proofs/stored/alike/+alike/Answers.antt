use Rattle.std.proofs.Common.{◌∙◌, ap, sym, Bool}
use Rattle.std.specs.Prelude.{◌&&◌}
use Rattle.soundness.specs.Outline.View.{outline_in}
use Rattle.meaning.specs.Names.{same_name}
use Rattle.validation.specs.Stored.Stored.{name_read}
use Rattle.validation.proofs.Calls.{read_call, uneven}
use Rattle.validation.proofs.stored.alike.+alike.Goals as goal

pub is_read_as-returns-then-is_name_read : goal.is_read_as-returns-then-is_name_read
is_read_as-returns-then-is_name_read t c =
    let p = c.in-Call-Call in
    let o = outline_in c.args.outlined.now in
    ap (λ (b : Bool). b && c.are_read_as.result) (sym c.if-is_name_read.true)
    ∙ read_call o c.args.expr.now c.args.other.now p.name p.known p.at p.by p.span-0 p.span-1 c.deref.result.now c.deref-then-is_name_read.result.now c.is_name_read.result c.are_read_as.result
    p.is-0 p.is-1
    (c.is_name_read.ensures
    ∙ (λ i. same_name (name_read o (o.source (c.as_str-in-Call-Call.ensures.value i)) (c.as_str-in-Call-Call.ensures.value i)) (c.as_str-in-Call-Call-2.ensures.value i)))
    c.deref.ensures.value c.deref-then-is_name_read.ensures.value c.are_read_as.ensures

pub are_read_as-returns-then-at-by : goal.are_read_as-returns-then-at-by
are_read_as-returns-then-at-by t c = uneven (outline_in c.args.outlined.now) c.args.at.now c.args.by.now c.if-at-by.true
