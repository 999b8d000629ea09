use Rattle.std.proofs.Common.{ap, ◌∙◌, List, ℕ, true, map, Option}
use Rattle.std.specs.Prelude.{◌&&◌, ◌||◌, ◌==◌, not}
use Rattle.std.specs.List.{list_any}
use Rattle.tree.specs.Term.{term_of}
use Rattle.algo.specs.View.{algorithm_of}
use Rattle.plan.specs.View.{coordinate_of}
use Rattle.soundness.specs.Outline.Flaws.{first_of}
use Rattle.soundness.specs.Outline.View.{certificate_in, group_in, outline_in, plan_in}
use Rattle.validation.specs.Stored.Definitions.{Definition, definition_in, parts_named}
use Rattle.validation.specs.Groups.Here.{here_of}
use Rattle.validation.specs.Groups.Lines.{line_flaws, definition_is_named, definition_is_stored}
use Rattle.validation.proofs.groups.lines.store_flaw.Goals as goal

pub returns : goal.returns
returns c =
    let a = algorithm_of c.args.ground.algo.now in
    let o = c.args.ground.outlined.now in
    let at = map coordinate_of c.args.coordinates.now in
    let e = term_of c.args.value.now in
    let b = c.args.buffer in
    let h = here_of c.args.ground.lines c.args.here.now true in
    let d = c.definition_of-defined.ensures ∙ ap (λ (n : List ℕ). definition_in (parts_named a n) c.args.definition) c.buffer_function.ensures in
    let named = c.store_is_named-named.ensures
    ∙ ap (λ (w : Option Definition). list_any (λ x. x == b) c.args.here.now.buffers.items && definition_is_named a (plan_in o) (certificate_in o) (group_in o) (outline_in o) w h b at e) d in
    let stored = c.in_ok-stored.ensures
    ∙ (λ i. not (c.store_is_small-small.ensures i) || definition_is_stored a (plan_in o) (certificate_in o) (group_in o) (outline_in o) (d i) at e) in
    c.line_flaw.ensures
    ∙ (λ i. first_of (line_flaws c.args.here.now.line (named i) (c.coordinates_are_within-within.ensures i) (stored i) (c.store_is_small-small.ensures i)))
