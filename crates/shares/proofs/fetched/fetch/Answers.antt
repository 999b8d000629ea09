use Rattle.std.proofs.Common.{◌≡◌, ◌∙◌, subst, ◌++◌, ℕ, List, sym, ap, arith, length, map}
use Rattle.std.specs.Prelude.{IsTrue, slice_get, ℤ, filter}
use Rattle.std.proofs.lemmas.List.{length-map}
use Rattle.plan.specs.Symbols.{points}
use Rattle.plan.specs.View.{plan_of}
use Rattle.plan.specs.Certificate.Cells.{grid_symbols, cell}
use Rattle.shares.specs.Boxes.{is_in_box}
use Rattle.shares.specs.Shared.{IsLike}
use Rattle.shares.specs.Spaces.{numbers_in, HasAll}
use Rattle.shares.specs.declared.lets.Naming.{Naming as Held}
use Rattle.shares.specs.declared.forms.Value.{Value}
use Rattle.shares.specs.Lets.{AreNear, NamingsAreLimited, ValuesAreSmall, named, namings_of, symbols_at}
use Rattle.plan.specs.Symbols.{Symbols}
use Rattle.shares.proofs.Seated.{named_group, ground_within, ground_at, cells_at, all_at}
use Rattle.std.proofs.lemmas.Bool.{false≢true}
use Rattle.std.proofs.lemmas.List.Elements.{recursion_from_All}
use Rattle.headline.specs.Numbers.{cell_number}
use Rattle.shares.proofs.Shared.{all_filtered}
use Rattle.shares.proofs.fetched.fetch.Goals as goal

pub index-ground-requires : goal.index-ground-requires
index-ground-requires c =
    let x = c.args.layout.now in
    let k = named_group (slice_get (plan_of x.plan.now).groups c.args.line.now.fetched) (λ g. IsLike c.args.line.now.region.now (length g.region)) c.requires.line.stands.region in
    let less = ground_within x c.requires.layout c.args.line.now.fetched k.0 k.1 in
    omega (arith, less, x.grounds.ok.0)

pub values_at-requires-clause-limits : goal.values_at-requires-clause-limits
values_at-requires-clause-limits c = subst (λ (ks : List Held). NamingsAreLimited (namings_of ks)) (sym c.deref.ensures.value) c.requires.line.stands.lets

pub values_at-requires-clause-near : goal.values_at-requires-clause-near
values_at-requires-clause-near c = subst (λ (ks : List Held). AreNear (namings_of ks) (grid_symbols c.args.at.now)) (sym c.deref.ensures.value) c.requires.line.near

pub found_by-requires-clause-lets : goal.found_by-requires-clause-lets
found_by-requires-clause-lets c = subst ValuesAreSmall (sym c.deref-2.ensures.value) c.in_ok-values.ensures.small

pub found_by-requires-clause-space : goal.found_by-requires-clause-space
found_by-requires-clause-space c =
    let x = c.args.layout.now in
    let k = named_group (slice_get (plan_of x.plan.now).groups c.args.line.now.fetched) (λ g. IsLike c.args.line.now.region.now (length g.region)) c.requires.line.stands.region in
    (ground_at x c.requires.layout c.args.line.now.fetched k.0 k.1 c.index-ground.result.now c.index-ground.ensures).cells

pub found_by-requires-clause-limits : goal.found_by-requires-clause-limits
found_by-requires-clause-limits c =
    let x = c.args.layout.now in
    let k = named_group (slice_get (plan_of x.plan.now).groups c.args.line.now.fetched) (λ g. IsLike c.args.line.now.region.now (length g.region)) c.requires.line.stands.region in
    k.2.0

pub found_by-requires-clause-dimensions : goal.found_by-requires-clause-dimensions
found_by-requires-clause-dimensions c =
    let x = c.args.layout.now in
    let k = named_group (slice_get (plan_of x.plan.now).groups c.args.line.now.fetched) (λ g. IsLike c.args.line.now.region.now (length g.region)) c.requires.line.stands.region in
    let known = ground_at x c.requires.layout c.args.line.now.fetched k.0 k.1 c.index-ground.result.now c.index-ground.ensures in
    k.2.1 ∙ sym (length-map k.0.region _) ∙ ap length (sym known.cell_sides)

pub returns-then-not-found-clause-unserved : goal.returns-then-not-found-clause-unserved
returns-then-not-found-clause-unserved c _ all =
    let x = c.args.layout.now in
    let h = c.args.line.now.fetched in
    let y = c.index-ground.result.now in
    let k = named_group (slice_get (plan_of x.plan.now).groups h) (λ g. IsLike c.args.line.now.region.now (length g.region)) c.requires.line.stands.region in
    let region = c.args.line.now.region.now in
    let qs = points (named (namings_of c.args.line.now.lets.items) (grid_symbols c.args.at.now)) region in
    let read : points (symbols_at c.args.at.now c.deref-2.result.now) region ≡ qs =
    ap (λ (vs : List Value). points (symbols_at c.args.at.now vs) region) c.deref-2.ensures.value ∙ ap (λ (s : Symbols). points s region) c.in_ok-values.ensures.symbols
    ∙ ap (λ (ks : List Held). points (named (namings_of ks) (grid_symbols c.args.at.now)) region) c.deref.ensures.value in
    let both = all_at x c.requires.layout h k.0 k.1 y c.index-ground.ensures qs in
    false≢true (sym c.if-not-found.true ∙ c.in_ok-found.ensures.whole.1 (subst (HasAll y.cells) (sym read) (both.1 all)))

pub returns-then-as_slice-room-clause-large : goal.returns-then-as_slice-room-clause-large
returns-then-as_slice-room-clause-large c _ =
    let x = c.args.layout.now in
    let h = c.args.line.now.fetched in
    let y = c.index-ground.result.now in
    let k = named_group (slice_get (plan_of x.plan.now).groups h) (λ g. IsLike c.args.line.now.region.now (length g.region)) c.requires.line.stands.region in
    let region = c.args.line.now.region.now in
    let qs = points (named (namings_of c.args.line.now.lets.items) (grid_symbols c.args.at.now)) region in
    let read : points (symbols_at c.args.at.now c.deref-2.result.now) region ≡ qs =
    ap (λ (vs : List Value). points (symbols_at c.args.at.now vs) region) c.deref-2.ensures.value ∙ ap (λ (s : Symbols). points s region) c.in_ok-values.ensures.symbols
    ∙ ap (λ (ks : List Held). points (named (namings_of ks) (grid_symbols c.args.at.now)) region) c.deref.ensures.value in
    let both = all_at x c.requires.layout h k.0 k.1 y c.index-ground.ensures qs in
    let whole = subst (HasAll y.cells) read (c.in_ok-found.ensures.whole.0 c.if-not-found.false) in
    let R = y.cells.sides.items in
    let kept = c.in_ok-found.ensures.numbers ∙ ap (λ (ps : List (List ℤ)). numbers_in y.cells (filter (is_in_box R) ps)) read ∙ ap (numbers_in y.cells) (all_filtered (is_in_box R) qs (recursion_from_All (λ (q : List ℤ). IsTrue (is_in_box R q)) qs whole)) in
    let long = ap length (kept ∙ cells_at x c.requires.layout h k.0 k.1 y c.index-ground.ensures qs) in
    let cells = length-map (map (cell h) qs) (cell_number (plan_of x.plan.now)) in
    let one = ap length c.as_slice.ensures.value in
    let two = ap length c.as_slice-2.ensures.value in
    let room = c.requires.room in
    omega (arith, c.if-as_slice-room.true, long, cells, one, two, room)

pub returns-clause-cells : goal.returns-clause-cells
returns-clause-cells c =
    let x = c.args.layout.now in
    let h = c.args.line.now.fetched in
    let y = c.index-ground.result.now in
    let k = named_group (slice_get (plan_of x.plan.now).groups h) (λ g. IsLike c.args.line.now.region.now (length g.region)) c.requires.line.stands.region in
    let region = c.args.line.now.region.now in
    let qs = points (named (namings_of c.args.line.now.lets.items) (grid_symbols c.args.at.now)) region in
    let read : points (symbols_at c.args.at.now c.deref-2.result.now) region ≡ qs =
    ap (λ (vs : List Value). points (symbols_at c.args.at.now vs) region) c.deref-2.ensures.value ∙ ap (λ (s : Symbols). points s region) c.in_ok-values.ensures.symbols
    ∙ ap (λ (ks : List Held). points (named (namings_of ks) (grid_symbols c.args.at.now)) region) c.deref.ensures.value in
    let both = all_at x c.requires.layout h k.0 k.1 y c.index-ground.ensures qs in
    let whole = subst (HasAll y.cells) read (c.in_ok-found.ensures.whole.0 c.if-not-found.false) in
    let R = y.cells.sides.items in
    let kept = c.in_ok-found.ensures.numbers ∙ ap (λ (ps : List (List ℤ)). numbers_in y.cells (filter (is_in_box R) ps)) read ∙ ap (numbers_in y.cells) (all_filtered (is_in_box R) qs (recursion_from_All (λ (q : List ℤ). IsTrue (is_in_box R q)) qs whole)) in
    c.in_ok-push_all.ensures ∙ ap (λ (ns : List ℕ). c.args.fetched.now.items ++ ns) (c.deref-3.ensures.value ∙ kept ∙ cells_at x c.requires.layout h k.0 k.1 y c.index-ground.ensures qs)

pub returns-clause-known : goal.returns-clause-known
returns-clause-known c =
    let x = c.args.layout.now in
    let h = c.args.line.now.fetched in
    let y = c.index-ground.result.now in
    let k = named_group (slice_get (plan_of x.plan.now).groups h) (λ g. IsLike c.args.line.now.region.now (length g.region)) c.requires.line.stands.region in
    let region = c.args.line.now.region.now in
    let qs = points (named (namings_of c.args.line.now.lets.items) (grid_symbols c.args.at.now)) region in
    let read : points (symbols_at c.args.at.now c.deref-2.result.now) region ≡ qs =
    ap (λ (vs : List Value). points (symbols_at c.args.at.now vs) region) c.deref-2.ensures.value ∙ ap (λ (s : Symbols). points s region) c.in_ok-values.ensures.symbols
    ∙ ap (λ (ks : List Held). points (named (namings_of ks) (grid_symbols c.args.at.now)) region) c.deref.ensures.value in
    let both = all_at x c.requires.layout h k.0 k.1 y c.index-ground.ensures qs in
    both.0 (subst (HasAll y.cells) read (c.in_ok-found.ensures.whole.0 c.if-not-found.false))
