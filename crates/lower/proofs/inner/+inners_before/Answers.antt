use Rattle.std.proofs.Common.{◌≡◌, List, Option, Some, None, length, map, refl, subst, arith}
use Rattle.std.specs.Prelude.{slice_get}
use Rattle.std.specs.Global.{Vec}
use Rattle.std.proofs.lemmas.Option.{slice_get_past, slice_get_read}
use Rattle.algo.specs.View.{algorithm_of}
use Rattle.sched.specs.declared.hosts.Inner.{Inner}
use Rattle.lower.specs.Computed.{AreComputed, inners_of}
use Rattle.sched.specs.Groups.{root_of}
use Rattle.lower.specs.Homes.{AreAt}
use Rattle.sched.specs.Placed.{PlacedText, inner_seen}
use Rattle.lower.proofs.Along.{found_missing, found_more, none_more, limit_told}
use Rattle.lower.proofs.Hosts.{more_at_home}
use Rattle.lower.proofs.inner.+inners_before.Goals as goal

pub inners_before-requires : goal.inners_before-requires
inners_before-requires t c = (omega (arith, c.decreases, c.in-Some.ensures), c.requires)

pub inners_before-requires-in-Ok : goal.inners_before-requires-in-Ok
inners_before-requires-in-Ok t c =
    let e = root_of c.args.group.now in
    let es = map root_of c.args.functions.now in
    let found = c.in-Ok.found.items in
    let at : AreAt e es (map inner_seen c.args.inners.items) (map inner_seen found) =
    subst (λ (l : List Inner). AreAt e es (map inner_seen l) (map inner_seen found)) c.deref.ensures.value c.in-Ok.ensures.at in
    (omega (arith, c.decreases, c.in-Some.ensures), more_at_home e es c.args.inners.items found c.append.new.self.items c.requires at c.in_ok-append-in-Ok.ensures.items)

pub returns-in_default-get-clause-found : goal.returns-in_default-get-clause-found
returns-in_default-get-clause-found t c =
    let functions = c.args.functions.now in
    let last = c.in-Some.last in
    none_more (algorithm_of c.args.algo.now) (root_of c.args.group.now) functions c.args.count last c.args.inners.items c.in_ok-inners_before.field-0
    (omega (arith, c.in-Some.ensures)) (slice_get_past functions last c.in_default-get.ensures.lookup.3) c.in_ok-inners_before.ensures.found

pub found_inside-requires : goal.found_inside-requires
found_inside-requires t c =
    let functions = c.args.functions.now in
    slice_get_read functions (length functions) c.in-Some.last c.in-Some-get.root.now refl c.in-Some-get.ensures.lookup.3.0 c.in-Some-get.ensures.lookup.1

pub returns-in-Ok-clause-found : goal.returns-in-Ok-clause-found
returns-in-Ok-clause-found t c =
    let a = algorithm_of c.args.algo.now in
    let e = root_of c.args.group.now in
    let functions = c.args.functions.now in
    let last = c.in-Some.last in
    let root = c.in-Some-get.root.now in
    let found = c.in-Ok.found.items in
    let some : slice_get functions last ≡ Some root =
    slice_get_read functions (length functions) last root refl c.in-Some-get.ensures.lookup.3.0 c.in-Some-get.ensures.lookup.1 in
    let these : AreComputed a e (map root_of functions) (map inner_seen c.args.inners.items) (root_of root) (map inner_seen found) =
    subst (λ (l : List Inner). AreComputed a e (map root_of functions) (map inner_seen l) (root_of root) (map inner_seen found)) c.deref.ensures.value c.in-Ok.ensures.computed in
    found_more a e functions c.args.count last c.args.inners.items root found c.append.new.self.items c.in_ok-inners_before-in-Ok.field-0 (omega (arith, c.in-Some.ensures)) some
    these c.in_ok-append-in-Ok.ensures.items c.in_ok-inners_before-in-Ok.ensures.found

pub returns-in-Err-Limit-clause-found : goal.returns-in-Err-Limit-clause-found
returns-in-Err-Limit-clause-found t c =
    let functions = c.args.functions.now in
    let last = c.in-Some.last in
    let root = c.in-Some-get.root.now in
    let some : slice_get functions last ≡ Some root =
    slice_get_read functions (length functions) last root refl c.in-Some-get.ensures.lookup.3.0 c.in-Some-get.ensures.lookup.1 in
    let a = algorithm_of c.args.algo.now in
    let e = root_of c.args.group.now in
    let computed : List Inner → Option (List PlacedText) = λ l. inners_of a e (map root_of functions) (map inner_seen l) (root_of root) in
    let told : computed c.deref.result.now ≡ None =
    limit_told (λ (v : Vec Inner). map inner_seen v.items) c.in-Err-Limit.field-0 (computed c.deref.result.now) c.in-Err-Limit.field-0-is c.in-Err-Limit.ensures.told in
    let none : computed c.args.inners.items ≡ None = subst (λ (l : List Inner). computed l ≡ None) c.deref.ensures.value told in
    found_missing a e functions c.args.count last c.args.inners.items root (root_of root).0.subject.name (omega (arith, c.in-Some.ensures)) some refl none
