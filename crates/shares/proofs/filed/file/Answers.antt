use Rattle.std.proofs.Common.{◌≡◌, ◌∙◌, ◌<◌, ◌++◌, ◌∷◌, [], Some, length, map, ap, sym, subst, arith, set, Bor, Vec, Global}
use Rattle.std.specs.Prelude.{slice_get}
use Rattle.std.proofs.lemmas.List.{map-append, length-map}
use Rattle.plan.specs.declared.certificate.cert.Need.{Need}
use Rattle.shares.specs.Filed.{AreFiled}
use Rattle.shares.proofs.Groups.{get_mapped}
use Rattle.shares.proofs.Filing.{row, map_set, filed_here, filed_out}
use Rattle.shares.proofs.filed.file.Goals as goal

pub returns-in_ok-push : goal.returns-in_ok-push
returns-in_ok-push c groups ns filed =
    let lists = c.args.lists.now.items in
    let n : Need = c.args.need.now in
    let old = c.index_mut.result.now in
    let now = c.push.new.self in
    let all = c.len.ensures in
    let less : n.group < length lists = omega (arith, c.if-group-len.true, all) in
    let long = length-map lists row in
    let at : slice_get (map row lists) n.group ≡ Some (row old) = get_mapped row lists n.group old less ∙ ap (λ (v : Vec (Bor Need) Global). Some (row v)) (sym c.index_mut.ensures.value) in
    let more : row now ≡ row old ++ n ∷ [] = ap (map (λ (m : Bor Need). m.now)) c.in_ok-push.ensures.items ∙ map-append (λ (m : Bor Need). m.now) old.items (c.args.need ∷ []) in
    let path : map row (set lists n.group now) ≡ set (map row lists) n.group (row old ++ n ∷ []) = map_set row lists n.group now ∙ ap (set (map row lists) n.group) more in
    subst (AreFiled (ns ++ n ∷ []) groups) (sym path) (filed_here groups ns n (map row lists) (row old) (omega (arith, less, long)) at filed)

pub returns-else-group-len : goal.returns-else-group-len
returns-else-group-len c groups ns filed =
    let lists = c.args.lists.now.items in
    let n : Need = c.args.need.now in
    let all = c.len.ensures in
    let long = length-map lists row in
    filed_out groups ns n (map row lists) (omega (arith, c.if-group-len.false, all, long)) filed
