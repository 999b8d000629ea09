use Rattle.std.proofs.Common.{◌≡◌, ◌∙◌, ◌+◌, ◌++◌, ◌∷◌, [], List, map, ap, sym, subst, Bor}
use Rattle.std.proofs.lemmas.List.{map-append}
use Rattle.plan.specs.declared.certificate.cert.Need.{Need}
use Rattle.shares.specs.Filed.{AreFiled}
use Rattle.shares.proofs.Filing.{row, filed_none, filed_more}
use Rattle.shares.proofs.filed.none_filed.Goals as goal

pub loop-init : goal.loop-init
loop-init c = filed_none (map row c.new-lists.result.items) (ap (map row) c.new-lists.ensures.items)

pub loop-preserved : goal.loop-preserved
loop-preserved c =
    let old = c.loop.lists.items in
    let path : map row c.push.new.self.items ≡ map row old ++ [] ∷ [] =
    ap (map row) c.in_ok-push.ensures.items ∙ map-append row old (c.new.result ∷ []) ∙ ap (λ (xs : List (Bor Need)). map row old ++ map (λ n. n.now) xs ∷ []) c.new.ensures.items in
    subst (AreFiled [] (c.loop.counter + 1)) (sym path) (filed_more c.loop.counter (map row old) c.loop.invariant)
