use Rattle.std.proofs.Common.{◌≡◌, ◌∙◌, ◌++◌, ◌∷◌, [], ℕ, List, true, map, ap, refl, sym, subst, Bor, Err}
use Rattle.std.proofs.lemmas.List.{map-append}
use Rattle.plan.specs.Plan.{Plan}
use Rattle.plan.specs.View.{plan_of}
use Rattle.plan.specs.declared.certificate.cert.Need.{Need}
use Rattle.shares.specs.Gathered.{AreGathered, is_fixed}
use Rattle.shares.specs.Seats.{piece_of}
use Rattle.shares.proofs.Gathering.{line_kept, line_named}
use Rattle.shares.proofs.gathered.gather.Goals as goal

pub returns-then-not-is_fixed : goal.returns-then-not-is_fixed
returns-then-not-is_fixed c ns h =
    let p : Plan = plan_of c.args.layout.now.plan.now in
    let g = c.args.seat.now.group in
    let n : Need = c.args.need.now in
    let f : Bor Need → Need = λ m. m.now in
    let old = c.args.moving.now.items in
    let numbers = c.args.numbers.now.items in
    let path : map f c.push.new.self.items ≡ map f old ++ n ∷ [] = ap (map f) c.in_ok-push.ensures.items ∙ map-append f old (c.args.need ∷ []) in
    subst (AreGathered p g (ns ++ n ∷ []) numbers) (sym path) (line_kept p g ns numbers (map f old) h n c.requires.group c.requires.need)

pub returns-in-Ok : goal.returns-in-Ok
returns-in-Ok c ns h =
    let p : Plan = plan_of c.args.layout.now.plan.now in
    let g = c.args.seat.now.group in
    let n : Need = c.args.need.now in
    let f : Bor Need → Need = λ m. m.now in
    let moving = map f c.args.moving.now.items in
    let fixed : is_fixed n.region ≡ true = sym (ap is_fixed c.as_slice.ensures) ∙ sym c.is_fixed.ensures ∙ c.if-not-is_fixed.false in
    subst (λ (numbers : List ℕ). AreGathered p g (ns ++ n ∷ []) numbers moving) (sym c.in-Ok.ensures.numbers)
    (line_named p g ns c.args.numbers.now.items moving h n c.requires.group (piece_of c.args.seat.now) refl fixed c.in-Ok.ensures.known)

pub returns-in_ok-push-in-Err-Unserved : goal.returns-in_ok-push-in-Err-Unserved
returns-in_ok-push-in-Err-Unserved c ns h =
    let p : Plan = plan_of c.args.layout.now.plan.now in
    let g = c.args.seat.now.group in
    let n : Need = c.args.need.now in
    let f : Bor Need → Need = λ m. m.now in
    let old = c.args.moving.now.items in
    let kept : c.need_line.new.needed.items ≡ c.args.numbers.now.items = c.need_line.ensures.kept (c.in-Err-Unserved.is ∙ ap Err c.in-Err-Unserved.field-0-is) in
    let path : map f c.push-in-Err-Unserved.new.self.items ≡ map f old ++ n ∷ [] = ap (map f) c.in_ok-push-in-Err-Unserved.ensures.items ∙ map-append f old (c.args.need ∷ []) in
    subst (λ (numbers : List ℕ). AreGathered p g (ns ++ n ∷ []) numbers (map f c.push-in-Err-Unserved.new.self.items)) (sym kept)
    (subst (AreGathered p g (ns ++ n ∷ []) c.args.numbers.now.items) (sym path) (line_kept p g ns c.args.numbers.now.items (map f old) h n c.requires.group c.requires.need))
