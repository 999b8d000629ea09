use Rattle.std.proofs.Common.{◌≡◌, ℕ, ◌+◌, ◌*◌, ◌<◌, ◌^◌, length, get_or, drop, arith, sym, ap, ◌∙◌, drop-cons, add-one, lit<, refl}
use Rattle.std.specs.Prelude.{ℤ, pos, ◌*ℤ◌, List}
use Rattle.std.proofs.lemmas.Int.{to_z-of_z}
use Rattle.lin.specs.declared.form.Multiple.{Multiple}
use Rattle.lin.specs.Forms.{plus_terms, plus_term, IsWithin, AreWithin}
use Rattle.lin.proofs.TermLemmas.{element_within_or, plus_term-within, all_weaker}
use Rattle.lin.proofs.Machine.{product_within, within_fits, product_bits}
use Rattle.lin.proofs.terms.plus_terms.Goals as goal
use mir.Val.{to_z, of_z}
use mir.Syntax.{w64}

abbrev none : Multiple
none = record { symbol = 0; factor = pos 0 }

plus_terms-next : (ts : List Multiple) (k : ℤ) (us : List Multiple) (i : ℕ) (d : Multiple) → i < length us
    → plus_terms ts k (drop i us) ≡ plus_terms (plus_term ts (record { symbol = (get_or us i d).symbol; factor = k *ℤ (get_or us i d).factor })) k (drop (i + 1) us)
plus_terms-next ts k us i d h = rw (drop-cons us i d h, add-one) refl

small_element : (ts : List Multiple) (p : ℕ) → AreWithin (2 ^ 20) ts → p < length ts → IsWithin (2 ^ 20) (get_or ts p (record { symbol = 0; factor = pos 0 })).factor
small_element ts p h l = element_within_or (2 ^ 20) ts p (record { symbol = 0; factor = pos 0 }) h l

small_product : (factor : ℤ) (ts : List Multiple) (p : ℕ) → IsWithin (2 ^ 21) factor → AreWithin (2 ^ 20) ts → p < length ts → IsWithin (2 ^ 41) (factor *ℤ (get_or ts p (record { symbol = 0; factor = pos 0 })).factor)
small_product factor ts p f h l = product_within (2 ^ 21) (2 ^ 20) factor _ f (small_element ts p h l)

product_is : (factor : ℤ) (ts : List Multiple) (p : ℕ) → IsWithin (2 ^ 21) factor → AreWithin (2 ^ 20) ts → p < length ts
    → to_z w64 (of_z w64 (to_z w64 (of_z w64 factor) *ℤ to_z w64 (of_z w64 (get_or ts p (record { symbol = 0; factor = pos 0 })).factor))) ≡ factor *ℤ (get_or ts p (record { symbol = 0; factor = pos 0 })).factor
product_is factor ts p f h l =
    product_bits factor _ (within_fits (2 ^ 21) factor f (lit< tt)) (within_fits (2 ^ 20) _ (small_element ts p h l) (lit< tt)) (within_fits (2 ^ 41) _ (small_product factor ts p f h l) (lit< tt))

pub overflow_mul-factor : goal.overflow_mul-factor
overflow_mul-factor c =
    let below : c.loop-term.term-index < length c.args.others.now = omega arith in
    let product = small_product c.args.factor c.args.others.now c.loop-term.term-index c.requires.factor c.requires.small below in
    rw (to_z-of_z w64 c.args.factor (within_fits (2 ^ 21) _ c.requires.factor (lit< tt)), to_z-of_z w64 _ (within_fits (2 ^ 20) _ (small_element c.args.others.now c.loop-term.term-index c.requires.small below) (lit< tt)))
    (within_fits (2 ^ 41) _ product (lit< tt))

pub add_term-requires-clause-room : goal.add_term-requires-clause-room
add_term-requires-clause-room c =
    let few : c.loop-term.term-index < 8 = omega arith in
    all_weaker (λ (t : Multiple). IsWithin (2 ^ 20 + c.loop-term.term-index * 2 ^ 41) t.factor) (λ (t : Multiple). IsWithin (2 ^ 62) t.factor) (λ t h. omega arith) _ c.loop-term.invariant.room

pub add_term-requires-clause-small : goal.add_term-requires-clause-small
add_term-requires-clause-small c =
    let below : c.loop-term.term-index < length c.args.others.now = omega arith in
    let product = small_product c.args.factor c.args.others.now c.loop-term.term-index c.requires.factor c.requires.small below in
    rw (product_is c.args.factor c.args.others.now c.loop-term.term-index c.requires.factor c.requires.small below) (omega (arith, product))

pub loop-term-preserved : goal.loop-term-preserved
loop-term-preserved c =
    let below : c.loop-term.term-index < length c.args.others.now = omega arith in
    let product = small_product c.args.factor c.args.others.now c.loop-term.term-index c.requires.factor c.requires.small below in
    let e = product_is c.args.factor c.args.others.now c.loop-term.term-index c.requires.factor c.requires.small below in
    let factor : to_z w64 (of_z w64 c.args.factor) ≡ c.args.factor = to_z-of_z w64 c.args.factor (within_fits (2 ^ 21) _ c.requires.factor (lit< tt)) in
    let pushed = rw e at c.in_ok-add_term.ensures in
    record {
      rest = rw factor ((rw factor at c.loop-term.invariant.rest) ∙ plus_terms-next c.loop-term.sum.items c.args.factor c.args.others.now c.loop-term.term-index none below
          ∙ ap (λ (r : List Multiple). plus_terms r c.args.factor (drop (c.loop-term.term-index + 1) c.args.others.now)) (sym pushed));
      room = rw pushed (let count : 2 ^ 20 + (c.loop-term.term-index + 1) * 2 ^ 41 ≡ 2 ^ 20 + c.loop-term.term-index * 2 ^ 41 + 2 ^ 41 = omega arith in
          rw count (plus_term-within (2 ^ 20 + c.loop-term.term-index * 2 ^ 41) (2 ^ 41) c.loop-term.sum.items _ c.loop-term.invariant.room product));
    }
